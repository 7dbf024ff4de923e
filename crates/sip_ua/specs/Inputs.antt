-- What the statuses 1 and 3 of a replay say about its input.
use Rattle.std.specs.Prelude.{◌≡◌, ℕ, List}
use Rattle.sip_files.specs.declared.version.FileKind.{FileKind}
use Rattle.sip_files.specs.EventFile.{TellsFault}
use Rattle.sip_files.specs.Replay.{RefusesRound}
use Rattle.sip_files.specs.declared.events_fault.EventsFault.{EventsFault}
use Rattle.sip_round.specs.declared.round_fault.RoundFault.{RoundFault}
use Rattle.sip_ua.specs.EventsStatus.{events_status}

-- some fault of a text that isn't a file of the kind fits it; running out of memory isn't one
abbrev pub IsNoFile : FileKind → List ℕ → Type 0
IsNoFile kind text = (fault : EventsFault) × (events_status fault ≡ 1) × TellsFault kind fault text

-- one of its rounds is the first that is refused
abbrev pub HasRefusedRound : FileKind → List ℕ → Type 0
HasRefusedRound kind text =
    (index : ℕ) × (fault : RoundFault) × RefusesRound kind index fault text
