-- A replay round by round of an input that is a file never ends in status 1, and none in status 2.
use Rattle.std.proofs.Common.{◌≡◌, ◌≢◌, ℕ, List, Option, Some, None, IfSome, arith, sym, ◌∙◌}
use Rattle.std.specs.Prelude.{IfErr, MatchResult, Result, Ok, Err}
use Rattle.sip_files.specs.declared.version.FileKind.{FileKind}
use Rattle.sip_files.specs.declared.events_fault.EventsFault.{EventsFault}
use Rattle.sip_files.specs.declared.events_fault.EventsFault.TheVariants as events_fault
use Rattle.sip_files.specs.declared.lines_fault.LinesFault.{LinesFault}
use Rattle.sip_files.specs.declared.lines_fault.LinesFault.TheVariants as lines_fault
use Rattle.sip_round.specs.declared.config.Config.{Config}
use Rattle.sip_round.specs.declared.round.Round.{Round}
use Rattle.sip_round.specs.declared.round_fault.RoundFault.{RoundFault}
use Rattle.sip_round.specs.declared.round_fault.RoundFault.TheVariants as round_fault
use Rattle.sip_stream.specs.Streams.{ComesOnly, IsStream, MayCome}
use Rattle.sip_stream.specs.declared.stream_fault.StreamFault.{StreamFault}
use Rattle.sip_stream.specs.declared.stream_fault.StreamFault.TheVariants as fault
use Rattle.sip_ua.specs.EventsStatus.{events_status}
use Rattle.sip_ua.specs.RoundStatus.{round_status}
use Rattle.sip_ua.specs.StreamStatus.{lines_status, stream_status}
use Rattle.sip_ua.proofs.NoFile.{a_round, five, four, zero}

by_fault : (config : Config) (rounds : List Round) (given : StreamFault) (status : ℕ)
    → status ≡ stream_status given → MayCome config rounds given → status ≢ 1
by_fault config rounds fault.Input status ends comes = λ one. four status ends one
by_fault config rounds (fault.Head given) status ends comes = elim comes [ ]
by_fault config rounds (fault.Lines at given) status ends comes = elim comes [ ]
by_fault config rounds (fault.Round at given) status ends comes = λ one.
    a_round given status ends one
by_fault config rounds fault.Output status ends comes = λ one. four status ends one
by_fault config rounds fault.NoMemory status ends comes = λ one. five status ends one

pub never_1 : (kind : FileKind) (known : Option (List ℕ))
    (end : Result (Unit {0}) StreamFault) (status : ℕ)
    → MatchResult end (λ done. status ≡ 0) (λ given. status ≡ stream_status given)
    → IfErr end (λ given. IfSome known (ComesOnly kind given))
    → IfSome known (λ input. (config : Config) (rounds : List Round)
    → IsStream kind config rounds input → status ≢ 1)
never_1 kind None end status ends only = tt
never_1 kind (Some input) (Ok done) status ends only = λ config rounds s one. zero status ends one
never_1 kind (Some input) (Err given) status ends only = λ config rounds s.
    by_fault config rounds given status ends (only config rounds s)

not_2 : (n status : ℕ) → status ≡ n → n ≢ 2 → status ≢ 2
not_2 n status ends other = λ two. other (sym ends ∙ two)

events_not_2 : (given : EventsFault) → events_status given ≢ 2
events_not_2 events_fault.TooLong = λ two. omega arith
events_not_2 events_fault.BadVersion = λ two. omega arith
events_not_2 (events_fault.BadLine line) = λ two. omega arith
events_not_2 events_fault.NoMemory = λ two. omega arith

lines_not_2 : (given : LinesFault) → lines_status given ≢ 2
lines_not_2 lines_fault.TooLong = λ two. omega arith
lines_not_2 (lines_fault.BadLine number) = λ two. omega arith
lines_not_2 lines_fault.NotOne = λ two. omega arith
lines_not_2 lines_fault.NoMemory = λ two. omega arith

round_not_2 : (given : RoundFault) → round_status given ≢ 2
round_not_2 round_fault.Broken = λ two. omega arith
round_not_2 round_fault.MomentBackwards = λ two. omega arith
round_not_2 round_fault.MomentTooLarge = λ two. omega arith
round_not_2 round_fault.TooManyEvents = λ two. omega arith
round_not_2 round_fault.RoundsUsedUp = λ two. omega arith
round_not_2 (round_fault.NoMemory broken) = λ two. omega arith

stream_not_2 : (given : StreamFault) → stream_status given ≢ 2
stream_not_2 fault.Input = λ two. omega arith
stream_not_2 (fault.Head given) = events_not_2 given
stream_not_2 (fault.Lines at given) = lines_not_2 given
stream_not_2 (fault.Round at given) = round_not_2 given
stream_not_2 fault.Output = λ two. omega arith
stream_not_2 fault.NoMemory = λ two. omega arith

pub never_2 : (end : Result (Unit {0}) StreamFault) (status : ℕ)
    → MatchResult end (λ done. status ≡ 0) (λ given. status ≡ stream_status given) → status ≢ 2
never_2 (Ok done) status ends = not_2 0 status ends (λ two. omega arith)
never_2 (Err given) status ends = not_2 (stream_status given) status ends (stream_not_2 given)
