-- What a replay writes for what it reads, and what each of its faults tells.
use Rattle.std.specs.Prelude.{◌≡◌, ℕ, ◌<◌, ◌≤◌, ◌^◌, Bool, List, ◌++◌, map, length, Option, None, Some, Result, Ok, Err, ◌⊎◌}
use Rattle.std.specs.List.{zip}
use Rattle.std.specs.Io.KnownBytes.{Appends}
use Rattle.sip_files.specs.declared.events_fault.EventsFault.TheVariants.{TooLong}
use Rattle.sip_files.specs.declared.version.FileKind.{FileKind}
use Rattle.sip_files.specs.EventFile.{SpellsFile, TellsFault}
use Rattle.sip_files.specs.Outputs.{outputs_text}
use Rattle.sip_round.specs.declared.config.Config.{Config}
use Rattle.sip_round.specs.declared.round.Round as round
use Rattle.sip_round.specs.declared.round_fault.RoundFault.{RoundFault}
use Rattle.sip_round.specs.declared.round_fault.RoundFault.TheVariants as round_fault
use Rattle.sip_files.specs.declared.file_replay.ReplayFault.{ReplayFault}
use Rattle.sip_files.specs.declared.file_replay.ReplayFault.TheVariants.{Input, Events, Round, Output, NoMemory}
use Rattle.sip_round.specs.Answers.{answers, refused, EndsWithoutMemory}

-- the output file of the rounds: the moment of each with its answer
unfoldable pub answer_file : Config → List round.Round → List ℕ
answer_file config rounds =
    outputs_text (zip (map (λ round. round.moment) rounds) (answers config rounds))

-- the input is a file of the kind, none of its rounds is refused, and this is the output file of
-- its rounds
pub record Replays (kind : FileKind) (input output : List ℕ) : Type 0 where
  pub config : Config
  pub rounds : List round.Round
  pub spelled : SpellsFile kind config rounds input
  pub size : length input ≤ 2 ^ 26
  pub unrefused : refused config rounds ≡ None
  pub answered : output ≡ answer_file config rounds

-- the input is a file of the kind, and the first of its rounds that is refused has this index and
-- this fault
pub record RefusesRound (kind : FileKind) (index : ℕ) (fault : RoundFault) (input : List ℕ) :
    Type 0 where
  pub config : Config
  pub rounds : List round.Round
  pub spelled : SpellsFile kind config rounds input
  pub size : length input ≤ 2 ^ 26
  pub refuses : refused config rounds ≡ Some (index, fault)

-- the input is a file of the kind, and memory may run out in its rounds, at this index
pub record RunsOutOfMemory (kind : FileKind) (index : ℕ) (broken : Bool) (input : List ℕ) :
    Type 0 where
  pub config : Config
  pub rounds : List round.Round
  pub spelled : SpellsFile kind config rounds input
  pub size : length input ≤ 2 ^ 26
  pub ends : EndsWithoutMemory config rounds index broken

-- what a fault says about the input; a failed stream and lack of memory say nothing
abbrev pub TellsReplay : FileKind → ReplayFault → List ℕ → Type 0
TellsReplay kind Input input = Unit {0}
TellsReplay kind (Events fault) input = TellsFault kind fault input
TellsReplay kind (Round index fault) input =
    ((broken : Bool) × (fault ≡ round_fault.NoMemory broken)
    × RunsOutOfMemory kind index broken input)
    ⊎ RefusesRound kind index fault input
TellsReplay kind Output input = Unit {0}
TellsReplay kind NoMemory input = Unit {0}

-- what a fault tells of a text that was only read: one that isn't of a stream or of memory, that it
-- is too long
abbrev pub TellsRead : ReplayFault → List ℕ → Type 0
TellsRead Input text = Unit {0}
TellsRead (Events fault) text = (fault ≡ TooLong) × (2 ^ 26 < length text)
TellsRead (Round index fault) text = ⊥
TellsRead Output text = ⊥
TellsRead NoMemory text = Unit {0}

-- how many reads failed in a call that ends so: one where it tells it, and else none
abbrev pub input_failures : {T : Type 0} → Result T ReplayFault → ℕ
input_failures (Ok value) = 0
input_failures (Err Input) = 1
input_failures (Err (Events fault)) = 0
input_failures (Err (Round index fault)) = 0
input_failures (Err Output) = 0
input_failures (Err NoMemory) = 0

-- the same for writes and flushes
abbrev pub output_failures : {T : Type 0} → Result T ReplayFault → ℕ
output_failures (Ok value) = 0
output_failures (Err Input) = 0
output_failures (Err (Events fault)) = 0
output_failures (Err (Round index fault)) = 0
output_failures (Err Output) = 1
output_failures (Err NoMemory) = 0

-- the writer took the whole output file of the input
abbrev pub WritesAll : FileKind → Option (List ℕ) → Option (List ℕ) → List ℕ → Type 0
WritesAll kind old new input =
    (output : List ℕ) × Replays kind input output × Appends old new output

-- the writer took a front of the output file of the input
abbrev pub WritesFront : FileKind → Option (List ℕ) → Option (List ℕ) → List ℕ → Type 0
WritesFront kind old new input =
    (front rest : List ℕ) × Replays kind input (front ++ rest) × Appends old new front
