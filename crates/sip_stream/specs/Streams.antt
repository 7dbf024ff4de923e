-- What a replay round by round writes for what it reads, and what each of its faults tells.
use Rattle.std.specs.Prelude.{◌≡◌, ◌≢◌, ◌⊎◌, ℕ, ◌<◌, ◌≤◌, ◌^◌, ◌+◌, IsTrue, List, [], ◌++◌, length, Option, None, Some, Result, Ok, Err}
use Rattle.std.specs.Io.KnownBytes.{Appends}
use Rattle.sip_files.specs.EventFile.{IsBadLine, SpellsFile, TellsFault}
use Rattle.sip_files.specs.Replay.{answer_file}
use Rattle.sip_files.specs.Written.{head_in}
use Rattle.sip_files.specs.declared.events_fault.EventsFault.{EventsFault}
use Rattle.sip_files.specs.declared.events_fault.EventsFault.TheVariants as events_fault
use Rattle.sip_files.specs.declared.version.FileKind.{FileKind}
use Rattle.sip_files.specs.declared.version.Version.{Version}
use Rattle.sip_files.specs.Rounds.{begins_round, first_round, some_config}
use Rattle.sip_files.specs.declared.lines_fault.LinesFault.{LinesFault}
use Rattle.sip_files.specs.declared.lines_fault.LinesFault.TheVariants as lines_fault
use Rattle.sip_round.specs.AgentState.{AgentState}
use Rattle.sip_round.specs.Answers.{StandsFor, refused}
use Rattle.sip_round.specs.declared.config.Config.{Config}
use Rattle.sip_round.specs.declared.round.Round.{Round}
use Rattle.sip_round.specs.declared.round_fault.RoundFault.{RoundFault}
use Rattle.sip_stream.specs.declared.stream_fault.StreamFault.{StreamFault}
use Rattle.sip_stream.specs.declared.stream_fault.StreamFault.TheVariants as fault

-- ---- what is read

-- the lines up to the next one that begins a round, or all; of lines that are longer than a file
-- may be, perhaps only a front
pub record IsNext (lines left : List ℕ) : Type 0 where
  pub more : List ℕ
  pub front : first_round (lines ++ left) ≡ lines ++ more
  pub whole : (more ≡ []) ⊎ (2 ^ 26 < length lines)

-- nothing, or lines of which the first begins a round
abbrev pub IsRounds : List ℕ → Type 0
IsRounds text = (text ≡ []) ⊎ IsTrue (begins_round text)

-- the input begins with a file of this configuration and these rounds, and goes on with what is
-- left: nothing, or the next round
pub record Begins (kind : FileKind) (config : Config) (rounds : List Round)
    (input left : List ℕ) : Type 0 where
  pub file : List ℕ
  pub whole : input ≡ file ++ left
  pub spelled : SpellsFile kind config rounds file
  pub next : IsRounds left

-- the lines of one round, behind a head of this version
abbrev pub behind_head : Version → List ℕ → List ℕ
behind_head version lines = head_in version some_config ++ lines

-- The input is a file of the kind, of any length, of this configuration and these rounds. Its head,
-- and behind a head the lines of each round, are no longer than a file may be.
pub record IsStream (kind : FileKind) (config : Config) (rounds : List Round) (input : List ℕ) :
    Type 0 where
  pub spelled : SpellsFile kind config rounds input
  pub head : length (first_round input) ≤ 2 ^ 26
  pub each : (before lines left : List ℕ) → input ≡ before ++ (lines ++ left)
      → IsTrue (begins_round lines) → first_round (lines ++ left) ≡ lines
      → length (behind_head (spelled.0) lines) ≤ 2 ^ 26

-- ---- what is written

-- the input is a file of the kind, of any length; none of its rounds is refused, and this is their
-- output file
pub record Streams (kind : FileKind) (input output : List ℕ) : Type 0 where
  pub config : Config
  pub rounds : List Round
  pub spelled : SpellsFile kind config rounds input
  pub unrefused : refused config rounds ≡ None
  pub answered : output ≡ answer_file config rounds

-- the input is a file of the kind, of any length; none of its rounds is refused, and the agent
-- stands for them
pub record StandsForFile {C : Type 0} (shard_of : C → List ℕ → ℕ → ℕ) (kind : FileKind)
    (agent : AgentState C) (input : List ℕ) : Type 0 where
  pub config : Config
  pub rounds : List Round
  pub spelled : SpellsFile kind config rounds input
  pub unrefused : refused config rounds ≡ None
  pub stands : StandsFor shard_of agent config rounds

-- a front of the output file of rounds with which the input begins
pub record IsFront (kind : FileKind) (input front : List ℕ) : Type 0 where
  pub config : Config
  pub rounds : List Round
  pub left : List ℕ
  pub begins : Begins kind config rounds input left
  pub more : List ℕ
  pub answered : answer_file config rounds ≡ front ++ more

abbrev pub StreamsAll : FileKind → Option (List ℕ) → Option (List ℕ) → List ℕ → Type 0
StreamsAll kind old new input = (output : List ℕ) × Streams kind input output
    × Appends old new output

-- nothing was written, or such a front
abbrev pub StreamsFront : FileKind → Option (List ℕ) → Option (List ℕ) → List ℕ → Type 0
StreamsFront kind old new input =
    Appends old new [] ⊎ ((front : List ℕ) × IsFront kind input front × Appends old new front)

-- the output file of the first rounds of the input, so many, was written
pub record WritesFirst (kind : FileKind) (count : ℕ) (old new : Option (List ℕ))
    (input : List ℕ) : Type 0 where
  pub config : Config
  pub rounds : List Round
  pub left : List ℕ
  pub begins : Begins kind config rounds input left
  pub counted : count ≡ length rounds
  pub appended : Appends old new (answer_file config rounds)

-- what was written before a fault of the input: nothing before one of the head, and else the output
-- file of the rounds before
abbrev pub WritesBefore : FileKind → StreamFault → Option (List ℕ) → Option (List ℕ) → List ℕ
    → Type 0
WritesBefore kind fault.Input old new input = Unit {0}
WritesBefore kind (fault.Head given) old new input = Appends old new []
WritesBefore kind (fault.Lines index given) old new input = WritesFirst kind index old new input
WritesBefore kind (fault.Round index given) old new input = WritesFirst kind index old new input
WritesBefore kind fault.Output old new input = Unit {0}
WritesBefore kind fault.NoMemory old new input = Unit {0}

-- ---- what a fault tells

-- the lines aren't those of one round: the first reason that fits; they are numbered behind the
-- four of the head
abbrev pub TellsLines : FileKind → Version → LinesFault → List ℕ → Type 0
TellsLines kind version lines_fault.TooLong lines = 2 ^ 26 < length (behind_head version lines)
TellsLines kind version (lines_fault.BadLine number) lines =
    (length (behind_head version lines) ≤ 2 ^ 26)
    × IsBadLine kind (number + 4) (behind_head version lines)
TellsLines kind version lines_fault.NotOne lines =
    (length (behind_head version lines) ≤ 2 ^ 26)
    × (config : Config) × (rounds : List Round)
    × SpellsFile kind config rounds (behind_head version lines) × (length rounds ≢ 1)
TellsLines kind version lines_fault.NoMemory lines = ⊥

-- the first lines of the input aren't a head, which has no rounds
pub record HasBadHead (kind : FileKind) (given : EventsFault) (input : List ℕ) : Type 0 where
  pub lines : List ℕ
  pub left : List ℕ
  pub whole : input ≡ lines ++ left
  pub next : IsNext lines left
  pub tells : TellsFault kind given lines
  pub cause : given ≢ events_fault.NoMemory

-- after this many rounds come lines with this fault
pub record HasBadRound (kind : FileKind) (index : ℕ) (given : LinesFault) (input : List ℕ) :
    Type 0 where
  pub config : Config
  pub rounds : List Round
  pub lines : List ℕ
  pub left : List ℕ
  pub begins : Begins kind config rounds input (lines ++ left)
  pub counted : index ≡ length rounds
  pub some : lines ≢ []
  pub next : IsNext lines left
  pub tells : TellsLines kind (begins.spelled).0 given lines

-- of rounds with which the input begins, the first that is refused has this index and this fault
pub record HasRefused (kind : FileKind) (index : ℕ) (given : RoundFault) (input : List ℕ) :
    Type 0 where
  pub config : Config
  pub rounds : List Round
  pub left : List ℕ
  pub begins : Begins kind config rounds input left
  pub refuses : refused config rounds ≡ Some (index, given)

abbrev pub TellsStream : FileKind → StreamFault → List ℕ → Type 0
TellsStream kind fault.Input input = Unit {0}
TellsStream kind (fault.Head given) input = HasBadHead kind given input
TellsStream kind (fault.Lines index given) input = HasBadRound kind index given input
TellsStream kind (fault.Round index given) input = HasRefused kind index given input
TellsStream kind fault.Output input = Unit {0}
TellsStream kind fault.NoMemory input = Unit {0}

-- which faults may come where the input is a file of this configuration and these rounds
abbrev pub MayCome : Config → List Round → StreamFault → Type 0
MayCome config rounds fault.Input = Unit {0}
MayCome config rounds (fault.Head given) = ⊥
MayCome config rounds (fault.Lines index given) = ⊥
MayCome config rounds (fault.Round index given) = refused config rounds ≡ Some (index, given)
MayCome config rounds fault.Output = Unit {0}
MayCome config rounds fault.NoMemory = Unit {0}

-- if the input is such a file, only these faults come
abbrev pub ComesOnly : FileKind → StreamFault → List ℕ → Type 0
ComesOnly kind fault input = (config : Config) (rounds : List Round)
    → IsStream kind config rounds input → MayCome config rounds fault

-- ---- which device failed

-- a fault by a read
abbrev pub failed_reads : StreamFault → ℕ
failed_reads fault.Input = 1
failed_reads (fault.Head given) = 0
failed_reads (fault.Lines index given) = 0
failed_reads (fault.Round index given) = 0
failed_reads fault.Output = 0
failed_reads fault.NoMemory = 0

-- by a write or a flush
abbrev pub failed_writes : StreamFault → ℕ
failed_writes fault.Input = 0
failed_writes (fault.Head given) = 0
failed_writes (fault.Lines index given) = 0
failed_writes (fault.Round index given) = 0
failed_writes fault.Output = 1
failed_writes fault.NoMemory = 0

-- how many reads failed in a call that ends so: one where it tells it, and else none
abbrev pub input_failures : {T : Type 0} → Result T StreamFault → ℕ
input_failures (Ok value) = 0
input_failures (Err given) = failed_reads given

-- the same for writes and flushes
abbrev pub output_failures : {T : Type 0} → Result T StreamFault → ℕ
output_failures (Ok value) = 0
output_failures (Err given) = failed_writes given
