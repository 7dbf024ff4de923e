-- Steps of a replay round by round.
use Rattle.std.specs.Prelude.{◌≡◌, ◌≢◌, ◌≤◌, ◌<◌, ◌+◌, ℕ, Bool, IsTrue, List, [], ◌∷◌, ◌++◌, length, Option, None, Some, IfErr, IfSome, OnOk, Result}
use Rattle.std.specs.Io.KnownBytes.{Appends, Consumes}
use Rattle.std.specs.List.{AllZip}
use Rattle.sip_files.specs.Counted.{Counts}
use Rattle.sip_files.specs.EventFile.{SpellsFile, SpellsSession, TellsFault}
use Rattle.sip_files.specs.Replay.{answer_file}
use Rattle.sip_files.specs.Written.{head_in, session_text}
use Rattle.sip_files.specs.declared.events_fault.EventsFault.TheVariants as events_fault
use Rattle.sip_files.specs.declared.version.FileKind.{FileKind}
use Rattle.sip_files.specs.declared.version.Version.{Version}
use Rattle.sip_files.specs.Rounds.{SpellsRounds, some_config}
use Rattle.sip_round.specs.AgentState.{AgentState}
use Rattle.sip_round.specs.Answers.{StandsFor, refused}
use Rattle.sip_round.specs.declared.config.Config.{Config}
use Rattle.sip_round.specs.declared.round.Round.{Round}
use Rattle.sip_round.specs.declared.round_fault.RoundFault.{RoundFault}
use Rattle.sip_round.specs.declared.round_fault.RoundFault.TheVariants as round_fault
use Rattle.sip_stream.specs.Shorter.{Thins}
use Rattle.sip_stream.specs.Streams.{IsRounds, StreamsAll, StreamsFront, TellsLines, TellsStream, WritesBefore, input_failures, output_failures}
use Rattle.sip_stream.specs.declared.stream_fault.StreamFault.{StreamFault}
use Rattle.sip_stream.specs.declared.stream_fault.StreamFault.TheVariants as fault

-- the lines aren't a head, or memory ran out
abbrev pub TellsHead : FileKind → List ℕ → StreamFault → Type 0
TellsHead kind lines fault.Input = ⊥
TellsHead kind lines (fault.Head given) =
    TellsFault kind given lines × (given ≢ events_fault.NoMemory)
TellsHead kind lines (fault.Lines at given) = ⊥
TellsHead kind lines (fault.Round at given) = ⊥
TellsHead kind lines fault.Output = ⊥
TellsHead kind lines fault.NoMemory = Unit {0}

-- the lines of the round with this index have this fault, or memory ran out
abbrev pub TellsRound : FileKind → Version → ℕ → List ℕ → StreamFault → Type 0
TellsRound kind version index lines fault.Input = ⊥
TellsRound kind version index lines (fault.Head given) = ⊥
TellsRound kind version index lines (fault.Lines at given) =
    (at ≡ index) × TellsLines kind version given lines
TellsRound kind version index lines (fault.Round at given) = ⊥
TellsRound kind version index lines fault.Output = ⊥
TellsRound kind version index lines fault.NoMemory = Unit {0}

-- an agent stands for these rounds, of which none was refused
pub record Stands {C : Type 0} (shard_of : C → List ℕ → ℕ → ℕ) (agent : AgentState C)
    (config : Config) (rounds : List Round) : Type 0 where
  pub stands : StandsFor shard_of agent config rounds
  pub unrefused : refused config rounds ≡ None

-- the agent stands for one more round, and what it gives was written
pub record GoesOn {C : Type 0} (shard_of : C → List ℕ → ℕ → ℕ) (new : AgentState C)
    (old_bytes new_bytes : Option (List ℕ)) (config : Config) (rounds : List Round)
    (round : Round) : Type 0 where
  pub stands : Stands shard_of new config (rounds ++ round ∷ [])
  pub text : List ℕ
  pub appended : Appends old_bytes new_bytes text
  pub answered : answer_file config (rounds ++ round ∷ []) ≡ answer_file config rounds ++ text

-- a front of what one more round gives was written
pub record Stops (old_bytes new_bytes : Option (List ℕ)) (config : Config) (rounds : List Round)
    (round : Round) : Type 0 where
  pub front : List ℕ
  pub more : List ℕ
  pub appended : Appends old_bytes new_bytes front
  pub answered : answer_file config (rounds ++ round ∷ [])
      ≡ answer_file config rounds ++ (front ++ more)

-- the fault of a round that was refused; lack of memory has a fault of its own
abbrev pub refused_as : ℕ → RoundFault → StreamFault
refused_as index round_fault.Broken = fault.Round index round_fault.Broken
refused_as index round_fault.MomentBackwards = fault.Round index round_fault.MomentBackwards
refused_as index round_fault.MomentTooLarge = fault.Round index round_fault.MomentTooLarge
refused_as index round_fault.TooManyEvents = fault.Round index round_fault.TooManyEvents
refused_as index round_fault.RoundsUsedUp = fault.Round index round_fault.RoundsUsedUp
refused_as index (round_fault.NoMemory broken) = fault.NoMemory

-- what a fault of one more round tells; nothing is written for one that is refused
abbrev pub TellsStep : Option (List ℕ) → Option (List ℕ) → Config → List Round → Round
    → StreamFault → Type 0
TellsStep old new config rounds round fault.Input = ⊥
TellsStep old new config rounds round (fault.Head given) = ⊥
TellsStep old new config rounds round (fault.Lines at given) = ⊥
TellsStep old new config rounds round (fault.Round at given) =
    (at ≡ length rounds) × (refused config (rounds ++ round ∷ []) ≡ Some (at, given))
    × Appends old new []
TellsStep old new config rounds round fault.Output = Unit {0}
TellsStep old new config rounds round fault.NoMemory = Unit {0}

-- ---- the whole

-- The rounds of this file were run, and their output file was written and flushed. The head is one
-- of the file's version. What is left are rounds. No device failed.
pub record SoFar {C : Type 0} (shard_of : C → List ℕ → ℕ → ℕ) (kind : FileKind)
    (agent : AgentState C) (first : ℕ) (head : List ℕ)
    (input pending old_bytes new_bytes : Option (List ℕ))
    (old_reads new_reads old_writes new_writes : Option ℕ) (flushed : Option Bool) : Type 0 where
  pub config : Config
  pub rounds : List Round
  pub file : List ℕ
  pub spelled : SpellsFile kind config rounds file
  pub consumed : Consumes input pending file
  pub next : IfSome pending IsRounds
  pub stands : Stands shard_of agent config rounds
  pub numbered : first ≡ config.first
  pub headed : head ≡ head_in (spelled.0) some_config
  pub appended : Appends old_bytes new_bytes (answer_file config rounds)
  pub reads : Counts old_reads new_reads 0
  pub writes : Counts old_writes new_writes 0
  pub all_flushed : IfSome flushed (λ all. IsTrue all)

-- what was written and what the fault tells of this input
pub record StopsAt (kind : FileKind) (fault : StreamFault) (old new : Option (List ℕ))
    (input : List ℕ) : Type 0 where
  pub front : StreamsFront kind old new input
  pub written : WritesBefore kind fault old new input
  pub tells : TellsStream kind fault input

-- how a replay round by round ends
pub record Ends {T : Type 0} (kind : FileKind) (input old_bytes new_bytes : Option (List ℕ))
    (old_reads new_reads old_writes new_writes : Option ℕ) (flushed : Option Bool)
    (result : Result T StreamFault) : Type 0 where
  pub all : OnOk result (IfSome input (StreamsAll kind old_bytes new_bytes))
  pub stops : IfErr result (λ fault. IfSome input (StopsAt kind fault old_bytes new_bytes))
  pub reads : Counts old_reads new_reads (input_failures result)
  pub writes : Counts old_writes new_writes (output_failures result)
  pub all_flushed : OnOk result (IfSome flushed (λ all. IsTrue all))

-- ---- a shorter journal

abbrev pub from : ℕ → Config → Config
from number config = record config { first = number }

-- Rounds were read up to the one before this number, and those from the chosen one on were written,
-- the last one as it was.
pub record IsShortened (chosen last : ℕ) (config : Config) (number : ℕ)
    (input pending old new : Option (List ℕ)) : Type 0 where
  pub head : List ℕ
  pub lines : List ℕ
  pub rounds : List Round
  pub before : List Round
  pub rest : List Round
  pub kept : List Round
  pub configured : SpellsSession config [] head
  pub say : SpellsRounds lines rounds
  pub consumed : Consumes input pending (head ++ lines)
  pub numbered : number ≡ config.first + length rounds
  pub parts : rounds ≡ before ++ rest
  pub thins : AllZip Thins rest kept
  pub skipped : number ≤ chosen → rest ≡ []
  pub counted : chosen ≤ number → chosen ≡ config.first + length before
  pub ends : number ≡ last + 1 → chosen < number → (others : List Round) (round : Round)
      → rounds ≡ others ++ round ∷ [] → (front : List Round) × (kept ≡ front ++ round ∷ [])
  pub appended : Appends old new (session_text (from chosen config) kept)
