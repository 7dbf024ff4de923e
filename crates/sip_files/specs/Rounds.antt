-- The lines of rounds, as they stand in a session behind its head.
use Rattle.std.specs.Prelude.{◌≢◌, ◌<◌, ◌^◌, ◌+◌, ℕ, Bool, ◌&&◌, ◌==◌, List, [], ◌∷◌, ◌++◌, codes, length, nat_eq, replicate, if◌then◌else◌}
use Rattle.std.specs.List.{starts_with}
use Rattle.sip_files.specs.EventFile.{IsBadLine, SpellsSession}
use Rattle.sip_files.specs.Written.{session_head_text}
use Rattle.sip_files.specs.declared.version.FileKind.TheVariants as file_kind
use Rattle.sip_files.specs.declared.lines_fault.LinesFault.{LinesFault}
use Rattle.sip_files.specs.declared.lines_fault.LinesFault.TheVariants.{TooLong, BadLine, NotOne, NoMemory}
use Rattle.sip_round.specs.declared.config.Config.{Config}
use Rattle.sip_round.specs.declared.round.Round.{Round}

-- ---- the lines of rounds

-- a configuration; the lines of rounds say the same behind the head of any
abbrev pub some_config : Config
some_config = record {
  local = record { ip = 127 ∷ 0 ∷ 0 ∷ 1 ∷ []; port = 5060 };
  seed = replicate 32 0;
  first = 0;
}

-- a session whose rounds have these lines
unfoldable pub session_with : List ℕ → List ℕ
session_with lines = session_head_text some_config ++ lines

-- the lines are those of these rounds
pub record SpellsRounds (lines : List ℕ) (rounds : List Round) : Type 0 where
  pub config : Config
  pub spelled : SpellsSession config rounds (session_with lines)

-- the lines are those of this round
abbrev pub SpellsRound : List ℕ → Round → Type 0
SpellsRound lines round = SpellsRounds lines (round ∷ [])

-- ---- the first round of several

-- a line stands there that begins a round
abbrev pub begins_round : List ℕ → Bool
begins_round text = starts_with nat_eq text (codes "round ")

-- the text up to the first line feed before such a line, or all of it
unfoldable pub first_round : List ℕ → List ℕ
first_round [] = []
first_round (b ∷ bytes) =
    b ∷ (if (b == 10) && begins_round bytes then [] else first_round bytes)

-- ---- the faults

-- which fault it is: the first that fits; if memory ran out, nothing is said. The lines are numbered
-- behind the four of the head.
abbrev pub TellsLinesFault : List ℕ → LinesFault → Type 0
TellsLinesFault lines TooLong = 2 ^ 26 < length (session_with lines)
TellsLinesFault lines (BadLine number) =
    IsBadLine file_kind.Session (number + 4) (session_with lines)
TellsLinesFault lines NotOne =
    (rounds : List Round) × SpellsRounds lines rounds × (length rounds ≢ 1)
TellsLinesFault lines NoMemory = Unit {0}
