-- The event file and the session file: the text of a configuration and rounds, and when a text
-- isn't one.
use Rattle.std.specs.Prelude.{◌≡◌, ℕ, ◌+◌, ◌≤◌, ◌<◌, ◌^◌, List, [], ◌∷◌, ◌++◌, length, map, Option, Some, None, Result, Bool, true, false, IsTrue, MatchResult, codes, unwrap_or, replicate, not, ◌==◌, ◌⊎◌}
use Rattle.std.specs.List.{flat_map, list_all, AllByRecursion, AllZip}
use Rattle.sip_message.specs.declared.addr.Addr.{Addr}
use Rattle.sip_round.specs.declared.config.Config.{Config}
use Rattle.sip_round.specs.declared.round.Round.{Round}
use Rattle.sip_files.specs.declared.version.Version.{Version}
use Rattle.sip_files.specs.declared.version.Version.TheVariants.{One, Two, SessionOne}
use Rattle.sip_files.specs.declared.version.FileKind.{FileKind}
use Rattle.sip_files.specs.declared.version.FileKind.TheVariants as file_kind
use Rattle.sip_files.specs.declared.given_header.GivenHeader.{GivenHeader}
use Rattle.sip_files.specs.declared.event_line.EventLine.{EventLine}
use Rattle.sip_files.specs.declared.event_line.EventLine.TheVariants as line
use Rattle.sip_files.specs.declared.events_fault.EventsFault.{EventsFault}
use Rattle.sip_files.specs.declared.events_fault.EventsFault.TheVariants.{TooLong, BadVersion, BadLine, NoMemory}
use Rattle.sip_files.specs.Events.{SpellsLine}
use Rattle.sip_files.specs.Given.{with_headers}

-- ---- the lines of a file

-- what the lines before the rounds say; the seed and the first number may be missing
pub record Head : Type 0 where
  pub local : Addr
  pub seed : Option (List ℕ)
  pub first : Option ℕ

-- a missing seed is all zeros, and a missing first number is 0
abbrev pub config_of : Head → Config
config_of head = record {
  local = head.local;
  seed = unwrap_or head.seed (replicate 32 0);
  first = unwrap_or head.first 0;
}

abbrev pub seed_lines : Option (List ℕ) → List EventLine
seed_lines None = []
seed_lines (Some seed) = line.Seed seed ∷ []

abbrev pub first_lines : Option ℕ → List EventLine
first_lines None = []
first_lines (Some number) = line.First number ∷ []

abbrev pub head_lines : Head → List EventLine
head_lines head = line.Local head.local ∷ (seed_lines head.seed ++ first_lines head.first)

abbrev pub round_lines : Round → List EventLine
round_lines round = line.Round round.moment ∷ map line.Event round.events

-- what the lines after the version's say, each with its headers
abbrev pub file_lines : Head → List Round → List EventLine
file_lines head rounds = head_lines head ++ flat_map round_lines rounds

-- what a line says, with the header lines before it
pub record HeadedLine : Type 0 where
  pub headers : List GivenHeader
  pub item : EventLine

abbrev pub headed_lines : HeadedLine → List EventLine
headed_lines headed = map line.Header headed.headers ++ headed.item ∷ []

-- together with its headers, the line says this
abbrev pub SaysHeaded : HeadedLine → EventLine → Type 0
SaysHeaded headed item = with_headers headed.headers headed.item ≡ Some item

-- ---- the text

-- each line with its end
abbrev pub with_ends : List (List ℕ) → List ℕ
with_ends lines = flat_map (λ text. text ++ 10 ∷ []) lines

abbrev pub version_line : Version → List ℕ
version_line One = codes "sip-events 1"
version_line Two = codes "sip-events 2"
version_line SessionOne = codes "sip-session 1"

abbrev pub file_text : Version → List (List ℕ) → List ℕ
file_text version lines = with_ends (version_line version ∷ lines)

-- In this version the text is one of this configuration and these rounds. The optional lines may be
-- there or not; the case of letters in branches and hosts of failed lines is free; and so are the
-- header lines, as long as they give the commands the headers of their contents.
pub record SpellsIn (version : Version) (config : Config) (rounds : List Round) (text : List ℕ) :
    Type 0 where
  pub head : Head
  pub headed : List HeadedLine
  pub lines : List (List ℕ)
  pub configured : config_of head ≡ config
  pub made : AllZip SaysHeaded headed (file_lines head rounds)
  pub says : AllZip (SpellsLine version) lines (flat_map headed_lines headed)
  pub spelled : text ≡ file_text version lines

-- a session may also be an event file of either version
abbrev pub is_of_kind : FileKind → Version → Bool
is_of_kind kind One = true
is_of_kind kind Two = true
is_of_kind file_kind.Events SessionOne = false
is_of_kind file_kind.Session SessionOne = true

-- in some version of the kind, the text spells the configuration and the rounds
abbrev pub SpellsFile : FileKind → Config → List Round → List ℕ → Type 0
SpellsFile kind config rounds text =
    (version : Version) × IsTrue (is_of_kind kind version) × SpellsIn version config rounds text

-- in some version, the text is an event file of the configuration and the rounds
abbrev pub SpellsEvents : Config → List Round → List ℕ → Type 0
SpellsEvents config rounds text = SpellsFile file_kind.Events config rounds text

-- the same for a session
abbrev pub SpellsSession : Config → List Round → List ℕ → Type 0
SpellsSession config rounds text = SpellsFile file_kind.Session config rounds text

-- some configuration and rounds have this text, and it isn't too long
abbrev pub IsFile : FileKind → List ℕ → Type 0
IsFile kind text = (config : Config) × (rounds : List Round)
    × SpellsFile kind config rounds text × (length text ≤ 2 ^ 26)

-- ---- the faults

-- some file of the kind begins with the text
abbrev pub IsBegun : FileKind → List ℕ → Type 0
IsBegun kind text = (rest : List ℕ) × (config : Config) × (rounds : List Round)
    × SpellsFile kind config rounds (text ++ rest)

abbrev pub IsOneLine : List ℕ → Type 0
IsOneLine text = IsTrue (list_all (λ b. not (b == 10)) text)

-- The text isn't a file of the kind, and this is its first bad line. Some such file begins with the
-- lines before it, but none with those and the line of this number. Or there is no such line,
-- because the text ends there or the line has no end.
pub record IsBadLine (kind : FileKind) (number : ℕ) (text : List ℕ) : Type 0 where
  pub none : ¬ (IsFile kind text)
  pub before : List (List ℕ)
  pub left : List ℕ
  pub parts : text ≡ with_ends before ++ left
  pub one_each : AllByRecursion IsOneLine before
  pub counted : number ≡ length before + 1
  pub begun : IsBegun kind (with_ends before)
  pub stuck : (next after : List ℕ) → left ≡ next ++ 10 ∷ after → IsOneLine next
      → ¬ (IsBegun kind (with_ends (before ++ next ∷ [])))

-- the first line names a version of the kind
abbrev pub HasVersion : FileKind → List ℕ → Type 0
HasVersion kind text = (version : Version) × IsTrue (is_of_kind kind version)
    × ((text ≡ version_line version)
    ⊎ ((after : List ℕ) × (text ≡ version_line version ++ 10 ∷ after)))

-- which fault it is: the first that fits; if memory ran out, nothing is said
abbrev pub TellsFault : FileKind → EventsFault → List ℕ → Type 0
TellsFault kind TooLong text = 2 ^ 26 < length text
TellsFault kind BadVersion text = (length text ≤ 2 ^ 26) × ¬ (HasVersion kind text)
TellsFault kind (BadLine number) text =
    (length text ≤ 2 ^ 26) × HasVersion kind text × IsBadLine kind number text
TellsFault kind NoMemory text = Unit {0}

-- the fault of a text that isn't an event file
abbrev pub TellsFileFault : EventsFault → List ℕ → Type 0
TellsFileFault fault text = TellsFault file_kind.Events fault text

-- the answer is this one, unless memory ran out
abbrev pub IsReadAs : Config → List Round → Result (Config × List Round) EventsFault → Type 0
IsReadAs config rounds result =
    MatchResult result (λ read. (read.0 ≡ config) × (read.1 ≡ rounds)) (λ fault. fault ≡ NoMemory)
