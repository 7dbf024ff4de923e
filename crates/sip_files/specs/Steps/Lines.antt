-- What the steps of reading a file say.
use Rattle.std.specs.Prelude.{◌≡◌, ℕ, ◌+◌, false, List, [], ◌∷◌, ◌++◌, length, Option, Some, None, IsTrue, if◌then◌else◌}
use Rattle.std.specs.List.{AllZip}
use Rattle.std.specs.Str.{bytes_eq}
use Rattle.sip_text.specs.Options.{◌>>=◌}
use Rattle.sip_files.specs.declared.version.Version.{Version}
use Rattle.sip_files.specs.declared.version.Version.TheVariants.{One, Two, SessionOne}
use Rattle.sip_files.specs.declared.version.FileKind.{FileKind}
use Rattle.sip_files.specs.declared.draft.Draft.{Draft}
use Rattle.sip_files.specs.declared.progress.Progress.{Progress}
use Rattle.sip_files.specs.declared.event_line.EventLine.{EventLine}
use Rattle.sip_files.specs.declared.events_fault.EventsFault.{EventsFault}
use Rattle.sip_files.specs.declared.events_fault.EventsFault.TheVariants.{TooLong, BadVersion, BadLine, NoMemory}
use Rattle.sip_files.specs.Events.{SpellsLine}
use Rattle.sip_files.specs.EventFile.{with_ends, version_line, is_of_kind, HasVersion}
use Rattle.sip_files.specs.Steps.Drafting.{no_lines, is_begun, is_whole, went, gone}

-- the version that the line names
abbrev pub version_at : List ℕ → Option Version
version_at line =
    if bytes_eq line (version_line One) then Some One
    else if bytes_eq line (version_line Two) then Some Two
    else if bytes_eq line (version_line SessionOne) then Some SessionOne
    else None

-- the same, if a file of the kind may have it
abbrev pub version_in : FileKind → List ℕ → Option Version
version_in kind line =
    version_at line >>= λ version. if is_of_kind kind version then Some version else None

abbrev pub FollowsVersion : Version → List ℕ → List ℕ → Type 0
FollowsVersion version text after = text ≡ version_line version ++ 10 ∷ after

abbrev pub FollowsLine : FileKind → Version → List ℕ → List ℕ → Type 0
FollowsLine kind version text after =
    IsTrue (is_of_kind kind version) × FollowsVersion version text after

abbrev pub TellsVersion : FileKind → EventsFault → List ℕ → Type 0
TellsVersion kind TooLong text = ⊥
TellsVersion kind BadVersion text = ¬ (HasVersion kind text)
TellsVersion kind (BadLine number) text =
    (version : Version) × IsTrue (is_of_kind kind version) × (number ≡ 1)
    × (text ≡ version_line version)
TellsVersion kind NoMemory text = ⊥

-- what the lines of the text say gives the draft, which has begun, and no header line is left
pub record Drafts (version : Version) (draft : Draft) (text : List ℕ) : Type 0 where
  pub lines : List (List ℕ)
  pub said : List EventLine
  pub says : AllZip (SpellsLine version) lines said
  pub spelled : text ≡ with_ends lines
  pub gives : gone no_lines said ≡ Some (record { draft = draft; headers = [] })
  pub begun : IsTrue (is_begun draft.stage)

-- What the lines so far say gives a progress. What the next line says may not follow; if there is
-- no next line, something is missing.
pub record Stuck (version : Version) (number : ℕ) (text : List ℕ) : Type 0 where
  pub progress : Progress
  pub before : List (List ℕ)
  pub said : List EventLine
  pub left : List ℕ
  pub says : AllZip (SpellsLine version) before said
  pub parts : text ≡ with_ends before ++ left
  pub gives : gone no_lines said ≡ Some progress
  pub counted : number ≡ length before + 2
  pub more : left ≡ [] → is_whole progress ≡ false
  pub no_next : (line after : List ℕ) (next : EventLine) → SpellsLine version line next
      → left ≡ line ++ 10 ∷ after → went progress next ≡ None

abbrev pub TellsLine : Version → EventsFault → List ℕ → Type 0
TellsLine version TooLong text = ⊥
TellsLine version BadVersion text = ⊥
TellsLine version (BadLine number) text = Stuck version number text
TellsLine version NoMemory text = Unit {0}
