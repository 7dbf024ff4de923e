-- Which command the words ask for, and for which kind of file.
use Rattle.std.specs.Prelude.{ℕ, Bool, false, not, ◌&&◌, ◌||◌, List, [], ◌∷◌, codes, if◌then◌else◌}
use Rattle.std.specs.List.{list_any}
use Rattle.std.specs.Str.{bytes_eq}
use Rattle.sip_files.specs.declared.version.FileKind.{FileKind}
use Rattle.sip_files.specs.declared.version.FileKind.TheVariants as file_kind

-- the first word is the name of the command
abbrev pub asks_command : List ℕ → List (List ℕ) → Bool
asks_command name [] = false
asks_command name (word ∷ words) = bytes_eq word name

-- one of the words is this one
abbrev pub has_word : List ℕ → List (List ℕ) → Bool
has_word wanted words = list_any (λ word. bytes_eq word wanted) words

-- help or the version, asked for by the command `help` or by an option anywhere
abbrev pub asks_help : List (List ℕ) → Bool
asks_help words =
    asks_command (codes "help") words || (has_word (codes "--help") words
    || (has_word (codes "-h") words
    || (has_word (codes "--version") words || has_word (codes "-V") words)))

abbrev pub asks_streamed : List (List ℕ) → Bool
asks_streamed words = has_word (codes "--streamed") words

-- the command, and not its help, for a whole file
abbrev pub asks_replay : List (List ℕ) → Bool
asks_replay words =
    not (asks_help words) && (asks_command (codes "replay") words && not (asks_streamed words))

-- the same, round by round
abbrev pub asks_stream : List (List ℕ) → Bool
asks_stream words =
    not (asks_help words) && (asks_command (codes "replay") words && asks_streamed words)

abbrev pub asks_repair : List (List ℕ) → Bool
asks_repair words = has_word (codes "--repair") words

abbrev pub asks_ladder : List (List ℕ) → Bool
asks_ladder words = not (asks_help words) && asks_command (codes "ladder") words

-- a session if one of the words is its option
abbrev pub kind_asked : List (List ℕ) → FileKind
kind_asked words =
    if has_word (codes "--session") words then file_kind.Session else file_kind.Events
