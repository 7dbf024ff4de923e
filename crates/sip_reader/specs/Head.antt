-- The head of a text, whether the text spells a message or not: its start line and its header lines
-- (RFC 3261, sections 7, 7.3.1 and 7.3.3).
use Rattle.std.specs.Prelude.{◌≡◌, ℕ, Bool, true, false, List, [], ◌∷◌, drop, Option, Some, None, if◌then◌else◌}
use Rattle.std.specs.List.{AllZip, filter_map, take_while}
use Rattle.std.specs.Option.{option_map}
use Rattle.std.specs.Str.{str_eq_ignore_ascii_case}
use Rattle.sip_text.specs.Lines.{AreLines}
use Rattle.sip_grammar.specs.HeaderEntry.{header_named}
use Rattle.sip_grammar.specs.declared.header_name.HeaderName.{HeaderName}
use Rattle.sip_message.specs.declared.start_line.StartLine.{StartLine}
use Rattle.sip_message.specs.declared.start_line.StartLine.TheVariants.{Request, Response}
use Rattle.sip_headers.specs.HeaderFields.{long_name}
use Rattle.sip_headers.specs.Folding.{whole_lines}
use Rattle.sip_headers.specs.HeaderLine.{IsHeaderLine}
use Rattle.sip_headers.specs.Named.{is_same}
use Rattle.sip_reader.specs.StartLine.{IsRequestLine, IsStatusLine}
use Rattle.sip_reader.specs.declared.first_line.FirstLine.{FirstLine}
use Rattle.sip_reader.specs.declared.first_line.FirstLine.TheVariants as first
use Rattle.sip_reader.specs.declared.untyped_line.HeaderLine.{HeaderLine}

-- the text has this value's form; or, without a value, the form of none
abbrev pub OrNone : {A X : Type 0} → (X → A → Type 0) → Option X → A → Type 0
OrNone {X = X} P None a = (x : X) → P x a → ⊥
OrNone P (Some x) a = P x a

-- ---- the lines

-- a line that isn't empty
abbrev pub is_full : List ℕ → Bool
is_full [] = false
is_full (b ∷ bs) = true

-- the lines from the first non-empty one on
abbrev pub from_full : List (List ℕ) → List (List ℕ)
from_full [] = []
from_full ([] ∷ lines) = from_full lines
from_full ((b ∷ bs) ∷ lines) = (b ∷ bs) ∷ lines

-- The text's lines that have a line end, from the first non-empty one up to an empty one, or to the
-- last. A line that begins with white space continues the line before it.
pub record IsHead (lines : List (List ℕ)) (text : List ℕ) : Type 0 where
  pub all : List (List ℕ)
  pub parts : AreLines all text
  pub whole : lines ≡ whole_lines (take_while is_full (from_full all))

-- ---- the start line

-- The line says this, with the method if it is a request line.
abbrev pub SpellsFirst : FirstLine (List ℕ) → List ℕ → Type 0
SpellsFirst (first.Request method uri) line = IsRequestLine method uri line
SpellsFirst (first.Response status reason) line = IsStatusLine status reason line

-- what a start line says, and the method of a request
abbrev pub first_of : StartLine → List ℕ → FirstLine (List ℕ)
first_of (Request uri) method = first.Request method uri
first_of (Response status reason) method = first.Response status reason

-- what the first of the lines says; none if it is no start line, or there is no line
abbrev pub IsFirst : Option (FirstLine (List ℕ)) → List (List ℕ) → Type 0
IsFirst says [] = says ≡ None
IsFirst says (line ∷ lines) = OrNone SpellsFirst says line

-- what the start line of the text says
abbrev pub BeginsWith : Option (FirstLine (List ℕ)) → List ℕ → Type 0
BeginsWith says text = (lines : List (List ℕ)) × IsHead lines text × IsFirst says lines

-- ---- the header lines

-- both are the same header of the table, or neither is in the table and the test is true
abbrev pub is_same_entry : Option HeaderName → Option HeaderName → Bool → Bool
is_same_entry (Some header) (Some other) same = is_same header other
is_same_entry None None same = same
is_same_entry one another same = false

-- Two names, long or compact, of the same header: of the same one of the table, or neither is in
-- the table and the long names are the same in any case of the letters.
abbrev pub is_same_header : List ℕ → List ℕ → Bool
is_same_header name other =
    is_same_entry (header_named name) (header_named other)
    (str_eq_ignore_ascii_case (long_name other) (long_name name))

-- the value of a header line, if its name is one of this header
abbrev pub value_under : List ℕ → Option (List ℕ × List ℕ) → Option (List ℕ)
value_under name None = None
value_under name (Some line) = if is_same_header name line.0 then Some line.1 else None

-- For each line after the first: its name and value if it is a header line, otherwise nothing.
pub record HasParts (parts : List (Option (List ℕ × List ℕ))) (text : List ℕ) : Type 0 where
  pub lines : List (List ℕ)
  pub head_is : IsHead lines text
  pub parts_are : AllZip (OrNone IsHeaderLine) parts (drop 1 lines)

-- The values of a header in the text, in order. A line that is no header line has none.
abbrev pub HasValues : List ℕ → List (List ℕ) → List ℕ → Type 0
HasValues name values text =
    (parts : List (Option (List ℕ × List ℕ))) × HasParts parts text
    × (values ≡ filter_map (value_under name) parts)

-- a header line with this name and this value
abbrev pub header_line : List ℕ × List ℕ → HeaderLine
header_line parts = record { name = parts.0; value = parts.1 }

-- The header lines of the text in order, with the name of each as it is written.
abbrev pub HasHeaderLines : List HeaderLine → List ℕ → Type 0
HasHeaderLines headers text =
    (parts : List (Option (List ℕ × List ℕ))) × HasParts parts text
    × (headers ≡ filter_map (option_map header_line) parts)
