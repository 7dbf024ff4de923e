-- Reading the head of a text from left to right.
use Rattle.std.specs.Prelude.{ℕ, Bool, false, List, [], ◌∷◌, map, Option, Some, None}
use Rattle.std.specs.Borrow.{Bor}
use Rattle.std.specs.List.{filter_map}
use Rattle.std.specs.Option.{option_map}
use Rattle.sip_grammar.specs.declared.header_name.HeaderName.{HeaderName}
use Rattle.sip_headers.specs.Folding.{whole_lines}
use Rattle.sip_headers.specs.HeaderLine.{line_from}
use Rattle.sip_headers.specs.Named.{is_same}
use Rattle.sip_headers.specs.Steps.Drafted.{lines_at}
use Rattle.sip_headers.specs.Whole.{whole_now}
use Rattle.sip_headers.specs.declared.folding.Whole.{Whole}
use Rattle.sip_reader.specs.Head.{header_line, value_under}
use Rattle.sip_reader.specs.ReadStart.{start_at}
use Rattle.sip_reader.specs.SkippedEnds.{without_line_ends}
use Rattle.sip_reader.specs.declared.first_line.FirstLine.{FirstLine}
use Rattle.sip_reader.specs.declared.untyped_line.HeaderLine.{HeaderLine}

-- the lines up to the first empty one, or all that have a line end, without folds
abbrev pub whole_lines_at : List ℕ → List (List ℕ)
whole_lines_at text = whole_lines (lines_at text)

-- the same for a text from its first non-empty line on
abbrev pub head_at : List ℕ → List (List ℕ)
head_at text = whole_lines_at (without_line_ends text)

-- a first line, and the lines of the text after it
abbrev pub lines_found : Option (Whole × Bor (List ℕ)) → List (List ℕ)
lines_found None = []
lines_found (Some found) = whole_now found.0 ∷ whole_lines_at found.1.now

-- what the first of these lines says
abbrev pub first_at : List (List ℕ) → Option (FirstLine (List ℕ))
first_at [] = None
first_at (line ∷ lines) = start_at line

-- this header of the table is the one that is looked for
abbrev pub is_known : Option HeaderName → HeaderName → Bool
is_known None header = false
is_known (Some wanted) header = is_same wanted header

-- what `read` finds in these lines, by the name and the value of each, if it has them
abbrev pub found_at : {X : Type 0} → (Option (List ℕ × List ℕ) → Option X) → List (List ℕ) → List X
found_at read lines = filter_map read (map line_from lines)

-- the values of a header in these lines
abbrev pub values_at : List ℕ → List (List ℕ) → List (List ℕ)
values_at name lines = found_at (value_under name) lines

-- the header lines among these lines
abbrev pub header_lines_at : List (List ℕ) → List HeaderLine
header_lines_at lines = found_at (option_map header_line) lines
