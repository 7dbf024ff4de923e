-- The lines of a header section (RFC 3261, section 7), and folded lines (section 7.3.1).
use Rattle.std.specs.Prelude.{ℕ, List, [], ◌∷◌, Option, Some, None, ◌==◌, if◌then◌else◌}
use Rattle.std.specs.Option.{option_map}
use Rattle.std.specs.List.{slice_split, join_with_byte}
use Rattle.std.specs.Str.Lines.{strip_carriage_return}
use Rattle.sip_text.specs.Unfolded.{begins_blank, joined}

-- lines, and the text that follows the empty line after them
abbrev pub Section : Type 0
Section = List (List ℕ) × List ℕ

-- one more line before the empty one that ends the section
abbrev pub with_line_of : List ℕ → List ℕ → Option Section → Option Section
with_line_of [] rest more = Some ([], rest)
with_line_of (b ∷ bs) rest more = option_map (λ s. ((b ∷ bs) ∷ s.0, s.1)) more

-- the same for a text that is split at each LF
abbrev pub section_from : List (List ℕ) → Option Section
section_from [] = None
section_from (last ∷ []) = None
section_from (part ∷ (next ∷ parts)) =
    with_line_of (strip_carriage_return part) (join_with_byte 10 (next ∷ parts))
    (section_from (next ∷ parts))

-- the lines up to the first empty one; nothing if there is no empty line
abbrev pub section_at : List ℕ → Option Section
section_at text = section_from (slice_split (λ b. b == 10) text)

-- a line and those after it: a line that begins with a space or tab continues the one before
abbrev pub folded_onto : List ℕ → List (List ℕ) → List (List ℕ)
folded_onto line [] = line ∷ []
folded_onto line (next ∷ lines) =
    if begins_blank next then folded_onto (joined line next) lines
    else line ∷ folded_onto next lines

-- the lines, each with those that continue it
abbrev pub whole_lines : List (List ℕ) → List (List ℕ)
whole_lines [] = []
whole_lines (line ∷ lines) = folded_onto line lines

-- the lines without folds
abbrev pub whole_section : Option Section → Option Section
whole_section section = option_map (λ s. (whole_lines s.0, s.1)) section
