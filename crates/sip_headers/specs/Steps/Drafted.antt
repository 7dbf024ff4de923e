-- A line and those that continue it, and a draft after more lines were added to it.
use Rattle.std.specs.Prelude.{ℕ, List, [], ◌∷◌, Option, ◌==◌, fold}
use Rattle.std.specs.List.{slice_split}
use Rattle.std.specs.Option.{option_map}
use Rattle.std.specs.Str.Lines.{strip_carriage_return}
use Rattle.sip_headers.specs.HeaderFields.{draft_of, with_line}
use Rattle.sip_headers.specs.Folding.{Section, folded_onto, section_at, whole_section}
use Rattle.sip_headers.specs.declared.header_fields.HeaderFields.{HeaderFields}

-- one more line before those of a section, which may continue it
abbrev pub onto_section : List ℕ → Option Section → Option Section
onto_section line section = option_map (λ s. (folded_onto line s.0, s.1)) section

-- one more line before those of a section, which don't continue it
abbrev pub behind_line : List ℕ → Option Section → Option Section
behind_line line section = option_map (λ s. (line ∷ s.0, s.1)) section

-- one more line before those up to an empty one
abbrev pub onto_lines : List ℕ → List (List ℕ) → List (List ℕ)
onto_lines [] lines = []
onto_lines (b ∷ bs) lines = (b ∷ bs) ∷ lines

-- the same for a text that is split at each LF
abbrev pub lines_from : List (List ℕ) → List (List ℕ)
lines_from [] = []
lines_from (last ∷ []) = []
lines_from (part ∷ (next ∷ parts)) =
    onto_lines (strip_carriage_return part) (lines_from (next ∷ parts))

-- the lines up to the first empty one; if none is empty, all that have a line end
abbrev pub lines_at : List ℕ → List (List ℕ)
lines_at text = lines_from (slice_split (λ b. b == 10) text)

-- what the header lines of a text say, and what follows the empty line
abbrev pub gathered_at : List ℕ → Option (HeaderFields × List ℕ)
gathered_at text = option_map (λ s. (draft_of s.0, s.1)) (whole_section (section_at text))

-- a draft after the lines of a section were added, and what follows the empty line
abbrev pub drafted_on : HeaderFields → Option Section → Option (HeaderFields × List ℕ)
drafted_on draft section = option_map (λ s. (fold with_line draft s.0, s.1)) section

-- the same for the header lines of a text
abbrev pub drafted_at : HeaderFields → List ℕ → Option (HeaderFields × List ℕ)
drafted_at draft text = drafted_on draft (whole_section (section_at text))
