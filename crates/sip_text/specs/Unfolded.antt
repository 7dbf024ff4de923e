-- Folded lines (RFC 3261, section 7.3.1). A line that begins with a space or tab continues the line
-- before it; the break, and the spaces and tabs around it, count as one space.
use Rattle.std.specs.Prelude.{ℕ, Bool, false, ◌==◌, List, [], ◌∷◌, ◌++◌, if◌then◌else◌}
use Rattle.std.specs.List.{slice_split}
use Rattle.std.specs.Str.Lines.{strip_carriage_return}
use Rattle.sip_text.specs.Character.{is_blank}
use Rattle.sip_text.specs.Trimmed.{trimmed_start, trimmed_end}

-- a line that begins with a blank
abbrev pub begins_blank : List ℕ → Bool
begins_blank [] = false
begins_blank (b ∷ bs) = is_blank b

-- one space where the line was continued
abbrev pub joined : List ℕ → List ℕ → List ℕ
joined line more = trimmed_end line ++ (32 ∷ trimmed_start more)

-- a text and the lines after it, each of which stood behind an LF: a line that begins with white
-- space continues the text
abbrev pub unfolded_from : List ℕ → List (List ℕ) → List ℕ
unfolded_from text [] = text
unfolded_from text (line ∷ lines) =
    if begins_blank line
    then unfolded_from (joined (strip_carriage_return text) line) lines
    else unfolded_from (text ++ (10 ∷ line)) lines

-- the same, where the first of the lines continues the text
abbrev pub unfolded_behind : List ℕ → List (List ℕ) → List ℕ
unfolded_behind text [] = text
unfolded_behind text (line ∷ lines) = unfolded_from (text ++ line) lines

-- the text without its folds; other line ends stay as they are
unfoldable pub unfolded : List ℕ → List ℕ
unfolded text = unfolded_behind [] (slice_split (λ b. b == 10) text)
