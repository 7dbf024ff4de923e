-- Looking for the Call-ID line by line, where a line that can't have it is passed over with its
-- folds.
use Rattle.std.specs.Prelude.{ℕ, Bool, false, List, [], ◌∷◌, ◌==◌, ◌||◌, ◌&&◌, Option, Some, None, if◌then◌else◌}
use Rattle.sip_grammar.specs.declared.header_name.HeaderName.TheVariants.{CallId}
use Rattle.sip_text.specs.Unfolded.{begins_blank}
use Rattle.sip_headers.specs.Folding.{whole_lines}
use Rattle.sip_headers.specs.HeaderLine.{Class, known}
use Rattle.sip_headers.specs.Steps.Drafted.{lines_at}

-- the lines after those that continue the line before them
abbrev pub behind_folds : List (List ℕ) → List (List ℕ)
behind_folds [] = []
behind_folds (line ∷ lines) = if begins_blank line then behind_folds lines else line ∷ lines

-- the lines, without folds, of a text that follows a line, and may begin with what continues that
abbrev pub lines_behind : List ℕ → List (List ℕ)
lines_behind text = whole_lines (behind_folds (lines_at text))

-- the text begins with an A, in either case
abbrev pub begins_a : List ℕ → Bool
begins_a [] = false
begins_a (b ∷ bs) = b == 65 || b == 97

-- the line begins with "Ca" or with "i", in any case of the letters
abbrev pub may_have_call_id : List ℕ → Bool
may_have_call_id [] = false
may_have_call_id (b ∷ bs) = b == 73 || b == 105 || ((b == 67 || b == 99) && begins_a bs)

-- the value of a line of this class, if its header is Call-ID
abbrev pub call_id_of : Class → Option (List ℕ)
call_id_of (known CallId value) = Some value
call_id_of class = None
