-- A header line that is in a text as it is: no other line continues it.
use Rattle.std.specs.Prelude.{◌≡◌, ℕ, true, false, List, [], ◌∷◌, ◌++◌, Option, Some, None, ◌==◌, if◌then◌else◌}
use Rattle.sip_text.specs.Line.{line_at}
use Rattle.sip_text.specs.Unfolded.{begins_blank}
use Rattle.sip_grammar.specs.HeaderValue.{has_no_line_byte}
use Rattle.sip_headers.specs.HeaderLine.{Class, class_from}

-- what follows LF, with which the text begins
abbrev pub behind_feed : List ℕ → Option (List ℕ)
behind_feed [] = None
behind_feed (b ∷ bs) = if b == 10 then Some bs else None

-- what follows CR LF or LF, with which the text begins
abbrev pub behind_line_end : List ℕ → Option (List ℕ)
behind_line_end [] = None
behind_line_end (b ∷ bs) = if b == 13 then behind_feed bs else behind_feed (b ∷ bs)

-- A text without CR and LF, a line end, and what follows.
pub record IsPlainEnd (text line after : List ℕ) : Type 0 where
  pub rest : List ℕ
  pub parts : text ≡ line ++ rest
  pub plain : has_no_line_byte line ≡ true
  pub end_is : behind_line_end rest ≡ Some after

-- The text begins with a line of this class, and the next line begins anew.
pub record IsPlainLine (text : List ℕ) (class : Class) (after : List ℕ) : Type 0 where
  pub line : List ℕ
  pub line_is : line_at text ≡ Some (line, after)
  pub full : line ≡ [] → ⊥
  pub class_is : class_from line ≡ class
  pub anew : begins_blank after ≡ false
