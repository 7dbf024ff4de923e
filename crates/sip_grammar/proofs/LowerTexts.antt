-- A text in lower case has no capital.
use Rattle.std.proofs.Common.{◌≡◌, ℕ, true, not, List, [], ◌∷◌, refl, arith}
use Rattle.std.proofs.lemmas.Bool.Decides.{nat_tests}
use Rattle.std.specs.Char.{to_ascii_lowercase, is_ascii_uppercase}
use Rattle.std.specs.Str.{str_to_ascii_lowercase}
use Rattle.sip_grammar.specs.LowerText.{is_lower_text}
use Rattle.sip_grammar.proofs.Bytes.{both_true}

no_capital : (b : ℕ) → not (is_ascii_uppercase (to_ascii_lowercase b)) ≡ true
no_capital b = grind (arith, nat_tests)

pub lower_texts : (text : List ℕ) → is_lower_text (str_to_ascii_lowercase text) ≡ true
unfolding is_lower_text
lower_texts [] = refl
lower_texts (b ∷ bs) = both_true _ _ (no_capital b) (lower_texts bs)
