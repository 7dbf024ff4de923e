-- A text without capitals is the same in lower case.
use Rattle.std.proofs.Common.{◌≡◌, ℕ, true, not, List, [], ◌∷◌, refl, arith}
use Rattle.std.proofs.lemmas.Bool.{and_parts}
use Rattle.std.proofs.lemmas.Bool.Decides.{nat_tests}
use Rattle.std.specs.Char.{to_ascii_lowercase, is_ascii_uppercase}
use Rattle.std.specs.Str.{str_to_ascii_lowercase}
use Rattle.sip_grammar.specs.LowerText.{is_lower_text}

byte_stays : (b : ℕ) → not (is_ascii_uppercase b) ≡ true → to_ascii_lowercase b ≡ b
byte_stays b low = grind (arith, nat_tests)

pub stays_lower : (text : List ℕ) → is_lower_text text ≡ true
    → str_to_ascii_lowercase text ≡ text
unfolding is_lower_text
stays_lower [] low = refl
stays_lower (b ∷ bs) low =
    let each = and_parts _ _ low in λ i. byte_stays b each.0 i ∷ stays_lower bs each.1 i
