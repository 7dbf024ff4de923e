-- What its type says of a text: its numbers are bytes.
use Rattle.std.proofs.Common.{◌≡◌, ◌<◌, ℕ, suc, true, List, [], ◌∷◌, get_or, refl, arith, Fits, w8}
use Rattle.std.specs.Prelude.{nat_lt}
use Rattle.std.proofs.lemmas.Bool.{and_from}
use Rattle.std.proofs.lemmas.Bool.Decides.{nat_tests}
use Rattle.sip_files.specs.Word.{are_bytes}

is_byte : (b : ℕ) → b < 256 → nat_lt b 256 ≡ true
is_byte b small = grind (arith, nat_tests)

pub typed_bytes : (text : List ℕ) → ((i : ℕ) → Fits w8 (get_or text i 0))
    → are_bytes text ≡ true
typed_bytes [] fit = refl
typed_bytes (b ∷ bs) fit =
    and_from _ _ (is_byte b (fit 0).fits) (typed_bytes bs (λ i. fit (suc i)))
