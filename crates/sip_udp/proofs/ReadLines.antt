-- A text without a byte at its end.
use Rattle.std.proofs.Common.{◌≡◌, ℕ, Bool, true, false, List, [], ◌∷◌, ◌++◌, ap, refl, ◌∙◌}
use Rattle.std.specs.Prelude.{◌==◌, if◌then◌else◌}
use Rattle.sip_udp.specs.LineEnd.{without_last}

inside : (b : ℕ) (is : Bool) (xs ys : List ℕ)
    → b ∷ (if is then xs else ys) ≡ (if is then b ∷ xs else b ∷ ys)
inside b true xs ys = refl
inside b false xs ys = refl

-- if the last byte is this one, what stands before it is left; otherwise all is
pub without_at_end : (byte last : ℕ) (front : List ℕ)
    → without_last byte (front ++ last ∷ []) ≡ (if last == byte then front else front ++ last ∷ [])
without_at_end byte last [] = refl
without_at_end byte last (b ∷ []) = inside b (last == byte) [] (last ∷ [])
without_at_end byte last (b ∷ c ∷ bs) =
    ap (λ t. b ∷ t) (without_at_end byte last (c ∷ bs))
    ∙ inside b (last == byte) (c ∷ bs) ((c ∷ bs) ++ last ∷ [])
