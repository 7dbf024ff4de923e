-- One more turn of a loop that changes each element and adds what it tells.
use Rattle.std.proofs.Common.{◌≡◌, ℕ, zero, suc, ◌+◌, ◌<◌, List, [], ◌∷◌, ◌++◌, map, take, drop, length, get_or, refl, ap, ◌∙◌, arith}
use Rattle.std.specs.List.{flat_map}
use Rattle.std.proofs.lemmas.Grind.{flat_map-append}
use Rattle.std.proofs.lemmas.List.{append-nil, take_more}

-- an element that the loop hasn't reached is unchanged
pub not_yet : {X : Type 0} (f : X → X) (xs : List X) (i : ℕ) (d : X) → i < length xs
    → get_or (map f (take i xs) ++ drop i xs) i d ≡ get_or xs i d
not_yet f [] i d within = absurd (omega arith)
not_yet f (x ∷ xs) zero d within = refl
not_yet f (x ∷ xs) (suc i) d within = not_yet f xs i d (omega arith)

pub told_more : {X Y : Type 0} (g : X → List Y) (xs : List X) (i : ℕ) (x : X) → i < length xs
    → get_or xs i x ≡ x → flat_map g (take (i + 1) xs) ≡ flat_map g (take i xs) ++ g x
told_more g xs i x within is =
    ap (flat_map g) (take_more xs i x within) ∙ flat_map-append g (take i xs) (get_or xs i x ∷ [])
    ∙ ap (λ rest. flat_map g (take i xs) ++ rest) (append-nil (g (get_or xs i x)))
    ∙ ap (λ y. flat_map g (take i xs) ++ g y) is
