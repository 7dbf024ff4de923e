-- Climbing numbers are in order.
use Rattle.std.proofs.Common.{◌≡◌, ℕ, suc, ◌<◌, ◌≤◌, true, cond, ◌==◌, List, [], ◌∷◌, nat_lt, ap, arith}
use Rattle.std.specs.Ordering.{nat_cmp}
use Rattle.std.specs.declared.cmp.Ordering.TheVariants.{Less, Equal, Greater}
use Rattle.std.specs.List.{AllByRecursion}
use Rattle.std.specs.List.Sorted.{IsStrictlySortedBy}
use Rattle.std.proofs.lemmas.Grind.{common_steps}

-- each is at least the number, and greater than those before it
abbrev pub Climbs : ℕ → List ℕ → Type 0
Climbs n [] = Unit {0}
Climbs n (x ∷ xs) = (n ≤ x) × Climbs (suc x) xs

below_is_less : (x y : ℕ) → x < y → nat_cmp x y ≡ Less
below_is_less x y below = ap (λ b. cond b Less (cond (x == y) Equal Greater)) (is_below x y below)
  where
    is_below : (x y : ℕ) → x < y → nat_lt x y ≡ true
    is_below x y below = grind (arith, common_steps, below)

all_above : (x n : ℕ) (xs : List ℕ) → x < n → Climbs n xs
    → AllByRecursion (λ y. nat_cmp x y ≡ Less) xs
all_above x n [] below climbs = tt
all_above x n (y ∷ ys) below climbs = (
  below_is_less x y (omega (arith, below, climbs.0)),
  all_above x (suc y) ys (omega (arith, below, climbs.0)) climbs.1,
)

pub climbs_in_order : (n : ℕ) (xs : List ℕ) → Climbs n xs → IsStrictlySortedBy nat_cmp xs
unfolding IsStrictlySortedBy
climbs_in_order n [] climbs = tt
climbs_in_order n (x ∷ xs) climbs =
    (all_above x (suc x) xs (omega arith) climbs.1, climbs_in_order (suc x) xs climbs.1)

pub climbs_from_less : (n m : ℕ) (xs : List ℕ) → n ≤ m → Climbs m xs → Climbs n xs
climbs_from_less n m [] less climbs = tt
climbs_from_less n m (x ∷ xs) less climbs = (omega (arith, less, climbs.0), climbs.1)
