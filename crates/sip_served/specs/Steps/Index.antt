-- An index: the key and the number of each number that has a key, in any order.
use Rattle.std.specs.Prelude.{◌≡◌, ℕ, Bool, false, List, Option, None, Some, ◌==◌, cond}
use Rattle.std.specs.Ordering.{is_eq, ordering_then, nat_cmp}
use Rattle.std.specs.List.{list_any}
use Rattle.std.specs.declared.cmp.Ordering.{Ordering}

-- pairs of key and number in the order of the keys; at one key, in the order of the numbers
abbrev pub pair_cmp : {K : Type 0} → (K → K → Ordering) → K × ℕ → K × ℕ → Ordering
pair_cmp cmp a b = ordering_then (cmp a.0 b.0) (nat_cmp a.1 b.1)

-- whether the index has the number under the key
abbrev pub is_under : {K : Type 0} → (K → K → Ordering) → List (K × ℕ) → K → ℕ → Bool
is_under cmp pairs key number =
    list_any (λ pair. is_eq (ordering_then (cmp key pair.0) (nat_cmp number pair.1))) pairs

-- whether there is a key, and it is equal to this one
abbrev pub is_key_of : {K : Type 0} → (K → K → Ordering) → K → Option K → Bool
is_key_of cmp key None = false
is_key_of cmp key (Some own) = is_eq (cmp key own)

-- the index has each number that has a key, under that key, and nothing else
abbrev pub IsIndexOf : {K : Type 0} → (K → K → Ordering) → (ℕ → Option K) → List (K × ℕ) → Type 0
IsIndexOf {K} cmp keys pairs =
    (key : K) (number : ℕ) → is_under cmp pairs key number ≡ is_key_of cmp key (keys number)

-- the keys, with that of one number changed
abbrev pub with_key : {K : Type 0} → (ℕ → Option K) → ℕ → Option K → ℕ → Option K
with_key keys number key q = cond (number == q) key (keys q)
