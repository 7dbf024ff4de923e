-- The index of a timer queue: the moment and the key of each armed key, in any order.
use Rattle.std.specs.Prelude.{◌≡◌, ℕ, Bool, false, List, Option, None, Some, ◌==◌, cond}
use Rattle.std.specs.Ordering.{is_eq, ordering_then, nat_cmp}
use Rattle.std.specs.BTreeMap.{is_at}
use Rattle.std.specs.List.{list_any}
use Rattle.std.specs.declared.cmp.Ordering.{Ordering}

-- pairs of moment and key in the order of the moments; at one moment, in the order of the keys
abbrev pub due_cmp : {K : Type 0} → (K → K → Ordering) → ℕ × K → ℕ × K → Ordering
due_cmp cmp a b = ordering_then (nat_cmp a.0 b.0) (cmp a.1 b.1)

-- whether the index has the key at the moment
abbrev pub is_due_at : {K : Type 0} → (K → K → Ordering) → List (ℕ × K) → ℕ → K → Bool
is_due_at cmp dues at key =
    list_any (λ due. is_eq (ordering_then (nat_cmp at due.0) (cmp key due.1))) dues

-- whether there is a moment, and it is this one
abbrev pub is_moment : ℕ → Option ℕ → Bool
is_moment at None = false
is_moment at (Some due) = at == due

-- the index has each key that has a moment, at that moment, and nothing else
abbrev pub IsIndexOf : {K : Type 0} → (K → K → Ordering) → (K → Option ℕ) → List (ℕ × K) → Type 0
IsIndexOf {K} cmp moments dues =
    (at : ℕ) (key : K) → is_due_at cmp dues at key ≡ is_moment at (moments key)

-- the moments, with that of one key changed
abbrev pub with_moment : {K : Type 0} → (K → K → Ordering) → (K → Option ℕ) → K → Option ℕ
    → K → Option ℕ
with_moment cmp moments key moment q = cond (is_at (cmp key) q) moment (moments q)
