-- The first moment at which a key in any of several shards is due.
use Rattle.std.proofs.Common.{◌≡◌, inl, inr, ◌≤◌, ℕ, true, false, List, [], ◌∷◌, length, map, min, nat_le, refl, sym, subst, ◌-◌, arith}
use Rattle.std.specs.Prelude.{IfSome, None, Option, Some, drop, get_or, take}
use Rattle.std.specs.List.{AllByRecursion}
use Rattle.std.specs.declared.cmp.Ordering.{Ordering}
use Rattle.std.proofs.lemmas.Grind.{common_steps}
use Rattle.std.proofs.lemmas.List.{take_all}
use Rattle.keyed_machine.specs.Machine.{due_of}
use Rattle.keyed_machine.specs.Table.{Held, state_at}
use Rattle.keyed_machine.proofs.Ordered.{by_bool}
use Rattle.sip_timers.specs.Earlier.{earlier}
use Rattle.sip_timers.specs.Queue.{is_due}
use Rattle.sip_shards.specs.Steps.Dues.{IsDueIn}

-- ---- the earlier of two moments

le_min : (x y now : ℕ) → nat_le (min x y) now ≡ false
    → (nat_le x now ≡ false) × (nat_le y now ≡ false)
le_min x y now before =
    (grind (arith, common_steps, before), grind (arith, common_steps, before))

-- if neither is due, the earlier one isn't, and the other way round
pub neither_due : (now : ℕ) (a b : Option ℕ) → is_due now (earlier a b) ≡ false
    → (is_due now a ≡ false) × (is_due now b ≡ false)
neither_due now None b before = (refl, before)
neither_due now (Some x) None before = (before, refl)
neither_due now (Some x) (Some y) before = le_min x y now before

min_of : (P : ℕ → Type 0) (x y : ℕ) → P x → P y → P (min x y)
min_of P x y here there =
    by_bool (nat_le x y)
    (λ is. subst P (left x y is) here) (λ isnt. subst P (right x y isnt) there)
  where
    left : (x y : ℕ) → nat_le x y ≡ true → x ≡ min x y
    left x y is = grind (arith, common_steps, is)

    right : (x y : ℕ) → nat_le x y ≡ false → y ≡ min x y
    right x y isnt = grind (arith, common_steps, isnt)

pub of_either : (P : ℕ → Type 0) (a b : Option ℕ) → IfSome a P → IfSome b P
    → IfSome (earlier a b) P
of_either P None b here there = there
of_either P (Some x) None here there = here
of_either P (Some x) (Some y) here there = min_of P x y here there

pub in_any : (P Q : ℕ → Type 0) (a : Option ℕ) → ((n : ℕ) → P n → Q n) → IfSome a P → IfSome a Q
in_any P Q None gives some = tt
in_any P Q (Some x) gives some = gives x some

-- ---- the first table, and the others

pub rest_is : {X : Type 0} (xs : List X) → take (length xs - 1) (drop 1 xs) ≡ drop 1 xs
rest_is {X} [] = take_all (length {A = X} [] - 1) [] (omega arith)
rest_is (x ∷ xs) = take_all (length (x ∷ xs) - 1) xs (omega arith)

module _ {X : Type 0} (P : X → Type 0) (xs : List X) (x d : X) (some : 1 ≤ length xs)
    (is : x ≡ get_or xs 0 d) where
  pub first_and_rest : AllByRecursion P xs → P x × AllByRecursion P (drop 1 xs)
  first_and_rest = by_list xs some is
    where
      by_list : (ys : List X) → 1 ≤ length ys → x ≡ get_or ys 0 d → AllByRecursion P ys
          → P x × AllByRecursion P (drop 1 ys)
      by_list [] some is all = absurd (omega (arith, some))
      by_list (y ∷ ys) some is all = (subst P (sym is) all.0, all.1)

  pub with_first : P x → AllByRecursion P (drop 1 xs) → AllByRecursion P xs
  with_first = by_list xs some is
    where
      by_list : (ys : List X) → 1 ≤ length ys → x ≡ get_or ys 0 d → P x
          → AllByRecursion P (drop 1 ys) → AllByRecursion P ys
      by_list [] some is here later = tt
      by_list (y ∷ ys) some is here later = (subst P is here, later)

module _ {X K S : Type 0} (cmp : K → K → Ordering) (due : S → Option ℕ) (held : X → Held K S)
    (shards : List X) (shard d : X) (some : 1 ≤ length shards) (is : shard ≡ get_or shards 0 d)
  where
    pub due_in_first : (at : ℕ)
        → ((key : K) × (due_of due (state_at cmp (held shard) key) ≡ Some at))
        → IsDueIn cmp due at (map held shards)
    due_in_first = by_list shards some is
      where
        by_list : (ss : List X) → 1 ≤ length ss → shard ≡ get_or ss 0 d → (at : ℕ)
            → ((key : K) × (due_of due (state_at cmp (held shard) key) ≡ Some at))
            → IsDueIn cmp due at (map held ss)
        by_list [] some is at here = absurd (omega (arith, some))
        by_list (s ∷ ss) some is at here =
            inl (subst (λ it. (key : K) × (due_of due (state_at cmp (held it) key) ≡ Some at)) is
            here)

    pub due_in_rest : (at : ℕ) → IsDueIn cmp due at (map held (drop 1 shards))
        → IsDueIn cmp due at (map held shards)
    due_in_rest = by_list shards
      where
        by_list : (ss : List X) (at : ℕ) → IsDueIn cmp due at (map held (drop 1 ss))
            → IsDueIn cmp due at (map held ss)
        by_list [] at later = later
        by_list (s ∷ ss) at later = inr later
