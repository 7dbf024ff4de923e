-- A list cut into numbered parts by a function: the parts, joined, are the list in some order.
use Rattle.std.proofs.Common.{◌≡◌, ℕ, zero, suc, ◌+◌, ◌<◌, Bool, true, false, ◌&&◌, not, List, [], ◌∷◌, ◌++◌, nat_le, nat_eq, refl, sym, ◌∙◌, ap, subst, append_assoc, append-nil, arith}
use Rattle.std.specs.Prelude.{filter}
use Rattle.std.specs.List.Sorted.{IsPermutation}
use Rattle.std.proofs.lemmas.Grind.{common_steps}
use Rattle.std.proofs.lemmas.List.Sorted.{IsPermutation-refl, IsPermutation-sym, IsPermutation-trans, IsPermutation-append_right, IsPermutation-filter_both}
use Rattle.keyed_machine.proofs.Ordered.{by_bool}

filter_twice : {X : Type 0} (p r s : X → Bool) → ((x : X) → (p x && r x) ≡ s x) → (xs : List X)
    → filter p (filter r xs) ≡ filter s xs
filter_twice p r s same [] = refl
filter_twice p r s same (x ∷ xs) =
    by_bool (r x)
    (λ in'. rw in' (by_bool (p x)
    (λ on. rw on (rw (sym (same x) ∙ ap (λ b. b && r x) on ∙ in')
    (ap (λ more. x ∷ more) (filter_twice p r s same xs))))
    (λ off. rw off (rw (sym (same x) ∙ ap (λ b. b && r x) off) (filter_twice p r s same xs)))))
    (λ out. rw out (rw (sym (same x) ∙ and_false (p x) (r x) out) (filter_twice p r s same xs)))
  where
    and_false : (a b : Bool) → b ≡ false → (a && b) ≡ false
    and_false true b e = e
    and_false false b e = refl

filter_none : {X : Type 0} (p : X → Bool) → ((x : X) → p x ≡ false) → (xs : List X)
    → filter p xs ≡ []
filter_none p none [] = refl
filter_none p none (x ∷ xs) = rw (none x) (filter_none p none xs)

filter_all : {X : Type 0} (p : X → Bool) → ((x : X) → p x ≡ true) → (xs : List X) → filter p xs ≡ xs
filter_all p all [] = refl
filter_all p all (x ∷ xs) = rw (all x) (ap (λ more. x ∷ more) (filter_all p all xs))

module _ {X : Type 0} (number : X → ℕ) where
  -- so many parts, numbered upwards from a number, joined
  abbrev pub parts : ℕ → ℕ → List X → List X
  parts from zero xs = []
  parts from (suc count) xs = filter (λ x. nat_eq (number x) from) xs ++ parts (suc from) count xs

  abbrev at_least : ℕ → List X → List X
  at_least from xs = filter (λ x. nat_le from (number x)) xs

  is_part : (from n : ℕ) → (nat_eq n from && nat_le from n) ≡ nat_eq n from
  is_part from n = grind (arith, common_steps)

  is_later : (from n : ℕ) → (not (nat_eq n from) && nat_le from n) ≡ nat_le (suc from) n
  is_later from n = grind (arith, common_steps)

  one_part : (from : ℕ) (xs : List X)
      → IsPermutation (filter (λ x. nat_eq (number x) from) xs ++ at_least (suc from) xs)
      (at_least from xs)
  one_part from xs =
      IsPermutation-sym (at_least from xs) _
      (subst (λ both. IsPermutation (at_least from xs) both)
      (ap (λ part. part ++ filter (λ x. not (nat_eq (number x) from)) (at_least from xs))
      (filter_twice (λ x. nat_eq (number x) from) (λ x. nat_le from (number x))
      (λ x. nat_eq (number x) from) (λ x. is_part from (number x)) xs)
      ∙ ap (λ rest. filter (λ x. nat_eq (number x) from) xs ++ rest)
      (filter_twice (λ x. not (nat_eq (number x) from)) (λ x. nat_le from (number x))
      (λ x. nat_le (suc from) (number x)) (λ x. is_later from (number x)) xs))
      (IsPermutation-filter_both (λ x. nat_eq (number x) from) (λ x. not (nat_eq (number x) from))
      (λ x. refl) (at_least from xs)))

  parts_and_rest : (from count : ℕ) (xs : List X)
      → IsPermutation (parts from count xs ++ at_least (from + count) xs) (at_least from xs)
  parts_and_rest from zero xs = subst (λ n. IsPermutation (at_least n xs) (at_least from xs))
      (from_is from) (IsPermutation-refl (at_least from xs))
    where
      from_is : (n : ℕ) → n ≡ n + zero
      from_is n = omega arith
  parts_and_rest from (suc count) xs =
      let part : List X = filter (λ x. nat_eq (number x) from) xs in
      let rest : List X = parts (suc from) count xs ++ at_least (suc from + count) xs in
      subst (λ joined. IsPermutation joined (at_least from xs))
      (sym (append_assoc part (parts (suc from) count xs) (at_least (suc from + count) xs))
      ∙ ap (λ n. (part ++ parts (suc from) count xs) ++ at_least n xs) (next from count))
      (IsPermutation-trans (part ++ rest) (part ++ at_least (suc from) xs) (at_least from xs)
      (IsPermutation-append_right part rest (at_least (suc from) xs)
      (parts_and_rest (suc from) count xs)) (one_part from xs))
    where
      next : (n m : ℕ) → suc n + m ≡ n + suc m
      next n m = omega arith

  -- if every number is below the count of parts, the parts joined are all
  pub parts_are_all : (count : ℕ) → ((x : X) → number x < count) → (xs : List X)
      → IsPermutation (parts zero count xs) xs
  parts_are_all count below xs =
      subst (λ all. IsPermutation (parts zero count xs) all)
      (filter_all (λ x. nat_le zero (number x)) (λ x. from_zero (number x)) xs)
      (subst (λ joined. IsPermutation joined (at_least zero xs))
      (ap (λ rest. parts zero count xs ++ rest)
      (ap (λ n. at_least n xs) (zero_and count)
      ∙ filter_none (λ x. nat_le count (number x)) (λ x. not_above (number x) (below x)) xs)
      ∙ append-nil (parts zero count xs))
      (parts_and_rest zero count xs))
    where
      zero_and : (n : ℕ) → zero + n ≡ n
      zero_and n = omega arith

      from_zero : (n : ℕ) → nat_le zero n ≡ true
      from_zero n = grind (arith, common_steps)

      not_above : (n : ℕ) → n < count → nat_le count n ≡ false
      not_above n lt = grind (arith, common_steps, lt)
