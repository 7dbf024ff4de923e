-- The first element that passes a test, by its place.
use Rattle.std.proofs.Common.{◌≡◌, ℕ, ◌+◌, ◌≤◌, suc, Bool, true, false, not, cond, List, [], ◌∷◌, length, nat_lt, refl, sym, ap, ◌∙◌, arith}
use Rattle.std.specs.Prelude.{Option, None, Some, IfNone, IfSome, find, position}
use Rattle.std.specs.List.{slice_get, slice_set, position_or_len}
use Rattle.std.proofs.lemmas.List.Folds.{find_at}
use Rattle.std.proofs.lemmas.Option.{slice_get_past}
use Rattle.std.proofs.lemmas.Bool.{ltb-false}
use Rattle.sip_served.specs.State.{changed_first}

-- an index, if there is one
index_of : (b : Bool) (n i : ℕ) → Some i ≡ cond b (Some n) None → i ≡ n
index_of true n i e = cc
index_of false n i e = absurd cc

no_index : (b : Bool) (n : ℕ) → None ≡ cond b (Some n) None → b ≡ false
no_index true n e = absurd cc
no_index false n e = refl

module _ {X : Type 0} (p : X → Bool) where
  at_none : (xs : List X) → None ≡ position p xs → find p xs ≡ None
  at_none xs e =
      let past : length xs ≤ position_or_len p xs =
      ltb-false (position_or_len p xs) (length xs)
      (no_index (nat_lt (position_or_len p xs) (length xs)) (position_or_len p xs) e) in
      find_at p xs ∙ slice_get_past xs (position_or_len p xs) past

  at_some : (xs : List X) (i : ℕ) → Some i ≡ position p xs → i ≡ position_or_len p xs
  at_some xs i e = index_of (nat_lt (position_or_len p xs) (length xs)) (position_or_len p xs) i e

  kept_step : (change : X → X) (x : X) (xs rest : List X) (b : Bool) (found : Option X)
      → cond b (Some x) found ≡ None → (found ≡ None → rest ≡ xs)
      → cond b (change x ∷ xs) (x ∷ rest) ≡ x ∷ xs
  kept_step change x xs rest true found e later = absurd cc
  kept_step change x xs rest false found e later = ap (λ ys. x ∷ ys) (later e)

  -- if none passes, nothing changes
  unchanged : (change : X → X) (xs : List X) → find p xs ≡ None → changed_first p change xs ≡ xs
  unchanged change [] none = refl
  unchanged change (x ∷ xs) none =
      kept_step change x xs (changed_first p change xs) (p x) (find p xs) none (unchanged change xs)

  changed_step : (change : X → X) (x : X) (xs rest : List X) (b : Bool) (n : ℕ) (held : X)
      → slice_get (x ∷ xs) (cond (not b) (1 + n) 0) ≡ Some held
      → (slice_get xs n ≡ Some held → rest ≡ slice_set xs n (change held))
      → cond b (change x ∷ xs) (x ∷ rest)
      ≡ slice_set (x ∷ xs) (cond (not b) (1 + n) 0) (change held)
  changed_step change x xs rest true n held at later = let same : x ≡ held = cc in
      ap (λ y. change y ∷ xs) same
  changed_step change x xs rest false n held at later =
      let next : 1 + n ≡ suc n = omega arith in
      let there : slice_get xs n ≡ Some held = sym (ap (λ k. slice_get (x ∷ xs) k) next) ∙ at in
      ap (λ ys. x ∷ ys) (later there) ∙ sym (ap (λ k. slice_set (x ∷ xs) k (change held)) next)

  -- the first that passes is changed in its place
  changed_there : (change : X → X) (xs : List X) (held : X)
      → slice_get xs (position_or_len p xs) ≡ Some held
      → changed_first p change xs ≡ slice_set xs (position_or_len p xs) (change held)
  changed_there change [] held at = absurd cc
  changed_there change (x ∷ xs) held at =
      changed_step change x xs (changed_first p change xs) (p x) (position_or_len p xs) held at
      (changed_there change xs held)

  -- ---- by the place that was found

  pub none_changed : (xs : List X) (o : Option ℕ) → o ≡ position p xs
      → IfNone o ((change : X → X) → changed_first p change xs ≡ xs)
  none_changed xs None e = λ change. unchanged change xs (at_none xs e)
  none_changed xs (Some i) e = tt

  pub none_found : (xs : List X) (o : Option ℕ) → o ≡ position p xs → IfNone o (find p xs ≡ None)
  none_found xs None e = at_none xs e
  none_found xs (Some i) e = tt

  pub first_found : (xs : List X) (o : Option ℕ) → o ≡ position p xs
      → IfSome o (λ i. find p xs ≡ slice_get xs i)
  first_found xs None e = tt
  first_found xs (Some i) e = find_at p xs ∙ sym (ap (slice_get xs) (at_some xs i e))

  pub first_changed : (xs : List X) (o : Option ℕ) → o ≡ position p xs
      → IfSome o (λ i. (change : X → X) (held : X) → slice_get xs i ≡ Some held
      → changed_first p change xs ≡ slice_set xs i (change held))
  first_changed xs None e = tt
  first_changed xs (Some i) e = λ change held at.
      changed_there change xs held (sym (ap (slice_get xs) (at_some xs i e)) ∙ at)
      ∙ sym (ap (λ k. slice_set xs k (change held)) (at_some xs i e))
