-- Lists whose elements are read by a function: a change of the elements is a change of what is
-- read.
use Rattle.std.proofs.Common.{◌≡◌, Bool, true, false, cond, List, [], ◌∷◌, ◌++◌, map, refl, ap}
use Rattle.std.specs.Prelude.{Option, Some, filter, find, unwrap_or}
use Rattle.std.specs.List.{AllByRecursion}
use Rattle.sip_served.specs.State.{changed_first}

some_same : {A : Type 0} (x y : A) → Some x ≡ Some y → x ≡ y
some_same x y e = ap (λ o. unwrap_or o x) e

module _ {A B : Type 0} (f : A → B) where
  pub append_mapped : (xs ys : List A) → map f (xs ++ ys) ≡ map f xs ++ map f ys
  append_mapped [] ys = refl
  append_mapped (x ∷ xs) ys = ap (λ zs. f x ∷ zs) (append_mapped xs ys)

  pub filter_mapped : (p : B → Bool) (xs : List A)
      → filter p (map f xs) ≡ map f (filter (λ x. p (f x)) xs)
  filter_mapped p [] = refl
  filter_mapped p (x ∷ xs) =
      elim (p (f x)) as (λ b. cond b (f x ∷ filter p (map f xs)) (filter p (map f xs))
      ≡ map f (cond b (x ∷ filter (λ y. p (f y)) xs) (filter (λ y. p (f y)) xs))) [
        | true ↦ ap (λ zs. f x ∷ zs) (filter_mapped p xs)
        | false ↦ filter_mapped p xs
      ]

  -- if a change of each element is a change of what is read of it, the same is true of lists
  pub map_mapped : (P : B → Type 0) (g : B → B) (h : A → A)
      → ((x : A) → P (f x) → f (h x) ≡ g (f x)) → (xs : List A) → AllByRecursion P (map f xs)
      → map f (map h xs) ≡ map g (map f xs)
  map_mapped P g h step [] all = refl
  map_mapped P g h step (x ∷ xs) all = λ i. step x all.0 i ∷ map_mapped P g h step xs all.1 i

  -- the same for a change of the first element that passes a test
  found_step : (g : B → B) (h : A → A) (held : B) → ((x : A) → f x ≡ held → f (h x) ≡ g (f x))
      → (x : A) (xs later : List A) (rest : List B) (found : Option B) (b : Bool)
      → (found ≡ Some held → map f later ≡ rest) → cond b (Some (f x)) found ≡ Some held
      → map f (cond b (h x ∷ xs) (x ∷ later)) ≡ cond b (g (f x) ∷ map f xs) (f x ∷ rest)
  found_step g h held step x xs later rest found true same e =
      ap (λ y. y ∷ map f xs) (step x (some_same (f x) held e))
  found_step g h held step x xs later rest found false same e = ap (λ ys. f x ∷ ys) (same e)

  pub found_mapped : (test : B → Bool) (g : B → B) (h : A → A) (held : B)
      → ((x : A) → f x ≡ held → f (h x) ≡ g (f x)) → (xs : List A)
      → find test (map f xs) ≡ Some held
      → map f (changed_first (λ x. test (f x)) h xs) ≡ changed_first test g (map f xs)
  found_mapped test g h held step [] found = absurd cc
  found_mapped test g h held step (x ∷ xs) found =
      found_step g h held step x xs (changed_first (λ x. test (f x)) h xs)
      (changed_first test g (map f xs)) (find test (map f xs)) (test (f x))
      (found_mapped test g h held step xs) found

  pub changed_mapped : (test : B → Bool) (g : B → B) (h : A → A) → ((x : A) → f (h x) ≡ g (f x))
      → (xs : List A)
      → map f (changed_first (λ x. test (f x)) h xs) ≡ changed_first test g (map f xs)
  changed_mapped test g h step [] = refl
  changed_mapped test g h step (x ∷ xs) =
      elim (test (f x)) as (λ b. map f (cond b (h x ∷ xs)
      (x ∷ changed_first (λ x. test (f x)) h xs))
      ≡ cond b (g (f x) ∷ map f xs) (f x ∷ changed_first test g (map f xs))) [
        | true ↦ ap (λ y. y ∷ map f xs) (step x)
        | false ↦ ap (λ ys. f x ∷ ys) (changed_mapped test g h step xs)
      ]
