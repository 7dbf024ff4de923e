-- The elements of lists that are put together.
use Rattle.std.proofs.Common.{◌≡◌, ◌⊎◌, inl, inr, ⊎_elim, Bool, true, false, cond, List, [], ◌∷◌, map, refl, sym, subst, ap, ◌∙◌, arith}
use Rattle.std.specs.Prelude.{Contains, Some, find, filter, if◌then◌else◌}
use Rattle.std.specs.List.{AllByRecursion, flat_map}
use Rattle.std.proofs.lemmas.Bool.{false≢true}
use Rattle.std.proofs.lemmas.List.Elements.{Contains-append_cases, Contains-append_left, Contains-append_right, Contains-push, Contains-push_cases}

module _ {X : Type 0} where
  pub none_among : (x : X) → Contains [] x → ⊥
  none_among x among = let within = among.1 in absurd (omega arith)

  -- an element is the first one, or among the others
  pub first_or_later : (y : X) (ys : List X) (x : X) → Contains (y ∷ ys) x
      → (y ≡ x) ⊎ Contains ys x
  first_or_later y ys x among =
      ⊎_elim (λ one. ⊎_elim (λ none. absurd (none_among x none)) (λ same. inl same)
      (Contains-push_cases [] y x one)) (λ later. inr later)
      (Contains-append_cases (y ∷ []) ys x among)

  pub among_first : (x : X) (xs : List X) → Contains (x ∷ xs) x
  among_first x xs = Contains-append_left (x ∷ []) xs x (Contains-push [] x)

  pub among_later : (y : X) (xs : List X) (x : X) → Contains xs x → Contains (y ∷ xs) x
  among_later y xs x among = Contains-append_right (y ∷ []) xs x among

  -- what is true of all elements is true of each, and the other way round
  pub each_of : (P : X → Type 0) (xs : List X) (x : X) → AllByRecursion P xs → Contains xs x → P x
  each_of P [] x all among = absurd (none_among x among)
  each_of P (y ∷ ys) x all among =
      ⊎_elim (λ same. subst P same all.0) (λ later. each_of P ys x all.1 later)
      (first_or_later y ys x among)

  pub all_of : (P : X → Type 0) (xs : List X) → ((x : X) → Contains xs x → P x)
      → AllByRecursion P xs
  all_of P [] each = tt
  all_of P (x ∷ xs) each =
      (each x (among_first x xs), all_of P xs (λ y among. each y (among_later x xs y among)))

  pub all_go : {P Q : X → Type 0} → ((x : X) → P x → Q x) → (xs : List X) → AllByRecursion P xs
      → AllByRecursion Q xs
  all_go goes [] all = tt
  all_go goes (x ∷ xs) all = (goes x all.0, all_go goes xs all.1)

  pub all_both : {P Q R : X → Type 0} → ((x : X) → P x → Q x → R x) → (xs : List X)
      → AllByRecursion P xs → AllByRecursion Q xs → AllByRecursion R xs
  all_both goes [] one other = tt
  all_both goes (x ∷ xs) one other =
      (goes x one.0 other.0, all_both goes xs one.1 other.1)

  -- one step of filtering by a test
  kept_step : (test : X → Bool) (y x : X) (ys kept : List X) (b : Bool) → test y ≡ b
      → (Contains kept x → Contains ys x × (test x ≡ true))
      → Contains (cond b (y ∷ kept) kept) x → Contains (y ∷ ys) x × (test x ≡ true)
  kept_step test y x ys kept true is more among =
      ⊎_elim (λ same. (
        subst (Contains (y ∷ ys)) same (among_first y ys),
        subst (λ z. test z ≡ true) same is,
      )) (λ later. let rest = more later in (among_later y ys x rest.0, rest.1))
      (first_or_later y kept x among)
  kept_step test y x ys kept false is more among =
      let rest = more among in (among_later y ys x rest.0, rest.1)

  pub kept_among : (test : X → Bool) (xs : List X) (x : X) → Contains (filter test xs) x
      → Contains xs x × (test x ≡ true)
  kept_among test [] x among = absurd (none_among x among)
  kept_among test (y ∷ ys) x among =
      kept_step test y x ys (filter test ys) (test y) refl (kept_among test ys x) among

  keep_step : (test : X → Bool) (y x : X) (kept : List X) (b : Bool) → test y ≡ b
      → (y ≡ x) ⊎ Contains kept x → test x ≡ true → Contains (cond b (y ∷ kept) kept) x
  keep_step test y x kept true is (inl same) passes =
      subst (Contains (y ∷ kept)) same (among_first y kept)
  keep_step test y x kept true is (inr later) passes = among_later y kept x later
  keep_step test y x kept false is (inl same) passes =
      absurd (false≢true (sym is ∙ ap test same ∙ passes))
  keep_step test y x kept false is (inr later) passes = later

  pub among_kept : (test : X → Bool) (xs : List X) (x : X) → Contains xs x → test x ≡ true
      → Contains (filter test xs) x
  among_kept test [] x among passes = absurd (none_among x among)
  among_kept test (y ∷ ys) x among passes =
      keep_step test y x (filter test ys) (test y) refl
      (⊎_elim (λ same. inl same) (λ later. inr (among_kept test ys x later passes))
      (first_or_later y ys x among)) passes

module _ {X Y : Type 0} where
  pub among_mapped : (f : X → Y) (xs : List X) (y : Y) → Contains (map f xs) y
      → (x : X) × Contains xs x × (f x ≡ y)
  among_mapped f [] y among = absurd (none_among y among)
  among_mapped f (x ∷ xs) y among =
      ⊎_elim (λ same. (x, among_first x xs, same))
      (λ later. let rest = among_mapped f xs y later in
      (rest.0, among_later x xs rest.0 rest.1, rest.2))
      (first_or_later (f x) (map f xs) y among)

  pub mapped_among : (f : X → Y) (xs : List X) (x : X) → Contains xs x → Contains (map f xs) (f x)
  mapped_among f [] x among = absurd (none_among x among)
  mapped_among f (y ∷ ys) x among =
      ⊎_elim (λ same. subst (λ z. Contains (map f (y ∷ ys)) (f z)) same
      (among_first (f y) (map f ys)))
      (λ later. among_later (f y) (map f ys) (f x) (mapped_among f ys x later))
      (first_or_later y ys x among)

  -- an element of one of several lists is one of all of them joined
  pub in_one_of : (f : X → List Y) (xs : List X) (y : Y) → Contains (flat_map f xs) y
      → (x : X) × Contains xs x × Contains (f x) y
  in_one_of f [] y among = absurd (none_among y among)
  in_one_of f (x ∷ xs) y among =
      ⊎_elim (λ here. (x, among_first x xs, here))
      (λ later. let rest = in_one_of f xs y later in
      (rest.0, among_later x xs rest.0 rest.1, rest.2))
      (Contains-append_cases (f x) (flat_map f xs) y among)

  pub in_all_of : (f : X → List Y) (xs : List X) (x : X) (y : Y) → Contains xs x
      → Contains (f x) y → Contains (flat_map f xs) y
  in_all_of f [] x y among has = absurd (none_among x among)
  in_all_of f (z ∷ zs) x y among has =
      ⊎_elim (λ same. Contains-append_left (f z) (flat_map f zs) y
      (subst (λ w. Contains (f w) y) (sym same) has))
      (λ later. Contains-append_right (f z) (flat_map f zs) y (in_all_of f zs x y later has))
      (first_or_later z zs x among)

-- what is found is among them
pub found_among : {X : Type 0} (p : X → Bool) (xs : List X) (x : X) → find p xs ≡ Some x
    → Contains xs x
found_among p [] x is = absurd cc
found_among p (y ∷ ys) x is = by_first (p y) is (λ later. found_among p ys x later)
  where
    by_first : (b : Bool) → (if b then Some y else find p ys) ≡ Some x
        → (find p ys ≡ Some x → Contains ys x) → Contains (y ∷ ys) x
    by_first true is rest =
        let same : y ≡ x = cc in subst (Contains (y ∷ ys)) same (among_first y ys)
    by_first false is rest = among_later y ys x (rest is)
