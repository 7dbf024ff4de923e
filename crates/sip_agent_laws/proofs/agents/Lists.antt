-- The elements of lists.
use Rattle.std.proofs.Common.{◌≡◌, ◌⊎◌, inl, inr, ⊎_elim, Bool, true, false, cond, List, [], ◌∷◌, ◌++◌, map, refl, sym, subst, ap, ◌∙◌}
use Rattle.std.specs.Prelude.{Option, None, Some, filter, find, reverse, if◌then◌else◌}
use Rattle.std.specs.Option.{option_map_or}
use Rattle.std.specs.List.{AllByRecursion, flat_map}
use Rattle.std.proofs.lemmas.Bool.{false≢true}
use Rattle.std.proofs.lemmas.List.{reverse-append}

-- an element of a list
abbrev pub Among : {X : Type 0} → List X → X → Type 0
Among [] x = ⊥
Among (y ∷ ys) x = (y ≡ x) ⊎ Among ys x

module _ {X : Type 0} where
  pub among_left : (xs ys : List X) (x : X) → Among xs x → Among (xs ++ ys) x
  among_left [] ys x among = absurd among
  among_left (y ∷ xs) ys x (inl same) = inl same
  among_left (y ∷ xs) ys x (inr later) = inr (among_left xs ys x later)

  pub among_right : (xs ys : List X) (x : X) → Among ys x → Among (xs ++ ys) x
  among_right [] ys x among = among
  among_right (y ∷ xs) ys x among = inr (among_right xs ys x among)

  pub among_either : (xs ys : List X) (x : X) → Among (xs ++ ys) x → Among xs x ⊎ Among ys x
  among_either [] ys x among = inr among
  among_either (y ∷ xs) ys x (inl same) = inl (inl same)
  among_either (y ∷ xs) ys x (inr later) = before (among_either xs ys x later)
    where
      before : Among xs x ⊎ Among ys x → Among (y ∷ xs) x ⊎ Among ys x
      before (inl here) = inl (inr here)
      before (inr there) = inr there

  pub each_of : (P : X → Type 0) (xs : List X) (x : X) → AllByRecursion P xs → Among xs x → P x
  each_of P [] x all among = absurd among
  each_of P (y ∷ ys) x all (inl same) = subst P same all.0
  each_of P (y ∷ ys) x all (inr later) = each_of P ys x all.1 later

  pub both : (P : X → Type 0) (xs ys : List X) → AllByRecursion P xs → AllByRecursion P ys
      → AllByRecursion P (xs ++ ys)
  both P [] ys first second = second
  both P (x ∷ xs) ys first second = (first.0, both P xs ys first.1 second)

  pub front_of : (P : X → Type 0) (xs ys : List X) → AllByRecursion P (xs ++ ys)
      → AllByRecursion P xs
  front_of P [] ys all = tt
  front_of P (x ∷ xs) ys all = (all.0, front_of P xs ys all.1)

  pub back_of : (P : X → Type 0) (xs ys : List X) → AllByRecursion P (xs ++ ys)
      → AllByRecursion P ys
  back_of P [] ys all = all
  back_of P (x ∷ xs) ys all = back_of P xs ys all.1

  kept_one : (test : X → Bool) (y x : X) (rest : List X) (b : Bool) → test y ≡ b
      → Among (cond b (y ∷ rest) rest) x → ((y ≡ x) × (test x ≡ true)) ⊎ Among rest x
  kept_one test y x rest true is (inl same) = inl (same, subst (λ z. test z ≡ true) same is)
  kept_one test y x rest true is (inr later) = inr later
  kept_one test y x rest false is among = inr among

  pub kept_among : (test : X → Bool) (xs : List X) (x : X) → Among (filter test xs) x
      → Among xs x × (test x ≡ true)
  kept_among test [] x among = absurd among
  kept_among test (y ∷ ys) x among =
      ⊎_elim (λ here. (inl here.0, here.1))
      (λ later. let rest = kept_among test ys x later in (inr rest.0, rest.1))
      (kept_one test y x (filter test ys) (test y) refl among)

  keep_one : (test : X → Bool) (y x : X) (rest : List X) (b : Bool) → test y ≡ b
      → (y ≡ x) ⊎ Among rest x → test x ≡ true → Among (cond b (y ∷ rest) rest) x
  keep_one test y x rest true is among passes = among
  keep_one test y x rest false is (inl same) passes =
      absurd (false≢true (sym is ∙ ap test same ∙ passes))
  keep_one test y x rest false is (inr later) passes = later

  pub among_kept : (test : X → Bool) (xs : List X) (x : X) → Among xs x → test x ≡ true
      → Among (filter test xs) x
  among_kept test [] x among passes = among
  among_kept test (y ∷ ys) x (inl same) passes =
      keep_one test y x (filter test ys) (test y) refl (inl same) passes
  among_kept test (y ∷ ys) x (inr later) passes =
      keep_one test y x (filter test ys) (test y) refl (inr (among_kept test ys x later passes))
      passes

module _ {X Y : Type 0} where
  pub among_mapped : (f : X → Y) (xs : List X) (x : X) → Among xs x → Among (map f xs) (f x)
  among_mapped f [] x among = among
  among_mapped f (y ∷ ys) x (inl same) = inl (ap f same)
  among_mapped f (y ∷ ys) x (inr later) = inr (among_mapped f ys x later)

  pub mapped_among : (f : X → Y) (xs : List X) (y : Y) → Among (map f xs) y
      → (x : X) × Among xs x × (f x ≡ y)
  mapped_among f [] y among = absurd among
  mapped_among f (x ∷ xs) y (inl same) = (x, inl refl, same)
  mapped_among f (x ∷ xs) y (inr later) =
      let rest = mapped_among f xs y later in (rest.0, inr rest.1, rest.2)

  pub among_flat : (f : X → List Y) (xs : List X) (x : X) (y : Y) → Among xs x → Among (f x) y
      → Among (flat_map f xs) y
  among_flat f [] x y among has = absurd among
  among_flat f (z ∷ zs) x y (inl same) has =
      among_left (f z) (flat_map f zs) y (subst (λ w. Among (f w) y) (sym same) has)
  among_flat f (z ∷ zs) x y (inr later) has =
      among_right (f z) (flat_map f zs) y (among_flat f zs x y later has)

  pub flat_among : (f : X → List Y) (xs : List X) (y : Y) → Among (flat_map f xs) y
      → (x : X) × Among xs x × Among (f x) y
  flat_among f [] y among = absurd among
  flat_among f (x ∷ xs) y among =
      ⊎_elim (λ here. (x, inl refl, here))
      (λ later. let rest = flat_among f xs y later in (rest.0, inr rest.1, rest.2))
      (among_either (f x) (flat_map f xs) y among)

-- a choice by a test, or by what is found
pub by_if : {X : Type 0} (P : X → Type 0) (b : Bool) (x y : X) → (b ≡ true → P x)
    → (b ≡ false → P y) → P (if b then x else y)
by_if P true x y hit miss = hit refl
by_if P false x y hit miss = miss refl

pub by_found : {X Y : Type 0} (P : Y → Type 0) (f : X → Y) (o : Option X) (y : Y)
    → ((x : X) → o ≡ Some x → P (f x)) → (o ≡ None → P y) → P (option_map_or f o y)
by_found P f None y some none = none refl
by_found P f (Some x) y some none = some x refl

pub same_some : {X : Type 0} (x y : X) → Some x ≡ Some y → x ≡ y
same_some x y same = cc

-- what is found is among them
pub found_among : {X : Type 0} (p : X → Bool) (xs : List X) (x : X) → find p xs ≡ Some x
    → Among xs x
found_among p [] x is = absurd cc
found_among p (y ∷ ys) x is = by_first (p y) is (λ later. found_among p ys x later)
  where
    by_first : (b : Bool) → (if b then Some y else find p ys) ≡ Some x
        → (find p ys ≡ Some x → Among ys x) → Among (y ∷ ys) x
    by_first true found rest = inl cc
    by_first false found rest = inr (rest found)

pub found_passes : {X : Type 0} (p : X → Bool) (xs : List X) (x : X) → find p xs ≡ Some x
    → p x ≡ true
found_passes p [] x is = absurd cc
found_passes p (y ∷ ys) x is = by_first (p y) refl is (λ later. found_passes p ys x later)
  where
    by_first : (b : Bool) → p y ≡ b → (if b then Some y else find p ys) ≡ Some x
        → (find p ys ≡ Some x → p x ≡ true) → p x ≡ true
    by_first true passes found rest = ap p (sym (same_some y x found)) ∙ passes
    by_first false fails found rest = rest found

pub reverse_among : {X : Type 0} (xs : List X) (x : X) → Among (reverse xs) x → Among xs x
reverse_among [] x among = among
reverse_among (y ∷ ys) x among =
    ⊎_elim (λ later. inr (reverse_among ys x later))
    (λ first. inl (⊎_elim (λ same. same) (λ none. absurd none) first))
    (among_either (reverse ys) (y ∷ []) x
    (subst (λ zs. Among zs x) (reverse-append (y ∷ []) ys) among))
