-- Lists of which elements are left out, or changed so that they no longer pass: none more passes.
use Rattle.std.proofs.Common.{◌≡◌, Bool, true, false, not, ◌&&◌, ◌||◌, cond, List, [], ◌∷◌, map, refl, sym, ◌∙◌}
use Rattle.std.specs.Prelude.{None, Some, filter, is_some}
use Rattle.std.specs.List.{list_any}
use Rattle.std.specs.Map.{lookup, remove_entry}
use Rattle.std.proofs.lemmas.Bool.{false≢true}
use Rattle.sip_served.specs.State.{changed_first}

-- what passes in the second list passes in the first
abbrev pub PassesOnlyIf : Bool → Bool → Type 0
PassesOnlyIf before after = after ≡ true → before ≡ true

on_rest : (x before after : Bool) → PassesOnlyIf before after
    → PassesOnlyIf (x || before) (x || after)
on_rest true before after only = λ e. refl
on_rest false before after only = only

past_first : (x before after : Bool) → PassesOnlyIf before after → PassesOnlyIf (x || before) after
past_first true before after only = λ e. refl
past_first false before after only = only

module _ {X : Type 0} (test : X → Bool) where
  pub any_filtered : (p : X → Bool) (xs : List X)
      → PassesOnlyIf (list_any test xs) (list_any test (filter p xs))
  any_filtered p [] = λ e. e
  any_filtered p (x ∷ xs) =
      elim (p x) as (λ b. PassesOnlyIf (test x || list_any test xs)
      (list_any test (cond b (x ∷ filter p xs) (filter p xs)))) [
        | true ↦ on_rest (test x) (list_any test xs) (list_any test (filter p xs))
            (any_filtered p xs)
        | false ↦ past_first (test x) (list_any test xs) (list_any test (filter p xs))
            (any_filtered p xs)
      ]

  pub any_mapped : (f : X → X) → ((x : X) → test (f x) ≡ test x) → (xs : List X)
      → list_any test (map f xs) ≡ list_any test xs
  any_mapped f same [] = refl
  any_mapped f same (x ∷ xs) = λ i. same x i || any_mapped f same xs i

  on_first : (x y before : Bool) → PassesOnlyIf x y → PassesOnlyIf (x || before) (y || before)
  on_first true y before only = λ e. refl
  on_first false true before only = λ e. absurd (false≢true (only refl))
  on_first false false before only = λ e. e

  pub any_changed : (first : X → Bool) (change : X → X)
      → ((x : X) → PassesOnlyIf (test x) (test (change x))) → (xs : List X)
      → PassesOnlyIf (list_any test xs) (list_any test (changed_first first change xs))
  any_changed first change only [] = λ e. e
  any_changed first change only (x ∷ xs) =
      elim (first x) as (λ b. PassesOnlyIf (test x || list_any test xs)
      (list_any test (cond b (change x ∷ xs) (x ∷ changed_first first change xs)))) [
        | true ↦ on_first (test x) (test (change x)) (list_any test xs) (only x)
        | false ↦ on_rest (test x) (list_any test xs)
            (list_any test (changed_first first change xs)) (any_changed first change only xs)
      ]

module _ {K X : Type 0} where
  pub any_removed : (test : K × X → Bool) (key : K → Bool) (es : List (K × X))
      → PassesOnlyIf (list_any test es) (list_any test (remove_entry key es))
  any_removed test key [] = λ e. e
  any_removed test key (e ∷ es) =
      elim (key e.0) as (λ b. PassesOnlyIf (test e || list_any test es)
      (list_any test (cond b es (e ∷ remove_entry key es)))) [
        | true ↦ past_first (test e) (list_any test es) (list_any test es) (λ e. e)
        | false ↦ on_rest (test e) (list_any test es) (list_any test (remove_entry key es))
            (any_removed test key es)
      ]

  -- an entry is found if one has the key
  some_any : (key : K → Bool) (es : List (K × X))
      → is_some (lookup key es) ≡ list_any (λ (e : K × X). key e.0) es
  some_any key [] = refl
  some_any key (e ∷ es) =
      elim (key e.0) as (λ b. is_some (cond b (Some e.1) (lookup key es))
      ≡ (b || list_any (λ (e : K × X). key e.0) es)) [
        | true ↦ refl
        | false ↦ some_any key es
      ]

  pub found_filtered : (key : K → Bool) (p : K × X → Bool) (es : List (K × X))
      → PassesOnlyIf (is_some (lookup key es)) (is_some (lookup key (filter p es)))
  found_filtered key p es = λ found.
      some_any key es
      ∙ any_filtered (λ (e : K × X). key e.0) p es (sym (some_any key (filter p es)) ∙ found)

  pub found_removed : (key gone : K → Bool) (es : List (K × X))
      → PassesOnlyIf (is_some (lookup key es)) (is_some (lookup key (remove_entry gone es)))
  found_removed key gone es = λ found.
      some_any key es
      ∙ any_removed (λ (e : K × X). key e.0) gone es
      (sym (some_any key (remove_entry gone es)) ∙ found)

  -- what isn't found passes no test of its key
  pub none_keyed : (key : K → Bool) (more : X → Bool) (es : List (K × X)) → lookup key es ≡ None
      → list_any (λ (e : K × X). key e.0 && more e.1) es ≡ false
  none_keyed key more [] none = refl
  none_keyed key more (e ∷ es) none = by_key (key e.0) none (none_keyed key more es)
    where
      by_key : (b : Bool) → cond b (Some e.1) (lookup key es) ≡ None
          → (lookup key es ≡ None → list_any (λ (e : K × X). key e.0 && more e.1) es ≡ false)
          → ((b && more e.1) || list_any (λ (e : K × X). key e.0 && more e.1) es) ≡ false
      by_key true found later = absurd cc
      by_key false gone later = later gone

pub none_left : {X : Type 0} (test : X → Bool) (xs : List X)
    → list_any test (filter (λ x. not (test x)) xs) ≡ false
none_left test [] = refl
none_left test (x ∷ xs) = by_test (test x) refl (none_left test xs)
  where
    by_test : (b : Bool) → test x ≡ b → list_any test (filter (λ x. not (test x)) xs) ≡ false
        → list_any test (cond (not b) (x ∷ filter (λ x. not (test x)) xs)
        (filter (λ x. not (test x)) xs)) ≡ false
    by_test true is later = later
    by_test false is later = λ i. is i || later i
