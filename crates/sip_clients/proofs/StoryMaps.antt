-- Entries whose values are read by a function: a change of the entries is a change of what is read.
use Rattle.std.proofs.Common.{◌≡◌, Bool, true, false, cond, List, [], ◌∷◌, map, refl, ap}
use Rattle.std.specs.Prelude.{filter}
use Rattle.std.specs.Cmp.{IsEquivalence}
use Rattle.std.specs.Map.{remove_entry, set_value}
use Rattle.indexmap.specs.IndexMap.{insert_entry}
use Rattle.keyed_machine.proofs.Ordered.{by_bool}

module _ {K A B : Type 0} (f : A → B) where
  abbrev pub read : List (K × A) → List (K × B)
  read es = map (λ e. (e.0, f e.1)) es

  pub set_read : (test : K → Bool) (es : List (K × A)) (x : A)
      → read (set_value test es x) ≡ set_value test (read es) (f x)
  set_read test [] x = refl
  set_read test (e ∷ es) x =
      elim (test e.0) as (λ b. read (cond b ((e.0, x) ∷ es) (e ∷ set_value test es x))
      ≡ cond b ((e.0, f x) ∷ read es) ((e.0, f e.1) ∷ set_value test (read es) (f x))) [
        | true ↦ refl
        | false ↦ ap (λ es. (e.0, f e.1) ∷ es) (set_read test es x)
      ]

  pub remove_read : (test : K → Bool) (es : List (K × A))
      → read (remove_entry test es) ≡ remove_entry test (read es)
  remove_read test [] = refl
  remove_read test (e ∷ es) =
      elim (test e.0) as (λ b. read (cond b es (e ∷ remove_entry test es))
      ≡ cond b (read es) ((e.0, f e.1) ∷ remove_entry test (read es))) [
        | true ↦ refl
        | false ↦ ap (λ es. (e.0, f e.1) ∷ es) (remove_read test es)
      ]

  pub insert_read : (eq : K → K → Bool) (es : List (K × A)) (k : K) (x : A)
      → read (insert_entry eq es k x) ≡ insert_entry eq (read es) k (f x)
  insert_read eq [] k x = refl
  insert_read eq (e ∷ es) k x =
      elim (eq k e.0) as (λ b. read (cond b ((e.0, x) ∷ es) (e ∷ insert_entry eq es k x))
      ≡ cond b ((e.0, f x) ∷ read es) ((e.0, f e.1) ∷ insert_entry eq (read es) k (f x))) [
        | true ↦ refl
        | false ↦ ap (λ es. (e.0, f e.1) ∷ es) (insert_read eq es k x)
      ]

  pub filter_read : (p : B → Bool) (es : List (K × A))
      → read (filter (λ e. p (f e.1)) es) ≡ filter (λ e. p e.1) (read es)
  filter_read p [] = refl
  filter_read p (e ∷ es) =
      elim (p (f e.1)) as (λ b.
      read (cond b (e ∷ filter (λ e. p (f e.1)) es) (filter (λ e. p (f e.1)) es))
      ≡ cond b ((e.0, f e.1) ∷ filter (λ e. p e.1) (read es)) (filter (λ e. p e.1) (read es))) [
        | true ↦ ap (λ es. (e.0, f e.1) ∷ es) (filter_read p es)
        | false ↦ filter_read p es
      ]

module _ {K X : Type 0} where
  -- a change of an entry doesn't matter if it is removed afterwards
  pub remove_set : (test : K → Bool) (es : List (K × X)) (x : X)
      → remove_entry test (set_value test es x) ≡ remove_entry test es
  remove_set test [] x = refl
  remove_set test (e ∷ es) x =
      by_bool (test e.0) (λ is. rw is (rw is refl))
      (λ is. rw is (rw is (ap (λ es. e ∷ es) (remove_set test es x))))

  -- if two values are put under a key, the last one counts
  pub insert_twice : {eq : K → K → Bool} (laws : IsEquivalence eq) (es : List (K × X)) (k : K)
      (x y : X) → insert_entry eq (insert_entry eq es k x) k y ≡ insert_entry eq es k y
  insert_twice laws [] k x y = let same = laws.refl k in rw same refl
  insert_twice {eq} laws (e ∷ es) k x y =
      by_bool (eq k e.0) (λ is. rw is (rw is refl))
      (λ is. rw is (rw is (ap (λ es. e ∷ es) (insert_twice laws es k x y))))
