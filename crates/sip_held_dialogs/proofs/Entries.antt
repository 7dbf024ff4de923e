-- What is found under a key after a change of one entry, in a list whose keys differ.
use Rattle.std.proofs.Common.{◌≡◌, Bool, true, false, cond, List, [], ◌∷◌, refl, sym, ap, subst, ◌∙◌}
use Rattle.std.specs.Prelude.{Option, None, Some, IsSome, filter}
use Rattle.std.specs.Cmp.{IsEquivalence}
use Rattle.std.specs.List.{AllByRecursion, IsDistinct}
use Rattle.std.specs.Map.{keys_of, lookup, remove_entry, set_value}
use Rattle.std.specs.Option.{option_map, option_map_or}
use Rattle.std.proofs.lemmas.Bool.{false≢true, true≢false}
use Rattle.std.proofs.lemmas.Map.{keys-set_value, lookup-remove_entry, lookup-set_value}
use Rattle.std.proofs.lemmas.Map.Entries.{lookup-filter-values, option_filter}
use Rattle.std.proofs.lemmas.Map.Keys.{IsDistinct-cons, IsDistinct-head, IsDistinct-tail}
use Rattle.std.proofs.lemmas.Map.Made.{IsDistinct-keys_filter}
use Rattle.indexmap.specs.IndexMap.{insert_entry}
use Rattle.keyed_machine.proofs.Ordered.{by_bool}

some_of : {X : Type 0} (o : Option X) (x : X) → o ≡ Some x → IsSome o
some_of {X} o x e = subst (λ (p : Option X). IsSome p) (sym e) refl

put_on : {X : Type 0} (here there : Bool) (new old rest : Option X) → here ≡ there
    → cond here new rest ≡ cond there new (cond here old rest)
put_on true true new old rest same = refl
put_on true false new old rest same = absurd (true≢false same)
put_on false true new old rest same = absurd (false≢true same)
put_on false false new old rest same = refl

put_later : {X : Type 0} (here there : Bool) (new old rest : Option X)
    → (here ≡ true → there ≡ true → ⊥)
    → cond here old (cond there new rest) ≡ cond there new (cond here old rest)
put_later true true new old rest never = absurd (never refl refl)
put_later true false new old rest never = refl
put_later false there new old rest never = refl

pub none_apart : {K : Type 0} (eq : K → K → Bool) → IsDistinct eq []
unfolding IsDistinct
none_apart eq = tt

module _ {K X : Type 0} {eq : K → K → Bool} (laws : IsEquivalence eq) where
  -- the keys differ
  abbrev pub Apart : List (K × X) → Type 0
  Apart es = IsDistinct eq (keys_of es)

  -- ---- what is found

  pub same_key : (k q : K) (es : List (K × X)) → eq k q ≡ true → lookup (eq q) es ≡ lookup (eq k) es
  same_key k q [] e = refl
  same_key k q (x ∷ es) e =
      λ i. cond (sym (laws.congr k q x.0 e) i) (Some x.1) (same_key k q es e i)

  changed_at : (k q : K) (change : X → X) (es : List (K × X)) (o : Option X)
      → lookup (eq k) es ≡ o
      → lookup (eq q) (option_map_or (λ x. set_value (eq k) es (change x)) o es)
      ≡ cond (eq k q) (option_map change (lookup (eq q) es)) (lookup (eq q) es)
  changed_at k q change es None is =
      by_bool (eq k q) (λ e. let gone = same_key k q es e ∙ is in rw (e, gone) refl)
      (λ e. rw e refl)
  changed_at k q change es (Some x) is =
      lookup-set_value laws (eq k) (λ y z e. laws.congr k y z e) q (change x) es
      (some_of (lookup (eq k) es) x is)
      ∙ by_bool (eq k q) (λ e. let there = same_key k q es e ∙ is in rw (e, there) refl)
      (λ e. rw e refl)

  pub found_changed : (k q : K) (change : X → X) (es : List (K × X))
      → lookup (eq q) (option_map_or (λ x. set_value (eq k) es (change x)) (lookup (eq k) es) es)
      ≡ cond (eq k q) (option_map change (lookup (eq q) es)) (lookup (eq q) es)
  found_changed k q change es = changed_at k q change es (lookup (eq k) es) refl

  insert_step : (k q : K) (v : X) (e : K × X) (es : List (K × X)) (b : Bool) → eq k e.0 ≡ b
      → lookup (eq q) (insert_entry eq es k v) ≡ cond (eq k q) (Some v) (lookup (eq q) es)
      → lookup (eq q) (cond b ((e.0, v) ∷ es) (e ∷ insert_entry eq es k v))
      ≡ cond (eq k q) (Some v) (cond (eq q e.0) (Some e.1) (lookup (eq q) es))
  insert_step k q v e es true is later =
      put_on (eq q e.0) (eq k q) (Some v) (Some e.1) (lookup (eq q) es)
      (laws.symm q e.0 ∙ sym (laws.congr k e.0 q is))
  insert_step k q v e es false is later =
      ap (cond (eq q e.0) (Some e.1)) later
      ∙ put_later (eq q e.0) (eq k q) (Some v) (Some e.1) (lookup (eq q) es)
      (λ here there. false≢true (sym is ∙ (laws.congr k q e.0 there ∙ here)))

  pub found_inserted : (k q : K) (v : X) (es : List (K × X))
      → lookup (eq q) (insert_entry eq es k v) ≡ cond (eq k q) (Some v) (lookup (eq q) es)
  found_inserted k q v [] = ap (λ b. cond b (Some v) None) (laws.symm q k)
  found_inserted k q v (e ∷ es) =
      insert_step k q v e es (eq k e.0) refl (found_inserted k q v es)

  -- ---- the keys still differ

  pub apart_changed : (k : K) (change : X → X) (es : List (K × X)) (o : Option X) → Apart es
      → Apart (option_map_or (λ x. set_value (eq k) es (change x)) o es)
  apart_changed k change es None apart = apart
  apart_changed k change es (Some x) apart =
      subst (λ ks. IsDistinct eq ks) (sym (keys-set_value (eq k) es (change x))) apart

  pub apart_filtered : (p : K × X → Bool) (es : List (K × X)) → Apart es → Apart (filter p es)
  apart_filtered p es apart = IsDistinct-keys_filter eq p es apart

  left_all : (P : K → Type 0) (test : K → Bool) (es : List (K × X)) → AllByRecursion P (keys_of es)
      → AllByRecursion P (keys_of (remove_entry test es))
  left_all P test [] all = tt
  left_all P test (e ∷ es) all =
      elim (test e.0) as (λ b. AllByRecursion P (keys_of (cond b es
      (e ∷ remove_entry test es)))) [
        | true ↦ all.1
        | false ↦ (all.0, left_all P test es all.1)
      ]

  pub apart_removed : (test : K → Bool) (es : List (K × X)) → Apart es
      → Apart (remove_entry test es)
  apart_removed test [] apart = apart
  apart_removed test (e ∷ es) apart =
      elim (test e.0) as (λ b. Apart (cond b es (e ∷ remove_entry test es))) [
        | true ↦ IsDistinct-tail eq e.0 (keys_of es) apart
        | false ↦ IsDistinct-cons eq e.0 (keys_of (remove_entry test es))
            (left_all (λ k. eq e.0 k ≡ false) test es (IsDistinct-head eq e.0 (keys_of es) apart))
            (apart_removed test es (IsDistinct-tail eq e.0 (keys_of es) apart))
      ]

  put_all : (P : K → Type 0) (k : K) (v : X) (es : List (K × X)) → P k
      → AllByRecursion P (keys_of es) → AllByRecursion P (keys_of (insert_entry eq es k v))
  put_all P k v [] one all = (one, tt)
  put_all P k v (e ∷ es) one all =
      elim (eq k e.0) as (λ b. AllByRecursion P (keys_of (cond b ((e.0, v) ∷ es)
      (e ∷ insert_entry eq es k v)))) [
        | true ↦ all
        | false ↦ (all.0, put_all P k v es one all.1)
      ]

  put_apart : (k : K) (v : X) (e : K × X) (es : List (K × X)) (b : Bool) → eq k e.0 ≡ b
      → Apart (e ∷ es) → Apart (insert_entry eq es k v)
      → Apart (cond b ((e.0, v) ∷ es) (e ∷ insert_entry eq es k v))
  put_apart k v e es true is apart later = apart
  put_apart k v e es false is apart later =
      IsDistinct-cons eq e.0 (keys_of (insert_entry eq es k v))
      (put_all (λ y. eq e.0 y ≡ false) k v es (laws.symm e.0 k ∙ is)
      (IsDistinct-head eq e.0 (keys_of es) apart)) later

  pub apart_inserted : (k : K) (v : X) (es : List (K × X)) → Apart es
      → Apart (insert_entry eq es k v)
  apart_inserted k v [] apart = IsDistinct-cons eq k [] tt apart
  apart_inserted k v (e ∷ es) apart =
      put_apart k v e es (eq k e.0) refl apart
      (apart_inserted k v es (IsDistinct-tail eq e.0 (keys_of es) apart))

  -- ---- a relation of what is found before and after, if nothing changes or an entry is gone

  module _ (R : Option X → Option X → Type 0) (stays : (o : Option X) → R o o)
      (ends : (o : Option X) → R o None) where
    changed_so : (change : X → X) → ((x : X) → R (Some x) (Some (change x))) → (b : Bool)
        (o : Option X) → R o (cond b (option_map change o) o)
    changed_so change step true None = stays None
    changed_so change step true (Some x) = step x
    changed_so change step false o = stays o

    pub by_change : (k q : K) (change : X → X) → ((x : X) → R (Some x) (Some (change x)))
        → (es : List (K × X))
        → R (lookup (eq q) es)
        (lookup (eq q) (option_map_or (λ x. set_value (eq k) es (change x)) (lookup (eq k) es) es))
    by_change k q change step es =
        subst (R (lookup (eq q) es)) (sym (found_changed k q change es))
        (changed_so change step (eq k q) (lookup (eq q) es))

    inserted_so : (v : X) (b : Bool) (o : Option X) → (b ≡ true → R o (Some v))
        → R o (cond b (Some v) o)
    inserted_so v true o put = put refl
    inserted_so v false o put = stays o

    pub by_insertion : (k q : K) (v : X) (es : List (K × X))
        → (eq k q ≡ true → R (lookup (eq q) es) (Some v))
        → R (lookup (eq q) es) (lookup (eq q) (insert_entry eq es k v))
    by_insertion k q v es put =
        subst (R (lookup (eq q) es)) (sym (found_inserted k q v es))
        (inserted_so v (eq k q) (lookup (eq q) es) put)

    removed_so : (b : Bool) (o : Option X) → R o (cond b None o)
    removed_so true o = ends o
    removed_so false o = stays o

    pub by_removal : (k q : K) (es : List (K × X)) → Apart es
        → R (lookup (eq q) es) (lookup (eq q) (remove_entry (eq k) es))
    by_removal k q es apart =
        subst (R (lookup (eq q) es))
        (sym (lookup-remove_entry laws (eq k) (λ y z e. laws.congr k y z e) q es apart))
        (removed_so (eq k q) (lookup (eq q) es))

    filtered_so : (p : X → Bool) (o : Option X) → R o (option_filter p o)
    filtered_so p None = stays None
    filtered_so p (Some x) =
        elim (p x) as (λ b. R (Some x) (cond b (Some x) None)) [
          | true ↦ stays (Some x)
          | false ↦ ends (Some x)
        ]

    pub by_filter : (p : X → Bool) (q : K) (es : List (K × X)) → Apart es
        → R (lookup (eq q) es) (lookup (eq q) (filter (λ e. p e.1) es))
    by_filter p q es apart =
        subst (R (lookup (eq q) es)) (sym (lookup-filter-values laws p q es apart))
        (filtered_so p (lookup (eq q) es))
