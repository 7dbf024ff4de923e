-- A value that is put at a key: in its place, or last.
use Rattle.std.proofs.Common.{append_assoc, ◌≡◌, ◌-◌, ◌<◌, Bool, true, false, cond, List, [], ◌∷◌, ◌++◌, length, take, drop, slice_get, refl, sym, ap, subst, ◌∙◌, arith}
use Rattle.std.specs.Prelude.{None, Some}
use Rattle.std.specs.Cmp.{IsEquivalence}
use Rattle.std.specs.List.{AllByRecursion, IsDistinct}
use Rattle.std.specs.Map.{keys_of, lookup, lookup_entry, remove_entry, set_value}
use Rattle.std.specs.Option.{option_map_or}
use Rattle.std.proofs.lemmas.List.{take_all}
use Rattle.std.proofs.lemmas.Map.Keys.{IsDistinct-head, IsDistinct-tail}
use Rattle.indexmap.specs.IndexMap.{insert_entry}
use Rattle.lru.specs.LruCache.{LruCache, demoted, put_entries}

module _ {K V : Type 0} (eq : K → K → Bool) (k : K) (v : V) where
  -- a key that is there keeps its place
  pub set_inserted : (es : List (K × V)) (w : V) → lookup (eq k) es ≡ Some w
      → set_value (eq k) es v ≡ insert_entry eq es k v
  set_inserted [] w is = absurd cc
  set_inserted (e ∷ es) w is = by_first (eq k e.0) is (set_inserted es w)
    where
      by_first : (b : Bool) → cond b (Some e.1) (lookup (eq k) es) ≡ Some w
          → (lookup (eq k) es ≡ Some w → set_value (eq k) es v ≡ insert_entry eq es k v)
          → cond b ((e.0, v) ∷ es) (e ∷ set_value (eq k) es v)
          ≡ cond b ((e.0, v) ∷ es) (e ∷ insert_entry eq es k v)
      by_first true is later = refl
      by_first false is later = ap (λ es. e ∷ es) (later is)

  -- a new one goes last
  pub pushed_inserted : (es : List (K × V)) → lookup (eq k) es ≡ None
      → es ++ (k, v) ∷ [] ≡ insert_entry eq es k v
  pushed_inserted [] is = refl
  pushed_inserted (e ∷ es) is = by_first (eq k e.0) is (pushed_inserted es)
    where
      by_first : (b : Bool) → cond b (Some e.1) (lookup (eq k) es) ≡ None
          → (lookup (eq k) es ≡ None → es ++ (k, v) ∷ [] ≡ insert_entry eq es k v)
          → e ∷ (es ++ (k, v) ∷ [])
          ≡ cond b ((e.0, v) ∷ es) (e ∷ insert_entry eq es k v)
      by_first true is later = absurd cc
      by_first false is later = ap (λ es. e ∷ es) (later is)

  no_entry : (es : List (K × V)) → lookup (eq k) es ≡ None → lookup_entry (eq k) es ≡ None
  no_entry [] is = refl
  no_entry (e ∷ es) is = by_first (eq k e.0) is (no_entry es)
    where
      by_first : (b : Bool) → cond b (Some e.1) (lookup (eq k) es) ≡ None
          → (lookup (eq k) es ≡ None → lookup_entry (eq k) es ≡ None)
          → cond b (Some e) (lookup_entry (eq k) es) ≡ None
      by_first true is later = absurd cc
      by_first false is later = later is

  -- put first in a map with room
  pub put_first : (c : LruCache K V) → lookup (eq k) c.entries ≡ None → length c.entries < c.cap
      → put_entries eq c k v ≡ (k, v) ∷ c.entries
  put_first c none room =
      ap (λ o. option_map_or (λ e. (e.0, v) ∷ remove_entry (eq k) c.entries) o
      ((k, v) ∷ take (c.cap - 1) c.entries)) (no_entry c.entries none)
      ∙ ap (λ es. (k, v) ∷ es) (take_all (c.cap - 1) c.entries (omega (arith, room)))

  -- and then last
  pub moved_last : IsEquivalence eq → (es : List (K × V)) → lookup (eq k) es ≡ None
      → demoted (eq k) ((k, v) ∷ es) ≡ insert_entry eq es k v
  moved_last laws es none =
      ap (λ b. option_map_or (λ e. cond b es ((k, v) ∷ remove_entry (eq k) es) ++ e ∷ [])
      (cond b (Some (k, v)) (lookup_entry (eq k) es)) ((k, v) ∷ es)) (laws.refl k)
      ∙ pushed_inserted es none

module _ {K V : Type 0} {eq : K → K → Bool} (laws : IsEquivalence eq) where
  -- no other key is that of an entry
  pub none_before : (es fs : List (K × V)) (k : K) (v : V)
      → IsDistinct eq (keys_of (es ++ (k, v) ∷ fs)) → lookup (eq k) es ≡ None
  none_before [] fs k v apart = refl
  none_before (e ∷ es) fs k v apart =
      let other : eq k e.0 ≡ false =
      laws.symm k e.0 ∙ apart_later es (IsDistinct-head eq e.0 (keys_of (es ++ (k, v) ∷ fs)) apart) in
      ap (λ b. cond b (Some e.1) (lookup (eq k) es)) other
      ∙ none_before es fs k v (IsDistinct-tail eq e.0 (keys_of (es ++ (k, v) ∷ fs)) apart)
    where
      apart_later : (es : List (K × V))
          → AllByRecursion (λ y. eq e.0 y ≡ false) (keys_of (es ++ (k, v) ∷ fs))
          → eq e.0 k ≡ false
      apart_later [] all = all.0
      apart_later (f ∷ es) all = apart_later es all.1

  pub none_after : (es : List (K × V)) (k : K) (v : V)
      → IsDistinct eq (keys_of ((k, v) ∷ es)) → lookup (eq k) es ≡ None
  none_after es k v apart = go es (IsDistinct-head eq k (keys_of es) apart)
    where
      go : (es : List (K × V)) → AllByRecursion (λ y. eq k y ≡ false) (keys_of es)
          → lookup (eq k) es ≡ None
      go [] all = refl
      go (e ∷ es) all = ap (λ b. cond b (Some e.1) (lookup (eq k) es)) all.0 ∙ go es all.1

  pub apart_rest : (es fs : List (K × V)) → IsDistinct eq (keys_of (es ++ fs))
      → IsDistinct eq (keys_of fs)
  apart_rest [] fs apart = apart
  apart_rest (e ∷ es) fs apart =
      apart_rest es fs (IsDistinct-tail eq e.0 (keys_of (es ++ fs)) apart)

  -- an entry after others, one more of them
  pub one_more : (es fs : List (K × V)) (k : K) (v : V)
      → IsDistinct eq (keys_of (es ++ (k, v) ∷ fs))
      → insert_entry eq es k v ++ fs ≡ es ++ (k, v) ∷ fs
  one_more es fs k v apart =
      ap (λ gs. gs ++ fs) (sym (pushed_inserted eq k v es (none_before es fs k v apart)))
      ∙ append_assoc es ((k, v) ∷ []) fs

  -- and one before others
  pub one_before : (es fs : List (K × V)) (k : K) (v : V)
      → IsDistinct eq (keys_of ((es ++ (k, v) ∷ []) ++ fs)) → lookup (eq k) fs ≡ None
  one_before es fs k v apart =
      none_after fs k v (apart_rest es ((k, v) ∷ fs)
      (subst (λ gs. IsDistinct eq (keys_of gs)) (append_assoc es ((k, v) ∷ []) fs) apart))

  -- ---- the steps of loops

  pub list_step : (es fs all : List (K × V)) (k : K) (v : V) → es ++ fs ≡ all
      → slice_get fs 0 ≡ Some (k, v) → IsDistinct eq (keys_of all)
      → insert_entry eq es k v ++ drop 1 fs ≡ all
  list_step es [] all k v is first apart = absurd cc
  list_step es (f ∷ fs) all k v is first apart =
      let same : f ≡ (k, v) = cc in
      let here : es ++ (k, v) ∷ fs ≡ all = ap (λ f. es ++ f ∷ fs) (sym same) ∙ is in
      one_more es fs k v (subst (λ gs. IsDistinct eq (keys_of gs)) (sym here) apart) ∙ here

  pub linked_step : (es left fs new all : List (K × V)) (k : K) (v : V) → es ++ fs ≡ all
      → es ≡ left ++ (k, v) ∷ [] → IsDistinct eq (keys_of all)
      → (lookup (eq k) fs ≡ None → new ≡ (k, v) ∷ fs) → left ++ new ≡ all
  linked_step es left fs new all k v is last apart put =
      let here : (left ++ (k, v) ∷ []) ++ fs ≡ all = ap (λ gs. gs ++ fs) (sym last) ∙ is in
      let none = one_before left fs k v
      (subst (λ gs. IsDistinct eq (keys_of gs)) (sym here) apart) in
      ap (λ gs. left ++ gs) (put none) ∙ sym (append_assoc left ((k, v) ∷ []) fs) ∙ here

pub nothing_left : {X : Type 0} (es fs all : List X) → es ++ fs ≡ all → (0 < length es → ⊥)
    → fs ≡ all
nothing_left [] fs all is none = is
nothing_left (e ∷ es) fs all is none = absurd (none (omega arith))
