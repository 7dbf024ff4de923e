-- The keys of a set are in order, and one more key is put among them.
use Rattle.std.proofs.Common.{◌≡◌, Bool, true, false, cond, ◌&&◌, List, [], ◌∷◌, map, refl, sym, ◌∙◌, ap, T}
use Rattle.std.specs.Prelude.{Option, Some, is_some}
use Rattle.std.specs.declared.cmp.Ordering.{Ordering}
use Rattle.std.specs.declared.cmp.Ordering.TheVariants.{Less, Equal, Greater}
use Rattle.std.specs.Ordering.{is_lt, eq_by_cmp}
use Rattle.std.specs.Cmp.{IsTotalOrder}
use Rattle.std.specs.BTreeMap.{is_at}
use Rattle.std.specs.List.{list_any, AllByRecursion}
use Rattle.std.specs.List.Sorted.{IsStrictlySortedBy}
use Rattle.std.specs.FinMap as finite
use Rattle.std.specs.FinMap.Entries.{is_sorted, below_all}
use Rattle.std.specs.FinSet.{FinSet}
use Rattle.keyed_machine.proofs.Ordered.{is_at_back}

both_parts : (a b : Bool) → T (a && b) → T a × T b
both_parts true b h = (tt, h)
both_parts false b h = absurd h

less_from : (o : Ordering) → T (is_lt o) → o ≡ Less
less_from Less h = refl
less_from Equal h = absurd h
less_from Greater h = absurd h

module _ {K X : Type 0} (cmp : K → K → Ordering) where
  below_each : (x : K) (es : List (K × X)) → T (below_all cmp x es)
      → AllByRecursion (λ y. cmp x y ≡ Less) (map (λ e. e.0) es)
  below_each x [] h = tt
  below_each x (e ∷ es) h =
      let parts = both_parts _ _ h in (less_from _ parts.0, below_each x es parts.1)

  in_order : (es : List (K × X)) → T (is_sorted cmp es) → IsStrictlySortedBy cmp (map (λ e. e.0) es)
  unfolding IsStrictlySortedBy
  in_order [] h = tt
  in_order (e ∷ es) h =
      let parts = both_parts _ _ h in (below_each e.0 es parts.0, in_order es parts.1)

module _ {K : Type 0} {cmp : K → K → Ordering} where
  pub keys_in_order : (named : FinSet cmp) → IsStrictlySortedBy cmp (finite.keys named)
  keys_in_order named = in_order cmp (finite.entries named) (finite.entries_sorted named)

  -- a key is named if it was before, or if it is the one that was put in
  pub named_before : IsTotalOrder cmp → (named : FinSet cmp) (key q : K)
      → list_any (is_at (cmp q)) (finite.keys named) ≡ true
      → list_any (is_at (cmp q)) (finite.keys (finite.insert named key tt)) ≡ true
  named_before total named key q found =
      sym (finite.contains_key-keys (finite.insert named key tt) q)
      ∙ ap is_some (finite.get-insert total named key tt q)
      ∙ either (eq_by_cmp cmp q key) (finite.get named q) (finite.contains_key-keys named q ∙ found)
    where
      either : (b : Bool) (o : Option (Unit {0})) → is_some o ≡ true
          → is_some (cond b (Some tt) o) ≡ true
      either true o h = refl
      either false o h = h

  pub named_now : IsTotalOrder cmp → (named : FinSet cmp) (key q : K) → is_at (cmp key) q ≡ true
      → list_any (is_at (cmp q)) (finite.keys (finite.insert named key tt)) ≡ true
  named_now total named key q hit =
      sym (finite.contains_key-keys (finite.insert named key tt) q)
      ∙ ap is_some (finite.get-insert total named key tt q)
      ∙ ap (λ b. is_some (cond b (Some tt) (finite.get named q))) (is_at_back total key q true hit)
