-- The held keys are the keys with a state in any ordered list that has them all.
use Rattle.std.proofs.Common.{◌≡◌, true, false, List, length, refl, sym, ◌∙◌, ap, subst}
use Rattle.std.specs.Prelude.{Bool, is_some, filter, count_by, ◌&&◌}
use Rattle.std.specs.declared.cmp.Ordering.{Ordering}
use Rattle.std.proofs.lemmas.List.Kept.{IsStrictlySortedBy-filter}
use Rattle.std.proofs.lemmas.List.Sums.{length-filter}
use Rattle.std.proofs.lemmas.Map.Entries.{length-keys_of}
use Rattle.std.proofs.lemmas.Map.Keys.{IsDistinct-from_sorted}
use Rattle.std.proofs.lemmas.Map.Lookups.{CmpEqualImpliesEq}
use Rattle.std.proofs.lemmas.Map.Made.{is_some-lookup, length-from_same_keys}
use Rattle.std.proofs.lemmas.Map.Views.{any-filter_same, tells_apart}
use Rattle.std.specs.Cmp.{IsTotalOrder, eq_by_cmp_equiv}
use Rattle.std.specs.Ordering.{eq_by_cmp}
use Rattle.std.specs.BTreeMap.{is_at}
use Rattle.std.specs.Map.{lookup, keys_of}
use Rattle.std.specs.List.{list_any, IsDistinct}
use Rattle.keyed_machine.specs.Table.{Held, entries_of, state_at, Covers}

-- what is true of one side is true of both, if the other follows from it
and_follows : (a b : Bool) → (a ≡ true → b ≡ true) → (a && b) ≡ a
and_follows true b follows = follows refl
and_follows false b follows = refl

module _ {K S : Type 0} {cmp : K → K → Ordering} (total : IsTotalOrder cmp)
    (exact : CmpEqualImpliesEq cmp) (es : List (K × S))
    (apart : IsDistinct (eq_by_cmp cmp) (keys_of es)) where
  abbrev has_state : K → Bool
  has_state key = is_some (lookup (is_at (cmp key)) es)

  -- a key with a state is among keys that cover the states
  among_those : (keys : List K) → Covers cmp keys (λ key. lookup (is_at (cmp key)) es) → (q : K)
      → list_any (eq_by_cmp cmp q) (filter has_state keys)
      ≡ list_any (eq_by_cmp cmp q) (keys_of es)
  among_those keys covers q =
      any-filter_same (eq_by_cmp cmp q) has_state (has_state q)
      (λ k tied. ap has_state (sym (tells_apart exact q k tied))) keys
      ∙ and_follows (has_state q) (list_any (eq_by_cmp cmp q) keys) (covers.each q)
      ∙ is_some-lookup (is_at (cmp q)) es

  -- so there are as many of them
  pub count_held : (keys : List K) → Covers cmp keys (λ key. lookup (is_at (cmp key)) es)
      → length es ≡ count_by has_state keys
  count_held keys covers =
      sym (length-keys_of es)
      ∙ sym (length-from_same_keys (eq_by_cmp_equiv total) (filter has_state keys) (keys_of es)
      (IsDistinct-from_sorted cmp (filter has_state keys)
      (IsStrictlySortedBy-filter cmp has_state keys covers.ordered)) apart
      (among_those keys covers))
      ∙ length-filter has_state keys

-- how many keys a table holds, if `held` is its value
pub count_live : {K S : Type 0} {cmp : K → K → Ordering} → IsTotalOrder cmp
    → CmpEqualImpliesEq cmp → (held table : Held K S) → held ≡ table
    → IsDistinct (eq_by_cmp cmp) (keys_of (entries_of held))
    → (keys : List K) → Covers cmp keys (state_at cmp table)
    → length (entries_of held) ≡ count_by (λ key. is_some (state_at cmp table key)) keys
count_live {K} {S} {cmp} total exact held table same apart keys covers =
    ap (λ t. length (entries_of t)) same
    ∙ count_held total exact (entries_of table)
    (subst (λ t. IsDistinct (eq_by_cmp cmp) (keys_of (entries_of t))) same apart) keys covers
