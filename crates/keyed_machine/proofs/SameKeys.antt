-- A hash map tests its keys by `==`, which says the same as their order.
use Rattle.std.proofs.Common.{◌≡◌, List, cond, sym, ◌∙◌, ap}
use Rattle.std.specs.Prelude.{Bool, Option, None}
use Rattle.std.proofs.lemmas.Map.Lookups.{CmpEqualImpliesEq}
use Rattle.std.proofs.lemmas.Map.Views.{tells_apart}
use Rattle.std.specs.declared.cmp.Ordering.{Ordering}
use Rattle.std.specs.BTreeMap.{is_at}
use Rattle.std.specs.Map.{lookup}
use Rattle.keyed_machine.specs.Table.{state_in}
use Rattle.keyed_machine.proofs.Ordered.{by_bool}

module _ {K S : Type 0} (eq : K → K → Bool) (cmp : K → K → Ordering)
    (same : (x y : K) → eq x y ≡ is_at (cmp x) y) where
  -- what a look-up by `==` finds is the state of the key
  pub found_by_order : (entries : List (K × S)) (key : K)
      → lookup (eq key) entries ≡ state_in cmp entries key
  found_by_order entries key = λ i. lookup (λ held. same key held i) entries

  -- a step of one key by `==` is one by the order
  pub stepped_by_order : (old newer : List (K × S)) (key : K) (step : Option S → Option S)
      → ((q : K) → lookup (eq q) newer
      ≡ cond (eq key q) (step (lookup (eq key) old)) (lookup (eq q) old))
      → (q : K) → state_in cmp newer q
      ≡ cond (is_at (cmp key) q) (step (state_in cmp old key)) (state_in cmp old q)
  stepped_by_order old newer key step stepped q =
      sym (found_by_order newer q) ∙ stepped q
      ∙ (λ i. cond (same key q i) (step (found_by_order old key i)) (found_by_order old q i))

  -- a change of one key by `==` is one by the order
  pub changed_by_order : (old newer : List (K × S)) (key : K) (state : Option S)
      → ((q : K) → lookup (eq q) newer ≡ cond (eq key q) state (lookup (eq q) old))
      → (q : K) → state_in cmp newer q ≡ cond (is_at (cmp key) q) state (state_in cmp old q)
  changed_by_order old newer key state = stepped_by_order old newer key (λ _. state)

-- a key that has no state, and gets none, changes nothing
pub none_stays : {K S : Type 0} {cmp : K → K → Ordering} → CmpEqualImpliesEq cmp
    → (old newer : List (K × S)) (key : K) (after : Option S) → newer ≡ old
    → state_in cmp old key ≡ None → after ≡ None
    → (q : K) → state_in cmp newer q ≡ cond (is_at (cmp key) q) after (state_in cmp old q)
none_stays {cmp = cmp} exact old newer key after same absent none q =
    by_bool (is_at (cmp key) q)
    (λ hit. ap (λ entries. state_in cmp entries q) same
    ∙ ap (state_in cmp old) (sym (tells_apart exact key q hit)) ∙ absent ∙ sym none
    ∙ sym (ap (λ b. cond b after (state_in cmp old q)) hit))
    (λ miss. ap (λ entries. state_in cmp entries q) same
    ∙ sym (ap (λ b. cond b after (state_in cmp old q)) miss))
