-- Maps of which each has the states of the other have the same states.
use Rattle.std.proofs.Common.{◌≡◌, List, refl, sym, ◌∙◌, subst}
use Rattle.std.specs.Prelude.{◌↔◌, All, Bool, IsTrue, Option, None, Some}
use Rattle.std.proofs.lemmas.List.Elements.{All-contains}
use Rattle.std.proofs.lemmas.Map.Lookups.{CmpEqualImpliesEq}
use Rattle.std.proofs.lemmas.Map.Views.{Contains-from_lookup, tells_apart}
use Rattle.std.specs.declared.cmp.Ordering.{Ordering}
use Rattle.std.specs.BTreeMap.{is_at}
use Rattle.std.specs.Map.{lookup}
use Rattle.keyed_machine.specs.SameTables.{HoldTheSame}
use Rattle.keyed_machine.specs.Table.{Held, state_in}
use Rattle.keyed_machine.proofs.SameKeys.{found_by_order}

-- each held key has the same state among others
abbrev pub AreAmong : {K S : Type 0} → (K → K → Ordering) → List (K × S) → List (K × S) → Type 0
AreAmong cmp states others = All (λ held. state_in cmp others held.0 ≡ Some held.1) states

-- a look-up by `==` finds what the order finds
pub among_own : {K S : Type 0} (eq : K → K → Bool) (cmp : K → K → Ordering)
    → ((x y : K) → eq x y ≡ is_at (cmp x) y) → (states : List (K × S))
    → All (λ held. lookup (eq held.0) states ≡ Some held.1) states → AreAmong cmp states states
among_own eq cmp same states all place held within =
    sym (found_by_order eq cmp same states _) ∙ all place held within

module _ {K S : Type 0} {cmp : K → K → Ordering} (exact : CmpEqualImpliesEq cmp)
    (states others : List (K × S)) where
  -- what is found for a key is found among the others too
  found_among : AreAmong cmp states others → (key : K) (state : S)
      → state_in cmp states key ≡ Some state → state_in cmp others key ≡ Some state
  found_among among key state found =
      All-contains (λ held. state_in cmp others held.0 ≡ Some held.1) states (key, state) among
      (Contains-from_lookup (tells_apart exact) key state states found)

  one_way : AreAmong cmp states others → (key : K) (state : Option S)
      → state_in cmp states key ≡ state → state_in cmp others key ≡ None
      → state_in cmp states key ≡ state_in cmp others key
  one_way among key None found none = found ∙ sym none
  one_way among key (Some state) found none = found ∙ sym (found_among among key state found)

-- each key has the same state in both, or a state in neither
other_way : {K S : Type 0} {cmp : K → K → Ordering} → CmpEqualImpliesEq cmp
    → (states others : List (K × S)) → AreAmong cmp states others → AreAmong cmp others states
    → (key : K) (other : Option S) → state_in cmp others key ≡ other
    → state_in cmp states key ≡ state_in cmp others key
other_way exact states others among back key None found =
    one_way exact states others among key _ refl found
other_way exact states others among back key (Some state) found =
    found_among exact others states back key state found ∙ sym found

pub same_by_both : {K S : Type 0} {cmp : K → K → Ordering} → CmpEqualImpliesEq cmp
    → (states others : List (K × S)) → AreAmong cmp states others → AreAmong cmp others states
    → (key : K) → state_in cmp states key ≡ state_in cmp others key
same_by_both exact states others among back key =
    other_way exact states others among back key _ refl

-- where the states are the same, each is among the others
pub among_same : {K S : Type 0} (cmp : K → K → Ordering) (states others : List (K × S))
    → AreAmong cmp states states
    → ((key : K) → state_in cmp states key ≡ state_in cmp others key)
    → AreAmong cmp states others
among_same cmp states others own same place held within =
    sym (same _) ∙ own place held within

-- tables of such maps hold the same, and no others do
pub tables_same : {K S : Type 0} (cmp : K → K → Ordering) (answer : Bool) (one other : Held K S)
    (states others : List (K × S)) → Some states ≡ one → Some others ≡ other
    → (IsTrue answer ↔ ((key : K) → state_in cmp states key ≡ state_in cmp others key))
    → IsTrue answer ↔ HoldTheSame cmp one other
tables_same cmp answer one other states others one_is other_is says =
    subst (λ t. IsTrue answer ↔ HoldTheSame cmp t other) one_is
    (subst (λ t. IsTrue answer ↔ HoldTheSame cmp (Some states) t) other_is (
      (λ yes. record { sound = refl; other_sound = refl; states = says.0 yes }),
      λ same. says.1 same.states,
    ))
