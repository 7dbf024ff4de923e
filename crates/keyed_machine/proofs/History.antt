-- From the steps of a table to the histories that it stands for.
use Rattle.std.proofs.Common.{◌≡◌, cond, List, [], ◌∷◌, ◌++◌, refl, sym, ◌∙◌, ap, subst}
use Rattle.std.specs.Prelude.{Option, None, IsSome}
use Rattle.std.specs.declared.cmp.Ordering.{Ordering}
use Rattle.std.specs.Cmp.{IsTotalOrder}
use Rattle.std.specs.BTreeMap.{is_at}
use Rattle.std.specs.List.{flat_map}
use Rattle.std.proofs.lemmas.Map.Lookups.{CmpEqualImpliesEq}
use Rattle.keyed_machine.specs.Machine.{Machine, next, adds, state_from, state_after}
use Rattle.keyed_machine.specs.Table.{Held, state_at, StepsKey, StepsAll}
use Rattle.keyed_machine.specs.History.{AddsInput, AddsInputs}
use Rattle.keyed_machine.proofs.Ordered.{by_bool, exact_at}

module _ {K S I O : Type 0} (machine : Machine K S I O) where
  -- one more input
  pub state_from-push : (key : K) (state : Option S) (inputs : List I) (input : I)
      → state_from machine key state (inputs ++ input ∷ [])
      ≡ next machine key (state_from machine key state inputs) input
  state_from-push key state [] input = refl
  state_from-push key state (i ∷ is) input = state_from-push key (next machine key state i) is input

  pub state_after-push : (key : K) (inputs : List I) (input : I)
      → state_after machine key (inputs ++ input ∷ [])
      ≡ next machine key (state_after machine key inputs) input
  state_after-push key inputs input = state_from-push key None inputs input

flat_map-same : {X O : Type 0} (f g : X → List O) → ((x : X) → f x ≡ g x) → (xs : List X)
    → flat_map f xs ≡ flat_map g xs
flat_map-same f g same [] = refl
flat_map-same f g same (x ∷ xs) =
    ap (λ first. first ++ flat_map f xs) (same x)
    ∙ ap (λ rest. g x ++ rest) (flat_map-same f g same xs)

module _ {K S I O : Type 0} {cmp : K → K → Ordering} (exact : CmpEqualImpliesEq cmp)
    (total : IsTotalOrder cmp) {machine : Machine K S I O} where
  pub adds_input : (old new : Held K S) (key : K) (input : I) (outputs : List O)
      → StepsKey cmp machine old new key input outputs
      → AddsInput cmp machine old new key input outputs
  adds_input old new key input outputs step = record {
    stands = λ histories holds. record {
      sound = step.sound;
      states = λ q. by_bool (is_at (cmp key) q)
          (λ hit. let same : key ≡ q = exact_at total exact key q hit in
          step.states q ∙ ap (λ b. cond b (next machine key (state_at cmp old key) input)
          (state_at cmp old q)) hit
          ∙ ap (λ k. next machine k (state_at cmp old k) input) same
          ∙ ap (λ s. next machine q s input) (holds.states q)
          ∙ sym (state_after-push machine q (histories q) input)
          ∙ sym (ap (λ b. state_after machine q (cond b (histories q ++ input ∷ []) (histories q)))
          hit))
          (λ miss. step.states q ∙ ap (λ b.
          cond b (next machine key (state_at cmp old key) input) (state_at cmp old q)) miss
          ∙ holds.states q
          ∙ sym (ap (λ b. state_after machine q (cond b (histories q ++ input ∷ []) (histories q)))
          miss));
    };
    added = λ histories holds. step.added ∙ ap (λ s. adds machine key s input) (holds.states key);
  }

module _ {K S I O : Type 0} {cmp : K → K → Ordering} {machine : Machine K S I O} where
  pub adds_inputs : (old new : Held K S) (input : I) (outputs : List O)
      → StepsAll cmp machine old new input outputs → AddsInputs cmp machine old new input outputs
  adds_inputs old new input outputs step = record {
    stands = λ histories holds. record {
      sound = step.sound;
      states = λ q. step.states q ∙ ap (λ s. next machine q s input) (holds.states q)
          ∙ sym (state_after-push machine q (histories q) input);
    };
    added = λ histories holds keys covers.
        step.added keys (record {
          ordered = covers.ordered;
          each = λ key found. covers.each key (subst IsSome (holds.states key) found);
        })
        ∙ flat_map-same _ _ (λ key. ap (λ s. adds machine key s input) (holds.states key)) keys;
  }
