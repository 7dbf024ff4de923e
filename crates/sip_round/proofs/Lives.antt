-- Each life among the inputs of a run.
use Rattle.std.proofs.Common.{◌≡◌, List, [], ◌∷◌, ◌++◌, refl, sym, ◌∙◌, ap, append_assoc}
use Rattle.std.specs.Prelude.{Option, None}
use Rattle.keyed_machine.specs.Machine.{LifeIn, Machine, adds, next, outputs_from, said_after, said_at_first, said_in_rest, state_from}

module _ {K S I O : Type 0} (machine : Machine K S I O) (key : K) where
  pub outputs_append : (state : Option S) (before after : List I)
      → outputs_from machine key state (before ++ after) ≡ outputs_from machine key state before
      ++ outputs_from machine key (state_from machine key state before) after
  outputs_append state [] after = refl
  outputs_append state (input ∷ before) after =
      ap (λ more. adds machine key state input ++ more)
      (outputs_append (next machine key state input) before after)
      ∙ sym (append_assoc (adds machine key state input)
      (outputs_from machine key (next machine key state input) before)
      (outputs_from machine key (state_from machine key (next machine key state input) before)
      after))

  -- the outputs of inputs are those before a life, to its first input, to the rest of it, and after
  -- it
  pub in_lives : {inputs : List I} (life : LifeIn machine key inputs)
      → outputs_from machine key None inputs
      ≡ outputs_from machine key None life.before
      ++ (said_at_first life ++ (said_in_rest life ++ said_after life))
  in_lives life =
      let before = outputs_from machine key None life.before in
      let from : Option S → List O =
      λ held. outputs_from machine key held (life.first ∷ (life.rest ++ life.after)) in
      ap (outputs_from machine key None) life.are
      ∙ outputs_append None life.before (life.first ∷ (life.rest ++ life.after))
      ∙ ap (λ held. before ++ from held) life.none_before
      ∙ ap (λ more. before ++ (said_at_first life ++ more))
      (outputs_append (next machine key None life.first) life.rest life.after)
