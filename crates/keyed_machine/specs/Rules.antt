-- What the machines of all keys say in a phase: each input adds the outputs that the machine gives
-- to it after the key's own earlier inputs.
use Rattle.std.specs.Prelude.{◌≡◌, ℕ, nat_lt, List, [], ◌∷◌, ◌++◌, None, length, map, filter, option_to_list}
use Rattle.std.specs.declared.cmp.Ordering.{Ordering}
use Rattle.std.specs.BTreeMap.{is_at}
use Rattle.std.specs.List.{flat_map, fold}
use Rattle.std.specs.FinMap as finite
use Rattle.std.specs.FinSet.{FinSet}
use Rattle.keyed_machine.specs.declared.item.Item.{Item}
use Rattle.keyed_machine.specs.Laws.{said_from}
use Rattle.keyed_machine.specs.Machine.{Machine, state_from}
use Rattle.keyed_machine.specs.Phase.{Phase, PhaseOutputs, history, told_next}

module _ {K S I O : Type 0} (cmp : K → K → Ordering) (machine : Machine K S I O)
    (tick : ℕ → I) where
  -- the outputs to an input of a key, after all that the key was given in phases
  abbrev pub says : List (Phase K I) → K → I → List O
  says phases key input =
      (machine.step key (state_from machine key None (history cmp tick phases key)) input).1

  -- the outputs to each item, with its place and key, after phases and the items before it
  abbrev pub said_to : List (Phase K I) → Phase K I → List (Item K I) → List ((ℕ × K) × List O)
  said_to phases part [] = []
  said_to phases part (item ∷ items) =
      ((item.place, item.key), says (phases ++ part ∷ []) item.key item.input)
      ∷ said_to phases (record part { items = part.items ++ item ∷ [] }) items

  -- The outputs of a phase after others: first to its tick, for each key that had an item before
  -- and says something, in the order of the keys; then to each item.
  abbrev pub said_in : List (Phase K I) → Phase K I → PhaseOutputs K O
  said_in phases phase =
      let named : FinSet cmp = fold (λ keys item. finite.insert keys item.key tt) finite.empty
      (flat_map (λ earlier. earlier.items) phases) in
      record {
        ticks = flat_map (λ now. map (λ key. (key, says phases key (tick now)))
            (filter (λ key. nat_lt 0 (length (says phases key (tick now)))) (finite.keys named)))
            (option_to_list phase.moment);
        items = said_to phases (record { moment = phase.moment; items = [] }) phase.items;
      }

  -- the outputs of a key in phases that come after others, in order
  abbrev pub said_since : K → List (Phase K I) → List (Phase K I) → List O
  said_since key before [] = []
  said_since key before (phase ∷ phases) = let said = said_in before phase in
      (flat_map (λ group. group.1) (filter (λ group. is_at (cmp key) group.0) said.ticks)
      ++ flat_map (λ group. group.1) (filter (λ group. is_at (cmp key) (group.0).1) said.items))
      ++ said_since key (before ++ phase ∷ []) phases

  -- ---- the rules say the same as the fold over the states of all keys

  -- for a phase
  abbrev pub SaidByHistories : Type 0
  SaidByHistories = (phases : List (Phase K I)) (phase : Phase K I)
      → said_in phases phase ≡ told_next cmp machine tick phases phase

  -- for a key
  abbrev pub SaidByAKey : Type 0
  SaidByAKey = (key : K) (before phases : List (Phase K I))
      → said_since key before phases ≡ said_from cmp machine tick key before phases
