-- The outputs of phases, said by each key's own inputs, are those said by the states.
use Rattle.std.proofs.Common.{◌≡◌, ℕ, List, [], ◌∷◌, ◌++◌, map, refl, ◌∙◌, ap, append-nil, arith}
use Rattle.std.specs.Prelude.{Option, None, Some, filter, option_to_list, nat_lt, length}
use Rattle.std.specs.declared.cmp.Ordering.{Ordering}
use Rattle.std.specs.Cmp.{IsTotalOrder}
use Rattle.std.specs.List.{flat_map}
use Rattle.std.proofs.lemmas.Map.Lookups.{CmpEqualImpliesEq}
use Rattle.keyed_machine.specs.declared.item.Item.{Item}
use Rattle.keyed_machine.specs.Groups.{speaks}
use Rattle.keyed_machine.specs.Machine.{Machine, adds}
use Rattle.keyed_machine.specs.Phase.{Phase, keys_of_phases, states_after, states_then, stepped, ticked, told_items, told_tick}
use Rattle.keyed_machine.specs.Laws.{said_by}
use Rattle.keyed_machine.specs.Rules.{SaidByAKey, SaidByHistories, said_to}
use Rattle.keyed_machine.proofs.Phases.{states_after_phase}

spoken : {O : Type 0} (outs : List O) → nat_lt 0 (length outs) ≡ speaks outs
spoken [] = refl
spoken (out ∷ outs) = grind arith

states_then-append : {K S I O : Type 0} (cmp : K → K → Ordering) (machine : Machine K S I O)
    (states : K → Option S) (items : List (Item K I)) (item : Item K I)
    → states_then cmp machine states (items ++ item ∷ [])
    ≡ stepped cmp machine (states_then cmp machine states items) item
states_then-append cmp machine states [] item = refl
states_then-append cmp machine states (first ∷ items) item =
    states_then-append cmp machine (stepped cmp machine states first) items item

module _ {K S I O : Type 0} {cmp : K → K → Ordering} (total : IsTotalOrder cmp)
    (exact : CmpEqualImpliesEq cmp) (machine : Machine K S I O) (tick : ℕ → I) where
  -- the outputs of items after those of the phase so far
  to_items : (phases : List (Phase K I)) (part : Phase K I) (items : List (Item K I))
      → said_to cmp machine tick phases part items
      ≡ told_items cmp machine (states_then cmp machine (ticked cmp machine tick
      (states_after cmp machine tick phases) part.moment) part.items) items
  to_items phases part [] = refl
  to_items phases part (item ∷ items) =
      let before = states_then cmp machine (ticked cmp machine tick
      (states_after cmp machine tick phases) part.moment) part.items in
      let here = states_after_phase total exact machine tick phases part item.key in
      let later = to_items phases (record part { items = part.items ++ item ∷ [] }) items
      ∙ ap (λ states. told_items cmp machine states items)
      (states_then-append cmp machine (ticked cmp machine tick
      (states_after cmp machine tick phases) part.moment) part.items item) in
      λ i. ((item.place, item.key), adds machine item.key (here i) item.input) ∷ later i

  to_ticks : (states : K → Option S) (moment : Option ℕ) (keys : List K)
      → flat_map (λ now. map (λ key. (key, adds machine key (states key) (tick now)))
      (filter (λ key. nat_lt 0 (length (adds machine key (states key) (tick now)))) keys))
      (option_to_list moment)
      ≡ told_tick cmp machine tick states moment keys
  to_ticks states None keys = refl
  to_ticks states (Some now) keys =
      append-nil (map (λ key. (key, adds machine key (states key) (tick now)))
      (filter (λ key. nat_lt 0 (length (adds machine key (states key) (tick now)))) keys))
      ∙ λ i. map (λ key. (key, adds machine key (states key) (tick now)))
      (filter (λ key. spoken (adds machine key (states key) (tick now)) i) keys)

  pub said_by_histories : SaidByHistories cmp machine tick
  said_by_histories phases phase =
      let ticks = to_ticks (states_after cmp machine tick phases) phase.moment
      (keys_of_phases cmp phases) in
      let items = to_items phases (record { moment = phase.moment; items = [] }) phase.items in
      λ i. record { ticks = ticks i; items = items i }

  pub said_by_a_key : SaidByAKey cmp machine tick
  said_by_a_key key before [] = refl
  said_by_a_key key before (phase ∷ phases) =
      let here = said_by_histories before phase in
      let later = said_by_a_key key (before ++ phase ∷ []) phases in
      λ i. said_by cmp machine tick key (here i) ++ later i
