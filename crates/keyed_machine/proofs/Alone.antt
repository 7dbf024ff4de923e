-- What phases say for a key is what that key's own inputs add, and all outputs are in order.
use Rattle.std.proofs.Common.{◌≡◌, ℕ, Bool, true, false, cond, ◌&&◌, ◌||◌, List, [], ◌∷◌, ◌++◌, map, refl, sym, ◌∙◌, ap, subst, append_assoc, append-nil}
use Rattle.std.specs.Prelude.{Option, None, Some, filter, option_to_list}
use Rattle.std.specs.declared.cmp.Ordering.{Ordering}
use Rattle.std.specs.declared.cmp.Ordering.TheVariants.{Less}
use Rattle.std.specs.Cmp.{IsTotalOrder}
use Rattle.std.specs.BTreeMap.{is_at}
use Rattle.std.specs.List.{flat_map, AllByRecursion}
use Rattle.std.specs.List.Sorted.{IsStrictlySortedBy}
use Rattle.std.proofs.lemmas.Grind.{flat_map-append}
use Rattle.std.proofs.lemmas.Map.Lookups.{CmpEqualImpliesEq}
use Rattle.keyed_machine.specs.declared.item.Item.{Item}
use Rattle.keyed_machine.specs.Machine.{Machine, IsIdle, next, adds, state_from, state_after, outputs_from}
use Rattle.keyed_machine.specs.Table.{Covers}
use Rattle.keyed_machine.specs.Groups.{speaks, told_ticks}
use Rattle.keyed_machine.specs.Phase.{Phase, inputs_of, own_inputs, history, keys_of_phases, stepped, told_items, ticked, told_tick, states_after, told_next}
use Rattle.keyed_machine.specs.Laws.{InOrder, said_by, said_from}
use Rattle.keyed_machine.proofs.Ordered.{by_bool, exact_at, is_at_back, is_at_itself, ordered_nil, same_filtered}
use Rattle.keyed_machine.proofs.Tick.{has_state, silence}
use Rattle.keyed_machine.proofs.Phases.{state_from-append, phases_cover}
use Rattle.keyed_machine.proofs.Apart.{filter_map_both, both_parts}

-- ---- in order

filter_all : {X : Type 0} (P : X → Type 0) (p : X → Bool) (xs : List X) → AllByRecursion P xs
    → AllByRecursion P (filter p xs)
filter_all P p [] all = tt
filter_all P p (x ∷ xs) all =
    elim (p x) as (λ b. AllByRecursion P (cond b (x ∷ filter p xs) (filter p xs))) [
      | true ↦ (all.0, filter_all P p xs all.1)
      | false ↦ filter_all P p xs all.1
    ]

filter_sorted : {K : Type 0} (cmp : K → K → Ordering) (p : K → Bool) (xs : List K)
    → IsStrictlySortedBy cmp xs → IsStrictlySortedBy cmp (filter p xs)
unfolding IsStrictlySortedBy
filter_sorted cmp p [] sorted = tt
filter_sorted cmp p (x ∷ xs) sorted =
    elim (p x) as (λ b. IsStrictlySortedBy cmp (cond b (x ∷ filter p xs) (filter p xs))) [
      | true ↦ (filter_all (λ y. cmp x y ≡ Less) p xs sorted.0, filter_sorted cmp p xs sorted.1)
      | false ↦ filter_sorted cmp p xs sorted.1
    ]

one_sorted : {K : Type 0} (cmp : K → K → Ordering) (q : K) → IsStrictlySortedBy cmp (q ∷ [])
unfolding IsStrictlySortedBy
one_sorted cmp q = (tt, tt)

map_labels : {X Y : Type 0} (f : X → Y) (xs : List X)
    → map (λ (said : X × Y). said.0) (map (λ x. (x, f x)) xs) ≡ xs
map_labels f [] = refl
map_labels f (x ∷ xs) = ap (λ ys. x ∷ ys) (map_labels f xs)

places_stay : {K S I O : Type 0} (cmp : K → K → Ordering) (machine : Machine K S I O)
    (states : K → Option S) (items : List (Item K I))
    → map (λ said. (said.0).0) (told_items cmp machine states items)
    ≡ map (λ item. item.place) items
places_stay cmp machine states [] = refl
places_stay cmp machine states (item ∷ items) =
    ap (λ places. item.place ∷ places)
    (places_stay cmp machine (stepped cmp machine states item) items)

module _ {K S I O : Type 0} {cmp : K → K → Ordering} (total : IsTotalOrder cmp)
    (exact : CmpEqualImpliesEq cmp) (machine : Machine K S I O) (due : S → Option ℕ) (tick : ℕ → I)
    (idle : (moment : ℕ) → IsIdle machine due moment (tick moment)) where
  tick_in_order : (states : K → Option S) (moment : Option ℕ) (keys : List K)
      → IsStrictlySortedBy cmp keys → IsStrictlySortedBy cmp
      (map (λ said. said.0) (told_tick cmp machine tick states moment keys))
  tick_in_order states None keys sorted = ordered_nil cmp
  tick_in_order states (Some moment) keys sorted =
      let says : K → Bool = λ k. speaks (adds machine k (states k) (tick moment)) in
      subst (IsStrictlySortedBy cmp)
      (sym (map_labels (λ k. adds machine k (states k) (tick moment)) (filter says keys)))
      (filter_sorted cmp says keys sorted)

  pub in_order : (phases : List (Phase K I)) (phase : Phase K I)
      → InOrder cmp machine tick phases phase
  in_order phases phase = record {
    by_key = tick_in_order (states_after cmp machine tick phases) phase.moment
        (keys_of_phases cmp phases) (phases_cover cmp machine due tick idle total phases).ordered;
    by_place = places_stay cmp machine
        (ticked cmp machine tick (states_after cmp machine tick phases) phase.moment) phase.items;
  }

  -- ---- one key alone

  spoken_once : (q : K) (states : K → Option S) (moment : ℕ) (keys : List K)
      → Covers cmp keys states
      → flat_map (λ said. said.1) (filter (λ said. is_at (cmp q) said.0)
      (told_ticks machine states (tick moment) keys)) ≡ adds machine q (states q) (tick moment)
  spoken_once q states moment keys covers =
      let says : K → Bool = λ k. speaks (adds machine k (states k) (tick moment)) in
      let group : K → K × List O = λ k. (k, adds machine k (states k) (tick moment)) in
      ap (flat_map (λ (said : K × List O). said.1))
      (filter_map_both group says (λ said. is_at (cmp q) said.0) keys
      ∙ ap (map group) (same_filtered total exact (λ k. is_at (cmp q) k && says k) keys
      (q ∷ []) covers.ordered (one_sorted cmp q)
      (λ k passes.
      let both = both_parts (is_at (cmp q) k) (says k) passes in
      covers.each k (has_state machine due moment (tick moment) (idle moment) k (states k) both.1)
      ∙ sym (ap (λ b. b || false) (is_at_back total q k true both.0)))))
      ∙ ap (λ b. flat_map (λ (said : K × List O). said.1)
      (map group (cond (b && says q) (q ∷ []) []))) (is_at_itself total q)
      ∙ by_bool (says q)
      (λ on. ap (λ b. flat_map (λ (said : K × List O). said.1) (map group (cond b (q ∷ []) []))) on
      ∙ append-nil (adds machine q (states q) (tick moment)))
      (λ off. ap (λ b. flat_map (λ (said : K × List O). said.1) (map group (cond b (q ∷ []) [])))
      off ∙ sym (silence (adds machine q (states q) (tick moment)) off))

  said_to_tick : (q : K) (states : K → Option S) (moment : Option ℕ) (keys : List K)
      → Covers cmp keys states
      → flat_map (λ said. said.1) (filter (λ said. is_at (cmp q) said.0)
      (told_tick cmp machine tick states moment keys))
      ≡ outputs_from machine q (states q) (map tick (option_to_list moment))
  said_to_tick q states None keys covers = refl
  said_to_tick q states (Some moment) keys covers =
      spoken_once q states moment keys covers
      ∙ sym (append-nil (adds machine q (states q) (tick moment)))

  said_to_items : (q : K) (states : K → Option S) (items : List (Item K I))
      → flat_map (λ said. said.1) (filter (λ said. is_at (cmp q) (said.0).1)
      (told_items cmp machine states items))
      ≡ outputs_from machine q (states q) (inputs_of cmp items q)
  said_to_items q states [] = refl
  said_to_items q states (item ∷ items) =
      let first : (ℕ × K) × List O =
      ((item.place, item.key), adds machine item.key (states item.key) item.input) in
      let rest : List ((ℕ × K) × List O) =
      filter (λ said. is_at (cmp q) (said.0).1)
      (told_items cmp machine (stepped cmp machine states item) items) in
      let others : List (Item K I) = filter (λ i. is_at (cmp i.key) q) items in
      by_bool (is_at (cmp item.key) q)
      (λ hit.
      let same : item.key ≡ q = exact_at total exact item.key q hit in
      ap (λ b. flat_map (λ (said : (ℕ × K) × List O). said.1) (cond b (first ∷ rest) rest))
      (is_at_back total item.key q true hit)
      ∙ ap (λ more. adds machine item.key (states item.key) item.input ++ more)
      (said_to_items q (stepped cmp machine states item) items)
      ∙ ap (λ b. adds machine item.key (states item.key) item.input
      ++ outputs_from machine q (cond b (next machine item.key (states item.key) item.input)
      (states q)) (inputs_of cmp items q)) hit
      ∙ ap (λ k. adds machine k (states k) item.input
      ++ outputs_from machine q (next machine k (states k) item.input) (inputs_of cmp items q))
      same
      ∙ sym (ap (λ b. outputs_from machine q (states q)
      (map (λ i. i.input) (cond b (item ∷ others) others))) hit))
      (λ miss.
      ap (λ b. flat_map (λ (said : (ℕ × K) × List O). said.1) (cond b (first ∷ rest) rest))
      (is_at_back total item.key q false miss)
      ∙ said_to_items q (stepped cmp machine states item) items
      ∙ ap (λ b. outputs_from machine q
      (cond b (next machine item.key (states item.key) item.input) (states q))
      (inputs_of cmp items q)) miss
      ∙ sym (ap (λ b. outputs_from machine q (states q)
      (map (λ i. i.input) (cond b (item ∷ others) others))) miss))

  pub outputs_from-append : (q : K) (state : Option S) (before after : List I)
      → outputs_from machine q state (before ++ after) ≡ outputs_from machine q state before
      ++ outputs_from machine q (state_from machine q state before) after
  outputs_from-append q state [] after = refl
  outputs_from-append q state (input ∷ before) after =
      ap (λ more. adds machine q state input ++ more)
      (outputs_from-append q (next machine q state input) before after)
      ∙ sym (append_assoc (adds machine q state input)
      (outputs_from machine q (next machine q state input) before)
      (outputs_from machine q (state_from machine q (next machine q state input) before) after))

  ticked_is : (q : K) (states : K → Option S) (moment : Option ℕ)
      → ticked cmp machine tick states moment q
      ≡ state_from machine q (states q) (map tick (option_to_list moment))
  ticked_is q states None = refl
  ticked_is q states (Some moment) = refl

  said_in_phase : (q : K) (before : List (Phase K I)) (phase : Phase K I)
      → said_by cmp machine tick q (told_next cmp machine tick before phase)
      ≡ outputs_from machine q (states_after cmp machine tick before q)
      (own_inputs cmp tick phase q)
  said_in_phase q before phase =
      let states = states_after cmp machine tick before in
      let ticks : List I = map tick (option_to_list phase.moment) in
      let own : List I = inputs_of cmp phase.items q in
      ap (λ said. said ++ flat_map (λ (said : (ℕ × K) × List O). said.1)
      (filter (λ said. is_at (cmp q) (said.0).1)
      (told_items cmp machine (ticked cmp machine tick states phase.moment) phase.items)))
      (said_to_tick q states phase.moment (keys_of_phases cmp before)
      (phases_cover cmp machine due tick idle total before))
      ∙ ap (λ said. outputs_from machine q (states q) ticks ++ said)
      (said_to_items q (ticked cmp machine tick states phase.moment) phase.items)
      ∙ ap (λ s. outputs_from machine q (states q) ticks ++ outputs_from machine q s own)
      (ticked_is q states phase.moment)
      ∙ sym (outputs_from-append q (states q) ticks own)

  pub said_alone : (q : K) (before phases : List (Phase K I))
      → said_from cmp machine tick q before phases
      ≡ outputs_from machine q (states_after cmp machine tick before q) (history cmp tick phases q)
  said_alone q before [] = refl
  said_alone q before (phase ∷ phases) =
      let own : List I = own_inputs cmp tick phase q in
      let later : List I = history cmp tick phases q in
      let after : states_after cmp machine tick (before ++ phase ∷ []) q
      ≡ state_from machine q (states_after cmp machine tick before q) own =
      ap (state_after machine q) (flat_map-append (λ p. own_inputs cmp tick p q) before (phase ∷ [])
      ∙ ap (λ last. history cmp tick before q ++ last) (append-nil own))
      ∙ state_from-append machine q None (history cmp tick before q) own in
      ap (λ said. said ++ said_from cmp machine tick q (before ++ phase ∷ []) phases)
      (said_in_phase q before phase)
      ∙ ap (λ said. outputs_from machine q (states_after cmp machine tick before q) own ++ said)
      (said_alone q (before ++ phase ∷ []) phases)
      ∙ ap (λ s. outputs_from machine q (states_after cmp machine tick before q) own
      ++ outputs_from machine q s later) after
      ∙ sym (outputs_from-append q (states_after cmp machine tick before q) own later)
