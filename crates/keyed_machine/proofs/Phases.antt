-- Phases: from the steps of a table to the own inputs of each key.
use Rattle.std.proofs.Common.{◌≡◌, ℕ, Bool, true, false, cond, List, [], ◌∷◌, ◌++◌, map, refl, sym, ◌∙◌, ap, subst, append-nil}
use Rattle.std.specs.Prelude.{Option, None, Some, is_some, IsSome, filter, option_to_list}
use Rattle.std.specs.declared.cmp.Ordering.{Ordering}
use Rattle.std.specs.Cmp.{IsTotalOrder}
use Rattle.std.specs.BTreeMap.{is_at}
use Rattle.std.specs.List.{flat_map, list_any, AllByRecursion}
use Rattle.std.specs.FinMap as finite
use Rattle.std.specs.FinSet.{FinSet}
use Rattle.std.proofs.lemmas.Bool.{false≢true}
use Rattle.std.proofs.lemmas.Grind.{flat_map-append}
use Rattle.std.proofs.lemmas.Map.Lookups.{CmpEqualImpliesEq}
use Rattle.keyed_machine.specs.declared.item.Item.{Item}
use Rattle.keyed_machine.specs.Machine.{Machine, IsIdle, next, state_from, state_after}
use Rattle.keyed_machine.specs.Table.{Held, Covers, state_at, state_in}
use Rattle.keyed_machine.specs.Phase.{Phase, by_place, told_items, told_tick, DealsPhase, AddsPhase, inputs_of, own_inputs, history, named_by, keys_of_phases, stepped, states_then, ticked, states_after, HoldsAfter}
use Rattle.keyed_machine.proofs.Ordered.{by_bool, exact_at}
use Rattle.keyed_machine.proofs.Named.{keys_in_order, named_before, named_now}

module _ {K S I O : Type 0} (machine : Machine K S I O) where
  pub state_from-append : (key : K) (state : Option S) (before after : List I)
      → state_from machine key state (before ++ after)
      ≡ state_from machine key (state_from machine key state before) after
  state_from-append key state [] after = refl
  state_from-append key state (input ∷ before) after =
      state_from-append key (next machine key state input) before after

module _ {K S I O : Type 0} {cmp : K → K → Ordering} (total : IsTotalOrder cmp)
    (exact : CmpEqualImpliesEq cmp) (machine : Machine K S I O) where
  -- a key's state after items is the one after its own inputs among them
  pub own_items : (states : K → Option S) (items : List (Item K I)) (q : K)
      → states_then cmp machine states items q
      ≡ state_from machine q (states q) (inputs_of cmp items q)
  own_items states [] q = refl
  own_items states (item ∷ items) q =
      own_items (stepped cmp machine states item) items q
      ∙ by_bool (is_at (cmp item.key) q)
      (λ hit.
      ap (λ b. state_from machine q (cond b (next machine item.key (states item.key) item.input)
      (states q)) (inputs_of cmp items q)) hit
      ∙ ap (λ k. state_from machine q (next machine k (states k) item.input)
      (inputs_of cmp items q)) (exact_at total exact item.key q hit)
      ∙ sym (ap (λ b. state_from machine q (states q)
      (map (λ i. i.input) (cond b (item ∷ filter (λ i. is_at (cmp i.key) q) items)
      (filter (λ i. is_at (cmp i.key) q) items)))) hit))
      (λ miss.
      ap (λ b. state_from machine q (cond b (next machine item.key (states item.key) item.input)
      (states q)) (inputs_of cmp items q)) miss
      ∙ sym (ap (λ b. state_from machine q (states q)
      (map (λ i. i.input) (cond b (item ∷ filter (λ i. is_at (cmp i.key) q) items)
      (filter (λ i. is_at (cmp i.key) q) items)))) miss))

  module _ (tick : ℕ → I) where
    own_tick : (states : K → Option S) (moment : Option ℕ) (q : K)
        → ticked cmp machine tick states moment q
        ≡ state_from machine q (states q) (map tick (option_to_list moment))
    own_tick states None q = refl
    own_tick states (Some moment) q = refl

    -- the states after one more phase
    pub states_after_phase : (phases : List (Phase K I)) (phase : Phase K I) (q : K)
        → states_after cmp machine tick (phases ++ phase ∷ []) q
        ≡ states_then cmp machine (ticked cmp machine tick
        (states_after cmp machine tick phases) phase.moment) phase.items q
    states_after_phase phases phase q =
        ap (state_after machine q) (flat_map-append (λ p. own_inputs cmp tick p q) phases
        (phase ∷ []) ∙ ap (λ last. history cmp tick phases q ++ last)
        (append-nil (own_inputs cmp tick phase q)))
        ∙ state_from-append machine q None (history cmp tick phases q) (own_inputs cmp tick phase q)
        ∙ state_from-append machine q (states_after cmp machine tick phases q)
        (map tick (option_to_list phase.moment)) (inputs_of cmp phase.items q)
        ∙ ap (λ s. state_from machine q s (inputs_of cmp phase.items q))
        (sym (own_tick (states_after cmp machine tick phases) phase.moment q))
        ∙ sym (own_items (ticked cmp machine tick
        (states_after cmp machine tick phases) phase.moment) phase.items q)

    -- a table that held the states after some phases holds those after one more
    pub holds_one_more : (old new : Held K S) (phases : List (Phase K I)) (phase : Phase K I)
        → IsSome new
        → ((q : K) → state_at cmp new q
        ≡ states_then cmp machine (ticked cmp machine tick (state_at cmp old) phase.moment)
        phase.items q)
        → HoldsAfter cmp machine tick old phases
        → HoldsAfter cmp machine tick new (phases ++ phase ∷ [])
    holds_one_more old new phases phase sound steps holds =
        let same : state_at cmp old ≡ states_after cmp machine tick phases =
        λ i q. holds.states q i in
        record {
          sound = sound;
          states = λ q. steps q ∙ ap (λ s.
              states_then cmp machine (ticked cmp machine tick s phase.moment) phase.items q) same
              ∙ sym (states_after_phase phases phase q);
        }

-- ---- the keys that have had items are all keys that have a state

abbrev among : {K : Type 0} {cmp : K → K → Ordering} → K → FinSet cmp → Bool
among {cmp = cmp} q named = list_any (is_at (cmp q)) (finite.keys named)

module _ {K I : Type 0} {cmp : K → K → Ordering} (total : IsTotalOrder cmp) where
  still_named : (named : FinSet cmp) (items : List (Item K I)) (q : K) → among q named ≡ true
      → among q (named_by named items) ≡ true
  still_named named [] q here = here
  still_named named (item ∷ items) q here =
      still_named (finite.insert named item.key tt) items q
      (named_before total named item.key q here)

  -- no item has a key that isn't named
  unnamed : (named : FinSet cmp) (items : List (Item K I)) (q : K)
      → among q (named_by named items) ≡ false
      → AllByRecursion (λ item. is_at (cmp item.key) q ≡ false) items
  unnamed named [] q absent = tt
  unnamed named (item ∷ items) q absent = (
    by_bool (is_at (cmp item.key) q)
        (λ hit. absurd (false≢true (sym absent
        ∙ still_named (finite.insert named item.key tt) items q
        (named_now total named item.key q hit))))
        (λ miss. miss),
    unnamed (finite.insert named item.key tt) items q absent,
  )

none_of : {K I : Type 0} (cmp : K → K → Ordering) (items : List (Item K I)) (q : K)
    → AllByRecursion (λ item. is_at (cmp item.key) q ≡ false) items → inputs_of cmp items q ≡ []
none_of cmp [] q all = refl
none_of cmp (item ∷ items) q all = rw (all.0) (none_of cmp items q all.1)

all_front : {X : Type 0} (P : X → Type 0) (xs ys : List X) → AllByRecursion P (xs ++ ys)
    → AllByRecursion P xs
all_front P [] ys all = tt
all_front P (x ∷ xs) ys all = (all.0, all_front P xs ys all.1)

all_back : {X : Type 0} (P : X → Type 0) (xs ys : List X) → AllByRecursion P (xs ++ ys)
    → AllByRecursion P ys
all_back P [] ys all = all
all_back P (x ∷ xs) ys all = all_back P xs ys all.1

module _ {K S I O : Type 0} (cmp : K → K → Ordering) (machine : Machine K S I O)
    (due : S → Option ℕ) (tick : ℕ → I)
    (idle : (moment : ℕ) → IsIdle machine due moment (tick moment)) where
  pub still_none : (q : K) (moment : Option ℕ)
      → state_from machine q None (map tick (option_to_list moment)) ≡ None
  still_none q None = refl
  still_none q (Some moment) = ap (λ r. r.0) (idle moment q None refl)

  -- a key without items has no state
  pub none_without_items : (phases : List (Phase K I)) (q : K)
      → AllByRecursion (λ item. is_at (cmp item.key) q ≡ false)
      (flat_map (λ phase. phase.items) phases)
      → states_after cmp machine tick phases q ≡ None
  none_without_items [] q all = refl
  none_without_items (phase ∷ phases) q all =
      let own : List I = own_inputs cmp tick phase q in
      let here : state_from machine q None own ≡ None =
      ap (λ inputs. state_from machine q None (map tick (option_to_list phase.moment) ++ inputs))
      (none_of cmp phase.items q (all_front (λ item. is_at (cmp item.key) q ≡ false) phase.items
      (flat_map (λ p. p.items) phases) all))
      ∙ ap (state_from machine q None) (append-nil (map tick (option_to_list phase.moment)))
      ∙ still_none q phase.moment in
      state_from-append machine q None own (history cmp tick phases q)
      ∙ ap (λ s. state_from machine q s (history cmp tick phases q)) here
      ∙ none_without_items phases q (all_back (λ item. is_at (cmp item.key) q ≡ false) phase.items
      (flat_map (λ p. p.items) phases) all)

  pub phases_cover : IsTotalOrder cmp → (phases : List (Phase K I))
      → Covers cmp (keys_of_phases cmp phases) (states_after cmp machine tick phases)
  phases_cover total phases = record {
    ordered = keys_in_order (named_by finite.empty (flat_map (λ phase. phase.items) phases));
    each = λ q held. by_bool (list_any (is_at (cmp q)) (keys_of_phases cmp phases))
        (λ here. here)
        (λ absent. absurd (false≢true (sym
        (ap is_some (none_without_items phases q
        (unnamed total finite.empty (flat_map (λ phase. phase.items) phases) q absent)))
        ∙ held)));
  }

-- ---- a phase of a table

module _ {K S I O : Type 0} (cmp : K → K → Ordering) (machine : Machine K S I O)
    (tick : ℕ → I) where
  pub deals_phase : (old middle new : List (K × S)) (phase : Phase K I) (ticks : List (K × List O))
      (items : List (ℕ × List O))
      → ((q : K) → state_in cmp middle q
      ≡ ticked cmp machine tick (state_in cmp old) phase.moment q)
      → ((q : K) → state_in cmp new q ≡ states_then cmp machine (state_in cmp middle) phase.items q)
      → ((keys : List K) → Covers cmp keys (state_in cmp old)
      → ticks ≡ told_tick cmp machine tick (state_in cmp old) phase.moment keys)
      → items ≡ map by_place (told_items cmp machine (state_in cmp middle) phase.items)
      → DealsPhase cmp machine tick (Some old) (Some new) phase ticks items
  deals_phase old middle new phase ticks items tick_steps item_steps ticks_are items_are =
      let same : state_in cmp middle ≡ ticked cmp machine tick (state_in cmp old) phase.moment =
      λ i q. tick_steps q i in
      record {
        sound = refl;
        states = λ q. item_steps q ∙ ap (λ s. states_then cmp machine s phase.items q) same;
        ticks_told = λ keys covers. ticks_are keys
            (record { ordered = covers.ordered; each = covers.each });
        items_told = items_are ∙ ap (λ s. map by_place (told_items cmp machine s phase.items)) same;
      }

pub adds_phase : {K S I O : Type 0} {cmp : K → K → Ordering} → IsTotalOrder cmp
    → CmpEqualImpliesEq cmp → (machine : Machine K S I O) (due : S → Option ℕ) (tick : ℕ → I)
    → ((moment : ℕ) → IsIdle machine due moment (tick moment))
    → (old new : Held K S) (phase : Phase K I) (ticks : List (K × List O))
    (items : List (ℕ × List O)) → DealsPhase cmp machine tick old new phase ticks items
    → AddsPhase cmp machine tick old new phase ticks items
adds_phase {K} {S} {I} {O} {cmp} total exact machine due tick idle old new phase ticks items deals =
    record {
      stands = λ phases holds. holds_one_more total exact machine tick old new phases phase
          deals.sound
          deals.states holds;
      ticks_told = λ phases holds.
          let same : state_at cmp old ≡ states_after cmp machine tick phases =
          λ i q. holds.states q i in
          let covers : Covers cmp (keys_of_phases cmp phases)
          (states_after cmp machine tick phases) =
          phases_cover cmp machine due tick idle total phases in
          deals.ticks_told (keys_of_phases cmp phases)
          (record {
            ordered = covers.ordered;
            each = λ q held. covers.each q (subst IsSome (holds.states q) held);
          })
          ∙ ap (λ s. told_tick cmp machine tick s phase.moment (keys_of_phases cmp phases)) same;
      items_told = λ phases holds.
          let same : state_at cmp old ≡ states_after cmp machine tick phases =
          λ i q. holds.states q i in
          deals.items_told ∙ ap (λ s. map by_place
          (told_items cmp machine (ticked cmp machine tick s phase.moment) phase.items)) same;
    }
