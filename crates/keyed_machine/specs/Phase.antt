-- Phases: the inputs that the machines of all keys are given together, and their outputs.
use Rattle.std.specs.Prelude.{◌≡◌, ℕ, Bool, List, [], ◌∷◌, ◌++◌, Option, None, Some, IsSome, cond, if◌then◌else◌, map, filter, option_to_list}
use Rattle.std.specs.declared.cmp.Ordering.{Ordering}
use Rattle.std.specs.BTreeMap.{is_at}
use Rattle.std.specs.List.{flat_map, fold}
use Rattle.std.specs.FinMap as finite
use Rattle.std.specs.FinSet.{FinSet}
use Rattle.keyed_machine.specs.declared.item.Item.{Item}
use Rattle.keyed_machine.specs.Machine.{Machine, Timed, given_at, next, adds, state_after}
use Rattle.keyed_machine.specs.Table.{Held, Covers, state_at}
use Rattle.keyed_machine.specs.Groups.{told_ticks}

-- a tick of every key at a moment in ms, if there is one, and then items, in their order
pub record Phase (K I : Type 0) : Type 0 where
  pub moment : Option ℕ
  pub items : List (Item K I)

-- an item at a moment in ms
abbrev pub timed_item : {K I : Type 0} → ℕ → Item K I → Item K (Timed I)
timed_item now item =
    record { place = item.place; key = item.key; input = given_at now item.input }

-- items, each at the moment of the phase
abbrev pub timed_items : {K I : Type 0} → ℕ → List (Item K I) → List (Item K (Timed I))
timed_items now items = map (timed_item now) items

-- a phase at a moment in ms, with a tick or without
abbrev pub phase_at : {K I : Type 0} → ℕ → Bool → List (Item K I) → Phase K (Timed I)
phase_at now ticks items = record {
  moment = if ticks then Some now else None;
  items = map (λ item.
      record { place = item.place; key = item.key; input = given_at now item.input }) items;
}

-- the outputs of a phase: of each key to the tick, and to each item, with its place and its key
pub record PhaseOutputs (K O : Type 0) : Type 0 where
  pub ticks : List (K × List O)
  pub items : List ((ℕ × K) × List O)

abbrev pub by_place : {K O : Type 0} → (ℕ × K) × List O → ℕ × List O
by_place said = ((said.0).0, said.1)

-- ---- each key's own inputs

module _ {K I : Type 0} (cmp : K → K → Ordering) where
  -- the inputs of one key, in their order
  abbrev pub inputs_of : List (Item K I) → K → List I
  inputs_of items key = map (λ item. item.input) (filter (λ item. is_at (cmp item.key) key) items)

module _ {K I : Type 0} (cmp : K → K → Ordering) (tick : ℕ → I) where
  -- the tick of each phase, and then the items of this key
  abbrev pub own_inputs : Phase K I → K → List I
  own_inputs phase key = map tick (option_to_list phase.moment) ++ inputs_of cmp phase.items key

  -- all inputs of a key in phases, oldest first: of each phase the tick, and then its own items
  abbrev pub history : List (Phase K I) → K → List I
  history phases key = flat_map (λ phase. map tick (option_to_list phase.moment)
      ++ map (λ item. item.input) (filter (λ item. is_at (cmp item.key) key) phase.items)) phases

-- the keys of items, each once
abbrev pub named_by : {K I : Type 0} {cmp : K → K → Ordering} → FinSet cmp → List (Item K I)
    → FinSet cmp
named_by named items = fold (λ keys item. finite.insert keys item.key tt) named items

-- the keys that have had items, in order
abbrev pub keys_of_phases : {K I : Type 0} → (K → K → Ordering) → List (Phase K I) → List K
keys_of_phases cmp phases =
    finite.keys (named_by {cmp = cmp} finite.empty (flat_map (λ phase. phase.items) phases))

-- ---- the state of each key, and the outputs

module _ {K S I O : Type 0} (cmp : K → K → Ordering) (machine : Machine K S I O) where
  -- one item is a step of its key, and of no other
  abbrev pub stepped : (K → Option S) → Item K I → K → Option S
  stepped states item key = cond (is_at (cmp item.key) key)
      (next machine item.key (states item.key) item.input) (states key)

  abbrev pub states_then : (K → Option S) → List (Item K I) → K → Option S
  states_then states [] = states
  states_then states (item ∷ items) = states_then (stepped states item) items

  -- the outputs of each item, one after another
  abbrev pub told_items : (K → Option S) → List (Item K I) → List ((ℕ × K) × List O)
  told_items states [] = []
  told_items states (item ∷ items) =
      ((item.place, item.key), adds machine item.key (states item.key) item.input)
      ∷ told_items (stepped states item) items

module _ {K S I O : Type 0} (cmp : K → K → Ordering) (machine : Machine K S I O)
    (tick : ℕ → I) where
  -- a tick is a step of every key
  abbrev pub ticked : (K → Option S) → Option ℕ → K → Option S
  ticked states None = states
  ticked states (Some moment) = λ key. next machine key (states key) (tick moment)

  -- the outputs of these keys to it
  abbrev pub told_tick : (K → Option S) → Option ℕ → List K → List (K × List O)
  told_tick states None keys = []
  told_tick states (Some moment) keys = told_ticks machine states (tick moment) keys

  -- each key's state is the one after its own inputs
  abbrev pub states_after : List (Phase K I) → K → Option S
  states_after phases key = state_after machine key (history cmp tick phases key)

  -- the outputs of a phase that comes after others
  abbrev pub told_next : List (Phase K I) → Phase K I → PhaseOutputs K O
  told_next phases phase = record {
    ticks = told_tick (states_after phases) phase.moment (keys_of_phases cmp phases);
    items = told_items cmp machine (ticked (states_after phases) phase.moment) phase.items;
  }

  -- a table holds for each key the state after these phases, and nothing else
  pub record HoldsAfter (table : Held K S) (phases : List (Phase K I)) : Type 0 where
    pub sound : IsSome table
    pub states : (key : K) → state_at cmp table key ≡ states_after phases key

  -- a table before and after a phase, by look-ups, and the outputs
  pub record DealsPhase (old new : Held K S) (phase : Phase K I) (ticks : List (K × List O))
      (items : List (ℕ × List O)) : Type 0 where
    pub sound : IsSome new
    pub states : (key : K) → state_at cmp new key
        ≡ states_then cmp machine (ticked (state_at cmp old) phase.moment) phase.items key
    pub ticks_told : (keys : List K) → Covers cmp keys (state_at cmp old)
        → ticks ≡ told_tick (state_at cmp old) phase.moment keys
    pub items_told : items ≡ map by_place
        (told_items cmp machine (ticked (state_at cmp old) phase.moment) phase.items)

  -- whatever phases the table held the states of, it now holds those with this one added, and the
  -- outputs are those that this phase adds
  pub record AddsPhase (old new : Held K S) (phase : Phase K I) (ticks : List (K × List O))
      (items : List (ℕ × List O)) : Type 0 where
    pub stands : (phases : List (Phase K I)) → HoldsAfter old phases
        → HoldsAfter new (phases ++ phase ∷ [])
    pub ticks_told : (phases : List (Phase K I)) → HoldsAfter old phases
        → ticks ≡ (told_next phases phase).ticks
    pub items_told : (phases : List (Phase K I)) → HoldsAfter old phases
        → items ≡ map by_place (told_next phases phase).items
