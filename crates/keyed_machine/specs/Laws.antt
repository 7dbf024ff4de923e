-- Laws of every machine, for any phases.
use Rattle.std.specs.Prelude.{◌≡◌, ℕ, Bool, List, [], ◌∷◌, ◌++◌, None, cond, map, filter}
use Rattle.std.specs.declared.cmp.Ordering.{Ordering}
use Rattle.std.specs.BTreeMap.{is_at}
use Rattle.std.specs.List.{flat_map}
use Rattle.std.specs.List.Sorted.{IsStrictlySortedBy}
use Rattle.keyed_machine.specs.Machine.{Machine, outputs_from}
use Rattle.keyed_machine.specs.Phase.{Phase, PhaseOutputs, history, states_after, told_next}

-- ---- shards

-- the part of a phase for a shard that owns some keys: the tick, and the items of those keys
abbrev pub owned_phase : {K I : Type 0} → (K → Bool) → Phase K I → Phase K I
owned_phase owns phase =
    record { moment = phase.moment; items = filter (λ item. owns item.key) phase.items }

-- the part of the outputs that those keys give
abbrev pub owned_told : {K O : Type 0} → (K → Bool) → PhaseOutputs K O → PhaseOutputs K O
owned_told owns told = record {
  ticks = filter (λ said. owns said.0) told.ticks;
  items = filter (λ said. owns (said.0).1) told.items;
}

module _ {K S I O : Type 0} (cmp : K → K → Ordering) (machine : Machine K S I O)
    (tick : ℕ → I) where
  -- a shard that is given its part of each phase says its part of the outputs
  abbrev pub ShardsWorkApart : Type 0
  ShardsWorkApart = (owns : K → Bool) (phases : List (Phase K I)) (phase : Phase K I)
      → told_next cmp machine tick (map (owned_phase owns) phases) (owned_phase owns phase)
      ≡ owned_told owns (told_next cmp machine tick phases phase)

  -- and it then holds the states that all phases leave for its own keys, and nothing for others
  abbrev pub ShardsHoldApart : Type 0
  ShardsHoldApart = (owns : K → Bool) (phases : List (Phase K I)) (key : K)
      → states_after cmp machine tick (map (owned_phase owns) phases) key
      ≡ cond (owns key) (states_after cmp machine tick phases key) None

  -- the outputs of a tick are in the order of the keys, and those of items in the order of their
  -- places
  pub record InOrder (phases : List (Phase K I)) (phase : Phase K I) : Type 0 where
    pub by_key : IsStrictlySortedBy cmp
        (map (λ said. said.0) (told_next cmp machine tick phases phase).ticks)
    pub by_place : map (λ said. (said.0).0) (told_next cmp machine tick phases phase).items
        ≡ map (λ item. item.place) phase.items

  abbrev pub ToldInOrder : Type 0
  ToldInOrder = (phases : List (Phase K I)) (phase : Phase K I) → InOrder phases phase

  -- ---- one key alone

  -- the outputs of a key in a phase, in order
  abbrev pub said_by : K → PhaseOutputs K O → List O
  said_by key told = flat_map (λ said. said.1) (filter (λ said. is_at (cmp key) said.0) told.ticks)
      ++ flat_map (λ said. said.1) (filter (λ said. is_at (cmp key) (said.0).1) told.items)

  -- its outputs in phases that come after others
  abbrev pub said_from : K → List (Phase K I) → List (Phase K I) → List O
  said_from key before [] = []
  said_from key before (phase ∷ phases) =
      said_by key (told_next cmp machine tick before phase)
      ++ said_from key (before ++ phase ∷ []) phases

  -- the outputs of phases for a key, after other phases, are those that the key's own inputs add
  abbrev pub EachKeyAlone : Type 0
  EachKeyAlone = (before phases : List (Phase K I)) (key : K)
      → said_from key before phases
      ≡ outputs_from machine key (states_after cmp machine tick before key)
      (history cmp tick phases key)
