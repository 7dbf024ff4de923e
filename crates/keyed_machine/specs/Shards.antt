-- Several tables in one phase, each with the keys that its number owns.
use Rattle.std.specs.Prelude.{◌≡◌, ◌<◌, ℕ, zero, suc, nat_eq, Bool, List, [], ◌∷◌, ◌++◌, length, map}
use Rattle.std.specs.declared.cmp.Ordering.{Ordering}
use Rattle.std.specs.Ordering.{nat_cmp}
use Rattle.std.specs.List.{flat_map}
use Rattle.std.specs.List.Sorted.{IsStrictlySortedBy}
use Rattle.keyed_machine.specs.Machine.{Machine}
use Rattle.keyed_machine.specs.Table.{Held}
use Rattle.keyed_machine.specs.Groups.{Sorts}
use Rattle.keyed_machine.specs.Phase.{Phase, AddsPhase, HoldsAfter, by_place, told_next}
use Rattle.keyed_machine.specs.Laws.{owned_phase}

-- the shard with this number owns the key
abbrev pub is_owned : {K : Type 0} → (K → ℕ) → ℕ → K → Bool
is_owned owner number key = nat_eq (owner key) number

-- the table of one shard before and after a phase, and its outputs
pub record ShardPhase (K S O : Type 0) : Type 0 where
  pub before : Held K S
  pub after : Held K S
  pub ticks : List (K × List O)
  pub items : List (ℕ × List O)

module _ {K S I O : Type 0} (cmp : K → K → Ordering) (machine : Machine K S I O) (tick : ℕ → I)
    (owner : K → ℕ) where
  -- tables, numbered upwards from this number, hold what phases left for the keys that each owns
  abbrev pub HoldFrom : ℕ → List (Held K S) → List (Phase K I) → Type 0
  HoldFrom number [] phases = Unit {0}
  HoldFrom number (table ∷ tables) phases =
      HoldsAfter cmp machine tick table (map (owned_phase (is_owned owner number)) phases)
      × HoldFrom (suc number) tables phases

  -- shards, numbered upwards from this number, are each given their part of a phase
  abbrev pub EachDeals : Phase K I → ℕ → List (ShardPhase K S O) → Type 0
  EachDeals phase number [] = Unit {0}
  EachDeals phase number (dealt ∷ rest) =
      AddsPhase cmp machine tick dealt.before dealt.after
      (owned_phase (is_owned owner number) phase) dealt.ticks dealt.items
      × EachDeals phase (suc number) rest

module _ {K S I O : Type 0} (cmp : K → K → Ordering) (machine : Machine K S I O)
    (tick : ℕ → I) where
  -- after a phase of all shards they hold what it left; their outputs, joined and sorted by key and
  -- by place, are those of all keys
  pub record TellAll (owner : K → ℕ) (phases : List (Phase K I)) (phase : Phase K I)
      (all : List (ShardPhase K S O)) : Type 0 where
    pub holds : HoldFrom cmp machine tick owner zero (map (λ dealt. dealt.after) all)
        (phases ++ phase ∷ [])
    pub ticks : (ticks : List (K × List O)) → Sorts cmp (flat_map (λ dealt. dealt.ticks) all) ticks
        → ticks ≡ (told_next cmp machine tick phases phase).ticks
    pub items : (items : List (ℕ × List O))
        → Sorts nat_cmp (flat_map (λ dealt. dealt.items) all) items
        → items ≡ map by_place (told_next cmp machine tick phases phase).items

  -- whichever shard owns each key, if there is a shard for each, and if places rise
  abbrev pub ShardsTellAll : Type 0
  ShardsTellAll = (owner : K → ℕ) (phases : List (Phase K I)) (phase : Phase K I)
      (all : List (ShardPhase K S O)) → ((key : K) → owner key < length all)
      → IsStrictlySortedBy nat_cmp (map (λ item. item.place) phase.items)
      → EachDeals cmp machine tick owner phase zero all
      → HoldFrom cmp machine tick owner zero (map (λ dealt. dealt.before) all) phases
      → TellAll owner phases phase all
