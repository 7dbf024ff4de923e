-- Phases of all shards.
use Rattle.std.specs.Prelude.{◌≡◌, ◌<◌, ℕ, zero, List, [], ◌∷◌, ◌++◌, length, map, Bool, Result, Ok}
use Rattle.std.specs.List.{flat_map}
use Rattle.std.specs.List.Sorted.{IsStrictlySortedBy}
use Rattle.std.specs.Ordering.{nat_cmp}
use Rattle.std.specs.declared.cmp.Ordering.{Ordering}
use Rattle.keyed_machine.specs.Machine.{Machine, Timed}
use Rattle.keyed_machine.specs.Table.{Held}
use Rattle.keyed_machine.specs.Groups.{Sorts}
use Rattle.keyed_machine.specs.Phase.{Phase, AddsPhase, by_place, phase_at, told_next}
use Rattle.keyed_machine.specs.Shards.{HoldFrom}
use Rattle.keyed_machine.specs.declared.item.Item.{Item}
use Rattle.sip_workers.specs.Ran.{IsGathered}
use Rattle.sip_shards.specs.Parts.{cut_by}

-- the tables of all shards before and after a phase, and the outputs: there are as many tables as
-- before; whatever phases they stood for, each with its own part, they now stand for one more; and
-- the outputs are those of all keys
pub record DealsAll {K S I O : Type 0} (cmp : K → K → Ordering) (machine : Machine K S I O)
    (tick : ℕ → I) (owner : K → ℕ) (old new : List (Held K S)) (phase : Phase K I)
    (ticks : List (K × List O)) (items : List (ℕ × List O)) : Type 0 where
  pub count : length new ≡ length old
  pub stands : (phases : List (Phase K I)) → HoldFrom cmp machine tick owner zero old phases
      → HoldFrom cmp machine tick owner zero new (phases ++ phase ∷ [])
  pub ticks_told : (phases : List (Phase K I)) → HoldFrom cmp machine tick owner zero old phases
      → ticks ≡ (told_next cmp machine tick phases phase).ticks
  pub items_told : (phases : List (Phase K I)) → HoldFrom cmp machine tick owner zero old phases
      → items ≡ map by_place (told_next cmp machine tick phases phase).items

-- the same for the parts of the shards, whichever shard owns each key and whatever items were cut
abbrev pub DealsParts : {K S I O : Type 0} (cmp : K → K → Ordering) → Machine K S (Timed I) O
    → (ℕ → Timed I) → ℕ → Bool → List (List (Item K I)) → (old new : List (Held K S))
    → List (K × List O) → List (ℕ × List O) → Type 0
DealsParts {K} {S} {I} {O} cmp machine tick now with_tick parts old new ticks said =
    (owner : K → ℕ) (items : List (Item K I)) → ((key : K) → owner key < length old)
    → parts ≡ cut_by owner zero (length old) items
    → IsStrictlySortedBy nat_cmp (map (λ item. item.place) items)
    → DealsAll cmp machine tick owner old new (phase_at now with_tick items) ticks said

-- a phase without items changes nothing in the table and has no outputs
abbrev pub IsIdle : {K S I O : Type 0} → (K → K → Ordering) → Machine K S (Timed I) O
    → (ℕ → Timed I) → ℕ → Bool → Held K S → Type 0
IsIdle cmp machine tick now ticks table =
    AddsPhase cmp machine tick table table (phase_at now ticks []) [] []

-- the dones of all shards, none of which ran out of memory, taken apart: their tables in order, and
-- all outputs, one shard after another
pub record IsApart {D E T X Y : Type 0} (table : D → T) (ticks : D → List X) (items : D → List Y)
    (dones : List (Result D E)) (tables : List T) (all_ticks : List X)
    (all_items : List Y) : Type 0 where
  pub dealt : List D
  pub all_ok : dones ≡ map Ok dealt
  pub tables_are : tables ≡ map table dealt
  pub ticks_are : all_ticks ≡ flat_map ticks dealt
  pub items_are : all_items ≡ flat_map items dealt

-- the dones of all shards, gathered and taken apart, and the outputs put in order
pub record IsEnded {D E T K O : Type 0} (cmp : K → K → Ordering) (table : D → T)
    (ticks : D → List (K × List O)) (items : D → List (ℕ × List O))
    (dones : List (ℕ × Result D E)) (tables : List T) (all_ticks : List (K × List O))
    (all_items : List (ℕ × List O)) : Type 0 where
  pub gathered : List (Result D E)
  pub joined_ticks : List (K × List O)
  pub joined_items : List (ℕ × List O)
  pub is_gathered : IsGathered dones gathered
  pub apart : IsApart table ticks items gathered tables joined_ticks joined_items
  pub sorts_ticks : Sorts cmp joined_ticks all_ticks
  pub sorts_items : Sorts nat_cmp joined_items all_items
