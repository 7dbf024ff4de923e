-- A phase of all shards from its pieces, whoever ran them.
use Rattle.std.proofs.Common.{◌≡◌, ℕ, List, [], ◌∷◌, length, map, sym, ◌∙◌, ap, subst}
use Rattle.std.proofs.lemmas.List.{length-map}
use Rattle.std.proofs.lemmas.Slice.Zip.{AllZip-long}
use Rattle.std.specs.Prelude.{Bool, Err, IfOk, Ok, Result}
use Rattle.std.specs.List.{AllByRecursion, AllZip}
use Rattle.std.specs.List.Sorted.{IsStrictlySortedBy}
use Rattle.std.specs.Ordering.{nat_cmp}
use Rattle.std.specs.declared.cmp.Ordering.{Ordering}
use Rattle.keyed_machine.specs.Machine.{Machine, Timed, tick_at}
use Rattle.keyed_machine.specs.Phase.{AddsPhase, phase_at, timed_items}
use Rattle.keyed_machine.specs.Shards.{ShardsTellAll}
use Rattle.keyed_machine.specs.Table.{Held}
use Rattle.keyed_machine.specs.declared.item.Item.{Item}
use Rattle.sip_shards.specs.AllShards.{DealsParts, IsApart, IsEnded}
use Rattle.sip_shards.proofs.Numbered.{map_twice, parts_timed, places_timed}
use Rattle.sip_shards.proofs.Together.{deals_all}

-- a piece has this machine and this moment, with a tick or without
abbrev pub Shares : {P M : Type 0} → (P → M) → (P → ℕ) → (P → Bool) → M → ℕ → Bool → P → Type 0
Shares machine_of now_of ticks_of machine now with_tick piece = (machine_of piece ≡ machine)
    × (now_of piece ≡ now) × (ticks_of piece ≡ with_tick)

module _ {P M K S I O D : Type 0} (cmp : K → K → Ordering) (spec : M → Machine K S (Timed I) O)
    (machine_of : P → M) (now_of : P → ℕ) (ticks_of : P → Bool) (table_of : P → Held K S)
    (items_of : P → List (Item K I)) (after : D → Held K S) (ticks : D → List (K × List O))
    (said : D → List (ℕ × List O)) (machine : M) (now : ℕ) (with_tick : Bool) where
  shared_work : (piece : P) (dealt : D)
      → Shares machine_of now_of ticks_of machine now with_tick piece
      → AddsPhase cmp (spec (machine_of piece)) tick_at (table_of piece) (after dealt)
      (phase_at (now_of piece) (ticks_of piece) (items_of piece)) (ticks dealt) (said dealt)
      → AddsPhase cmp (spec machine) tick_at (table_of piece) (after dealt)
      (phase_at now with_tick (items_of piece)) (ticks dealt) (said dealt)
  shared_work piece dealt same adds =
      subst (λ t. AddsPhase cmp (spec machine) tick_at (table_of piece) (after dealt)
      (phase_at now t (items_of piece)) (ticks dealt) (said dealt)) same.2
      (subst (λ n. AddsPhase cmp (spec machine) tick_at (table_of piece) (after dealt)
      (phase_at n (ticks_of piece) (items_of piece)) (ticks dealt) (said dealt)) same.1
      (subst (λ m. AddsPhase cmp (spec m) tick_at (table_of piece) (after dealt)
      (phase_at (now_of piece) (ticks_of piece) (items_of piece)) (ticks dealt) (said dealt))
      same.0 adds))

  pub pieces_dealt : {E : Type 0} → ShardsTellAll cmp (spec machine) tick_at
      → (pieces : List P) (tables : List (Held K S)) (parts : List (List (Item K I)))
      → map table_of pieces ≡ tables → map items_of pieces ≡ parts
      → AllByRecursion (Shares machine_of now_of ticks_of machine now with_tick) pieces
      → (dones : List (ℕ × Result D E)) (new : List (Held K S))
      (all_ticks : List (K × List O)) (all_said : List (ℕ × List O))
      (ended : IsEnded cmp after ticks said dones new all_ticks all_said)
      → AllZip (λ piece done. IfOk done (λ dealt. AddsPhase cmp (spec (machine_of piece)) tick_at
      (table_of piece) (after dealt) (phase_at (now_of piece) (ticks_of piece) (items_of piece))
      (ticks dealt) (said dealt))) pieces ended.gathered
      → DealsParts cmp (spec machine) tick_at now with_tick parts tables new all_ticks all_said
  pieces_dealt {E} law pieces tables parts are_tables are_parts shared dones new all_ticks
      all_said ended worked = λ owner items within cut rising.
      deals_all cmp (spec machine) tick_at owner (phase_at now with_tick items)
      (λ piece (done : Result D E). IfOk done (λ dealt. AddsPhase cmp (spec (machine_of piece))
      tick_at (table_of piece) (after dealt)
      (phase_at (now_of piece) (ticks_of piece) (items_of piece)) (ticks dealt) (said dealt)))
      (Shares machine_of now_of ticks_of machine now with_tick) table_of
      (λ piece. timed_items now (items_of piece)) after ticks said shared_work law
      (subst (IsStrictlySortedBy nat_cmp) (sym (places_timed now items)) rising)
      pieces tables are_tables within
      (parts_timed items_of owner _ now items pieces (are_parts ∙ cut)) shared ended.gathered
      worked new ended.joined_ticks all_ticks ended.joined_items all_said ended.apart
      ended.sorts_ticks ended.sorts_items

-- there are as many tables as before
pub tables_back : {P T D E X Y : Type 0} (R : P → Result D E → Type 0) (table_of : P → T)
    (after : D → T) (ticks : D → List X) (said : D → List Y) (pieces : List P) (tables new : List T)
    (gathered : List (Result D E)) (all_ticks : List X) (all_said : List Y)
    → map table_of pieces ≡ tables → AllZip R pieces gathered
    → IsApart after ticks said gathered new all_ticks all_said → length new ≡ length tables
tables_back R table_of after ticks said pieces tables new gathered all_ticks all_said are_tables
    worked apart =
    ap length apart.tables_are ∙ length-map apart.dealt after ∙ sym (length-map apart.dealt Ok)
    ∙ sym (ap length apart.all_ok) ∙ AllZip-long R pieces gathered worked
    ∙ sym (length-map pieces table_of) ∙ ap length are_tables

-- ---- the shards of one machine

all_mapped : {X Y : Type 0} (P : Y → Type 0) (f : X → Y) (xs : List X)
    → AllByRecursion P (map f xs) → AllByRecursion (λ x. P (f x)) xs
all_mapped P f [] all = tt
all_mapped P f (x ∷ xs) all = (all.0, all_mapped P f xs all.1)

abbrev held_ended : {D E X T K O : Type 0} (cmp : K → K → Ordering) (held : X → T) (after : D → X)
    (ticks : D → List (K × List O)) (said : D → List (ℕ × List O)) (dones : List (ℕ × Result D E))
    (new : List X) (all_ticks : List (K × List O)) (all_said : List (ℕ × List O))
    → IsEnded cmp after ticks said dones new all_ticks all_said
    → IsEnded cmp (λ dealt. held (after dealt)) ticks said dones (map held new) all_ticks all_said
held_ended cmp held after ticks said dones new all_ticks all_said ended = record {
  gathered = ended.gathered;
  joined_ticks = ended.joined_ticks;
  joined_items = ended.joined_items;
  is_gathered = ended.is_gathered;
  apart = record {
    dealt = (ended.apart).dealt;
    all_ok = (ended.apart).all_ok;
    tables_are = ap (map held) (ended.apart).tables_are
        ∙ sym (map_twice held after (ended.apart).dealt);
    ticks_are = (ended.apart).ticks_are;
    items_are = (ended.apart).items_are;
  };
  sorts_ticks = ended.sorts_ticks;
  sorts_items = ended.sorts_items;
}

module _ {P X M K S I O D : Type 0} (cmp : K → K → Ordering) (spec : M → Machine K S (Timed I) O)
    (machine_of : X → M) (held : X → Held K S) (shard_of : P → X) (now_of : P → ℕ)
    (ticks_of : P → Bool) (items_of : P → List (Item K I)) (after : D → X)
    (ticks : D → List (K × List O)) (said : D → List (ℕ × List O)) (machine : M) (now : ℕ)
    (with_tick : Bool) where
  -- what a piece adds
  abbrev pub Adds : P → D → Type 0
  Adds piece dealt = AddsPhase cmp (spec (machine_of (shard_of piece))) tick_at
      (held (shard_of piece)) (held (after dealt))
      (phase_at (now_of piece) (ticks_of piece) (items_of piece)) (ticks dealt) (said dealt)

  -- what a piece may give
  abbrev pub Gives : {E : Type 0} → P → Result D E → Type 0
  Gives piece done = IfOk done (λ dealt.
      (machine_of (after dealt) ≡ machine_of (shard_of piece)) × Adds piece dealt)

  abbrev pub OfOne : P → Type 0
  OfOne piece = machine_of (shard_of piece) ≡ machine

  all_share : (pieces : List P) → AllByRecursion OfOne pieces
      → AllByRecursion (λ piece. (now_of piece ≡ now) × (ticks_of piece ≡ with_tick)) pieces
      → AllByRecursion (Shares (λ piece. machine_of (shard_of piece)) now_of ticks_of machine now
      with_tick) pieces
  all_share [] alike shared = tt
  all_share (p ∷ ps) alike shared =
      ((alike.0, shared.0.0, shared.0.1), all_share ps alike.1 shared.1)

  what_adds : {E : Type 0} (piece : P) (done : Result D E) → Gives piece done
      → IfOk done (Adds piece)
  what_adds piece (Ok dealt) gives = gives.1
  what_adds piece (Err fault) gives = tt

  all_add : {E : Type 0} (pieces : List P) (dones : List (Result D E)) → AllZip Gives pieces dones
      → AllZip (λ piece done. IfOk done (Adds piece)) pieces dones
  all_add [] [] gives = tt
  all_add [] (d ∷ ds) gives = gives
  all_add (p ∷ ps) [] gives = gives
  all_add (p ∷ ps) (d ∷ ds) gives = (what_adds p d gives.0, all_add ps ds gives.1)

  all_alike : (E : Type 0) (pieces : List P) (dealt : List D) → AllByRecursion OfOne pieces
      → AllZip (Gives {E = E}) pieces (map Ok dealt)
      → AllByRecursion (λ shard. machine_of shard ≡ machine) (map after dealt)
  all_alike E [] [] alike gives = tt
  all_alike E [] (d ∷ ds) alike gives = absurd gives
  all_alike E (p ∷ ps) [] alike gives = tt
  all_alike E (p ∷ ps) (d ∷ ds) alike gives =
      (gives.0.0 ∙ alike.0, all_alike E ps ds alike.1 gives.1)

  of_one : (pieces : List P) (shards : List X) → map shard_of pieces ≡ shards
      → AllByRecursion (λ shard. machine_of shard ≡ machine) shards → AllByRecursion OfOne pieces
  of_one pieces shards are_shards alike =
      all_mapped (λ shard. machine_of shard ≡ machine) shard_of pieces
      (subst (AllByRecursion (λ shard. machine_of shard ≡ machine)) (sym are_shards) alike)

  module _ {E : Type 0} (pieces : List P) (shards : List X)
      (are_shards : map shard_of pieces ≡ shards)
      (alike : AllByRecursion (λ shard. machine_of shard ≡ machine) shards)
      (dones : List (ℕ × Result D E)) (new : List X) (all_ticks : List (K × List O))
      (all_said : List (ℕ × List O))
      (ended : IsEnded cmp after ticks said dones new all_ticks all_said)
      (worked : AllZip Gives pieces ended.gathered) where
    pub shards_alike : AllByRecursion (λ shard. machine_of shard ≡ machine) new
    shards_alike = subst (AllByRecursion (λ shard. machine_of shard ≡ machine))
        (sym (ended.apart).tables_are)
        (all_alike E pieces (ended.apart).dealt (of_one pieces shards are_shards alike)
        (subst (AllZip Gives pieces) (ended.apart).all_ok worked))

    pub shards_dealt : ShardsTellAll cmp (spec machine) tick_at → (parts : List (List (Item K I)))
        → map items_of pieces ≡ parts
        → AllByRecursion (λ piece. (now_of piece ≡ now) × (ticks_of piece ≡ with_tick)) pieces
        → DealsParts cmp (spec machine) tick_at now with_tick parts (map held shards) (map held new)
        all_ticks all_said
    shards_dealt law parts are_parts shared =
        pieces_dealt cmp spec (λ piece. machine_of (shard_of piece)) now_of ticks_of
        (λ piece. held (shard_of piece)) items_of (λ dealt. held (after dealt)) ticks said machine
        now with_tick law pieces (map held shards) parts
        (map_twice held shard_of pieces ∙ ap (map held) are_shards) are_parts
        (all_share pieces (of_one pieces shards are_shards alike) shared) dones (map held new)
        all_ticks all_said
        (held_ended cmp held after ticks said dones new all_ticks all_said ended)
        (all_add pieces ended.gathered worked)
