-- A phase in which no shard has an item and no key is due.
use Rattle.std.proofs.Common.{◌≡◌, ℕ, zero, suc, ◌<◌, Bool, List, [], ◌∷◌, length, map, refl, sym, ◌∙◌, ap, subst, arith}
use Rattle.std.specs.Prelude.{Result, Ok, IfOk}
use Rattle.std.specs.declared.cmp.Ordering.{Ordering}
use Rattle.std.specs.Ordering.{nat_cmp}
use Rattle.std.specs.List.{AllByRecursion, AllZip, flat_map}
use Rattle.std.specs.List.Sorted.{IsStrictlySortedBy}
use Rattle.std.proofs.lemmas.List.{nil_from_length, map-id}
use Rattle.std.proofs.lemmas.List.Sorted.{length_permutation}
use Rattle.keyed_machine.specs.declared.item.Item.{Item}
use Rattle.keyed_machine.specs.Machine.{Machine, Timed}
use Rattle.keyed_machine.specs.Table.{Held}
use Rattle.keyed_machine.specs.Groups.{Sorts}
use Rattle.keyed_machine.specs.Phase.{AddsPhase, phase_at}
use Rattle.keyed_machine.specs.Shards.{ShardsTellAll}
use Rattle.sip_shards.specs.Parts.{cut_by}
use Rattle.sip_shards.specs.AllShards.{DealsAll, IsIdle}
use Rattle.sip_shards.proofs.Numbered.{parts_timed, places_timed}
use Rattle.sip_shards.proofs.Together.{deals_all}

-- no outputs
abbrev pub no_group : (Y : Type 0) → List Y
no_group Y = []

-- what a shard gives in which nothing happens
abbrev by_itself : {X : Type 0} (E : Type 0) → X → Result X E → Type 0
by_itself E x done = IfOk done (λ y. x ≡ y)

-- no groups, in any order
sorts_nothing : {L O : Type 0} (cmp : L → L → Ordering) → Sorts {L = L} {O = O} cmp [] []
sorts_nothing cmp all sorted same = sym (nil_from_length all (length_permutation [] all same))

no_groups : {X Y : Type 0} (xs : List X) → flat_map (λ (x : X). no_group Y) xs ≡ []
no_groups [] = refl
no_groups (x ∷ xs) = no_groups xs

all_themselves : {X : Type 0} (E : Type 0) (xs : List X) → AllZip (by_itself E) xs (map Ok xs)
all_themselves E [] = tt
all_themselves E (x ∷ xs) = (refl, all_themselves E xs)

-- as many parts as tables, none of which has an item
pub empty_parts : {P T X : Type 0} (part : P → List X) (ps : List P) (ts : List T)
    → AllByRecursion (λ p. part p ≡ []) ps → length ps ≡ length ts
    → map part ps ≡ map (λ (t : T). no_group X) ts
empty_parts part [] [] none same = refl
empty_parts part [] (t ∷ ts) none same = absurd cc
empty_parts part (p ∷ ps) [] none same = absurd cc
empty_parts {X = X} part (p ∷ ps) (t ∷ ts) none same =
    ap (λ (xs : List X). xs ∷ map part ps) none.0
    ∙ ap (λ (more : List (List X)). [] ∷ more) (empty_parts part ps ts none.1 (omega (arith, same)))

-- shards of one machine in which nothing happens, seen as what they hold
pub idle_held : {X M K S I O : Type 0} (cmp : K → K → Ordering)
    (spec : M → Machine K S (Timed I) O) (tick : ℕ → Timed I) (now : ℕ) (ticks : Bool)
    (machine_of : X → M) (held : X → Held K S) (machine : M) (xs : List X)
    → AllByRecursion (λ x. machine_of x ≡ machine) xs
    → AllByRecursion (λ x. IsIdle cmp (spec (machine_of x)) tick now ticks (held x)) xs
    → AllByRecursion (IsIdle cmp (spec machine) tick now ticks) (map held xs)
idle_held cmp spec tick now ticks machine_of held machine [] alike idle = tt
idle_held cmp spec tick now ticks machine_of held machine (x ∷ xs) alike idle = (
  subst (λ it. IsIdle cmp (spec it) tick now ticks (held x)) alike.0 idle.0,
  idle_held cmp spec tick now ticks machine_of held machine xs alike.1 idle.1,
)

-- no items, cut into the parts of the shards
pub cut_nothing : {K I T : Type 0} (owner : K → ℕ) (number : ℕ) (ts : List T)
    → map (λ (t : T). no_group (Item K I)) ts ≡ cut_by owner number (length ts) []
cut_nothing owner number [] = refl
cut_nothing {K} {I} owner number (t ∷ ts) =
    ap (λ (more : List (List (Item K I))). [] ∷ more) (cut_nothing owner (suc number) ts)

module _ {K S I O : Type 0} (cmp : K → K → Ordering) (machine : Machine K S (Timed I) O)
    (tick : ℕ → Timed I) (owner : K → ℕ) (now : ℕ) (ticks : Bool)
    (law : ShardsTellAll cmp machine tick) where
  pub idle_shards : (items : List (Item K I)) (tables : List (Held K S))
      → ((key : K) → owner key < length tables)
      → IsStrictlySortedBy nat_cmp (map (λ item. item.place) items)
      → AllByRecursion (IsIdle cmp machine tick now ticks) tables
      → map (λ (table : Held K S). no_group (Item K I)) tables
      ≡ cut_by owner zero (length tables) items
      → DealsAll cmp machine tick owner tables tables (phase_at now ticks items) [] []
  idle_shards items tables within rising idle parts =
      deals_all cmp machine tick owner (phase_at now ticks items)
      (by_itself (Unit {0})) (IsIdle cmp machine tick now ticks) (λ table. table)
      (λ table. []) (λ table. table) (λ table. []) (λ table. [])
      (λ table after same is. subst (λ (held : Held K S).
      AddsPhase cmp machine tick table held (phase_at now ticks []) [] [])
      is same)
      law (subst (IsStrictlySortedBy nat_cmp) (sym (places_timed now items)) rising)
      tables tables (map-id tables) within
      (parts_timed (λ (table : Held K S). no_group (Item K I)) owner (length tables) now items
      tables parts) idle (map Ok tables)
      (all_themselves (Unit {0}) tables) tables [] [] [] []
      (record {
        dealt = tables;
        all_ok = refl;
        tables_are = sym (map-id tables);
        ticks_are = sym (no_groups tables);
        items_are = sym (no_groups tables);
      })
      (sorts_nothing cmp) (sorts_nothing nat_cmp)
