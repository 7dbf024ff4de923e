-- A phase of all shards, made of what each of them did.
use Rattle.std.proofs.Common.{◌≡◌, ℕ, zero, suc, ◌<◌, List, [], ◌∷◌, ◌++◌, length, map, refl, sym, ◌∙◌, ap, subst}
use Rattle.std.specs.Prelude.{Result, Ok}
use Rattle.std.specs.declared.cmp.Ordering.{Ordering}
use Rattle.std.specs.Ordering.{nat_cmp}
use Rattle.std.specs.List.{AllByRecursion, AllZip, flat_map, zip}
use Rattle.std.specs.List.Sorted.{IsStrictlySortedBy}
use Rattle.keyed_machine.specs.declared.item.Item.{Item}
use Rattle.keyed_machine.specs.Machine.{Machine}
use Rattle.keyed_machine.specs.Table.{Held}
use Rattle.keyed_machine.specs.Groups.{Sorts}
use Rattle.keyed_machine.specs.Phase.{Phase, AddsPhase}
use Rattle.keyed_machine.specs.Shards.{EachDeals, ShardPhase, HoldFrom, ShardsTellAll, TellAll}
use Rattle.sip_shards.specs.Parts.{cut_by}
use Rattle.sip_shards.specs.AllShards.{DealsAll, IsApart}
use Rattle.sip_shards.proofs.Cutting.{map_long}

unfoldable pub first_of : {X : Type 0} → X → List X → X
first_of d [] = d
first_of d (x ∷ xs) = x

unfoldable pub rest_of : {X : Type 0} → List X → List X
rest_of [] = []
rest_of (x ∷ xs) = xs

module _ {K S I O : Type 0} (cmp : K → K → Ordering) (machine : Machine K S I O) (tick : ℕ → I)
    (owner : K → ℕ) (phase : Phase K I)
    {P D E : Type 0} (gives : P → Result D E → Type 0) (Same : P → Type 0) (before : P → Held K S)
    (part : P → List (Item K I)) (after : D → Held K S) (ticks : D → List (K × List O))
    (said : D → List (ℕ × List O))
    (gave : (p : P) (d : D) → Same p → gives p (Ok d)
    → AddsPhase cmp machine tick (before p) (after d)
    (record { moment = phase.moment; items = part p }) (ticks d) (said d)) where
  abbrev dealt_by : P × D → ShardPhase K S O
  dealt_by both = record {
    before = before both.0;
    after = after both.1;
    ticks = ticks both.1;
    items = said both.1;
  }

  abbrev together : List P → List D → List (ShardPhase K S O)
  together ps ds = map dealt_by (zip ps ds)

  all_dealt : (number : ℕ) (ps : List P) (ds : List D) → AllZip gives ps (map Ok ds)
      → AllByRecursion Same ps → map part ps ≡ cut_by owner number (length ps) phase.items
      → EachDeals cmp machine tick owner phase number (together ps ds)
  unfolding first_of rest_of
  all_dealt number [] [] given same parts = tt
  all_dealt number [] (d ∷ ds) given same parts = absurd given
  all_dealt number (p ∷ ps) [] given same parts = absurd given
  all_dealt number (p ∷ ps) (d ∷ ds) given same parts = (
    subst (λ items. AddsPhase cmp machine tick (before p) (after d)
        (record { moment = phase.moment; items = items }) (ticks d) (said d))
        (ap (first_of (part p)) parts) (gave p d same.0 given.0),
    all_dealt (suc number) ps ds given.1 same.1 (ap rest_of parts),
  )

  befores : (ps : List P) (ds : List D) → AllZip gives ps (map Ok ds)
      → map (λ dealt. dealt.before) (together ps ds) ≡ map before ps
  befores [] [] given = refl
  befores [] (d ∷ ds) given = absurd given
  befores (p ∷ ps) [] given = absurd given
  befores (p ∷ ps) (d ∷ ds) given = ap (λ more. before p ∷ more) (befores ps ds given.1)

  afters : (ps : List P) (ds : List D) → AllZip gives ps (map Ok ds)
      → map (λ dealt. dealt.after) (together ps ds) ≡ map after ds
  afters [] [] given = refl
  afters [] (d ∷ ds) given = absurd given
  afters (p ∷ ps) [] given = absurd given
  afters (p ∷ ps) (d ∷ ds) given = ap (λ more. after d ∷ more) (afters ps ds given.1)

  all_ticks : (ps : List P) (ds : List D) → AllZip gives ps (map Ok ds)
      → flat_map (λ dealt. dealt.ticks) (together ps ds) ≡ flat_map ticks ds
  all_ticks [] [] given = refl
  all_ticks [] (d ∷ ds) given = absurd given
  all_ticks (p ∷ ps) [] given = absurd given
  all_ticks (p ∷ ps) (d ∷ ds) given = ap (λ more. ticks d ++ more) (all_ticks ps ds given.1)

  all_said : (ps : List P) (ds : List D) → AllZip gives ps (map Ok ds)
      → flat_map (λ dealt. dealt.items) (together ps ds) ≡ flat_map said ds
  all_said [] [] given = refl
  all_said [] (d ∷ ds) given = absurd given
  all_said (p ∷ ps) [] given = absurd given
  all_said (p ∷ ps) (d ∷ ds) given = ap (λ more. said d ++ more) (all_said ps ds given.1)

  counted : (ps : List P) (ds : List D) → AllZip gives ps (map Ok ds)
      → (length (together ps ds) ≡ length ps) × (length ds ≡ length ps)
  counted [] [] given = (refl, refl)
  counted [] (d ∷ ds) given = absurd given
  counted (p ∷ ps) [] given = absurd given
  counted (p ∷ ps) (d ∷ ds) given =
      (ap suc (counted ps ds given.1).0, ap suc (counted ps ds given.1).1)

  module _ (law : ShardsTellAll cmp machine tick)
      (rising : IsStrictlySortedBy nat_cmp (map (λ item. item.place) phase.items)) (ps : List P)
      (tables : List (Held K S)) (tables_are : map before ps ≡ tables)
      (within : (key : K) → owner key < length tables)
      (parts : map part ps ≡ cut_by owner zero (length tables) phase.items)
      (same : AllByRecursion Same ps)
      (dones : List (Result D E)) (given : AllZip gives ps dones) (new : List (Held K S))
      (joined_ticks ordered_ticks : List (K × List O))
      (joined_items ordered_items : List (ℕ × List O))
      (apart : IsApart after ticks said dones new joined_ticks joined_items)
      (sorts_ticks : Sorts cmp joined_ticks ordered_ticks)
      (sorts_items : Sorts nat_cmp joined_items ordered_items) where
    as_many : length ps ≡ length tables
    as_many = sym (map_long before ps) ∙ ap length tables_are

    fits : AllZip gives ps (map Ok apart.dealt)
    fits = subst (AllZip gives ps) apart.all_ok given

    told : (phases : List (Phase K I)) → HoldFrom cmp machine tick owner zero tables phases
        → TellAll cmp machine tick owner phases phase (together ps apart.dealt)
    told phases hold =
        law owner phases phase (together ps apart.dealt)
        (λ key. subst (λ n. owner key < n) (sym ((counted ps apart.dealt fits).0 ∙ as_many))
        (within key)) rising
        (all_dealt zero ps apart.dealt fits same
        (parts ∙ ap (λ n. cut_by owner zero n phase.items) (sym as_many)))
        (subst (λ ts. HoldFrom cmp machine tick owner zero ts phases)
        (sym (befores ps apart.dealt fits ∙ tables_are)) hold)

    pub deals_all : DealsAll cmp machine tick owner tables new phase ordered_ticks ordered_items
    deals_all = record {
      count = ap length apart.tables_are ∙ map_long after apart.dealt
          ∙ (counted ps apart.dealt fits).1 ∙ as_many;
      stands = λ phases hold. subst (λ ts.
          HoldFrom cmp machine tick owner zero ts (phases ++ phase ∷ []))
          (afters ps apart.dealt fits ∙ sym apart.tables_are) (told phases hold).holds;
      ticks_told = λ phases hold. (told phases hold).ticks ordered_ticks
          (subst (λ joined. Sorts cmp joined ordered_ticks)
          (apart.ticks_are ∙ sym (all_ticks ps apart.dealt fits)) sorts_ticks);
      items_told = λ phases hold. (told phases hold).items ordered_items
          (subst (λ joined. Sorts nat_cmp joined ordered_items)
          (apart.items_are ∙ sym (all_said ps apart.dealt fits)) sorts_items);
    }
