-- A phase over several shards: the outputs of each for its own keys, joined and sorted, are those
-- of all keys.
use Rattle.std.proofs.Common.{◌≡◌, ℕ, zero, suc, ◌<◌, List, [], ◌∷◌, ◌++◌, length, map, nat_eq, refl, sym, ◌∙◌, ap, subst}
use Rattle.std.specs.Prelude.{Option, filter}
use Rattle.std.specs.declared.cmp.Ordering.{Ordering}
use Rattle.std.specs.Ordering.{nat_cmp}
use Rattle.std.specs.Cmp.{IsTotalOrder}
use Rattle.std.specs.List.{flat_map}
use Rattle.std.specs.List.Sorted.{IsPermutation, IsStrictlySortedBy}
use Rattle.std.proofs.lemmas.List.{map-append}
use Rattle.std.proofs.lemmas.List.Sorted.{IsPermutation-map}
use Rattle.std.proofs.lemmas.Map.Lookups.{CmpEqualImpliesEq}
use Rattle.keyed_machine.specs.Machine.{Machine, IsIdle}
use Rattle.keyed_machine.specs.Table.{Held}
use Rattle.keyed_machine.specs.Phase.{Phase, PhaseOutputs, HoldsAfter, by_place, told_next}
use Rattle.keyed_machine.specs.Laws.{owned_phase}
use Rattle.keyed_machine.specs.Shards.{is_owned, EachDeals, ShardPhase, HoldFrom, TellAll}
use Rattle.keyed_machine.proofs.Apart.{works_apart}
use Rattle.keyed_machine.proofs.Alone.{in_order}
use Rattle.keyed_machine.proofs.Parts.{parts, parts_are_all}

module _ {K S I O : Type 0} {cmp : K → K → Ordering} (total : IsTotalOrder cmp)
    (exact : CmpEqualImpliesEq cmp) (machine : Machine K S I O) (due : S → Option ℕ) (tick : ℕ → I)
    (idle : (moment : ℕ) → IsIdle machine due moment (tick moment)) (owner : K → ℕ)
    (phase : Phase K I) where
  abbrev befores : List (ShardPhase K S O) → List (Held K S)
  befores all = map (λ dealt. dealt.before) all

  abbrev afters : List (ShardPhase K S O) → List (Held K S)
  afters all = map (λ dealt. dealt.after) all

  one_more : (number : ℕ) (phases : List (Phase K I))
      → map (owned_phase (is_owned owner number)) phases
      ++ owned_phase (is_owned owner number) phase ∷ []
      ≡ map (owned_phase (is_owned owner number)) (phases ++ phase ∷ [])
  one_more number phases =
      sym (map-append (owned_phase (is_owned owner number)) phases (phase ∷ []))

  hold_more : (number : ℕ) (all : List (ShardPhase K S O)) (phases : List (Phase K I))
      → EachDeals cmp machine tick owner phase number all
      → HoldFrom cmp machine tick owner number (befores all) phases
      → HoldFrom cmp machine tick owner number (afters all) (phases ++ phase ∷ [])
  hold_more number [] phases dealt hold = tt
  hold_more number (d ∷ ds) phases dealt hold = (
    subst (HoldsAfter cmp machine tick d.after) (one_more number phases)
        (dealt.0.stands (map (owned_phase (is_owned owner number)) phases) hold.0),
    hold_more (suc number) ds phases dealt.1 hold.1,
  )

  ticks_by_shard : (number : ℕ) (all : List (ShardPhase K S O)) (phases : List (Phase K I))
      → EachDeals cmp machine tick owner phase number all
      → HoldFrom cmp machine tick owner number (befores all) phases
      → flat_map (λ dealt. dealt.ticks) all
      ≡ parts (λ (said : K × List O). owner said.0) number (length all)
      (told_next cmp machine tick phases phase).ticks
  ticks_by_shard number [] phases dealt hold = refl
  ticks_by_shard number (d ∷ ds) phases dealt hold =
      let whole : PhaseOutputs K O = told_next cmp machine tick phases phase in
      let own : List (K × List O) = filter (λ said. nat_eq (owner said.0) number) whole.ticks in
      ap (λ said. said ++ flat_map (λ (dealt : ShardPhase K S O). dealt.ticks) ds)
      (dealt.0.ticks_told (map (owned_phase (is_owned owner number)) phases) hold.0
      ∙ ap (λ told. told.ticks) (works_apart total exact machine due tick idle
      (is_owned owner number) phases phase))
      ∙ ap (λ more. own ++ more) (ticks_by_shard (suc number) ds phases dealt.1 hold.1)

  items_by_shard : (number : ℕ) (all : List (ShardPhase K S O)) (phases : List (Phase K I))
      → EachDeals cmp machine tick owner phase number all
      → HoldFrom cmp machine tick owner number (befores all) phases
      → flat_map (λ dealt. dealt.items) all
      ≡ map by_place (parts (λ (said : (ℕ × K) × List O). owner (said.0).1) number (length all)
      (told_next cmp machine tick phases phase).items)
  items_by_shard number [] phases dealt hold = refl
  items_by_shard number (d ∷ ds) phases dealt hold =
      let whole : PhaseOutputs K O = told_next cmp machine tick phases phase in
      let own : List ((ℕ × K) × List O) =
      filter (λ said. nat_eq (owner (said.0).1) number) whole.items in
      let others : List ((ℕ × K) × List O) =
      parts (λ (said : (ℕ × K) × List O). owner (said.0).1) (suc number)
      (length ds) whole.items in
      ap (λ said. said ++ flat_map (λ (dealt : ShardPhase K S O). dealt.items) ds)
      (dealt.0.items_told (map (owned_phase (is_owned owner number)) phases) hold.0
      ∙ ap (λ told. map by_place told.items)
      (works_apart total exact machine due tick idle (is_owned owner number) phases phase))
      ∙ ap (λ more. map by_place own ++ more) (items_by_shard (suc number) ds phases dealt.1 hold.1)
      ∙ sym (map-append by_place own others)

  places : (told : List ((ℕ × K) × List O))
      → map (λ said. said.0) (map by_place told) ≡ map (λ said. (said.0).0) told
  places [] = refl
  places (said ∷ told) = ap (λ more. (said.0).0 ∷ more) (places told)

  pub tell_all : (all : List (ShardPhase K S O)) (phases : List (Phase K I))
      → ((key : K) → owner key < length all)
      → IsStrictlySortedBy nat_cmp (map (λ item. item.place) phase.items)
      → EachDeals cmp machine tick owner phase zero all
      → HoldFrom cmp machine tick owner zero (befores all) phases
      → TellAll cmp machine tick owner phases phase all
  tell_all all phases within rising dealt hold =
      let whole : PhaseOutputs K O = told_next cmp machine tick phases phase in
      let order = in_order total exact machine due tick idle phases phase in
      record {
        holds = hold_more zero all phases dealt hold;
        ticks = λ ticks sorts. sorts whole.ticks order.by_key
            (subst (λ joined. IsPermutation joined whole.ticks)
            (sym (ticks_by_shard zero all phases dealt hold))
            (parts_are_all (λ (said : K × List O). owner said.0) (length all)
            (λ said. within said.0) whole.ticks));
        items = λ items sorts. sorts (map by_place whole.items)
            (subst (IsStrictlySortedBy nat_cmp) (sym (places whole.items ∙ order.by_place)) rising)
            (subst (λ joined. IsPermutation joined (map by_place whole.items))
            (sym (items_by_shard zero all phases dealt hold))
            (IsPermutation-map by_place _ _
            (parts_are_all (λ (said : (ℕ × K) × List O). owner (said.0).1) (length all)
            (λ said. within (said.0).1) whole.items)));
      }
