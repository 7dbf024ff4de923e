-- A phase of a single shard, which owns every key.
use Rattle.std.proofs.Common.{◌≡◌, ℕ, zero, ◌<◌, Bool, List, [], ◌∷◌, ◌++◌, length, map, refl, sym, ◌∙◌, ap, subst}
use Rattle.std.proofs.lemmas.List.{nil_from_length}
use Rattle.std.specs.List.{AllByRecursion}
use Rattle.std.specs.declared.cmp.Ordering.{Ordering}
use Rattle.keyed_machine.specs.Laws.{owned_phase}
use Rattle.keyed_machine.specs.declared.item.Item.{Item}
use Rattle.keyed_machine.specs.Machine.{Machine, Timed}
use Rattle.keyed_machine.specs.Phase.{Phase, AddsPhase, HoldsAfter, phase_at}
use Rattle.keyed_machine.specs.Shards.{HoldFrom, is_owned}
use Rattle.keyed_machine.specs.Table.{Held}
use Rattle.sip_shards.specs.AllShards.{DealsAll, DealsParts}
use Rattle.sip_shards.proofs.Cutting.{all_in_one}
use Rattle.sip_shards.proofs.Together.{first_of}

-- what is true of all elements is true of the last
pub all_last : {X : Type 0} (P : X → Type 0) (xs : List X) (x : X)
    → AllByRecursion P (xs ++ x ∷ []) → P x
all_last P [] x all = all.0
all_last P (y ∷ ys) x all = all_last P ys x all.1

module _ {K S I O : Type 0} (cmp : K → K → Ordering) (machine : Machine K S I O) (tick : ℕ → I)
    (owner : K → ℕ) (within : (key : K) → owner key < 1) where
  whole_phase : (phase : Phase K I) → owned_phase (is_owned owner zero) phase ≡ phase
  whole_phase phase = ap (λ items. record { moment = phase.moment; items = items })
      (all_in_one owner phase.items within)

  whole_phases : (phases : List (Phase K I)) → map (owned_phase (is_owned owner zero)) phases
      ≡ phases
  whole_phases [] = refl
  whole_phases (p ∷ ps) =
      ap (λ q. q ∷ map (owned_phase (is_owned owner zero)) ps) (whole_phase p)
      ∙ ap (λ qs. p ∷ qs) (whole_phases ps)

  module _ (old new : Held K S) (phase : Phase K I) (ticks : List (K × List O))
      (said : List (ℕ × List O)) (adds : AddsPhase cmp machine tick old new phase ticks said) where
    held : (phases : List (Phase K I)) → HoldFrom cmp machine tick owner zero (old ∷ []) phases
        → HoldsAfter cmp machine tick old phases
    held phases hold = subst (HoldsAfter cmp machine tick old) (whole_phases phases) hold.0

    pub deals_alone : DealsAll cmp machine tick owner (old ∷ []) (new ∷ []) phase ticks said
    deals_alone = record {
      count = refl;
      stands = λ phases hold. (
        subst (HoldsAfter cmp machine tick new) (sym (whole_phases (phases ++ phase ∷ [])))
            (adds.stands phases (held phases hold)),
        tt,
      );
      ticks_told = λ phases hold. adds.ticks_told phases (held phases hold);
      items_told = λ phases hold. adds.items_told phases (held phases hold);
    }

module _ {K S I O : Type 0} (cmp : K → K → Ordering) (machine : Machine K S (Timed I) O)
    (tick : ℕ → Timed I) (now : ℕ) (with_tick : Bool) (old new : Held K S) (items : List (Item K I))
    (ticks : List (K × List O)) (said : List (ℕ × List O))
    (adds : AddsPhase cmp machine tick old new (phase_at now with_tick items) ticks said) where
  -- the one part has all items
  deals_one : DealsParts cmp machine tick now with_tick (items ∷ []) (old ∷ []) (new ∷ []) ticks
      said
  unfolding first_of
  deals_one = λ owner all within cut rising.
      let same : items ≡ all = ap (first_of items) cut ∙ all_in_one owner all within in
      deals_alone cmp machine tick owner within old new (phase_at now with_tick all) ticks said
      (subst (λ is. AddsPhase cmp machine tick old new (phase_at now with_tick is) ticks said) same
      adds)

  -- the same at the end of what is left, after a single one was taken out
  pub deals_last : (tables tables_left tables_new : List (Held K S))
      (parts parts_left : List (List (Item K I))) → tables ≡ tables_left ++ old ∷ []
      → length tables_left ≡ 0 → parts ≡ parts_left ++ items ∷ [] → length parts_left ≡ 0
      → tables_new ≡ tables_left ++ new ∷ []
      → DealsParts cmp machine tick now with_tick parts tables tables_new ticks said
  deals_last tables tables_left tables_new parts parts_left tables_are no_table parts_are no_part
      new_are =
      let none : tables_left ≡ [] = nil_from_length tables_left no_table in
      let no_parts : parts_left ≡ [] = nil_from_length parts_left no_part in
      subst (λ ts. DealsParts cmp machine tick now with_tick parts ts tables_new ticks said)
      (sym (tables_are ∙ ap (λ ts. ts ++ old ∷ []) none))
      (subst (λ ts. DealsParts cmp machine tick now with_tick parts (old ∷ []) ts ticks said)
      (sym (new_are ∙ ap (λ ts. ts ++ new ∷ []) none))
      (subst (λ ps. DealsParts cmp machine tick now with_tick ps (old ∷ []) (new ∷ []) ticks said)
      (sym (parts_are ∙ ap (λ ps. ps ++ items ∷ []) no_parts)) deals_one))
