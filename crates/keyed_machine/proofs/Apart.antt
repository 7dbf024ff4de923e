-- A shard that is given the items of the keys that it owns says what those keys say.
use Rattle.std.proofs.Common.{◌≡◌, ℕ, Bool, true, false, cond, ◌&&◌, List, [], ◌∷◌, ◌++◌, map, refl, sym, ◌∙◌, ap, subst, append-nil}
use Rattle.std.specs.Prelude.{Option, None, Some, is_some, IsSome, filter, option_to_list}
use Rattle.std.specs.declared.cmp.Ordering.{Ordering}
use Rattle.std.specs.Cmp.{IsTotalOrder}
use Rattle.std.specs.BTreeMap.{is_at}
use Rattle.std.proofs.lemmas.Bool.{false≢true}
use Rattle.std.proofs.lemmas.Map.Lookups.{CmpEqualImpliesEq}
use Rattle.keyed_machine.specs.declared.item.Item.{Item}
use Rattle.keyed_machine.specs.Machine.{Machine, IsIdle, next, adds, state_from, state_after}
use Rattle.keyed_machine.specs.Table.{Covers}
use Rattle.keyed_machine.specs.Groups.{speaks, told_ticks}
use Rattle.keyed_machine.specs.Phase.{Phase, PhaseOutputs, inputs_of, own_inputs, history, keys_of_phases, stepped, told_items, ticked, told_tick, states_after, told_next}
use Rattle.keyed_machine.specs.Laws.{owned_phase, owned_told}
use Rattle.keyed_machine.proofs.Ordered.{by_bool, exact_at, same_filtered}
use Rattle.keyed_machine.proofs.Tick.{has_state}
use Rattle.keyed_machine.proofs.Phases.{state_from-append, still_none, phases_cover}

-- ---- lists

map_filter_same : {X Y : Type 0} (f g : X → Y) (p : X → Bool) → ((x : X) → p x ≡ true → f x ≡ g x)
    → (xs : List X) → map f (filter p xs) ≡ map g (filter p xs)
map_filter_same f g p same [] = refl
map_filter_same f g p same (x ∷ xs) =
    by_bool (p x)
    (λ on. rw on (ap (λ y. y ∷ map f (filter p xs)) (same x on)
    ∙ ap (λ ys. g x ∷ ys) (map_filter_same f g p same xs)))
    (λ off. rw off (map_filter_same f g p same xs))

pub filter_map_both : {X Y : Type 0} (f : X → Y) (p : X → Bool) (q : Y → Bool) (xs : List X)
    → filter q (map f (filter p xs)) ≡ map f (filter (λ x. q (f x) && p x) xs)
filter_map_both f p q [] = refl
filter_map_both f p q (x ∷ xs) =
    by_bool (p x)
    (λ on. rw on (by_bool (q (f x))
    (λ this. rw this (ap (λ ys. f x ∷ ys) (filter_map_both f p q xs)))
    (λ other. rw other (filter_map_both f p q xs))))
    (λ off. rw off (by_bool (q (f x)) (λ this. rw this (filter_map_both f p q xs))
    (λ other. rw other (filter_map_both f p q xs))))

pub both_parts : (a b : Bool) → (a && b) ≡ true → (a ≡ true) × (b ≡ true)
both_parts true b e = (refl, e)
both_parts false b e = absurd (false≢true e)

-- ---- states

-- the states of the owned keys; the others have none
abbrev pub restricted : {K S : Type 0} → (K → Bool) → (K → Option S) → K → Option S
restricted owns states key = cond (owns key) (states key) None

module _ {K I : Type 0} {cmp : K → K → Ordering} (total : IsTotalOrder cmp)
    (exact : CmpEqualImpliesEq cmp) (owns : K → Bool) (q : K) where
  other_key : (item : Item K I) → (owns item.key ≡ owns q → ⊥) → is_at (cmp item.key) q ≡ false
  other_key item apart = by_bool (is_at (cmp item.key) q)
      (λ hit. absurd (apart (ap owns (exact_at total exact item.key q hit)))) (λ miss. miss)

  inputs_owned : owns q ≡ true → (items : List (Item K I))
      → inputs_of cmp (filter (λ item. owns item.key) items) q ≡ inputs_of cmp items q
  inputs_owned own [] = refl
  inputs_owned own (item ∷ items) =
      by_bool (owns item.key)
      (λ this. rw this (by_bool (is_at (cmp item.key) q)
      (λ hit. rw hit (ap (λ more. item.input ∷ more) (inputs_owned own items)))
      (λ miss. rw miss (inputs_owned own items))))
      (λ other. rw other (rw (other_key item (λ same. false≢true (sym other ∙ same ∙ own)))
      (inputs_owned own items)))

  inputs_unowned : owns q ≡ false → (items : List (Item K I))
      → inputs_of cmp (filter (λ item. owns item.key) items) q ≡ []
  inputs_unowned foreign [] = refl
  inputs_unowned foreign (item ∷ items) =
      by_bool (owns item.key)
      (λ this. rw this (rw (other_key item (λ same. false≢true (sym foreign ∙ sym same ∙ this)))
      (inputs_unowned foreign items)))
      (λ other. rw other (inputs_unowned foreign items))

module _ {K S I O : Type 0} {cmp : K → K → Ordering} (total : IsTotalOrder cmp)
    (exact : CmpEqualImpliesEq cmp) (machine : Machine K S I O) (due : S → Option ℕ) (tick : ℕ → I)
    (idle : (moment : ℕ) → IsIdle machine due moment (tick moment)) (owns : K → Bool) where
  history_owned : (phases : List (Phase K I)) (q : K) → owns q ≡ true
      → history cmp tick (map (owned_phase owns) phases) q ≡ history cmp tick phases q
  history_owned [] q own = refl
  history_owned (phase ∷ phases) q own =
      ap (λ inputs. (map tick (option_to_list phase.moment) ++ inputs)
      ++ history cmp tick (map (owned_phase owns) phases) q)
      (inputs_owned total exact owns q own phase.items)
      ∙ ap (λ later. own_inputs cmp tick phase q ++ later) (history_owned phases q own)

  none_unowned : (phases : List (Phase K I)) (q : K) → owns q ≡ false
      → states_after cmp machine tick (map (owned_phase owns) phases) q ≡ None
  none_unowned [] q foreign = refl
  none_unowned (phase ∷ phases) q foreign =
      let own : List I = own_inputs cmp tick (owned_phase owns phase) q in
      let later : List I = history cmp tick (map (owned_phase owns) phases) q in
      let here : state_from machine q None own ≡ None =
      ap (λ inputs. state_from machine q None (map tick (option_to_list phase.moment) ++ inputs))
      (inputs_unowned total exact owns q foreign phase.items)
      ∙ ap (state_from machine q None) (append-nil (map tick (option_to_list phase.moment)))
      ∙ still_none cmp machine due tick idle q phase.moment in
      state_from-append machine q None own later ∙ ap (λ s. state_from machine q s later) here
      ∙ none_unowned phases q foreign

  -- the states of a shard are, for the keys that it owns, those of all
  pub owned_states : (phases : List (Phase K I)) (q : K)
      → states_after cmp machine tick (map (owned_phase owns) phases) q
      ≡ restricted owns (states_after cmp machine tick phases) q
  owned_states phases q =
      by_bool (owns q)
      (λ own. ap (state_after machine q) (history_owned phases q own)
      ∙ sym (ap (λ b. cond b (states_after cmp machine tick phases q) None) own))
      (λ foreign. none_unowned phases q foreign
      ∙ sym (ap (λ b. cond b (states_after cmp machine tick phases q) None) foreign))

  ticked_restricted : (states : K → Option S) (moment : Option ℕ) (q : K)
      → ticked cmp machine tick (restricted owns states) moment q
      ≡ restricted owns (ticked cmp machine tick states moment) q
  ticked_restricted states None q = refl
  ticked_restricted states (Some moment) q =
      by_bool (owns q)
      (λ own. ap (λ b. next machine q (cond b (states q) None) (tick moment)) own
      ∙ sym (ap (λ b. cond b (next machine q (states q) (tick moment)) None) own))
      (λ foreign. ap (λ b. next machine q (cond b (states q) None) (tick moment)) foreign
      ∙ ap (λ r. r.0) (idle moment q None refl)
      ∙ sym (ap (λ b. cond b (next machine q (states q) (tick moment)) None) foreign))

  stepped_owned : (states : K → Option S) (item : Item K I) → owns item.key ≡ true → (q : K)
      → stepped cmp machine (restricted owns states) item q
      ≡ restricted owns (stepped cmp machine states item) q
  stepped_owned states item own q =
      let after = next machine item.key (states item.key) item.input in
      ap (λ b. cond (is_at (cmp item.key) q)
      (next machine item.key (cond b (states item.key) None) item.input)
      (restricted owns states q)) own
      ∙ by_bool (is_at (cmp item.key) q)
      (λ hit.
      let here : owns q ≡ true = ap owns (sym (exact_at total exact item.key q hit)) ∙ own in
      ap (λ b. cond b after (restricted owns states q)) hit
      ∙ sym (ap (λ b. cond b after (states q)) hit)
      ∙ sym (ap (λ b. cond b (stepped cmp machine states item q) None) here))
      (λ miss. ap (λ b. cond b after (restricted owns states q)) miss
      ∙ sym (ap (λ b. cond (owns q) (cond b after (states q)) None) miss))

  stepped_other : (states : K → Option S) (item : Item K I) → owns item.key ≡ false → (q : K)
      → restricted owns states q ≡ restricted owns (stepped cmp machine states item) q
  stepped_other states item other q =
      by_bool (owns q)
      (λ own.
      let miss : is_at (cmp item.key) q ≡ false =
      by_bool (is_at (cmp item.key) q)
      (λ hit. absurd (false≢true (sym other ∙ ap owns (exact_at total exact item.key q hit)
      ∙ own))) (λ miss. miss) in
      sym (ap (λ b. cond (owns q) (cond b (next machine item.key (states item.key) item.input)
      (states q)) None) miss))
      (λ foreign. ap (λ b. cond b (states q) None) foreign
      ∙ sym (ap (λ b. cond b (stepped cmp machine states item q) None) foreign))

  -- ---- the outputs

  items_apart : (states : K → Option S) (items : List (Item K I))
      → told_items cmp machine (restricted owns states) (filter (λ item. owns item.key) items)
      ≡ filter (λ said. owns (said.0).1) (told_items cmp machine states items)
  items_apart states [] = refl
  items_apart states (item ∷ items) =
      let left : List (Item K I) = filter (λ item. owns item.key) items in
      let rest : List ((ℕ × K) × List O) =
      filter (λ said. owns (said.0).1)
      (told_items cmp machine (stepped cmp machine states item) items) in
      let own_steps : owns item.key ≡ true
      → stepped cmp machine (restricted owns states) item
      ≡ restricted owns (stepped cmp machine states item) =
      λ own. λ i q. stepped_owned states item own q i in
      let other_steps : owns item.key ≡ false
      → restricted owns states ≡ restricted owns (stepped cmp machine states item) =
      λ other. λ i q. stepped_other states item other q i in
      by_bool (owns item.key)
      (λ own.
      ap (λ b. told_items cmp machine (restricted owns states) (cond b (item ∷ left) left)) own
      ∙ ap (λ b. (
        (item.place, item.key),
        adds machine item.key (cond b (states item.key) None) item.input,
      )
      ∷ told_items cmp machine (stepped cmp machine (restricted owns states) item) left) own
      ∙ ap (λ s. ((item.place, item.key), adds machine item.key (states item.key) item.input)
      ∷ told_items cmp machine s left) (own_steps own)
      ∙ ap (λ more. ((item.place, item.key), adds machine item.key (states item.key) item.input)
      ∷ more) (items_apart (stepped cmp machine states item) items)
      ∙ sym (ap (λ b. cond b ((
        (item.place, item.key),
        adds machine item.key (states item.key) item.input,
      ) ∷ rest) rest) own))
      (λ other.
      ap (λ b. told_items cmp machine (restricted owns states) (cond b (item ∷ left) left)) other
      ∙ ap (λ s. told_items cmp machine s left) (other_steps other)
      ∙ items_apart (stepped cmp machine states item) items
      ∙ sym (ap (λ b. cond b ((
        (item.place, item.key),
        adds machine item.key (states item.key) item.input,
      ) ∷ rest) rest) other))

  ticks_apart : (states : K → Option S) (moment : ℕ) (part whole : List K)
      → Covers cmp part (restricted owns states) → Covers cmp whole states
      → told_ticks machine (restricted owns states) (tick moment) part
      ≡ filter (λ said. owns said.0) (told_ticks machine states (tick moment) whole)
  ticks_apart states moment part whole covers_part covers_whole =
      let says : K → Bool = λ k. speaks (adds machine k (states k) (tick moment)) in
      let group : K → K × List O = λ k. (k, adds machine k (states k) (tick moment)) in
      let own_group : K → K × List O =
      λ k. (k, adds machine k (restricted owns states k) (tick moment)) in
      let tests : (k : K) → speaks (adds machine k (restricted owns states k) (tick moment))
      ≡ (owns k && says k) = λ k. by_bool (owns k)
      (λ own. ap (λ b. speaks (adds machine k (cond b (states k) None) (tick moment))) own
      ∙ sym (ap (λ b. b && says k) own))
      (λ foreign. ap (λ b. speaks (adds machine k (cond b (states k) None) (tick moment))) foreign
      ∙ ap (λ r. speaks r.1) (idle moment k None refl) ∙ sym (ap (λ b. b && says k) foreign)) in
      let same_tests : (λ (k : K). speaks (adds machine k (restricted owns states k) (tick moment)))
      ≡ (λ k. owns k && says k) = λ i k. tests k i in
      ap (λ p. map own_group (filter p part)) same_tests
      ∙ ap (map own_group) (same_filtered total exact
      (λ k. owns k && says k) part whole covers_part.ordered covers_whole.ordered
      (λ q passes.
      let both = both_parts (owns q) (says q) passes in
      let some : IsSome (states q) =
      has_state machine due moment (tick moment) (idle moment) q (states q) both.1 in
      covers_part.each q (ap (λ b. is_some (cond b (states q) None)) both.0 ∙ some)
      ∙ sym (covers_whole.each q some)))
      ∙ map_filter_same own_group group (λ k. owns k && says k)
      (λ k passes. ap (λ b. (k, adds machine k (cond b (states k) None) (tick moment)))
      (both_parts (owns k) (says k) passes).0) whole
      ∙ sym (filter_map_both group says (λ said. owns said.0) whole)

  tick_apart : (states : K → Option S) (moment : Option ℕ) (part whole : List K)
      → Covers cmp part (restricted owns states) → Covers cmp whole states
      → told_tick cmp machine tick (restricted owns states) moment part
      ≡ filter (λ said. owns said.0) (told_tick cmp machine tick states moment whole)
  tick_apart states None part whole covers_part covers_whole = refl
  tick_apart states (Some moment) part whole covers_part covers_whole =
      ticks_apart states moment part whole covers_part covers_whole

  same_told : {K O : Type 0} (a b : PhaseOutputs K O) → a.ticks ≡ b.ticks → a.items ≡ b.items → a
      ≡ b
  same_told a b ticks items = λ i. record { ticks = ticks i; items = items i }

  pub works_apart : (phases : List (Phase K I)) (phase : Phase K I)
      → told_next cmp machine tick (map (owned_phase owns) phases) (owned_phase owns phase)
      ≡ owned_told owns (told_next cmp machine tick phases phase)
  works_apart phases phase =
      let states = states_after cmp machine tick phases in
      let own : states_after cmp machine tick (map (owned_phase owns) phases)
      ≡ restricted owns states = λ i q. owned_states phases q i in
      let ticks : ticked cmp machine tick (restricted owns states) phase.moment
      ≡ restricted owns (ticked cmp machine tick states phase.moment) =
      λ i q. ticked_restricted states phase.moment q i in
      let part : Covers cmp (keys_of_phases cmp (map (owned_phase owns) phases))
      (restricted owns states) =
      subst (Covers cmp (keys_of_phases cmp (map (owned_phase owns) phases))) own
      (phases_cover cmp machine due tick idle total (map (owned_phase owns) phases)) in
      same_told _ _
      (ap (λ s. told_tick cmp machine tick s phase.moment
      (keys_of_phases cmp (map (owned_phase owns) phases))) own
      ∙ tick_apart states phase.moment (keys_of_phases cmp (map (owned_phase owns) phases))
      (keys_of_phases cmp phases) part (phases_cover cmp machine due tick idle total phases))
      (ap (λ s. told_items cmp machine (ticked cmp machine tick s phase.moment)
      (filter (λ item. owns item.key) phase.items)) own
      ∙ ap (λ s. told_items cmp machine s (filter (λ item. owns item.key) phase.items)) ticks
      ∙ items_apart (ticked cmp machine tick states phase.moment) phase.items)
