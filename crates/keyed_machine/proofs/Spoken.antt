-- If the machine of each key speaks only for its own key, then the outputs of a phase that are
-- picked for a key are those of that key. The machine must start from a state of the key's own,
-- with an input that fits it.
use Rattle.std.proofs.Common.{◌≡◌, ℕ, Bool, true, false, cond, List, [], ◌∷◌, ◌++◌, map, refl, sym, subst, ◌∙◌}
use Rattle.std.specs.Prelude.{Option, None, Some, filter}
use Rattle.std.specs.declared.cmp.Ordering.{Ordering}
use Rattle.std.specs.Cmp.{IsTotalOrder}
use Rattle.std.specs.BTreeMap.{is_at}
use Rattle.std.specs.List.{AllByRecursion, flat_map}
use Rattle.std.proofs.lemmas.Grind.{flat_map-append}
use Rattle.std.proofs.lemmas.Map.Lookups.{CmpEqualImpliesEq}
use Rattle.keyed_machine.specs.declared.item.Item.{Item}
use Rattle.keyed_machine.specs.Machine.{Machine, adds, next}
use Rattle.keyed_machine.specs.Groups.{speaks}
use Rattle.keyed_machine.specs.Phase.{Phase, keys_of_phases, states_after, states_then, stepped, ticked, told_items, told_next, told_tick}
use Rattle.keyed_machine.specs.Laws.{said_by}
use Rattle.keyed_machine.proofs.Ordered.{by_bool, exact_at}
use Rattle.keyed_machine.proofs.Phases.{states_after_phase}

abbrev joined : {L O : Type 0} → List (L × List O) → List O
joined groups = flat_map (λ group. group.1) groups

module _ {K S I O Z : Type 0} (cmp : K → K → Ordering) (machine : Machine K S I O)
    (says : O → List Z) (picked : K → O → List Z) (Own : K → Option S → Type 0)
    (Fits : K → I → Type 0) where
  -- if a step starts from a state of its key's own, with an input that fits the key, all its
  -- outputs are picked for that key, and none for another
  abbrev pub SpeaksForItself : Type 0
  SpeaksForItself = (q key : K) (state : Option S) (input : I) → Own key state → Fits key input
      → flat_map (picked q) (adds machine key state input)
      ≡ cond (is_at (cmp q) key) (flat_map says (adds machine key state input)) []

  -- and the state after it is again the key's own
  abbrev pub KeepsOwn : Type 0
  KeepsOwn = (key : K) (state : Option S) (input : I) → Own key state → Fits key input
      → Own key (next machine key state input)

  abbrev pub OwnStates : (K → Option S) → Type 0
  OwnStates states = (q : K) → Own q (states q)

  abbrev pub FitItems : List (Item K I) → Type 0
  FitItems items = AllByRecursion (λ item. Fits item.key item.input) items

  -- one more group
  one_group : {L : Type 0} (q : K) (own : Bool) (group : L × List O)
      (rest kept : List (L × List O))
      → flat_map (picked q) group.1 ≡ cond own (flat_map says group.1) []
      → flat_map (picked q) (joined rest) ≡ flat_map says (joined kept)
      → flat_map (picked q) (group.1 ++ joined rest)
      ≡ flat_map says (joined (cond own (group ∷ kept) kept))
  one_group q true group rest kept here later =
      flat_map-append (picked q) group.1 (joined rest) ∙ (λ i. here i ++ later i)
      ∙ sym (flat_map-append says group.1 (joined kept))
  one_group q false group rest kept here later =
      flat_map-append (picked q) group.1 (joined rest) ∙ (λ i. here i ++ later i)

  module _ (total : IsTotalOrder cmp) (exact : CmpEqualImpliesEq cmp) (keeps : KeepsOwn) where
    -- a step is one of its own key only
    stepped_own : (states : K → Option S) (item : Item K I) → OwnStates states
        → Fits item.key item.input → OwnStates (stepped cmp machine states item)
    stepped_own states item own fits q =
        let here : Option S = next machine item.key (states item.key) item.input in
        by_bool (is_at (cmp item.key) q)
        (λ hit. subst (λ b. Own q (cond b here (states q))) (sym hit)
        (subst (λ k. Own k here) (exact_at total exact item.key q hit)
        (keeps item.key (states item.key) item.input (own item.key) fits)))
        (λ miss. subst (λ b. Own q (cond b here (states q))) (sym miss) (own q))

    then_own : (states : K → Option S) (items : List (Item K I)) → OwnStates states
        → FitItems items → OwnStates (states_then cmp machine states items)
    then_own states [] own fit = own
    then_own states (item ∷ items) own fit =
        then_own (stepped cmp machine states item) items
        (stepped_own states item own fit.0) fit.1

    module _ (tick : ℕ → I) (tick_fits : (moment : ℕ) (key : K) → Fits key (tick moment)) where
      ticked_own : (states : K → Option S) (moment : Option ℕ) → OwnStates states
          → OwnStates (ticked cmp machine tick states moment)
      ticked_own states None own q = own q
      ticked_own states (Some moment) own q =
          keeps q (states q) (tick moment) (own q) (tick_fits moment q)

      -- after a phase whose items fit, the states are their keys' own, if those before it are
      pub own_after : (before : List (Phase K I)) (phase : Phase K I)
          → OwnStates (states_after cmp machine tick before) → FitItems phase.items
          → OwnStates (states_after cmp machine tick (before ++ phase ∷ []))
      own_after before phase own fit q =
          let states = states_after cmp machine tick before in
          subst (Own q) (sym (states_after_phase total exact machine tick before phase q))
          (then_own (ticked cmp machine tick states phase.moment) phase.items
          (ticked_own states phase.moment own) fit q)

      module _ (alone : SpeaksForItself) (q : K) where
        of_keys : (states : K → Option S) (moment : ℕ) (keys : List K) → OwnStates states
            → flat_map (picked q)
            (joined (map (λ key. (key, adds machine key (states key) (tick moment))) keys))
            ≡ flat_map says (joined (filter (λ said. is_at (cmp q) said.0)
            (map (λ key. (key, adds machine key (states key) (tick moment))) keys)))
        of_keys states moment [] own = refl
        of_keys states moment (key ∷ keys) own =
            let group : K → K × List O = λ k. (k, adds machine k (states k) (tick moment)) in
            one_group q (is_at (cmp q) key) (group key) (map group keys)
            (filter (λ said. is_at (cmp q) said.0) (map group keys))
            (alone q key (states key) (tick moment) (own key) (tick_fits moment key))
            (of_keys states moment keys own)

        of_items : (states : K → Option S) (items : List (Item K I)) → OwnStates states
            → FitItems items → flat_map (picked q) (joined (told_items cmp machine states items))
            ≡ flat_map says (joined (filter (λ said. is_at (cmp q) (said.0).1)
            (told_items cmp machine states items)))
        of_items states [] own fit = refl
        of_items states (item ∷ items) own fit =
            let rest = told_items cmp machine (stepped cmp machine states item) items in
            one_group q (is_at (cmp q) item.key)
            ((item.place, item.key), adds machine item.key (states item.key) item.input) rest
            (filter (λ said. is_at (cmp q) (said.0).1) rest)
            (alone q item.key (states item.key) item.input (own item.key) fit.0)
            (of_items (stepped cmp machine states item) items
            (stepped_own states item own fit.0) fit.1)

        of_tick : (states : K → Option S) (moment : Option ℕ) (keys : List K) → OwnStates states
            → flat_map (picked q) (joined (told_tick cmp machine tick states moment keys))
            ≡ flat_map says (joined (filter (λ said. is_at (cmp q) said.0)
            (told_tick cmp machine tick states moment keys)))
        of_tick states None keys own = refl
        of_tick states (Some moment) keys own =
            of_keys states moment
            (filter (λ key. speaks (adds machine key (states key) (tick moment))) keys) own

        -- the outputs of a phase that are picked for a key
        pub spoken : (before : List (Phase K I)) (phase : Phase K I)
            → OwnStates (states_after cmp machine tick before) → FitItems phase.items
            → flat_map (picked q) (joined (told_next cmp machine tick before phase).ticks
            ++ joined (told_next cmp machine tick before phase).items)
            ≡ flat_map says (said_by cmp machine tick q (told_next cmp machine tick before phase))
        spoken before phase own fit =
            let told = told_next cmp machine tick before phase in
            let states = states_after cmp machine tick before in
            flat_map-append (picked q) (joined told.ticks) (joined told.items)
            ∙ (λ i. of_tick states phase.moment (keys_of_phases cmp before) own i
            ++ of_items (ticked cmp machine tick states phase.moment) phase.items
            (ticked_own states phase.moment own) fit i)
            ∙ sym (flat_map-append says
            (joined (filter (λ said. is_at (cmp q) said.0) told.ticks))
            (joined (filter (λ said. is_at (cmp q) (said.0).1) told.items)))
