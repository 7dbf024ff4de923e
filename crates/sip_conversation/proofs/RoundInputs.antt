-- The inputs of a transaction in rounds: those of the first rounds, and then those of the others,
-- which begin with a tick; and the moments of each.
use Rattle.std.proofs.Common.{◌≡◌, ℕ, suc, ◌+◌, Bool, true, false, cond, List, [], ◌∷◌, ◌++◌, map, length, refl, sym, ap, ◌∙◌, subst}
use Rattle.std.specs.Prelude.{filter}
use Rattle.std.specs.BTreeMap.{is_at}
use Rattle.std.specs.List.{AllByRecursion, flat_map}
use Rattle.std.proofs.lemmas.Grind.{flat_map-append}
use Rattle.sip_message.specs.declared.key.Key.{Key}
use Rattle.sip_message.specs.Key.{key_cmp}
use Rattle.keyed_machine.specs.declared.item.Item as model
use Rattle.keyed_machine.specs.Machine.{Timed, given_at, tick_at}
use Rattle.keyed_machine.specs.Phase.{history, own_inputs, timed_items}
use Rattle.keyed_machine.specs.Phase as phase
use Rattle.sip_transactions.specs.declared.input.Input.{Input}
use Rattle.sip_held_dialogs.proofs.Each.{both}
use Rattle.sip_round.specs.declared.config.Config.{Config}
use Rattle.sip_round.specs.declared.round.Round.{Round}
use Rattle.sip_round.specs.Answers.{Past, arrivals, first, given_second, no_past, past_after, past_from, past_of, third}
use Rattle.sip_round.specs.Laws.{inputs_of}
use Rattle.sip_round.specs.Outputs.{command_of}
use Rattle.sip_round.specs.Phases.{command_items, transaction_items}
use Rattle.sip_round.proofs.Runs.{past_from-append}
use Rattle.sip_conversation.proofs.Rounds.{transactions_are, transactions_from}

module _ (config : Config) (key : Key) where
  -- what comes in rounds after others
  abbrev from : ℕ → Past → List Round → List (Timed Input)
  from number past rounds =
      history key_cmp tick_at (transactions_from config number past rounds) key

  abbrev pub inputs_after : List Round → List Round → List (Timed Input)
  inputs_after rounds more =
      from (config.first + length rounds) (past_from config config.first no_past rounds) more

  pub inputs-append : (rounds more : List Round)
      → inputs_of config (rounds ++ more) key
      ≡ inputs_of config rounds key ++ inputs_after rounds more
  unfolding past_of
  inputs-append rounds more =
      let past = past_from config config.first no_past rounds in
      ap (λ (p : Past). history key_cmp tick_at p.transactions key)
      (past_from-append config config.first no_past rounds more)
      ∙ ap (λ phases. history key_cmp tick_at phases key)
      (transactions_are config (config.first + length rounds) past more)
      ∙ flat_map-append (λ phase. own_inputs key_cmp tick_at phase key) past.transactions
      (transactions_from config (config.first + length rounds) past more)

  -- the next round begins with a tick
  pub record BeginsWithTick (round : Round) (inputs : List (Timed Input)) : Type 0 where
    pub rest : List (Timed Input)
    pub are : inputs ≡ tick_at round.moment ∷ rest

  begins : (number : ℕ) (past : Past) (round : Round) (rounds : List Round)
      → BeginsWithTick round (from number past (round ∷ rounds))
  unfolding first
  begins number past round rounds = record { rest = _; are = refl }

  pub begins_with_tick : (rounds : List Round) (round : Round) (more : List Round)
      → BeginsWithTick round (inputs_after rounds (round ∷ more))
  begins_with_tick rounds round more =
      begins (config.first + length rounds) (past_from config config.first no_past rounds) round more

  -- ---- moments

  module _ (P : ℕ → Type 0) where
    abbrev pub AtMoment : Timed Input → Type 0
    AtMoment timed = P timed.moment

    own_step : (own : Bool) (item : model.Item Key (Timed Input))
        (kept : List (model.Item Key (Timed Input))) → AtMoment item.input
        → AllByRecursion AtMoment (map (λ i. i.input) kept)
        → AllByRecursion AtMoment (map (λ i. i.input) (cond own (item ∷ kept) kept))
    own_step true item kept here later = (here, later)
    own_step false item kept here later = later

    items_at : (now : ℕ) → P now → (items : List (model.Item Key Input))
        → AllByRecursion AtMoment (phase.inputs_of key_cmp (timed_items now items) key)
    items_at now at [] = tt
    items_at now at (item ∷ items) =
        own_step (is_at (key_cmp item.key) key)
        (record { place = item.place; key = item.key; input = given_at now item.input })
        (filter (λ i. is_at (key_cmp i.key) key) (timed_items now items)) at
        (items_at now at items)

    first_at : (number : ℕ) (past : Past) (round : Round) → P round.moment
        → AllByRecursion AtMoment (own_inputs key_cmp tick_at (first config number past round) key)
    unfolding first
    first_at number past round at =
        (at, items_at round.moment at (transaction_items (arrivals config number past round)))

    third_at : (number : ℕ) (past : Past) (round : Round) → P round.moment
        → AllByRecursion AtMoment (own_inputs key_cmp tick_at (third config number past round) key)
    unfolding third
    third_at number past round at =
        items_at round.moment at
        (command_items 0 (flat_map command_of (given_second config number past round)))

    from_at : (number : ℕ) (past : Past) (rounds : List Round)
        → AllByRecursion (λ round. P round.moment) rounds
        → AllByRecursion AtMoment (from number past rounds)
    from_at number past [] at = tt
    from_at number past (round ∷ rounds) at =
        let next = past_after config number past round in
        let one = own_inputs key_cmp tick_at (first config number past round) key in
        let two = own_inputs key_cmp tick_at (third config number past round) key in
        let rest = from (suc number) next rounds in
        both AtMoment one (two ++ rest) (first_at number past round at.0)
        (both AtMoment two rest (third_at number past round at.0)
        (from_at (suc number) next rounds at.1))

    -- what is true of the moment of each round is true of that of each input
    pub inputs_at : (rounds : List Round) → AllByRecursion (λ round. P round.moment) rounds
        → AllByRecursion AtMoment (inputs_of config rounds key)
    unfolding past_of
    inputs_at rounds at =
        subst (λ phases. AllByRecursion AtMoment (history key_cmp tick_at phases key))
        (sym (transactions_are config config.first no_past rounds))
        (from_at config.first no_past rounds at)

    pub inputs_after_at : (rounds more : List Round)
        → AllByRecursion (λ round. P round.moment) more
        → AllByRecursion AtMoment (inputs_after rounds more)
    inputs_after_at rounds more at =
        from_at (config.first + length rounds) (past_from config config.first no_past rounds) more at
