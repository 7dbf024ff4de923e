-- What transactions and calls are given in rounds, and what they say, each as a list.
use Rattle.std.proofs.Common.{◌≡◌, ℕ, suc, Bool, true, false, cond, List, [], ◌∷◌, ◌++◌, map, refl, sym, ◌∙◌, subst, ⊎_elim, append-nil, append_assoc}
use Rattle.std.specs.Prelude.{Contains, IfSome, Option, None, Some, filter, option_to_list}
use Rattle.std.specs.declared.cmp.Ordering.{Ordering}
use Rattle.std.specs.Cmp.{IsTotalOrder}
use Rattle.std.specs.BTreeMap.{is_at}
use Rattle.std.specs.List.{AllByRecursion, flat_map}
use Rattle.std.proofs.lemmas.Cmp.{nat_list_cmp_total}
use Rattle.std.proofs.lemmas.List.Elements.{Contains-append_cases, Contains-append_left, Contains-append_right}
use Rattle.sip_message.specs.declared.id.Id.{Id}
use Rattle.sip_message.specs.declared.key.Key.{Key}
use Rattle.sip_message.specs.Key.{key_cmp, keys_total}
use Rattle.keyed_machine.specs.declared.item.Item as model
use Rattle.keyed_machine.specs.Laws.{said_by}
use Rattle.keyed_machine.specs.Machine.{Machine, Timed, tick_at}
use Rattle.keyed_machine.specs.Phase.{Phase, PhaseOutputs, history, inputs_of, own_inputs, timed_items}
use Rattle.keyed_machine.specs.Rules.{said_since}
use Rattle.keyed_machine.proofs.Ordered.{exact_at, is_at_itself}
use Rattle.sip_transactions.specs.declared.input.Command.{Command}
use Rattle.sip_transactions.specs.declared.input.Input.{Input}
use Rattle.sip_message.specs.Keys.{exact_keys}
use Rattle.sip_transactions.specs.Shard.{asked_by, command_key}
use Rattle.sip_user.specs.declared.item.CallOut.{CallOut}
use Rattle.sip_user.specs.declared.item.CallOut.TheVariants as call_out
use Rattle.sip_held_dialogs.proofs.Each.{both}
use Rattle.sip_calls.specs.declared.call.Call.{Call}
use Rattle.sip_calls.specs.Call.{CallItem, call_machine}
use Rattle.sip_calls.specs.CallShard.{call_cmp}
use Rattle.sip_round.specs.declared.config.Config.{Config}
use Rattle.sip_round.specs.declared.round.Event.{Event}
use Rattle.sip_round.specs.declared.round.Round.{Round}
use Rattle.sip_round.specs.Answers.{Past, arrivals, calls_of, first, given_second, no_past, past_after, past_from, past_of, said_by_calls, second, third}
use Rattle.sip_round.specs.Arrivals.{Arrival, arrival_of, arrivals_from}
use Rattle.sip_round.specs.Arrivals as arrival
use Rattle.sip_round.specs.Laws.{inputs_of as inputs_of_rounds}
use Rattle.sip_round.specs.Outputs.{all_said, command_of, joined}
use Rattle.sip_round.specs.Phases.{command_items, transaction_item, transaction_items}
use Rattle.sip_round.proofs.GivenNotices.{calls_are, calls_from}
use Rattle.sip_conversation.specs.Messages.{CallSays}
use Rattle.sip_conversation.proofs.Among.{among_kept, in_all_of, in_one_of, none_among}

-- ---- whatever is said in a phase, some key says

module _ {K S I O : Type 0} (cmp : K → K → Ordering) (total : IsTotalOrder cmp)
    (machine : Machine K S I O) (tick : ℕ → I) where
  in_groups : {L : Type 0} (key_of : L → K) (groups : List (L × List O)) (o : O)
      → Contains (joined groups) o → (key : K)
      × Contains (joined (filter (λ group. is_at (cmp key) (key_of group.0)) groups)) o
  in_groups key_of groups o among =
      let one = in_one_of (λ group. group.1) groups o among in
      let key : K = key_of (one.0).0 in (
        key,
        in_all_of (λ group. group.1)
            (filter (λ group. is_at (cmp key) (key_of group.0)) groups) one.0 o
            (among_kept (λ group. is_at (cmp key) (key_of group.0)) groups one.0 one.1
            (is_at_itself total key)) one.2,
      )

  pub some_key : (told : PhaseOutputs K O) (o : O) → Contains (all_said told) o
      → (key : K) × Contains (said_by cmp machine tick key told) o
  some_key told o among =
      ⊎_elim
      (λ tick_says. let one = in_groups (λ key. key) told.ticks o tick_says in
      (one.0, Contains-append_left _ _ o one.1))
      (λ item_says. let one = in_groups (λ (place : ℕ × K). place.1) told.items o item_says in
      (one.0, Contains-append_right _ _ o one.1))
      (Contains-append_cases (joined told.ticks) (joined told.items) o among)

-- ---- the phases of rounds

module _ (config : Config) where
  abbrev machine : Machine (List ℕ) Call (Timed CallItem) CallOut
  machine = call_machine (calls_of config)

  -- those of the transactions, in rounds numbered upwards from this number, after a past
  abbrev pub transactions_from : ℕ → Past → List Round → List (Phase Key (Timed Input))
  transactions_from number past [] = []
  transactions_from number past (round ∷ rounds) =
      first config number past round ∷ (third config number past round
      ∷ transactions_from (suc number) (past_after config number past round) rounds)

  pub transactions_are : (number : ℕ) (past : Past) (rounds : List Round)
      → (past_from config number past rounds).transactions
      ≡ past.transactions ++ transactions_from number past rounds
  unfolding past_after
  transactions_are number past [] = sym (append-nil past.transactions)
  transactions_are number past (round ∷ rounds) =
      let one = first config number past round in
      let two = third config number past round in
      let next = past_after config number past round in
      let rest = transactions_from (suc number) next rounds in
      transactions_are (suc number) next rounds
      ∙ append_assoc (past.transactions ++ one ∷ []) (two ∷ []) rest
      ∙ append_assoc past.transactions (one ∷ []) (two ∷ rest)

  -- what the calls say in these rounds
  abbrev pub calls_give : ℕ → Past → List Round → List CallOut
  calls_give number past [] = []
  calls_give number past (round ∷ rounds) = given_second config number past round
      ++ calls_give (suc number) (past_after config number past round) rounds

  some_call : (number : ℕ) (past : Past) (rounds : List Round) (o : CallOut)
      → Contains (calls_give number past rounds) o → (call_id : List ℕ)
      × Contains (said_since call_cmp machine tick_at call_id past.calls
      (calls_from config number past rounds)) o
  unfolding given_second past_after
  some_call number past [] o among = absurd (none_among o among)
  some_call number past (round ∷ rounds) o among =
      let next = past_after config number past round in
      let told = said_by_calls (calls_of config) past.calls (second config number past round) in
      let rest = calls_from config (suc number) next rounds in
      ⊎_elim
      (λ here. let one = some_key call_cmp nat_list_cmp_total machine tick_at told o here in (
        one.0,
        Contains-append_left (said_by call_cmp machine tick_at one.0 told)
            (said_since call_cmp machine tick_at one.0 next.calls rest) o one.1,
      ))
      (λ later. let one = some_call (suc number) next rounds o later in (
        one.0,
        Contains-append_right (said_by call_cmp machine tick_at one.0 told)
            (said_since call_cmp machine tick_at one.0 next.calls rest) o one.1,
      ))
      (Contains-append_cases (given_second config number past round)
      (calls_give (suc number) next rounds) o among)

  -- whatever all calls say, one call says
  pub call_says : (rounds : List Round) (o : CallOut)
      → Contains (calls_give config.first no_past rounds) o → CallSays config rounds o
  unfolding past_of
  call_says rounds o among =
      let one = some_call config.first no_past rounds o among in (
        one.0,
        subst (λ phases. Contains (said_since call_cmp machine tick_at one.0 [] phases) o)
            (sym (calls_are config config.first no_past rounds)) one.1,
      )

-- ---- what transactions are given

pub all_of_parts : {X : Type 0} (P : X → Type 0) (xs ys : List X) → AllByRecursion P (xs ++ ys)
    → AllByRecursion P xs × AllByRecursion P ys
all_of_parts P [] ys all = (tt, all)
all_of_parts P (x ∷ xs) ys all =
    let later = all_of_parts P xs ys all.1 in ((all.0, later.0), later.1)

module _ (config : Config) (Fits : Key → Input → Type 0) where
  -- what arrives fits
  abbrev pub ArrivalFits : Arrival → Type 0
  ArrivalFits (arrival.Transaction key input) = Fits key input
  ArrivalFits (arrival.Dropped why) = Unit {0}
  ArrivalFits (arrival.User command) = Unit {0}

  -- each event of a round
  abbrev pub RoundFits : Round → Type 0
  RoundFits round = AllByRecursion (λ e. (id : Id) → ArrivalFits (arrival_of config.local id e))
      round.events

  -- what a call asks of a transaction fits
  abbrev pub OutFits : CallOut → Type 0
  OutFits (call_out.Notice notice) = Unit {0}
  OutFits (call_out.Command id command) = Fits (command_key command) (asked_by id command)
  OutFits (call_out.Direct to bytes) = Unit {0}

  -- an input of a transaction fits
  abbrev pub TimedFits : Key → Timed Input → Type 0
  TimedFits key timed = IfSome timed.input (Fits key)

  abbrev ItemFits : model.Item Key Input → Type 0
  ItemFits item = Fits item.key item.input

  abbrev TimedItemFits : model.Item Key (Timed Input) → Type 0
  TimedItemFits item = TimedFits item.key item.input

  arrival_fits : (id : Id) (a : Arrival) → ArrivalFits a
      → AllByRecursion ItemFits (transaction_item id a)
  arrival_fits id (arrival.Transaction key input) fits = (fits, tt)
  arrival_fits id (arrival.Dropped why) fits = tt
  arrival_fits id (arrival.User command) fits = tt

  events_fit : (number place : ℕ) (events : List Event)
      → AllByRecursion (λ e. (id : Id) → ArrivalFits (arrival_of config.local id e)) events
      → AllByRecursion ItemFits (transaction_items (arrivals_from config.local number place events))
  events_fit number place [] fit = tt
  events_fit number place (e ∷ events) fit =
      let id : Id = record { round = number; place = place } in
      both ItemFits (transaction_item id (arrival_of config.local id e))
      (transaction_items (arrivals_from config.local number (suc place) events))
      (arrival_fits id (arrival_of config.local id e) (fit.0 id))
      (events_fit number (suc place) events fit.1)

  abbrev OrderFits : Id × Command → Type 0
  OrderFits order = Fits (command_key order.1) (asked_by order.0 order.1)

  orders_fit : (place : ℕ) (orders : List (Id × Command)) → AllByRecursion OrderFits orders
      → AllByRecursion ItemFits (command_items place orders)
  orders_fit place [] fit = tt
  orders_fit place (order ∷ orders) fit = (fit.0, orders_fit (suc place) orders fit.1)

  outs_fit : (outs : List CallOut) → AllByRecursion OutFits outs
      → AllByRecursion OrderFits (flat_map command_of outs)
  outs_fit [] fit = tt
  outs_fit (call_out.Notice notice ∷ outs) fit = outs_fit outs fit.1
  outs_fit (call_out.Command id command ∷ outs) fit = (fit.0, outs_fit outs fit.1)
  outs_fit (call_out.Direct to bytes ∷ outs) fit = outs_fit outs fit.1

  timed_fit : (now : ℕ) (items : List (model.Item Key Input)) → AllByRecursion ItemFits items
      → AllByRecursion TimedItemFits (timed_items now items)
  timed_fit now [] fit = tt
  timed_fit now (item ∷ items) fit = (fit.0, timed_fit now items fit.1)

  module _ (key : Key) where
    own_step : (item : model.Item Key (Timed Input)) (kept : List (model.Item Key (Timed Input)))
        (own : Bool) → is_at (key_cmp item.key) key ≡ own → TimedItemFits item
        → AllByRecursion (TimedFits key) (map (λ i. i.input) kept)
        → AllByRecursion (TimedFits key) (map (λ i. i.input) (cond own (item ∷ kept) kept))
    own_step item kept true is fits rest = (
      subst (λ k. TimedFits k item.input) (exact_at keys_total exact_keys item.key key is) fits,
      rest,
    )
    own_step item kept false is fits rest = rest

    own_fit : (items : List (model.Item Key (Timed Input))) → AllByRecursion TimedItemFits items
        → AllByRecursion (TimedFits key) (inputs_of key_cmp items key)
    own_fit [] fit = tt
    own_fit (item ∷ items) fit =
        own_step item (filter (λ i. is_at (key_cmp i.key) key) items)
        (is_at (key_cmp item.key) key) refl fit.0 (own_fit items fit.1)

    ticks_fit : (moment : Option ℕ)
        → AllByRecursion (TimedFits key) (map tick_at (option_to_list moment))
    ticks_fit None = tt
    ticks_fit (Some moment) = (tt, tt)

    pub phase_fits : (phase : Phase Key (Timed Input)) → AllByRecursion TimedItemFits phase.items
        → AllByRecursion (TimedFits key) (own_inputs key_cmp tick_at phase key)
    phase_fits phase fit =
        both (TimedFits key) (map tick_at (option_to_list phase.moment))
        (inputs_of key_cmp phase.items key) (ticks_fit phase.moment) (own_fit phase.items fit)

    pub first_fits : (number : ℕ) (past : Past) (round : Round) → RoundFits round
        → AllByRecursion TimedItemFits (first config number past round).items
    unfolding first
    first_fits number past round fit =
        timed_fit round.moment (transaction_items (arrivals config number past round))
        (events_fit number 1 round.events fit)

    pub third_fits : (number : ℕ) (past : Past) (round : Round)
        → AllByRecursion OutFits (given_second config number past round)
        → AllByRecursion TimedItemFits (third config number past round).items
    unfolding third
    third_fits number past round fit =
        let orders = flat_map command_of (given_second config number past round) in
        timed_fit round.moment (command_items 0 orders)
        (orders_fit 0 orders (outs_fit (given_second config number past round) fit))

    inputs_from_fit : (number : ℕ) (past : Past) (rounds : List Round)
        → AllByRecursion RoundFits rounds
        → AllByRecursion OutFits (calls_give config number past rounds)
        → AllByRecursion (TimedFits key)
        (history key_cmp tick_at (transactions_from config number past rounds) key)
    inputs_from_fit number past [] fit asked = tt
    inputs_from_fit number past (round ∷ rounds) fit asked =
        let next = past_after config number past round in
        let one = first config number past round in
        let two = third config number past round in
        let rest = history key_cmp tick_at
        (transactions_from config (suc number) next rounds) key in
        let parts = all_of_parts OutFits (given_second config number past round)
        (calls_give config (suc number) next rounds) asked in
        both (TimedFits key) (own_inputs key_cmp tick_at one key)
        (own_inputs key_cmp tick_at two key ++ rest)
        (phase_fits one (first_fits number past round fit.0))
        (both (TimedFits key) (own_inputs key_cmp tick_at two key) rest
        (phase_fits two (third_fits number past round parts.0))
        (inputs_from_fit (suc number) next rounds fit.1 parts.1))

    -- each input of a transaction fits, if what arrives fits and what calls ask does
    pub inputs_fit : (rounds : List Round) → AllByRecursion RoundFits rounds
        → AllByRecursion OutFits (calls_give config config.first no_past rounds)
        → AllByRecursion (TimedFits key) (inputs_of_rounds config rounds key)
    unfolding past_of
    inputs_fit rounds fit asked =
        subst (λ phases. AllByRecursion (TimedFits key) (history key_cmp tick_at phases key))
        (sym (transactions_are config config.first no_past rounds))
        (inputs_from_fit config.first no_past rounds fit asked)
