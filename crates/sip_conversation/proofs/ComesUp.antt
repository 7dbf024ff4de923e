-- What a transaction hands up comes up to its call.
use Rattle.std.proofs.Common.{◌≡◌, ⊎_elim, ℕ, suc, Bool, List, [], ◌∷◌, ◌++◌, refl, sym, ap, ◌∙◌, subst}
use Rattle.std.specs.Prelude.{Contains, Option, None, filter, nat_eq}
use Rattle.std.specs.BTreeMap.{is_at}
use Rattle.std.specs.List.{AllByRecursion, flat_map}
use Rattle.std.proofs.lemmas.Bool.Decides.{Decides-eqb}
use Rattle.std.proofs.lemmas.Cmp.{nat_list_cmp_total}
use Rattle.std.proofs.lemmas.List.Elements.{Contains-append_cases, Contains-append_left, Contains-append_right}
use Rattle.sip_message.specs.declared.id.Id.{Id}
use Rattle.sip_message.specs.declared.key.Key.{Key}
use Rattle.sip_message.specs.Key.{key_cmp}
use Rattle.keyed_machine.specs.declared.item.Item as model
use Rattle.keyed_machine.specs.Laws.{said_by}
use Rattle.keyed_machine.specs.Machine.{Timed, given_at, state_from, tick_at}
use Rattle.keyed_machine.specs.Phase.{Phase, history, own_inputs, timed_item, timed_items}
use Rattle.keyed_machine.specs.Phase as phase
use Rattle.keyed_machine.specs.Rules.{said_since, said_to}
use Rattle.keyed_machine.proofs.Ordered.{is_at_itself}
use Rattle.sip_transactions.specs.declared.input.Command.{Command}
use Rattle.sip_transactions.specs.declared.input.Input.{Input}
use Rattle.sip_transactions.specs.declared.life.Life.{Life}
use Rattle.sip_transactions.specs.declared.output.Out.{Out}
use Rattle.sip_transactions.specs.declared.output.Out.TheVariants as out
use Rattle.sip_transactions.specs.declared.output.Up.{Up as AnUp}
use Rattle.sip_transactions.specs.Laws.{CommandsOnlySend, IsSend}
use Rattle.sip_transactions.specs.Machine.{transaction_machine}
use Rattle.sip_transactions.specs.Shard.{order}
use Rattle.sip_transactions.proofs.LawSteps.{commands_only_send}
use Rattle.sip_transactions.proofs.Rules.{at_steps}
use Rattle.sip_user.specs.Command.{call_of_item}
use Rattle.sip_user.specs.declared.item.Item.{Item}
use Rattle.sip_user.specs.declared.item.Item.TheVariants.{Up}
use Rattle.sip_calls.specs.Call.{CallItem}
use Rattle.sip_calls.specs.CallShard.{call_cmp}
use Rattle.sip_round.specs.declared.config.Config.{Config}
use Rattle.sip_round.specs.declared.round.Round.{Round}
use Rattle.sip_round.specs.Answers.{Past, arrivals, first, given_second, items_of_round, no_past, past_after, past_of, said_by_transactions, second, third}
use Rattle.sip_round.specs.Arrivals.{Arrival}
use Rattle.sip_round.specs.Arrivals as arrival
use Rattle.sip_round.specs.Laws.{said_of}
use Rattle.sip_round.specs.Outputs.{all_said, command_of, joined, outs_of, raised_of, said_at, user_items}
use Rattle.sip_round.specs.Phases.{call_items, command_items, transaction_item, transaction_items}
use Rattle.sip_round.proofs.GivenNotices.{calls_are, calls_from}
use Rattle.sip_conversation.specs.Messages.{ComesUp}
use Rattle.sip_conversation.proofs.Among.{among_first, among_kept, among_later, among_mapped, each_of, first_or_later, in_all_of, in_one_of, mapped_among, none_among}
use Rattle.sip_conversation.proofs.OneStart.{in_all}
use Rattle.sip_conversation.proofs.Rounds.{transactions_are, transactions_from}

abbrev Group : Type 0
Group = (ℕ × Key) × List Out

-- ---- whose outputs these are

module _ (phases : List (Phase Key (Timed Input))) where
  abbrev said : Phase Key (Timed Input) → List (model.Item Key (Timed Input)) → List Group
  said = said_to key_cmp transaction_machine tick_at phases

  -- an item of this place
  record HasItem (items : List (model.Item Key (Timed Input))) (place : ℕ) : Type 0 where
    item : model.Item Key (Timed Input)
    among : Contains items item
    place_is : item.place ≡ place

  of_item : (part : Phase Key (Timed Input)) (items : List (model.Item Key (Timed Input)))
      (group : Group) → Contains (said part items) group → HasItem items (group.0).0
  of_item part [] group among = absurd (none_among group among)
  of_item part (item ∷ items) group among =
      let next = record part { items = part.items ++ item ∷ [] } in
      ⊎_elim
      (λ same. record {
        item = item;
        among = among_first item items;
        place_is = ap (λ (g : Group). (g.0).0) same;
      })
      (λ later. let rest = of_item next items group later in record {
        item = rest.item;
        among = among_later item items rest.item rest.among;
        place_is = rest.place_is;
      })
      (first_or_later _ (said next items) group among)

  -- a command
  abbrev IsOrder : model.Item Key (Timed Input) → Type 0
  IsOrder item = (id : Id) × (command : Command) × (now : ℕ)
      × (item.input ≡ order id command now)

  abbrev held : Phase Key (Timed Input) → model.Item Key (Timed Input) → Option Life
  held part item = state_from transaction_machine item.key None
      (history key_cmp tick_at (phases ++ part ∷ []) item.key)

  abbrev OnlySends : Group → Type 0
  OnlySends group = AllByRecursion IsSend group.1

  only_sends : (part : Phase Key (Timed Input)) (items : List (model.Item Key (Timed Input)))
      → AllByRecursion IsOrder items → AllByRecursion OnlySends (said part items)
  only_sends part [] orders = tt
  only_sends part (item ∷ items) orders = (
    subst (λ input. AllByRecursion IsSend (transaction_machine.step item.key
        (held part item) input).1) (sym (orders.0).3)
        (at_steps CommandsOnlySend commands_only_send item.key (held part item) (orders.0).0
        (orders.0).1 (orders.0).2),
    only_sends (record part { items = part.items ++ item ∷ [] }) items orders.1,
  )

-- ---- an item of a round is given to its call

module _ (one : Id × Item) where
  pub item_at : (place : ℕ) (items : List (Id × Item)) → Contains items one
      → (at : ℕ) × Contains (call_items place items)
      (record { place = at; key = call_of_item one.1; input = one })
  item_at place [] among = absurd (none_among one among)
  item_at place (first ∷ items) among =
      ⊎_elim
      (λ same. (
        place,
        subst (λ (i : Id × Item). Contains (call_items place (i ∷ items))
            (record { place = place; key = call_of_item one.1; input = one })) (sym same)
            (among_first _ (call_items (suc place) items)),
      ))
      (λ later. let found = item_at (suc place) items later in
      (found.0, among_later _ (call_items (suc place) items) _ found.1))
      (first_or_later first items one among)

  pub call_given : (config : Config) (number : ℕ) (past : Past) (round : Round)
      → Contains (items_of_round config number past round) one
      → Contains (own_inputs call_cmp tick_at (second config number past round)
      (call_of_item one.1)) (given_at round.moment one)
  unfolding second
  call_given config number past round among =
      let items = call_items 0 (items_of_round config number past round) in
      let found = item_at 0 (items_of_round config number past round) among in
      let item : model.Item (List ℕ) CallItem =
      record { place = found.0; key = call_of_item one.1; input = one } in
      let timed = timed_item round.moment item in
      Contains-append_right (tick_at round.moment ∷ [])
      (phase.inputs_of call_cmp (timed_items round.moment items) (call_of_item one.1))
      (given_at round.moment one)
      (mapped_among (λ (i : model.Item (List ℕ) (Timed CallItem)). i.input)
      (filter (λ i. is_at (call_cmp i.key) (call_of_item one.1)) (timed_items round.moment items))
      timed
      (among_kept (λ (i : model.Item (List ℕ) (Timed CallItem)).
      is_at (call_cmp i.key) (call_of_item one.1))
      (timed_items round.moment items) timed
      (mapped_among (timed_item round.moment) items item found.1)
      (is_at_itself nat_list_cmp_total (call_of_item one.1))))

-- ---- one round

module _ (up : AnUp) where
  abbrev o : Out
  o = out.Up up

  raised_among : (id : Id) (outs : List Out) → Contains outs o
      → Contains (flat_map (raised_of id) outs) (id, Up up)
  raised_among id outs among =
      in_all_of (raised_of id) outs o (id, Up up) among (among_first (id, Up up) [])

  -- the arrival of an item of a transaction
  record ArrivesAt (came : List (Id × Arrival)) (place : ℕ) : Type 0 where
    id : Id
    key : Key
    input : Input
    among : Contains came (id, arrival.Transaction key input)
    place_is : id.place ≡ place

  arrival_of_item : (came : List (Id × Arrival)) (item : model.Item Key Input)
      → Contains (transaction_items came) item → ArrivesAt came item.place
  arrival_of_item came item among =
      let found = in_one_of (λ (a : Id × Arrival). transaction_item a.0 a.1) came item among in
      by_kind (found.0).0 (found.0).1 found.1 found.2
    where
      by_kind : (id : Id) (a : Arrival) → Contains came (id, a)
          → Contains (transaction_item id a) item → ArrivesAt came item.place
      by_kind id (arrival.Transaction key input) within has =
          ⊎_elim
          (λ same. record {
            id = id;
            key = key;
            input = input;
            among = within;
            place_is = ap (λ (i : model.Item Key Input). i.place) same;
          })
          (λ none. absurd (none_among item none))
          (first_or_later _ [] item has)
      by_kind id (arrival.Dropped why) within has = absurd (none_among item has)
      by_kind id (arrival.User command) within has = absurd (none_among item has)

  module _ (config : Config) (number : ℕ) (past : Past) (round : Round) where
    abbrev came : List (Id × Arrival)
    came = arrivals config number past round

    abbrev before : List (Phase Key (Timed Input))
    before = past.transactions

    abbrev of_arrival : (ℕ → List Out) → Id × Arrival → List (Id × Item)
    of_arrival said a = flat_map (raised_of a.0) (outs_of said a.0 a.1) ++ user_items a.0 a.1

    -- what is said to an item comes up with its event
    by_event : (said : ℕ → List Out) (place : ℕ) → ArrivesAt came place → Contains (said place) o
        → (id : Id) × Contains (flat_map (of_arrival said) came) (id, Up up)
    by_event said place at has = (
      at.id,
      in_all_of (of_arrival said) came (at.id, arrival.Transaction at.key at.input) (at.id, Up up)
          at.among
          (Contains-append_left (flat_map (raised_of at.id) (said at.id.place)) [] (at.id, Up up)
          (raised_among at.id (said at.id.place)
          (subst (λ p. Contains (said p) o) (sym at.place_is) has))),
    )

    in_items : Contains (all_said (said_by_transactions before (first config number past round))) o
        → (id : Id) × Contains (items_of_round config number past round) (id, Up up)
    unfolding items_of_round first
    in_items among =
        let one = first config number past round in
        let told = said_by_transactions before one in
        let zero : Id = record { round = number; place = 0 } in
        let ticks = flat_map (raised_of zero) (joined told.ticks) in
        let rest = flat_map (of_arrival (said_at told)) came in
        ⊎_elim
        (λ tick_says. (
          zero,
          Contains-append_left ticks rest (zero, Up up)
              (raised_among zero (joined told.ticks) tick_says),
        ))
        (λ item_says.
        let group = in_one_of (λ (group : Group). group.1) told.items o item_says in
        let place : ℕ = ((group.0).0).0 in
        let item = of_item before (record { moment = one.moment; items = [] }) one.items group.0
        group.1 in
        let plain = among_mapped (timed_item round.moment) (transaction_items came) item.item
        item.among in
        let at : ArrivesAt came place = subst (ArrivesAt came)
        (ap (λ (i : model.Item Key (Timed Input)). i.place) plain.2 ∙ item.place_is)
        (arrival_of_item came plain.0 plain.1) in
        let passes : Group → Bool = λ said. nat_eq (said.0).0 place in
        let said : Contains (said_at told place) o =
        in_all_of (λ (group : Group). group.1) (filter passes told.items) group.0 o
        (among_kept passes told.items group.0 group.1 ((Decides-eqb place place).1 refl)) group.2 in
        let found = by_event (said_at told) place at said in
        (found.0, Contains-append_right ticks rest (found.0, Up up) found.1))
        (Contains-append_cases (joined told.ticks) (joined told.items) o among)

    orders_from : (place : ℕ) (orders : List (Id × Command))
        → AllByRecursion (IsOrder (before ++ first config number past round ∷ []))
        (timed_items round.moment (command_items place orders))
    orders_from place [] = tt
    orders_from place (one ∷ orders) =
        ((one.0, one.1, round.moment, refl), orders_from (suc place) orders)

    -- commands hand nothing up
    not_later : Contains (all_said
        (said_by_transactions (before ++ first config number past round ∷ [])
        (third config number past round))) o → ⊥
    unfolding third
    not_later among =
        let phases = before ++ first config number past round ∷ [] in
        let two = third config number past round in
        let told = said_by_transactions phases two in
        let only = only_sends phases (record { moment = None; items = [] }) two.items
        (orders_from 0 (flat_map command_of (given_second config number past round))) in
        let group = in_one_of (λ (group : Group). group.1) told.items o among in
        each_of IsSend (group.0).1 o
        (each_of (OnlySends phases) told.items group.0 only group.1) group.2

  -- ---- rounds

  module _ (config : Config) (key : Key) where
    from_said : (number : ℕ) (past : Past) (rounds : List Round)
        → Contains (said_since key_cmp transaction_machine tick_at key past.transactions
        (transactions_from config number past rounds)) o
        → (now : ℕ) × (id : Id)
        × Contains (history call_cmp tick_at (calls_from config number past rounds) up.call_id)
        (given_at now (id, Up up))
    unfolding past_after
    from_said number past [] among = absurd (none_among o among)
    from_said number past (round ∷ rounds) among =
        let next = past_after config number past round in
        let one = first config number past round in
        let two = third config number past round in
        let between = past.transactions ++ one ∷ [] in
        let own = own_inputs call_cmp tick_at (second config number past round) up.call_id in
        let more = history call_cmp tick_at (calls_from config (suc number) next rounds) up.call_id
        in
        let rest = said_since key_cmp transaction_machine tick_at key (between ++ two ∷ [])
        (transactions_from config (suc number) next rounds) in
        let of_one = said_by key_cmp transaction_machine tick_at key
        (said_by_transactions past.transactions one) in
        let of_two = said_by key_cmp transaction_machine tick_at key
        (said_by_transactions between two) in
        ⊎_elim
        (λ here.
        let found = in_items config number past round
        (in_all key_cmp transaction_machine tick_at key
        (said_by_transactions past.transactions one) o here) in (
          round.moment,
          found.0,
          Contains-append_left own more (given_at round.moment (found.0, Up up))
              (call_given (found.0, Up up) config number past round found.1),
        ))
        (λ later. ⊎_elim
        (λ there. absurd (not_later config number past round
        (in_all key_cmp transaction_machine tick_at key (said_by_transactions between two) o
        there)))
        (λ after. let found = from_said (suc number) next rounds after in (
          found.0,
          found.1,
          Contains-append_right own more (given_at found.0 (found.1, Up up)) found.2,
        ))
        (Contains-append_cases of_two rest o later))
        (Contains-append_cases of_one (of_two ++ rest) o among)

    pub comes_up : (rounds : List Round) → Contains (said_of config rounds key) o
        → ComesUp config rounds up.call_id up
    unfolding past_of
    comes_up rounds among =
        let found = from_said config.first no_past rounds
        (subst (λ phases. Contains (said_since key_cmp transaction_machine tick_at key [] phases) o)
        (transactions_are config config.first no_past rounds) among) in (
          found.0,
          found.1,
          subst (λ phases. Contains (history call_cmp tick_at phases up.call_id)
              (given_at found.0 (found.1, Up up)))
              (sym (calls_are config config.first no_past rounds)) found.2,
        )
