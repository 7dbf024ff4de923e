-- What comes up in the first phase of a round is given to the calls in the second.
use Rattle.std.proofs.Common.{◌≡◌, inl, inr, ⊎_elim, ℕ, suc, Bool, true, false, cond, List, [], ◌∷◌, ◌++◌, nat_eq, refl, sym, ap, ◌∙◌, subst, arith}
use Rattle.std.specs.Prelude.{Option, None, Some, Result, Ok, Err, filter, filter_map}
use Rattle.std.specs.List.{AllByRecursion, cons_option, flat_map}
use Rattle.std.proofs.lemmas.Grind.{common_steps}
use Rattle.sip_message.specs.Key.{key_cmp}
use Rattle.sip_message.specs.Message.{is_request_message}
use Rattle.sip_message.specs.Source.{answer_address, stamped}
use Rattle.sip_message.specs.declared.addr.Addr.{Addr}
use Rattle.sip_message.specs.declared.fault.ReadFault.{ReadFault}
use Rattle.sip_message.specs.declared.id.Id.{Id}
use Rattle.sip_message.specs.declared.key.Key.{Key}
use Rattle.sip_message.specs.declared.message.Message.{Message}
use Rattle.sip_reader.specs.ReadMessage.{message_at}
use Rattle.keyed_machine.specs.declared.item.Item as model
use Rattle.keyed_machine.specs.Machine.{Timed}
use Rattle.keyed_machine.specs.Phase.{PhaseOutputs, stepped, timed_item, timed_items, told_items}
use Rattle.sip_transactions.specs.declared.input.Input.{Input}
use Rattle.sip_transactions.specs.declared.life.Life.{Life}
use Rattle.sip_transactions.specs.declared.output.DropReason.{DropReason}
use Rattle.sip_transactions.specs.declared.output.Out.{Out}
use Rattle.sip_transactions.specs.declared.output.Out.TheVariants as out
use Rattle.sip_transactions.specs.declared.output.Up.{Up as AnUp}
use Rattle.sip_transactions.specs.declared.output.UpKind.TheVariants as kind
use Rattle.sip_transactions.specs.Machine.{transaction_machine}
use Rattle.sip_transactions.specs.Shard.{is_stray, keyed_input}
use Rattle.sip_user.specs.Command.{call_of_item}
use Rattle.sip_user.specs.declared.item.Item.{Item}
use Rattle.sip_user.specs.declared.item.Item.TheVariants.{Up, User}
use Rattle.sip_calls.specs.Call.{CallItem}
use Rattle.sip_calls.specs.HeldRequests.{id_of_kind, request_brought}
use Rattle.sip_round.specs.Arrivals as arrival
use Rattle.sip_round.specs.Arrivals.{Arrival, arrival_for, arrival_of, arrivals_from, datagram_arrival, message_arrival}
use Rattle.sip_round.specs.declared.round.Event.{Event}
use Rattle.sip_round.specs.declared.round.Event.TheVariants as event
use Rattle.sip_round.specs.Answers.{items_first}
use Rattle.sip_round.specs.Outputs.{joined, outs_of, raised_of, said_at, user_items}
use Rattle.sip_round.specs.Phases.{call_items, transaction_item, transaction_items}
use Rattle.sip_agent_laws.proofs.agents.FirstPhase.{AreArrivals, IsArrival}
use Rattle.sip_agent_laws.proofs.agents.Lists.{Among, among_flat, among_kept, among_left, among_right, back_of, both, by_if, flat_among, front_of, mapped_among}

-- ---- arrivals are no commands

abbrev IsNoCommand : Arrival → Type 0
IsNoCommand (arrival.Transaction key input) = IsArrival (Some input)
IsNoCommand (arrival.Dropped why) = Unit {0}
IsNoCommand (arrival.User command) = Unit {0}

keyed_arrives : (local : Addr) (id : Id) (message : Message) (to : Addr)
    → IsNoCommand (arrival_for (keyed_input local id message to))
keyed_arrives local id message to =
    by_if (λ (input : Option (Key × Input)). IsNoCommand (arrival_for input))
    (is_stray local message) None _ (λ stray. tt) (λ ours. tt)

datagram_arrives : (local : Addr) (id : Id) (from : Addr) (read : Result Message ReadFault)
    → IsNoCommand (datagram_arrival local id from read)
unfolding message_arrival
datagram_arrives local id from (Err fault) = tt
datagram_arrives local id from (Ok message) =
    by_if IsNoCommand (is_request_message message)
    (arrival_for (keyed_input local id (stamped message from) (answer_address message from)))
    (arrival_for (keyed_input local id message from))
    (λ request. keyed_arrives local id (stamped message from) (answer_address message from))
    (λ response. keyed_arrives local id message from)

event_arrives : (local : Addr) (id : Id) (e : Event) → IsNoCommand (arrival_of local id e)
unfolding arrival_of
event_arrives local id (event.Datagram from bytes) =
    datagram_arrives local id from (message_at bytes)
event_arrives local id (event.Failed key) = tt
event_arrives local id (event.Command command) = tt

one_arrives : (now : ℕ) (id : Id) (a : Arrival) (rest : List (model.Item Key Input))
    → IsNoCommand a → AreArrivals (timed_items now rest)
    → AreArrivals (timed_items now (transaction_item id a ++ rest))
one_arrives now id (arrival.Transaction key input) rest is later = (is, later)
one_arrives now id (arrival.Dropped why) rest is later = later
one_arrives now id (arrival.User command) rest is later = later

pub arrivals_arrive : (now : ℕ) (local : Addr) (number place : ℕ) (events : List Event)
    → AreArrivals (timed_items now (transaction_items (arrivals_from local number place events)))
arrivals_arrive now local number place [] = tt
arrivals_arrive now local number place (e ∷ events) =
    let id : Id = record { round = number; place = place } in
    one_arrives now id (arrival_of local id e)
    (transaction_items (arrivals_from local number (suc place) events)) (event_arrives local id e)
    (arrivals_arrive now local number (suc place) events)

-- ---- what is true of all that comes up is true of the calls' items

module _ (P : Out → Type 0) (drops : (place : ℕ) (why : DropReason) → P (out.Dropped place why))
  where
    abbrev pub ItemIs : Id × Item → Type 0
    ItemIs (id, Up up) = P (out.Up up)
    ItemIs (id, User command) = Unit {0}

    raised_all : (id : Id) (outs : List Out) → AllByRecursion P outs
        → AllByRecursion ItemIs (flat_map (raised_of id) outs)
    raised_all id [] all = tt
    raised_all id (out.Up up ∷ outs) all = (all.0, raised_all id outs all.1)
    raised_all id (out.Send key to bytes ∷ outs) all = raised_all id outs all.1
    raised_all id (out.Dropped place why ∷ outs) all = raised_all id outs all.1

    some_groups : {L : Type 0} (test : L × List Out → Bool) (groups : List (L × List Out))
        → AllByRecursion P (flat_map (λ group. group.1) groups)
        → AllByRecursion P (flat_map (λ group. group.1) (filter test groups))
    some_groups test [] all = tt
    some_groups test (group ∷ groups) all =
        let rest = flat_map (λ group. group.1) groups in
        elim (test group) as (λ b. AllByRecursion P (flat_map (λ group. group.1)
        (cond b (group ∷ filter test groups) (filter test groups)))) [
          | true ↦ both P group.1 (flat_map (λ group. group.1) (filter test groups))
              (front_of P group.1 rest all) (some_groups test groups (back_of P group.1 rest all))
          | false ↦ some_groups test groups (back_of P group.1 rest all)
        ]

    outs_all : (said : ℕ → List Out) → ((place : ℕ) → AllByRecursion P (said place))
        → (id : Id) (a : Arrival) → AllByRecursion P (outs_of said id a)
    outs_all said each id (arrival.Transaction key input) = each id.place
    outs_all said each id (arrival.Dropped why) = (drops id.place why, tt)
    outs_all said each id (arrival.User command) = tt

    user_all : (id : Id) (a : Arrival) → AllByRecursion ItemIs (user_items id a)
    user_all id (arrival.Transaction key input) = tt
    user_all id (arrival.Dropped why) = tt
    user_all id (arrival.User command) = (tt, tt)

    abbrev items_at : (ℕ → List Out) → Id × Arrival → List (Id × Item)
    items_at said a = flat_map (raised_of a.0) (outs_of said a.0 a.1) ++ user_items a.0 a.1

    arrivals_all : (said : ℕ → List Out) → ((place : ℕ) → AllByRecursion P (said place))
        → (arrivals : List (Id × Arrival))
        → AllByRecursion ItemIs (flat_map (items_at said) arrivals)
    arrivals_all said each [] = tt
    arrivals_all said each (a ∷ arrivals) =
        both ItemIs (items_at said a) (flat_map (items_at said) arrivals)
        (both ItemIs (flat_map (raised_of a.0) (outs_of said a.0 a.1)) (user_items a.0 a.1)
        (raised_all a.0 (outs_of said a.0 a.1) (outs_all said each a.0 a.1)) (user_all a.0 a.1))
        (arrivals_all said each arrivals)

    pub items_all : (number : ℕ) (told : PhaseOutputs Key Out) (arrivals : List (Id × Arrival))
        → AllByRecursion P (joined told.ticks) → AllByRecursion P (joined told.items)
        → AllByRecursion ItemIs (items_first number told arrivals)
    items_all number told arrivals ticks items =
        let zero : Id = record { round = number; place = 0 } in
        both ItemIs (flat_map (raised_of zero) (joined told.ticks))
        (flat_map (items_at (said_at told)) arrivals)
        (raised_all zero (joined told.ticks) ticks)
        (arrivals_all (said_at told)
        (λ place. some_groups (λ said. nat_eq (said.0).0 place) told.items items) arrivals)

-- ---- what comes up is among the calls' items

module _ (now : ℕ) where
  abbrev tells : (Key → Option Life) → List (model.Item Key (Timed Input))
      → List ((ℕ × Key) × List Out)
  tells states items = told_items key_cmp transaction_machine states items

  of_item : (states : Key → Option Life) (items : List (model.Item Key (Timed Input)))
      (said : (ℕ × Key) × List Out) → Among (tells states items) said
      → (item : model.Item Key (Timed Input)) × Among items item
      × (item.place ≡ (said.0).0)
  of_item states [] said among = absurd among
  of_item states (item ∷ items) said (inl same) =
      (item, inl refl, ap (λ (s : (ℕ × Key) × List Out). (s.0).0) same)
  of_item states (item ∷ items) said (inr later) =
      let rest = of_item (stepped key_cmp transaction_machine states item) items said later in
      (rest.0, inr rest.1, rest.2)

  at_place : (place : ℕ) (a : Id × Arrival) (item : model.Item Key Input)
      → Among (transaction_item a.0 a.1) item → item.place ≡ place
      → (said : ℕ → List Out) → outs_of said a.0 a.1 ≡ said place
  at_place place (id, arrival.Transaction key input) item among is said =
      ap said (⊎_elim (λ same. ap (λ (i : model.Item Key Input). i.place) same ∙ is)
      (λ none. absurd none) among)
  at_place place (id, arrival.Dropped why) item among is said = absurd among
  at_place place (id, arrival.User command) item among is said = absurd among

  same_place : (x y : ℕ) → x ≡ y → nat_eq x y ≡ true
  same_place x y same = grind (arith, common_steps, same)

  pub up_among : (number : ℕ) (states : Key → Option Life) (arrivals : List (Id × Arrival))
      (ticks : List (Key × List Out)) (up : AnUp)
      → Among (joined (tells states (timed_items now (transaction_items arrivals)))) (out.Up up)
      → (id : Id) × Among (items_first number
      (record { ticks = ticks; items = tells states (timed_items now (transaction_items arrivals)) })
      arrivals) (id, Up up)
  up_among number states arrivals ticks up among =
      let items = tells states (timed_items now (transaction_items arrivals)) in
      let told : PhaseOutputs Key Out = record { ticks = ticks; items = items } in
      let zero : Id = record { round = number; place = 0 } in
      let group = flat_among (λ (said : (ℕ × Key) × List Out). said.1) items (out.Up up) among in
      let place = (group.0.0).0 in
      let item = of_item states (timed_items now (transaction_items arrivals)) group.0 group.1 in
      let raw = mapped_among (timed_item now) (transaction_items arrivals) item.0 item.1 in
      let came = flat_among (λ (a : Id × Arrival). transaction_item a.0 a.1) arrivals raw.0 raw.1 in
      let a = came.0 in
      let raw_place : raw.0.place ≡ place =
      ap (λ (i : model.Item Key (Timed Input)). i.place) raw.2 ∙ item.2 in
      let own = outs_of (said_at told) a.0 a.1 in
      let same : own ≡ said_at told place =
      at_place place a raw.0 came.2 raw_place (said_at told) in
      let here : Among (said_at told place) (out.Up up) =
      among_flat (λ (said : (ℕ × Key) × List Out). said.1)
      (filter (λ (said : (ℕ × Key) × List Out). nat_eq (said.0).0 place) items) group.0 (out.Up up)
      (among_kept (λ (said : (ℕ × Key) × List Out). nat_eq (said.0).0 place) items group.0 group.1
      (same_place place place refl)) group.2 in
      let raised : Among (flat_map (raised_of a.0) (outs_of (said_at told) a.0 a.1)) (a.0, Up up) =
      among_flat (raised_of a.0) (outs_of (said_at told) a.0 a.1) (out.Up up) (a.0, Up up)
      (subst (λ outs. Among outs (out.Up up)) {y = own} (sym {a = own} same) here) (inl refl) in (
        a.0,
        among_right (flat_map (raised_of zero) (joined ticks)) _ (a.0, Up up)
            (among_flat (λ (a : Id × Arrival). flat_map (raised_of a.0)
            (outs_of (said_at told) a.0 a.1) ++ user_items a.0 a.1) arrivals a (a.0, Up up) came.1
            (among_left (flat_map (raised_of a.0) (outs_of (said_at told) a.0 a.1))
            (user_items a.0 a.1) (a.0, Up up) raised)),
      )

  -- ---- the items of the second phase

  pub item_given : (at : ℕ) (items : List (Id × Item)) (item : Id × Item) → Among items item
      → (given : model.Item (List ℕ) (Timed CallItem))
      × Among (timed_items now (call_items at items)) given
      × (given.key ≡ call_of_item item.1) × (given.input.input ≡ Some item)
  item_given at [] item among = absurd among
  item_given at (i ∷ items) item (inl same) =
      (_, inl refl, ap (λ (x : Id × Item). call_of_item x.1) same, ap (λ x. Some x) same)
  item_given at (i ∷ items) item (inr later) =
      let rest = item_given (suc at) items item later in (rest.0, inr rest.1, rest.2, rest.3)

  pub all_given : (P : Option CallItem → Type 0) (at : ℕ) (items : List (Id × Item))
      → AllByRecursion (λ item. P (Some item)) items
      → AllByRecursion (λ (item : model.Item (List ℕ) (Timed CallItem)). P item.input.input)
      (timed_items now (call_items at items))
  all_given P at [] all = tt
  all_given P at (i ∷ items) all = (all.0, all_given P (suc at) items all.1)

-- ---- requests

-- the requests that come up
abbrev pub requests_among : List (Id × Item) → List Id
requests_among items = filter_map (λ item. request_brought (Some item)) items

kept_request : (o : Option Id) (rest : List Id) (x : Id) → Among rest x
    → Among (cons_option o rest) x
kept_request None rest x among = among
kept_request (Some y) rest x among = inr among

pub request_among : (items : List (Id × Item)) (id : Id) (up : AnUp) (message : Message)
    (reply_to : Addr) → up.kind ≡ kind.Request message reply_to → Among items (id, Up up)
    → Among (requests_among items) up.id
request_among [] id up message reply_to is among = absurd among
request_among (item ∷ items) id up message reply_to is (inl same) =
    subst (λ o. Among (cons_option o (requests_among items)) up.id)
    (sym (ap (λ (i : Id × Item). request_brought (Some i)) same ∙ ap (id_of_kind up.id) is))
    (inl refl)
request_among (item ∷ items) id up message reply_to is (inr later) =
    kept_request (request_brought (Some item)) (requests_among items) up.id
    (request_among items id up message reply_to is later)
