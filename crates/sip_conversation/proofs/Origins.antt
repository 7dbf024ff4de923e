-- What a call is given comes of events of its own, none of which another call is given too.
use Rattle.std.proofs.Common.{◌≡◌, ℕ, suc, ◌+◌, ◌<◌, ◌≤◌, ◌^◌, Bool, true, false, cond, List, [], ◌∷◌, ◌++◌, map, length, refl, sym, ap, ◌∙◌, subst, arith}
use Rattle.std.specs.Prelude.{Contains, IfSome, Option, None, Some, filter, filter_map}
use Rattle.std.specs.BTreeMap.{is_at}
use Rattle.std.specs.List.{AllByRecursion, IsDistinct, flat_map}
use Rattle.std.proofs.lemmas.Cmp.{nat_list_cmp_total}
use Rattle.std.proofs.lemmas.List.Elements.{filter_map-append}
use Rattle.std.proofs.lemmas.Map.Lookups.{exact_bytes}
use Rattle.sip_message.specs.declared.addr.Addr.{Addr}
use Rattle.sip_message.specs.declared.id.Id.{Id}
use Rattle.keyed_machine.specs.declared.item.Item as model
use Rattle.keyed_machine.specs.Machine.{Timed, tick_at}
use Rattle.keyed_machine.specs.Phase.{history, inputs_of, own_inputs, timed_item, timed_items}
use Rattle.keyed_machine.proofs.Ordered.{exact_at}
use Rattle.sip_transactions.specs.declared.output.UpKind.{UpKind}
use Rattle.sip_transactions.specs.declared.output.UpKind.TheVariants as kind
use Rattle.sip_transactions.specs.declared.output.Out.{Out}
use Rattle.sip_transactions.specs.declared.output.Out.TheVariants as out
use Rattle.sip_user.specs.Command.{call_of_item}
use Rattle.sip_held_dialogs.specs.Ids.{is_id}
use Rattle.sip_user.specs.OwnCall.{IsItemOf}
use Rattle.sip_user.specs.declared.item.Item.{Item}
use Rattle.sip_user.specs.declared.item.Item.TheVariants.{Up, User}
use Rattle.sip_held_dialogs.proofs.Each.{both}
use Rattle.sip_calls.specs.Call.{CallItem}
use Rattle.sip_calls.specs.CallShard.{call_cmp}
use Rattle.sip_calls.specs.OwnCall.{IsInputOf}
use Rattle.sip_calls.specs.Provisionals.{event_in, event_of_kind}
use Rattle.sip_round.specs.Arrivals as arrival
use Rattle.sip_round.specs.declared.config.Config.{Config}
use Rattle.sip_round.specs.declared.round.Event.{Event}
use Rattle.sip_round.specs.declared.round.Round.{Round}
use Rattle.sip_round.specs.Answers.{Past, arrivals, first, items_of_round, no_past, past_after, past_of, said_by_transactions, second}
use Rattle.sip_round.specs.Arrivals.{Arrival, arrival_of, arrivals_from}
use Rattle.sip_round.specs.Laws.{call_inputs_of}
use Rattle.sip_round.specs.Outputs.{joined, outs_of, raised_of, said_at, user_items}
use Rattle.sip_round.specs.Phases.{call_items}
use Rattle.sip_round.proofs.CallEvents.{item_event}
use Rattle.sip_round.proofs.EventsRise.{rise_apart}
use Rattle.sip_round.proofs.GivenNotices.{calls_are, calls_from}
use Rattle.sip_round.proofs.OwnItems.{IsOwnItem, items_own}
use Rattle.sip_round.proofs.StartedOnce.{events_from, events_rise}
use Rattle.sip_conversation.specs.Replies.{AreCounted}
use Rattle.sip_conversation.proofs.Among.{all_both, all_of, each_of}
use Rattle.sip_conversation.proofs.OnceOnly.{once_only}
use Rattle.sip_conversation.proofs.Rounds.{all_of_parts}

-- ---- the ids of a round's items

module _ (P : Id → Type 0) where
  abbrev IsBy : Id × Item → Type 0
  IsBy item = P item.0

  raised_by : (id : Id) → P id → (outs : List Out)
      → AllByRecursion IsBy (flat_map (raised_of id) outs)
  raised_by id is [] = tt
  raised_by id is (out.Up up ∷ outs) = (is, raised_by id is outs)
  raised_by id is (out.Send key to bytes ∷ outs) = raised_by id is outs
  raised_by id is (out.Dropped place why ∷ outs) = raised_by id is outs

  user_by : (id : Id) → P id → (a : Arrival) → AllByRecursion IsBy (user_items id a)
  user_by id is (arrival.Transaction key input) = tt
  user_by id is (arrival.Dropped why) = tt
  user_by id is (arrival.User command) = (is, tt)

  abbrev items_at : (ℕ → List Out) → Id × Arrival → List (Id × Item)
  items_at said a = flat_map (raised_of a.0) (outs_of said a.0 a.1) ++ user_items a.0 a.1

  arrivals_by : (said : ℕ → List Out) (local : Addr) (round place : ℕ) (events : List Event)
      → ((p : ℕ) → p < place + length events → P (record { round = round; place = p }))
      → AllByRecursion IsBy (flat_map (items_at said) (arrivals_from local round place events))
  arrivals_by said local round place [] each = tt
  arrivals_by said local round place (e ∷ events) each =
      let id : Id = record { round = round; place = place } in
      let a = arrival_of local id e in
      let is = each place (omega arith) in
      both IsBy (items_at said (id, a))
      (flat_map (items_at said) (arrivals_from local round (suc place) events))
      (both IsBy (flat_map (raised_of id) (outs_of said id a)) (user_items id a)
      (raised_by id is (outs_of said id a)) (user_by id is a))
      (arrivals_by said local round (suc place) events
      (λ p below. each p (omega (arith, below))))

pub record IsCounted (id : Id) : Type 0 where
  pub round : id.round < 2 ^ 64
  pub place : id.place < 2 ^ 64

round_counted : (config : Config) (number : ℕ) (past : Past) (round : Round) → number < 2 ^ 64
    → length round.events < 2 ^ 64
    → AllByRecursion (IsBy IsCounted) (items_of_round config number past round)
unfolding items_of_round
round_counted config number past round low few =
    let told = said_by_transactions past.transactions (first config number past round) in
    let zero : Id = record { round = number; place = 0 } in
    both (IsBy IsCounted) (flat_map (raised_of zero) (joined told.ticks))
    (flat_map (items_at IsCounted (said_at told)) (arrivals config number past round))
    (raised_by IsCounted zero (record { round = low; place = omega arith }) (joined told.ticks))
    (arrivals_by IsCounted (said_at told) config.local number 1 round.events
    (λ p below. record { round = low; place = omega (arith, below, few) }))

-- ---- the items of all rounds

module _ (config : Config) where
  abbrev pub items_from : ℕ → Past → List Round → List (Id × Item)
  items_from number past [] = []
  items_from number past (round ∷ rounds) = items_of_round config number past round
      ++ items_from (suc number) (past_after config number past round) rounds

  same_events : (number : ℕ) (past : Past) (rounds : List Round)
      → filter_map item_event (items_from number past rounds)
      ≡ events_from config number past rounds
  same_events number past [] = refl
  same_events number past (round ∷ rounds) =
      let items = items_of_round config number past round in
      let next = past_after config number past round in
      filter_map-append item_event items (items_from (suc number) next rounds)
      ∙ ap (λ events. filter_map item_event items ++ events)
      (same_events (suc number) next rounds)

  all_counted : (number : ℕ) (past : Past) (rounds : List Round)
      → number + length rounds ≤ 2 ^ 64
      → AllByRecursion (λ (round : Round). length round.events < 2 ^ 64) rounds
      → AllByRecursion (IsBy IsCounted) (items_from number past rounds)
  all_counted number past [] low few = tt
  all_counted number past (round ∷ rounds) low few =
      let next = past_after config number past round in
      both (IsBy IsCounted) (items_of_round config number past round)
      (items_from (suc number) next rounds)
      (round_counted config number past round (omega (arith, low)) few.0)
      (all_counted (suc number) next rounds (omega (arith, low)) few.1)

  all_own : (number : ℕ) (past : Past) (rounds : List Round)
      → AllByRecursion IsOwnItem (items_from number past rounds)
  all_own number past [] = tt
  all_own number past (round ∷ rounds) =
      both IsOwnItem (items_of_round config number past round)
      (items_from (suc number) (past_after config number past round) rounds)
      (items_own config number past round)
      (all_own (suc number) (past_after config number past round) rounds)

-- ---- the event of an item is its id

kind_event : (id : Id) (k : UpKind) (event : Id) → event_of_kind id k ≡ Some event → event ≡ id
kind_event id (kind.Request request reply_to) event is = cc
kind_event id (kind.Ack ack) event is = cc
kind_event id (kind.Response response) event is = cc
kind_event id kind.Timeout event is = absurd cc
kind_event id kind.Failed event is = absurd cc

own_event : (item : Id × Item) (event : Id) → item_event item ≡ Some event → event ≡ item.0
own_event (id, Up up) event is = kind_event id up.kind event is
own_event (id, User command) event is = cc

module _ (config : Config) (rounds : List Round) where
  abbrev items : List (Id × Item)
  items = items_from config config.first no_past rounds

  -- by an item of this event the call is given something
  pub record IsOrigin (call_id : List ℕ) (event : Id) : Type 0 where
    pub item : Id × Item
    pub among : Contains items item
    pub event_is : item_event item ≡ Some event
    pub call_is : call_of_item item.1 ≡ call_id

  distinct : IsDistinct is_id (filter_map item_event items)
  distinct =
      subst (IsDistinct is_id) (sym (same_events config config.first no_past rounds))
      (rise_apart config.first 0 (events_from config config.first no_past rounds)
      (events_rise config config.first no_past rounds))

  -- an event is of one call
  pub one_call : (call_id other : List ℕ) (event : Id) → IsOrigin call_id event
      → IsOrigin other event → call_id ≡ other
  one_call call_id other event one two =
      let same : one.item ≡ two.item =
      once_only item_event items distinct one.item two.item one.among two.among event one.event_is
      two.event_is in
      sym one.call_is ∙ (ap (λ (item : Id × Item). call_of_item item.1) same ∙ two.call_is)

  pub counted : AreCounted config rounds → (call_id : List ℕ) (event : Id)
      → IsOrigin call_id event → IsCounted event
  counted few call_id event origin =
      subst IsCounted (sym (own_event origin.item event origin.event_is))
      (each_of (IsBy IsCounted) items origin.item
      (all_counted config config.first no_past rounds few.numbers few.events) origin.among)

  -- ---- what a call is given

  abbrev ItemComes : Id × Item → Type 0
  ItemComes item = IsOwnItem item × Contains items item

  abbrev pub TimedComes : List ℕ → Timed CallItem → Type 0
  TimedComes call_id timed =
      IsInputOf call_id timed.input × IfSome (event_in timed.input) (IsOrigin call_id)

  origin_so : (call_id : List ℕ) (item : Id × Item) → Contains items item
      → call_of_item item.1 ≡ call_id → (event : Option Id) → item_event item ≡ event
      → IfSome event (IsOrigin call_id)
  origin_so call_id item among is None none = tt
  origin_so call_id item among is (Some event) some =
      record { item = item; among = among; event_is = some; call_is = is }

  item_comes : (call_id : List ℕ) (item : Id × Item) → ItemComes item
      → call_of_item item.1 ≡ call_id
      → IsItemOf call_id item.1 × IfSome (item_event item) (IsOrigin call_id)
  item_comes call_id item comes is = (
    subst (λ c. IsItemOf c item.1) is (comes.0).0,
    origin_so call_id item comes.1 is (item_event item) refl,
  )

  own_step : (call_id : List ℕ) (now place : ℕ) (item : Id × Item) (own : Bool)
      → is_at (call_cmp (call_of_item item.1)) call_id ≡ own
      → (kept : List (model.Item (List ℕ) (Timed CallItem))) → ItemComes item
      → AllByRecursion (TimedComes call_id) (map (λ i. i.input) kept)
      → AllByRecursion (TimedComes call_id) (map (λ i. i.input) (cond own
      (timed_item now (record { place = place; key = call_of_item item.1; input = item }) ∷ kept)
      kept))
  own_step call_id now place item true is kept comes later = (
    item_comes call_id item comes
        (exact_at nat_list_cmp_total exact_bytes (call_of_item item.1) call_id is),
    later,
  )
  own_step call_id now place item false is kept comes later = later

  own_come : (call_id : List ℕ) (now place : ℕ) (own : List (Id × Item))
      → AllByRecursion ItemComes own
      → AllByRecursion (TimedComes call_id)
      (inputs_of call_cmp (timed_items now (call_items place own)) call_id)
  own_come call_id now place [] all = tt
  own_come call_id now place (item ∷ own) all =
      own_step call_id now place item (is_at (call_cmp (call_of_item item.1)) call_id) refl
      (filter (λ i. is_at (call_cmp i.key) call_id)
      (timed_items now (call_items (suc place) own))) all.0
      (own_come call_id now (suc place) own all.1)

  second_come : (call_id : List ℕ) (number : ℕ) (past : Past) (round : Round)
      → AllByRecursion ItemComes (items_of_round config number past round)
      → AllByRecursion (TimedComes call_id)
      (own_inputs call_cmp tick_at (second config number past round) call_id)
  unfolding second
  second_come call_id number past round all =
      ((tt, tt), own_come call_id round.moment 0 (items_of_round config number past round) all)

  from_come : (call_id : List ℕ) (number : ℕ) (past : Past) (more : List Round)
      → AllByRecursion ItemComes (items_from config number past more)
      → AllByRecursion (TimedComes call_id)
      (history call_cmp tick_at (calls_from config number past more) call_id)
  from_come call_id number past [] all = tt
  from_come call_id number past (round ∷ more) all =
      let next = past_after config number past round in
      let parts = all_of_parts ItemComes (items_of_round config number past round)
      (items_from config (suc number) next more) all in
      both (TimedComes call_id)
      (own_inputs call_cmp tick_at (second config number past round) call_id)
      (history call_cmp tick_at (calls_from config (suc number) next more) call_id)
      (second_come call_id number past round parts.0)
      (from_come call_id (suc number) next more parts.1)

  -- each input of a call is of it, and of an event of its own
  pub inputs_come : (call_id : List ℕ)
      → AllByRecursion (TimedComes call_id) (call_inputs_of config rounds call_id)
  unfolding past_of
  inputs_come call_id =
      subst (λ phases. AllByRecursion (TimedComes call_id)
      (history call_cmp tick_at phases call_id))
      (sym (calls_are config config.first no_past rounds))
      (from_come call_id config.first no_past rounds
      (all_both {P = IsOwnItem} {Q = Contains items} {R = ItemComes}
      (λ item own among. (own, among)) items (all_own config config.first no_past rounds)
      (all_of (Contains items) items (λ item among. among))))
