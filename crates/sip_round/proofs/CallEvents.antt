-- In any rounds, the messages and commands that a call is given belong to different events.
use Rattle.std.proofs.Common.{◌≡◌, inl, inr, ℕ, suc, ◌≤◌, Bool, true, false, cond, List, [], ◌∷◌, ◌++◌, map, nat_eq, refl, sym, ap, subst, ◌∙◌, append_assoc, append-nil, arith}
use Rattle.std.specs.Prelude.{Option, None, Some, filter, filter_map}
use Rattle.std.specs.BTreeMap.{is_at}
use Rattle.std.specs.List.{cons_option, flat_map}
use Rattle.std.proofs.lemmas.Grind.{common_steps, flat_map-append}
use Rattle.std.proofs.lemmas.List.Elements.{filter_map-append}
use Rattle.sip_message.specs.declared.addr.Addr.{Addr}
use Rattle.sip_message.specs.declared.id.Id.{Id}
use Rattle.sip_message.specs.declared.key.Key.{Key}
use Rattle.sip_message.specs.Key.{key_cmp}
use Rattle.keyed_machine.specs.declared.item.Item as model
use Rattle.keyed_machine.specs.Machine.{adds, next, Timed, tick_at}
use Rattle.keyed_machine.specs.Phase.{Phase, history, inputs_of, keys_of_phases, own_inputs, states_after, stepped, told_items, timed_items}
use Rattle.keyed_machine.specs.Groups.{speaks}
use Rattle.keyed_machine.proofs.Ordered.{by_bool}
use Rattle.sip_transactions.specs.declared.input.Input.{Input}
use Rattle.sip_transactions.specs.declared.life.Life.{Life}
use Rattle.sip_transactions.specs.declared.output.Out.{Out}
use Rattle.sip_transactions.specs.Machine.{transaction_machine}
use Rattle.sip_user.specs.Command.{call_of_item}
use Rattle.sip_user.specs.declared.item.Item.{Item}
use Rattle.sip_calls.specs.Call.{CallItem}
use Rattle.sip_calls.specs.CallShard.{call_cmp, item_input}
use Rattle.sip_calls.specs.Provisionals.{EventsDiffer, event_in}
use Rattle.sip_round.specs.Arrivals as arrival
use Rattle.sip_round.specs.declared.config.Config.{Config}
use Rattle.sip_round.specs.declared.round.Event.{Event}
use Rattle.sip_round.specs.declared.round.Round.{Round}
use Rattle.sip_round.specs.Answers.{Past, arrivals, first, items_first, items_of_round, no_past, past_after, past_from, past_of, second}
use Rattle.sip_round.specs.Arrivals.{Arrival, arrival_of, arrivals_from}
use Rattle.sip_round.specs.Outputs.{joined, outs_of, raised_of, said_at, user_items}
use Rattle.sip_round.specs.Phases.{call_items, transaction_item, transaction_items}
use Rattle.sip_shards.proofs.Climbing.{Climbs, climbs_from_less}
use Rattle.sip_round.proofs.EventsRise.{Places, Rise, places_from, rise_after, rise_apart}
use Rattle.sip_round.proofs.FewUps.{Few, events_of, few_ups, no_ups, raised}
use Rattle.sip_round.proofs.Said.{told_by_transactions, transactions_say}

-- ---- lists

abbrev pub item_event : Id × Item → Option Id
item_event item = event_in (Some item)

abbrev pub input_event : Timed CallItem → Option Id
input_event timed = event_in timed.input

raised_append : (id : Id) (xs ys : List Out) → raised id (xs ++ ys) ≡ raised id xs ++ raised id ys
raised_append id xs ys =
    ap events_of (flat_map-append (raised_of id) xs ys)
    ∙ filter_map-append item_event (flat_map (raised_of id) xs) (flat_map (raised_of id) ys)

-- ---- the ticks hand up no message

ticks_raise : (id : Id) (now : ℕ) (states : Key → Option Life) (keys : List Key)
    → raised id (joined (map (λ key. (key, adds transaction_machine key (states key) (tick_at now)))
    keys)) ≡ []
ticks_raise id now states [] = refl
ticks_raise id now states (key ∷ keys) =
    raised_append id (adds transaction_machine key (states key) (tick_at now))
    (joined (map (λ key. (key, adds transaction_machine key (states key) (tick_at now))) keys))
    ∙ (λ i. no_ups id key (states key) now i ++ ticks_raise id now states keys i)

-- ---- each arrival hands up at most one thing

abbrev pub TellsAt : ℕ → List ((ℕ × Key) × List Out) → List Out
TellsAt place told = joined (filter (λ said. nat_eq (said.0).0 place) told)

pub none_later : (place from : ℕ) (states : Key → Option Life)
    (items : List (model.Item Key (Timed Input)))
    → suc place ≤ from → Climbs from (map (λ item. item.place) items)
    → TellsAt place (told_items key_cmp transaction_machine states items) ≡ []
none_later place from states [] less climbs = refl
none_later place from states (item ∷ items) less climbs =
    let other : nat_eq item.place place ≡ false =
    apart item.place place (omega (arith, less, climbs.0)) in
    let rest = told_items key_cmp transaction_machine
    (stepped key_cmp transaction_machine states item) items in
    ap (λ b. joined (cond b ((
      (item.place, item.key),
      adds transaction_machine item.key (states item.key) item.input,
    )
    ∷ filter (λ said. nat_eq (said.0).0 place) rest)
    (filter (λ said. nat_eq (said.0).0 place) rest))) other
    ∙ none_later place (suc item.place) (stepped key_cmp transaction_machine states item) items
    (omega (arith, less, climbs.0)) climbs.1
  where
    apart : (x y : ℕ) → suc y ≤ x → nat_eq x y ≡ false
    apart x y above = grind (arith, common_steps, above)

few_at : (id : Id) (place from : ℕ) (states : Key → Option Life)
    (items : List (model.Item Key (Timed Input))) → Climbs from (map (λ item. item.place) items)
    → Few id (raised id (TellsAt place (told_items key_cmp transaction_machine states items)))
few_at id place from states [] climbs = inl refl
few_at id place from states (item ∷ items) climbs =
    let later = stepped key_cmp transaction_machine states item in
    let rest = told_items key_cmp transaction_machine later items in
    let here = adds transaction_machine item.key (states item.key) item.input in
    let told : Bool → List Out = λ b.
    joined (cond b (((item.place, item.key), here)
    ∷ filter (λ said. nat_eq (said.0).0 place) rest)
    (filter (λ said. nat_eq (said.0).0 place) rest)) in
    by_bool (nat_eq item.place place)
    (λ is. subst (λ outs. Few id (raised id outs))
    (sym (ap told is ∙ ap (λ outs. here ++ outs)
    (none_later place (suc item.place) later items (at_most item.place place is) climbs.1)
    ∙ append-nil here))
    (few_ups id item.key (states item.key) item.input))
    (λ other. subst (λ outs. Few id (raised id outs)) (sym (ap told other))
    (few_at id place (suc item.place) later items climbs.1))
  where
    at_most : (x y : ℕ) → nat_eq x y ≡ true → suc y ≤ suc x
    at_most x y same = grind (arith, common_steps, same)

-- ---- the events of a round

abbrev items_at : (ℕ → List Out) → Id → Arrival → List (Id × Item)
items_at said id a = flat_map (raised_of id) (outs_of said id a) ++ user_items id a

few_items : (said : ℕ → List Out) → ((id : Id) (place : ℕ) → Few id (raised id (said place)))
    → (id : Id) (a : Arrival) → Few id (events_of (items_at said id a))
few_items said few id (arrival.Transaction key input) =
    subst (λ items. Few id (events_of items))
    (sym (append-nil (flat_map (raised_of id) (said id.place)))) (few id id.place)
few_items said few id (arrival.Dropped why) = inl refl
few_items said few id (arrival.User command) = inr refl

placed : (round place : ℕ) (here later : List Id)
    → Few (record { round = round; place = place }) here → Places round (suc place) later
    → Places round place (here ++ later)
placed round place here later (inl none) places =
    subst (λ ids. Places round place (ids ++ later)) (sym none)
    (places_from round place (suc place) later (omega arith) places)
placed round place here later (inr one) places =
    subst (λ ids. Places round place (ids ++ later)) (sym one) (refl, omega arith, places)

arrivals_placed : (said : ℕ → List Out) → ((id : Id) (place : ℕ) → Few id (raised id (said place)))
    → (local : Addr) (round place : ℕ) (events : List Event)
    → Places round place (events_of
    (flat_map (λ a. items_at said a.0 a.1) (arrivals_from local round place events)))
arrivals_placed said few local round place [] = tt
arrivals_placed said few local round place (event ∷ events) =
    let id : Id = record { round = round; place = place } in
    let rest = arrivals_from local round (suc place) events in
    let a = arrival_of local id event in
    subst (Places round place) (sym
    (filter_map-append item_event (items_at said id a)
    (flat_map (λ a. items_at said a.0 a.1) rest)))
    (placed round place (events_of (items_at said id a))
    (events_of (flat_map (λ a. items_at said a.0 a.1) rest)) (few_items said few id a)
    (arrivals_placed said few local round (suc place) events))

-- the places of the transactions' inputs climb
one_climbs : (now round place : ℕ) (a : Arrival) (rest : List (model.Item Key Input))
    → Climbs (suc place) (map (λ item. item.place) (timed_items now rest))
    → Climbs place (map (λ item. item.place) (timed_items now
    (transaction_item (record { round = round; place = place }) a ++ rest)))
one_climbs now round place (arrival.Transaction key input) rest climbs = (omega arith, climbs)
one_climbs now round place (arrival.Dropped why) rest climbs =
    climbs_from_less place (suc place) (map (λ item. item.place) (timed_items now rest))
    (omega arith) climbs
one_climbs now round place (arrival.User command) rest climbs =
    climbs_from_less place (suc place) (map (λ item. item.place) (timed_items now rest))
    (omega arith) climbs

pub arrivals_climb : (now : ℕ) (local : Addr) (round place : ℕ) (events : List Event)
    → Climbs place (map (λ item. item.place)
    (timed_items now (transaction_items (arrivals_from local round place events))))
arrivals_climb now local round place [] = tt
arrivals_climb now local round place (event ∷ events) =
    one_climbs now round place (arrival_of local (record { round = round; place = place }) event)
    (transaction_items (arrivals_from local round (suc place) events))
    (arrivals_climb now local round (suc place) events)

pub round_placed : (config : Config) (number : ℕ) (past : Past) (round : Round)
    → Places number 1 (events_of (items_of_round config number past round))
unfolding items_of_round first
round_placed config number past round =
    let phase = first config number past round in
    let came = arrivals config number past round in
    let told = told_by_transactions past.transactions phase in
    let before = states_after key_cmp transaction_machine tick_at past.transactions in
    let ticks = flat_map (raised_of (record { round = number; place = 0 })) (joined told.ticks) in
    let rest = flat_map (λ a. items_at (said_at told) a.0 a.1) came in
    let keys = filter (λ key. speaks
    (adds transaction_machine key (before key) (tick_at round.moment)))
    (keys_of_phases key_cmp past.transactions) in
    let few : (id : Id) (place : ℕ) → Few id (raised id (said_at told place)) =
    λ id place. few_at id place 1 (λ key.
    next transaction_machine key (before key) (tick_at round.moment))
    phase.items (arrivals_climb round.moment config.local number 1 round.events) in
    subst (λ said. Places number 1 (events_of (items_first number said came)))
    (transactions_say past.transactions phase)
    (subst (Places number 1) (sym (filter_map-append item_event ticks rest
    ∙ ap (λ ids. ids ++ events_of rest)
    (ticks_raise (record { round = number; place = 0 }) round.moment before keys)))
    (arrivals_placed (said_at told) few config.local number 1 round.events))

-- ---- the events of one call

pub one_left : (round place : ℕ) (o : Option Id) (whole : List Id)
    → Places round place (cons_option o whole) → Places round place whole
one_left round place None whole places = places
one_left round place (Some id) whole places =
    places_from round place (suc id.place) whole (omega (arith, places.1)) places.2

one_stays : (round place : ℕ) (o : Option Id) (whole part : List Id)
    → ((low : ℕ) → Places round low whole → Places round low part)
    → Places round place (cons_option o whole) → Places round place (cons_option o part)
one_stays round place None whole part keeps places = keeps place places
one_stays round place (Some id) whole part keeps places =
    (places.0, places.1, keeps (suc id.place) places.2)

own_placed : (key : List ℕ) (now at round place : ℕ) (items : List (Id × Item))
    → Places round place (events_of items)
    → Places round place (filter_map input_event (inputs_of call_cmp
    (timed_items now (call_items at items)) key))
own_placed key now at round place [] places = tt
own_placed key now at round place (item ∷ items) places =
    let rest = timed_items now (call_items (suc at) items) in
    let own : Bool → List Id = λ b.
    filter_map input_event (map (λ i. i.input)
    (cond b ((record {
      place = at;
      key = call_of_item item.1;
      input = item_input item.0 item.1 now;
    }) ∷ filter (λ i. is_at (call_cmp i.key) key) rest)
    (filter (λ i. is_at (call_cmp i.key) key) rest))) in
    by_bool (is_at (call_cmp (call_of_item item.1)) key)
    (λ is. subst (Places round place) (sym (ap own is))
    (one_stays round place (item_event item) (events_of items)
    (filter_map input_event (inputs_of call_cmp rest key))
    (λ low. own_placed key now (suc at) round low items) places))
    (λ other. subst (Places round place) (sym (ap own other))
    (own_placed key now (suc at) round place items
    (one_left round place (item_event item) (events_of items) places)))

-- ---- over rounds

module _ (config : Config) (key : List ℕ) where
  abbrev pub events_in : List (Phase (List ℕ) (Timed CallItem)) → List Id
  events_in phases = filter_map input_event (history call_cmp tick_at phases key)

  -- the phases of later rounds, whose events rise
  record Later (number : ℕ) (past : Past) (rounds : List Round) : Type 0 where
    phases : List (Phase (List ℕ) (Timed CallItem))
    calls : (past_from config number past rounds).calls ≡ past.calls ++ phases
    rise : Rise number 0 (events_in phases)

  later : (rounds : List Round) (number : ℕ) (past : Past) → Later number past rounds
  unfolding past_after second
  later [] number past = record { phases = []; calls = sym (append-nil past.calls); rise = tt }
  later (round ∷ rounds) number past =
      let next = past_after config number past round in
      let phase = second config number past round in
      let more = later rounds (suc number) next in
      record {
        phases = phase ∷ more.phases;
        calls = more.calls ∙ append_assoc past.calls (phase ∷ []) more.phases;
        rise = subst (Rise number 0) (sym
            (filter_map-append input_event (own_inputs call_cmp tick_at phase key)
            (history call_cmp tick_at more.phases key)))
            (rise_after number 0 (filter_map input_event (own_inputs call_cmp tick_at phase key))
            (events_in more.phases)
            (own_placed key round.moment 0 number 0 (items_of_round config number past round)
            (places_from number 0 1 (events_of (items_of_round config number past round))
            (omega arith) (round_placed config number past round)))
            more.rise);
      }

  pub events_rise : (rounds : List Round)
      → Rise config.first 0 (events_in (past_of config rounds).calls)
  unfolding past_of
  events_rise rounds =
      let all = later rounds config.first no_past in
      subst (λ phases. Rise config.first 0 (events_in phases)) (sym all.calls) all.rise

  pub events_differ : (rounds : List Round)
      → EventsDiffer (history call_cmp tick_at (past_of config rounds).calls key)
  events_differ rounds =
      rise_apart config.first 0 (events_in (past_of config rounds).calls) (events_rise rounds)
