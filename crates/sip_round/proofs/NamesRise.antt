-- In any rounds, the requests that come to a server transaction have rising ids, and no client
-- transaction is started twice under the same id.
use Rattle.std.proofs.Common.{◌≡◌, ◌⊎◌, inl, inr, ℕ, suc, ◌≤◌, Bool, true, false, cond, List, [], ◌∷◌, ◌++◌, map, refl, sym, ap, subst, ◌∙◌, append_assoc, append-nil, arith}
use Rattle.std.specs.Prelude.{Option, None, Some, Result, Ok, Err, filter, filter_map, if◌then◌else◌}
use Rattle.std.specs.BTreeMap.{is_at}
use Rattle.std.specs.List.{IsDistinct, cons_option, flat_map}
use Rattle.std.proofs.lemmas.Bool.{false≢true}
use Rattle.std.proofs.lemmas.List.Elements.{filter_map-append}
use Rattle.sip_message.specs.declared.addr.Addr.{Addr}
use Rattle.sip_message.specs.declared.fault.ReadFault.{ReadFault}
use Rattle.sip_message.specs.declared.id.Id.{Id}
use Rattle.sip_message.specs.declared.key.Key.{Key}
use Rattle.sip_message.specs.declared.key.Key.TheVariants as key
use Rattle.sip_message.specs.declared.message.Message.{Message}
use Rattle.sip_message.specs.declared.start_line.StartLine.{StartLine}
use Rattle.sip_message.specs.declared.start_line.StartLine.TheVariants as start
use Rattle.sip_message.specs.declared.sent_by.SentBy.{SentBy}
use Rattle.sip_message.specs.Key.{key_cmp}
use Rattle.sip_message.specs.Message.{is_request_message}
use Rattle.sip_message.specs.MessageKey.{key_at, key_of_message}
use Rattle.sip_message.specs.Source.{answer_address, stamped}
use Rattle.keyed_machine.specs.declared.item.Item as model
use Rattle.keyed_machine.specs.Machine.{adds, next, Timed, tick_at}
use Rattle.keyed_machine.specs.Phase.{Phase, history, inputs_of, keys_of_phases, own_inputs, states_after, timed_items, told_items}
use Rattle.keyed_machine.specs.Phase as phases
use Rattle.keyed_machine.specs.Groups.{speaks}
use Rattle.keyed_machine.proofs.Ordered.{by_bool}
use Rattle.sip_reader.specs.ReadMessage.{message_at}
use Rattle.sip_transactions.specs.declared.input.Command.{Command}
use Rattle.sip_transactions.specs.declared.input.Command.TheVariants as command
use Rattle.sip_transactions.specs.declared.input.Input.{Input}
use Rattle.sip_transactions.specs.declared.input.Input.TheVariants.{Receive}
use Rattle.sip_transactions.specs.Ids.{is_id}
use Rattle.sip_transactions.specs.Laws.{IsServer, arrival_id, naming_id}
use Rattle.sip_transactions.specs.Shard.{is_stray, order, keyed_input}
use Rattle.sip_user.specs.Command.{call_of_item}
use Rattle.sip_user.specs.declared.item.CallOut.{CallOut}
use Rattle.sip_user.specs.declared.item.CallOut.TheVariants as call_out
use Rattle.sip_user.specs.declared.item.Item.{Item}
use Rattle.sip_held_dialogs.proofs.Starts.{start_in, start_of, starts}
use Rattle.sip_calls.specs.declared.call.Call.{Call}
use Rattle.sip_calls.specs.declared.calls.Calls.{Calls}
use Rattle.sip_calls.specs.Call.{call_machine}
use Rattle.sip_calls.specs.CallShard.{call_cmp, item_input}
use Rattle.sip_calls.proofs.CallStarts.{AllClients, IsClient, call_starts, how_many, ids_of}
use Rattle.sip_round.specs.Arrivals as arrival
use Rattle.sip_round.specs.declared.config.Config.{Config}
use Rattle.sip_round.specs.declared.round.Event.{Event}
use Rattle.sip_round.specs.declared.round.Event.TheVariants as event
use Rattle.sip_round.specs.declared.round.Round.{Round}
use Rattle.sip_round.specs.Answers.{Past, calls_of, first, given_second, items_of_round, no_past, past_after, past_from, past_of, second, third}
use Rattle.sip_round.specs.Arrivals.{Arrival, arrival_for, arrival_of, arrivals_from, datagram_arrival, message_arrival}
use Rattle.sip_round.specs.Outputs.{all_said, command_of, joined}
use Rattle.sip_round.specs.Phases.{call_items, command_items, transaction_item, transaction_items}
use Rattle.sip_round.proofs.EventsRise.{Places, Rise, places_from, rise_after, rise_apart}
use Rattle.sip_round.proofs.Said.{calls_say, told_by_calls}
use Rattle.sip_round.proofs.StartedOnce.{distinct_of_once, one_more_beside, one_more_of_both, started_from, started_once, how_many-append, ticks_start}

abbrev name_of : Timed Input → Option Id
name_of timed = naming_id timed.input

abbrev names : Key → List (model.Item Key (Timed Input)) → List Id
names key items = filter_map name_of (inputs_of key_cmp items key)

-- ---- the first phase

-- an input names nothing, or its own event; if it names one, it is a server's
abbrev pub Named : Id → Key → Option Input → Type 0
Named id k input = (naming_id input ≡ None) ⊎ (IsServer k × (naming_id input ≡ Some id))

abbrev pub ArrivalNamed : Id → Arrival → Type 0
ArrivalNamed id (arrival.Transaction k input) = Named id k (Some input)
ArrivalNamed id (arrival.Dropped why) = Unit {0}
ArrivalNamed id (arrival.User command) = Unit {0}

start_named : (id : Id) (line : StartLine) (branch host : List ℕ) (port : ℕ) (method : List ℕ)
    → (arrival_id line id ≡ None) ⊎ (IsServer (key_at line branch host port method)
    × (arrival_id line id ≡ Some id))
start_named id (start.Request uri) branch host port method = inr (tt, refl)
start_named id (start.Response status reason) branch host port method = inl refl

message_named : (id : Id) (message : Message) (to : Addr)
    → Named id (key_of_message message) (Some (Receive id message to))
unfolding key_of_message
message_named id message to = start_named id message.start _ _ _ _

for_named : (local : Addr) (id : Id) (message : Message) (to : Addr)
    → ArrivalNamed id (arrival_for (keyed_input local id message to))
for_named local id message to =
    elim (is_stray local message) as (λ b. ArrivalNamed id (arrival_for (if b then None
    else Some (key_of_message message, Receive id message to)))) [
      | true ↦ tt
      | false ↦ message_named id message to
    ]

read_named : (local : Addr) (id : Id) (from : Addr) (read : Result Message ReadFault)
    → ArrivalNamed id (datagram_arrival local id from read)
unfolding message_arrival
read_named local id from (Err fault) = tt
read_named local id from (Ok message) =
    elim (is_request_message message) as (λ b. ArrivalNamed id (if b
    then arrival_for (keyed_input local id (stamped message from) (answer_address message from))
    else arrival_for (keyed_input local id message from))) [
      | true ↦ for_named local id (stamped message from) (answer_address message from)
      | false ↦ for_named local id message from
    ]

pub arrival_named : (local : Addr) (id : Id) (e : Event) → ArrivalNamed id (arrival_of local id e)
unfolding arrival_of
arrival_named local id (event.Datagram from bytes) = read_named local id from (message_at bytes)
arrival_named local id (event.Failed k) = inl refl
arrival_named local id (event.Command command) = tt

-- the names with one more item
abbrev with_one : Key → model.Item Key (Timed Input) → List (model.Item Key (Timed Input)) → Bool
    → List Id
with_one k item rest hit = filter_map name_of
    (map (λ i. i.input) (cond hit (item ∷ filter (λ i. is_at (key_cmp i.key) k) rest)
    (filter (λ i. is_at (key_cmp i.key) k) rest)))

placed_more : (round place : ℕ) (k : Key) (item : model.Item Key (Timed Input))
    (rest : List (model.Item Key (Timed Input)))
    → Named (record { round = round; place = place }) item.key (item.input).input
    → Places round (suc place) (names k rest) → Places round place (names k (item ∷ rest))
placed_more round place k item rest named places =
    let later = places_from round place (suc place) (names k rest) (omega arith) places in
    by_bool (is_at (key_cmp item.key) k)
    (λ hit. subst (Places round place) (sym (ap (with_one k item rest) hit))
    (by_name named later places))
    (λ miss. subst (Places round place) (sym (ap (with_one k item rest) miss)) later)
  where
    by_name : Named (record { round = round; place = place }) item.key (item.input).input
        → Places round place (names k rest) → Places round (suc place) (names k rest)
        → Places round place (cons_option (naming_id (item.input).input) (names k rest))
    by_name (inl none) later places =
        subst (λ o. Places round place (cons_option o (names k rest))) (sym none) later
    by_name (inr one) later places =
        subst (λ o. Places round place (cons_option o (names k rest))) (sym one.1)
        (refl, omega arith, places)

other_side : (k : Key) (branch method : List ℕ) → IsServer k
    → is_at (key_cmp k) (key.Client branch method) ≡ true → ⊥
other_side (key.Client branch method) b m server hit = absurd server
other_side (key.Server branch sent_by method) b m server hit = false≢true hit

none_more : (id : Id) (branch method : List ℕ) (item : model.Item Key (Timed Input))
    (rest : List (model.Item Key (Timed Input))) → Named id item.key (item.input).input
    → names (key.Client branch method) rest ≡ []
    → names (key.Client branch method) (item ∷ rest) ≡ []
none_more id branch method item rest named none =
    by_bool (is_at (key_cmp item.key) (key.Client branch method))
    (λ hit. ap (with_one (key.Client branch method) item rest) hit ∙ by_name named hit)
    (λ miss. ap (with_one (key.Client branch method) item rest) miss ∙ none)
  where
    by_name : Named id item.key (item.input).input
        → is_at (key_cmp item.key) (key.Client branch method) ≡ true
        → cons_option (naming_id (item.input).input) (names (key.Client branch method) rest) ≡ []
    by_name (inl is) hit = ap (λ o. cons_option o (names (key.Client branch method) rest)) is ∙ none
    by_name (inr one) hit = absurd (other_side item.key branch method one.0 hit)

module _ (now : ℕ) (local : Addr) (round : ℕ) where
  abbrev items_from : ℕ → List Event → List (model.Item Key Input)
  items_from place events = transaction_items (arrivals_from local round place events)

  first_more : (place : ℕ) (k : Key) (a : Arrival) (rest : List (model.Item Key Input))
      → ArrivalNamed (record { round = round; place = place }) a
      → Places round (suc place) (names k (timed_items now rest))
      → Places round place (names k (timed_items now (transaction_item
      (record { round = round; place = place }) a ++ rest)))
  first_more place k (arrival.Transaction key input) rest named places =
      placed_more round place k _ (timed_items now rest) named places
  first_more place k (arrival.Dropped why) rest named places =
      places_from round place (suc place) (names k (timed_items now rest)) (omega arith) places
  first_more place k (arrival.User command) rest named places =
      places_from round place (suc place) (names k (timed_items now rest)) (omega arith) places

  first_placed : (place : ℕ) (k : Key) (events : List Event)
      → Places round place (names k (timed_items now (items_from place events)))
  first_placed place k [] = tt
  first_placed place k (e ∷ events) =
      first_more place k (arrival_of local (record { round = round; place = place }) e)
      (items_from (suc place) events)
      (arrival_named local (record { round = round; place = place }) e)
      (first_placed (suc place) k events)

  first_none_more : (id : Id) (branch method : List ℕ) (a : Arrival)
      (rest : List (model.Item Key Input)) → ArrivalNamed id a
      → names (key.Client branch method) (timed_items now rest) ≡ []
      → names (key.Client branch method) (timed_items now (transaction_item id a ++ rest)) ≡ []
  first_none_more id branch method (arrival.Transaction key input) rest named none =
      none_more id branch method _ (timed_items now rest) named none
  first_none_more id branch method (arrival.Dropped why) rest named none = none
  first_none_more id branch method (arrival.User command) rest named none = none

  first_none : (place : ℕ) (branch method : List ℕ) (events : List Event)
      → names (key.Client branch method) (timed_items now (items_from place events)) ≡ []
  first_none place branch method [] = refl
  first_none place branch method (e ∷ events) =
      let id : Id = record { round = round; place = place } in
      first_none_more id branch method (arrival_of local id e) (items_from (suc place) events)
      (arrival_named local id e) (first_none (suc place) branch method events)

-- ---- the third phase

abbrev order_starts : List (Id × Command) → List (Id × Key)
order_starts orders = filter_map (λ c. start_of c.0 c.1) orders

starts_ordered : (outs : List CallOut) → order_starts (flat_map command_of outs) ≡ starts outs
starts_ordered [] = refl
starts_ordered (call_out.Notice notice ∷ outs) = starts_ordered outs
starts_ordered (call_out.Command id command ∷ outs) =
    ap (cons_option (start_of id command)) (starts_ordered outs)
starts_ordered (call_out.Direct to bytes ∷ outs) = starts_ordered outs

-- at most as many starts name a client transaction as calls started it under that id
third_few : (x : Id) (k : Key) (now at : ℕ) (orders : List (Id × Command))
    → how_many x (names k (timed_items now (command_items at orders)))
    ≤ how_many x (ids_of (order_starts orders))
third_few x k now at [] = omega arith
third_few x k now at ((id, command.Start key call_id message to) ∷ rest) =
    let items = timed_items now (command_items (suc at) rest) in
    let item : model.Item Key (Timed Input) =
    record {
      place = at;
      key = key;
      input = order id (command.Start key call_id message to) now;
    } in
    let later = third_few x k now (suc at) rest in
    by_bool (is_at (key_cmp key) k)
    (λ hit. subst (λ xs. how_many x xs ≤ how_many x (id ∷ ids_of (order_starts rest)))
    (sym (ap (with_one k item items) hit))
    (one_more_of_both x id (names k items) (ids_of (order_starts rest)) later))
    (λ miss. subst (λ xs. how_many x xs ≤ how_many x (id ∷ ids_of (order_starts rest)))
    (sym (ap (with_one k item items) miss))
    (one_more_beside x id (names k items) (ids_of (order_starts rest)) later))
third_few x k now at ((id, command.Answer key message) ∷ rest) =
    let items = timed_items now (command_items (suc at) rest) in
    let item : model.Item Key (Timed Input) =
    record { place = at; key = key; input = order id (command.Answer key message) now } in
    let later = third_few x k now (suc at) rest in
    by_bool (is_at (key_cmp key) k)
    (λ hit. subst (λ xs. how_many x xs ≤ how_many x (ids_of (order_starts rest)))
    (sym (ap (with_one k item items) hit)) later)
    (λ miss. subst (λ xs. how_many x xs ≤ how_many x (ids_of (order_starts rest)))
    (sym (ap (with_one k item items) miss)) later)
third_few x k now at ((id, command.Abandon key) ∷ rest) =
    let items = timed_items now (command_items (suc at) rest) in
    let item : model.Item Key (Timed Input) =
    record { place = at; key = key; input = order id (command.Abandon key) now } in
    let later = third_few x k now (suc at) rest in
    by_bool (is_at (key_cmp key) k)
    (λ hit. subst (λ xs. how_many x xs ≤ how_many x (ids_of (order_starts rest)))
    (sym (ap (with_one k item items) hit)) later)
    (λ miss. subst (λ xs. how_many x xs ≤ how_many x (ids_of (order_starts rest)))
    (sym (ap (with_one k item items) miss)) later)

client_side : (k : Key) (server : Key) → IsServer server → IsClient k
    → is_at (key_cmp k) server ≡ true → ⊥
client_side (key.Client branch method) (key.Server b s m) is client hit = false≢true hit
client_side (key.Client branch method) (key.Client b m) is client hit = absurd is
client_side (key.Server branch sent_by method) server is client hit = absurd client

third_none_more : (k : Key) → IsServer k
    → (now at : ℕ) (id : Id) (c : Command) (rest : List (Id × Command))
    → AllClients (order_starts ((id, c) ∷ rest))
    → (AllClients (order_starts rest)
    → names k (timed_items now (command_items (suc at) rest)) ≡ [])
    → names k (timed_items now (command_items at ((id, c) ∷ rest))) ≡ []
third_none_more k server now at id (command.Start key call_id message to) rest clients none =
    let items = timed_items now (command_items (suc at) rest) in
    let item : model.Item Key (Timed Input) =
    record {
      place = at;
      key = key;
      input = order id (command.Start key call_id message to) now;
    } in
    by_bool (is_at (key_cmp key) k)
    (λ hit. absurd (client_side key k server clients.0 hit))
    (λ miss. ap (with_one k item items) miss ∙ none clients.1)
third_none_more k server now at id (command.Answer key message) rest clients none =
    let items = timed_items now (command_items (suc at) rest) in
    let item : model.Item Key (Timed Input) =
    record { place = at; key = key; input = order id (command.Answer key message) now } in
    by_bool (is_at (key_cmp key) k)
    (λ hit. ap (with_one k item items) hit ∙ none clients)
    (λ miss. ap (with_one k item items) miss ∙ none clients)
third_none_more k server now at id (command.Abandon key) rest clients none =
    let items = timed_items now (command_items (suc at) rest) in
    let item : model.Item Key (Timed Input) =
    record { place = at; key = key; input = order id (command.Abandon key) now } in
    by_bool (is_at (key_cmp key) k)
    (λ hit. ap (with_one k item items) hit ∙ none clients)
    (λ miss. ap (with_one k item items) miss ∙ none clients)

third_none : (k : Key) → IsServer k → (now at : ℕ) (orders : List (Id × Command))
    → AllClients (order_starts orders) → names k (timed_items now (command_items at orders)) ≡ []
third_none k server now at [] clients = refl
third_none k server now at (c ∷ rest) clients =
    third_none_more k server now at c.0 c.1 rest clients (third_none k server now (suc at) rest)

-- ---- what the calls start in a round

all_both : (xs ys : List (Id × Key)) → AllClients xs → AllClients ys → AllClients (xs ++ ys)
all_both [] ys all more = more
all_both (x ∷ xs) ys all more = (all.0, all_both xs ys all.1 more)

module _ (calls : Calls) where
  items_of_clients : (now at : ℕ) (states : List ℕ → Option Call) (items : List (Id × Item))
      → AllClients (starts (joined
      (told_items call_cmp (call_machine calls) states (timed_items now (call_items at items)))))
  items_of_clients now at states [] = tt
  items_of_clients now at states (i ∷ items) =
      let key = call_of_item i.1 in
      let input = item_input i.0 i.1 now in
      let after = phases.stepped call_cmp
      (call_machine calls) states record { place = at; key = key; input = input } in
      let outs = adds (call_machine calls) key (states key) input in
      let later = joined (told_items call_cmp (call_machine calls) after
      (timed_items now (call_items (suc at) items))) in
      subst AllClients (sym (filter_map-append start_in outs later))
      (all_both (starts outs) (starts later) (call_starts calls (states key) input.input
      now).of_clients
      (items_of_clients now (suc at) after items))

round_of_clients : (config : Config) (number : ℕ) (past : Past) (round : Round)
    → AllClients (starts (given_second config number past round))
unfolding given_second second
round_of_clients config number past round =
    let calls = calls_of config in
    let before = states_after call_cmp (call_machine calls) tick_at past.calls in
    let phase = second config number past round in
    let told = told_by_calls calls past.calls phase in
    let keys = filter (λ key. speaks
    (adds (call_machine calls) key (before key) (tick_at round.moment)))
    (keys_of_phases call_cmp past.calls) in
    subst (λ said. AllClients (starts (all_said said))) (calls_say calls past.calls phase)
    (subst AllClients (sym (filter_map-append start_in (joined told.ticks) (joined told.items)
    ∙ ap (λ s. s ++ starts (joined told.items))
    (ticks_start calls round.moment before keys)))
    (items_of_clients calls round.moment 0
    (λ key. next (call_machine calls) key (before key) (tick_at round.moment))
    (items_of_round config number past round)))

-- ---- over rounds

module _ (config : Config) where
  abbrev names_in : Key → List (Phase Key (Timed Input)) → List Id
  names_in k all = filter_map name_of (history key_cmp tick_at all k)

  names_before : (k : Key) (number : ℕ) (past : Past) (round : Round)
      (more : List (Phase Key (Timed Input)))
      → names_in k (first config number past round ∷ third config number past round ∷ more)
      ≡ (names k (first config number past round).items
      ++ names k (third config number past round).items) ++ names_in k more
  unfolding first third
  names_before k number past round more =
      let one = first config number past round in
      let two = third config number past round in
      let after = history key_cmp tick_at more k in
      filter_map-append name_of (own_inputs key_cmp tick_at one k)
      (own_inputs key_cmp tick_at two k ++ after)
      ∙ ap (λ later. names k one.items ++ later)
      (filter_map-append name_of (own_inputs key_cmp tick_at two k) after)
      ∙ sym (append_assoc (names k one.items) (names k two.items) (names_in k more))

  -- the phases of later rounds
  pub record Later (number : ℕ) (past : Past) (rounds : List Round)
      (Holds : List (Phase Key (Timed Input)) → Type 0) : Type 0 where
    pub more : List (Phase Key (Timed Input))
    pub transactions : (past_from config number past rounds).transactions
        ≡ past.transactions ++ more
    pub holds : Holds more

  pub one_round_more : (number : ℕ) (past : Past) (round : Round) (rounds : List Round)
      (Holds After : List (Phase Key (Timed Input)) → Type 0)
      → ((more : List (Phase Key (Timed Input))) → Holds more
      → After (first config number past round ∷ third config number past round ∷ more))
      → Later (suc number) (past_after config number past round) rounds Holds
      → Later number past (round ∷ rounds) After
  unfolding past_after
  one_round_more number past round rounds Holds After step rest =
      let one = first config number past round in
      let two = third config number past round in
      record {
        more = one ∷ two ∷ rest.more;
        transactions = rest.transactions
            ∙ append_assoc (past.transactions ++ one ∷ []) (two ∷ []) rest.more
            ∙ append_assoc past.transactions (one ∷ []) (two ∷ rest.more);
        holds = step rest.more rest.holds;
      }

  -- ---- a server transaction: its names rise

  module _ (branch : List ℕ) (sent_by : SentBy) (method : List ℕ) where
    abbrev server : Key
    server = key.Server branch sent_by method

    server_placed : (number : ℕ) (past : Past) (round : Round)
        → Places number 0 (names server (first config number past round).items
        ++ names server (third config number past round).items)
    unfolding first third
    server_placed number past round =
        let orders = flat_map command_of (given_second config number past round) in
        let clients = subst AllClients
        (sym (starts_ordered (given_second config number past round)))
        (round_of_clients config number past round) in
        let items = timed_items round.moment
        (items_from round.moment config.local number 1 round.events) in
        subst (λ ys. Places number 0 (names server items ++ ys))
        (sym (third_none server tt round.moment 0 orders clients))
        (subst (Places number 0) (sym (append-nil (names server items)))
        (places_from number 0 1 (names server items) (omega arith)
        (first_placed round.moment config.local number 1 server round.events)))

    abbrev Rising : ℕ → List (Phase Key (Timed Input)) → Type 0
    Rising number more = Rise number 0 (names_in server more)

    rising : (rounds : List Round) (number : ℕ) (past : Past)
        → Later number past rounds (Rising number)
    rising [] number past =
        record { more = []; transactions = sym (append-nil past.transactions); holds = tt }
    rising (round ∷ rounds) number past =
        one_round_more number past round rounds (Rising (suc number)) (Rising number)
        (λ more rise. subst (Rise number 0) (sym (names_before server number past round more))
        (rise_after number 0 (names server (first config number past round).items
        ++ names server (third config number past round).items) (names_in server more)
        (server_placed number past round) rise))
        (rising rounds (suc number) (past_after config number past round))

  -- ---- a client transaction: under no id it is started twice

  module _ (branch method : List ℕ) (x : Id) where
    abbrev client : Key
    client = key.Client branch method

    client_few : (number : ℕ) (past : Past) (round : Round)
        → how_many x (names client (first config number past round).items
        ++ names client (third config number past round).items)
        ≤ how_many x (ids_of (starts (given_second config number past round)))
    unfolding first third
    client_few number past round =
        let outs = given_second config number past round in
        let orders = flat_map command_of outs in
        let last = timed_items round.moment (command_items 0 orders) in
        subst (λ xs. how_many x (xs ++ names client last) ≤ how_many x (ids_of (starts outs)))
        (sym (first_none round.moment config.local number 1 branch method round.events))
        (subst (λ s. how_many x (names client last) ≤ how_many x (ids_of s)) (starts_ordered outs)
        (third_few x client round.moment 0 orders))

    abbrev Few : ℕ → Past → List Round → List (Phase Key (Timed Input)) → Type 0
    Few number past rounds more =
        how_many x (names_in client more) ≤ how_many x (started_from config number past rounds)

    few : (rounds : List Round) (number : ℕ) (past : Past)
        → Later number past rounds (Few number past rounds)
    few [] number past =
        record { more = []; transactions = sym (append-nil past.transactions); holds = omega arith }
    few (round ∷ rounds) number past =
        let next = past_after config number past round in
        let now = names client (first config number past round).items
        ++ names client (third config number past round).items in
        one_round_more number past round rounds (Few (suc number) next rounds)
        (Few number past (round ∷ rounds))
        (λ more later. omega (
          arith,
          ap (how_many x) (names_before client number past round more),
          how_many-append x now (names_in client more),
          how_many-append x (ids_of (starts (given_second config number past round)))
              (started_from config (suc number) next rounds),
          client_few number past round,
          later,
        ))
        (few rounds (suc number) next)

  abbrev Differ : Key → List (Phase Key (Timed Input)) → Type 0
  Differ k phases = IsDistinct is_id (filter_map name_of (history key_cmp tick_at phases k))

  names_of_key : (k : Key) (rounds : List Round)
      → Differ k (past_from config config.first no_past rounds).transactions
  names_of_key (key.Server branch sent_by method) rounds =
      let all = rising branch sent_by method rounds config.first no_past in
      subst (Differ (key.Server branch sent_by method)) (sym all.transactions)
      (rise_apart config.first 0 (names_in (key.Server branch sent_by method) all.more) all.holds)
  names_of_key (key.Client branch method) rounds =
      distinct_of_once (names_in (key.Client branch method)
      (past_from config config.first no_past rounds).transactions)
      (λ x. let all = few branch method x rounds config.first no_past in
      subst (λ phases. how_many x (names_in (key.Client branch method) phases) ≤ 1)
      (sym all.transactions) (omega (arith, all.holds, started_once config rounds x)))

pub names_differ : (config : Config) (k : Key) (rounds : List Round)
    → IsDistinct is_id (filter_map name_of
    (history key_cmp tick_at (past_of config rounds).transactions k))
unfolding past_of
names_differ config k rounds = names_of_key config k rounds
