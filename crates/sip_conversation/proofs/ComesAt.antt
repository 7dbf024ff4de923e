-- What arrives in a round is given to its transaction; so is a request whose text comes.
use Rattle.std.proofs.Common.{◌≡◌, ⊎_elim, ℕ, suc, ◌+◌, ◌≤◌, true, false, ◌&&◌, List, [], ◌∷◌, ◌++◌, length, sym, ap, ◌∙◌, subst, arith}
use Rattle.std.specs.Prelude.{Contains, None, Some, Ok, filter, if◌then◌else◌, not}
use Rattle.std.specs.BTreeMap.{is_at}
use Rattle.std.proofs.lemmas.List.Elements.{Contains-append_left, Contains-append_right}
use Rattle.sip_message.specs.declared.addr.Addr.{Addr}
use Rattle.sip_message.specs.declared.id.Id.{Id}
use Rattle.sip_message.specs.declared.key.Key.{Key}
use Rattle.sip_message.specs.declared.message.Message.{Message}
use Rattle.sip_message.specs.Key.{key_cmp, keys_total}
use Rattle.sip_message.specs.Message.{is_request_message}
use Rattle.sip_message.specs.MessageKey.{key_of_message}
use Rattle.sip_message.specs.Rules.{IsMessage}
use Rattle.sip_message.specs.Source.{answer_address, stamped}
use Rattle.sip_message.specs.TopVia.{is_sent_by_of}
use Rattle.sip_message.specs.Written.{written}
use Rattle.keyed_machine.specs.declared.item.Item as model
use Rattle.keyed_machine.specs.Machine.{Timed, given_at, tick_at}
use Rattle.keyed_machine.specs.Phase.{history, own_inputs, timed_item, timed_items}
use Rattle.keyed_machine.specs.Phase as phase
use Rattle.keyed_machine.proofs.Ordered.{is_at_itself}
use Rattle.sip_reader.specs.ReadMessage.{message_at}
use Rattle.sip_transactions.specs.declared.input.Input.{Input}
use Rattle.sip_transactions.specs.declared.input.Input.TheVariants.{Receive}
use Rattle.sip_transactions.specs.Shard.{keyed_input}
use Rattle.sip_round.specs.declared.config.Config.{Config}
use Rattle.sip_round.specs.declared.round.Event.{Event}
use Rattle.sip_round.specs.declared.round.Event.TheVariants.{Datagram}
use Rattle.sip_round.specs.declared.round.Round.{Round}
use Rattle.sip_round.specs.Answers.{Past, arrivals, first, no_past, past_after, past_from, past_of, third}
use Rattle.sip_round.specs.Arrivals.{arrival_for, arrival_of, arrivals_from, datagram_arrival, message_arrival}
use Rattle.sip_round.specs.Arrivals as arrival
use Rattle.sip_round.specs.Phases.{transaction_item, transaction_items}
use Rattle.sip_conversation.specs.Messages.{IsGiven, come_from}
use Rattle.sip_conversation.proofs.Among.{among_first, among_kept, first_or_later, mapped_among, none_among}
use Rattle.sip_conversation.proofs.Bridge.{read_or_long}
use Rattle.sip_conversation.proofs.RoundInputs.{inputs_after}
use Rattle.sip_conversation.proofs.Rounds.{transactions_are, transactions_from}

-- ---- an event

module _ (config : Config) (key : Key) (e : Event) (input : Id → Input)
    (arrives : (id : Id) → arrival_of config.local id e ≡ arrival.Transaction key (input id)) where
  abbrev item_of : Id → model.Item Key Input
  item_of id = record { place = id.place; key = key; input = input id }

  among_items : (number place : ℕ) (events : List Event) → Contains events e
      → (id : Id) × Contains (transaction_items (arrivals_from config.local number place events))
      (item_of id)
  among_items number place [] among = absurd (none_among e among)
  among_items number place (one ∷ events) among =
      let id : Id = record { round = number; place = place } in
      let rest = transaction_items (arrivals_from config.local number (suc place) events) in
      ⊎_elim
      (λ same. (
        id,
        Contains-append_left (transaction_item id (arrival_of config.local id one)) rest
            (item_of id)
            (subst (λ a. Contains (transaction_item id a) (item_of id))
            (sym (ap (arrival_of config.local id) same ∙ arrives id))
            (among_first (item_of id) [])),
      ))
      (λ later. let found = among_items number (suc place) events later in (
        found.0,
        Contains-append_right (transaction_item id (arrival_of config.local id one)) rest
            (item_of found.0) found.1,
      ))
      (first_or_later one events e among)

  item_given : (now : ℕ) (items : List (model.Item Key Input)) (id : Id)
      → Contains items (item_of id)
      → Contains (phase.inputs_of key_cmp (timed_items now items) key) (given_at now (input id))
  item_given now items id among =
      let item = timed_item now (item_of id) in
      mapped_among (λ (i : model.Item Key (Timed Input)). i.input)
      (filter (λ i. is_at (key_cmp i.key) key) (timed_items now items)) item
      (among_kept (λ (i : model.Item Key (Timed Input)). is_at (key_cmp i.key) key)
      (timed_items now items) item (mapped_among (timed_item now) items (item_of id) among)
      (is_at_itself keys_total key))

  round_given : (number : ℕ) (past : Past) (round : Round) → Contains round.events e
      → (id : Id) × Contains (own_inputs key_cmp tick_at (first config number past round) key)
      (given_at round.moment (input id))
  unfolding first
  round_given number past round among =
      let found = among_items number 1 round.events among in
      let items = transaction_items (arrivals config number past round) in (
        found.0,
        Contains-append_right (tick_at round.moment ∷ [])
            (phase.inputs_of key_cmp (timed_items round.moment items) key)
            (given_at round.moment (input found.0))
            (item_given round.moment items found.0 found.1),
      )

  from_given : (number : ℕ) (past : Past) (rounds : List Round) (round : Round)
      → Contains rounds round → Contains round.events e
      → (id : Id) × (now : ℕ)
      × Contains (history key_cmp tick_at (transactions_from config number past rounds) key)
      (given_at now (input id))
  from_given number past [] round among has = absurd (none_among round among)
  from_given number past (one ∷ rounds) round among has =
      let next = past_after config number past one in
      let front = own_inputs key_cmp tick_at (first config number past one) key in
      let back = own_inputs key_cmp tick_at (third config number past one) key in
      let rest = history key_cmp tick_at (transactions_from config (suc number) next rounds) key in
      ⊎_elim
      (λ same.
      let found = round_given number past one (subst (λ r. Contains r.events e) (sym same) has) in (
        found.0,
        one.moment,
        Contains-append_left front (back ++ rest) (given_at one.moment (input found.0)) found.1,
      ))
      (λ later. let found = from_given (suc number) next rounds round later has in (
        found.0,
        found.1,
        Contains-append_right front (back ++ rest) (given_at found.1 (input found.0))
            (Contains-append_right back rest (given_at found.1 (input found.0)) found.2),
      ))
      (first_or_later one rounds round among)

  pub event_given : (rounds : List Round) (round : Round) → Contains rounds round
      → Contains round.events e → (id : Id) × IsGiven config rounds key (input id)
  unfolding past_of
  event_given rounds round among has =
      let found = from_given config.first no_past rounds round among has in (
        found.0,
        (
          found.1,
          subst (λ phases. Contains (history key_cmp tick_at phases key)
              (given_at found.1 (input found.0)))
              (sym (transactions_are config config.first no_past rounds)) found.2,
        ),
      )

  -- in rounds after others
  pub given_after : (rounds more : List Round) (round : Round) → Contains more round
      → Contains round.events e → (id : Id) × (now : ℕ)
      × Contains (inputs_after config key rounds more) (given_at now (input id))
  given_after rounds more round among has =
      from_given (config.first + length rounds) (past_from config config.first no_past rounds) more
      round among has

-- ---- the text of a request

module _ (request : Message) (rules : IsMessage request)
    (short : length (written request) ≤ 65535) (asks : is_request_message request ≡ true)
    (from : Addr) where
  abbrev pub as_it_comes : Message
  as_it_comes = come_from from request

  stamp_asks : is_request_message (stamped request from) ≡ true
  unfolding stamped
  stamp_asks = asks

  read_so : message_at (written request) ≡ Ok request
  read_so = ⊎_elim (λ read. read) (λ long. absurd (omega arith)) (read_or_long request rules)

  input_is : (local : Addr) (id : Id) (reply_to : Addr)
      → arrival_for (keyed_input local id (stamped request from) reply_to)
      ≡ arrival.Transaction (key_of_message (stamped request from))
      (Receive id (stamped request from) reply_to)
  input_is local id reply_to =
      ap (λ b. arrival_for (if not b && not (is_sent_by_of (stamped request from) local) then None
      else Some (key_of_message (stamped request from), Receive id (stamped request from) reply_to)))
      stamp_asks

  arrival_is : (local : Addr) (id : Id)
      → message_arrival local id from request
      ≡ arrival.Transaction (key_of_message as_it_comes)
      (Receive id as_it_comes (answer_address request from))
  unfolding message_arrival
  arrival_is local id =
      let stamp = stamped request from in
      let reply_to = answer_address request from in
      ap (λ b. if b then arrival_for (keyed_input local id stamp reply_to)
      else arrival_for (keyed_input local id request from)) asks
      ∙ input_is local id reply_to
      ∙ ap (λ m. arrival.Transaction (key_of_message m) (Receive id m reply_to))
      (sym (ap (λ b. if b then stamp else request) asks))

  text_arrives : (local : Addr) (id : Id)
      → arrival_of local id (Datagram from (written request))
      ≡ arrival.Transaction (key_of_message as_it_comes)
      (Receive id as_it_comes (answer_address request from))
  unfolding arrival_of
  text_arrives local id =
      ap (datagram_arrival local id from) read_so ∙ arrival_is local id

  -- if its text comes, its transaction is given the request
  pub text_given : (config : Config) (rounds : List Round) (round : Round) → Contains rounds round
      → Contains round.events (Datagram from (written request))
      → (id : Id) × IsGiven config rounds (key_of_message as_it_comes)
      (Receive id as_it_comes (answer_address request from))
  text_given config rounds round among has =
      event_given config (key_of_message as_it_comes) (Datagram from (written request))
      (λ id. Receive id as_it_comes (answer_address request from))
      (λ id. text_arrives config.local id) rounds round among has

  pub text_given_after : (config : Config) (rounds more : List Round) (round : Round)
      → Contains more round → Contains round.events (Datagram from (written request))
      → (id : Id) × (now : ℕ)
      × Contains (inputs_after config (key_of_message as_it_comes) rounds more)
      (given_at now (Receive id as_it_comes (answer_address request from)))
  text_given_after config rounds more round among has =
      given_after config (key_of_message as_it_comes) (Datagram from (written request))
      (λ id. Receive id as_it_comes (answer_address request from))
      (λ id. text_arrives config.local id) rounds more round among has

-- ---- the text of a response

module _ (response : Message) (rules : IsMessage response)
    (short : length (written response) ≤ 65535) (replies : is_request_message response ≡ false)
    (from : Addr) where
  reply_read : message_at (written response) ≡ Ok response
  reply_read = ⊎_elim (λ read. read) (λ long. absurd (omega arith)) (read_or_long response rules)

  reply_is : (local : Addr) → is_sent_by_of response local ≡ true → (id : Id)
      → message_arrival local id from response
      ≡ arrival.Transaction (key_of_message response) (Receive id response from)
  unfolding message_arrival
  reply_is local own id =
      ap (λ b. if b then arrival_for (keyed_input local id (stamped response from)
      (answer_address response from))
      else arrival_for (keyed_input local id response from)) replies
      ∙ (ap (λ b. arrival_for (if not b && not (is_sent_by_of response local) then None
      else Some (key_of_message response, Receive id response from))) replies
      ∙ ap (λ b. arrival_for (if not b then None
      else Some (key_of_message response, Receive id response from))) own)

  reply_arrives : (local : Addr) → is_sent_by_of response local ≡ true → (id : Id)
      → arrival_of local id (Datagram from (written response))
      ≡ arrival.Transaction (key_of_message response) (Receive id response from)
  unfolding arrival_of
  reply_arrives local own id =
      ap (datagram_arrival local id from) reply_read ∙ reply_is local own id

  -- if its text comes to the agent that its top Via names, its transaction is given the response
  pub reply_given_after : (config : Config) → is_sent_by_of response config.local ≡ true
      → (rounds more : List Round) (round : Round) → Contains more round
      → Contains round.events (Datagram from (written response))
      → (id : Id) × (now : ℕ)
      × Contains (inputs_after config (key_of_message response) rounds more)
      (given_at now (Receive id response from))
  reply_given_after config own rounds more round among has =
      given_after config (key_of_message response) (Datagram from (written response))
      (λ id. Receive id response from)
      (λ id. reply_arrives config.local own id) rounds more round among has
