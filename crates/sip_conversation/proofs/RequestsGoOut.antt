-- A request that a user asks for is refused, or goes out; if it is a BYE, he is told of the end of
-- its dialog.
use Rattle.std.proofs.Common.{◌≡◌, ◌⊎◌, inl, inr, ⊎_elim, ℕ, suc, Bool, true, false, cond, List, [], ◌∷◌, ◌++◌, refl, sym, ap, ◌∙◌, subst, codes}
use Rattle.std.specs.Prelude.{◌||◌, Contains, Option, None, Some, filter, zip}
use Rattle.std.specs.BTreeMap.{is_at}
use Rattle.std.specs.List.{flat_map}
use Rattle.std.specs.Map.{lookup, set_value}
use Rattle.std.specs.Option.{option_map_or}
use Rattle.std.specs.Str.{bytes_eq}
use Rattle.std.proofs.lemmas.List.Elements.{Contains-append_cases, Contains-append_left, Contains-append_right}
use Rattle.std.proofs.lemmas.Slice.Eq.{bytes_eq-Decides}
use Rattle.std.proofs.lemmas.Cmp.{nat_list_cmp_total}
use Rattle.std.proofs.lemmas.Bool.{false≢true}
use Rattle.std.proofs.lemmas.Option.{same_Some}
use Rattle.sip_message.specs.declared.addr.Addr.{Addr}
use Rattle.sip_message.specs.declared.id.Id.{Id}
use Rattle.sip_message.specs.declared.key.Key.{Key}
use Rattle.sip_message.specs.declared.message.Message.{Message}
use Rattle.sip_message.specs.Key.{key_cmp, keys_total, client_key}
use Rattle.sip_message.specs.Content.{with_content_of}
use Rattle.sip_message.specs.TopVia.{top_branch}
use Rattle.keyed_machine.specs.declared.item.Item as model
use Rattle.keyed_machine.specs.Laws.{EachKeyAlone, said_by}
use Rattle.keyed_machine.specs.Machine.{Machine, Timed, given_at, state_from, tick_at}
use Rattle.keyed_machine.specs.Phase.{Phase, history, own_inputs, timed_item, timed_items}
use Rattle.keyed_machine.specs.Rules.{said_since, said_to}
use Rattle.keyed_machine.proofs.Ordered.{is_at_itself}
use Rattle.sip_transactions.specs.declared.input.Command.TheVariants as order
use Rattle.sip_transactions.specs.declared.input.Command.{Command as Order}
use Rattle.sip_transactions.specs.declared.input.Input.{Input}
use Rattle.sip_transactions.specs.declared.input.Input.TheVariants.{Start}
use Rattle.sip_transactions.specs.Shard.{asked_by, command_key}
use Rattle.sip_user.specs.Command.{call_of_command}
use Rattle.sip_user.specs.Refusal.{first_refusal}
use Rattle.sip_user.specs.declared.command.DialogRequest.{DialogRequest}
use Rattle.sip_user.specs.declared.command.UserCommand.{UserCommand}
use Rattle.sip_user.specs.declared.command.UserCommand.TheVariants as user
use Rattle.sip_user.specs.declared.item.CallOut.{CallOut}
use Rattle.sip_user.specs.declared.item.CallOut.TheVariants.{Command, Notice}
use Rattle.sip_user.specs.declared.item.Item.{Item}
use Rattle.sip_user.specs.declared.item.Item.TheVariants.{User}
use Rattle.sip_user.specs.declared.notice.Notice.{Notice as ANotice}
use Rattle.sip_user.specs.declared.notice.Notice.TheVariants.{Ended, Refused}
use Rattle.sip_user.specs.declared.refusal.Refusal.{Refusal}
use Rattle.sip_user.specs.declared.refusal.Refusal.TheVariants.{BadMethod, NoSuchDialog}
use Rattle.sip_user.specs.Notices.{refused}
use Rattle.sip_user.specs.declared.command.Invite.{Invite}
use Rattle.sip_user.specs.declared.command.Plain.{Plain}
use Rattle.sip_user.specs.declared.command.ProvisionalSupport.{ProvisionalSupport}
use Rattle.sip_user.specs.declared.command.ProvisionalSupport.TheVariants as support
use Rattle.sip_dialog.specs.Request.{contact_of}
use Rattle.sip_held_dialogs.specs.declared.held_dialog.DialogId.{DialogId}
use Rattle.sip_held_dialogs.specs.declared.held_dialog.HeldDialog.{HeldDialog}
use Rattle.sip_held_dialogs.specs.Dialogs.{Dialogs, ended_at, ended_notice, is_dialog_id, tag_text}
use Rattle.sip_held_dialogs.specs.Requests.{dialog_id_of_tags}
use Rattle.sip_clients.specs.declared.client.Client.{Client}
use Rattle.sip_clients.specs.declared.event.Event.{Event}
use Rattle.sip_clients.specs.Client.{ClientTaken, Side, Clients, client_for}
use Rattle.sip_clients.specs.Rules.Requests.{has_command, refusals_in, refuse, request_command, request_in_dialog, request_with_next_number, start, with_number, invite_command, plain_command, request_outside, with_100rel}
use Rattle.sip_clients.specs.declared.client.RequestKind.TheVariants.{InitialInvite, OutOfDialog}
use Rattle.sip_calls.specs.declared.call.Call.{Call}
use Rattle.sip_calls.specs.declared.calls.Calls.{Calls}
use Rattle.sip_calls.specs.Call.{CallItem, call_machine, call_step, event_of, side_of}
use Rattle.sip_calls.specs.CallShard.{call_cmp}
use Rattle.sip_round.specs.declared.config.Config.{Config}
use Rattle.sip_round.specs.declared.round.Event.{Event as AnEvent}
use Rattle.sip_round.specs.declared.round.Event.TheVariants as event
use Rattle.sip_round.specs.declared.round.Round.{Round}
use Rattle.sip_round.specs.declared.output.Output.{Output}
use Rattle.sip_round.specs.declared.output.Output.TheVariants as output
use Rattle.sip_round.specs.Answers.{Past, answer, answers, answers_from, arrivals, calls_of, first, given_second, items_of_round, no_past, past_after, past_of, said_by_calls, said_by_transactions, second, third}
use Rattle.sip_round.specs.Arrivals.{Arrival, arrival_of, arrivals_from}
use Rattle.sip_round.specs.Arrivals as arrival
use Rattle.sip_round.specs.Laws.{call_inputs_of, inputs_of, said_of_call}
use Rattle.sip_round.specs.Outputs.{all_said, call_outputs, sent_of, command_of, joined, outs_of, raised_of, said_at, user_items}
use Rattle.sip_round.specs.Phases.{call_items, command_items}
use Rattle.sip_round.proofs.AnswerParts.{answer_parts, sent_first}
use Rattle.sip_round.proofs.GivenNotices.{calls_are, calls_from}
use Rattle.sip_conversation.specs.GoOut.{GoesOut, IsRefused, RequestsGoOut}
use Rattle.sip_conversation.specs.Requests.{request_asked_by}
use Rattle.sip_conversation.specs.Messages.{CallSays, IsGiven}
use Rattle.sip_conversation.proofs.Among.{among_first, among_kept, among_later, first_or_later, in_all_of, mapped_among, none_among}
use Rattle.sip_conversation.proofs.ComesUp.{call_given, item_at}
use Rattle.sip_conversation.proofs.RequestsAsked.{out_own}
use Rattle.sip_conversation.proofs.OneStart.{calls_say}
use Rattle.sip_conversation.proofs.Rounds.{calls_give, transactions_are, transactions_from}
use Rattle.sip_conversation.proofs.ToldOrAnswered.{lookup_set, notice_given}

-- ---- by the rule

module _ (call_id method body : List ℕ) (event : Id) where
  record Refuses (outs : List CallOut) : Type 0 where
    why : Refusal
    told : Contains outs (Notice (Refused call_id event.place why))

  record Goes (outs : List CallOut) : Type 0 where
    request : Message
    method_is : request.cseq.method ≡ method
    body_is : request.body ≡ body
    key : Key
    of : List ℕ
    to : Addr
    starts : Contains outs (Command event (order.Start key of request to))
    ends : method ≡ codes "BYE" → (held : HeldDialog) × Contains outs (ended_notice held)

  -- a command is refused, or a request goes out
  abbrev IsFine : List CallOut → Type 0
  IsFine outs = Refuses outs ⊎ Goes outs

  refused_so : (why : Refusal) → IsFine (Notice (Refused call_id event.place why) ∷ [])
  refused_so why = inl (record { why = why; told = among_first _ [] })

  or_fine : {X : Type 0} (f : X → ClientTaken) (otherwise : ClientTaken) (o : Option X)
      → ((x : X) → o ≡ Some x → IsFine (f x).1) → IsFine otherwise.1
      → IsFine (option_map_or f o otherwise).1
  or_fine f otherwise None each none = none
  or_fine f otherwise (Some x) each none = each x refl

  -- a request that is no BYE
  started_so : (client : Client) → client.id ≡ event → client.request.cseq.method ≡ method
      → client.request.body ≡ body → (method ≡ codes "BYE" → ⊥) → (clients : Clients)
      → IsFine (start (clients, []) client).1
  started_so client id method_is body_is no_bye clients = inr (record {
    request = client.request;
    method_is = method_is;
    body_is = body_is;
    key = _;
    of = _;
    to = client.to;
    starts = subst (λ i. Contains ([] ++ Command client.id
        (order.Start (client_key (top_branch client.request) client.request.cseq.method)
        client.request.call_id client.request client.to) ∷ [])
        (Command i (order.Start (client_key (top_branch client.request)
        client.request.cseq.method) client.request.call_id client.request client.to))) id
        (among_first _ []);
    ends = λ bye. absurd (no_bye bye);
  })

other_method : (one other : List ℕ) → bytes_eq one other ≡ false → one ≡ other → ⊥
other_method one other differ same =
    false≢true (sym differ ∙ (bytes_eq-Decides one other).1 same)

module _ (event : Id) (calls : Calls) (now : ℕ) where
  abbrev own : Event
  own = event_of calls event now

  -- ---- an INVITE

  abbrev invite_client : Invite → ProvisionalSupport → Client
  invite_client invite support = client_for event InitialInvite (with_content_of
      (with_100rel support (record (request_outside own invite.call_id (codes "INVITE")
      invite.request_uri invite.from invite.to invite.routes)
      { contacts = contact_of own.local ∷ [] })) invite.content) invite.address

  by_support : (invite : Invite) (clients : Clients) (support : ProvisionalSupport)
      → IsFine invite.call_id (codes "INVITE") invite.content.body event
      (start (clients, []) (invite_client invite support)).1
  unfolding with_content_of
  by_support invite clients support.None =
      started_so invite.call_id (codes "INVITE") invite.content.body event
      (invite_client invite support.None) refl refl refl
      (other_method (codes "INVITE") (codes "BYE") refl) clients
  by_support invite clients support.Supported =
      started_so invite.call_id (codes "INVITE") invite.content.body event
      (invite_client invite support.Supported) refl refl refl
      (other_method (codes "INVITE") (codes "BYE") refl) clients
  by_support invite clients support.Required =
      started_so invite.call_id (codes "INVITE") invite.content.body event
      (invite_client invite support.Required) refl refl refl
      (other_method (codes "INVITE") (codes "BYE") refl) clients

  invite_fine : (invite : Invite) (clients : Clients)
      → IsFine invite.call_id (codes "INVITE") invite.content.body event
      (invite_command own invite clients).1
  unfolding invite_command
  invite_fine invite clients = by_support invite clients invite.support

  -- ---- another request outside of dialogs

  last_false : (a b c : Bool) → (a || b || c) ≡ false → c ≡ false
  last_false true b c is = absurd (false≢true (sym is))
  last_false false true c is = absurd (false≢true (sym is))
  last_false false false c is = is

  abbrev plain_client : Plain → Client
  plain_client plain = client_for event OutOfDialog (with_content_of
      (request_outside own plain.call_id plain.method plain.request_uri plain.from plain.to
      plain.routes) plain.content) plain.address

  abbrev is_bad : Plain → Bool
  is_bad plain = has_command plain.method || bytes_eq plain.method (codes "INVITE")
      || bytes_eq plain.method (codes "BYE")

  by_method : (plain : Plain) (clients : Clients) (bad : Bool) → is_bad plain ≡ bad
      → IsFine plain.call_id plain.method plain.content.body event
      (cond {A = Clients × List CallOut} bad (clients, refused event plain.call_id BadMethod)
      (start (clients, []) (plain_client plain))).1
  unfolding with_content_of
  by_method plain clients true is =
      refused_so plain.call_id plain.method plain.content.body event BadMethod
  by_method plain clients false is =
      started_so plain.call_id plain.method plain.content.body event (plain_client plain) refl refl
      refl (other_method plain.method (codes "BYE") (last_false (has_command plain.method)
      (bytes_eq plain.method (codes "INVITE")) (bytes_eq plain.method (codes "BYE")) is)) clients

  plain_fine : (plain : Plain) (clients : Clients)
      → IsFine plain.call_id plain.method plain.content.body event
      (plain_command own plain clients).1
  unfolding plain_command
  plain_fine plain clients = by_method plain clients (is_bad plain) refl

  -- ---- a request in a dialog

  module _ (request : DialogRequest) where
    abbrev IsFineIn : List CallOut → Type 0
    IsFineIn = IsFine request.call_id request.method request.content.body event

    in_dialog : (side : Side) (name : DialogId) (held : HeldDialog)
        → lookup (is_dialog_id name) side.dialogs ≡ Some held
        → IsFineIn (request_in_dialog own request side name held).1
    unfolding with_content_of
    in_dialog side name held is =
        let client : Client =
        request_with_next_number own name request.method None request.content held in
        let dialogs : Dialogs = set_value (is_dialog_id name) side.dialogs (with_number held) in
        let found = lookup_set (is_dialog_id name) side.dialogs held (with_number held) is in
        or_fine request.call_id request.method request.content.body event
        (refuse own request.call_id side) _ (first_refusal
        ((has_command request.method, BadMethod) ∷ refusals_in held.dialog request.method) None)
        (λ why none. refused_so request.call_id request.method request.content.body event why)
        (inr (record {
          request = client.request;
          method_is = refl;
          body_is = refl;
          key = _;
          of = _;
          to = _;
          starts = among_first _ _;
          ends = λ bye. (
            with_number held,
            among_later _ _ (ended_notice (with_number held))
                (subst (λ b. Contains (cond {A = Dialogs × List CallOut} b
                (ended_at name dialogs) (dialogs, [])).1 (ended_notice (with_number held)))
                (sym ((bytes_eq-Decides request.method (codes "BYE")).1 bye))
                (subst (λ o. Contains (option_map_or (λ held. ended_notice held ∷ []) o [])
                (ended_notice (with_number held))) (sym found)
                (among_first (ended_notice (with_number held)) []))),
          );
        }))

    by_rule : (side : Side) → IsFineIn (request_command own request side).1
    unfolding request_command
    by_rule side =
        let name = dialog_id_of_tags (tag_text request.local_tag) (tag_text request.remote_tag) in
        or_fine request.call_id request.method request.content.body event
        (request_in_dialog own request side name) (refuse own request.call_id side NoSuchDialog)
        (lookup (is_dialog_id name) side.dialogs) (in_dialog side name)
        (refused_so request.call_id request.method request.content.body event NoSuchDialog)

  -- ---- any of them

  abbrev At : UserCommand → Option Call → Type 0
  At command state = (method body : List ℕ) → request_asked_by command ≡ Some (method, body)
      → IsFine (call_of_command command) method body event
      (call_step calls state (Some (event, User command)) now).1

  of_pair : (call_id : List ℕ) (outs : List CallOut) (p q : List ℕ × List ℕ) → Some p ≡ Some q
      → IsFine call_id p.0 p.1 event outs → IsFine call_id q.0 q.1 event outs
  of_pair call_id outs p q same fine =
      subst (λ (p : List ℕ × List ℕ). IsFine call_id p.0 p.1 event outs) (same_Some p q same) fine

  at_input : (command : UserCommand) (state : Option Call) → At command state
  at_input (user.Invite invite) None method body asks =
      of_pair invite.call_id _ (codes "INVITE", invite.content.body) (method, body) asks
      (invite_fine invite _)
  at_input (user.Invite invite) (Some call) method body asks =
      refused_so invite.call_id method body event _
  at_input (user.Plain plain) None method body asks =
      of_pair plain.call_id _ (plain.method, plain.content.body) (method, body) asks
      (plain_fine plain _)
  at_input (user.Plain plain) (Some call) method body asks =
      refused_so plain.call_id method body event _
  at_input (user.Request request) None method body asks =
      refused_so request.call_id method body event _
  at_input (user.Request request) (Some call) method body asks =
      of_pair request.call_id _ (request.method, request.content.body) (method, body) asks
      (by_rule request (side_of call))
  at_input (user.Respond respond) state method body asks = absurd cc
  at_input (user.Ack ack) state method body asks = absurd cc
  at_input (user.Prack prack) state method body asks = absurd cc
  at_input (user.Cancel cancel) state method body asks = absurd cc
  at_input (user.AbandonRequest abandon) state method body asks = absurd cc
  at_input (user.AbandonDialog abandon) state method body asks = absurd cc

-- ---- what a call asks of a transaction is given to it

module _ (config : Config) (id : Id) (asked : Order) where
  order_at : (place : ℕ) (orders : List (Id × Order)) → Contains orders (id, asked)
      → (at : ℕ) × Contains (command_items place orders)
      (record { place = at; key = command_key asked; input = asked_by id asked })
  order_at place [] among = absurd (none_among (id, asked) among)
  order_at place (one ∷ orders) among =
      ⊎_elim
      (λ same. (
        place,
        subst (λ (i : Id × Order). Contains (command_items place (i ∷ orders))
            (record { place = place; key = command_key asked; input = asked_by id asked }))
            (sym same) (among_first _ (command_items (suc place) orders)),
      ))
      (λ later. let found = order_at (suc place) orders later in
      (found.0, among_later _ (command_items (suc place) orders) _ found.1))
      (first_or_later one orders (id, asked) among)

  order_given : (number : ℕ) (past : Past) (round : Round)
      → Contains (given_second config number past round) (Command id asked)
      → Contains (own_inputs key_cmp tick_at (third config number past round)
      (command_key asked)) (given_at round.moment (asked_by id asked))
  unfolding third
  order_given number past round among =
      let orders = flat_map command_of (given_second config number past round) in
      let items = command_items 0 orders in
      let found = order_at 0 orders
      (in_all_of command_of (given_second config number past round) (Command id asked) (id, asked)
      among (among_first (id, asked) [])) in
      let item : model.Item Key Input =
      record { place = found.0; key = command_key asked; input = asked_by id asked } in
      let timed = timed_item round.moment item in
      mapped_among (λ (i : model.Item Key (Timed Input)). i.input)
      (filter (λ i. is_at (key_cmp i.key) (command_key asked)) (timed_items round.moment items))
      timed
      (among_kept (λ (i : model.Item Key (Timed Input)). is_at (key_cmp i.key) (command_key asked))
      (timed_items round.moment items) timed
      (mapped_among (timed_item round.moment) items item found.1)
      (is_at_itself keys_total (command_key asked)))

  orders_given : (number : ℕ) (past : Past) (rounds : List Round)
      → Contains (calls_give config number past rounds) (Command id asked) → (now : ℕ)
      × Contains (history key_cmp tick_at (transactions_from config number past rounds)
      (command_key asked)) (given_at now (asked_by id asked))
  orders_given number past [] among = absurd (none_among (Command id asked) among)
  orders_given number past (round ∷ rounds) among =
      let next = past_after config number past round in
      let one = own_inputs key_cmp tick_at (first config number past round) (command_key asked) in
      let two = own_inputs key_cmp tick_at (third config number past round) (command_key asked) in
      let rest = history key_cmp tick_at (transactions_from config (suc number) next rounds)
      (command_key asked) in
      ⊎_elim
      (λ here. (
        round.moment,
        Contains-append_right one (two ++ rest) (given_at round.moment (asked_by id asked))
            (Contains-append_left two rest (given_at round.moment (asked_by id asked))
            (order_given number past round here)),
      ))
      (λ later. let found = orders_given (suc number) next rounds later in (
        found.0,
        Contains-append_right one (two ++ rest) (given_at found.0 (asked_by id asked))
            (Contains-append_right two rest (given_at found.0 (asked_by id asked)) found.1),
      ))
      (Contains-append_cases (given_second config number past round)
      (calls_give config (suc number) next rounds) (Command id asked) among)

  pub asked_given : (rounds : List Round) → CallSays config rounds (Command id asked)
      → IsGiven config rounds (command_key asked) (asked_by id asked)
  unfolding past_of
  asked_given rounds says =
      let found = orders_given config.first no_past rounds
      (calls_say config rounds (Command id asked) says) in (
        found.0,
        subst (λ phases. Contains (history key_cmp tick_at phases (command_key asked))
            (given_at found.0 (asked_by id asked)))
            (sym (transactions_are config config.first no_past rounds)) found.1,
      )

-- ---- the command is given to its call

module _ (config : Config) (command : UserCommand) where
  came_so : (number place : ℕ) (events : List AnEvent) → Contains events (event.Command command)
      → (id : Id) × Contains (arrivals_from config.local number place events)
      (id, arrival.User command)
  unfolding arrival_of
  came_so number place [] among = absurd (none_among (event.Command command) among)
  came_so number place (one ∷ events) among =
      let id : Id = record { round = number; place = place } in
      let rest = arrivals_from config.local number (suc place) events in
      ⊎_elim
      (λ same. (
        id,
        subst (λ (a : Arrival). Contains ((id, a) ∷ rest) (id, arrival.User command))
            (sym (ap (arrival_of config.local id) same))
            (among_first (id, arrival.User command) rest),
      ))
      (λ later. let found = came_so number (suc place) events later in (
        found.0,
        among_later (id, arrival_of config.local id one) rest (found.0, arrival.User command)
            found.1,
      ))
      (first_or_later one events (event.Command command) among)

  in_items : (number : ℕ) (past : Past) (round : Round)
      → Contains round.events (event.Command command)
      → (id : Id) × Contains (items_of_round config number past round) (id, User command)
  unfolding items_of_round
  in_items number past round among =
      let told = said_by_transactions past.transactions (first config number past round) in
      let came = arrivals config number past round in
      let zero : Id = record { round = number; place = 0 } in
      let of_arrival : Id × Arrival → List (Id × Item) =
      λ a. flat_map (raised_of a.0) (outs_of (said_at told) a.0 a.1) ++ user_items a.0 a.1 in
      let found = came_so number 1 round.events among in (
        found.0,
        Contains-append_right (flat_map (raised_of zero) (joined told.ticks))
            (flat_map of_arrival came) (found.0, User command)
            (in_all_of of_arrival came (found.0, arrival.User command) (found.0, User command)
            found.1 (among_first (found.0, User command) [])),
      )

  -- ---- what the call says to it, in its round

  abbrev call_id : List ℕ
  call_id = call_of_command command

  abbrev calls : Calls
  calls = calls_of config

  abbrev machine : Machine (List ℕ) Call (Timed CallItem) CallOut
  machine = call_machine calls

  -- the outputs to an item, from some state
  record IsAnswered (groups : List ((ℕ × List ℕ) × List CallOut))
      (item : model.Item (List ℕ) (Timed CallItem)) : Type 0 where
    state : Option Call
    among : Contains groups
        ((item.place, item.key), (machine.step item.key state item.input).1)

  answered : (phases : List (Phase (List ℕ) (Timed CallItem)))
      (part : Phase (List ℕ) (Timed CallItem)) (items : List (model.Item (List ℕ) (Timed CallItem)))
      (item : model.Item (List ℕ) (Timed CallItem)) → Contains items item
      → IsAnswered (said_to call_cmp machine tick_at phases part items) item
  answered phases part [] item among = absurd (none_among item among)
  answered phases part (first ∷ items) item among =
      let next = record part { items = part.items ++ first ∷ [] } in
      let rest = said_to call_cmp machine tick_at phases next items in
      let held : model.Item (List ℕ) (Timed CallItem) → Option Call = λ i.
      state_from machine i.key None (history call_cmp tick_at (phases ++ part ∷ []) i.key) in
      ⊎_elim
      (λ same. record {
        state = held first;
        among = subst (λ (i : model.Item (List ℕ) (Timed CallItem)).
            Contains ((
              (first.place, first.key),
              (machine.step first.key (held first) first.input).1,
            ) ∷ rest)
            ((i.place, i.key), (machine.step i.key (held first) i.input).1)) same
            (among_first _ rest);
      })
      (λ later. let found = answered phases next items item later in record {
        state = found.state;
        among = among_later _ rest _ found.among;
      })
      (first_or_later first items item among)

  -- what it says to the command at a moment
  abbrev outs_at : Option Call → Id → ℕ → List CallOut
  outs_at state event now = (call_step calls state (Some (event, User command)) now).1

  record SaidIn (number : ℕ) (past : Past) (round : Round) (event : Id) : Type 0 where
    state : Option Call
    said : (out : CallOut) → Contains (outs_at state event round.moment) out
        → Contains (said_by call_cmp machine tick_at call_id
        (said_by_calls calls past.calls (second config number past round))) out
    asked : (out : CallOut) → Contains (outs_at state event round.moment) out
        → Contains (given_second config number past round) out

  said_in_round : (number : ℕ) (past : Past) (round : Round) (event : Id)
      → Contains (items_of_round config number past round) (event, User command)
      → SaidIn number past round event
  unfolding second given_second
  said_in_round number past round event among =
      let phase = second config number past round in
      let told = said_by_calls calls past.calls phase in
      let place = item_at (event, User command) 0 (items_of_round config number past round) among in
      let item : model.Item (List ℕ) CallItem =
      record { place = place.0; key = call_id; input = (event, User command) } in
      let timed = timed_item round.moment item in
      let answer = answered past.calls (record { moment = phase.moment; items = [] }) phase.items
      timed (mapped_among (timed_item round.moment)
      (call_items 0 (items_of_round config number past round)) item place.1) in
      let outs = outs_at answer.state event round.moment in
      let group : (ℕ × List ℕ) × List CallOut = ((place.0, call_id), outs) in
      let own : (ℕ × List ℕ) × List CallOut → Bool = λ g. is_at (call_cmp call_id) (g.0).1 in
      record {
        state = answer.state;
        said = λ out gives.
            Contains-append_right _ (joined (filter own told.items)) out
            (in_all_of (λ (g : (ℕ × List ℕ) × List CallOut). g.1) (filter own told.items) group out
            (among_kept own told.items group answer.among (is_at_itself nat_list_cmp_total call_id))
            gives);
        asked = λ out gives.
            Contains-append_right (joined told.ticks) (joined told.items) out
            (in_all_of (λ (g : (ℕ × List ℕ) × List CallOut). g.1) told.items group out answer.among
            gives);
      }

  -- ---- in rounds

  -- what calls say in a round to tell the user is among what it gives
  answer_gives : (number : ℕ) (past : Past) (round : Round) (told : ANotice)
      → Contains (given_second config number past round) (Notice told)
      → Contains (answer config number past round) (output.Notice told)
  answer_gives number past round told says =
      let one = first config number past round in
      let sent = sent_first (said_by_transactions past.transactions one)
      (arrivals config number past round) in
      let reported = flat_map call_outputs (given_second config number past round) in
      let last = flat_map sent_of (all_said (said_by_transactions (past.transactions ++ one ∷ [])
      (third config number past round))) in
      subst (λ outs. Contains outs (output.Notice told)) (sym (answer_parts config number past round))
      (Contains-append_left (sent ++ reported) last (output.Notice told)
      (Contains-append_right sent reported (output.Notice told)
      (in_all_of call_outputs (given_second config number past round) (Notice told)
      (output.Notice told) says (among_first (output.Notice told) []))))

  record TakenFrom (number : ℕ) (past : Past) (rounds : List Round) (round : Round) : Type 0 where
    event : Id
    gave : Contains (history call_cmp tick_at (calls_from config number past rounds) call_id)
        (given_at round.moment (event, User command))
    state : Option Call
    said : (out : CallOut) → Contains (outs_at state event round.moment) out
        → Contains (said_since call_cmp machine tick_at call_id past.calls
        (calls_from config number past rounds)) out
    asked : (id : Id) (asked : Order)
        → Contains (outs_at state event round.moment) (Command id asked)
        → Contains (history key_cmp tick_at (transactions_from config number past rounds)
        (command_key asked)) (given_at round.moment (asked_by id asked))
    given : List Output
    answered : Contains (zip rounds (answers_from config number past rounds)) (round, given)
    tells : (told : ANotice) → Contains (outs_at state event round.moment) (Notice told)
        → Contains given (output.Notice told)

  taken_here : (number : ℕ) (past : Past) (round : Round) (rounds : List Round)
      → Contains round.events (event.Command command)
      → TakenFrom number past (round ∷ rounds) round
  unfolding past_after
  taken_here number past round rounds has =
      let next = past_after config number past round in
      let found = in_items number past round has in
      let said = said_in_round number past round found.0 found.1 in
      let told = said_by_calls calls past.calls (second config number past round) in
      record {
        event = found.0;
        gave = Contains-append_left
            (own_inputs call_cmp tick_at (second config number past round) call_id)
            (history call_cmp tick_at (calls_from config (suc number) next rounds) call_id)
            (given_at round.moment (found.0, User command))
            (call_given (found.0, User command) config number past round found.1);
        state = said.state;
        said = λ out gives.
            Contains-append_left (said_by call_cmp machine tick_at call_id told)
            (said_since call_cmp machine tick_at call_id next.calls
            (calls_from config (suc number) next rounds)) out (said.said out gives);
        asked = λ id asked gives.
            let one = own_inputs key_cmp tick_at (first config number past round)
            (command_key asked) in
            let two = own_inputs key_cmp tick_at (third config number past round)
            (command_key asked) in
            let rest = history key_cmp tick_at (transactions_from config (suc number) next rounds)
            (command_key asked) in
            let input = given_at round.moment (asked_by id asked) in
            Contains-append_right one (two ++ rest) input
            (Contains-append_left two rest input
            (order_given config id asked number past round
            (said.asked (Command id asked) gives)));
        given = answer config number past round;
        answered = among_first _ _;
        tells = λ told gives. answer_gives number past round told (said.asked (Notice told) gives);
      }

  taken_from : (number : ℕ) (past : Past) (rounds : List Round) (round : Round)
      → Contains rounds round → Contains round.events (event.Command command)
      → TakenFrom number past rounds round
  unfolding past_after
  taken_from number past [] round among has = absurd (none_among round among)
  taken_from number past (one ∷ rounds) round among has =
      let next = past_after config number past one in
      ⊎_elim
      (λ same. subst (TakenFrom number past (one ∷ rounds)) same
      (taken_here number past one rounds
      (subst (λ (r : Round). Contains r.events (event.Command command)) (sym same) has)))
      (λ later.
      let rest = taken_from (suc number) next rounds round later has in
      let told = said_by_calls calls past.calls (second config number past one) in
      record {
        event = rest.event;
        gave = Contains-append_right
            (own_inputs call_cmp tick_at (second config number past one) call_id)
            (history call_cmp tick_at (calls_from config (suc number) next rounds) call_id)
            (given_at round.moment (rest.event, User command)) rest.gave;
        state = rest.state;
        said = λ out gives.
            Contains-append_right (said_by call_cmp machine tick_at call_id told)
            (said_since call_cmp machine tick_at call_id next.calls
            (calls_from config (suc number) next rounds)) out (rest.said out gives);
        asked = λ id asked gives.
            let one_in = own_inputs key_cmp tick_at (first config number past one)
            (command_key asked) in
            let two_in = own_inputs key_cmp tick_at (third config number past one)
            (command_key asked) in
            let more = history key_cmp tick_at (transactions_from config (suc number) next rounds)
            (command_key asked) in
            let input = given_at round.moment (asked_by id asked) in
            Contains-append_right one_in (two_in ++ more) input
            (Contains-append_right two_in more input (rest.asked id asked gives));
        given = rest.given;
        answered = among_later _ _ (round, rest.given) rest.answered;
        tells = rest.tells;
      })
      (first_or_later one rounds round among)

  -- the command is given to its call; what that says, and asks at the same moment
  record IsTakenSo (rounds : List Round) (round : Round) : Type 0 where
    event : Id
    gave : Contains (call_inputs_of config rounds call_id)
        (given_at round.moment (event, User command))
    state : Option Call
    said : (out : CallOut) → Contains (outs_at state event round.moment) out
        → Contains (said_of_call config rounds call_id) out
    asked : (id : Id) (asked : Order)
        → Contains (outs_at state event round.moment) (Command id asked)
        → Contains (inputs_of config rounds (command_key asked))
        (given_at round.moment (asked_by id asked))
    given : List Output
    answered : Contains (zip rounds (answers config rounds)) (round, given)
    tells : (told : ANotice) → Contains (outs_at state event round.moment) (Notice told)
        → Contains given (output.Notice told)

  taken : (rounds : List Round) (round : Round) → Contains rounds round
      → Contains round.events (event.Command command) → IsTakenSo rounds round
  unfolding past_of answers
  taken rounds round among has =
      let found = taken_from config.first no_past rounds round among has in
      let calls_so = sym (calls_are config config.first no_past rounds) in
      record {
        event = found.event;
        gave = subst (λ phases. Contains (history call_cmp tick_at phases call_id)
            (given_at round.moment (found.event, User command))) calls_so found.gave;
        state = found.state;
        said = λ out gives.
            subst (λ phases. Contains (said_since call_cmp machine tick_at call_id [] phases) out)
            calls_so (found.said out gives);
        asked = λ id asked gives.
            subst (λ phases. Contains (history key_cmp tick_at phases (command_key asked))
            (given_at round.moment (asked_by id asked)))
            (sym (transactions_are config config.first no_past rounds))
            (found.asked id asked gives);
        given = found.given;
        answered = found.answered;
        tells = found.tells;
      }

-- ---- the law

module _ (config : Config)
    (alone : EachKeyAlone call_cmp (call_machine (calls_of config)) tick_at) where
  module _ (rounds : List Round) (round : Round) (command : UserCommand) (method body : List ℕ)
      (so : IsTakenSo config command rounds round) where
    abbrev of_call : List ℕ
    of_call = call_of_command command

    abbrev outs : List CallOut
    outs = outs_at config command so.state so.event round.moment

    goes_out : Goes of_call method body so.event outs
        → GoesOut config rounds of_call so.event so.given round.moment method body
    goes_out goes =
        let asked = order.Start goes.key goes.of goes.request goes.to in
        let says : CallSays config rounds (Command so.event asked) =
        (of_call, so.said (Command so.event asked) goes.starts) in
        let own = out_own config rounds alone (Command so.event asked) says in
        let of_is : goes.of ≡ of_call = own.of_is ∙ own.own.call in
        record {
          request = goes.request;
          method_is = goes.method_is;
          body_is = goes.body_is;
          key = goes.key;
          to = goes.to;
          started = subst (λ of. Contains (inputs_of config rounds goes.key)
              (given_at round.moment (Start so.event of goes.request goes.to))) of_is
              (so.asked so.event asked goes.starts);
          ends = λ bye.
              let held = goes.ends bye in
              let dialog = (held.0).dialog in
              let ended = notice_given config rounds alone of_call (Ended dialog.call_id
              (tag_text dialog.local.tag) (tag_text dialog.remote.tag))
              (so.said (ended_notice held.0) held.1) in (
                tag_text dialog.local.tag,
                tag_text dialog.remote.tag,
                subst (λ (of : List ℕ). Contains so.given
                    (output.Notice (Ended of (tag_text dialog.local.tag)
                    (tag_text dialog.remote.tag)))) (sym ended.own)
                    (so.tells (Ended dialog.call_id (tag_text dialog.local.tag)
                    (tag_text dialog.remote.tag)) held.1),
              );
        }

    is_refused : Refuses of_call method body so.event outs
        → IsRefused of_call so.event so.given
    is_refused refuses = record {
      why = refuses.why;
      told = so.tells (Refused of_call so.event.place refuses.why) refuses.told;
    }

  pub requests_go_out : RequestsGoOut config
  requests_go_out rounds round among command has method body asks =
      let so = taken config command rounds round among has in
      record {
        event = so.event;
        gave = so.gave;
        given = so.given;
        answer = so.answered;
        done = ⊎_elim
            (λ refuses. inl (is_refused rounds round command method body so refuses))
            (λ goes. inr (goes_out rounds round command method body so goes))
            (at_input so.event (calls_of config) round.moment command so.state method body asks);
      }
