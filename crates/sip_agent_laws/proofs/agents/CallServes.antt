-- What an item or a tick of a call gives to the requests of the peer, and that it gives up none.
use Rattle.std.proofs.Common.{◌≡◌, ◌⊎◌, inl, inr, ⊎_elim, ℕ, Bool, true, false, List, [], ◌∷◌, ◌++◌, map, refl, sym, ap, ◌∙◌, subst, arith}
use Rattle.std.specs.Prelude.{◌&&◌, cond, codes, not, nat_le, nat_lt, Option, None, Some, filter, is_none, if◌then◌else◌}
use Rattle.std.specs.List.{AllByRecursion}
use Rattle.std.specs.Option.{option_map_or, option_to_list}
use Rattle.std.specs.Str.{str_to_ascii_lowercase}
use Rattle.std.proofs.lemmas.Bool.{false≢true}
use Rattle.std.proofs.lemmas.Grind.{common_steps}
use Rattle.sip_message.specs.TopVia.{top_branch}
use Rattle.sip_message.specs.declared.id.Id.{Id}
use Rattle.sip_message.specs.declared.key.Key.{Key}
use Rattle.sip_message.specs.declared.key.Key.TheVariants as key
use Rattle.sip_message.specs.declared.message.Message.{Message}
use Rattle.sip_transactions.specs.Ids.{IdsRise}
use Rattle.sip_transactions.specs.declared.input.Command.{Command}
use Rattle.sip_transactions.specs.declared.input.Command.TheVariants as order
use Rattle.sip_transactions.specs.declared.output.Up.{Up as AnUp}
use Rattle.sip_transactions.specs.declared.output.UpKind.{UpKind}
use Rattle.sip_transactions.specs.declared.output.UpKind.TheVariants as kind
use Rattle.sip_transactions.specs.declared.state.Role.TheVariants as role
use Rattle.sip_transactions.specs.Steps.Input.{is_same_method, role_of}
use Rattle.sip_transactions.proofs.RowFacts.{and-left, and-right}
use Rattle.sip_user.specs.declared.command.Respond.{Respond}
use Rattle.sip_user.specs.declared.command.UserCommand.{UserCommand}
use Rattle.sip_user.specs.declared.command.UserCommand.TheVariants as user
use Rattle.sip_user.specs.declared.item.CallOut.{CallOut}
use Rattle.sip_user.specs.declared.item.CallOut.TheVariants as out
use Rattle.sip_user.specs.declared.item.Item.{Item}
use Rattle.sip_user.specs.declared.item.Item.TheVariants.{Up, User}
use Rattle.sip_clients.specs.Abandon.{end_command}
use Rattle.sip_clients.proofs.ClientOuts.{Allows, response_told}
use Rattle.sip_clients.proofs.RuleResponses.{response_same}
use Rattle.sip_clients.specs.Client.{ClientTaken, Side}
use Rattle.sip_clients.specs.Rules.Ends.{request_is_lost, request_over}
use Rattle.sip_clients.specs.Outputs.{start_command}
use Rattle.sip_clients.specs.declared.client.Client.{Client}
use Rattle.sip_clients.specs.declared.event.Event.{Event}
use Rattle.sip_served.specs.declared.held_request.HeldRequest.{HeldRequest}
use Rattle.sip_served.specs.declared.held_request.Success.{Success}
use Rattle.sip_served.specs.declared.held_request.SuccessEnd.{SuccessEnd}
use Rattle.sip_served.specs.declared.provisionals.ReliableResponse.{ReliableResponse}
use Rattle.sip_served.proofs.ServedAnswers.{AllowsServed}
use Rattle.sip_calls.specs.declared.call.Call.{Call}
use Rattle.sip_calls.specs.declared.calls.Calls.{Calls}
use Rattle.sip_calls.specs.Call.{CallItem, Taken, call_refusal, call_step, call_tick, event_of, item_of_call, kept, new_call, received, used_command}
use Rattle.sip_calls.specs.HeldRequests.{requests_held}
use Rattle.sip_calls.specs.Sides.{CallTaken, side_of}
use Rattle.sip_calls.proofs.HeldRequests.{kept_requests, requests_of}
use Rattle.sip_calls.proofs.SameSteps.{same_step}
use Rattle.sip_agent_laws.specs.Calls.Commanded.{is_notice}
use Rattle.sip_agent_laws.specs.Repeats.Repeats.{is_due, is_provisional_due, provisionals_due, responses_to, success_due}
use Rattle.sip_agent_laws.proofs.agents.Lists.{Among, among_either, among_kept, by_found, each_of, flat_among, kept_among, mapped_among, by_if}
use Rattle.sip_agent_laws.proofs.agents.OpenLives.{is_server}
use Rattle.sip_agent_laws.proofs.agents.ServedFrom.{Goes, IsTaken, Serves, ack_serves, both_silent, ended_silent, no_command, notices_silent, request_serves, respond_serves, serves_same, tick_stays, ticked_from}
use Rattle.sip_agent_laws.proofs.agents.ServedHeld.{Holds, Says}
use Rattle.sip_agent_laws.proofs.agents.Commands.{orders}
use Rattle.sip_agent_laws.proofs.calls.EachItem.{Passes, command_passes, first_passes, item_passes}
use Rattle.sip_agent_laws.proofs.calls.ServerOuts.{Any, kind_passes, respond_passes}
use Rattle.sip_agent_laws.proofs.repeats.Repeats.{sent_again}
use Rattle.sip_held_dialogs.specs.Dialogs.{Dialogs, early_ended, is_early_of, ended_at, lives}
use Rattle.sip_held_dialogs.specs.declared.held_dialog.DialogReference.{DialogReference}
use Rattle.sip_clients.specs.Rules.Requests.{dialog_of_kind}
use Rattle.std.specs.Map.{values_of, lookup}
use Rattle.sip_held_dialogs.specs.Ids.{is_id}

-- the request that an input brings, by its id and its key
abbrev came_by : AnUp → UpKind → Option (Id × Key)
came_by up (kind.Request request reply_to) = Some (up.id, up.key)
came_by up its = None

abbrev pub came_with : Option CallItem → Option (Id × Key)
came_with None = None
came_with (Some (event, Up up)) = came_by up up.kind
came_with (Some (event, User c)) = None

-- ---- the client side

-- no server transaction is given up; and a response only goes out where this is so
abbrev Fits : Type 0 → CallOut → Type 0
Fits Answers (out.Notice notice) = Unit {0}
Fits Answers (out.Command id (order.Start key call_id message to)) = Unit {0}
Fits Answers (out.Command id (order.Answer key message)) = Answers
Fits Answers (out.Command id (order.Abandon key)) = is_server (role_of key) ≡ false
Fits Answers (out.Direct to bytes) = Unit {0}

abbrev IsOfClient : CallOut → Type 0
IsOfClient out = Fits ⊥ out

abbrev pub Spares : CallOut → Type 0
Spares out = Fits (Unit {0}) out

started_fits : (Answers : Type 0) (id : Id) (client : Client) → Fits Answers (start_command id client)
unfolding start_command
started_fits Answers id client = tt

allows : (Answers : Type 0) → Allows (Fits Answers)
allows Answers = record {
  ended = λ held. tt;
  refusal = λ call_id place why. tt;
  sent = λ ack. tt;
  started = started_fits Answers;
}

client_role : (branch method : List ℕ) → is_server (role_of (key.Client branch method)) ≡ false
client_role branch method = by (is_same_method method (codes "INVITE"))
  where
    by : (b : Bool) → is_server (cond b role.InviteClient role.Client) ≡ false
    by true = refl
    by false = refl

gives_up : (id : Id) (client : Client) → IsOfClient (end_command id client)
gives_up id client =
    client_role (str_to_ascii_lowercase (top_branch client.request)) client.request.cseq.method

-- a command other than a response
abbrev IsOther : UserCommand → Type 0
IsOther c = (respond : Respond) → c ≡ user.Respond respond → ⊥

command_outs : (calls : Calls) (state : Option Call) (event : Id) (c : UserCommand) (now : ℕ)
    → IsOther c → AllByRecursion IsOfClient (call_step calls state (Some (event, User c)) now).1
command_outs calls None event c now other =
    subst (λ (taken : Taken). AllByRecursion IsOfClient taken.1)
    (sym (same_step calls None (Some (event, User c)) now))
    (first_passes IsOfClient (allows ⊥) gives_up (new_call calls.local)
    (event_of calls event now) c)
command_outs calls (Some call) event c now other =
    subst (λ (taken : Taken). AllByRecursion IsOfClient taken.1)
    (sym (same_step calls (Some call) (Some (event, User c)) now))
    (command_passes IsOfClient (allows ⊥) gives_up call (event_of calls event now) c
    (λ respond is. absurd (other respond is)))

response_outs : (call : Call) (event : Event) (up : AnUp) (response : Message)
    → AllByRecursion IsOfClient (received call event up (kind.Response response)).1
response_outs call event up response =
    subst (λ (taken : ClientTaken). AllByRecursion IsOfClient taken.1)
    (sym (response_same event up.id up.call_id response (side_of call)))
    (response_told IsOfClient (allows ⊥) event up.id up.call_id response (side_of call)
    (λ name status is. tt))

no_answer : (outs : List CallOut) → AllByRecursion IsOfClient outs → (id : Id) (key : Key)
    (message : Message) → Among outs (out.Command id (order.Answer key message)) → ⊥
no_answer outs all id key message among =
    each_of IsOfClient outs (out.Command id (order.Answer key message)) all among

used_requests : (call : Call) (event : Event) (c : UserCommand) → IsOther c
    → requests_of (used_command call event c).0 ≡ requests_of call
used_requests call event (user.Respond respond) other = absurd (other respond refl)
used_requests call event _ other = refl

command_requests : (held : Bool) (call : Call) (event : Event) (c : UserCommand) → IsOther c
    → requests_of (item_of_call held call event (User c)).0 ≡ requests_of call
command_requests held call event c other =
    by_found (λ (taken : CallTaken). requests_of taken.0 ≡ requests_of call) _
    (call_refusal held c) (used_command call event c) (λ refusal refused. refl)
    (λ none. used_requests call event c other)

-- ---- an item

-- what is true of the requests of a call, and of what it gives, is true of it as it is held
abbrev ServesIn : List HeldRequest → Option (Id × Key) → ℕ → CallTaken → Type 0
ServesIn before came now taken = Serves before came now (requests_of taken.0) taken.1

module _ (before : List HeldRequest) (rise : IdsRise (map (λ held. held.id) before)) (now : ℕ)
  where
    abbrev ServesHeld : Option (Id × Key) → Taken → Type 0
    ServesHeld came taken = Serves before came now (requests_held taken.0) taken.1

    kept_serves : (came : Option (Id × Key)) (taken : CallTaken)
        → ServesIn before came now taken → ServesHeld came (kept taken)
    kept_serves came taken serves =
        subst (λ requests. Serves before came now requests taken.1) (sym (kept_requests taken.0))
        serves

same_serves : (call : Call) (now : ℕ) (taken : CallTaken)
    → requests_of taken.0 ≡ requests_of call
    → ((id : Id) (key : Key) (message : Message)
    → Among taken.1 (out.Command id (order.Answer key message)) → ⊥)
    → ServesIn (requests_of call) None now taken
same_serves call now taken same none =
    subst (λ requests. Serves (requests_of call) None now requests taken.1) (sym same)
    (serves_same now taken.1 (requests_of call) none)

-- the loss of a request of the call gives no commands
over_silent : (client : Client) (ends : Bool) (dialogs : Dialogs)
    → orders (request_over client ends dialogs).1 ≡ []
over_silent client ends dialogs =
    let early = early_ended client.id dialogs in
    both_silent early.1 _
    (notices_silent (filter (is_early_of client.id) (values_of dialogs)))
    (by_found (λ (ended : Dialogs × List CallOut). orders ended.1 ≡ [])
    (λ (reference : DialogReference). if ends && lives early.0 reference
    then ended_at reference.name early.0 else (early.0, []))
    (dialog_of_kind client.kind) (early.0, [])
    (λ reference is. by_if (λ (ended : Dialogs × List CallOut). orders ended.1 ≡ [])
    (ends && lives early.0 reference) (ended_at reference.name early.0) (early.0, [])
    (λ over. ended_silent reference.name early.0) (λ lives. refl))
    (λ none. refl))

pub lost_silent : (id : Id) (timed_out : Bool) (side : Side)
    → orders (request_is_lost id timed_out side).1 ≡ []
unfolding request_is_lost
lost_silent id timed_out side =
    by_found (λ (ended : Dialogs × List CallOut). orders ended.1 ≡ [])
    (λ client. request_over client timed_out side.dialogs) (lookup (is_id id) side.clients)
    (side.dialogs, []) (λ client is. over_silent client timed_out side.dialogs)
    (λ none. refl)

lost_serves : (call : Call) (event : Event) (up : AnUp) (timed_out : Bool) (notice : CallOut)
    (id : Id) (c : Command) → (notice ≡ out.Command id c → ⊥)
    → Among (notice ∷ (request_is_lost up.id timed_out (side_of call)).1) (out.Command id c) → ⊥
lost_serves call event up timed_out notice id c other among =
    ⊎_elim other
    (λ later. no_command (request_is_lost up.id timed_out (side_of call)).1 id c
    (lost_silent up.id timed_out (side_of call)) later) among

received_serves : (call : Call) (event : Event) (up : AnUp) (its : UpKind)
    → IdsRise (map (λ held. held.id) (requests_of call))
    → ServesIn (requests_of call) (came_by up its) event.moment (received call event up its)
received_serves call event up (kind.Request request reply_to) rise =
    request_serves call.served _ event.moment rise up.call_id
received_serves call event up (kind.Ack ack) rise =
    ack_serves call.served up.call_id ack event.moment
received_serves call event up (kind.Response response) rise =
    same_serves call event.moment (received call event up (kind.Response response)) refl
    (no_answer (received call event up (kind.Response response)).1
    (response_outs call event up response))
received_serves call event up kind.Timeout rise =
    same_serves call event.moment (received call event up kind.Timeout) refl
    (λ id key message among. lost_serves call event up true _ id (order.Answer key message)
    (λ same. absurd cc) among)
received_serves call event up kind.Failed rise =
    same_serves call event.moment (received call event up kind.Failed) refl
    (λ id key message among. lost_serves call event up false _ id (order.Answer key message)
    (λ same. absurd cc) among)

other_serves : (calls : Calls) (state : Option Call) (event : Id) (c : UserCommand) (now : ℕ)
    → IsOther c → Serves (requests_held state) None now
    (requests_held (call_step calls state (Some (event, User c)) now).0)
    (call_step calls state (Some (event, User c)) now).1
other_serves calls state event c now other =
    subst (λ requests. Serves (requests_held state) None now requests
    (call_step calls state (Some (event, User c)) now).1) (sym (same state))
    (serves_same now (call_step calls state (Some (event, User c)) now).1 (requests_held state)
    (no_answer (call_step calls state (Some (event, User c)) now).1
    (command_outs calls state event c now other)))
  where
    same : (state : Option Call) → requests_held (call_step calls state (Some (event, User c)) now).0
        ≡ requests_held state
    same None =
        kept_requests (item_of_call false (new_call calls.local) (event_of calls event now)
        (User c)).0
        ∙ command_requests false (new_call calls.local) (event_of calls event now) c other
    same (Some call) =
        kept_requests (item_of_call true call (event_of calls event now) (User c)).0
        ∙ command_requests true call (event_of calls event now) c other

pub item_serves : (calls : Calls) (state : Option Call) (event : Id) (item : Item) (now : ℕ)
    → IdsRise (map (λ held. held.id) (requests_held state))
    → Serves (requests_held state) (came_with (Some (event, item))) now
    (requests_held (call_step calls state (Some (event, item)) now).0)
    (call_step calls state (Some (event, item)) now).1
item_serves calls None event (Up up) now rise =
    kept_serves [] rise now (came_by up up.kind)
    (received (new_call calls.local) (event_of calls event now) up up.kind)
    (received_serves (new_call calls.local) (event_of calls event now) up up.kind rise)
item_serves calls (Some call) event (Up up) now rise =
    kept_serves (requests_of call) rise now (came_by up up.kind)
    (received call (event_of calls event now) up up.kind)
    (received_serves call (event_of calls event now) up up.kind rise)
item_serves calls (Some call) event (User (user.Respond respond)) now rise =
    kept_serves (requests_of call) rise now None
    (item_of_call true call (event_of calls event now) (User (user.Respond respond)))
    (respond_serves call.served event respond now rise)
item_serves calls None event (User (user.Respond respond)) now rise =
    kept_serves [] rise now None
    (item_of_call false (new_call calls.local) (event_of calls event now)
    (User (user.Respond respond)))
    (serves_same now _ []
    (λ id key message among. ⊎_elim (λ same. absurd cc) (λ none. absurd none) among))
item_serves calls state event (User c) now rise =
    other_serves calls state event c now (λ respond same. absurd cc)

-- ---- no server transaction is given up

served_fits : AllowsServed Spares Any
served_fits = record { told = λ one other. tt; answer = λ id key {message} here. tt }

passes : Passes Spares
passes = record {
  others = record {
    allows = allows (Unit {0});
    gives_up = gives_up;
    kinds = kind_passes Spares served_fits;
    responds = respond_passes Spares served_fits;
  };
  timeout = λ call_id id. tt;
  failed = λ call_id id. tt;
}

pub item_spares : (calls : Calls) (state : Option Call) (event : Id) (item : Item) (now : ℕ)
    → AllByRecursion Spares (call_step calls state (Some (event, item)) now).1
item_spares calls state event item now =
    subst (λ (taken : Taken). AllByRecursion Spares taken.1)
    (sym (same_step calls state (Some (event, item)) now))
    (item_passes Spares passes calls state event item now (λ up response came is name status has. tt))

-- ---- a tick

pub tick_from : (calls : Calls) (state : Option Call) (now : ℕ) (outs : List CallOut)
    (held : HeldRequest) → Among (requests_held (call_step calls state None now).0) held
    → (old : HeldRequest) × Among (requests_held state) old × Goes now outs old held
    × (held.removal ≡ old.removal)
    × (option_map_or (λ moment. nat_lt now moment) held.removal true ≡ true)
tick_from calls None now outs held among = absurd among
tick_from calls (Some call) now outs held among =
    ticked_from call.served now outs held
    (subst (λ requests. Among requests held) (kept_requests (call_tick call now).0) among)

pub tick_served : (k : Key) (id : Id) (calls : Calls) (call : Option Call) (now : ℕ)
    → Holds k id (requests_held call)
    → Holds k id (requests_held (call_step calls call None now).0)
tick_served k id calls None now ours = absurd ours.1
tick_served k id calls (Some call) now ours =
    subst (Holds k id) (sym (kept_requests (call_tick call now).0))
    (tick_stays k id call.served now ours)

-- a request without a final response stays so, or one goes out
pub step_stays : (k : Key) (id : Id) (calls : Calls) (state : Option Call) (input : Option CallItem)
    (now : ℕ) → IdsRise (map (λ held. held.id) (requests_held state))
    → Holds k id (requests_held state)
    → Holds k id (requests_held (call_step calls state input now).0)
    ⊎ Says k (call_step calls state input now).1
step_stays k id calls state None now rise ours = inl (tick_served k id calls state now ours)
step_stays k id calls state (Some (event, item)) now rise ours =
    (item_serves calls state event item now rise).keeps k id ours

-- so does one that comes
pub step_takes : (k : Key) (id : Id) (calls : Calls) (state : Option Call) (input : Option CallItem)
    (now : ℕ) → IdsRise (map (λ held. held.id) (requests_held state))
    → came_with input ≡ Some (id, k)
    → Holds k id (requests_held (call_step calls state input now).0)
    ⊎ Says k (call_step calls state input now).1
step_takes k id calls state None now rise came = absurd cc
step_takes k id calls state (Some (event, item)) now rise came =
    subst (λ came. IsTaken came (requests_held (call_step calls state (Some (event, item)) now).0)
    (call_step calls state (Some (event, item)) now).1) came
    (item_serves calls state event item now rise).takes

-- a response that a tick sends again: a provisional one, or a 2xx before its end
abbrev pub IsSentAgain : ℕ → HeldRequest → Message → Type 0
IsSentAgain now held message =
    ((one : ReliableResponse) × Among held.provisionals one × (one.response ≡ message))
    ⊎ ((success : Success) × (held.success ≡ Some success) × (success.over ≡ None)
    × (nat_le success.end now ≡ false))

listed : (o : Option Success) (success : Success) → Among (option_to_list o) success
    → o ≡ Some success
listed None success among = absurd among
listed (Some s) success among =
    ⊎_elim (λ same. ap (λ x. Some x) same) (λ none. absurd none) among

still_due : (now : ℕ) (success : Success) → is_due now success ≡ true
    → (success.over ≡ None) × (nat_le success.end now ≡ false)
still_due now success due =
    let first = and-left (is_none success.over && nat_lt now success.end) _ due in (
      not_over success.over (and-left (is_none success.over) _ first),
      before success.end now (and-right (is_none success.over) _ first),
    )
  where
    not_over : (o : Option SuccessEnd) → is_none o ≡ true → o ≡ None
    not_over None is = refl
    not_over (Some why) is = absurd (false≢true is)

    before : (end now : ℕ) → nat_lt now end ≡ true → nat_le end now ≡ false
    before end now early = grind (arith, common_steps, early)

message_sent : (now : ℕ) (held : HeldRequest) (message : Message)
    → Among (success_due now held ++ provisionals_due now held) message
    → IsSentAgain now held message
message_sent now held message among =
    ⊎_elim
    (λ first.
    let from = mapped_among (λ (s : Success). s.response)
    (filter (is_due now) (option_to_list held.success)) message first in
    let kept = kept_among (is_due now) (option_to_list held.success) from.0 from.1 in
    let due = still_due now from.0 kept.1 in
    inr (from.0, listed held.success from.0 kept.0, due.0, due.1))
    (λ second.
    let from = mapped_among (λ (one : ReliableResponse). one.response)
    (filter (is_provisional_due now held) held.provisionals) message second in
    let kept = kept_among (is_provisional_due now held) held.provisionals from.0 from.1 in
    inl (from.0, kept.0, from.2))
    (among_either (success_due now held) (provisionals_due now held) message among)

-- all that a tick asks of transactions
pub tick_gives : (calls : Calls) (state : Option Call) (now : ℕ) (id : Id) (c : Command)
    → Among (call_step calls state None now).1 (out.Command id c)
    → (held : HeldRequest) × Among (requests_held state) held × (message : Message)
    × (c ≡ order.Answer held.key message) × IsSentAgain now held message
tick_gives calls None now id c among = absurd among
tick_gives calls (Some call) now id c among =
    let all = (call.served).requests in
    let due : HeldRequest → List CallOut = λ held.
    responses_to held (success_due now held ++ provisionals_due now held) in
    let from = flat_among due all (out.Command id c)
    (subst (λ outs. Among outs (out.Command id c)) (sent_again calls call now)
    (among_kept (λ o. not (is_notice o)) (call_step calls (Some call) None now).1
    (out.Command id c) among refl)) in
    let held = from.0 in
    let sent = mapped_among (λ (response : Message).
    out.Command held.id (order.Answer held.key response))
    (success_due now held ++ provisionals_due now held) (out.Command id c) from.2 in (
      held,
      from.1,
      sent.0,
      asked held.id id (order.Answer held.key sent.0) c sent.2,
      message_sent now held sent.0 sent.1,
    )
  where
    asked : (own id : Id) (mine c : Command) → out.Command own mine ≡ out.Command id c → c ≡ mine
    asked own id mine c same = cc
