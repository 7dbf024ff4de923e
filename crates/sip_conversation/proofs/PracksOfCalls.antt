-- A call gives only reliable responses that its user gave, and one with an RSeq above 1 only after
-- a PRACK came to it whose RAck has RSeq 1 and the CSeq of that answer.
use Rattle.std.proofs.Common.{◌≡◌, ⊎_elim, ℕ, Bool, true, false, cond, List, [], ◌∷◌, ◌++◌, map, refl, sym, ap, ◌∙◌, subst, append_assoc, arith}
use Rattle.std.specs.Prelude.{Contains, Option, None, Some, filter_map}
use Rattle.std.specs.List.{AllByRecursion}
use Rattle.std.specs.List.Sorted.{IsStrictlySortedBy}
use Rattle.std.specs.declared.cmp.Ordering.TheVariants.{Less}
use Rattle.std.proofs.lemmas.Bool.{false≢true}
use Rattle.std.proofs.lemmas.Grind.{common_steps}
use Rattle.std.proofs.lemmas.List.Elements.{filter_map-append}
use Rattle.sip_message.specs.declared.id.Id.{Id}
use Rattle.sip_message.specs.declared.message.Message.{Message}
use Rattle.keyed_machine.specs.Machine.{Timed, outputs_from}
use Rattle.sip_transactions.specs.Ids.{IdsRise, id_cmp}
use Rattle.sip_transactions.specs.declared.output.UpKind.{UpKind}
use Rattle.sip_transactions.specs.declared.output.UpKind.TheVariants as kind
use Rattle.sip_transactions.specs.declared.output.Up.{Up as AnUp}
use Rattle.sip_held_dialogs.specs.Ids.{is_id}
use Rattle.sip_user.specs.declared.command.UserCommand.{UserCommand}
use Rattle.sip_user.specs.declared.command.UserCommand.TheVariants as user
use Rattle.sip_user.specs.declared.item.CallOut.{CallOut}
use Rattle.sip_user.specs.declared.item.Item.TheVariants.{Up, User}
use Rattle.sip_held_dialogs.proofs.Each.{both}
use Rattle.sip_served.specs.declared.arrival.Arrival.{Arrival}
use Rattle.sip_served.specs.declared.held_request.HeldRequest.{HeldRequest}
use Rattle.sip_served.specs.Rules.Ticks.{server_tick}
use Rattle.sip_clients.specs.Client.{ClientTaken, Clients}
use Rattle.sip_clients.specs.Rules.Ends.{client_tick, request_is_lost}
use Rattle.sip_clients.specs.Rules.Requests.{ack_command, cancel_command, prack_command, request_command}
use Rattle.sip_clients.specs.Rules.Responses.{response_received}
use Rattle.sip_clients.specs.Outputs.{start_command}
use Rattle.sip_clients.specs.declared.client.Client.{Client}
use Rattle.sip_clients.specs.Name.{name_of}
use Rattle.sip_clients.specs.declared.event.Event.{Event}
use Rattle.sip_clients.proofs.ClientOuts.{Allows, abandon_dialog_told, abandon_request_told, ack_command_told, cancel_told, clients_tick, command_told, invite_told, lost_told, plain_told, prack_command_told, response_told}
use Rattle.sip_clients.proofs.RuleEnds.{lost_same, tick_same}
use Rattle.sip_clients.proofs.RuleRequests.{ack_same, cancel_same, invite_same, plain_same, prack_same, request_same}
use Rattle.sip_clients.proofs.RuleResponses.{response_same}
use Rattle.sip_calls.specs.declared.call.Call.{Call}
use Rattle.sip_calls.specs.declared.calls.Calls.{Calls}
use Rattle.sip_calls.specs.Call.{CallItem, CallTaken, call_machine, call_step, call_tick, event_of, item_of_call, kept, made_tag, new_call, received, side_of}
use Rattle.sip_calls.specs.HeldById.{RequestsRise}
use Rattle.sip_calls.specs.HeldRequests.{request_brought, requests_held}
use Rattle.sip_calls.specs.Histories.{call_from}
use Rattle.sip_calls.specs.Sides.{by_server, holds_any}
use Rattle.sip_calls.proofs.HeldById.{held_by_id}
use Rattle.sip_conversation.proofs.Among.{first_or_later, none_among}
use Rattle.sip_conversation.proofs.PracksCame.{Holds, OutGiven, OutsGave, OutsGiven, served_tick}
use Rattle.sip_conversation.proofs.PracksServed.{Apart, KindBrought, kind_done, respond_done}
use Rattle.sip_clients.proofs.Abandons as given_up
use Rattle.sip_clients.specs.Rules.Abandon.{abandon_dialog_command, abandon_request_command}

-- ---- ids that rise

less_apart : (x y : Id) → id_cmp x y ≡ Less → is_id x y ≡ false
less_apart x y less = grind (arith, common_steps, less)

less_other : (x y : Id) → id_cmp x y ≡ Less → is_id y x ≡ false
less_other x y less = grind (arith, common_steps, less)

later_less : (id : Id) (requests : List HeldRequest)
    → AllByRecursion (λ other. id_cmp id other ≡ Less) (map (λ held. held.id) requests)
    → (one : HeldRequest) → Contains requests one → id_cmp id one.id ≡ Less
later_less id [] all one among = absurd (none_among one among)
later_less id (held ∷ requests) all one among =
    ⊎_elim (λ same. subst (λ (h : HeldRequest). id_cmp id h.id ≡ Less) same all.0)
    (λ later. later_less id requests all.1 one later) (first_or_later held requests one among)

apart_so : (requests : List HeldRequest) → IdsRise (map (λ held. held.id) requests)
    → Apart requests
unfolding IsStrictlySortedBy
apart_so [] rise one two first second same = absurd (none_among one first)
apart_so (held ∷ requests) rise one two first second same =
    ⊎_elim
    (λ is. ⊎_elim (λ too. sym is ∙ too)
    (λ later. absurd (false≢true (sym (less_apart held.id two.id
    (later_less held.id requests rise.0 two later))
    ∙ (ap (λ (h : HeldRequest). is_id h.id two.id) is ∙ same))))
    (first_or_later held requests two second))
    (λ later. ⊎_elim
    (λ is. absurd (false≢true (sym (less_other held.id one.id
    (later_less held.id requests rise.0 one later))
    ∙ (ap (λ (h : HeldRequest). is_id one.id h.id) is ∙ same))))
    (λ too. apart_so requests rise.1 one two later too same)
    (first_or_later held requests two second))
    (first_or_later held requests one first)

all_front : (P : Id → Type 0) (xs ys : List Id) → AllByRecursion P (xs ++ ys)
    → AllByRecursion P xs
all_front P [] ys all = tt
all_front P (x ∷ xs) ys all = (all.0, all_front P xs ys all.1)

rise_front : (xs ys : List Id) → IdsRise (xs ++ ys) → IdsRise xs
unfolding IsStrictlySortedBy
rise_front [] ys rise = tt
rise_front (x ∷ xs) ys rise =
    (all_front (λ y. id_cmp x y ≡ Less) xs ys rise.0, rise_front xs ys rise.1)

fronts_apart : (calls : Calls) (front rest : List (Timed CallItem))
    → RequestsRise (front ++ rest) → Apart (requests_held (call_from calls None front))
fronts_apart calls front rest rise =
    apart_so (requests_held (call_from calls None front))
    (held_by_id calls front
    (rise_front (filter_map (λ timed. request_brought timed.input) front)
    (filter_map (λ timed. request_brought timed.input) rest)
    (subst IdsRise (filter_map-append (λ (timed : Timed CallItem). request_brought timed.input)
    front rest) rise)))

pub from_more : (calls : Calls) (call : Option Call) (front : List (Timed CallItem))
    (timed : Timed CallItem)
    → call_from calls call (front ++ timed ∷ [])
    ≡ (call_step calls (call_from calls call front) timed.input timed.moment).0
from_more calls call [] timed = refl
from_more calls call (first ∷ front) timed =
    from_more calls (call_step calls call first.input first.moment).0 front timed

-- ---- one input

module _ (Brought : Arrival → Type 0) (Gave : Id → ℕ → Message → Type 0) where
  abbrev Outs : List CallOut → Type 0
  Outs outs = OutsGiven Brought Gave outs

  abbrev HoldsCall : Call → Type 0
  HoldsCall call = AllByRecursion (Holds Brought Gave) (call.served).requests

  abbrev HoldsHeld : Option Call → Type 0
  HoldsHeld held = AllByRecursion (Holds Brought Gave) (requests_held held)

  abbrev Done : CallTaken → Type 0
  Done taken = HoldsCall taken.0 × Outs taken.1

  started_given : (id : Id) (client : Client) → OutGiven Brought Gave (start_command id client)
  unfolding start_command
  started_given id client = tt

  allows : Allows (OutGiven Brought Gave)
  allows = record {
    ended = λ held. tt;
    refusal = λ call_id place why. tt;
    sent = λ ack. tt;
    started = started_given;
  }

  -- a request that comes up is one of those, and the user gives what a command to respond sends
  abbrev pub CommandFits : UserCommand → List CallOut → Type 0
  CommandFits (user.Respond respond) outs = OutsGave Brought Gave outs
  CommandFits _ outs = Unit {0}

  abbrev pub InputFits : Calls → Option CallItem → List CallOut → Type 0
  InputFits calls None outs = Unit {0}
  InputFits calls (Some (event, Up up)) outs =
      KindBrought Brought Gave (name_of calls.seed event 0) up up.kind
  InputFits calls (Some (event, User command)) outs = CommandFits command outs

  by_clients_so : (before after : ClientTaken) → before ≡ after → Outs after.1 → Outs before.1
  by_clients_so before after same given =
      subst (λ (taken : ClientTaken). Outs taken.1) (sym same) given

  lost_given : (call : Call) (id : Id) (timed_out : Bool)
      → Outs (request_is_lost id timed_out (side_of call)).1
  lost_given call id timed_out =
      by_clients_so (request_is_lost id timed_out (side_of call)) _
      (lost_same id timed_out (side_of call))
      (lost_told (OutGiven Brought Gave) allows id timed_out (side_of call))

  up_given : (call : Call) (event : Event) (up : AnUp) (k : UpKind)
      → KindBrought Brought Gave (made_tag event) up k
      → Apart (call.served).requests → HoldsCall call → Done (received call event up k)
  up_given call event up (kind.Request request reply_to) brought apart holds =
      let so = kind_done Brought Gave call.served (made_tag event) up
      (kind.Request request reply_to)
      event.moment brought apart holds in
      (so.requests, so.outs)
  up_given call event up (kind.Ack ack) brought apart holds =
      let so = kind_done Brought Gave call.served (made_tag event) up (kind.Ack ack) event.moment
      brought apart holds in
      (so.requests, so.outs)
  up_given call event up (kind.Response response) brought apart holds = (
    holds,
    by_clients_so (response_received event up.id up.call_id response (side_of call)) _
        (response_same event up.id up.call_id response (side_of call))
        (response_told (OutGiven Brought Gave) allows event up.id up.call_id response (side_of call)
        (λ name status is. tt)),
  )
  up_given call event up kind.Timeout brought apart holds =
      (holds, (tt, lost_given call up.id true))
  up_given call event up kind.Failed brought apart holds =
      (holds, (tt, lost_given call up.id false))

  first_given : (call : Call) (event : Event) (command : UserCommand) → HoldsCall call
      → Done (item_of_call false call event (User command))
  first_given call event (user.Invite invite) holds = (
    holds,
    subst (λ (taken : Clients × List CallOut). Outs taken.1)
        (sym (invite_same event invite call.clients))
        (invite_told (OutGiven Brought Gave) allows event invite call.clients),
  )
  first_given call event (user.Plain plain) holds = (
    holds,
    subst (λ (taken : Clients × List CallOut). Outs taken.1)
        (sym (plain_same event plain call.clients))
        (plain_told (OutGiven Brought Gave) allows event plain call.clients),
  )
  first_given call event (user.Request request) holds = (holds, (tt, tt))
  first_given call event (user.Respond respond) holds = (holds, (tt, tt))
  first_given call event (user.Ack ack) holds = (holds, (tt, tt))
  first_given call event (user.Prack prack) holds = (holds, (tt, tt))
  first_given call event (user.Cancel cancel) holds = (holds, (tt, tt))
  first_given call event (user.AbandonRequest abandon) holds = (holds, (tt, tt))
  first_given call event (user.AbandonDialog abandon) holds = (holds, (tt, tt))

  command_given : (call : Call) (event : Event) (command : UserCommand)
      → CommandFits command (item_of_call true call event (User command)).1 → HoldsCall call
      → Done (item_of_call true call event (User command))
  command_given call event (user.Invite invite) fits holds = (holds, (tt, tt))
  command_given call event (user.Plain plain) fits holds = (holds, (tt, tt))
  command_given call event (user.Request request) fits holds = (
    holds,
    by_clients_so (request_command event request (side_of call)) _
        (request_same event request (side_of call))
        (command_told (OutGiven Brought Gave) allows event request (side_of call)),
  )
  command_given call event (user.Respond respond) fits holds =
      let so = respond_done Brought Gave call.served event.id respond event.moment holds fits in
      (so.requests, so.outs)
  command_given call event (user.Ack ack) fits holds = (
    holds,
    by_clients_so (ack_command event ack (side_of call)) _ (ack_same event ack (side_of call))
        (ack_command_told (OutGiven Brought Gave) allows event ack (side_of call)),
  )
  command_given call event (user.Prack prack) fits holds = (
    holds,
    by_clients_so (prack_command event prack (side_of call)) _
        (prack_same event prack (side_of call))
        (prack_command_told (OutGiven Brought Gave) allows event prack (side_of call)),
  )
  command_given call event (user.Cancel cancel) fits holds = (
    holds,
    by_clients_so (cancel_command event cancel (side_of call)) _
        (cancel_same event cancel (side_of call))
        (cancel_told (OutGiven Brought Gave) allows event cancel (side_of call)),
  )
  command_given call event (user.AbandonRequest abandon) fits holds = (
    holds,
    by_clients_so (abandon_request_command event abandon (side_of call)) _
        (given_up.request_same event abandon (side_of call))
        (abandon_request_told (OutGiven Brought Gave) allows event abandon (side_of call)
        (λ client. tt)),
  )
  command_given call event (user.AbandonDialog abandon) fits holds = (
    holds,
    by_clients_so (abandon_dialog_command event abandon (side_of call)) _
        (given_up.dialog_same event abandon (side_of call))
        (abandon_dialog_told (OutGiven Brought Gave) allows event abandon (side_of call)),
  )

  tick_given : (call : Call) (now : ℕ) → HoldsCall call → Done (call_tick call now)
  tick_given call now holds =
      let so = served_tick Brought Gave call.served now holds in
      let first = by_server call (server_tick call.served now) in
      let second = client_tick (side_of first.0) now in (
        so.requests,
        both (OutGiven Brought Gave) first.1 second.1 so.outs
            (by_clients_so second _ (tick_same (side_of first.0) now)
            (clients_tick (OutGiven Brought Gave) allows (side_of first.0) now)),
      )

  kept_by : (b : Bool) (call : Call) → HoldsCall call → HoldsHeld (cond b (Some call) None)
  kept_by true call holds = holds
  kept_by false call holds = tt

  kept_given : (taken : CallTaken) → Done taken
      → HoldsHeld (kept taken).0 × Outs (kept taken).1
  kept_given taken done = (kept_by (holds_any taken.0) taken.0 done.0, done.1)

  step_given : (calls : Calls) (state : Option Call) (input : Option CallItem) (now : ℕ)
      → InputFits calls input (call_step calls state input now).1 → Apart (requests_held state)
      → HoldsHeld state
      → HoldsHeld (call_step calls state input now).0 × Outs (call_step calls state input now).1
  step_given calls None None now fits apart holds = (tt, tt)
  step_given calls (Some call) None now fits apart holds =
      kept_given (call_tick call now) (tick_given call now holds)
  step_given calls None (Some (id, Up up)) now fits apart holds =
      kept_given
      (item_of_call false (new_call calls.local) (event_of calls id now) (Up up))
      (up_given (new_call calls.local) (event_of calls id now) up up.kind fits apart tt)
  step_given calls None (Some (id, User command)) now fits apart holds =
      kept_given
      (item_of_call false (new_call calls.local) (event_of calls id now) (User command))
      (first_given (new_call calls.local) (event_of calls id now) command tt)
  step_given calls (Some call) (Some (id, Up up)) now fits apart holds =
      kept_given (item_of_call true call (event_of calls id now) (Up up))
      (up_given call (event_of calls id now) up up.kind fits apart holds)
  step_given calls (Some call) (Some (id, User command)) now fits apart holds =
      kept_given (item_of_call true call (event_of calls id now) (User command))
      (command_given call (event_of calls id now) command fits holds)

  -- ---- all inputs

  -- what comes after some inputs fits, and no two requests that are held then have an id
  abbrev FitsAfter : Calls → List (Timed CallItem) → Timed CallItem → Type 0
  FitsAfter calls before timed =
      let call = call_from calls None before in
      Apart (requests_held call)
      × InputFits calls timed.input (call_step calls call timed.input timed.moment).1

  from_given : (calls : Calls) (key : List ℕ) (front rest : List (Timed CallItem))
      → ((before after : List (Timed CallItem)) (timed : Timed CallItem)
      → front ++ rest ≡ before ++ timed ∷ after → FitsAfter calls before timed)
      → HoldsHeld (call_from calls None front)
      → Outs (outputs_from (call_machine calls) key (call_from calls None front) rest)
  from_given calls key front [] fit holds = tt
  from_given calls key front (timed ∷ rest) fit holds =
      let state = call_from calls None front in
      let step = call_step calls state timed.input timed.moment in
      let more = from_more calls None front timed in
      let its = fit front rest timed refl in
      let so = step_given calls state timed.input timed.moment its.1 its.0 holds in
      both (OutGiven Brought Gave) step.1 (outputs_from (call_machine calls) key step.0 rest) so.1
      (subst (λ s. Outs (outputs_from (call_machine calls) key s rest)) more
      (from_given calls key (front ++ timed ∷ []) rest
      (λ before after one same. fit before after one
      (sym (append_assoc front (timed ∷ []) rest) ∙ same))
      (subst HoldsHeld (sym more) so.0)))

  pub all_given : (calls : Calls) (key : List ℕ) (inputs : List (Timed CallItem))
      → RequestsRise inputs
      → ((before after : List (Timed CallItem)) (timed : Timed CallItem)
      → inputs ≡ before ++ timed ∷ after → InputFits calls timed.input
      (call_step calls (call_from calls None before) timed.input timed.moment).1)
      → Outs (outputs_from (call_machine calls) key None inputs)
  all_given calls key inputs rise fit =
      from_given calls key [] inputs
      (λ before after timed same. (
        fronts_apart calls before (timed ∷ after) (subst RequestsRise same rise),
        fit before after timed same,
      )) tt
