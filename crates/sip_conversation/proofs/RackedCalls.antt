-- Each request with a RAck that a call starts is a PRACK for which a response in its dialog asks.
-- The user is told of that response at one of the call's inputs.
use Rattle.std.proofs.Common.{◌≡◌, ℕ, Bool, true, false, List, [], ◌∷◌, ◌++◌, refl, sym, ap, ◌∙◌, subst, append_assoc}
use Rattle.std.specs.Prelude.{Contains, Option, None, Some, codes, filter_map, if◌then◌else◌}
use Rattle.std.specs.List.{AllByRecursion, IsDistinct, list_any}
use Rattle.std.specs.Option.{option_map}
use Rattle.std.proofs.lemmas.List.Elements.{filter_map-append}
use Rattle.sip_message.specs.declared.id.Id.{Id}
use Rattle.sip_message.specs.declared.message.Message.{Message}
use Rattle.sip_message.specs.declared.rack.RAck.{RAck}
use Rattle.keyed_machine.specs.Machine.{Timed, outputs_from}
use Rattle.sip_transactions.specs.declared.output.UpKind.{UpKind}
use Rattle.sip_transactions.specs.declared.output.UpKind.TheVariants as kind
use Rattle.sip_transactions.specs.declared.output.Up.{Up as AnUp}
use Rattle.sip_held_dialogs.specs.Dialogs.{dialog_at}
use Rattle.sip_held_dialogs.specs.Ids.{is_id}
use Rattle.sip_held_dialogs.specs.Requests.{is_success}
use Rattle.sip_held_dialogs.specs.Sent.{name_of_dialog}
use Rattle.sip_user.specs.declared.command.UserCommand.{UserCommand}
use Rattle.sip_user.specs.declared.command.UserCommand.TheVariants as user
use Rattle.sip_held_dialogs.specs.declared.held_dialog.DialogId.{DialogId}
use Rattle.sip_held_dialogs.specs.declared.held_dialog.HeldDialog.{HeldDialog}
use Rattle.sip_user.specs.declared.item.CallOut.{CallOut}
use Rattle.sip_user.specs.declared.item.Item.TheVariants.{Up, User}
use Rattle.sip_held_dialogs.specs.declared.pending_request.PendingRequest.{PendingRequest}
use Rattle.sip_held_dialogs.specs.declared.pending_request.PendingRequest.TheVariants.{Ack, Prack}
use Rattle.sip_held_dialogs.proofs.Each.{both}
use Rattle.sip_held_dialogs.proofs.Starts.{ended_starts, starts}
use Rattle.sip_served.proofs.ArrivalRules.{kind_same}
use Rattle.sip_served.proofs.NoStarts.{kind_starts, respond_starts}
use Rattle.sip_served.proofs.ResponseRules.{respond_same}
use Rattle.sip_served.specs.State.{ServedTaken}
use Rattle.sip_clients.specs.Client.{client_at}
use Rattle.sip_clients.specs.Clients.{reply_name, status_of}
use Rattle.sip_clients.specs.Owing.{asked_for}
use Rattle.sip_clients.specs.Provisionals.{is_response, provisional_number}
use Rattle.sip_clients.specs.declared.client.Client.{Client}
use Rattle.sip_clients.proofs.DialogSends.{AreNamed}
use Rattle.sip_calls.specs.Call.{CallItem, CallTaken, call_machine, call_step, event_of, item_of_call, made_tag, new_call, received, side_of}
use Rattle.sip_calls.specs.Histories.{call_from}
use Rattle.sip_calls.specs.Provisionals.{EventsDiffer, event_in, side_held}
use Rattle.sip_calls.specs.declared.call.Call.{Call}
use Rattle.sip_calls.specs.declared.calls.Calls.{Calls}
use Rattle.sip_calls.proofs.CallStarts.{tick_silent}
use Rattle.sip_calls.proofs.Histories.{has_its_name}
use Rattle.sip_calls.proofs.Owing.{owes_as_told}
use Rattle.sip_conversation.proofs.HeardReplies.{WasHeard}
use Rattle.sip_conversation.proofs.OwedTold.{WasAskedFor, owed_was_asked}
use Rattle.sip_conversation.proofs.PracksOfCalls.{from_more}
use Rattle.sip_conversation.proofs.PracksServed.{same_name}
use Rattle.sip_conversation.proofs.RackedSteps.{Hears, OutRacked, Pays, Say, ack_racked, cancel_command_racked, invite_racked, lost_racked, no_requests, plain_racked, prack_command_racked, received_racked, request_command_racked}
use Rattle.sip_conversation.proofs.GivenUp.{dialog_given_up, named, request_given_up}

-- ---- the first of different ids differ too

all_before : (P : Id → Type 0) (xs ys : List Id) → AllByRecursion P (xs ++ ys)
    → AllByRecursion P xs
all_before P [] ys all = tt
all_before P (x ∷ xs) ys all = (all.0, all_before P xs ys all.1)

distinct_before : (xs ys : List Id) → IsDistinct is_id (xs ++ ys) → IsDistinct is_id xs
unfolding IsDistinct
distinct_before [] ys apart = tt
distinct_before (x ∷ xs) ys apart =
    (all_before (λ y. is_id x y ≡ false) xs ys apart.0, distinct_before xs ys apart.1)

pub front_differ : (front rest : List (Timed CallItem)) → EventsDiffer (front ++ rest)
    → EventsDiffer front
front_differ front rest differ =
    distinct_before (filter_map (λ timed. event_in timed.input) front)
    (filter_map (λ timed. event_in timed.input) rest)
    (subst (IsDistinct is_id)
    (filter_map-append (λ (timed : Timed CallItem). event_in timed.input) front rest) differ)

-- each held dialog has the name of its tags
pub named_so : (calls : Calls) (front : List (Timed CallItem)) → EventsDiffer front
    → (call : Call) → call_from calls None front ≡ Some call → AreNamed (side_of call).dialogs
named_so calls front differ call held name dialog at =
    has_its_name calls front differ name dialog
    (ap (λ o. dialog_at name (side_held o).dialogs) held ∙ at)

-- ---- what a response asks for

-- it is a reliable provisional response with this RSeq
abbrev pub HasRseq : ℕ → ℕ → Message → Type 0
HasRseq rseq status response = provisional_number (Some status) response ≡ Some rseq

prack_asked : (status : ℕ) (client : Client) (response : Message) (rseq number : ℕ)
    → asked_for status client response ≡ Some (Prack rseq number)
    → HasRseq rseq status response × (client.request.cseq.number ≡ number)
prack_asked status client response rseq number asks =
    by_success (is_success status) (provisional_number (Some status) response) refl asks
  where
    by_success : (b : Bool) (o : Option ℕ) → provisional_number (Some status) response ≡ o
        → (if b then Some (Ack client.id client.request.cseq.number)
        else option_map (λ r. Prack r client.request.cseq.number) o) ≡ Some (Prack rseq number)
        → HasRseq rseq status response × (client.request.cseq.number ≡ number)
    by_success true o is asks = absurd cc
    by_success false None is asks = absurd cc
    by_success false (Some r) is asks =
        let one : r ≡ rseq = cc in
        let two : client.request.cseq.number ≡ number = cc in
        (is ∙ ap (λ r. Some r) one, two)

abbrev pub WasTold : Calls → List (Timed CallItem) → DialogId → ℕ → ℕ → Type 0
WasTold calls inputs name rseq number = WasHeard (HasRseq rseq) calls inputs name number

-- what was asked for at the first inputs, by a response of which this is true
pub asked_heard : (Is : ℕ → Message → Type 0) (calls : Calls) (front rest : List (Timed CallItem))
    (name : DialogId) (pending : PendingRequest) (number : ℕ)
    → ((status : ℕ) (client : Client) (response : Message)
    → asked_for status client response ≡ Some pending
    → Is status response × (client.request.cseq.number ≡ number))
    → WasAskedFor calls front name pending → WasHeard Is calls (front ++ rest) name number
asked_heard Is calls front rest name pending number so was =
    let asked = so was.asks.status was.asks.client was.response was.asks.asks in
    record {
      before = was.before;
      timed = was.timed;
      after = was.after ++ rest;
      are = ap (λ inputs. inputs ++ rest) was.are
          ∙ append_assoc was.before (was.timed ∷ was.after) rest;
      call = was.call;
      held = was.held;
      event = was.event;
      up = was.up;
      comes = was.comes;
      response = was.response;
      kind_is = was.kind_is;
      client = was.asks.client;
      client_is = was.asks.held;
      name_is = same_name (reply_name was.asks.client.kind was.asks.client was.response) name
          was.asks.named;
      has = was.asks.has;
      number_is = asked.1;
      status = was.asks.status;
      status_is = was.asks.status_is;
      is = asked.0;
      told = was.asks.told;
    }

module _ (calls : Calls) (all : List (Timed CallItem)) where
  -- the RAck is of an INVITE, and of a response in the dialog of which the user is told
  abbrev pub IsTold : DialogId → RAck → Type 0
  IsTold name rack =
      (rack.method ≡ codes "INVITE") × WasTold calls all name rack.rseq rack.cseq

  abbrev pub OutIsTold : CallOut → Type 0
  OutIsTold = OutRacked IsTold

  abbrev Says : List CallOut → Type 0
  Says = Say IsTold

  -- ---- what comes up

  -- of each response that comes up, of which the user is told, this is said
  abbrev HearsUp : CallTaken → Call → Id → UpKind → Type 0
  HearsUp taken call id (kind.Response response) = (status : ℕ)
      → status_of response.start ≡ Some status → (client : Client)
      → client_at id call.clients ≡ Some client
      → Hears IsTold (list_any is_response taken.1 ≡ true) response status client
      (reply_name client.kind client response) (side_of call).dialogs
  HearsUp taken call id _ = Unit {0}

  up_says : (call : Call) (id : Id) (now : ℕ) (up : AnUp) (k : UpKind)
      → AreNamed (side_of call).dialogs
      → HearsUp (received call (event_of calls id now) up k) call up.id k
      → Says (received call (event_of calls id now) up k).1
  up_says call id now up (kind.Request request reply_to) named hears =
      no_requests IsTold _ (ap (λ (taken : ServedTaken). starts taken.1)
      (kind_same call.served (made_tag (event_of calls id now)) up
      (kind.Request request reply_to) now)
      ∙ kind_starts call.served (made_tag (event_of calls id now)) up
      (kind.Request request reply_to) now)
  up_says call id now up (kind.Ack ack) named hears =
      no_requests IsTold _ (ap (λ (taken : ServedTaken). starts taken.1)
      (kind_same call.served (made_tag (event_of calls id now)) up (kind.Ack ack) now)
      ∙ kind_starts call.served (made_tag (event_of calls id now)) up (kind.Ack ack) now)
  up_says call id now up (kind.Response response) named hears =
      received_racked IsTold (event_of calls id now) up.id up.call_id response (side_of call) named
      hears
  up_says call id now up kind.Timeout named hears =
      (tt, lost_racked IsTold up.id true (side_of call))
  up_says call id now up kind.Failed named hears =
      (tt, lost_racked IsTold up.id false (side_of call))

  -- ---- commands

  -- each pending request of a held dialog was asked for
  abbrev PaysIn : Call → Type 0
  PaysIn call = (name : DialogId) (held : HeldDialog)
      → dialog_at name (side_of call).dialogs ≡ Some held → (pending : PendingRequest)
      → Contains held.pending_requests pending → Pays IsTold (name_of_dialog held.dialog) pending

  first_says : (call : Call) (id : Id) (now : ℕ) (command : UserCommand)
      → Says (item_of_call false call (event_of calls id now) (User command)).1
  first_says call id now (user.Invite invite) =
      invite_racked IsTold (event_of calls id now) invite call.clients
  first_says call id now (user.Plain plain) =
      plain_racked IsTold (event_of calls id now) plain call.clients
  first_says call id now (user.Request request) = (tt, tt)
  first_says call id now (user.Respond respond) = (tt, tt)
  first_says call id now (user.Ack ack) = (tt, tt)
  first_says call id now (user.Prack prack) = (tt, tt)
  first_says call id now (user.Cancel cancel) = (tt, tt)
  first_says call id now (user.AbandonRequest abandon) = (tt, tt)
  first_says call id now (user.AbandonDialog abandon) = (tt, tt)

  command_says : (call : Call) (id : Id) (now : ℕ) (command : UserCommand) → PaysIn call
      → Says (item_of_call true call (event_of calls id now) (User command)).1
  command_says call id now (user.Invite invite) pays = (tt, tt)
  command_says call id now (user.Plain plain) pays = (tt, tt)
  command_says call id now (user.Request request) pays =
      request_command_racked IsTold (event_of calls id now) request (side_of call)
  command_says call id now (user.Respond respond) pays =
      no_requests IsTold _ (ap (λ (taken : ServedTaken). starts taken.1)
      (respond_same call.served id respond now) ∙ respond_starts call.served id respond now)
  command_says call id now (user.Ack ack) pays =
      ack_racked IsTold (event_of calls id now) ack (side_of call) pays
  command_says call id now (user.Prack prack) pays =
      prack_command_racked IsTold (event_of calls id now) prack (side_of call) pays
  command_says call id now (user.Cancel cancel) pays =
      cancel_command_racked IsTold (event_of calls id now) cancel (side_of call)
  command_says call id now (user.AbandonRequest abandon) pays =
      request_given_up (event_of calls id now) abandon (side_of call) (λ taken. Says taken.1)
      (tt, tt) (λ client. (tt, lost_racked IsTold abandon.id false (side_of call)))
  command_says call id now (user.AbandonDialog abandon) pays =
      dialog_given_up (event_of calls id now) abandon (side_of call) (λ taken. Says taken.1)
      (tt, tt)
      (λ held. no_requests IsTold _ (ended_starts (named abandon) (side_of call).dialogs))

  -- ---- one input, after others

  module _ (front rest : List (Timed CallItem)) (differ : EventsDiffer front) where
    owed_so : (call : Call) → all ≡ front ++ rest → call_from calls None front ≡ Some call
        → PaysIn call
    owed_so call are held name dialog at (Ack invite number) among = tt
    owed_so call are held name dialog at (Prack rseq number) among =
        let owed = owes_as_told calls front differ name dialog
        (ap (λ o. dialog_at name (side_held o).dialogs) held ∙ at) in
        let own = same_name name (name_of_dialog dialog.dialog)
        (named_so calls front differ call held name dialog at) in (
          refl,
          subst (λ name. WasTold calls all name rseq number) own
              (subst (λ inputs. WasTold calls inputs name rseq number) (sym are)
              (asked_heard (HasRseq rseq) calls front rest name (Prack rseq number) number
              (λ status client response asks.
              prack_asked status client response rseq number asks)
              (owed_was_asked calls name front (Prack rseq number)
              (subst (λ pending. Contains pending (Prack rseq number)) owed among)))),
        )

  hears_so : (front rest : List (Timed CallItem)) (call : Call) (id : Id) (now : ℕ) (up : AnUp)
      → all ≡ front ++ record { moment = now; input = Some (id, Up up) } ∷ rest
      → call_from calls None front ≡ Some call → (k : UpKind) → up.kind ≡ k
      → HearsUp (received call (event_of calls id now) up k) call up.id k
  hears_so front rest call id now up are held (kind.Response response) is =
      λ status status_is client found rseq number has told. (
        refl,
        record {
          before = front;
          timed = record { moment = now; input = Some (id, Up up) };
          after = rest;
          are = are;
          call = call;
          held = held;
          event = id;
          up = up;
          comes = refl;
          response = response;
          kind_is = is;
          client = client;
          client_is = found;
          name_is = refl;
          has = has;
          number_is = refl;
          status = status;
          status_is = status_is;
          is = number;
          told = ap (λ k. list_any is_response
              (received call (event_of calls id now) up k).1) is ∙ told;
        },
      )
  hears_so front rest call id now up are held (kind.Request request reply_to) is = tt
  hears_so front rest call id now up are held (kind.Ack ack) is = tt
  hears_so front rest call id now up are held kind.Timeout is = tt
  hears_so front rest call id now up are held kind.Failed is = tt

  none_hears : (taken : CallTaken) (call : Call) → call.clients ≡ [] → (id : Id) (k : UpKind)
      → HearsUp taken call id k
  none_hears taken call none id (kind.Response response) =
      λ status status_is client found. absurd (none_found client
      (sym (ap (λ clients. client_at id clients) none) ∙ found))
    where
      none_found : (client : Client) → None ≡ Some client → ⊥
      none_found client is = absurd cc
  none_hears taken call none id (kind.Request request reply_to) = tt
  none_hears taken call none id (kind.Ack ack) = tt
  none_hears taken call none id kind.Timeout = tt
  none_hears taken call none id kind.Failed = tt

  step_says : (front rest : List (Timed CallItem)) (state : Option Call) (now : ℕ)
      (input : Option CallItem)
      → all ≡ front ++ record { moment = now; input = input } ∷ rest
      → call_from calls None front ≡ state → EventsDiffer front
      → Says (call_step calls state input now).1
  step_says front rest None now None are held differ = tt
  step_says front rest (Some call) now None are held differ =
      no_requests IsTold _ (tick_silent calls (Some call) now)
  step_says front rest None now (Some (id, Up up)) are held differ =
      up_says (new_call calls.local) id now up up.kind (λ name dialog at. absurd cc)
      (none_hears (received (new_call calls.local) (event_of calls id now) up up.kind)
      (new_call calls.local) refl up.id up.kind)
  step_says front rest (Some call) now (Some (id, Up up)) are held differ =
      up_says call id now up up.kind (named_so calls front differ call held)
      (hears_so front rest call id now up are held up.kind refl)
  step_says front rest None now (Some (id, User command)) are held differ =
      first_says (new_call calls.local) id now command
  step_says front rest (Some call) now (Some (id, User command)) are held differ =
      command_says call id now command
      (owed_so front (record { moment = now; input = Some (id, User command) } ∷ rest) differ call
      are held)

  -- ---- all inputs

  from_says : (key : List ℕ) (front rest : List (Timed CallItem)) → all ≡ front ++ rest
      → EventsDiffer all
      → AllByRecursion OutIsTold
      (outputs_from (call_machine calls) key (call_from calls None front) rest)
  from_says key front [] are differ = tt
  from_says key front (timed ∷ rest) are differ =
      let state = call_from calls None front in
      let step = call_step calls state timed.input timed.moment in
      both OutIsTold step.1 (outputs_from (call_machine calls) key step.0 rest)
      (step_says front rest state timed.moment timed.input are refl
      (front_differ front (timed ∷ rest) (subst EventsDiffer are differ)))
      (subst (λ s. AllByRecursion OutIsTold (outputs_from (call_machine calls) key s rest))
      (from_more calls None front timed)
      (from_says key (front ++ timed ∷ []) rest
      (are ∙ sym (append_assoc front (timed ∷ []) rest)) differ))

-- what a call starts with a RAck is a PRACK of a response that it was told of
pub all_told : (calls : Calls) (key : List ℕ) (inputs : List (Timed CallItem))
    → EventsDiffer inputs
    → AllByRecursion (OutIsTold calls inputs) (outputs_from (call_machine calls) key None inputs)
all_told calls key inputs differ = from_says calls inputs key [] inputs refl differ
