-- If what a call hears keeps the rules of messages, so does what it sends.
use Rattle.std.proofs.Common.{◌≡◌, ℕ, Bool, true, false, cond, List, [], ◌∷◌, ◌++◌, refl, sym, ◌∙◌, subst, append-nil, append_assoc}
use Rattle.std.specs.Prelude.{Option, None, Some, IfSome}
use Rattle.std.specs.List.{AllByRecursion}
use Rattle.sip_message.specs.Addr.{IsAddr}
use Rattle.sip_message.specs.declared.id.Id.{Id}
use Rattle.keyed_machine.specs.Machine.{Timed, outputs_from}
use Rattle.sip_transactions.specs.declared.output.UpKind.{UpKind}
use Rattle.sip_transactions.specs.declared.output.UpKind.TheVariants as kind
use Rattle.sip_transactions.specs.declared.output.Up.{Up as AnUp}
use Rattle.sip_user.specs.declared.command.UserCommand.{UserCommand}
use Rattle.sip_user.specs.declared.command.UserCommand.TheVariants as user
use Rattle.sip_user.specs.declared.item.Item.TheVariants.{Up, User}
use Rattle.sip_held_dialogs.proofs.Each.{both}
use Rattle.sip_served.specs.State.{ServedTaken}
use Rattle.sip_served.specs.Rules.Ticks.{server_tick}
use Rattle.sip_clients.specs.Client.{ClientTaken}
use Rattle.sip_clients.specs.Rules.Ends.{client_tick, request_is_lost}
use Rattle.sip_clients.specs.declared.event.Event.{Event}
use Rattle.sip_clients.proofs.Hex.{name_is_token}
use Rattle.sip_calls.specs.Call.{CallItem, CallTaken, Taken, call_machine, call_step, call_tick, event_of, item_of_call, kept, made_tag, new_call, received}
use Rattle.sip_calls.specs.Sides.{by_clients, by_server, holds_any, side_of}
use Rattle.sip_calls.specs.declared.call.Call.{Call}
use Rattle.sip_calls.specs.declared.calls.Calls.{Calls}
use Rattle.sip_conversation.specs.Commands.{KeepsTypes}
use Rattle.sip_conversation.proofs.KeepsRules.{Any, CallKeepsRules, Keep, KeepsInput, KeepsRulesWith, KindKeeps}
use Rattle.sip_conversation.proofs.SoundClients as clients
use Rattle.sip_conversation.proofs.SoundClients.{AreSoundClients, IsSoundSide, Pays, PaysIn, ack_done, cancel_done, invite_done, plain_done, prack_done, request_done}
use Rattle.sip_conversation.proofs.SoundReplies as replies
use Rattle.sip_conversation.proofs.SoundReplies.{Hears, lost_done, received_done, reply_for}
use Rattle.sip_conversation.proofs.SoundServed as served
use Rattle.sip_conversation.proofs.SoundServed.{IsSoundState, dialog_ends, empty_sound, kind_done, respond_done}
use Rattle.sip_message.specs.declared.message.Message.{Message}
use Rattle.sip_message.specs.declared.addr.Addr.{Addr}
use Rattle.std.specs.Map.{lookup}
use Rattle.sip_held_dialogs.specs.Ids.{is_id}
use Rattle.sip_clients.specs.Rules.Responses.{response_received, status_of}
use Rattle.sip_clients.specs.declared.client.Client.{Client}
use Rattle.sip_dialog.specs.declared.dialog.Dialog.{Dialog}
use Rattle.sip_held_dialogs.specs.declared.pending_request.PendingRequest.{PendingRequest}
use Rattle.sip_held_dialogs.specs.declared.pending_request.PendingRequest.TheVariants.{Ack, Prack}
use Rattle.sip_calls.specs.Histories.{call_from}
use Rattle.sip_conversation.proofs.RackedCalls.{front_differ, named_so}
use Rattle.sip_conversation.proofs.RackedSteps.{IsToldOf}
use Rattle.sip_conversation.proofs.Rounds.{all_of_parts}
use Rattle.sip_clients.proofs.DialogSends.{AreNamed}
use Rattle.sip_calls.specs.Provisionals.{EventsDiffer}
use Rattle.sip_conversation.proofs.PracksOfCalls.{from_more}
use Rattle.sip_conversation.proofs.GivenUp as given_up

-- of each ACK that is sent as a text this is said
module _ (AckIs : Message → Type 0) where
  pub record IsSoundCall (call : Call) : Type 0 where
    pub served : IsSoundState call.served
    pub clients : AreSoundClients AckIs call.clients

  abbrev Done : CallTaken → Type 0
  Done taken = IsSoundCall taken.0 × Keep AckIs taken.1

  by_server_done : (call : Call) (taken : ServedTaken) → IsSoundCall call → served.Done AckIs taken
      → Done (by_server call taken)
  by_server_done call taken sound done =
      (record { served = done.0; clients = sound.clients }, done.1)

  sides_of : (call : Call) → IsSoundCall call → IsSoundSide AckIs (side_of call)
  sides_of call sound = record { dialogs = (sound.served).dialogs; clients = sound.clients }

  by_clients_done : (call : Call) (taken : ClientTaken) → IsSoundCall call
      → clients.Taken AckIs taken
      → Done (by_clients call taken)
  by_clients_done call taken sound done = (
    record {
      served = record {
        local = (sound.served).local;
        requests = (sound.served).requests;
        dialogs = (done.0).dialogs;
      };
      clients = (done.0).clients;
    },
    done.1,
  )

  -- ---- what comes up

  -- of each ACK that may be made for a 2xx that comes up this is said, if the user is told of that
  abbrev pub KindPays : Call → Event → AnUp → UpKind → Type 0
  KindPays call event up (kind.Response response) = (status : ℕ)
      → status_of response.start ≡ Some status → (client : Client)
      → lookup (is_id up.id) call.clients ≡ Some client
      → Hears AckIs
      (IsToldOf (response_received event up.id up.call_id response (side_of call)))
      (reply_for event up.id up.call_id response status client) client (side_of call).dialogs
  KindPays call event up _ = Unit {0}

  lost_so : (call : Call) (id : Id) (timed_out : Bool) → IsSoundCall call
      → Done (by_clients call (request_is_lost id timed_out (side_of call)))
  lost_so call id timed_out sound =
      by_clients_done call _ sound
      (lost_done AckIs id timed_out (side_of call) (sides_of call sound))

  up_done : (call : Call) (event : Event) (up : AnUp) (k : UpKind) → IsAddr event.local
      → KindKeeps k → KindPays call event up k → IsSoundCall call
      → Done (received call event up k)
  up_done call event up (kind.Request request reply_to) address rules pays sound =
      by_server_done call _ sound
      (kind_done AckIs call.served (made_tag event) up (kind.Request request reply_to)
      event.moment rules (name_is_token event.seed event.id 0) sound.served)
  up_done call event up (kind.Ack ack) address rules pays sound =
      by_server_done call _ sound
      (kind_done AckIs call.served (made_tag event) up (kind.Ack ack) event.moment rules
      (name_is_token event.seed event.id 0) sound.served)
  up_done call event up (kind.Response response) address rules pays sound =
      by_clients_done call _ sound
      (received_done AckIs event up.id up.call_id response (side_of call) address rules
      (sides_of call sound) pays)
  up_done call event up kind.Timeout address rules pays sound =
      let so = lost_so call up.id true sound in (so.0, (tt, so.1))
  up_done call event up kind.Failed address rules pays sound =
      let so = lost_so call up.id false sound in (so.0, (tt, so.1))

  -- ---- commands of the user

  first_done : (call : Call) (event : Event) (command : UserCommand) → IsAddr event.local
      → KeepsTypes command → IsSoundCall call
      → Done (item_of_call false call event (User command))
  first_done call event (user.Invite invite) address types sound =
      let so = invite_done AckIs event invite call.clients address types sound.clients in
      (record { served = sound.served; clients = so.0 }, so.1)
  first_done call event (user.Plain plain) address types sound =
      let so = plain_done AckIs event plain call.clients address types sound.clients in
      (record { served = sound.served; clients = so.0 }, so.1)
  first_done call event (user.Request request) address types sound = (sound, (tt, tt))
  first_done call event (user.Respond respond) address types sound = (sound, (tt, tt))
  first_done call event (user.Ack ack) address types sound = (sound, (tt, tt))
  first_done call event (user.Prack prack) address types sound = (sound, (tt, tt))
  first_done call event (user.Cancel cancel) address types sound = (sound, (tt, tt))
  first_done call event (user.AbandonRequest abandon) address types sound = (sound, (tt, tt))
  first_done call event (user.AbandonDialog abandon) address types sound = (sound, (tt, tt))

  command_done : (call : Call) (event : Event) (command : UserCommand) → IsAddr event.local
      → KeepsTypes command → PaysIn AckIs event (side_of call) → AreNamed (side_of call).dialogs
      → IsSoundCall call
      → Done (item_of_call true call event (User command))
  command_done call event (user.Invite invite) address types pays named sound = (sound, (tt, tt))
  command_done call event (user.Plain plain) address types pays named sound = (sound, (tt, tt))
  command_done call event (user.Request request) address types pays named sound =
      by_clients_done call _ sound
      (request_done AckIs event address request (side_of call) types named (sides_of call sound))
  command_done call event (user.Respond respond) address types pays named sound =
      by_server_done call _ sound
      (respond_done AckIs call.served event.id respond event.moment types sound.served)
  command_done call event (user.Ack ack) address types pays named sound =
      by_clients_done call _ sound
      (ack_done AckIs event address ack (side_of call) types pays (sides_of call sound))
  command_done call event (user.Prack prack) address types pays named sound =
      by_clients_done call _ sound
      (prack_done AckIs event address prack (side_of call) types pays (sides_of call sound))
  command_done call event (user.Cancel cancel) address types pays named sound =
      by_clients_done call _ sound
      (cancel_done AckIs event cancel (side_of call) (sides_of call sound))
  command_done call event (user.AbandonRequest abandon) address types pays named sound =
      by_clients_done call _ sound
      (given_up.request_given_up event abandon (side_of call) (clients.Taken AckIs)
      (sides_of call sound, (tt, tt))
      (λ client.
      let so = lost_done AckIs abandon.id false (side_of call) (sides_of call sound) in
      (so.0, (tt, so.1))))
  command_done call event (user.AbandonDialog abandon) address types pays named sound =
      let sides = sides_of call sound in
      by_clients_done call _ sound
      (given_up.dialog_given_up event abandon (side_of call) (clients.Taken AckIs)
      (sides, (tt, tt))
      (λ held.
      let so = dialog_ends AckIs (given_up.named abandon) (side_of call).dialogs sides.dialogs in
      (record { dialogs = so.0; clients = sides.clients }, so.1)))

  -- ---- one input

  tick_done : (call : Call) (now : ℕ) → IsSoundCall call → Done (call_tick call now)
  tick_done call now sound =
      let first = by_server call (server_tick call.served now) in
      let so = by_server_done call _ sound (served.tick_done AckIs call.served now sound.served) in
      let second = client_tick (side_of first.0) now in
      let later = by_clients_done first.0 second so.0
      (replies.tick_done AckIs (side_of first.0) now (sides_of first.0 so.0)) in
      (later.0, both (KeepsRulesWith AckIs) first.1 second.1 so.1 later.1)

  -- so is each that may be made for an input of the call that is held; and at a command the dialogs
  -- have the names of their tags
  abbrev pub InputPays : Calls → Option Call → Option CallItem → ℕ → Type 0
  InputPays calls (Some call) (Some (id, Up up)) now =
      KindPays call (event_of calls id now) up up.kind
  InputPays calls (Some call) (Some (id, User command)) now =
      PaysIn AckIs (event_of calls id now) (side_of call) × AreNamed (side_of call).dialogs
  InputPays calls (Some call) None now = Unit {0}
  InputPays calls None input now = Unit {0}

  -- or for any of all inputs
  abbrev pub AllPay : Calls → List (Timed CallItem) → Type 0
  AllPay calls inputs = (before : List (Timed CallItem)) (timed : Timed CallItem)
      (after : List (Timed CallItem)) → inputs ≡ before ++ timed ∷ after
      → InputPays calls (call_from calls None before) timed.input timed.moment

  none_found : (client : Client) → None ≡ Some client → ⊥
  none_found client is = absurd cc

  new_pays : (local : Addr) (event : Event) (up : AnUp) (k : UpKind)
      → KindPays (new_call local) event up k
  new_pays local event up (kind.Response response) =
      λ status is client found. absurd (none_found client found)
  new_pays local event up (kind.Request request reply_to) = tt
  new_pays local event up (kind.Ack ack) = tt
  new_pays local event up kind.Timeout = tt
  new_pays local event up kind.Failed = tt

  module _ (calls : Calls) (address : IsAddr calls.local) where
    abbrev Held : Option Call → Type 0
    Held held = IfSome held IsSoundCall

    abbrev After : Taken → Type 0
    After taken = Held taken.0 × Keep AckIs taken.1

    kept_by : (b : Bool) (call : Call) → IsSoundCall call → Held (cond b (Some call) None)
    kept_by true call sound = sound
    kept_by false call sound = tt

    kept_done : (taken : CallTaken) → Done taken → After (kept taken)
    kept_done taken done = (kept_by (holds_any taken.0) taken.0 done.0, done.1)

    new_sound : IsSoundCall (new_call calls.local)
    new_sound = record { served = empty_sound calls.local address; clients = tt }

    step_done : (state : Option Call) (input : Option CallItem) (now : ℕ) → KeepsInput input
        → InputPays calls state input now → Held state → After (call_step calls state input now)
    step_done None None now keeps pays sound = (tt, tt)
    step_done (Some call) None now keeps pays sound =
        kept_done (call_tick call now) (tick_done call now sound)
    step_done None (Some (id, Up up)) now keeps pays sound =
        let call = new_call calls.local in
        kept_done (item_of_call false call (event_of calls id now) (Up up))
        (up_done call (event_of calls id now) up up.kind address keeps
        (new_pays calls.local (event_of calls id now) up up.kind) new_sound)
    step_done (Some call) (Some (id, Up up)) now keeps pays sound =
        kept_done (item_of_call true call (event_of calls id now) (Up up))
        (up_done call (event_of calls id now) up up.kind address keeps pays sound)
    step_done None (Some (id, User command)) now keeps pays sound =
        let call = new_call calls.local in
        kept_done (item_of_call false call (event_of calls id now) (User command))
        (first_done call (event_of calls id now) command address keeps new_sound)
    step_done (Some call) (Some (id, User command)) now keeps pays sound =
        kept_done (item_of_call true call (event_of calls id now) (User command))
        (command_done call (event_of calls id now) command address keeps pays.0 pays.1 sound)

    -- ---- all inputs

    module _ (key : List ℕ) (all : List (Timed CallItem)) (pays : AllPay calls all) where
      from_done : (front rest : List (Timed CallItem)) → all ≡ front ++ rest
          → AllByRecursion (λ timed. KeepsInput timed.input) rest
          → Held (call_from calls None front)
          → Keep AckIs (outputs_from (call_machine calls) key (call_from calls None front) rest)
      from_done front [] are keep sound = tt
      from_done front (timed ∷ rest) are keep sound =
          let state = call_from calls None front in
          let step = call_step calls state timed.input timed.moment in
          let more = from_more calls None front timed in
          let so = step_done state timed.input timed.moment keep.0 (pays front timed rest are)
          sound in
          both (KeepsRulesWith AckIs) step.1 (outputs_from (call_machine calls) key step.0 rest)
          so.1 (subst (λ s. Keep AckIs (outputs_from (call_machine calls) key s rest)) more
          (from_done (front ++ timed ∷ []) rest (are ∙ sym (append_assoc front (timed ∷ []) rest))
          keep.1 (subst Held (sym more) so.0)))

      -- what is held after the first inputs is sound
      held_from : (front rest more : List (Timed CallItem)) → all ≡ front ++ (rest ++ more)
          → AllByRecursion (λ timed. KeepsInput timed.input) rest
          → Held (call_from calls None front)
          → Held (call_from calls None (front ++ rest))
      held_from front [] more are keep sound =
          subst (λ xs. Held (call_from calls None xs)) (sym (append-nil front)) sound
      held_from front (timed ∷ rest) more are keep sound =
          let state = call_from calls None front in
          let so = step_done state timed.input timed.moment keep.0
          (pays front timed (rest ++ more) are) sound in
          subst (λ xs. Held (call_from calls None xs)) (append_assoc front (timed ∷ []) rest)
          (held_from (front ++ timed ∷ []) rest more
          (are ∙ sym (append_assoc front (timed ∷ []) (rest ++ more))) keep.1
          (subst Held (sym (from_more calls None front timed)) so.0))

      pub held_sound : (front more : List (Timed CallItem)) → all ≡ front ++ more
          → AllByRecursion (λ timed. KeepsInput timed.input) all
          → Held (call_from calls None front)
      held_sound front more are keep =
          held_from [] front more are
          (all_of_parts (λ (timed : Timed CallItem). KeepsInput timed.input) front more
          (subst (AllByRecursion (λ (timed : Timed CallItem). KeepsInput timed.input)) are keep)).0
          tt

      -- what a call sends keeps the rules, and of each ACK that it sends as a text this is said
      pub call_keeps : AllByRecursion (λ timed. KeepsInput timed.input) all
          → Keep AckIs (outputs_from (call_machine calls) key None all)
      call_keeps keep = from_done [] all refl keep tt

-- ---- where nothing more is said

any_pending : (event : Event) (dialog : Dialog) (pending : PendingRequest)
    → Pays Any event dialog pending
any_pending event dialog (Ack invite number) = λ content. tt
any_pending event dialog (Prack rseq number) = tt

any_kind : (call : Call) (event : Event) (up : AnUp) (k : UpKind) → KindPays Any call event up k
any_kind call event up (kind.Response response) =
    λ status is client found success has told content. tt
any_kind call event up (kind.Request request reply_to) = tt
any_kind call event up (kind.Ack ack) = tt
any_kind call event up kind.Timeout = tt
any_kind call event up kind.Failed = tt

any_input : (calls : Calls) (front : List (Timed CallItem)) → EventsDiffer front
    → (state : Option Call) → call_from calls None front ≡ state → (input : Option CallItem)
    (now : ℕ) → InputPays Any calls state input now
any_input calls front differ (Some call) held (Some (id, Up up)) now =
    any_kind call (event_of calls id now) up up.kind
any_input calls front differ (Some call) held (Some (id, User command)) now = (
  λ name held at pending among. any_pending (event_of calls id now) held.dialog pending,
  named_so calls front differ call held,
)
any_input calls front differ (Some call) held None now = tt
any_input calls front differ None held input now = tt

pub any_pays : (calls : Calls) (inputs : List (Timed CallItem)) → EventsDiffer inputs
    → AllPay Any calls inputs
any_pays calls inputs differ before timed after are =
    any_input calls before (front_differ before (timed ∷ after) (subst EventsDiffer are differ))
    (call_from calls None before) refl timed.input timed.moment

pub call_keeps_rules : (calls : Calls) → IsAddr calls.local → CallKeepsRules calls
call_keeps_rules calls address key inputs differ keep =
    call_keeps Any calls address key inputs (any_pays calls inputs differ) keep
