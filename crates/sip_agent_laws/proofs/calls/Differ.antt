-- For all inputs of a call: the ids of the held client requests differ; so do those of the requests
-- of the peer, if no id comes up twice.
use Rattle.std.proofs.Common.{ℕ, true, false, List, [], ◌∷◌, sym, subst}
use Rattle.std.specs.Prelude.{Option, None, Some, filter_map}
use Rattle.std.specs.List.{IsDistinct, cons_option}
use Rattle.std.proofs.lemmas.Map.Keys.{IsDistinct-head}
use Rattle.keyed_machine.specs.Machine.{Timed}
use Rattle.sip_message.specs.declared.id.Id.{Id}
use Rattle.sip_transactions.specs.declared.output.UpKind.{UpKind}
use Rattle.sip_transactions.specs.declared.output.UpKind.TheVariants as kind
use Rattle.sip_transactions.specs.declared.output.Up.{Up as AnUp}
use Rattle.sip_user.specs.declared.command.UserCommand.{UserCommand}
use Rattle.sip_user.specs.declared.command.UserCommand.TheVariants.{Invite, Plain, Request, Respond, Ack, Prack, Cancel, AbandonRequest, AbandonDialog}
use Rattle.sip_user.specs.declared.item.Item.TheVariants.{Up, User}
use Rattle.sip_held_dialogs.specs.Ids.{is_id}
use Rattle.sip_held_dialogs.proofs.Entries.{none_apart}
use Rattle.sip_served.specs.Run.{event_taken}
use Rattle.sip_served.specs.State.{State}
use Rattle.sip_served.specs.Step.{kind_taken, server_command_taken}
use Rattle.sip_served.specs.Arrival.{arrival_of}
use Rattle.sip_served.proofs.RequestIds.{ack_ids, all_left, apart_left, arrival_adds, ids_of, respond_ids}
use Rattle.sip_clients.specs.Client.{Side, client_at}
use Rattle.sip_clients.specs.declared.event.Event.{Event}
use Rattle.sip_clients.proofs.Abandons as abandons
use Rattle.sip_clients.proofs.EndedKeys.{AreSound, ack_sound, cancel_sound, invite_sound, lost_sound, plain_sound, prack_sound, request_sound, response_sound, sound_tick}
use Rattle.sip_clients.proofs.Hearing.{NoneOf}
use Rattle.sip_calls.specs.declared.call.Call.{Call}
use Rattle.sip_calls.specs.declared.calls.Calls.{Calls}
use Rattle.sip_calls.specs.Call.{Taken, CallItem, call_step, event_of, kept, new_call}
use Rattle.sip_calls.specs.HeldRequests.{RequestsDiffer, id_of_kind, request_brought, requests_held}
use Rattle.sip_calls.specs.Histories.{call_from}
use Rattle.sip_calls.specs.Provisionals.{side_held}
use Rattle.sip_calls.specs.RequestHistories.{served_event, served_state}
use Rattle.sip_calls.specs.Sides.{CallTaken, side_of}
use Rattle.sip_calls.specs.Steps.Call.{command_taken, first_command_taken, step_taken, ticked, up_taken}
use Rattle.sip_calls.proofs.HeldRequests.{Sound, adds_sound, none_differ, rest_differ, same_sound}
use Rattle.sip_calls.proofs.KeptSides.{kept_side}
use Rattle.sip_calls.proofs.SameSteps.{same_step}
use Rattle.sip_agent_laws.proofs.calls.ServedSteps.{held_served, served_so}

-- ---- the client requests

up_sound : (call : Call) (event : Event) (up : AnUp) (k : UpKind) → AreSound call.clients
    → AreSound ((up_taken call event up k).0).clients
up_sound call event up (kind.Request request reply_to) sound = sound
up_sound call event up (kind.Ack ack) sound = sound
up_sound call event up (kind.Response response) sound =
    response_sound event up.id up.call_id response (side_of call) sound
up_sound call event up kind.Timeout sound =
    lost_sound up.id true (client_at up.id call.clients) (side_of call) sound
up_sound call event up kind.Failed sound =
    lost_sound up.id false (client_at up.id call.clients) (side_of call) sound

command_sound : (call : Call) (event : Event) (command : UserCommand) → AreSound call.clients
    → AreSound ((command_taken call event command).0).clients
command_sound call event (Request request) sound =
    request_sound event request (side_of call) sound
command_sound call event (Ack ack) sound = ack_sound event ack (side_of call) sound
command_sound call event (Prack prack) sound = prack_sound event prack (side_of call) sound
command_sound call event (Cancel cancel) sound = cancel_sound event cancel (side_of call) sound
command_sound call event (AbandonRequest abandon) sound =
    abandons.request_sound event abandon (side_of call) sound
command_sound call event (AbandonDialog abandon) sound =
    abandons.dialog_sound event abandon (side_of call) sound
command_sound call event _ sound = sound

none_sound : AreSound []
none_sound = (none_apart is_id, tt)

first_sound : (calls : Calls) (event : Event) (command : UserCommand)
    → AreSound ((first_command_taken (new_call calls.local) event command).0).clients
first_sound calls event (Invite invite) = invite_sound event invite [] none_sound
first_sound calls event (Plain plain) = plain_sound event plain [] none_sound
first_sound calls event _ = none_sound

kept_sound : (taken : CallTaken) → AreSound (taken.0).clients
    → AreSound (side_held (kept taken).0).clients
kept_sound taken sound =
    subst (λ (side : Side). AreSound side.clients) (sym (kept_side taken.0)) sound

next_sound : (calls : Calls) (state : Option Call) (input : Option CallItem) (now : ℕ)
    → AreSound (side_held state).clients
    → AreSound (side_held (step_taken calls state input now).0).clients
next_sound calls None None now sound = sound
next_sound calls (Some call) None now sound =
    kept_sound (ticked call now) (sound_tick now call.clients sound)
next_sound calls None (Some (id, Up up)) now sound =
    kept_sound (up_taken (new_call calls.local) (event_of calls id now) up up.kind)
    (up_sound (new_call calls.local) (event_of calls id now) up up.kind sound)
next_sound calls None (Some (id, User command)) now sound =
    kept_sound (first_command_taken (new_call calls.local) (event_of calls id now) command)
    (first_sound calls (event_of calls id now) command)
next_sound calls (Some call) (Some (id, Up up)) now sound =
    kept_sound (up_taken call (event_of calls id now) up up.kind)
    (up_sound call (event_of calls id now) up up.kind sound)
next_sound calls (Some call) (Some (id, User command)) now sound =
    kept_sound (command_taken call (event_of calls id now) command)
    (command_sound call (event_of calls id now) command sound)

from_sound : (calls : Calls) (inputs : List (Timed CallItem)) (state : Option Call)
    → AreSound (side_held state).clients
    → AreSound (side_held (call_from calls state inputs)).clients
from_sound calls [] state sound = sound
from_sound calls (input ∷ inputs) state sound =
    from_sound calls inputs (call_step calls state input.input input.moment).0
    (subst (λ (taken : Taken). AreSound (side_held taken.0).clients)
    (sym (same_step calls state input.input input.moment))
    (next_sound calls state input.input input.moment sound))

pub clients_sound : (calls : Calls) (inputs : List (Timed CallItem))
    → AreSound (side_held (call_from calls None inputs)).clients
clients_sound calls inputs = from_sound calls inputs None none_sound

-- ---- the requests of the peer

module _ (state : State) (ids : List Id) where
  kind_apart : (tag : List ℕ) (up : AnUp) (k : UpKind) (now : ℕ)
      → IsDistinct is_id (cons_option (id_of_kind up.id k) ids)
      → Sound state.requests (cons_option (id_of_kind up.id k) ids)
      → Sound ((kind_taken state tag up k now).0).requests ids
  kind_apart tag up (kind.Request request reply_to) now differ sound =
      adds_sound up.id ids state.requests _ sound (IsDistinct-head is_id up.id ids differ)
      (arrival_adds state up.call_id (arrival_of up request reply_to tag) now)
  kind_apart tag up (kind.Ack ack) now differ sound =
      same_sound ids state.requests _ sound (ack_ids state up.call_id ack)
  kind_apart tag up _ now differ sound = sound

  command_apart : (id : Id) (command : UserCommand) (now : ℕ) → Sound state.requests ids
      → Sound ((server_command_taken state id command now).0).requests ids
  command_apart id (Respond respond) now sound =
      same_sound ids state.requests _ sound (respond_ids state id respond now)
  command_apart id _ now sound = sound

  event_apart : (calls : Calls) (input : Option CallItem) (now : ℕ)
      → IsDistinct is_id (cons_option (request_brought input) ids)
      → Sound state.requests (cons_option (request_brought input) ids)
      → Sound ((event_taken state (served_event calls input now)).0).requests ids
  event_apart calls None now differ sound = record {
    apart = apart_left now state.requests sound.apart;
    later = all_left now (λ id. NoneOf id ids) state.requests sound.later;
  }
  event_apart calls (Some (id, Up up)) now differ sound =
      kind_apart _ up up.kind now differ sound
  event_apart calls (Some (id, User command)) now differ sound =
      command_apart id command now sound

from_apart : (calls : Calls) (inputs : List (Timed CallItem)) (state : Option Call)
    → RequestsDiffer inputs
    → Sound (requests_held state) (filter_map (λ timed. request_brought timed.input) inputs)
    → IsDistinct is_id (ids_of (requests_held (call_from calls state inputs)))
from_apart calls [] state differ sound = sound.apart
from_apart calls (input ∷ inputs) state differ sound =
    let ids = filter_map (λ timed. request_brought timed.input) inputs in
    let all = cons_option (request_brought input.input) ids in
    from_apart calls inputs (call_step calls state input.input input.moment).0
    (rest_differ (request_brought input.input) ids differ)
    (subst (λ requests. Sound requests ids)
    (sym (served_so calls state input.input input.moment))
    (event_apart (served_state calls state) ids calls input.input input.moment differ
    (subst (λ requests. Sound requests all) (sym (held_served calls state)) sound)))

pub requests_apart : (calls : Calls) (inputs : List (Timed CallItem)) → RequestsDiffer inputs
    → IsDistinct is_id (ids_of (requests_held (call_from calls None inputs)))
requests_apart calls inputs differ =
    from_apart calls inputs None differ record { apart = none_differ; later = tt }
