-- For all inputs of a call: the held requests are what their stories say.
use Rattle.std.proofs.Common.{◌≡◌, ℕ, List, [], ◌∷◌, map, refl, sym, subst, ◌∙◌, ap}
use Rattle.std.specs.Prelude.{Option, None, Some}
use Rattle.std.specs.List.{AllByRecursion}
use Rattle.keyed_machine.specs.Machine.{Timed}
use Rattle.sip_message.specs.declared.addr.Addr.{Addr}
use Rattle.sip_message.specs.declared.id.Id.{Id}
use Rattle.sip_reliable.specs.Ledger.{FewWait}
use Rattle.sip_reliable.proofs.Sounds.{few_wait as few_by}
use Rattle.sip_transactions.specs.declared.output.UpKind.{UpKind}
use Rattle.sip_transactions.specs.declared.output.UpKind.TheVariants as kind
use Rattle.sip_transactions.specs.declared.output.Up.{Up as AnUp}
use Rattle.sip_user.specs.declared.command.UserCommand.{UserCommand}
use Rattle.sip_user.specs.declared.command.UserCommand.TheVariants.{Invite, Plain as PlainCommand, Request, Respond, Ack, Prack, Cancel, AbandonRequest, AbandonDialog}
use Rattle.sip_user.specs.declared.item.Item.TheVariants.{Up, User}
use Rattle.sip_served.specs.declared.held_request.HeldRequest.{HeldRequest}
use Rattle.sip_served.specs.Run.{event_taken}
use Rattle.sip_served.specs.State.{empty_at}
use Rattle.sip_served.specs.Step.{kind_taken, server_command_taken}
use Rattle.sip_served.specs.Story.{ledger_of, request_of}
use Rattle.sip_served.specs.Telling.{Stories, event_told}
use Rattle.sip_served.proofs.FewWait.{IsKept, event_keeps}
use Rattle.sip_served.proofs.Stories.{event_on}
use Rattle.sip_clients.specs.declared.event.Event.{Event}
use Rattle.sip_calls.specs.declared.call.Call.{Call}
use Rattle.sip_calls.specs.declared.calls.Calls.{Calls}
use Rattle.sip_calls.specs.Call.{Taken, CallItem, call_step, event_of, made_tag, new_call}
use Rattle.sip_calls.specs.HeldRequests.{requests_held}
use Rattle.sip_calls.specs.Histories.{call_from}
use Rattle.sip_calls.specs.RequestHistories.{FewUnacknowledged, HoldsItsStories, served_event, served_state, stories_from, stories_of}
use Rattle.sip_calls.specs.Steps.Call.{step_taken, command_taken, first_command_taken, ticked, up_taken}
use Rattle.sip_calls.proofs.SameSteps.{same_step}
use Rattle.sip_calls.proofs.HeldRequests.{first_command, kept_requests, requests_of}

-- ---- an input changes the requests as it changes the server side

up_served : (call : Call) (event : Event) (up : AnUp) (k : UpKind)
    → requests_of (up_taken call event up k).0
    ≡ ((kind_taken call.served (made_tag event) up k event.moment).0).requests
up_served call event up (kind.Request request reply_to) = refl
up_served call event up (kind.Ack ack) = refl
up_served call event up (kind.Response response) = refl
up_served call event up kind.Timeout = refl
up_served call event up kind.Failed = refl

command_served : (call : Call) (calls : Calls) (id : Id) (now : ℕ) (command : UserCommand)
    → requests_of (command_taken call (event_of calls id now) command).0
    ≡ ((server_command_taken call.served id command now).0).requests
command_served call calls id now (Invite invite) = refl
command_served call calls id now (PlainCommand plain) = refl
command_served call calls id now (Request request) = refl
command_served call calls id now (Respond respond) = refl
command_served call calls id now (Ack ack) = refl
command_served call calls id now (Prack prack) = refl
command_served call calls id now (Cancel cancel) = refl
command_served call calls id now (AbandonRequest abandon) = refl
command_served call calls id now (AbandonDialog abandon) = refl

-- if nothing is held nothing is answered
none_answered : (local : Addr) (id : Id) (command : UserCommand) (now : ℕ)
    → [] ≡ ((server_command_taken (empty_at local) id command now).0).requests
none_answered local id (Invite invite) now = refl
none_answered local id (PlainCommand plain) now = refl
none_answered local id (Request request) now = refl
none_answered local id (Respond respond) now = refl
none_answered local id (Ack ack) now = refl
none_answered local id (Prack prack) now = refl
none_answered local id (Cancel cancel) now = refl
none_answered local id (AbandonRequest abandon) now = refl
none_answered local id (AbandonDialog abandon) now = refl

served_so_taken : (calls : Calls) (state : Option Call) (input : Option CallItem) (now : ℕ)
    → requests_held (step_taken calls state input now).0
    ≡ ((event_taken (served_state calls state) (served_event calls input now)).0).requests
served_so_taken calls None None now = refl
served_so_taken calls (Some call) None now = kept_requests (ticked call now).0
served_so_taken calls None (Some (id, Up up)) now =
    let call = new_call calls.local in
    let event = event_of calls id now in
    kept_requests (up_taken call event up up.kind).0 ∙ up_served call event up up.kind
served_so_taken calls None (Some (id, User command)) now =
    kept_requests (first_command_taken (new_call calls.local) (event_of calls id now) command).0
    ∙ sym (first_command calls id now command) ∙ none_answered calls.local id command now
served_so_taken calls (Some call) (Some (id, Up up)) now =
    let event = event_of calls id now in
    kept_requests (up_taken call event up up.kind).0 ∙ up_served call event up up.kind
served_so_taken calls (Some call) (Some (id, User command)) now =
    kept_requests (command_taken call (event_of calls id now) command).0
    ∙ command_served call calls id now command

served_so : (calls : Calls) (state : Option Call) (input : Option CallItem) (now : ℕ)
    → requests_held (call_step calls state input now).0
    ≡ ((event_taken (served_state calls state) (served_event calls input now)).0).requests
served_so calls state input now =
    ap (λ (taken : Taken). requests_held taken.0) (same_step calls state input now)
    ∙ served_so_taken calls state input now

-- ---- all inputs

held_served : (calls : Calls) (state : Option Call)
    → (served_state calls state).requests ≡ requests_held state
held_served calls None = refl
held_served calls (Some call) = refl

-- what is held is what the stories say, and few responses wait
record AreSo (requests : List HeldRequest) (stories : Stories) : Type 0 where
  pub told : requests ≡ map request_of stories
  pub kept : AllByRecursion IsKept requests

next_so : (calls : Calls) (state : Option Call) (stories : Stories) (input : Option CallItem)
    (now : ℕ) → AreSo (requests_held state) stories
    → AreSo (requests_held (call_step calls state input now).0)
    (event_told (served_state calls state) (served_event calls input now) stories)
next_so calls state stories input now so =
    let server = served_state calls state in
    let event = served_event calls input now in
    let same = served_so calls state input now in
    let all =
    subst (λ (requests : List HeldRequest). AllByRecursion IsKept requests)
    (sym (held_served calls state)) so.kept in
    record {
      told = same ∙ event_on server stories (held_served calls state ∙ so.told) all event;
      kept = subst (λ (requests : List HeldRequest). AllByRecursion IsKept requests) (sym same)
          (event_keeps server event all);
    }

from : (calls : Calls) (inputs : List (Timed CallItem)) (state : Option Call) (stories : Stories)
    → AreSo (requests_held state) stories
    → AreSo (requests_held (call_from calls state inputs))
    (stories_from calls state stories inputs)
from calls [] state stories so = so
from calls (input ∷ inputs) state stories so =
    from calls inputs (call_step calls state input.input input.moment).0
    (event_told (served_state calls state) (served_event calls input.input input.moment) stories)
    (next_so calls state stories input.input input.moment so)

after_all : (calls : Calls) (inputs : List (Timed CallItem))
    → AreSo (requests_held (call_from calls None inputs)) (stories_of calls inputs)
after_all calls inputs = from calls inputs None [] record { told = refl; kept = tt }

pub holds_its_stories : HoldsItsStories
holds_its_stories calls inputs = (after_all calls inputs).told

few_of : (stories : Stories) → AllByRecursion IsKept (map request_of stories)
    → AllByRecursion (λ story. FewWait (ledger_of story)) stories
few_of [] all = tt
few_of (story ∷ stories) all = (few_by (ledger_of story) all.0, few_of stories all.1)

pub few_unacknowledged : FewUnacknowledged
few_unacknowledged calls inputs =
    let so = after_all calls inputs in
    few_of (stories_of calls inputs)
    (subst (λ (requests : List HeldRequest). AllByRecursion IsKept requests) so.told so.kept)
