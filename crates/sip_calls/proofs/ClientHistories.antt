-- For all inputs of a call: the held client requests are what their stories say.
use Rattle.std.proofs.Common.{◌≡◌, ℕ, true, false, List, [], ◌∷◌, ◌++◌, refl, sym, subst}
use Rattle.std.specs.Prelude.{Option, None, Some}
use Rattle.std.specs.List.{AllByRecursion}
use Rattle.keyed_machine.specs.Machine.{Timed}
use Rattle.sip_message.specs.declared.id.Id.{Id}
use Rattle.sip_transactions.specs.declared.output.UpKind.{UpKind}
use Rattle.sip_transactions.specs.declared.output.UpKind.TheVariants as kind
use Rattle.sip_transactions.specs.declared.output.Up.{Up as AnUp}
use Rattle.sip_user.specs.declared.command.UserCommand.{UserCommand}
use Rattle.sip_user.specs.declared.command.UserCommand.TheVariants.{Invite, Plain as PlainCommand, Request, Respond, Ack, Prack, Cancel, AbandonRequest, AbandonDialog}
use Rattle.sip_held_dialogs.specs.declared.held_dialog.DialogId.{DialogId}
use Rattle.sip_user.specs.declared.item.CallOut.{CallOut}
use Rattle.sip_user.specs.declared.item.Item.TheVariants.{Up, User}
use Rattle.sip_served.specs.Tick as served
use Rattle.sip_clients.specs.declared.answers.SentAck.{SentAck}
use Rattle.sip_clients.specs.declared.event.Event.{Event}
use Rattle.sip_clients.specs.Answers.{ack_of}
use Rattle.sip_clients.specs.Cancel.{cancel_by_user}
use Rattle.sip_clients.specs.Client.{Clients, Side, ClientTaken}
use Rattle.sip_clients.specs.ClientLife.{ClientHappening, Outgoing, SendsAckAgain, SendsCancel}
use Rattle.sip_clients.specs.ClientRules.{AllLive, AllWait, EachFits, Fits, HoldsRules, IsCancelOf, KeepsWaiting}
use Rattle.sip_clients.specs.ClientStory.{ClientStory, answers_of}
use Rattle.sip_clients.specs.ClientTelling.{ClientStories, AreTold, abandon_told, HoldsStories, ack_told, cancel_told, in_dialog_told, invite_told, lost_told, plain_told, response_told, ticked_told}
use Rattle.sip_clients.specs.Clients.{ack_by_user, invite_taken, plain_taken, prack_by_user, request_by_user, request_lost, response_taken}
use Rattle.sip_clients.specs.Commands.{name_in}
use Rattle.sip_clients.specs.OwnCall.{on_side}
use Rattle.sip_clients.specs.Tick.{clients_ticked}
use Rattle.sip_clients.proofs.Abandons as abandons
use Rattle.sip_clients.specs.Abandon.{dialog_abandoned, request_abandoned}
use Rattle.sip_clients.proofs.CommandStories.{ack_holds, ack_rules, cancel_holds, cancel_rules, invite_holds, invite_rules, lost_holds, lost_rules, plain_holds, plain_rules, prack_holds, prack_rules, request_holds, request_rules, tick_holds, tick_rules}
use Rattle.sip_clients.proofs.ReplyStories.{response_holds, response_rules}
use Rattle.sip_clients.proofs.StoryFits.{fits_at}
use Rattle.sip_clients.proofs.Waiting.{ack_waits, cancel_waits, invite_waits, lost_waits, plain_waits, prack_waits, request_waits, response_waits, tick_waits}
use Rattle.sip_calls.specs.declared.call.Call.{Call}
use Rattle.sip_calls.specs.declared.calls.Calls.{Calls}
use Rattle.sip_calls.specs.Call.{Taken, CallItem, call_step, event_of, kept, new_call}
use Rattle.sip_calls.specs.ClientHistories.{CancelsOnce, HoldsClientStories, RepeatsItsAck, WaitsAsAsked, client_stories, told_by_command, told_by_input, told_by_kind, told_from, told_next}
use Rattle.sip_calls.specs.Histories.{call_from}
use Rattle.sip_calls.specs.Provisionals.{side_held}
use Rattle.sip_calls.specs.Sides.{CallTaken, by_server, side_of}
use Rattle.sip_calls.specs.Steps.Call.{step_taken, command_taken, first_command_taken, ticked, up_taken}
use Rattle.sip_calls.proofs.SameSteps.{same_step}
use Rattle.sip_calls.proofs.KeptSides.{kept_side}

-- ---- one input

-- what is held is what the stories say, and what happens to each is allowed by what happened before
record AreSo (clients : Clients) (stories : ClientStories) : Type 0 where
  pub told : AreTold clients stories
  pub lived : AllLive stories
  pub waits : AllWait clients

abbrev GoesOn : (Side → ClientTaken) → (Side → List CallOut → ClientStories → ClientStories)
    → Type 0
GoesOn step telling = (side : Side) (stories : ClientStories) → AreSo side.clients stories
    → AreSo ((step side).0).clients (telling side (step side).1 stories)

goes_on : (step : Side → ClientTaken)
    (telling : Side → List CallOut → ClientStories → ClientStories) → HoldsStories step telling
    → HoldsRules step telling → KeepsWaiting step → GoesOn step telling
goes_on step telling holds keeps waits side stories so = record {
  told = holds side stories so.told;
  lived = keeps side stories so.told so.lived;
  waits = waits side so.waits;
}

up_so : (call : Call) (event : Event) (up : AnUp) (k : UpKind) (stories : ClientStories)
    → AreSo call.clients stories
    → let taken = up_taken call event up k in
    AreSo (taken.0).clients (told_by_kind (side_of call) event up k taken.1 stories)
up_so call event up (kind.Request request reply_to) stories so = so
up_so call event up (kind.Ack ack) stories so = so
up_so call event up (kind.Response response) stories so =
    goes_on (response_taken event up.id up.call_id response)
    (λ side outs stories. response_told event up.id response side outs stories)
    (response_holds event up.id up.call_id response)
    (response_rules event up.id up.call_id response)
    (response_waits event up.id up.call_id response) (side_of call) stories so
up_so call event up kind.Timeout stories so =
    goes_on (request_lost up.id true) (λ side outs stories. lost_told up.id stories)
    (lost_holds up.id true) (lost_rules up.id true) (lost_waits up.id true) (side_of call) stories
    so
up_so call event up kind.Failed stories so =
    goes_on (request_lost up.id false) (λ side outs stories. lost_told up.id stories)
    (lost_holds up.id false) (lost_rules up.id false) (lost_waits up.id false) (side_of call)
    stories so

command_so : (call : Call) (event : Event) (command : UserCommand) (stories : ClientStories)
    → AreSo call.clients stories
    → let taken = command_taken call event command in
    AreSo (taken.0).clients (told_by_command (side_of call) event command taken.1 stories)
command_so call event (Invite invite) stories so = so
command_so call event (PlainCommand plain) stories so = so
command_so call event (Request request) stories so =
    goes_on (request_by_user event request) (λ side outs stories.
    in_dialog_told event (name_in request.local_tag request.remote_tag) side outs stories)
    (request_holds event request) (request_rules event request) (request_waits event request)
    (side_of call) stories so
command_so call event (Respond respond) stories so = so
command_so call event (Ack ack) stories so =
    goes_on (ack_by_user event ack) (λ side outs stories. ack_told ack side outs stories)
    (ack_holds event ack) (ack_rules event ack) (ack_waits event ack) (side_of call) stories so
command_so call event (Prack prack) stories so =
    goes_on (prack_by_user event prack) (λ side outs stories.
    in_dialog_told event (name_in prack.local_tag prack.remote_tag) side outs stories)
    (prack_holds event prack) (prack_rules event prack) (prack_waits event prack) (side_of call)
    stories so
command_so call event (Cancel cancel) stories so =
    goes_on (cancel_by_user event cancel)
    (λ side outs stories. cancel_told event cancel outs stories)
    (cancel_holds event cancel) (cancel_rules event cancel) (cancel_waits event cancel)
    (side_of call) stories so
command_so call event (AbandonRequest abandon) stories so =
    goes_on (request_abandoned event abandon)
    (λ side outs stories. abandon_told abandon outs stories)
    (abandons.request_holds event abandon) (abandons.request_rules event abandon)
    (abandons.request_waits event abandon) (side_of call) stories so
command_so call event (AbandonDialog abandon) stories so =
    goes_on (dialog_abandoned event abandon) (λ side outs stories. stories)
    (abandons.dialog_holds event abandon) (abandons.dialog_rules event abandon)
    (abandons.dialog_waits event abandon) (side_of call) stories so

-- if nothing is held
first_so : (calls : Calls) (event : Event) (command : UserCommand) (stories : ClientStories)
    → AreSo [] stories
    → let call = new_call calls.local in
    let taken = first_command_taken call event command in
    AreSo (taken.0).clients (told_by_command (side_of call) event command taken.1 stories)
first_so calls event (Invite invite) stories so =
    goes_on (on_side (invite_taken event invite)) (λ side outs stories. invite_told outs stories)
    (invite_holds event invite) (invite_rules event invite) (invite_waits event invite)
    (side_of (new_call calls.local)) stories
    so
first_so calls event (PlainCommand plain) stories so =
    goes_on (on_side (plain_taken event plain)) (λ side outs stories. plain_told outs stories)
    (plain_holds event plain) (plain_rules event plain) (plain_waits event plain)
    (side_of (new_call calls.local)) stories so
first_so calls event (Request request) stories so = so
first_so calls event (Respond respond) stories so = so
first_so calls event (Ack ack) stories so = so
first_so calls event (Prack prack) stories so = so
first_so calls event (Cancel cancel) stories so = so
first_so calls event (AbandonRequest abandon) stories so = so
first_so calls event (AbandonDialog abandon) stories so = so

kept_so : (taken : CallTaken) (stories : ClientStories) → AreSo (taken.0).clients stories
    → AreSo (side_held (kept taken).0).clients stories
kept_so taken stories so =
    subst (λ (side : Side). AreSo side.clients stories) (sym (kept_side taken.0)) so

tick_so : (now : ℕ)
    → GoesOn (λ side. clients_ticked side now) (λ side outs stories. ticked_told now stories)
tick_so now =
    goes_on (λ side. clients_ticked side now) (λ side outs stories. ticked_told now stories)
    (tick_holds now) (tick_rules now) (tick_waits now)

input_so_taken : (calls : Calls) (state : Option Call) (input : Option CallItem) (now : ℕ)
    (stories : ClientStories) → AreSo (side_held state).clients stories
    → let taken = step_taken calls state input now in
    AreSo (side_held taken.0).clients
    (told_by_input calls (side_held state) input now taken.1 stories)
input_so_taken calls None None now stories so = tick_so now (side_held None) stories so
input_so_taken calls (Some call) None now stories so =
    let after = by_server call (served.tick_taken call.served now) in
    kept_so (ticked call now) (ticked_told now stories)
    (tick_so now (side_of after.0) stories so)
input_so_taken calls None (Some (id, Up up)) now stories so =
    let call = new_call calls.local in
    let event = event_of calls id now in
    let taken = up_taken call event up up.kind in
    kept_so taken (told_by_kind (side_of call) event up up.kind taken.1 stories)
    (up_so call event up up.kind stories so)
input_so_taken calls None (Some (id, User command)) now stories so =
    let call = new_call calls.local in
    let event = event_of calls id now in
    let taken = first_command_taken call event command in
    kept_so taken (told_by_command (side_of call) event command taken.1 stories)
    (first_so calls event command stories so)
input_so_taken calls (Some call) (Some (id, Up up)) now stories so =
    let event = event_of calls id now in
    let taken = up_taken call event up up.kind in
    kept_so taken (told_by_kind (side_of call) event up up.kind taken.1 stories)
    (up_so call event up up.kind stories so)
input_so_taken calls (Some call) (Some (id, User command)) now stories so =
    let event = event_of calls id now in
    let taken = command_taken call event command in
    kept_so taken (told_by_command (side_of call) event command taken.1 stories)
    (command_so call event command stories so)

input_so : (calls : Calls) (state : Option Call) (input : Option CallItem) (now : ℕ)
    (stories : ClientStories) → AreSo (side_held state).clients stories
    → let taken = call_step calls state input now in
    AreSo (side_held taken.0).clients
    (told_by_input calls (side_held state) input now taken.1 stories)
input_so calls state input now stories so =
    subst (λ (taken : Taken). AreSo (side_held taken.0).clients
    (told_by_input calls (side_held state) input now taken.1 stories))
    (sym (same_step calls state input now)) (input_so_taken calls state input now stories so)

-- ---- all inputs

from : (calls : Calls) (inputs : List (Timed CallItem)) (state : Option Call)
    (stories : ClientStories) → AreSo (side_held state).clients stories
    → AreSo (side_held (call_from calls state inputs)).clients
    (told_from calls state stories inputs)
from calls [] state stories so = so
from calls (input ∷ inputs) state stories so =
    from calls inputs (call_step calls state input.input input.moment).0
    (told_next calls state stories input)
    (input_so calls state input.input input.moment stories so)

after_all : (calls : Calls) (inputs : List (Timed CallItem))
    → AreSo (side_held (call_from calls None inputs)).clients (client_stories calls inputs)
after_all calls inputs = from calls inputs None [] record { told = refl; lived = tt; waits = tt }

pub holds_client_stories : HoldsClientStories
holds_client_stories calls inputs = (after_all calls inputs).told

-- a law of each happening, after those before it
each_story : (P : ClientStory → Type 0)
    → ((story : ClientStory) → EachFits story [] story.life → P story)
    → (stories : ClientStories) → AllLive stories
    → AllByRecursion (λ (entry : Id × ClientStory). P entry.1) stories
each_story P so [] all = tt
each_story P so (entry ∷ stories) all = (so entry.1 all.0, each_story P so stories all.1)

split_fits : (story : ClientStory) (before later : List ClientHappening) (h : ClientHappening)
    → EachFits story [] story.life → story.life ≡ before ++ h ∷ later → Fits story before h
split_fits story before later h fits is =
    fits_at story [] before later h
    (subst (λ life. EachFits story [] life) is fits)

pub cancels_once : CancelsOnce
cancels_once calls inputs =
    each_story (λ story. (before later : List ClientHappening) (cancel : Outgoing)
    → story.life ≡ before ++ SendsCancel cancel ∷ later → IsCancelOf story before cancel)
    (λ story fits before later cancel is.
    split_fits story before later (SendsCancel cancel) fits is)
    (client_stories calls inputs) (after_all calls inputs).lived

pub repeats_its_ack : RepeatsItsAck
repeats_its_ack calls inputs =
    each_story (λ story. (before later : List ClientHappening) (name : DialogId) (ack : SentAck)
    → story.life ≡ before ++ SendsAckAgain name ack ∷ later
    → ack_of name (answers_of before) ≡ Some ack)
    (λ story fits before later name ack is.
    split_fits story before later (SendsAckAgain name ack) fits is)
    (client_stories calls inputs) (after_all calls inputs).lived

pub waits_as_asked : WaitsAsAsked
waits_as_asked calls inputs = (after_all calls inputs).waits
