-- An input of a call starts only client transactions, each under the id of its event or of a
-- command whose CANCEL waited; a tick starts none.
use Rattle.std.proofs.Common.{◌≡◌, ℕ, Bool, true, false, List, [], ◌∷◌, refl, sym, subst, ap, ◌∙◌}
use Rattle.std.specs.Prelude.{Option, None, Some}
use Rattle.sip_message.specs.declared.id.Id.{Id}
use Rattle.sip_transactions.specs.declared.output.UpKind.{UpKind}
use Rattle.sip_transactions.specs.declared.output.UpKind.TheVariants as kind
use Rattle.sip_transactions.specs.declared.output.Up.{Up as AnUp}
use Rattle.sip_user.specs.declared.command.UserCommand.{UserCommand}
use Rattle.sip_user.specs.declared.command.UserCommand.TheVariants.{Invite, Plain as PlainCommand, Request, Respond, Ack, Prack, Cancel, AbandonRequest, AbandonDialog}
use Rattle.sip_user.specs.declared.item.CallOut.{CallOut}
use Rattle.sip_user.specs.declared.item.CallOut.TheVariants.{Notice}
use Rattle.sip_user.specs.declared.item.Item.TheVariants.{Up, User}
use Rattle.sip_user.specs.declared.notice.Notice.{Notice as ANotice}
use Rattle.sip_user.specs.declared.notice.Notice.TheVariants as notice
use Rattle.sip_served.specs.Tick as served
use Rattle.sip_held_dialogs.proofs.Starts.{none_of_both, starts}
use Rattle.sip_served.proofs.NoStarts.{kind_starts, respond_starts, tick_starts}
use Rattle.sip_clients.specs.Client.{Side, client_at}
use Rattle.sip_clients.specs.Clients.{request_lost}
use Rattle.sip_clients.specs.Tick.{clients_left, over_notices}
pub use Rattle.sip_clients.proofs.StartBounds.{AllClients, Fits, IsClient, how_many, ids_of, waiting}
pub use Rattle.sip_clients.proofs.FirstInvite.{id_exact}
pub use Rattle.sip_clients.proofs.Tally.{count_option, weight}
use Rattle.sip_clients.proofs.Abandons as abandons
use Rattle.sip_clients.proofs.CommandStarts.{ack_fits, cancel_fits, invite_fits, plain_fits, prack_fits, request_fits}
use Rattle.sip_clients.proofs.ReplyStarts.{response_fits}
use Rattle.sip_clients.proofs.WithoutStarts.{lost_fits, quiet_then, stays_quiet, tick_fits, tick_none}
use Rattle.sip_calls.specs.declared.call.Call.{Call}
use Rattle.sip_calls.specs.declared.calls.Calls.{Calls}
use Rattle.sip_calls.specs.Call.{Taken, CallItem, call_step, event_of, kept, made_tag, new_call}
use Rattle.sip_calls.specs.Provisionals.{event_in, event_of_kind, side_held}
use Rattle.sip_calls.specs.Sides.{CallTaken, side_of}
use Rattle.sip_calls.specs.Steps.Call.{step_taken, command_taken, first_command_taken, lost_taken, ticked, up_taken}
use Rattle.sip_calls.proofs.SameSteps.{same_step}
use Rattle.sip_calls.proofs.KeptSides.{kept_side}

-- the ids of the commands whose CANCEL waits in a call
abbrev pub waiting_in : Option Call → List Id
waiting_in state = waiting (side_held state).clients

abbrev Starts : Option Id → Call → CallTaken → Type 0
Starts event call taken = Fits event call.clients taken.1 (taken.0).clients

-- ---- what comes up

lost_starts : (call : Call) (id : Id) (notice : ANotice) (timed_out : Bool)
    → Starts None call (lost_taken call id notice timed_out)
lost_starts call id notice timed_out =
    let after = request_lost id timed_out (side_of call) in
    quiet_then None call.clients (Notice notice ∷ []) after.1 (after.0).clients refl
    (lost_fits id timed_out (client_at id call.clients) (side_of call))

up_starts : (call : Call) (calls : Calls) (id : Id) (now : ℕ) (up : AnUp) (k : UpKind)
    → Starts (event_of_kind id k) call (up_taken call (event_of calls id now) up k)
up_starts call calls id now up (kind.Request request reply_to) =
    let of = event_of calls id now in
    let k = kind.Request request reply_to in
    stays_quiet (Some id) call.clients (up_taken call of up k).1
    (kind_starts call.served (made_tag of) up k now)
up_starts call calls id now up (kind.Ack ack) =
    stays_quiet (Some id) call.clients (up_taken call (event_of calls id now) up (kind.Ack ack)).1
    (kind_starts call.served [] up (kind.Ack ack) now)
up_starts call calls id now up (kind.Response response) =
    response_fits (event_of calls id now) up.id up.call_id response (side_of call)
up_starts call calls id now up kind.Timeout =
    lost_starts call up.id (notice.Timeout up.call_id up.id) true
up_starts call calls id now up kind.Failed =
    lost_starts call up.id (notice.Failed up.call_id up.id) false

-- ---- commands of the user, and a tick

-- a refusal starts nothing
refused_starts : (call : Call) (id : Id) (outs : List CallOut) → starts outs ≡ []
    → Starts (Some id) call (call, outs)
refused_starts call id outs none = stays_quiet (Some id) call.clients outs none

first_command_starts : (call : Call) (calls : Calls) (id : Id) (now : ℕ) (command : UserCommand)
    → Starts (Some id) call (first_command_taken call (event_of calls id now) command)
first_command_starts call calls id now (Invite invite) =
    invite_fits (event_of calls id now) invite call.clients
first_command_starts call calls id now (PlainCommand plain) =
    plain_fits (event_of calls id now) plain call.clients
first_command_starts call calls id now (Request request) = refused_starts call id _ refl
first_command_starts call calls id now (Respond respond) = refused_starts call id _ refl
first_command_starts call calls id now (Ack ack) = refused_starts call id _ refl
first_command_starts call calls id now (Prack prack) = refused_starts call id _ refl
first_command_starts call calls id now (Cancel cancel) = refused_starts call id _ refl
first_command_starts call calls id now (AbandonRequest abandon) = refused_starts call id _ refl
first_command_starts call calls id now (AbandonDialog abandon) = refused_starts call id _ refl

command_starts : (call : Call) (calls : Calls) (id : Id) (now : ℕ) (command : UserCommand)
    → Starts (Some id) call (command_taken call (event_of calls id now) command)
command_starts call calls id now (Invite invite) = refused_starts call id _ refl
command_starts call calls id now (PlainCommand plain) = refused_starts call id _ refl
command_starts call calls id now (Request request) =
    request_fits (event_of calls id now) request (side_of call)
command_starts call calls id now (Respond respond) =
    stays_quiet (Some id) call.clients
    (command_taken call (event_of calls id now) (Respond respond)).1
    (respond_starts call.served id respond now)
command_starts call calls id now (Ack ack) = ack_fits (event_of calls id now) ack (side_of call)
command_starts call calls id now (Prack prack) =
    prack_fits (event_of calls id now) prack (side_of call)
command_starts call calls id now (Cancel cancel) =
    cancel_fits (event_of calls id now) cancel (side_of call)
command_starts call calls id now (AbandonRequest abandon) =
    abandons.request_fits (event_of calls id now) abandon (side_of call)
command_starts call calls id now (AbandonDialog abandon) =
    abandons.dialog_fits (event_of calls id now) abandon (side_of call)

pub tick_silent_of : (call : Call) (now : ℕ) → starts (ticked call now).1 ≡ []
tick_silent_of call now =
    let first = served.tick_taken call.served now in
    none_of_both first.1 (over_notices now (first.0).dialogs call.clients)
    (tick_starts call.served now) (tick_none now (first.0).dialogs call.clients)

ticked_starts : (call : Call) (now : ℕ) → Starts None call (ticked call now)
ticked_starts call now =
    let first = served.tick_taken call.served now in
    quiet_then None call.clients first.1 (over_notices now (first.0).dialogs call.clients)
    (clients_left now call.clients) (tick_starts call.served now)
    (tick_fits now (first.0).dialogs call.clients)

-- ---- all of it

abbrev pub StartsBy : Option Id → Option Call → Option Call × List CallOut → Type 0
StartsBy event state taken =
    Fits event (side_held state).clients taken.1 (side_held taken.0).clients

kept_starts : (event : Option Id) (call : Call) (taken : CallTaken) → Starts event call taken
    → Fits event call.clients (kept taken).1 (side_held (kept taken).0).clients
kept_starts event call taken fits =
    subst (λ (side : Side). Fits event call.clients taken.1 side.clients)
    (sym (kept_side taken.0)) fits

call_starts_taken : (calls : Calls) (state : Option Call) (input : Option CallItem) (now : ℕ)
    → StartsBy (event_in input) state (step_taken calls state input now)
call_starts_taken calls None None now = stays_quiet None [] [] refl
call_starts_taken calls (Some call) None now =
    kept_starts None call (ticked call now) (ticked_starts call now)
call_starts_taken calls None (Some (id, Up up)) now =
    let call = new_call calls.local in
    kept_starts (event_of_kind id up.kind) call (up_taken call (event_of calls id now) up up.kind)
    (up_starts call calls id now up up.kind)
call_starts_taken calls None (Some (id, User command)) now =
    let call = new_call calls.local in
    kept_starts (Some id) call (first_command_taken call (event_of calls id now) command)
    (first_command_starts call calls id now command)
call_starts_taken calls (Some call) (Some (id, Up up)) now =
    kept_starts (event_of_kind id up.kind) call (up_taken call (event_of calls id now) up up.kind)
    (up_starts call calls id now up up.kind)
call_starts_taken calls (Some call) (Some (id, User command)) now =
    kept_starts (Some id) call (command_taken call (event_of calls id now) command)
    (command_starts call calls id now command)

pub call_starts : (calls : Calls) (state : Option Call) (input : Option CallItem) (now : ℕ)
    → StartsBy (event_in input) state (call_step calls state input now)
call_starts calls state input now =
    subst (λ (taken : Taken). StartsBy (event_in input) state taken)
    (sym (same_step calls state input now)) (call_starts_taken calls state input now)

pub tick_silent : (calls : Calls) (state : Option Call) (now : ℕ)
    → starts (call_step calls state None now).1 ≡ []
tick_silent calls None now = refl
tick_silent calls (Some call) now =
    ap (λ (taken : Taken). starts taken.1) (same_step calls (Some call) None now)
    ∙ tick_silent_of call now
