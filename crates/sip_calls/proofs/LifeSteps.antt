-- Each input of a call: what happens in the dialog of each name, which goes on, ends or is made
-- anew.
use Rattle.std.proofs.Common.{◌≡◌, ℕ, Bool, true, false, not, List, [], ◌++◌, refl, sym, ap, subst, ◌∙◌, append-nil}
use Rattle.std.specs.Prelude.{Option, None, Some}
use Rattle.sip_message.specs.declared.id.Id.{Id}
use Rattle.sip_dialog.specs.Opening.{Opening}
use Rattle.sip_transactions.specs.declared.output.UpKind.{UpKind}
use Rattle.sip_transactions.specs.declared.output.UpKind.TheVariants as kind
use Rattle.sip_transactions.specs.declared.output.Up.{Up as AnUp}
use Rattle.sip_user.specs.declared.command.UserCommand.{UserCommand}
use Rattle.sip_user.specs.declared.command.UserCommand.TheVariants.{Invite, Plain as PlainCommand, Request, Respond, Ack, Prack, Cancel, AbandonRequest, AbandonDialog}
use Rattle.sip_held_dialogs.specs.declared.held_dialog.DialogId.{DialogId}
use Rattle.sip_held_dialogs.specs.declared.held_dialog.HeldDialog.{HeldDialog}
use Rattle.sip_user.specs.declared.item.CallOut.{CallOut}
use Rattle.sip_user.specs.declared.item.Item.TheVariants.{Up, User}
use Rattle.sip_user.specs.declared.notice.Notice.{Notice}
use Rattle.sip_user.specs.declared.notice.Notice.TheVariants as notice
use Rattle.sip_held_dialogs.specs.Dialogs.{Dialogs, dialog_at, is_dialog_id}
use Rattle.sip_held_dialogs.specs.Sent.{cseqs_in, number_before, sent_in}
use Rattle.sip_held_dialogs.proofs.Entries.{none_apart}
use Rattle.sip_held_dialogs.proofs.Heard.{AreApart, Leads, Lives, Moves, leads_filtered, leads_same, moves_as, moves_led, none_came, quiet}
use Rattle.sip_held_dialogs.proofs.Starts.{none_sent, numbered_silent, starts}
use Rattle.sip_served.specs.Happenings.{accepts, answer_confirms, answer_opens}
use Rattle.sip_served.proofs.DialogSteps.{ack_leads as server_ack, request_leads as server_request, respond_moves}
use Rattle.sip_served.proofs.NoStarts.{kind_starts, respond_starts}
use Rattle.sip_clients.specs.Client.{Side, client_at}
use Rattle.sip_clients.specs.Tick.{ends_early_at}
use Rattle.sip_clients.proofs.Abandons as abandons
use Rattle.sip_clients.proofs.ClientLives.{ack_lives, cancel_lives, lost_lives, prack_lives, request_lives, response_lives}
use Rattle.sip_clients.proofs.DialogSends.{AreNamed, AreNumbered, Sends, by_outs, sends_none, silent_outs}
use Rattle.sip_calls.specs.declared.call.Call.{Call}
use Rattle.sip_calls.specs.declared.calls.Calls.{Calls}
use Rattle.sip_calls.specs.Call.{Taken, CallItem, call_step, event_of, kept, made_tag, new_call}
use Rattle.sip_calls.specs.Histories.{brought_by_command, brought_by_kind, happens_in, opening_by_command, opening_by_kind, opening_in}
use Rattle.sip_calls.specs.Provisionals.{event_in, event_of_kind, side_held}
use Rattle.sip_calls.specs.Sides.{CallTaken, side_of}
use Rattle.sip_calls.specs.Steps.Call.{step_taken, command_taken, first_command_taken, lost_taken, ticked, up_taken}
use Rattle.sip_calls.proofs.SameSteps.{same_step}
use Rattle.sip_calls.proofs.CallStarts.{tick_silent_of}
use Rattle.sip_calls.proofs.KeptSides.{kept_side}

abbrev pub dialogs_of : Call → Dialogs
dialogs_of call = (call.served).dialogs

-- what comes, and what goes out
abbrev with_outs : Lives → List CallOut → Lives
with_outs brought outs name held = brought name held ++ sent_in name outs

-- the dialogs after these outputs, whatever RSeq came; the requests that go out have the next
-- numbers
abbrev pub MovesTo : Option Id → Option Opening → Lives → List CallOut → Dialogs → Dialogs → Type 0
MovesTo event start lives outs before after = (came : DialogId → Option ℕ)
    × Moves event start came lives (λ name. sent_in name outs) before after
    × AreNumbered start before outs

abbrev Step : Option Id → Option Opening → Lives → Call → CallTaken → Type 0
Step event start brought call taken =
    MovesTo event start (with_outs brought taken.1) taken.1 (dialogs_of call) (dialogs_of taken.0)

led : (event : Option Id) (lives : Lives) (outs : List CallOut) (before after : Dialogs)
    → Leads lives before after → AreNumbered None before outs
    → MovesTo event None lives outs before after
led event lives outs before after leads numbered =
    (none_came, moves_led event None (λ name. sent_in name outs) lives before after leads, numbered)

-- if nothing goes out
without_outs : (event : Option Id) (start : Option Opening) (brought : Lives) (call : Call)
    (taken : CallTaken) → starts taken.1 ≡ []
    → Moves event start none_came brought (λ name. []) (dialogs_of call) (dialogs_of taken.0)
    → Step event start brought call taken
without_outs event start brought call taken none moves = (
  none_came,
  moves_as event start none_came brought (with_outs brought taken.1) (λ name. [])
      (λ name. sent_in name taken.1) (dialogs_of call) (dialogs_of taken.0)
      (λ name held at. sym (ap (λ xs. brought name held ++ xs) (none_sent name taken.1 none)
      ∙ append-nil (brought name held)))
      (λ name. sym (none_sent name taken.1 none)) moves,
  λ name. numbered_silent (number_before start (dialog_at name (dialogs_of call))) name taken.1
      none,
)

-- ---- what comes up

lost_step : (call : Call) (id : Id) (notice : Notice) (timed_out : Bool)
    → AreApart (dialogs_of call)
    → Step None None quiet call (lost_taken call id notice timed_out)
lost_step call id notice timed_out apart =
    let taken = lost_taken call id notice timed_out in
    let sends = lost_lives id timed_out (client_at id call.clients) (side_of call) apart in
    led None (with_outs quiet taken.1) taken.1 (dialogs_of call) (dialogs_of taken.0) sends.leads
    sends.numbered

up_step : (call : Call) (calls : Calls) (id : Id) (now : ℕ) (up : AnUp) (k : UpKind)
    → AreApart (dialogs_of call) → AreNamed (dialogs_of call)
    → Step (event_of_kind id k) (opening_by_kind call up.id k) (brought_by_kind call up.id k) call
    (up_taken call (event_of calls id now) up k)
up_step call calls id now up (kind.Request request reply_to) apart named =
    let of = event_of calls id now in
    let k = kind.Request request reply_to in
    let tag = made_tag of in
    let taken = up_taken call of up k in
    without_outs (Some id) None (accepts request) call taken
    (kind_starts call.served tag up k now)
    (moves_led (Some id) None (λ name. []) (accepts request) (dialogs_of call) (dialogs_of taken.0)
    (server_request call.served tag up request reply_to now apart))
up_step call calls id now up (kind.Ack ack) apart named =
    let k = kind.Ack ack in
    let taken = up_taken call (event_of calls id now) up k in
    without_outs (Some id) None quiet call taken (kind_starts call.served [] up k now)
    (moves_led (Some id) None (λ name. []) quiet (dialogs_of call) (dialogs_of taken.0)
    (server_ack call.served up.call_id ack apart))
up_step call calls id now up (kind.Response response) apart named =
    response_lives (event_of calls id now) up.id up.call_id response (side_of call) apart named
up_step call calls id now up kind.Timeout apart named =
    lost_step call up.id (notice.Timeout up.call_id up.id) true apart
up_step call calls id now up kind.Failed apart named =
    lost_step call up.id (notice.Failed up.call_id up.id) false apart

-- ---- a command of the user, and a tick

command_sends : (id : Id) (call : Call) (taken : CallTaken)
    → Sends taken.1 (dialogs_of call) (dialogs_of taken.0)
    → Step (Some id) None quiet call taken
command_sends id call taken sends =
    led (Some id) (with_outs quiet taken.1) taken.1 (dialogs_of call) (dialogs_of taken.0)
    sends.leads sends.numbered

-- a command that is refused, since the call is held
command_refused : (id : Id) (call : Call) (outs : List CallOut)
    → ((name : DialogId) → [] ≡ cseqs_in name outs) → AreApart (dialogs_of call)
    → Step (Some id) None quiet call (call, outs)
command_refused id call outs none apart =
    command_sends id call (call, outs)
    (sends_none outs none (dialogs_of call) (dialogs_of call) (leads_same (dialogs_of call) apart))

command_step : (call : Call) (calls : Calls) (id : Id) (now : ℕ) (command : UserCommand)
    → AreApart (dialogs_of call) → AreNamed (dialogs_of call)
    → Step (Some id) (opening_by_command call command)
    (λ name held. brought_by_command call command
    (command_taken call (event_of calls id now) command).1 name held) call
    (command_taken call (event_of calls id now) command)
command_step call calls id now (Invite invite) apart named =
    command_refused id call (command_taken call (event_of calls id now) (Invite invite)).1
    (λ name. refl) apart
command_step call calls id now (PlainCommand plain) apart named =
    command_refused id call (command_taken call (event_of calls id now) (PlainCommand plain)).1
    (λ name. refl) apart
command_step call calls id now (Request request) apart named =
    command_sends id call (command_taken call (event_of calls id now) (Request request))
    (request_lives (event_of calls id now) (side_of call) apart named request)
command_step call calls id now (Respond respond) apart named =
    let taken = command_taken call (event_of calls id now) (Respond respond) in
    without_outs (Some id) (answer_opens call.served respond)
    (answer_confirms call.served respond taken.1) call taken
    (respond_starts call.served id respond now)
    (respond_moves id call.served respond now apart)
command_step call calls id now (Ack ack) apart named =
    command_sends id call (command_taken call (event_of calls id now) (Ack ack))
    (ack_lives (event_of calls id now) (side_of call) apart named ack)
command_step call calls id now (Prack prack) apart named =
    command_sends id call (command_taken call (event_of calls id now) (Prack prack))
    (prack_lives (event_of calls id now) (side_of call) apart named prack)
command_step call calls id now (Cancel cancel) apart named =
    command_sends id call (command_taken call (event_of calls id now) (Cancel cancel))
    (cancel_lives (event_of calls id now) (side_of call) apart named cancel)
command_step call calls id now (AbandonRequest abandon) apart named =
    command_sends id call (command_taken call (event_of calls id now) (AbandonRequest abandon))
    (abandons.request_lives (event_of calls id now) abandon (side_of call) apart)
command_step call calls id now (AbandonDialog abandon) apart named =
    command_sends id call (command_taken call (event_of calls id now) (AbandonDialog abandon))
    (abandons.dialog_lives (event_of calls id now) abandon (side_of call) apart)

tick_step : (call : Call) (now : ℕ) → AreApart (dialogs_of call)
    → MovesTo None None (by_outs (ticked call now).1) (ticked call now).1 (dialogs_of call)
    (dialogs_of (ticked call now).0)
tick_step call now apart =
    let taken = ticked call now in
    let sends = silent_outs taken.1 (tick_silent_of call now) (dialogs_of call) (dialogs_of taken.0)
    (leads_filtered (λ held. not (ends_early_at now call.clients held)) (dialogs_of call) apart) in
    led None (by_outs taken.1) taken.1 (dialogs_of call) (dialogs_of taken.0) sends.leads
    sends.numbered

-- ---- a call under which nothing is held

none_held : (event : Option Id) (lives : Lives) (outs : List CallOut)
    → MovesTo event None lives outs [] []
none_held event lives outs =
    led event lives outs [] [] record { apart = none_apart is_dialog_id; stays = λ name. tt }
    (λ name. tt)

no_opening : (local : Calls) (id : Id) (k : UpKind)
    → opening_by_kind (new_call local.local) id k ≡ None
no_opening local id (kind.Request request reply_to) = refl
no_opening local id (kind.Ack ack) = refl
no_opening local id (kind.Response response) = refl
no_opening local id kind.Timeout = refl
no_opening local id kind.Failed = refl

-- if no dialog is held, anything may be said to happen in it
of_none : (event : Option Id) (start : Option Opening) (lives others : Lives)
    (outs : List CallOut) (after : Dialogs) → start ≡ None → MovesTo event start lives outs [] after
    → MovesTo event None others outs [] after
of_none event start lives others outs after none moves = (
  moves.0,
  moves_as event None moves.0 lives others (λ name. sent_in name outs) (λ name. sent_in name outs)
      [] after (λ name held at. absurd (never held at)) (λ name. refl)
      (subst (λ (o : Option Opening). Moves event o moves.0 lives (λ name. sent_in name outs) []
      after) none moves.1),
  λ name. tt,
)
  where
    never : (held : HeldDialog) → None ≡ Some held → ⊥
    never held e = absurd cc

pub first_none : (calls : Calls) (id : Id) (now : ℕ) (command : UserCommand)
    → [] ≡ dialogs_of (first_command_taken (new_call calls.local) (event_of calls id now) command).0
first_none calls id now (Invite invite) = refl
first_none calls id now (PlainCommand plain) = refl
first_none calls id now (Request request) = refl
first_none calls id now (Respond respond) = refl
first_none calls id now (Ack ack) = refl
first_none calls id now (Prack prack) = refl
first_none calls id now (Cancel cancel) = refl
first_none calls id now (AbandonRequest abandon) = refl
first_none calls id now (AbandonDialog abandon) = refl

first_command : (calls : Calls) (id : Id) (now : ℕ) (command : UserCommand)
    → MovesTo (Some id) None
    (by_outs (first_command_taken (new_call calls.local) (event_of calls id now) command).1)
    (first_command_taken (new_call calls.local) (event_of calls id now) command).1 []
    (dialogs_of (first_command_taken (new_call calls.local) (event_of calls id now) command).0)
first_command calls id now command =
    let outs = (first_command_taken (new_call calls.local) (event_of calls id now) command).1 in
    subst (λ (after : Dialogs). MovesTo (Some id) None (by_outs outs) outs [] after)
    (first_none calls id now command) (none_held (Some id) (by_outs outs) outs)

-- ---- all of it

abbrev pub InputMoves : Option Call → Option CallItem → Option Call × List CallOut → Type 0
InputMoves state input taken = MovesTo (event_in input) (opening_in state input)
    (happens_in state input taken.1) taken.1 (side_held state).dialogs (side_held taken.0).dialogs

kept_step : (event : Option Id) (start : Option Opening) (lives : Lives) (before : Dialogs)
    (taken : CallTaken) → MovesTo event start lives taken.1 before (dialogs_of taken.0)
    → MovesTo event start lives taken.1 before (side_held (kept taken).0).dialogs
kept_step event start lives before taken step =
    subst (λ (side : Side). MovesTo event start lives taken.1 before side.dialogs)
    (sym (kept_side taken.0)) step

by_input_taken : (calls : Calls) (state : Option Call) (input : Option CallItem) (now : ℕ)
    → AreApart (side_held state).dialogs → AreNamed (side_held state).dialogs
    → InputMoves state input (step_taken calls state input now)
by_input_taken calls None None now apart named = none_held None (by_outs []) []
by_input_taken calls (Some call) None now apart named =
    let taken = ticked call now in
    kept_step None None (by_outs taken.1) (dialogs_of call) taken (tick_step call now apart)
by_input_taken calls None (Some (id, Up up)) now apart named =
    let call = new_call calls.local in
    let taken = up_taken call (event_of calls id now) up up.kind in
    kept_step (event_of_kind id up.kind) None (by_outs taken.1) [] taken
    (of_none (event_of_kind id up.kind) (opening_by_kind call up.id up.kind)
    (with_outs (brought_by_kind call up.id up.kind) taken.1) (by_outs taken.1) taken.1
    (dialogs_of taken.0) (no_opening calls up.id up.kind)
    (up_step call calls id now up up.kind apart named))
by_input_taken calls None (Some (id, User command)) now apart named =
    let taken = first_command_taken (new_call calls.local) (event_of calls id now) command in
    kept_step (Some id) None (by_outs taken.1) [] taken (first_command calls id now command)
by_input_taken calls (Some call) (Some (id, Up up)) now apart named =
    let taken = up_taken call (event_of calls id now) up up.kind in
    kept_step (event_of_kind id up.kind) (opening_by_kind call up.id up.kind)
    (with_outs (brought_by_kind call up.id up.kind) taken.1) (dialogs_of call) taken
    (up_step call calls id now up up.kind apart named)
by_input_taken calls (Some call) (Some (id, User command)) now apart named =
    let taken = command_taken call (event_of calls id now) command in
    kept_step (Some id) (opening_by_command call command)
    (with_outs (λ name held. brought_by_command call command taken.1 name held) taken.1)
    (dialogs_of call) taken
    (command_step call calls id now command apart named)

pub by_input : (calls : Calls) (state : Option Call) (input : Option CallItem) (now : ℕ)
    → AreApart (side_held state).dialogs → AreNamed (side_held state).dialogs
    → InputMoves state input (call_step calls state input now)
by_input calls state input now apart named =
    subst (λ (taken : Taken). InputMoves state input taken) (sym (same_step calls state input now))
    (by_input_taken calls state input now apart named)
