-- Each input of a call: which dialogs it opens and ends, and that each end is told once.
use Rattle.std.proofs.Common.{◌≡◌, inl, inr, ℕ, ◌+◌, ◌≤◌, Bool, true, false, not, ◌&&◌, ◌||◌, List, [], ◌∷◌, refl, sym, ap, subst, ◌∙◌, arith}
use Rattle.std.specs.Prelude.{Option, None, Some, is_some}
use Rattle.keyed_machine.specs.Machine.{Timed}
use Rattle.sip_message.specs.declared.id.Id.{Id}
use Rattle.sip_dialog.specs.Life.{Happening}
use Rattle.sip_dialog.specs.Opening.{Opening, opened}
use Rattle.sip_transactions.specs.declared.output.UpKind.{UpKind}
use Rattle.sip_transactions.specs.declared.output.UpKind.TheVariants as kind
use Rattle.sip_transactions.specs.declared.output.Up.{Up as AnUp}
use Rattle.sip_user.specs.declared.command.UserCommand.{UserCommand}
use Rattle.sip_user.specs.declared.command.UserCommand.TheVariants.{Invite, Plain as PlainCommand, Request, Respond, Ack, Prack, Cancel, AbandonRequest, AbandonDialog}
use Rattle.sip_held_dialogs.specs.declared.held_dialog.DialogId.{DialogId}
use Rattle.sip_held_dialogs.specs.declared.held_dialog.HeldDialog.{HeldDialog}
use Rattle.sip_user.specs.declared.item.CallOut.{CallOut}
use Rattle.sip_user.specs.declared.item.CallOut.TheVariants.{Notice as Tells}
use Rattle.sip_user.specs.declared.item.Item.TheVariants.{Up, User}
use Rattle.sip_user.specs.declared.notice.Notice.TheVariants as notice
use Rattle.sip_held_dialogs.specs.Dialogs.{Dialogs, dialog_at, is_dialog_id}
use Rattle.sip_held_dialogs.specs.Ids.{is_id}
use Rattle.sip_held_dialogs.specs.Sent.{name_of_dialog, sent_in}
use Rattle.sip_held_dialogs.proofs.EndedDialogs.{Goes, Which, ended_of, goes_as, goes_before, goes_same, left_of, lived_name, names_ended, no_name, none_ends, once}
use Rattle.sip_held_dialogs.proofs.Entries.{none_apart}
use Rattle.sip_held_dialogs.proofs.Heard.{AreApart, Goes as Went, Life, OpensBy}
use Rattle.sip_served.specs.Tick.{tick_taken}
use Rattle.sip_served.proofs.Endings.{ack_goes as server_ack, request_goes as server_request, respond_goes, tick_silent}
use Rattle.sip_clients.specs.Client.{Side, client_at}
use Rattle.sip_clients.specs.Clients.{request_lost}
use Rattle.sip_clients.specs.Tick.{clients_ticked, ends_early_at}
use Rattle.sip_clients.proofs.Abandons as abandons
use Rattle.sip_clients.proofs.DialogSends.{AreNamed}
use Rattle.sip_clients.proofs.EndedCommands.{ack_goes, cancel_goes, invite_silent, plain_silent, prack_goes, request_goes}
use Rattle.sip_clients.proofs.EndedKeys.{AreSound, ack_sound, cancel_sound, invite_sound, lost_sound, plain_sound, prack_sound, request_sound, response_sound, sound_tick}
use Rattle.sip_clients.proofs.EndedReplies.{lost_goes, response_goes}
use Rattle.sip_clients.proofs.EndedTicks.{tick_goes}
use Rattle.sip_calls.specs.declared.call.Call.{Call}
use Rattle.sip_calls.specs.declared.calls.Calls.{Calls}
use Rattle.sip_calls.specs.Call.{Taken, CallItem, call_step, event_of, kept, made_tag, new_call}
use Rattle.sip_calls.specs.HeldDialogs.{EachEndHasItsOpening, EachEndIsToldOnce, HeldUntilItEnds, ended_by, ended_by_command, ended_by_kind, ended_by_loss, ends, ends_told, held_from, held_next, held_now, opened_from, told_from, opened_by_command, opened_by_kind, opens}
use Rattle.sip_calls.specs.Histories.{call_from, happens_in, opening_in}
use Rattle.sip_calls.specs.Provisionals.{event_in, side_held}
use Rattle.sip_calls.specs.Sides.{CallTaken, side_of}
use Rattle.sip_calls.specs.Steps.Call.{step_taken, command_taken, first_command_taken, ticked, up_taken}
use Rattle.sip_calls.proofs.SameSteps.{same_step}
use Rattle.sip_calls.proofs.KeptSides.{kept_side}
use Rattle.sip_calls.proofs.LifeSteps.{by_input as moves_by, dialogs_of, first_none}

abbrev Step : (DialogId → Bool) → Which → Call → CallTaken → Type 0
Step opening ending call taken =
    Goes opening ending (dialogs_of call) (dialogs_of taken.0) taken.1

-- ---- what comes up

up_step : (call : Call) (calls : Calls) (id : Id) (now : ℕ) (up : AnUp) (k : UpKind)
    → AreApart (dialogs_of call) → AreNamed (dialogs_of call)
    → Step (opened_by_kind call up.id k) (ended_by_kind call up.id up.key k) call
    (up_taken call (event_of calls id now) up k)
up_step call calls id now up (kind.Request request reply_to) apart named =
    server_request call.served (made_tag (event_of calls id now)) up request reply_to now apart
    named
up_step call calls id now up (kind.Ack ack) apart named =
    server_ack call.served up.call_id ack
up_step call calls id now up (kind.Response response) apart named =
    response_goes (event_of calls id now) up.id up.call_id response (side_of call) apart named
up_step call calls id now up kind.Timeout apart named =
    let done = request_lost up.id true (side_of call) in
    goes_before no_name (ended_by_loss up.id true call.clients) (dialogs_of call) (done.0).dialogs
    (Tells (notice.Timeout up.call_id up.id) ∷ []) done.1 refl
    (lost_goes up.id true (client_at up.id call.clients) (side_of call) apart named)
up_step call calls id now up kind.Failed apart named =
    let done = request_lost up.id false (side_of call) in
    goes_before no_name (ended_by_loss up.id false call.clients) (dialogs_of call) (done.0).dialogs
    (Tells (notice.Failed up.call_id up.id) ∷ []) done.1 refl
    (lost_goes up.id false (client_at up.id call.clients) (side_of call) apart named)

up_sound : (call : Call) (calls : Calls) (id : Id) (now : ℕ) (up : AnUp) (k : UpKind)
    → AreSound call.clients
    → AreSound ((up_taken call (event_of calls id now) up k).0).clients
up_sound call calls id now up (kind.Request request reply_to) sound = sound
up_sound call calls id now up (kind.Ack ack) sound = sound
up_sound call calls id now up (kind.Response response) sound =
    response_sound (event_of calls id now) up.id up.call_id response (side_of call) sound
up_sound call calls id now up kind.Timeout sound =
    lost_sound up.id true (client_at up.id call.clients) (side_of call) sound
up_sound call calls id now up kind.Failed sound =
    lost_sound up.id false (client_at up.id call.clients) (side_of call) sound

-- ---- a command of the user

command_step : (call : Call) (calls : Calls) (id : Id) (now : ℕ) (command : UserCommand)
    → AreApart (dialogs_of call) → AreNamed (dialogs_of call)
    → let taken = command_taken call (event_of calls id now) command in
    Step (opened_by_command call command taken.1) (ended_by_command call command taken.1) call taken
command_step call calls id now (Invite invite) apart named = goes_same (dialogs_of call) _ refl
command_step call calls id now (PlainCommand plain) apart named =
    goes_same (dialogs_of call) _ refl
command_step call calls id now (Request request) apart named =
    request_goes (event_of calls id now) (side_of call) apart named request
command_step call calls id now (Respond respond) apart named =
    respond_goes id call.served respond now apart named
command_step call calls id now (Ack ack) apart named =
    ack_goes (event_of calls id now) ack (side_of call)
command_step call calls id now (Prack prack) apart named =
    prack_goes (event_of calls id now) prack (side_of call)
command_step call calls id now (Cancel cancel) apart named =
    cancel_goes (event_of calls id now) cancel (side_of call)
command_step call calls id now (AbandonRequest abandon) apart named =
    abandons.request_goes (event_of calls id now) abandon (side_of call) apart named
command_step call calls id now (AbandonDialog abandon) apart named =
    abandons.dialog_goes (event_of calls id now) abandon (side_of call) apart named

command_sound : (call : Call) (calls : Calls) (id : Id) (now : ℕ) (command : UserCommand)
    → AreSound call.clients
    → AreSound ((command_taken call (event_of calls id now) command).0).clients
command_sound call calls id now (Invite invite) sound = sound
command_sound call calls id now (PlainCommand plain) sound = sound
command_sound call calls id now (Request request) sound =
    request_sound (event_of calls id now) request (side_of call) sound
command_sound call calls id now (Respond respond) sound = sound
command_sound call calls id now (Ack ack) sound =
    ack_sound (event_of calls id now) ack (side_of call) sound
command_sound call calls id now (Prack prack) sound =
    prack_sound (event_of calls id now) prack (side_of call) sound
command_sound call calls id now (Cancel cancel) sound =
    cancel_sound (event_of calls id now) cancel (side_of call) sound
command_sound call calls id now (AbandonRequest abandon) sound =
    abandons.request_sound (event_of calls id now) abandon (side_of call) sound
command_sound call calls id now (AbandonDialog abandon) sound =
    abandons.dialog_sound (event_of calls id now) abandon (side_of call) sound

-- ---- a call under which nothing is held

first_silent : (calls : Calls) (id : Id) (now : ℕ) (command : UserCommand)
    → names_ended (first_command_taken (new_call calls.local) (event_of calls id now) command).1
    ≡ []
first_silent calls id now (Invite invite) = invite_silent (event_of calls id now) invite []
first_silent calls id now (PlainCommand plain) = plain_silent (event_of calls id now) plain []
first_silent calls id now (Request request) = refl
first_silent calls id now (Respond respond) = refl
first_silent calls id now (Ack ack) = refl
first_silent calls id now (Prack prack) = refl
first_silent calls id now (Cancel cancel) = refl
first_silent calls id now (AbandonRequest abandon) = refl
first_silent calls id now (AbandonDialog abandon) = refl

first_step : (calls : Calls) (id : Id) (now : ℕ) (command : UserCommand)
    → let taken = first_command_taken (new_call calls.local) (event_of calls id now) command in
    Goes no_name none_ends [] (dialogs_of taken.0) taken.1
first_step calls id now command =
    let taken = first_command_taken (new_call calls.local) (event_of calls id now) command in
    subst (λ (after : Dialogs). Goes no_name none_ends [] after taken.1)
    (first_none calls id now command)
    (goes_same [] taken.1 (first_silent calls id now command))

first_sound : (calls : Calls) (id : Id) (now : ℕ) (command : UserCommand) → AreSound []
    → AreSound
    ((first_command_taken (new_call calls.local) (event_of calls id now) command).0).clients
first_sound calls id now (Invite invite) sound =
    invite_sound (event_of calls id now) invite [] sound
first_sound calls id now (PlainCommand plain) sound =
    plain_sound (event_of calls id now) plain [] sound
first_sound calls id now (Request request) sound = sound
first_sound calls id now (Respond respond) sound = sound
first_sound calls id now (Ack ack) sound = sound
first_sound calls id now (Prack prack) sound = sound
first_sound calls id now (Cancel cancel) sound = sound
first_sound calls id now (AbandonRequest abandon) sound = sound
first_sound calls id now (AbandonDialog abandon) sound = sound

no_opening : (local : Calls) (id : Id) (k : UpKind) (name : DialogId)
    → opened_by_kind (new_call local.local) id k name ≡ false
no_opening local id (kind.Request request reply_to) name = refl
no_opening local id (kind.Ack ack) name = refl
no_opening local id (kind.Response response) name = refl
no_opening local id kind.Timeout name = refl
no_opening local id kind.Failed name = refl

-- ---- a tick

tick_step : (call : Call) (now : ℕ) → AreApart (dialogs_of call) → AreNamed (dialogs_of call)
    → AreSound call.clients
    → Step no_name (λ name held. ends_early_at now call.clients held) call (ticked call now)
tick_step call now apart named sound =
    let done = clients_ticked (side_of call) now in
    goes_before no_name (λ name held. ends_early_at now call.clients held) (dialogs_of call)
    (done.0).dialogs (tick_taken call.served now).1 done.1 (tick_silent call.served now)
    (tick_goes now (side_of call) apart named sound.0 sound.1)

-- ---- all of it

abbrev InputGoes : Option Call → Option CallItem → ℕ → Option Call × List CallOut → Type 0
InputGoes state input now taken =
    Goes (opens state input taken.1) (ended_by state input now taken.1)
    (side_held state).dialogs (side_held taken.0).dialogs taken.1

kept_step : (opening : DialogId → Bool) (ending : Which) (before : Dialogs) (taken : CallTaken)
    → Goes opening ending before (dialogs_of taken.0) taken.1
    → Goes opening ending before (side_held (kept taken).0).dialogs taken.1
kept_step opening ending before taken step =
    subst (λ (side : Side). Goes opening ending before side.dialogs taken.1)
    (sym (kept_side taken.0)) step

kept_sound : (taken : CallTaken) → AreSound (taken.0).clients
    → AreSound (side_held (kept taken).0).clients
kept_sound taken sound =
    subst (λ (side : Side). AreSound side.clients) (sym (kept_side taken.0)) sound

-- the names of the held dialogs differ, and each is that of its tags; the ids of the held client
-- requests differ, and each is its own
pub record Orderly (state : Option Call) : Type 0 where
  pub apart : AreApart (side_held state).dialogs
  pub named : AreNamed (side_held state).dialogs
  pub sound : AreSound (side_held state).clients

input_goes_taken : (calls : Calls) (state : Option Call) (input : Option CallItem) (now : ℕ)
    → Orderly state → InputGoes state input now (step_taken calls state input now)
input_goes_taken calls None None now orderly = goes_same [] [] refl
input_goes_taken calls (Some call) None now orderly =
    kept_step no_name (λ name held. ends_early_at now call.clients held) (dialogs_of call)
    (ticked call now) (tick_step call now orderly.apart orderly.named orderly.sound)
input_goes_taken calls None (Some (id, Up up)) now orderly =
    let call = new_call calls.local in
    let taken = up_taken call (event_of calls id now) up up.kind in
    kept_step no_name none_ends [] taken
    (goes_as (opened_by_kind call up.id up.kind) no_name
    (ended_by_kind call up.id up.key up.kind) none_ends [] (dialogs_of taken.0) taken.1
    (no_opening calls up.id up.kind) (λ name held at. absurd (never held at))
    (up_step call calls id now up up.kind orderly.apart orderly.named))
  where
    never : (held : HeldDialog) → None ≡ Some held → ⊥
    never held e = absurd cc
input_goes_taken calls None (Some (id, User command)) now orderly =
    kept_step no_name none_ends []
    (first_command_taken (new_call calls.local) (event_of calls id now) command)
    (first_step calls id now command)
input_goes_taken calls (Some call) (Some (id, Up up)) now orderly =
    kept_step (opened_by_kind call up.id up.kind) (ended_by_kind call up.id up.key up.kind)
    (dialogs_of call) (up_taken call (event_of calls id now) up up.kind)
    (up_step call calls id now up up.kind orderly.apart orderly.named)
input_goes_taken calls (Some call) (Some (id, User command)) now orderly =
    let taken = command_taken call (event_of calls id now) command in
    kept_step (opened_by_command call command taken.1) (ended_by_command call command taken.1)
    (dialogs_of call) taken (command_step call calls id now command orderly.apart orderly.named)

pub input_goes : (calls : Calls) (state : Option Call) (input : Option CallItem) (now : ℕ)
    → Orderly state → InputGoes state input now (call_step calls state input now)
input_goes calls state input now orderly =
    subst (λ (taken : Taken). InputGoes state input now taken)
    (sym (same_step calls state input now))
    (input_goes_taken calls state input now orderly)

input_sound_taken : (calls : Calls) (state : Option Call) (input : Option CallItem) (now : ℕ)
    → AreSound (side_held state).clients
    → AreSound (side_held (step_taken calls state input now).0).clients
input_sound_taken calls None None now sound = sound
input_sound_taken calls (Some call) None now sound =
    kept_sound (ticked call now) (sound_tick now call.clients sound)
input_sound_taken calls None (Some (id, Up up)) now sound =
    kept_sound (up_taken (new_call calls.local) (event_of calls id now) up up.kind)
    (up_sound (new_call calls.local) calls id now up up.kind sound)
input_sound_taken calls None (Some (id, User command)) now sound =
    kept_sound (first_command_taken (new_call calls.local) (event_of calls id now) command)
    (first_sound calls id now command sound)
input_sound_taken calls (Some call) (Some (id, Up up)) now sound =
    kept_sound (up_taken call (event_of calls id now) up up.kind)
    (up_sound call calls id now up up.kind sound)
input_sound_taken calls (Some call) (Some (id, User command)) now sound =
    kept_sound (command_taken call (event_of calls id now) command)
    (command_sound call calls id now command sound)

input_sound : (calls : Calls) (state : Option Call) (input : Option CallItem) (now : ℕ)
    → AreSound (side_held state).clients
    → AreSound (side_held (call_step calls state input now).0).clients
input_sound calls state input now sound =
    subst (λ (taken : Taken). AreSound (side_held taken.0).clients)
    (sym (same_step calls state input now)) (input_sound_taken calls state input now sound)

-- a dialog that goes on or begins has the name of its tags
still_named : (event : Option Id) (start : Option Opening) (came : Option ℕ) (life : Life)
    (begun : List Happening) (name : DialogId) (before : Option HeldDialog) (held : HeldDialog)
    → ((was : HeldDialog) → before ≡ Some was
    → is_dialog_id name (name_of_dialog was.dialog) ≡ true)
    → Went event (OpensBy start name) came life begun before (Some held)
    → is_dialog_id name (name_of_dialog held.dialog) ≡ true
still_named event start came life begun name None held named (inl stays) = absurd stays
still_named event start came life begun name (Some was) held named (inl stays) =
    ap (λ dialog. is_dialog_id name (name_of_dialog dialog)) stays.2.1
    ∙ ap (is_dialog_id name) (lived_name was.dialog (life was)) ∙ named was refl
still_named event start came life begun name before held named (inr begins) =
    let opening = begins.2.0 in
    let opens = begins.2.1 in
    let grows = begins.2.2 in
    ap (λ dialog. is_dialog_id name (name_of_dialog dialog)) grows.1
    ∙ ap (is_dialog_id name) (lived_name (opened opening) begun) ∙ opens.1

next_orderly : (calls : Calls) (input : Timed CallItem) (state : Option Call) → Orderly state
    → Orderly (call_step calls state input.input input.moment).0
next_orderly calls input state orderly =
    let done = call_step calls state input.input input.moment in
    let step = moves_by calls state input.input input.moment orderly.apart orderly.named in
    let moves = step.1 in
    record {
      apart = moves.apart;
      named = λ name held at. still_named (event_in input.input) (opening_in state input.input)
          (step.0 name) (happens_in state input.input done.1 name) (sent_in name done.1) name
          (dialog_at name (side_held state).dialogs) held (orderly.named name)
          (subst (λ (after : Option HeldDialog). Went (event_in input.input)
          (OpensBy (opening_in state input.input) name) (step.0 name)
          (happens_in state input.input done.1 name) (sent_in name done.1)
          (dialog_at name (side_held state).dialogs) after) at (moves.goes name));
      sound = input_sound calls state input.input input.moment orderly.sound;
    }

none_orderly : Orderly None
none_orderly = record {
  apart = none_apart is_dialog_id;
  named = λ name held at. absurd (never held at);
  sound = (none_apart is_id, tt);
}
  where
    never : (held : HeldDialog) → None ≡ Some held → ⊥
    never held e = absurd cc

orderly_from : (calls : Calls) (inputs : List (Timed CallItem)) (state : Option Call)
    → Orderly state → Orderly (call_from calls state inputs)
orderly_from calls [] state orderly = orderly
orderly_from calls (input ∷ inputs) state orderly =
    orderly_from calls inputs (call_step calls state input.input input.moment).0
    (next_orderly calls input state orderly)

-- ---- all inputs

left_so : (end : HeldDialog → Bool) (o : Option HeldDialog)
    → left_of end o ≡ (is_some o && not (ended_of end o))
left_so end None = refl
left_so end (Some held) = refl

held_so : (calls : Calls) (name : DialogId) (inputs : List (Timed CallItem))
    (state : Option Call) (held : Bool) → Orderly state
    → is_some (dialog_at name (side_held state).dialogs) ≡ held
    → is_some (dialog_at name (side_held (call_from calls state inputs)).dialogs)
    ≡ held_from calls name state held inputs
held_so calls name [] state held orderly is = is
held_so calls name (input ∷ inputs) state held orderly is =
    let done = call_step calls state input.input input.moment in
    let goes = input_goes calls state input.input input.moment orderly in
    let found = dialog_at name (side_held state).dialogs in
    held_so calls name inputs done.0 (held_next calls name state held input)
    (next_orderly calls input state orderly)
    (goes.held name
    ∙ ap (λ b. opens state input.input done.1 name || b)
    (left_so (ended_by state input.input input.moment done.1 name) found
    ∙ ap (λ b. b && not (ends state input done.1 name)) is))

pub held_until_it_ends : HeldUntilItEnds
held_until_it_ends calls inputs name =
    held_so calls name inputs None false none_orderly refl

pub each_end_is_told_once : EachEndIsToldOnce
each_end_is_told_once calls inputs input name =
    let state = call_from calls None inputs in
    (input_goes calls state input.input input.moment
    (orderly_from calls inputs None none_orderly)).told name

-- ---- no end without its opening

step_bound : (opening : Bool) (end : HeldDialog → Bool) (o : Option HeldDialog)
    → once (ended_of end o) + once (opening || left_of end o) ≤ once (is_some o) + once opening
step_bound true end None = omega arith
step_bound false end None = omega arith
step_bound true end (Some held) =
    elim (end held) as (λ b. once b + 1 ≤ 1 + 1) [
      | true ↦ omega arith
      | false ↦ omega arith
    ]
step_bound false end (Some held) =
    elim (end held) as (λ b. once b + once (not b) ≤ 1 + 0) [
      | true ↦ omega arith
      | false ↦ omega arith
    ]

add_bound : (now told held opened later_told last before later_opened : ℕ)
    → now + held ≤ before + opened → later_told + last ≤ held + later_opened
    → told ≡ now → (told + later_told) + last ≤ before + (opened + later_opened)
add_bound now told held opened later_told last before later_opened step later same = omega arith

ends_bound : (calls : Calls) (name : DialogId) (inputs : List (Timed CallItem))
    (state : Option Call) → Orderly state
    → told_from calls name state inputs + held_now name (call_from calls state inputs)
    ≤ held_now name state + opened_from calls name state inputs
ends_bound calls name [] state orderly = nothing (held_now name state)
  where
    nothing : (n : ℕ) → 0 + n ≤ n + 0
    nothing n = omega arith
ends_bound calls name (input ∷ inputs) state orderly =
    let done = call_step calls state input.input input.moment in
    let goes = input_goes calls state input.input input.moment orderly in
    let found = dialog_at name (side_held state).dialogs in
    let end = ended_by state input.input input.moment done.1 name in
    let opening = opens state input.input done.1 name in
    let held : once (opening || left_of end found) ≡ held_now name done.0 =
    ap once (sym (goes.held name)) in
    add_bound (once (ended_of end found)) (ends_told name done.1) (held_now name done.0)
    (once opening) (told_from calls name done.0 inputs)
    (held_now name (call_from calls done.0 inputs)) (held_now name state)
    (opened_from calls name done.0 inputs)
    (subst (λ n. once (ended_of end found) + n ≤ held_now name state + once opening) held
    (step_bound opening end found))
    (ends_bound calls name inputs done.0 (next_orderly calls input state orderly))
    (goes.told name)

pub each_end_has_its_opening : EachEndHasItsOpening
each_end_has_its_opening calls earlier inputs name =
    ends_bound calls name inputs (call_from calls None earlier)
    (orderly_from calls earlier None none_orderly)
