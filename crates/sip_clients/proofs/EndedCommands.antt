-- Commands of the user: only a BYE that goes out ends a dialog, and this is told once.
use Rattle.std.proofs.Common.{◌≡◌, Bool, true, false, ◌&&◌, ◌||◌, cond, List, [], ◌++◌, refl, sym, ap, subst, ◌∙◌}
use Rattle.std.specs.Prelude.{Option, None, Some, codes, is_some}
use Rattle.std.specs.List.{list_any}
use Rattle.std.specs.Str.{bytes_eq}
use Rattle.sip_message.specs.declared.cseq.CSeq.{CSeq}
use Rattle.sip_user.specs.declared.command.Cancel.{Cancel}
use Rattle.sip_user.specs.declared.command.DialogBody.{DialogBody}
use Rattle.sip_user.specs.declared.command.DialogRequest.{DialogRequest}
use Rattle.sip_user.specs.declared.command.Invite.{Invite}
use Rattle.sip_user.specs.declared.command.Plain.{Plain as PlainCommand}
use Rattle.sip_held_dialogs.specs.declared.pending_request.PendingRequest.{PendingRequest}
use Rattle.sip_held_dialogs.specs.declared.held_dialog.DialogId.{DialogId}
use Rattle.sip_held_dialogs.specs.declared.held_dialog.HeldDialog.{HeldDialog}
use Rattle.sip_user.specs.declared.item.CallOut.{CallOut}
use Rattle.sip_user.specs.declared.refusal.Refusal.{Refusal}
use Rattle.sip_user.specs.declared.refusal.Refusal.TheVariants.{BadMethod, NoSuchDialog}
use Rattle.sip_held_dialogs.specs.Dialogs.{Dialogs, dialog_at, ended_at, is_dialog_id}
use Rattle.sip_user.specs.Notices.{refused}
use Rattle.sip_user.specs.Refusal.{first_refusal}
use Rattle.sip_held_dialogs.specs.Sent.{cseqs_in, name_of_dialog}
use Rattle.sip_held_dialogs.proofs.Entries as entries
use Rattle.sip_held_dialogs.proofs.Heard.{AreApart, name_laws}
use Rattle.sip_clients.specs.declared.cancel_command.CancelCase.{CancelCase}
use Rattle.sip_clients.specs.declared.cancel_command.CancelCase.TheVariants as ask
use Rattle.sip_clients.specs.declared.client.Cancelling.TheVariants as state
use Rattle.sip_clients.specs.declared.client.Client.{Client}
use Rattle.sip_clients.specs.declared.client.RequestKind.TheVariants.{OutOfDialog}
use Rattle.sip_clients.specs.declared.pending.PendingKind.TheVariants as kind
use Rattle.sip_clients.specs.declared.event.Event.{Event}
use Rattle.sip_clients.specs.declared.send_outcome.SendOutcome.{SendOutcome}
use Rattle.sip_clients.specs.declared.send_outcome.SendOutcome.TheVariants.{Sent, Waits, Refused}
use Rattle.sip_clients.specs.Cancel.{asked, cancel_by_user, cancel_case, cancelled_as, cancelled_of}
use Rattle.sip_clients.specs.Client.{Clients, ClientTaken, Side, client_at, client_changed, client_for}
use Rattle.sip_clients.specs.Clients.{ack_by_user, ack_paid, invite_taken, plain_taken, prack_by_user, prack_paid, request_by_user, settled, started}
use Rattle.sip_clients.specs.Commands.{bye_ended, pending_for, is_bad_outside, name_in, request_in_held, request_refusals, requested_at, sent_unless}
use Rattle.sip_clients.specs.Pending.{sent_pending}
use Rattle.sip_clients.specs.Dialogs.{paid_at, served_at}
use Rattle.sip_clients.specs.Outputs.{request_said, start_command}
use Rattle.sip_clients.specs.Outside.{plain_of}
use Rattle.sip_clients.specs.SendOutcome.{Outcome, sending_in}
use Rattle.sip_clients.proofs.DialogSends.{between_silent}
use Rattle.sip_held_dialogs.proofs.EndedDialogs.{AreNamed, Goes, Which, changed_held, changed_named, goes_as, goes_before, goes_kept, goes_named_then, goes_removed, goes_same, names_ended, no_name, none_ends, silent_both}
use Rattle.sip_clients.proofs.EndedReplies.{ack_silent, beside_goes, request_silent, settled_silent}
use Rattle.sip_clients.proofs.SentIn.{request_cseqs, request_sent_in, said_sent, served_sent, unless_refused}
use Rattle.sip_clients.proofs.Served.{paid_either, served_dialogs, served_in}
use Rattle.sip_clients.proofs.WithoutStarts.{bye_quiet, none_started, request_said_quiet}

-- ---- a request in a dialog

-- a BYE goes out in the dialog of the name
abbrev pub is_of_bye : CSeq → Bool
is_of_bye cseq = bytes_eq cseq.method (codes "BYE")

abbrev pub gives_bye : DialogId → List CallOut → Bool
gives_bye name outs = list_any is_of_bye (cseqs_in name outs)

-- a dialog keeps its name when a request is sent in it
served_named : (event : Event) (command : DialogRequest) (held : HeldDialog)
    → name_of_dialog (request_in_held event command.method command.content held).0.dialog
    ≡ name_of_dialog held.dialog
unfolding request_in_held
served_named event command held =
    by_refusal (first_refusal (request_refusals held.dialog command.method) None)
  where
    by_refusal : (refusal : Option Refusal)
        → name_of_dialog (sent_unless refusal (sending_in event command.method None command.content
        held) held).0.dialog ≡ name_of_dialog held.dialog
    by_refusal None = refl
    by_refusal (Some refusal) = refl

module _ (event : Event) (side : Side) (apart : AreApart side.dialogs)
    (named : AreNamed side.dialogs) (command : DialogRequest) where
  abbrev own : DialogId
  own = name_in command.local_tag command.remote_tag

  abbrev serve : HeldDialog → Outcome
  serve held = request_in_held event command.method command.content held

  abbrev done : Dialogs × SendOutcome
  done = served_at own serve (Refused NoSuchDialog) side.dialogs

  abbrev outs : List CallOut
  outs = (request_by_user event command side).1

  -- the same dialogs are held before the end that is told last
  served_held : (name : DialogId)
      → is_some (dialog_at name done.0) ≡ is_some (dialog_at name side.dialogs)
  served_held name =
      ap (λ dialogs. is_some (dialog_at name dialogs))
      (served_dialogs own serve (Refused NoSuchDialog) side.dialogs)
      ∙ changed_held own (λ held. (serve held).0) side.dialogs name

  served_apart : AreApart done.0
  served_apart =
      subst AreApart (sym (served_dialogs own serve (Refused NoSuchDialog) side.dialogs))
      (entries.apart_changed name_laws own (λ held. (serve held).0) side.dialogs
      (dialog_at own side.dialogs) apart)

  still_named : AreNamed done.0
  still_named =
      subst AreNamed (sym (served_dialogs own serve (Refused NoSuchDialog) side.dialogs))
      (changed_named own (λ held. (serve held).0) (served_named event command) side.dialogs named)

  -- whether it is a BYE that is sent
  abbrev sends_bye : SendOutcome → Bool
  sends_bye (Sent sending) = bytes_eq command.method (codes "BYE")
  sends_bye Waits = false
  sends_bye (Refused refusal) = false

  -- what goes out in the dialog of a name
  given : (name : DialogId) (held : HeldDialog) → dialog_at name side.dialogs ≡ Some held
      → cond (is_dialog_id own name) (request_cseqs command.method held.dialog) []
      ≡ cseqs_in name outs
  unfolding requested_at
  given name held at =
      let said = request_said event command.call_id own done.1 in
      let after = settled event event.id said.1 side.clients in
      let bye = bye_ended own command.method done.1 done.0 in
      served_sent own serve (Refused NoSuchDialog)
      (λ held. request_cseqs command.method held.dialog) side.dialogs name
      (λ there is. request_sent_in name own event there (named own there is) command.method
      command.content) refl held at
      ∙ sym (said_sent name event event.id command.call_id own done.1 side.clients)
      ∙ sym (between_silent name said.0 after.1 bye.1
      (none_started said.0 (request_said_quiet event command.call_id own done.1))
      (none_started bye.1 (bye_quiet own command.method done.1 done.0)))

  or_none : (b : Bool) → b ≡ (b || false)
  or_none true = refl
  or_none false = refl

  by_refusal : (held : HeldDialog) (refusal : Option Refusal)
      → sends_bye (sent_unless refusal (sending_in event command.method None command.content held)
      held).1
      ≡ list_any is_of_bye (unless_refused refusal command.method held.dialog)
  by_refusal held None = or_none (bytes_eq command.method (codes "BYE"))
  by_refusal held (Some refusal) = refl

  sends_as : (held : HeldDialog) → sends_bye (serve held).1
      ≡ list_any is_of_bye (request_cseqs command.method held.dialog)
  unfolding request_in_held
  sends_as held =
      by_refusal held (first_refusal (request_refusals held.dialog command.method) None)

  same_end : (name : DialogId) (held : HeldDialog) → dialog_at name side.dialogs ≡ Some held
      → (sends_bye done.1 && is_dialog_id own name) ≡ gives_bye name outs
  same_end name held at =
      by_name (is_dialog_id own name) refl
      ∙ ap (λ cseqs. list_any is_of_bye cseqs) (given name held at)
    where
      never : (b : Bool) → (b && false) ≡ false
      never true = refl
      never false = refl

      always : (b : Bool) → (b && true) ≡ b
      always true = refl
      always false = refl

      by_name : (b : Bool) → is_dialog_id own name ≡ b
          → (sends_bye done.1 && b)
          ≡ list_any is_of_bye (cond b (request_cseqs command.method held.dialog) [])
      by_name false other = never (sends_bye done.1)
      by_name true same =
          let is : dialog_at own side.dialogs ≡ Some held =
          sym (entries.same_key name_laws own name side.dialogs same) ∙ at in
          always (sends_bye done.1)
          ∙ ap (λ found. sends_bye (served_in own serve (Refused NoSuchDialog) side.dialogs
          found).1) is
          ∙ sends_as held

  removed : (b : Bool) (dialogs : Dialogs) → AreApart dialogs → AreNamed dialogs
      → Goes no_name (λ name held. b && is_dialog_id own name) dialogs
      (cond {A = Dialogs × List CallOut} b (ended_at own dialogs) (dialogs, [])).0
      (cond {A = Dialogs × List CallOut} b (ended_at own dialogs) (dialogs, [])).1
  removed true dialogs apart named = goes_removed own dialogs apart named
  removed false dialogs apart named = goes_same dialogs [] refl

  by_service : (outcome : SendOutcome) (dialogs : Dialogs) → AreApart dialogs → AreNamed dialogs
      → Goes no_name (λ name held. sends_bye outcome && is_dialog_id own name) dialogs
      (bye_ended own command.method outcome dialogs).0
      (bye_ended own command.method outcome dialogs).1
  by_service (Sent sending) dialogs apart named =
      removed (bytes_eq command.method (codes "BYE")) dialogs apart named
  by_service Waits dialogs apart named = goes_same dialogs [] refl
  by_service (Refused refusal) dialogs apart named = goes_same dialogs [] refl

  pub request_goes : Goes no_name (λ name held. gives_bye name outs) side.dialogs
      ((request_by_user event command side).0).dialogs outs
  unfolding requested_at
  request_goes =
      let said = request_said event command.call_id own done.1 in
      let after = settled event event.id said.1 side.clients in
      let bye = bye_ended own command.method done.1 done.0 in
      let ends : Which = λ name held. sends_bye done.1 && is_dialog_id own name in
      goes_as no_name no_name ends (λ name held. gives_bye name outs) side.dialogs bye.0 outs
      (λ name. refl) same_end
      (goes_before no_name ends side.dialogs bye.0 (said.0 ++ after.1) bye.1
      (silent_both said.0 after.1 (request_silent event command.call_id own done.1)
      (settled_silent event event.id said.1 side.clients))
      (goes_named_then (λ name. sends_bye done.1 && is_dialog_id own name) side.dialogs done.0 bye.0
      bye.1 served_held (by_service done.1 done.0 served_apart still_named)))

-- ---- an ACK and a PRACK

paid_held : (name : DialogId) (event : Event) (pending : PendingRequest) (command : DialogBody)
    (dialogs : Dialogs) (other : DialogId)
    → is_some (dialog_at other (paid_at name event pending command.content dialogs).0)
    ≡ is_some (dialog_at other dialogs)
paid_held name event pending command dialogs other =
    let serve = sent_pending event pending command.content in
    ap (λ dialogs. is_some (dialog_at other dialogs)) (served_dialogs name serve Waits dialogs)
    ∙ changed_held name (λ held. (serve held).0) dialogs other

-- nothing is opened or ended
abbrev pub Keeps : Side → ClientTaken → Type 0
Keeps side taken = Goes no_name none_ends side.dialogs (taken.0).dialogs taken.1

pub ack_goes : (event : Event) (command : DialogBody) (side : Side)
    → Keeps side (ack_by_user event command side)
ack_goes event command side =
    let name = name_in command.local_tag command.remote_tag in
    paid_either (Keeps side) event command (ack_paid event command name) side
    (pending_for kind.Ack name side.dialogs) (λ refusal. goes_same side.dialogs _ refl)
    (λ pending. let sent_pending = paid_at name event pending command.content side.dialogs in
    goes_kept side.dialogs sent_pending.0 (ack_paid event command name pending side).1
    (paid_held name event pending command side.dialogs)
    (ack_silent event command.call_id sent_pending.1))

pub prack_goes : (event : Event) (command : DialogBody) (side : Side)
    → Keeps side (prack_by_user event command side)
prack_goes event command side =
    let name = name_in command.local_tag command.remote_tag in
    paid_either (Keeps side) event command (prack_paid event command name) side
    (pending_for kind.Prack name side.dialogs) (λ refusal. goes_same side.dialogs _ refl)
    (λ pending. let sent_pending = paid_at name event pending command.content side.dialogs in
    let said = request_said event command.call_id name sent_pending.1 in
    goes_kept side.dialogs sent_pending.0 (prack_paid event command name pending side).1
    (paid_held name event pending command side.dialogs)
    (silent_both said.0 (settled event event.id said.1 side.clients).1
    (request_silent event command.call_id name sent_pending.1)
    (settled_silent event event.id said.1 side.clients)))

-- ---- a CANCEL

cancel_by : (as_case : CancelCase) (event : Event) (command : Cancel) (invite : Client)
    (side : Side)
    → Goes no_name none_ends side.dialogs side.dialogs
    (cancelled_as as_case event command invite side.clients).1
cancel_by (ask.Refused refusal) event command invite side = goes_same side.dialogs _ refl
cancel_by ask.Repeated event command invite side = goes_same side.dialogs [] refl
cancel_by ask.Waits event command invite side = goes_same side.dialogs [] refl
cancel_by ask.Starts event command invite side =
    beside_goes no_name none_ends side.dialogs side.dialogs (Some event.id) invite
    (client_changed command.id (asked state.Sent) side.clients, [])
    (goes_same side.dialogs [] refl)

cancel_found : (found : Option Client) (event : Event) (command : Cancel) (side : Side)
    → Goes no_name none_ends side.dialogs side.dialogs
    (cancelled_of found event command side.clients).1
cancel_found None event command side = goes_same side.dialogs _ refl
cancel_found (Some invite) event command side =
    cancel_by (cancel_case invite) event command invite side

pub cancel_goes : (event : Event) (command : Cancel) (side : Side)
    → Keeps side (cancel_by_user event command side)
cancel_goes event command side =
    cancel_found (client_at command.id side.clients) event command side

-- ---- a request outside of dialogs

start_silent : (event : Event) (client : Client) (clients : Clients)
    → names_ended (started event client clients).1 ≡ []
unfolding start_command
start_silent event client clients = refl

pub invite_silent : (event : Event) (invite : Invite) (clients : Clients)
    → names_ended (invite_taken event invite clients).1 ≡ []
unfolding start_command
invite_silent event invite clients = refl

plain_by : (b : Bool) (event : Event) (plain : PlainCommand) (clients : Clients)
    → names_ended (cond {A = Clients × List CallOut} b
    (clients, refused event.id plain.call_id BadMethod)
    (started event (client_for event.id OutOfDialog (plain_of event plain) plain.address)
    clients)).1
    ≡ []
plain_by true event plain clients = refl
plain_by false event plain clients =
    start_silent event (client_for event.id OutOfDialog (plain_of event plain) plain.address)
    clients

pub plain_silent : (event : Event) (plain : PlainCommand) (clients : Clients)
    → names_ended (plain_taken event plain clients).1 ≡ []
plain_silent event plain clients = plain_by (is_bad_outside plain.method) event plain clients
