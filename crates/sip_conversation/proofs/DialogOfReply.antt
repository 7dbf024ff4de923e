-- The dialog of a response to an INVITE: its name, and that it is held after a reliable provisional
-- response, whether or not the user is told of that.
use Rattle.std.proofs.Common.{◌≡◌, ℕ, ◌+◌, Bool, true, false, not, ◌&&◌, ◌||◌, ◌==◌, cond, List, [], ◌∷◌, ◌++◌, refl, sym, ap, ◌∙◌, subst}
use Rattle.std.specs.Prelude.{Option, None, Some, is_none, is_some, length, unwrap_or, if◌then◌else◌}
use Rattle.std.specs.Map.{lookup}
use Rattle.std.specs.Option.{option_map_or}
use Rattle.std.proofs.lemmas.Bool.{false≢true}
use Rattle.sip_message.specs.Content.{Content, content_of_body}
use Rattle.sip_message.specs.Party.{tag_of}
use Rattle.sip_message.specs.declared.id.Id.{Id}
use Rattle.sip_message.specs.declared.message.Message.{Message}
use Rattle.sip_held_dialogs.specs.Dialogs.{Dialogs, dialog_at, is_dialog_id, lives}
use Rattle.sip_user.specs.Refusal.{first_refusal}
use Rattle.sip_held_dialogs.specs.Requests.{dialog_id_of_tags, has_to_tag, is_final, is_success}
use Rattle.sip_held_dialogs.specs.Sent.{name_of_dialog}
use Rattle.sip_held_dialogs.specs.declared.held_dialog.DialogId.{DialogId}
use Rattle.sip_held_dialogs.specs.declared.held_dialog.HeldDialog.{HeldDialog}
use Rattle.sip_held_dialogs.specs.declared.pending_request.PendingRequest.TheVariants.{Prack}
use Rattle.sip_held_dialogs.proofs.Entries.{found_inserted}
use Rattle.sip_held_dialogs.proofs.Heard.{name_laws}
use Rattle.sip_clients.specs.Client.{ClientTaken, Side, client_at}
use Rattle.sip_clients.specs.Clients.{reply_name}
use Rattle.sip_clients.specs.Provisionals.{provisional_number}
use Rattle.sip_clients.specs.ReceivedResponse.{has_dialog as has_dialog_of, rseq_of}
use Rattle.sip_clients.specs.Rules.Requests.{dialog_of_kind, is_invite_kind, method_of, pending_outcome, pending_sent, pending_unsent, pending_with, refusals_in}
use Rattle.sip_clients.specs.Rules.Responses.{Outcome, accepted, asks_for, dialog_made_by, dialog_response, first_success, has_dialog, is_initial, kept, last_response, notice_of, outcome_of, reliable_response, response_received, response_to, status_of, success_again, waiting_cancel}
use Rattle.sip_clients.specs.declared.answers.SentAck.{SentAck}
use Rattle.sip_clients.specs.declared.client.Cancelling.TheVariants.{NotAsked, Sent}
use Rattle.sip_clients.specs.declared.client.Client.{Client}
use Rattle.sip_clients.specs.declared.client.RequestKind.{RequestKind}
use Rattle.sip_clients.specs.declared.client.RequestKind.TheVariants.{InDialog, InitialInvite, OutOfDialog, ReInvite}
use Rattle.sip_clients.specs.declared.event.Event.{Event}
use Rattle.sip_clients.proofs.DialogSends.{AreNamed}
use Rattle.sip_clients.proofs.ReplyDialogs.{first_name}
use Rattle.sip_conversation.proofs.Branches.{either, found_or}
use Rattle.sip_conversation.proofs.PracksServed.{same_name}

-- the type of what a response is with all that comes up with it
abbrev Domain : {A B : Type 0} → (A → B) → Type 0
Domain {A} f = A

abbrev pub Reply : Type 0
Reply = Domain notice_of

-- ---- its name

pub name_so : (kind : RequestKind) (client : Client) (response : Message)
    → option_map_or (λ reference. reference.name) (dialog_of_kind kind)
    (dialog_id_of_tags (tag_of client.request.from) (tag_of response.to))
    ≡ reply_name kind client response
name_so InitialInvite client response = refl
name_so (ReInvite life) client response = refl
name_so (InDialog life) client response = refl
name_so OutOfDialog client response = refl

-- that an INVITE has a dialog is said of the dialog of that name
pub has_so : (kind : RequestKind) (client : Client) (response : Message) (dialogs : Dialogs)
    → (is_invite_kind kind && option_map_or (lives dialogs) (dialog_of_kind kind) true)
    ≡ has_dialog_of kind (dialog_at (reply_name kind client response) dialogs)
has_so InitialInvite client response dialogs = refl
has_so (ReInvite life) client response dialogs = refl
has_so (InDialog life) client response dialogs = refl
has_so OutOfDialog client response dialogs = refl

-- only the first INVITE of a call makes a dialog
first_makes : (kind : RequestKind) → has_dialog_of kind None ≡ true → kind ≡ InitialInvite
first_makes InitialInvite has = refl
first_makes (ReInvite life) has = absurd (false≢true has)
first_makes (InDialog life) has = absurd (false≢true has)
first_makes OutOfDialog has = absurd (false≢true has)

-- only an INVITE has a dialog
pub is_of_invite : (kind : RequestKind) (found : Option HeldDialog)
    → has_dialog_of kind found ≡ true → is_invite_kind kind ≡ true
is_of_invite InitialInvite found has = refl
is_of_invite (ReInvite life) found has = refl
is_of_invite (InDialog life) found has = has
is_of_invite OutOfDialog found has = has

-- whether it is held or made by the response, it has the name of its tags
pub dialog_named : (reply : Reply) (client : Client) (dialogs : Dialogs) → AreNamed dialogs
    → reply.name ≡ reply_name client.kind client reply.response → (o : Option HeldDialog)
    → dialog_at reply.name dialogs ≡ o → has_dialog_of client.kind o ≡ true
    → reply.name ≡ name_of_dialog (unwrap_or o (dialog_made_by reply client)).dialog
dialog_named reply client dialogs named own None none has =
    same_name reply.name (name_of_dialog (dialog_made_by reply client).dialog)
    (first_name client reply None
    (own ∙ ap (λ kind. reply_name kind client reply.response) (first_makes client.kind has)) refl)
dialog_named reply client dialogs named own (Some held) is has =
    same_name reply.name (name_of_dialog held.dialog) (named reply.name held is)

-- ---- it is held afterwards

-- the dialog of the name is held; that of a re-INVITE is the one in which it was sent
pub record IsHeldFor (kind : RequestKind) (name : DialogId) (dialogs : Dialogs) : Type 0 where
  pub held : HeldDialog
  pub at : dialog_at name dialogs ≡ Some held
  pub has : has_dialog_of kind (Some held) ≡ true

-- the event that made a dialog says which one it is
same_has : (kind : RequestKind) (one other : HeldDialog) → one.created_by ≡ other.created_by
    → has_dialog_of kind (Some one) ≡ has_dialog_of kind (Some other)
same_has InitialInvite one other same = refl
same_has (ReInvite life) one other same =
    ap (λ id. has_dialog_of (ReInvite life) (Some record one { created_by = id })) same
same_has (InDialog life) one other same = refl
same_has OutOfDialog one other same = refl

prack_created : (event : Event) (of : List ℕ) (name : DialogId) (rseq cseq : ℕ)
    (content : Option Content) (without_it with_it : HeldDialog)
    → with_it.created_by ≡ without_it.created_by
    → (pending_outcome event of name (Prack rseq cseq) content without_it
    with_it).dialog.created_by
    ≡ without_it.created_by
prack_created event of name rseq cseq content without_it with_it same =
    let pending = Prack rseq cseq in
    found_or (λ done. done.dialog.created_by ≡ without_it.created_by)
    (pending_with event of name pending without_it with_it) content (pending_unsent with_it [])
    (λ content is. found_or (λ done. done.dialog.created_by ≡ without_it.created_by) _
    (first_refusal (refusals_in without_it.dialog (method_of pending)) None)
    (pending_sent event name pending content without_it) (λ refusal refused. same)
    (λ none. refl))
    (λ none. same)

numbered : (final trying tagged : Bool) (o : Option ℕ) (rseq : ℕ)
    → (if final then None else if not trying && tagged then o else None) ≡ Some rseq
    → (final ≡ false) × (trying ≡ false) × (tagged ≡ true) × (o ≡ Some rseq)
numbered true trying tagged o rseq is = absurd cc
numbered false true tagged o rseq is = absurd cc
numbered false false false o rseq is = absurd cc
numbered false false true o rseq is = (refl, refl, refl, is)

module _ (reply : Reply) (client : Client) (dialogs : Dialogs) (rseq : ℕ) where
  abbrev Held : Outcome → Type 0
  Held done = IsHeldFor client.kind reply.name done.dialogs

  abbrev made : HeldDialog
  made = dialog_made_by reply client

  asks_held : (number : ℕ) (after : Option SentAck → Client) (dialog : HeldDialog)
      → has_dialog_of client.kind (Some dialog) ≡ true
      → Held (asks_for (Prack rseq number) reply client after dialog dialogs)
  asks_held number after dialog has =
      let content = if not (length client.request.body == 0) || (length reply.response.body == 0)
      then Some (content_of_body []) else None in
      let with_it : HeldDialog = record dialog {
        pending_requests = dialog.pending_requests ++ Prack rseq number ∷ [];
      } in
      let done = pending_outcome reply.event reply.call_id reply.name (Prack rseq number) content
      dialog with_it in
      record {
        held = done.dialog;
        at = found_inserted name_laws reply.name reply.name done.dialog dialogs
            ∙ ap (λ b. cond b (Some done.dialog) (dialog_at reply.name dialogs))
            (name_laws.refl reply.name);
        has = same_has client.kind done.dialog dialog
            (prack_created reply.event reply.call_id reply.name rseq number content dialog with_it
            refl) ∙ has;
      }

  made_has : (o : Option HeldDialog) → has_dialog_of client.kind o ≡ true
      → has_dialog_of client.kind (Some (unwrap_or o made)) ≡ true
  made_has None has =
      subst (λ kind. has_dialog_of kind (Some made) ≡ true) (sym (first_makes client.kind has)) refl
  made_has (Some held) has = has

  -- the first one in a dialog that it makes isn't passed over
  passed_held : (o : Option HeldDialog) → dialog_at reply.name dialogs ≡ o
      → has_dialog_of client.kind o ≡ true
      → not (option_map_or (λ last. rseq == last + 1)
      (if is_initial client then (unwrap_or o made).last_rseq else client.last_rseq) true) ≡ true
      → IsHeldFor client.kind reply.name dialogs
  passed_held None none has passed =
      absurd (false≢true (sym (ap (λ kind. not (option_map_or (λ last. rseq == last + 1)
      (if is_none (dialog_of_kind kind) then None else client.last_rseq) true))
      (first_makes client.kind has)) ∙ passed))
  passed_held (Some held) is has passed = record { held = held; at = is; has = has }

  reliable_held : (o : Option HeldDialog) → dialog_at reply.name dialogs ≡ o
      → has_dialog_of client.kind o ≡ true
      → Held (reliable_response reply client dialogs (unwrap_or o made) rseq)
  reliable_held o is has =
      let held = unwrap_or o made in
      let initial = is_initial client in
      let number = client.request.cseq.number in
      let heard : Client = record client { last_rseq = Some rseq } in
      let hears : HeldDialog = record held { last_rseq = Some rseq } in
      let after : Option SentAck → Client = λ ack. if initial then client else heard in
      let dialog : HeldDialog = if initial then hears else held in
      let there = made_has o has in
      either Held (not (option_map_or (λ last. rseq == last + 1)
      (if initial then held.last_rseq else client.last_rseq) true)) (kept client dialogs [])
      (asks_for (Prack rseq number) reply client after dialog dialogs)
      (λ passed. passed_held o is has passed)
      (λ taken. asks_held number after dialog
      (either (λ (one : HeldDialog). has_dialog_of client.kind (Some one) ≡ true) initial hears held
      (λ first. same_has client.kind hears held refl ∙ there) (λ again. there)))

  by_number : (o : Option ℕ) → o ≡ Some rseq → (other : Outcome)
      → Held (reliable_response reply client dialogs
      (unwrap_or (dialog_at reply.name dialogs) made) rseq)
      → Held (option_map_or (reliable_response reply client dialogs
      (unwrap_or (dialog_at reply.name dialogs) made)) o other)
  by_number o is other held =
      subst (λ o. Held (option_map_or (reliable_response reply client dialogs
      (unwrap_or (dialog_at reply.name dialogs) made)) o other)) (sym is) held

  outcome_held : provisional_number (Some reply.status) reply.response ≡ Some rseq
      → has_dialog client dialogs ≡ true
      → has_dialog_of client.kind (dialog_at reply.name dialogs) ≡ true
      → Held (outcome_of reply client dialogs)
  outcome_held number there has =
      let so = numbered (is_final reply.status) (reply.status == 100)
      (has_to_tag reply.response) (rseq_of reply.response) rseq number in
      let found = dialog_at reply.name dialogs in
      let answer = lookup (is_dialog_id reply.name) client.answers in
      let early : outcome_of reply client dialogs ≡ dialog_response reply client dialogs = λ i.
      if so.0 i && not (is_invite_kind client.kind && is_success reply.status)
      then last_response reply client dialogs
      else if so.0 i && is_some answer then success_again answer client dialogs
      else if so.0 i && has_dialog client dialogs then first_success reply client dialogs
      else if so.0 i then kept (accepted reply client None) dialogs (notice_of reply ∷ [])
      else if not (there i && not (so.1 i) && so.2 i)
      then kept client dialogs (notice_of reply ∷ []) else dialog_response reply client dialogs in
      subst Held (sym early)
      (by_number (rseq_of reply.response) so.3 _ (reliable_held found refl has))

-- after a reliable provisional response its dialog is held
pub received_held : (event : Event) (id : Id) (of : List ℕ) (response : Message) (side : Side)
    (status rseq : ℕ) (client : Client) → status_of response.start ≡ Some status
    → client_at id side.clients ≡ Some client
    → provisional_number (Some status) response ≡ Some rseq
    → has_dialog_of client.kind (dialog_at (reply_name client.kind client response) side.dialogs)
    ≡ true
    → IsHeldFor client.kind (reply_name client.kind client response)
    ((response_received event id of response side).0).dialogs
unfolding response_received
received_held event id of response side status rseq client is found number has =
    let final = is_final status in
    let waiting = waiting_cancel client.cancel in
    let after : Client = record client {
      provisional = client.provisional || not final;
      cancel = option_map_or (λ asked_by. if final then NotAsked else Sent) waiting client.cancel;
    } in
    let own = name_so client.kind client response in
    let reply : Reply = record {
      event = event;
      id = id;
      call_id = of;
      name = option_map_or (λ reference. reference.name) (dialog_of_kind client.kind)
          (dialog_id_of_tags (tag_of client.request.from) (tag_of response.to));
      status = status;
      response = response;
    } in
    subst (λ (taken : ClientTaken). IsHeldFor client.kind
    (reply_name client.kind client response) (taken.0).dialogs)
    (sym (λ i. option_map_or (λ status. option_map_or
    (response_to event id of response side status) (found i) (side, [])) (is i) (side, [])))
    (subst (λ name. IsHeldFor client.kind name (outcome_of reply after side.dialogs).dialogs) own
    (outcome_held reply after side.dialogs rseq number
    (has_so client.kind client response side.dialogs ∙ has)
    (subst (λ name. has_dialog_of client.kind (dialog_at name side.dialogs) ≡ true) (sym own)
    has)))
