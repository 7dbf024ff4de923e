-- The client side sends in the dialog of a name only the request that is made in that dialog.
use Rattle.std.proofs.Common.{◌≡◌, ℕ, ◌+◌, Bool, true, false, not, ◌&&◌, ◌||◌, cond, List, [], ◌∷◌, refl, sym, ap, ◌∙◌, append-nil}
use Rattle.std.specs.Prelude.{Option, None, Some, codes, drop, if◌then◌else◌}
use Rattle.std.specs.List.{cons_option}
use Rattle.std.specs.Option.{option_map}
use Rattle.std.specs.Str.{bytes_eq}
use Rattle.sip_message.specs.Content.{Content}
use Rattle.sip_message.specs.declared.cseq.CSeq.{CSeq}
use Rattle.sip_message.specs.declared.id.Id.{Id}
use Rattle.sip_message.specs.declared.rack.RAck.{RAck}
use Rattle.sip_dialog.specs.declared.dialog.Dialog.{Dialog}
use Rattle.sip_dialog.specs.declared.fault.DialogFault.{DialogFault}
use Rattle.sip_dialog.specs.Fault.{ack_fault, request_fault}
use Rattle.sip_dialog.specs.Life.{Happening}
use Rattle.sip_dialog.specs.Request.{ack_in}
use Rattle.sip_held_dialogs.specs.declared.pending_request.PendingRequest.{PendingRequest}
use Rattle.sip_held_dialogs.specs.declared.pending_request.PendingRequest.TheVariants.{Ack, Prack}
use Rattle.sip_held_dialogs.specs.declared.held_dialog.DialogId.{DialogId}
use Rattle.sip_held_dialogs.specs.declared.held_dialog.HeldDialog.{HeldDialog}
use Rattle.sip_user.specs.declared.item.CallOut.{CallOut}
use Rattle.sip_user.specs.declared.refusal.Refusal.{Refusal}
use Rattle.sip_user.specs.declared.refusal.Refusal.TheVariants.{BadMethod}
use Rattle.sip_held_dialogs.specs.Dialogs.{Dialogs, dialog_at, is_dialog_id}
use Rattle.sip_user.specs.Refusal.{first_refusal}
use Rattle.sip_held_dialogs.specs.Sent.{NumberedAfter, cseq_of_request, cseqs_in, name_of_dialog, requests_made}
use Rattle.sip_held_dialogs.proofs.Entries as entries
use Rattle.sip_held_dialogs.proofs.Heard.{name_laws, none_either}
use Rattle.sip_held_dialogs.proofs.Sent.{cseq_for, made_in, numbered}
use Rattle.sip_held_dialogs.proofs.Starts.{cseqs_both}
use Rattle.sip_clients.specs.declared.client.Client.{Client}
use Rattle.sip_clients.specs.declared.event.Event.{Event}
use Rattle.sip_clients.specs.declared.send_outcome.OutgoingRequest.{OutgoingRequest}
use Rattle.sip_clients.specs.declared.send_outcome.SendOutcome.{SendOutcome}
use Rattle.sip_clients.specs.declared.send_outcome.SendOutcome.TheVariants.{Sent, Waits, Refused}
use Rattle.sip_clients.specs.Cancel.{cancel_client, sent_beside}
use Rattle.sip_clients.specs.Client.{Clients}
use Rattle.sip_clients.specs.Clients.{settled}
use Rattle.sip_clients.specs.Commands.{is_own_kind, request_in_held, request_refusals, sent_unless}
use Rattle.sip_clients.specs.Pending.{kept_pending, sent_pending}
use Rattle.sip_clients.specs.Dialogs.{served_at}
use Rattle.sip_clients.specs.Event.{branch_of}
use Rattle.sip_clients.specs.Outputs.{request_said, start_command}
use Rattle.sip_clients.specs.SendOutcome.{Outcome, discharged, sending_in, outcome_by}
use Rattle.sip_clients.proofs.Served.{served_in}

-- ---- one request

-- the CSeq of a request with the next number
abbrev pub next_cseq : List ℕ → Dialog → CSeq
next_cseq method dialog = cseq_for (dialog.local_cseq + 1) method

module _ (name own : DialogId) where
  as_list : (b : Bool) (one : CSeq)
      → cons_option (if true && b then Some one else None) [] ≡ cond b (one ∷ []) []
  as_list true one = refl
  as_list false one = refl

  -- a request of the agent that takes a number
  sent_once : (event : Event) (method : List ℕ) (rack : Option RAck) (content : Content)
      (held : HeldDialog) → is_dialog_id own (name_of_dialog held.dialog) ≡ true
      → numbered method ≡ true
      → cons_option (cseq_of_request name (sending_in event method rack content held).message) []
      ≡ cond (is_dialog_id own name) (next_cseq method held.dialog ∷ []) []
  sent_once event method rack content held named numbers =
      let number = held.dialog.local_cseq + 1 in
      ap (λ o. cons_option o [])
      (made_in name own held.dialog method number content (branch_of event) event.local named)
      ∙ (λ i. cons_option (if numbers i && is_dialog_id own name
      then Some (cseq_for number method) else None) [])
      ∙ as_list (is_dialog_id own name) (cseq_for number method)

  acknowledged : (dialog : Dialog) (number : ℕ) (content : Content) (event : Event)
      → is_dialog_id own (name_of_dialog dialog) ≡ true
      → cseq_of_request name (ack_in dialog number content (branch_of event) event.local) ≡ None
  acknowledged dialog number content event named =
      made_in name own dialog (codes "ACK") number content (branch_of event) event.local named

-- ---- the outcome of a request

abbrev pub service_cseqs : DialogId → SendOutcome → List CSeq
service_cseqs name (Sent sending) = cons_option (cseq_of_request name sending.message) []
service_cseqs name Waits = []
service_cseqs name (Refused refusal) = []

-- a request of this method is sent, unless the dialog refuses it
abbrev pub asks : List ℕ → Option DialogFault → Dialog → List CSeq
asks method None dialog = next_cseq method dialog ∷ []
asks method (Some fault) dialog = []

-- a PRACK takes a number if it is sent
abbrev pub discharge_cseqs : PendingRequest → Option Content → Dialog → List CSeq
discharge_cseqs (Ack invite number) offer dialog = []
discharge_cseqs (Prack rseq number) None dialog = []
discharge_cseqs (Prack rseq number) (Some content) dialog =
    asks (codes "PRACK") (request_fault dialog (codes "PRACK")) dialog

abbrev pub unless_refused : Option Refusal → List ℕ → Dialog → List CSeq
unless_refused None method dialog = next_cseq method dialog ∷ []
unless_refused (Some refusal) method dialog = []

-- so does a request of the user
abbrev pub request_cseqs : List ℕ → Dialog → List CSeq
request_cseqs method dialog =
    unless_refused (first_refusal (request_refusals dialog method) None) method dialog

-- this happens in the dialog by an ACK or PRACK
abbrev pub discharge_life : PendingRequest → Option Content → Dialog → List Happening
discharge_life pending offer dialog = requests_made (discharge_cseqs pending offer dialog)

abbrev pub request_life : List ℕ → Dialog → List Happening
request_life method dialog = requests_made (request_cseqs method dialog)

pub discharge_numbered : (pending : PendingRequest) (offer : Option Content) (dialog : Dialog)
    → NumberedAfter dialog.local_cseq (discharge_cseqs pending offer dialog)
discharge_numbered (Ack invite number) offer dialog = tt
discharge_numbered (Prack rseq number) None dialog = tt
discharge_numbered (Prack rseq number) (Some content) dialog =
    by_fault (request_fault dialog (codes "PRACK"))
  where
    by_fault : (fault : Option DialogFault)
        → NumberedAfter dialog.local_cseq (asks (codes "PRACK") fault dialog)
    by_fault None = (refl, tt)
    by_fault (Some fault) = tt

pub request_numbered : (method : List ℕ) (dialog : Dialog)
    → NumberedAfter dialog.local_cseq (request_cseqs method dialog)
request_numbered method dialog =
    by_refusal (first_refusal (request_refusals dialog method) None)
  where
    by_refusal : (refusal : Option Refusal)
        → NumberedAfter dialog.local_cseq (unless_refused refusal method dialog)
    by_refusal None = (refl, tt)
    by_refusal (Some refusal) = tt

own_refused : (own : Bool) (others : List (Bool × Refusal))
    → first_refusal ((own, BadMethod) ∷ others) None ≡ None → own ≡ false
own_refused true others none = absurd cc
own_refused false others none = refl

number_of_user : (ack cancel prack : Bool) → ((ack || cancel) || prack) ≡ false
    → not (ack || cancel) ≡ true
number_of_user true cancel prack e = absurd cc
number_of_user false true prack e = absurd cc
number_of_user false false prack e = refl

module _ (name own : DialogId) (event : Event) (held : HeldDialog)
    (named : is_dialog_id own (name_of_dialog held.dialog) ≡ true) where
  by_ack_fault : (number : ℕ) (content : Content) (fault : Option DialogFault)
      (sending : OutgoingRequest)
      → cseq_of_request name sending.message ≡ None
      → service_cseqs name (outcome_by fault sending) ≡ cond (is_dialog_id own name) [] []
  by_ack_fault number content None sending none =
      ap (λ o. cons_option o []) none ∙ sym (none_either (is_dialog_id own name))
  by_ack_fault number content (Some fault) sending none = sym (none_either (is_dialog_id own name))

  by_prack_fault : (rack : Option RAck) (content : Content) (fault : Option DialogFault)
      → service_cseqs name (outcome_by fault (sending_in event (codes "PRACK") rack content held))
      ≡ cond (is_dialog_id own name) (asks (codes "PRACK") fault held.dialog) []
  by_prack_fault rack content None =
      sent_once name own event (codes "PRACK") rack content held named refl
  by_prack_fault rack content (Some fault) = sym (none_either (is_dialog_id own name))

  pub discharged_sent : (pending : PendingRequest) (offer : Option Content)
      → service_cseqs name (discharged event pending offer held).1
      ≡ cond (is_dialog_id own name) (discharge_cseqs pending offer held.dialog) []
  unfolding discharged
  discharged_sent (Ack invite number) None = sym (none_either (is_dialog_id own name))
  discharged_sent (Prack rseq number) None = sym (none_either (is_dialog_id own name))
  discharged_sent (Ack invite number) (Some content) =
      by_ack_fault number content (ack_fault held.dialog) _
      (acknowledged name own held.dialog number content event named)
  discharged_sent (Prack rseq number) (Some content) =
      by_prack_fault _ content (request_fault held.dialog (codes "PRACK"))

  pub owed_sent : (pending : PendingRequest) (offer : Option Content)
      → service_cseqs name (kept_pending event pending offer held).1
      ≡ cond (is_dialog_id own name) (discharge_cseqs pending offer held.dialog) []
  unfolding kept_pending
  owed_sent pending offer = discharged_sent pending offer

  pub paid_sent : (pending : PendingRequest) (content : Content)
      → service_cseqs name (sent_pending event pending content held).1
      ≡ cond (is_dialog_id own name) (discharge_cseqs pending (Some content) held.dialog) []
  unfolding sent_pending
  paid_sent pending content = discharged_sent pending (Some content)

  by_refusal : (method : List ℕ) (content : Content) (refusal : Option Refusal)
      → (refusal ≡ None → numbered method ≡ true)
      → service_cseqs name (sent_unless refusal (sending_in event method None content held) held).1
      ≡ cond (is_dialog_id own name) (unless_refused refusal method held.dialog) []
  by_refusal method content None numbers =
      sent_once name own event method None content held named (numbers refl)
  by_refusal method content (Some refusal) numbers = sym (none_either (is_dialog_id own name))

  pub request_sent_in : (method : List ℕ) (content : Content)
      → service_cseqs name (request_in_held event method content held).1
      ≡ cond (is_dialog_id own name) (request_cseqs method held.dialog) []
  unfolding request_in_held
  request_sent_in method content =
      by_refusal method content (first_refusal (request_refusals held.dialog method) None)
      (λ none. number_of_user (bytes_eq method (codes "ACK")) (bytes_eq method (codes "CANCEL"))
      (bytes_eq method (codes "PRACK")) (own_refused (is_own_kind method)
      (drop 1 (request_refusals held.dialog method))
      none))

-- ---- the outputs

-- if a dialog of the name is held
pub served_sent : (own : DialogId) (serve : HeldDialog → Outcome) (otherwise : SendOutcome)
    (cseqs : HeldDialog → List CSeq) (dialogs : Dialogs) (name : DialogId)
    → ((held : HeldDialog) → dialog_at own dialogs ≡ Some held
    → service_cseqs name (serve held).1 ≡ cond (is_dialog_id own name) (cseqs held) [])
    → service_cseqs name otherwise ≡ [] → (held : HeldDialog) → dialog_at name dialogs ≡ Some held
    → cond (is_dialog_id own name) (cseqs held) [] ≡ service_cseqs name
    (served_at own serve otherwise dialogs).1
served_sent own serve otherwise cseqs dialogs name sends none held at =
    by_name (is_dialog_id own name) refl
  where
    by_found : (found : Option HeldDialog) → dialog_at own dialogs ≡ found
        → is_dialog_id own name ≡ false
        → [] ≡ service_cseqs name (served_in own serve otherwise dialogs found).1
    by_found None is apart = sym none
    by_found (Some there) is apart =
        sym (sends there is ∙ ap (λ b. cond b (cseqs there) []) apart)

    by_name : (b : Bool) → is_dialog_id own name ≡ b
        → cond b (cseqs held) [] ≡ service_cseqs name (served_at own serve otherwise dialogs).1
    by_name false apart = by_found (dialog_at own dialogs) refl apart
    by_name true named =
        let is : dialog_at own dialogs ≡ Some held =
        sym (entries.same_key name_laws own name dialogs named) ∙ at in
        sym (sends held is ∙ ap (λ b. cond b (cseqs held) []) named)
        ∙ ap (λ found. service_cseqs name (served_in own serve otherwise dialogs found).1) (sym is)

pub said_sent : (name : DialogId) (event : Event) (id : Id) (call_id : List ℕ) (own : DialogId)
    (outcome : SendOutcome) (clients : Clients)
    → cseqs_in name (settled event id (request_said event call_id own outcome).1 clients).1
    ≡ service_cseqs name outcome
unfolding start_command
said_sent name event id call_id own (Sent sending) clients = refl
said_sent name event id call_id own Waits clients = refl
said_sent name event id call_id own (Refused refusal) clients = refl

-- a CANCEL that goes out last is sent in no dialog
pub beside_sent : (name : DialogId) (freed : Option Id) (invite : Client)
    (done : Clients × List CallOut)
    → cseqs_in name (sent_beside (option_map (λ id. cancel_client id invite) freed) done).1
    ≡ cseqs_in name done.1
unfolding start_command
beside_sent name None invite done = refl
beside_sent name (Some id) invite done =
    cseqs_both name done.1 (start_command id (cancel_client id invite) ∷ [])
    ∙ append-nil (cseqs_in name done.1)
