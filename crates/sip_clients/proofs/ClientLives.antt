-- The steps of the client side: in the dialog of each name happens what the response does in it and
-- what goes out in it.
use Rattle.std.proofs.Common.{◌≡◌, ℕ, Bool, true, false, List, [], ◌++◌, refl, sym, ap, subst, ◌∙◌}
use Rattle.std.specs.Prelude.{Option, None, Some, Result, Ok, Err, find}
use Rattle.std.specs.Map.{set_value}
use Rattle.std.specs.Option.{option_map, option_map_or}
use Rattle.sip_message.specs.declared.id.Id.{Id}
use Rattle.sip_message.specs.declared.message.Message.{Message}
use Rattle.sip_dialog.specs.Opening.{ByResponse, Opening}
use Rattle.sip_user.specs.declared.command.Cancel.{Cancel}
use Rattle.sip_user.specs.declared.command.DialogBody.{DialogBody}
use Rattle.sip_user.specs.declared.command.DialogRequest.{DialogRequest}
use Rattle.sip_held_dialogs.specs.declared.pending_request.PendingRequest.{PendingRequest}
use Rattle.sip_held_dialogs.specs.declared.pending_request.PendingRequest.TheVariants.{Ack, Prack}
use Rattle.sip_held_dialogs.specs.declared.held_dialog.DialogId.{DialogId}
use Rattle.sip_held_dialogs.specs.declared.held_dialog.HeldDialog.{HeldDialog}
use Rattle.sip_user.specs.declared.refusal.Refusal.{Refusal}
use Rattle.sip_user.specs.declared.refusal.Refusal.TheVariants.{NoSuchDialog}
use Rattle.sip_held_dialogs.specs.Dialogs.{dialog_at, is_dialog_id}
use Rattle.sip_held_dialogs.specs.Ids.{is_id}
use Rattle.sip_user.specs.Notices.{refused}
use Rattle.sip_held_dialogs.specs.Requests.{is_final}
use Rattle.sip_held_dialogs.specs.Sent.{NumberedFrom, cseqs_in, number_before, requests_made, sent_in}
use Rattle.sip_held_dialogs.proofs.Heard.{AreApart, Lives, Moves, leads_as, leads_same, moves_as, moves_led, none_came, none_either, quiet}
use Rattle.sip_held_dialogs.proofs.Starts.{numbered_none}
use Rattle.sip_clients.specs.declared.cancel_command.CancelCase.{CancelCase}
use Rattle.sip_clients.specs.declared.cancel_command.CancelCase.TheVariants as asked
use Rattle.sip_clients.specs.declared.client.Client.{Client}
use Rattle.sip_clients.specs.declared.pending.PendingKind.TheVariants as kind
use Rattle.sip_clients.specs.declared.event.Event.{Event}
use Rattle.sip_clients.specs.declared.send_outcome.SendOutcome.TheVariants.{Waits, Refused}
use Rattle.sip_clients.specs.Cancel.{cancel_case, cancel_by_user, cancelled_as, cancelled_of, freed_by, after_response}
use Rattle.sip_clients.specs.Client.{Side, ClientTaken, client_at}
use Rattle.sip_clients.specs.Clients.{ack_by_user, found_taken, lost_of, paid_or_refused, prack_paid, prack_by_user, reply_name, reply_of, reply_settled, request_by_user, response_taken, settled, status_of}
use Rattle.sip_clients.specs.Commands.{bye_ended, pending_for, debt_or_refusal, name_in, oldest_pending, request_in_held, requested_at}
use Rattle.sip_clients.specs.Pending.{is_of, sent_pending}
use Rattle.sip_clients.specs.Dialogs.{paid_at, served_at}
use Rattle.sip_clients.specs.Happenings.{reply_brings}
use Rattle.sip_clients.specs.Outputs.{request_said}
use Rattle.sip_clients.specs.Replied.{reply_taken}
use Rattle.sip_clients.proofs.DialogSends.{AreNamed, AreNumbered, Sends, sends_none, silent_outs, sends_one, after_silent, between_silent, change_cseqs, change_sent, settled_cseqs}
use Rattle.sip_clients.proofs.ReplyStarts.{replies}
use Rattle.sip_clients.proofs.WithoutStarts.{none_started, ack_quiet, bye_quiet, lost_quiet, request_said_quiet}
use Rattle.sip_clients.proofs.FirstSides.{ack_leads, lost_leads, paid_in, pay_leads, request_leads}
use Rattle.sip_clients.proofs.ReplyLives.{replied_so}
use Rattle.sip_clients.proofs.SentIn.{beside_sent, discharge_cseqs, discharge_numbered, paid_sent, request_cseqs, request_numbered, request_sent_in, said_sent, served_sent}
use Rattle.sip_clients.proofs.Served.{found_passes}

-- ---- a request that is lost, and commands of the user

pub lost_lives : (id : Id) (timed_out : Bool) (o : Option Client) (side : Side)
    → AreApart side.dialogs
    → Sends (lost_of id timed_out o side).1 side.dialogs
    ((lost_of id timed_out o side).0).dialogs
lost_lives id timed_out o side apart =
    silent_outs (lost_of id timed_out o side).1 (none_started (lost_of id timed_out o side).1
    (lost_quiet id timed_out o side)) side.dialogs
    ((lost_of id timed_out o side).0).dialogs (lost_leads id timed_out o side apart)

module _ (event : Event) (side : Side) (apart : AreApart side.dialogs)
    (named : AreNamed side.dialogs) where
  abbrev ByOuts : ClientTaken → Type 0
  ByOuts taken = Sends taken.1 side.dialogs (taken.0).dialogs

  pub request_lives : (command : DialogRequest) → ByOuts (request_by_user event command side)
  unfolding requested_at
  request_lives command =
      let name = name_in command.local_tag command.remote_tag in
      let serve = request_in_held event command.method command.content in
      let done = served_at name serve (Refused NoSuchDialog) side.dialogs in
      let said = request_said event command.call_id name done.1 in
      let after = settled event event.id said.1 side.clients in
      let bye = bye_ended name command.method done.1 done.0 in
      sends_one name (λ held. request_cseqs command.method held.dialog)
      (request_by_user event command side).1 side.dialogs
      ((request_by_user event command side).0).dialogs
      (λ held. request_numbered command.method held.dialog)
      (λ other held at. served_sent name serve (Refused NoSuchDialog)
      (λ held. request_cseqs command.method held.dialog) side.dialogs other
      (λ there is. request_sent_in other name event there (named name there is) command.method
      command.content) refl held at
      ∙ sym (said_sent other event event.id command.call_id name done.1 side.clients)
      ∙ sym (between_silent other said.0 after.1 bye.1
      (none_started said.0 (request_said_quiet event command.call_id name done.1))
      (none_started bye.1 (bye_quiet name command.method done.1 done.0))))
      (request_leads event command side apart)

  -- an ACK takes no number
  ack_takes_none : (command : DialogBody) (found : Option HeldDialog) (other : DialogId)
      (held : HeldDialog)
      → paid_in command (option_map_or (oldest_pending kind.Ack) found (Err NoSuchDialog)) other
      held
      ≡ []
  ack_takes_none command None other held = refl
  ack_takes_none command (Some there) other held =
      by_debt (find (is_of kind.Ack) there.pending_requests) refl
    where
      by_debt : (o : Option PendingRequest) → find (is_of kind.Ack) there.pending_requests ≡ o
          → paid_in command (debt_or_refusal kind.Ack o) other held ≡ []
      by_debt None is = refl
      by_debt (Some (Ack invite number)) is =
          none_either (is_dialog_id (name_in command.local_tag command.remote_tag) other)
      by_debt (Some (Prack rseq number)) is =
          let wrong : false ≡ true =
          found_passes (is_of kind.Ack) there.pending_requests (Prack rseq number) is in absurd cc

  pub ack_lives : (command : DialogBody) → ByOuts (ack_by_user event command side)
  ack_lives command =
      let name = name_in command.local_tag command.remote_tag in
      let pending = pending_for kind.Ack name side.dialogs in
      let taken = ack_by_user event command side in
      silent_outs taken.1 (none_started taken.1 (ack_quiet event command side)) side.dialogs
      (taken.0).dialogs
      (leads_as (paid_in command pending) quiet side.dialogs (taken.0).dialogs
      (λ other held at. ack_takes_none command (dialog_at name side.dialogs) other held)
      (ack_leads event command side apart))

  by_prack : (command : DialogBody) (o : Result PendingRequest Refusal)
      → ByOuts (paid_or_refused event command
      (prack_paid event command (name_in command.local_tag command.remote_tag)) o side)
  by_prack command (Err refusal) =
      silent_outs (refused event.id command.call_id refusal) refl side.dialogs side.dialogs
      (leads_same side.dialogs apart)
  by_prack command (Ok pending) =
      let name = name_in command.local_tag command.remote_tag in
      let done = paid_at name event pending command.content side.dialogs in
      let said = request_said event command.call_id name done.1 in
      let after = settled event event.id said.1 side.clients in
      sends_one name (λ held. discharge_cseqs pending (Some command.content) held.dialog)
      (said.0 ++ after.1) side.dialogs done.0
      (λ held. discharge_numbered pending (Some command.content) held.dialog)
      (λ other held at. served_sent name (sent_pending event pending command.content) Waits
      (λ held. discharge_cseqs pending (Some command.content) held.dialog) side.dialogs other
      (λ there is. paid_sent other name event there (named name there is) pending command.content)
      refl
      held at
      ∙ sym (said_sent other event event.id command.call_id name done.1 side.clients)
      ∙ sym (after_silent other said.0 after.1
      (none_started said.0 (request_said_quiet event command.call_id name done.1))))
      (pay_leads event command pending side.dialogs apart)

  pub prack_lives : (command : DialogBody) → ByOuts (prack_by_user event command side)
  prack_lives command =
      by_prack command (pending_for kind.Prack
      (name_in command.local_tag command.remote_tag) side.dialogs)

  cancel_by : (as_case : CancelCase) (command : Cancel) (invite : Client) (name : DialogId)
      → [] ≡ cseqs_in name (cancelled_as as_case event command invite side.clients).1
  cancel_by (asked.Refused refusal) command invite name = refl
  cancel_by asked.Repeated command invite name = refl
  cancel_by asked.Waits command invite name = refl
  cancel_by asked.Starts command invite name =
      sym (beside_sent name (Some event.id) invite (side.clients, []))

  cancel_found : (o : Option Client) (command : Cancel) (name : DialogId)
      → [] ≡ cseqs_in name (cancelled_of o event command side.clients).1
  cancel_found None command name = refl
  cancel_found (Some invite) command name = cancel_by (cancel_case invite) command invite name

  pub cancel_lives : (command : Cancel) → ByOuts (cancel_by_user event command side)
  cancel_lives command =
      sends_none (cancel_by_user event command side).1
      (λ name. cancel_found (client_at command.id side.clients) command name) side.dialogs
      side.dialogs (leads_same side.dialogs apart)

module _ (event : Event) (id : Id) (call_id : List ℕ) (response : Message) (side : Side)
    (apart : AreApart side.dialogs) (named : AreNamed side.dialogs) where
  -- what a response does, by its status and its request
  abbrev brings_by : Option ℕ → Option Client → Lives
  brings_by status o name held =
      option_map_or (λ client. option_map_or
      (λ status. reply_brings status client response name held) status []) o []

  abbrev pub Responded : Option ℕ → Option Client → ClientTaken → Type 0
  Responded status o taken = (came : DialogId → Option ℕ)
      × Moves (Some event.id) (option_map (λ client. ByResponse client.request response) o) came
      (λ name held. brings_by status o name held ++ sent_in name taken.1)
      (λ name. sent_in name taken.1) side.dialogs (taken.0).dialogs
      × AreNumbered (option_map (λ client. ByResponse client.request response) o) side.dialogs
      taken.1

  unchanged : (start : Option Opening) → (came : DialogId → Option ℕ)
      × Moves (Some event.id) start came quiet (λ name. []) side.dialogs side.dialogs
      × AreNumbered start side.dialogs []
  unchanged start = (
    none_came,
    moves_led (Some event.id) start (λ name. []) quiet side.dialogs side.dialogs
        (leads_same side.dialogs apart),
    λ name. numbered_none (number_before start (dialog_at name side.dialogs)),
  )

  settles : (status : ℕ) (client : Client)
      → Responded (Some status) (Some client)
      (reply_settled (reply_of event id call_id (reply_name client.kind client response) status
      response) client side)
  settles status client =
      let final = is_final status in
      let with_note = after_response final client in
      let name = reply_name client.kind client response in
      let answer = reply_of event id call_id name status response in
      let done = reply_taken with_note side.dialogs answer in
      let clients = set_value (is_id id) side.clients done.0 in
      let after = settled event id done.3 clients in
      let taken = reply_settled answer client side in
      let so = replied_so event id call_id response status client side.dialogs apart named in
      let same : (name : DialogId) → change_cseqs name done.3 ≡ cseqs_in name taken.1 =
      λ name. sym (beside_sent name (freed_by final client.cancel) client
      (after.0, done.2 ++ after.1)
      ∙ after_silent name done.2 after.1
      (none_started done.2 (replies with_note side.dialogs answer).quiet)
      ∙ settled_cseqs name event id done.3 clients) in (
        so.0,
        moves_as (Some event.id) (Some (ByResponse client.request response)) so.0
            (λ name held. reply_brings status client response name held ++ change_sent name done.3)
            (λ name held. reply_brings status client response name held ++ sent_in name taken.1)
            (λ name. change_sent name done.3) (λ name. sent_in name taken.1) side.dialogs done.1
            (λ name held at. ap (λ xs. reply_brings status client response name held
            ++ requests_made xs) (same name))
            (λ name. ap requests_made (same name)) so.1,
        λ name. subst (NumberedFrom (number_before
            (Some (ByResponse client.request response)) (dialog_at name side.dialogs)))
            (same name) (so.2 name),
      )

  by_client : (status : Option ℕ) (o : Option Client)
      → Responded status o (found_taken event id call_id response status o side)
  by_client None None = unchanged None
  by_client (Some status) None = unchanged None
  by_client None (Some client) = unchanged (Some (ByResponse client.request response))
  by_client (Some status) (Some client) = settles status client

  pub response_lives : Responded (status_of response.start) (client_at id side.clients)
      (response_taken event id call_id response side)
  response_lives = by_client (status_of response.start) (client_at id side.clients)
