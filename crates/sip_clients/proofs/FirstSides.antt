-- How the client side changes the latest RSeq of the first INVITE in a life of a dialog.
use Rattle.std.proofs.Common.{◌≡◌, ℕ, Bool, List, [], ◌++◌, refl, sym, subst}
use Rattle.std.specs.Prelude.{Option, None, Some, Result, Ok, Err, if◌then◌else◌}
use Rattle.std.specs.Map.{set_value}
use Rattle.std.specs.Option.{option_and_then, option_map}
use Rattle.sip_message.specs.declared.id.Id.{Id}
use Rattle.sip_dialog.specs.Life.{Happening}
use Rattle.sip_dialog.specs.Opening.{Opening}
use Rattle.sip_message.specs.declared.message.Message.{Message}
use Rattle.sip_user.specs.declared.command.DialogBody.{DialogBody}
use Rattle.sip_user.specs.declared.command.DialogRequest.{DialogRequest}
use Rattle.sip_held_dialogs.specs.declared.pending_request.PendingRequest.{PendingRequest}
use Rattle.sip_held_dialogs.specs.declared.held_dialog.DialogReference.{DialogReference}
use Rattle.sip_held_dialogs.specs.declared.held_dialog.DialogId.{DialogId}
use Rattle.sip_user.specs.declared.item.CallOut.{CallOut}
use Rattle.sip_user.specs.declared.refusal.Refusal.{Refusal}
use Rattle.sip_user.specs.declared.refusal.Refusal.TheVariants.{NoSuchDialog}
use Rattle.sip_clients.specs.declared.send_outcome.SendOutcome.TheVariants.{Refused, Waits}
use Rattle.sip_held_dialogs.specs.Dialogs.{dialog_at, is_dialog_id, lives, Dialogs}
use Rattle.sip_held_dialogs.specs.Requests.{is_final}
use Rattle.sip_held_dialogs.specs.Ids.{is_id}
use Rattle.sip_clients.specs.declared.client.RequestKind.{RequestKind}
use Rattle.sip_clients.specs.declared.client.RequestKind.TheVariants.{InitialInvite, ReInvite, InDialog, OutOfDialog}
use Rattle.sip_clients.specs.declared.client.Client.{Client}
use Rattle.sip_clients.specs.declared.event.Event.{Event}
use Rattle.sip_clients.specs.declared.reply.ReceivedResponse.{ReceivedResponse}
use Rattle.sip_clients.specs.declared.reply.ReplyCase.{ReplyCase}
use Rattle.sip_clients.specs.declared.reply.ReplyCase.TheVariants as reply
use Rattle.sip_clients.specs.Cancel.{cancel_client, freed_by, after_response}
use Rattle.sip_clients.specs.Client.{Clients, Side, ClientTaken, client_at}
use Rattle.sip_clients.specs.Clients.{ack_paid, ack_by_user, found_taken, lost_of, paid_or_refused, prack_paid, prack_by_user, reply_name, reply_of, reply_settled, request_by_user, settled, side_after, response_taken, status_of}
use Rattle.sip_clients.specs.declared.pending.PendingKind.TheVariants as kind
use Rattle.sip_clients.specs.Commands.{bye_ended, pending_for, name_in, request_in_held, requested_at}
use Rattle.sip_clients.specs.Pending.{sent_pending}
use Rattle.sip_clients.specs.Dialogs.{paid_at}
use Rattle.sip_clients.specs.Replied.{Replied, reply_taken}
use Rattle.sip_clients.specs.Provisionals.{OfTheCall, in_life, is_for, number_for, provisional_number, reported_in}
use Rattle.sip_clients.proofs.CommandDialogs.{bye_leads, ended_leads, paid_keeps, request_keeps, served_leads}
use Rattle.sip_clients.proofs.ReplyDialogs.{heard_number}
use Rattle.sip_clients.proofs.FirstInvite.{ear_in, no_number, none_in_life, silent_from, told_beside}
use Rattle.sip_clients.proofs.FirstReply.{first, first_replied, other_replied}
use Rattle.sip_held_dialogs.proofs.Heard.{AreApart, Leads, Lives, Moves, OpensBy, in_one, leads_same, leads_then, moves_led, none_came, quiet}
use Rattle.sip_clients.proofs.Hearing.{Listens}
use Rattle.sip_clients.proofs.SentIn.{discharge_life, request_life}

-- no RSeq comes for a request other than the first INVITE
unheard_by : (kind : RequestKind)
    → ((number : ℕ) (named : Bool) → heard_number (reply.Reliable number) kind named ≡ None)
    → (case : ReplyCase) (named : Bool) → heard_number case kind named ≡ None
unheard_by kind none reply.Repeated named = refl
unheard_by kind none reply.Accepted named = refl
unheard_by kind none reply.Late named = refl
unheard_by kind none (reply.Reliable number) named = none number named
unheard_by kind none reply.Passed named = refl
unheard_by kind none reply.Early named = refl
unheard_by kind none reply.Told named = refl

abbrev with_asks : RequestKind → Client → Client
with_asks kind client = record client { kind = kind }

module _ (life : DialogReference) where
  abbrev pub ear : Dialogs → Option (Option ℕ)
  ear dialogs = ear_in life (dialog_at life.name dialogs)

  -- the latest RSeq after a step from these dialogs to those, if this number may have come and
  -- these are the outputs
  abbrev pub ResultOf : Option Id → Dialogs → Dialogs → Option ℕ → List CallOut → Type 0
  ResultOf event before after number outs =
      AreApart after × Listens (event ≡ Some life.created_by) (ear before) (ear after)
      (in_life (lives after life) number) (reported_in (in_life (lives after life) number) outs)

  pub silent_moves : (event : Option Id) (start : Option Opening) (lived : Lives)
      (begun : DialogId → List Happening) (before after : Dialogs) (outs : List CallOut)
      → Moves event start none_came lived begun before after
      → ResultOf event before after None outs
  silent_moves event start lived begun before after outs moves = (
    moves.apart,
    no_number (event ≡ Some life.created_by) (lives after life) (ear before)
        (ear after) outs (silent_from event life (OpensBy start life.name) (lived life.name)
        (begun life.name) (dialog_at life.name before)
        (dialog_at life.name after) (moves.goes life.name)),
  )

  pub silent : (event : Option Id) (lived : Lives) (before after : Dialogs) (outs : List CallOut)
      → Leads lived before after → ResultOf event before after None outs
  silent event lived before after outs leads =
      silent_moves event None lived (λ name. []) before after outs
      (moves_led event None (λ name. []) lived before after leads)

  -- ---- a response

  module _ (call : Option Id) (event : Event) (made : call ≡ Some event.id) (id : Id)
      (call_id : List ℕ) (response : Message) (side : Side) (apart : AreApart side.dialogs) where
    abbrev pub SideResult : Option ℕ → ClientTaken → Type 0
    SideResult number taken = ResultOf call side.dialogs (taken.0).dialogs number taken.1

    unchanged : SideResult None (side, [])
    unchanged = silent call quiet side.dialogs side.dialogs [] (leads_same side.dialogs apart)

    abbrev answer_for : ℕ → Client → ReceivedResponse
    answer_for status client =
        reply_of event id call_id (reply_name client.kind client response) status response

    abbrev number_at : Option ℕ → Client → Option ℕ
    number_at status client = if is_for OfTheCall life id client client.kind response
        then provisional_number status response else None

    abbrev noting : ℕ → Client → Client
    noting status client = after_response (is_final status) client

    -- the requests after the response to this one came
    abbrev replied : ℕ → Client → Clients
    replied status client = set_value (is_id id) side.clients
        (reply_taken (noting status client) side.dialogs (answer_for status client)).0

    -- the user isn't told of a CANCEL that may go out last
    freed : (number : Option ℕ) (command : Option Id) (cancelled : Client) (done : Replied)
        → SideResult number (side_after event id side None done)
        → SideResult number (side_after event id side
        (option_map (λ id. cancel_client id cancelled) command) done)
    freed number command cancelled done so =
        let settles = settled event id done.3 (set_value (is_id id) side.clients done.0) in
        let came = in_life (lives done.1 life) number in (
          so.0,
          subst (λ reported. Listens (call ≡ Some life.created_by) (ear side.dialogs) (ear done.1) came
              reported)
              (sym (told_beside came command cancelled (settles.0, done.2 ++ settles.1))) so.1,
        )

    abbrev done_of : ℕ → Client → Replied
    done_of status client =
        reply_taken (noting status client) side.dialogs (answer_for status client)

    settles : (status : ℕ) (client : Client) (kind : RequestKind)
        → SideResult (number_at (Some status) (with_asks kind client))
        (side_after event id side None (done_of status (with_asks kind client)))
    settles status client InitialInvite =
        let found = first client in
        first_replied call life (noting status client) (answer_for status found) side.dialogs apart
        made (replied status found) (is_dialog_id life.name (answer_for status found).name) refl
        refl
    settles status client (ReInvite own) =
        let found = with_asks (ReInvite own) client in
        other_replied call life client (answer_for status found) side.dialogs apart made
        (noting status found)
        (replied status found) refl (unheard_by (ReInvite own) (λ number named. refl))
    settles status client (InDialog own) =
        let found = with_asks (InDialog own) client in
        other_replied call life client (answer_for status found) side.dialogs apart made
        (noting status found)
        (replied status found) refl (unheard_by (InDialog own) (λ number named. refl))
    settles status client OutOfDialog =
        let found = with_asks OutOfDialog client in
        other_replied call life client (answer_for status found) side.dialogs apart made
        (noting status found)
        (replied status found) refl (unheard_by OutOfDialog (λ number named. refl))

    by_asks : (status : ℕ) (client : Client)
        → SideResult (number_at (Some status) client)
        (reply_settled (answer_for status client) client side)
    by_asks status client =
        freed (number_at (Some status) client) (freed_by (is_final status) client.cancel) client
        (done_of status client) (settles status client client.kind)

    by_client : (status : Option ℕ) (o : Option Client)
        → SideResult (option_and_then (number_at status) o)
        (found_taken event id call_id response status o side)
    by_client None None = unchanged
    by_client (Some status) None = unchanged
    by_client None (Some client) =
        subst (λ number. SideResult number (side, []))
        (sym (none_in_life (is_for OfTheCall life id client client.kind response))) unchanged
    by_client (Some status) (Some client) = by_asks status client

    pub response_step : SideResult
        (option_and_then (number_for OfTheCall life id response) (client_at id side.clients))
        (response_taken event id call_id response side)
    response_step = by_client (status_of response.start) (client_at id side.clients)

-- ---- a request that is lost, and commands of the user

pub lost_leads : (id : Id) (timed_out : Bool) (o : Option Client) (side : Side)
    → AreApart side.dialogs → Leads quiet side.dialogs ((lost_of id timed_out o side).0).dialogs
lost_leads id timed_out None side apart = leads_same side.dialogs apart
lost_leads id timed_out (Some client) side apart =
    ended_leads client timed_out side.dialogs apart

-- what happens in the dialog of the command
abbrev pub requested_in : DialogRequest → Lives
requested_in command = in_one (name_in command.local_tag command.remote_tag)
    (λ held. request_life command.method held.dialog)

pub request_leads : (event : Event) (command : DialogRequest) (side : Side)
    → AreApart side.dialogs
    → Leads (requested_in command) side.dialogs ((request_by_user event command side).0).dialogs
unfolding requested_at
request_leads event command side apart =
    let name = name_in command.local_tag command.remote_tag in
    let done = requested_at name event command side.dialogs in
    leads_then (requested_in command) side.dialogs done.0
    (bye_ended name command.method done.1 done.0).0
    (served_leads name (request_in_held event command.method command.content) (Refused NoSuchDialog)
    (λ held. request_life command.method held.dialog)
    (request_keeps event command.method command.content) side.dialogs apart)
    (bye_leads name command.method done.1 done.0)

-- the same for an ACK or PRACK
abbrev pub paid_in : DialogBody → Result PendingRequest Refusal → Lives
paid_in command (Err refusal) = quiet
paid_in command (Ok pending) = in_one (name_in command.local_tag command.remote_tag)
    (λ held. discharge_life pending (Some command.content) held.dialog)

pub pay_leads : (event : Event) (command : DialogBody) (pending : PendingRequest)
    (dialogs : Dialogs)
    → AreApart dialogs
    → Leads (paid_in command (Ok pending)) dialogs
    (paid_at (name_in command.local_tag command.remote_tag) event pending command.content dialogs).0
pay_leads event command pending dialogs apart =
    served_leads (name_in command.local_tag command.remote_tag)
    (sent_pending event pending command.content) Waits
    (λ held. discharge_life pending (Some command.content) held.dialog)
    (paid_keeps event pending command.content) dialogs apart

by_pay : (event : Event) (command : DialogBody) (send_pending : PendingRequest → Side → ClientTaken)
    (side : Side)
    (o : Result PendingRequest Refusal) → AreApart side.dialogs
    → ((pending : PendingRequest) → Leads (paid_in command (Ok pending)) side.dialogs
    ((send_pending pending side).0).dialogs)
    → Leads (paid_in command o) side.dialogs
    ((paid_or_refused event command send_pending o side).0).dialogs
by_pay event command send_pending side (Err refusal) apart pays = leads_same side.dialogs apart
by_pay event command send_pending side (Ok pending) apart pays = pays pending

pub ack_leads : (event : Event) (command : DialogBody) (side : Side) → AreApart side.dialogs
    → Leads (paid_in command (pending_for kind.Ack
    (name_in command.local_tag command.remote_tag) side.dialogs)) side.dialogs
    ((ack_by_user event command side).0).dialogs
ack_leads event command side apart =
    let name = name_in command.local_tag command.remote_tag in
    by_pay event command (ack_paid event command name) side (pending_for kind.Ack name side.dialogs)
    apart (λ pending. pay_leads event command pending side.dialogs apart)

pub prack_leads : (event : Event) (command : DialogBody) (side : Side) → AreApart side.dialogs
    → Leads (paid_in command (pending_for kind.Prack
    (name_in command.local_tag command.remote_tag) side.dialogs)) side.dialogs
    ((prack_by_user event command side).0).dialogs
prack_leads event command side apart =
    let name = name_in command.local_tag command.remote_tag in
    by_pay event command (prack_paid event command name) side
    (pending_for kind.Prack name side.dialogs) apart
    (λ pending. pay_leads event command pending side.dialogs apart)
