-- A response that comes up: the latest RSeq of an INVITE in a life of a dialog after it.
use Rattle.std.proofs.Common.{◌≡◌, ℕ, Bool, true, false, ◌&&◌, List, [], ◌++◌, refl, sym, subst}
use Rattle.std.specs.Prelude.{Option, None, Some, if◌then◌else◌}
use Rattle.std.specs.Map.{set_value}
use Rattle.std.specs.Option.{option_and_then, option_map}
use Rattle.sip_message.specs.declared.id.Id.{Id}
use Rattle.sip_message.specs.declared.message.Message.{Message}
use Rattle.sip_held_dialogs.specs.declared.held_dialog.DialogReference.{DialogReference}
use Rattle.sip_user.specs.declared.item.CallOut.{CallOut}
use Rattle.sip_held_dialogs.specs.Dialogs.{is_dialog_id, lives}
use Rattle.sip_held_dialogs.specs.Requests.{is_final}
use Rattle.sip_held_dialogs.specs.Ids.{is_id}
use Rattle.sip_clients.specs.declared.client.RequestKind.{RequestKind}
use Rattle.sip_clients.specs.declared.client.RequestKind.TheVariants.{InitialInvite, ReInvite, InDialog, OutOfDialog}
use Rattle.sip_clients.specs.declared.client.Client.{Client}
use Rattle.sip_clients.specs.declared.event.Event.{Event}
use Rattle.sip_clients.specs.declared.reply.ReceivedResponse.{ReceivedResponse}
use Rattle.sip_clients.specs.Cancel.{cancel_client, freed_by, after_response, sent_beside}
use Rattle.sip_clients.specs.Client.{Clients, Side, ClientTaken, client_at}
use Rattle.sip_clients.specs.Clients.{found_taken, settled, side_after, reply_name, reply_of, reply_settled, response_taken, status_of}
use Rattle.sip_clients.specs.Replied.{Replied, reply_taken}
use Rattle.sip_clients.specs.Provisionals.{InTheDialog, in_life, is_for, number_for, provisional_number, reported_in}
use Rattle.sip_clients.proofs.AgainInvite.{AgainResult, AreApart, ear_of, keeps_same, listens_then, sent_apart, sent_stays, silent_result}
use Rattle.sip_clients.proofs.AgainReply.{another, invite_replied, no_invite}
use Rattle.sip_clients.proofs.FirstInvite.{none_in_life, told_beside}
use Rattle.sip_clients.proofs.Hearing.{Listens}

abbrev with_asks : RequestKind → Client → Client
with_asks kind client = record client { kind = kind }

module _ (life : DialogReference) (invite : Id) (event : Option Id) (of : Event)
    (made : event ≡ Some of.id) (id : Id) (call_id : List ℕ) (response : Message) (side : Side)
    (apart : AreApart side.clients)
    (once : event ≡ Some invite → ear_of life invite side.clients ≡ None) where
  abbrev answer_for : ℕ → Client → ReceivedResponse
  answer_for status client =
      reply_of of id call_id (reply_name client.kind client response) status response

  abbrev number_at : Option ℕ → Client → Option ℕ
  number_at status client = if is_for (InTheDialog invite) life id client client.kind response
      then provisional_number status response else None

  abbrev pub SideResult : Option ℕ → ClientTaken → Type 0
  SideResult number taken =
      AgainResult life invite event side.clients (taken.0).dialogs (taken.0).clients number taken.1

  unchanged : SideResult None (side, [])
  unchanged = silent_result life invite event side.clients side.clients side.dialogs []
      (keeps_same life invite event side.clients apart)

  -- a CANCEL that may go out last is no INVITE, and the user isn't told of it
  freed : (number : Option ℕ) (command : Option Id) (cancelled : Client) (done : Replied)
      → SideResult number (side_after of id side None done)
      → SideResult number (side_after of id side
      (option_map (λ id. cancel_client id cancelled) command) done)
  freed number command cancelled done so =
      let settles = settled of id done.3 (set_value (is_id id) side.clients done.0) in
      let first : Clients × List CallOut = (settles.0, done.2 ++ settles.1) in
      let last = sent_beside (option_map (λ id. cancel_client id cancelled) command) first in
      let came = in_life (lives done.1 life) number in (
        sent_apart life invite command cancelled first so.0,
        subst (λ reported. Listens (event ≡ Some invite) (ear_of life invite side.clients)
            (ear_of life invite last.0) came reported)
            (sym (told_beside came command cancelled first))
            (listens_then (event ≡ Some invite) (ear_of life invite side.clients)
            (ear_of life invite first.0) (ear_of life invite last.0) came
            (reported_in came first.1) so.1 (sent_stays life invite command cancelled first)),
      )

  abbrev noting : ℕ → Client → Client
  noting status client = after_response (is_final status) client

  abbrev done_of : ℕ → Client → Replied
  done_of status client =
      reply_taken (noting status client) side.dialogs (answer_for status client)

  by_life : (status : ℕ) (client : Client) (own : DialogReference)
      → client_at id side.clients ≡ Some (with_asks (ReInvite own) client)
      → (b ours : Bool) → is_id id invite ≡ b
      → (is_dialog_id life.name own.name && is_id own.created_by life.created_by) ≡ ours
      → SideResult (if b && ours then provisional_number (Some status) response else None)
      (side_after of id side None (done_of status (with_asks (ReInvite own) client)))
  by_life status client own is false ours same is_ours =
      let found = with_asks (ReInvite own) client in
      another life invite event (answer_for status found) made side apart once found is same
  by_life status client own is true false same is_ours =
      let found = with_asks (ReInvite own) client in
      no_invite life invite event (answer_for status found) made side apart once found is
      (λ last_rseq i. if is_ours i then Some last_rseq else None)
  by_life status client own is true true same is_ours =
      let found = with_asks (ReInvite own) client in
      invite_replied life invite event
      (answer_for status found) made side apart once own client refl is same is_ours

  settles : (status : ℕ) (client : Client) (kind : RequestKind)
      → client_at id side.clients ≡ Some (with_asks kind client)
      → SideResult (number_at (Some status) (with_asks kind client))
      (side_after of id side None (done_of status (with_asks kind client)))
  settles status client InitialInvite is =
      let found = with_asks InitialInvite client in
      no_invite life invite event (answer_for status found) made side apart once found is
      (λ last_rseq. refl)
  settles status client (ReInvite own) is =
      by_life status client own is (is_id id invite)
      (is_dialog_id life.name own.name && is_id own.created_by life.created_by) refl refl
  settles status client (InDialog own) is =
      let found = with_asks (InDialog own) client in
      no_invite life invite event (answer_for status found) made side apart once found is
      (λ last_rseq. refl)
  settles status client OutOfDialog is =
      let found = with_asks OutOfDialog client in
      no_invite life invite event (answer_for status found) made side apart once found is
      (λ last_rseq. refl)

  by_asks : (status : ℕ) (client : Client) → client_at id side.clients ≡ Some client
      → SideResult (number_at (Some status) client)
      (reply_settled (answer_for status client) client side)
  by_asks status client is =
      freed (number_at (Some status) client) (freed_by (is_final status) client.cancel) client
      (done_of status client)
      (settles status client client.kind is)

  by_client : (status : Option ℕ) (o : Option Client) → client_at id side.clients ≡ o
      → SideResult (option_and_then (number_at status) o)
      (found_taken of id call_id response status o side)
  by_client None None is = unchanged
  by_client (Some status) None is = unchanged
  by_client None (Some client) is =
      subst (λ number. SideResult number (side, []))
      (sym (none_in_life (is_for (InTheDialog invite) life id client client.kind response)))
      unchanged
  by_client (Some status) (Some client) is = by_asks status client is

  pub response_again : SideResult
      (option_and_then (number_for (InTheDialog invite) life id response)
      (client_at id side.clients)) (response_taken of id call_id response side)
  response_again = by_client (status_of response.start) (client_at id side.clients) refl
