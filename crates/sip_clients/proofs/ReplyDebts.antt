-- After a response the same is owed in the dialog of each name as before, and what it asks for.
use Rattle.std.proofs.Common.{◌≡◌, inl, ℕ, Bool, false, not, ◌&&◌, List, [], ◌∷◌, ◌++◌, refl, sym, ap, ◌∙◌, append-nil}
use Rattle.std.specs.Prelude.{Option, None, Some, if◌then◌else◌}
use Rattle.std.specs.List.{list_any}
use Rattle.std.specs.Map.{set_value}
use Rattle.std.specs.Option.{option_map_or}
use Rattle.sip_message.specs.declared.id.Id.{Id}
use Rattle.sip_message.specs.declared.message.Message.{Message}
use Rattle.sip_transactions.specs.declared.input.Command.{Command as Order}
use Rattle.sip_held_dialogs.specs.declared.pending_request.PendingRequest.{PendingRequest}
use Rattle.sip_held_dialogs.specs.declared.pending_request.PendingRequest.TheVariants.{Ack, Prack}
use Rattle.sip_held_dialogs.specs.declared.held_dialog.DialogId.{DialogId}
use Rattle.sip_user.specs.declared.item.CallOut.{CallOut}
use Rattle.sip_user.specs.declared.item.CallOut.TheVariants as out
use Rattle.sip_held_dialogs.specs.Dialogs.{dialog_at, is_dialog_id}
use Rattle.sip_held_dialogs.specs.Ids.{is_id}
use Rattle.sip_held_dialogs.specs.Requests.{is_final}
use Rattle.sip_held_dialogs.specs.Sent.{cseqs_in}
use Rattle.sip_held_dialogs.proofs.Heard.{AreApart}
use Rattle.sip_held_dialogs.proofs.Owing.{Owes, owes_as, still_same, unchanged}
use Rattle.sip_clients.specs.declared.client.Client.{Client}
use Rattle.sip_clients.specs.declared.event.Event.{Event}
use Rattle.sip_clients.specs.declared.reply.ReceivedResponse.{ReceivedResponse}
use Rattle.sip_clients.specs.Cancel.{freed_by, after_response}
use Rattle.sip_clients.specs.Client.{Clients, Side, ClientTaken, client_at}
use Rattle.sip_clients.specs.Clients.{found_taken, reply_name, reply_of, reply_settled, response_taken, settled, status_of}
use Rattle.sip_clients.specs.Owing.{asked_for, debt_kind, goes_out, is_direct, is_of_prack, owed_if_told, reply_owes, response_owes}
use Rattle.sip_clients.specs.Provisionals.{is_response}
use Rattle.sip_clients.specs.Replied.{Replied, reply_taken}
use Rattle.sip_clients.specs.ReceivedResponse.{has_dialog}
use Rattle.sip_clients.proofs.AskedDebts.{any_given, left_by}
use Rattle.sip_clients.proofs.DialogSends.{AreNamed, after_silent, change_cseqs, settled_cseqs}
use Rattle.sip_clients.proofs.ReplyLives.{given, leaves, replied_owes}
use Rattle.sip_clients.proofs.ReplyStarts.{replies}
use Rattle.sip_clients.proofs.SentIn.{beside_sent}
use Rattle.sip_clients.proofs.WithoutStarts.{none_started}

module _ (event : Event) (id : Id) (call_id : List ℕ) (response : Message) (side : Side)
    (apart : AreApart side.dialogs) (named : AreNamed side.dialogs) where
  -- what a response asks for, by its status and its request
  abbrev owes_by : Option ℕ → Option Client → DialogId → List CallOut → List PendingRequest
  owes_by status o name outs = option_map_or (λ client. option_map_or
      (λ status. reply_owes status client response name (dialog_at name side.dialogs) outs)
      status []) o []

  abbrev Responded : Option ℕ → Option Client → ClientTaken → Type 0
  Responded status o taken = (name : DialogId)
      → Owes (Some event.id) (λ pending_requests. pending_requests ++ owes_by status o name taken.1)
      (dialog_at name side.dialogs) (dialog_at name (taken.0).dialogs)

  as_before : (name : DialogId) → Owes (Some event.id) (λ pending_requests. pending_requests ++ [])
      (dialog_at name side.dialogs) (dialog_at name side.dialogs)
  as_before name =
      let held = dialog_at name side.dialogs in
      owes_as (Some event.id) unchanged (λ pending_requests. pending_requests ++ []) held held
      (λ pending_requests. sym (append-nil pending_requests)) (inl (still_same held))

  module _ (status : ℕ) (client : Client) where
    abbrev with_note : Client
    with_note = after_response (is_final status) client

    abbrev answer_to : ReceivedResponse
    answer_to = reply_of event id call_id (reply_name client.kind client response) status response

    abbrev done : Replied
    done = reply_taken with_note side.dialogs answer_to

    abbrev taken : ClientTaken
    taken = reply_settled answer_to client side

    abbrev clients : Clients
    clients = set_value (is_id id) side.clients done.0

    -- whether the request goes out
    abbrev out_by : DialogId → PendingRequest → Bool
    out_by name =
        given event id call_id response status client side.dialogs apart named name done.2 done.3

    any_same : (p : CallOut → Bool) → ((id : Id) (order : Order) → p (out.Command id order) ≡ false)
        → list_any p done.2 ≡ list_any p taken.1
    any_same p none =
        sym (any_given p none (freed_by (is_final status) client.cancel) client event id done.3
        clients done.2)

    cseqs_same : (name : DialogId) → change_cseqs name done.3 ≡ cseqs_in name taken.1
    cseqs_same name =
        let after = settled event id done.3 clients in
        sym (beside_sent name (freed_by (is_final status) client.cancel) client
        (after.0, done.2 ++ after.1)
        ∙ after_silent name done.2 after.1
        (none_started done.2 (replies with_note side.dialogs answer_to).quiet)
        ∙ settled_cseqs name event id done.3 clients)

    debt_same : (name : DialogId) (pending : PendingRequest)
        → out_by name pending ≡ goes_out (debt_kind pending) name taken.1
    debt_same name (Ack invite number) = any_same is_direct (λ id order. refl)
    debt_same name (Prack rseq number) = ap (list_any is_of_prack) (cseqs_same name)

    asked_same : (name : DialogId) (o : Option PendingRequest)
        → left_by (list_any is_response done.2) (out_by name) o
        ≡ option_map_or (owed_if_told name taken.1) o []
    asked_same name None = refl
    asked_same name (Some pending) =
        let told = any_same is_response (λ id order. refl) in
        λ i. if told i && not (debt_same name pending i) then pending ∷ [] else []

    settles : Responded (Some status) (Some client) taken
    settles name =
        owes_as (Some event.id)
        (λ pending_requests. pending_requests ++ leaves event id call_id response status client
        side.dialogs apart named
        name done)
        (λ pending_requests. pending_requests ++ owes_by (Some status) (Some client) name taken.1)
        (dialog_at name side.dialogs) (dialog_at name done.1)
        (λ pending_requests. ap (λ xs. pending_requests ++ (if is_dialog_id answer_to.name name
        && has_dialog client.kind (dialog_at name side.dialogs) then xs else []))
        (asked_same name (asked_for status client response)))
        (replied_owes event id call_id response status client side.dialogs apart named name)

  by_client : (status : Option ℕ) (o : Option Client)
      → Responded status o (found_taken event id call_id response status o side)
  by_client None None = as_before
  by_client (Some status) None = as_before
  by_client None (Some asker) = as_before
  by_client (Some status) (Some asker) = settles status asker

  pub response_leaves : (name : DialogId)
      → let taken = response_taken event id call_id response side in
      Owes (Some event.id) (λ pending_requests. pending_requests
      ++ response_owes id response side.clients name
      (dialog_at name side.dialogs) taken.1) (dialog_at name side.dialogs)
      (dialog_at name (taken.0).dialogs)
  response_leaves = by_client (status_of response.start) (client_at id side.clients)
