-- A provisional response to a request that is held is told.
use Rattle.std.proofs.Common.{◌≡◌, ℕ, Bool, true, false, not, ◌&&◌, ◌||◌, ◌==◌, List, [], ◌∷◌, ◌++◌, refl, ap, ◌∙◌}
use Rattle.std.specs.Prelude.{Option, None, Some, fold, is_some, if◌then◌else◌}
use Rattle.std.specs.Map.{remove_entry, set_value}
use Rattle.std.specs.Option.{option_map_or}
use Rattle.std.proofs.lemmas.Bool.{true≢false}
use Rattle.keyed_machine.proofs.Ordered.{by_bool}
use Rattle.sip_message.specs.declared.id.Id.{Id}
use Rattle.sip_message.specs.declared.message.Message.{Message}
use Rattle.sip_message.specs.Party.{tag_of}
use Rattle.sip_transactions.specs.declared.output.UpKind.{UpKind}
use Rattle.sip_user.specs.declared.item.CallOut.{CallOut}
use Rattle.sip_held_dialogs.specs.Dialogs.{Dialogs}
use Rattle.sip_held_dialogs.specs.Ids.{is_id}
use Rattle.sip_held_dialogs.specs.Requests.{dialog_id_of_tags, has_to_tag, is_final, requires_100rel}
use Rattle.sip_clients.specs.declared.client.Cancelling.TheVariants.{NotAsked, Sent}
use Rattle.sip_clients.specs.declared.client.Client.{Client}
use Rattle.sip_clients.specs.declared.event.Event.{Event}
use Rattle.sip_clients.specs.declared.reply.ReceivedResponse.{ReceivedResponse}
use Rattle.sip_clients.specs.Client.{Clients, Side}
use Rattle.sip_clients.specs.Clients.{reply_of}
use Rattle.sip_clients.specs.Rules.Requests.{cancel_request, dialog_of_kind, start}
use Rattle.sip_clients.specs.Rules.Responses.{Outcome, has_dialog, kept, notice_of, outcome_of, response_received, response_to, waiting_cancel}
use Rattle.sip_calls.specs.Call.{event_of, received}
use Rattle.sip_calls.specs.Sides.{side_of}
use Rattle.sip_agent_laws.specs.Calls.Told.{ProvisionalsAreTold, is_reliable}
use Rattle.sip_agent_laws.proofs.calls.Outcomes.{TakenBy, start_last}

-- ---- the case of the response

no_rseq : (requires : Bool) (rseq : Option ℕ) → (requires && is_some rseq) ≡ false
    → (if requires then rseq else None) ≡ None
no_rseq true None plain = refl
no_rseq true (Some rseq) plain = absurd (true≢false plain)
no_rseq false rseq plain = refl

-- it is kept, and told
IsKept : ReceivedResponse → Outcome → Type 0
IsKept reply done = (client : Client) × (dialogs : Dialogs)
    × (done ≡ kept client dialogs (notice_of reply ∷ []))

provisional_kept : (reply : ReceivedResponse) (client : Client) (dialogs : Dialogs)
    → is_final reply.status ≡ false → is_reliable reply.response ≡ false
    → IsKept reply (outcome_of reply client dialogs)
unfolding IsKept
provisional_kept reply client dialogs provisional plain =
    let none = no_rseq (requires_100rel reply.response) reply.response.rseq plain in
    by_bool (has_dialog client dialogs && not (reply.status == 100) && has_to_tag reply.response)
    (λ e. rw (provisional, e, none) (client, _, refl))
    (λ e. rw (provisional, e) (client, dialogs, refl))

-- ---- all that it gives

module _ (event : Event) (id : Id) (call_id : List ℕ) (response : Message) (side : Side)
    (status : ℕ) (client : Client) where
  abbrev waiting : Option Id
  waiting = waiting_cancel client.cancel

  abbrev after : Client
  after = record client {
    provisional = client.provisional || not (is_final status);
    cancel = option_map_or (λ asked_by. if is_final status then NotAsked else Sent) waiting
        client.cancel;
  }

  abbrev reply : ReceivedResponse
  reply = reply_of event id call_id (option_map_or (λ reference. reference.name)
      (dialog_of_kind client.kind)
      (dialog_id_of_tags (tag_of client.request.from) (tag_of response.to))) status response

  abbrev done : Outcome
  done = outcome_of reply after side.dialogs

  cancel_last : (clients : Clients) (o : Option Id) → (others : List CallOut)
      × ((fold start (clients, notice_of reply ∷ [])
      (option_map_or (λ asked_by. cancel_request asked_by client ∷ []) o [])).1
      ≡ notice_of reply ∷ others)
  cancel_last clients None = ([], refl)
  cancel_last clients (Some asked_by) = (
    (start ([], []) (cancel_request asked_by client)).1,
    start_last [] (cancel_request asked_by client) (clients, notice_of reply ∷ []),
  )

  told_first : is_final status ≡ false → is_reliable response ≡ false
      → (others : List CallOut)
      × ((response_to event id call_id response side status client).1 ≡ notice_of reply ∷ others)
  unfolding IsKept
  told_first provisional plain =
      let is = provisional_kept reply after side.dialogs provisional plain in
      let rest = cancel_last (set_value (is_id id) side.clients is.0) waiting in (
        rest.0,
        (λ i. (fold start (
          option_map_or (set_value (is_id id) side.clients) (is.2 i).request
              (remove_entry (is_id id) side.clients),
          (is.2 i).outs,
        ) ((is.2 i).prack ++ (if provisional i then []
            else option_map_or (λ asked_by. cancel_request asked_by client ∷ []) waiting []))).1)
            ∙ rest.1,
      )

pub provisionals_are_told : ProvisionalsAreTold
unfolding response_received
provisionals_are_told calls call event up response status now client is started provisional plain
    found =
    let ev = event_of calls event now in
    let told = told_first ev up.id up.call_id response (side_of call) status client provisional plain
    in (
      told.0,
      ap (λ (k : UpKind). (received call ev up k).1) is
          ∙ (λ i. (TakenBy call ev up response (started i) (found i)).1)
          ∙ told.1,
    )
