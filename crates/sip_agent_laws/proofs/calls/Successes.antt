-- The first 2xx to an INVITE in a dialog is told, and its ACK goes out, is owed or is refused.
use Rattle.std.proofs.Common.{◌≡◌, ◌⊎◌, inl, inr, ℕ, Bool, true, false, not, ◌&&◌, ◌||◌, ◌==◌, cond, List, [], ◌∷◌, ◌++◌, refl, sym, ap, subst, ◌∙◌}
use Rattle.std.specs.Prelude.{Option, None, Some, fold, is_some, length, nat_le, if◌then◌else◌}
use Rattle.std.specs.List.{list_any}
use Rattle.std.specs.Map.{lookup, remove_entry, set_value}
use Rattle.std.specs.Option.{option_map_or}
use Rattle.std.proofs.lemmas.Bool.{false≢true, and_parts}
use Rattle.std.proofs.lemmas.List.Folds.{list_any-append}
use Rattle.indexmap.specs.IndexMap.{insert_entry}
use Rattle.sip_message.specs.Content.{Content, content_of_body}
use Rattle.sip_message.specs.Party.{tag_of}
use Rattle.sip_message.specs.declared.addr.Addr.{Addr}
use Rattle.sip_message.specs.declared.id.Id.{Id}
use Rattle.sip_message.specs.declared.message.Message.{Message}
use Rattle.sip_transactions.specs.declared.output.UpKind.{UpKind}
use Rattle.sip_user.specs.declared.item.CallOut.{CallOut}
use Rattle.sip_user.specs.declared.item.CallOut.TheVariants as out
use Rattle.sip_user.specs.declared.item.Item.TheVariants.{Up}
use Rattle.sip_user.specs.declared.notice.Notice.TheVariants as notice
use Rattle.sip_user.specs.declared.refusal.Refusal.{Refusal}
use Rattle.sip_user.specs.Notices.{refused}
use Rattle.sip_user.specs.Refusal.{first_refusal}
use Rattle.sip_held_dialogs.specs.declared.held_dialog.DialogId.{DialogId}
use Rattle.sip_held_dialogs.specs.declared.held_dialog.HeldDialog.{HeldDialog}
use Rattle.sip_held_dialogs.specs.declared.pending_request.PendingRequest.TheVariants.{Ack}
use Rattle.sip_held_dialogs.specs.Dialogs.{Dialogs, dialog_at, is_dialog_id, lives}
use Rattle.sip_held_dialogs.specs.Ids.{is_id}
use Rattle.sip_held_dialogs.specs.Requests.{dialog_id_of_tags, has_to_tag, is_final, is_success}
use Rattle.sip_held_dialogs.proofs.Entries as entries
use Rattle.sip_held_dialogs.proofs.Heard.{id_laws, name_laws}
use Rattle.sip_clients.specs.declared.client.Cancelling.TheVariants.{NotAsked, Sent}
use Rattle.sip_clients.specs.declared.client.Client.{Client}
use Rattle.sip_clients.specs.declared.client.RequestKind.{RequestKind}
use Rattle.sip_clients.specs.declared.client.RequestKind.TheVariants as asks
use Rattle.sip_clients.specs.declared.event.Event.{Event}
use Rattle.sip_clients.specs.declared.reply.ReceivedResponse.{ReceivedResponse}
use Rattle.sip_clients.specs.Client.{ClientTaken, Side}
use Rattle.sip_clients.specs.Clients.{reply_name}
use Rattle.sip_clients.specs.Rules.Requests.{PendingOutcome, cancel_request, dialog_of_kind, is_invite_kind, method_of, pending_outcome, pending_sent, pending_unsent, refusals_in, start}
use Rattle.sip_clients.specs.Rules.Responses.{Outcome, accepted, dialog_made_by, dialog_response, first_success, has_dialog, is_initial, kept as kept_so, last_response, notice_of, outcome_of, response_received, response_to, status_of, success_again, success_in, waiting_cancel}
use Rattle.sip_calls.specs.Call.{call_step, event_of, kept, received}
use Rattle.sip_calls.specs.Sides.{by_clients, side_of}
use Rattle.sip_calls.proofs.KeptSides.{kept_side}
use Rattle.sip_agent_laws.specs.Calls.Successes.{FirstSuccessIsAcknowledged, IsReported, has_offer, is_ack_of, owes_ack}

-- the dialog of a response
name_is : (asked : RequestKind) (client : Client) (response : Message)
    → option_map_or (λ reference. reference.name) (dialog_of_kind asked)
    (dialog_id_of_tags (tag_of client.request.from) (tag_of response.to))
    ≡ reply_name asked client response
name_is asks.InitialInvite client response = refl
name_is _ client response = refl

success_final : (status : ℕ) → is_success status ≡ true → is_final status ≡ true
success_final status success = (and_parts (nat_le 200 status) _ success).0

-- ---- the ACK

module _ (event : Event) (call_id : List ℕ) (name : DialogId) (invite : Id) (number : ℕ)
    (held with_it : HeldDialog) (waits : with_it.pending_requests
    ≡ held.pending_requests ++ Ack invite number ∷ []) where
  abbrev owes : HeldDialog → Bool
  owes dialog = list_any (is_ack_of invite) dialog.pending_requests

  still_owes : owes with_it ≡ true
  still_owes =
      ap (list_any (is_ack_of invite)) waits
      ∙ (list_any-append (is_ack_of invite) held.pending_requests (Ack invite number ∷ [])
      ∙ (ap (λ b. list_any (is_ack_of invite) held.pending_requests || (b || false))
      (id_laws.refl invite) ∙ or_true (list_any (is_ack_of invite) held.pending_requests)))
    where
      or_true : (b : Bool) → (b || true) ≡ true
      or_true true = refl
      or_true false = refl

  -- without an offer
  pub record IsPaid (done : PendingOutcome) : Type 0 where
    pub prack : done.prack ≡ []
    pub outs : ((to : Addr) × (bytes : List ℕ) × (done.outs ≡ out.Direct to bytes ∷ []))
        ⊎ ((why : Refusal) × (done.outs ≡ refused event.id call_id why)
        × (owes done.dialog ≡ true))

  pub paid : (content : Content)
      → IsPaid (pending_outcome event call_id name (Ack invite number) (Some content) held with_it)
  paid content = by_refusal (first_refusal (refusals_in held.dialog
      (method_of (Ack invite number))) None)
    where
      by_refusal : (o : Option Refusal) → IsPaid (option_map_or
          (λ refusal. pending_unsent with_it (refused event.id call_id refusal)) o
          (pending_sent event name (Ack invite number) content held))
      by_refusal None = record { prack = refl; outs = inl (_, _, refl) }
      by_refusal (Some why) = record { prack = refl; outs = inr (why, refl, still_owes) }

-- ---- the 2xx

module _ (event : Event) (id : Id) (call_id : List ℕ) (response : Message) (side : Side)
    (status : ℕ) (client : Client) where
  abbrev name_of : DialogId
  name_of = option_map_or (λ reference. reference.name) (dialog_of_kind client.kind)
      (dialog_id_of_tags (tag_of client.request.from) (tag_of response.to))

  abbrev told : CallOut
  told = out.Notice (notice.Response call_id id status (tag_of response.from) (tag_of response.to)
      response.body)

  abbrev reply : ReceivedResponse
  reply = record {
    event = event;
    id = id;
    call_id = call_id;
    name = name_of;
    status = status;
    response = response;
  }

  abbrev after : Client
  after = record client {
    provisional = client.provisional || not (is_final status);
    cancel = option_map_or (λ asked_by. if is_final status then NotAsked else Sent)
        (waiting_cancel client.cancel) client.cancel;
  }

  abbrev owes_in : HeldDialog → Bool
  owes_in held = list_any (is_ack_of client.id) held.pending_requests

  abbrev Owes : Dialogs → Type 0
  Owes dialogs = option_map_or owes_in (lookup (is_dialog_id name_of) dialogs) false ≡ true

  -- the ACK, if the 2xx has an offer or not
  abbrev Acked : Bool → List CallOut → Type 0 → Type 0
  Acked offer outs IsOwed = (offer ≡ true → (outs ≡ []) × IsOwed)
      × (offer ≡ false → ((to : Addr) × (bytes : List ℕ) × (outs ≡ out.Direct to bytes ∷ []))
      ⊎ ((why : Refusal) × (outs ≡ refused event.id call_id why) × IsOwed))

  abbrev Reported : List CallOut → Dialogs → Type 0
  Reported outs dialogs = (others : List CallOut) × (outs ≡ told ∷ others)
      × Acked (has_offer client response) others (Owes dialogs)

  owed : (held : HeldDialog) → owes_in held ≡ true
      → Owes (insert_entry is_dialog_id side.dialogs name_of held)
  owed held is =
      ap (λ o. option_map_or owes_in o false)
      (entries.found_inserted name_laws name_of name_of held side.dialogs
      ∙ ap (λ b. cond b (Some held) (lookup (is_dialog_id name_of) side.dialogs))
      (name_laws.refl name_of)) ∙ is

  abbrev held_then : HeldDialog
  held_then = option_map_or (success_in (is_initial after) response)
      (lookup (is_dialog_id name_of) side.dialogs) (dialog_made_by reply after)

  abbrev with_it : HeldDialog
  with_it = record held_then {
    pending_requests = held_then.pending_requests ++ Ack client.id client.request.cseq.number ∷ [];
  }

  abbrev pending_done : Option Content → PendingOutcome
  pending_done content = pending_outcome event call_id name_of
      (Ack client.id client.request.cseq.number) content held_then with_it

  record Fits (offer : Bool) (done : PendingOutcome) : Type 0 where
    prack : done.prack ≡ []
    acked : Acked offer done.outs
        (Owes (insert_entry is_dialog_id side.dialogs name_of done.dialog))

  paid_fits : (offer : Bool) → offer ≡ false → (content : Content)
      → Fits offer (pending_done (Some content))
  paid_fits offer without content =
      let so = paid event call_id name_of client.id client.request.cseq.number held_then with_it refl
      content in
      record {
        prack = so.prack;
        acked = (λ is. absurd (false≢true (sym without ∙ is)), λ is. by_outs so.outs);
      }
    where
      done : PendingOutcome
      done = pending_done (Some content)

      by_outs : (((to : Addr) × (bytes : List ℕ) × (done.outs ≡ out.Direct to bytes ∷ []))
          ⊎ ((why : Refusal) × (done.outs ≡ refused event.id call_id why)
          × (owes_in done.dialog ≡ true)))
          → ((to : Addr) × (bytes : List ℕ) × (done.outs ≡ out.Direct to bytes ∷ []))
          ⊎ ((why : Refusal) × (done.outs ≡ refused event.id call_id why)
          × Owes (insert_entry is_dialog_id side.dialogs name_of done.dialog))
      by_outs (inl goes) = inl goes
      by_outs (inr refuses) = inr (refuses.0, refuses.1, owed done.dialog refuses.2)

  fits : (empty none : Bool) → Fits (empty && not none)
      (pending_done (if not empty || none then Some (content_of_body []) else None))
  fits true true = paid_fits false refl (content_of_body [])
  fits false true = paid_fits false refl (content_of_body [])
  fits false false = paid_fits false refl (content_of_body [])
  fits true false = record {
    prack = refl;
    acked = (
      λ is. (
        refl,
        owed with_it (still_owes event call_id name_of client.id
            client.request.cseq.number held_then with_it refl),
      ),
      λ is. absurd (false≢true (sym is)),
    );
  }

  -- the outcome of the first 2xx of a dialog
  abbrev Gives : Outcome → List Client → Type 0
  Gives done cancel = Reported (fold start (
    option_map_or (set_value (is_id id) side.clients)
        done.request (remove_entry (is_id id) side.clients),
    done.outs,
  ) (done.prack ++ cancel)).1
      done.dialogs

  first_gives : Gives (first_success reply after side.dialogs) []
  first_gives =
      let so = fits (length client.request.body == 0) (length response.body == 0) in
      let done = pending_done (if not (length client.request.body == 0)
      || (length response.body == 0) then Some (content_of_body []) else None) in
      let clients = set_value (is_id id) side.clients (accepted reply after done.ack) in
      subst (λ prack. Reported (fold start (clients, told ∷ done.outs) (prack ++ [])).1
      (insert_entry is_dialog_id side.dialogs name_of done.dialog)) (sym so.prack)
      (done.outs, refl, so.acked)

  to_gives : is_final status ≡ true → is_success status ≡ true
      → is_invite_kind client.kind ≡ true
      → is_some (lookup (is_dialog_id name_of) client.answers) ≡ false
      → option_map_or (lives side.dialogs) (dialog_of_kind client.kind) true ≡ true
      → Reported (response_to event id call_id response side status client).1
      ((response_to event id call_id response side status client).0).dialogs
  to_gives final success invites none live =
      let answer = lookup (is_dialog_id name_of) client.answers in
      let left : Outcome = if is_final status
      then kept_so (accepted reply after None) side.dialogs (notice_of reply ∷ [])
      else if not (has_dialog after side.dialogs && not (status == 100) && has_to_tag response)
      then kept_so after side.dialogs (notice_of reply ∷ [])
      else dialog_response reply after side.dialogs in
      let first : outcome_of reply after side.dialogs ≡ first_success reply after side.dialogs =
      λ i. if final i && not (invites i && success i) then last_response reply after side.dialogs
      else if final i && none i then success_again answer after side.dialogs
      else if final i && (invites i && live i) then first_success reply after side.dialogs
      else left in
      let cancels = λ (b : Bool). if b then [] else option_map_or
      (λ asked_by. cancel_request asked_by client ∷ []) (waiting_cancel client.cancel) [] in
      subst (λ done. Gives done (cancels (is_final status))) (sym first)
      (subst (λ b. Gives (first_success reply after side.dialogs) (cancels b)) (sym final)
      first_gives)

pub first_success_is_acknowledged : FirstSuccessIsAcknowledged
unfolding response_received
first_success_is_acknowledged calls call event up response status now invite comes =
    let ev = event_of calls event now in
    let side = side_of call in
    let named = name_is invite.kind invite response in
    let gives = to_gives ev up.id up.call_id response side status invite
    (success_final status comes.success) comes.success comes.invites
    (ap (λ name. is_some (lookup (is_dialog_id name) invite.answers)) named ∙ comes.first)
    comes.lives in
    let by : Option ℕ → Option Client → ClientTaken = λ status o. option_map_or
    (λ status. option_map_or (response_to ev up.id up.call_id response side status) o (side, []))
    status (side, []) in
    let taken : ClientTaken = response_to ev up.id up.call_id response side status invite in
    let is : by (status_of response.start) (lookup (is_id up.id) side.clients) ≡ taken =
    λ i. by (comes.status_is i) (comes.held i) in
    let whole : (call_step calls (Some call) (Some (event, Up up)) now)
    ≡ kept (by_clients call taken) =
    ap (λ (k : UpKind). kept (received call ev up k)) comes.came
    ∙ ap (λ (t : ClientTaken). kept (by_clients call t)) is in
    subst (IsReported event up response status invite) (sym whole)
    (record {
      others = gives.0;
      told = gives.1;
      acknowledged = record {
        offer = λ offers. let so = gives.2.0 offers in (so.0, owes_so taken named so.1);
        no_offer = λ none. elim (gives.2.1 none) [
          | inl goes ↦ inl goes
          | inr refuses ↦ inr (refuses.0, refuses.1, owes_so taken named refuses.2)
        ];
      };
    })
  where
    owes_so : (taken : ClientTaken) {name : DialogId}
        → name ≡ reply_name invite.kind invite response
        → option_map_or (λ held. list_any (is_ack_of invite.id) held.pending_requests)
        (lookup (is_dialog_id name) (taken.0).dialogs) false ≡ true
        → owes_ack invite.id (reply_name invite.kind invite response)
        (kept (by_clients call taken)).0 ≡ true
    owes_so taken same owes =
        ap (λ (side : Side). option_map_or (λ held. list_any (is_ack_of invite.id)
        held.pending_requests) (dialog_at (reply_name invite.kind invite response) side.dialogs)
        false) (kept_side (by_clients call taken).0)
        ∙ (ap (λ name. option_map_or (λ held. list_any (is_ack_of invite.id)
        held.pending_requests) (lookup (is_dialog_id name) (taken.0).dialogs) false) (sym same)
        ∙ owes)
