-- A response changes the held client requests as it adds to their stories.
use Rattle.std.proofs.Common.{◌≡◌, ℕ, ◌+◌, Bool, true, false, cond, ◌&&◌, ◌||◌, List, [], ◌∷◌, ◌++◌, map, refl, sym, ap, subst, ◌∙◌}
use Rattle.std.specs.Prelude.{Option, None, Some, codes, filter, fold, if◌then◌else◌}
use Rattle.std.specs.List.{list_any}
use Rattle.std.specs.Map.{lookup, remove_entry, set_value}
use Rattle.std.specs.Option.{option_map, option_map_or}
use Rattle.std.proofs.lemmas.Bool.{false≢true}
use Rattle.std.proofs.lemmas.List.Elements.{filter-append}
use Rattle.std.proofs.lemmas.List.Folds.{list_any-append}
use Rattle.std.proofs.lemmas.List.Sums.{fold_push}
use Rattle.std.proofs.lemmas.Map.Made.{lookup-map_values}
use Rattle.sip_dialog.specs.declared.fault.DialogFault.{DialogFault}
use Rattle.sip_dialog.specs.Fault.{request_fault}
use Rattle.sip_dialog.specs.Request.{bare_request_in}
use Rattle.sip_message.specs.Content.{Content, with_content_of}
use Rattle.sip_message.specs.declared.id.Id.{Id}
use Rattle.sip_message.specs.declared.message.Message.{Message}
use Rattle.sip_message.specs.declared.rack.RAck.{RAck}
use Rattle.sip_reliable.specs.declared.offer.Offer.{Offer}
use Rattle.sip_reliable.specs.declared.offer.Offer.TheVariants.{Taken, Repeat, Gap}
use Rattle.sip_reliable.specs.Inbound.{latest_after, offered}
use Rattle.sip_held_dialogs.specs.declared.pending_request.PendingRequest.TheVariants.{Prack}
use Rattle.sip_held_dialogs.specs.declared.held_dialog.DialogId.{DialogId}
use Rattle.sip_held_dialogs.specs.declared.held_dialog.HeldDialog.{HeldDialog}
use Rattle.sip_user.specs.declared.item.CallOut.{CallOut}
use Rattle.sip_held_dialogs.specs.Dialogs.{dialog_at}
use Rattle.sip_held_dialogs.specs.Ids.{is_id}
use Rattle.sip_held_dialogs.specs.Requests.{is_cancel, is_final}
use Rattle.sip_held_dialogs.proofs.Each.{each_but_one}
use Rattle.sip_held_dialogs.proofs.Heard.{name_laws, none_either}
use Rattle.sip_clients.specs.declared.answers.SentAck.{SentAck}
use Rattle.sip_clients.specs.declared.client.Cancelling.{Cancelling}
use Rattle.sip_clients.specs.declared.client.Cancelling.TheVariants as cancel
use Rattle.sip_clients.specs.declared.client.Client.{Client}
use Rattle.sip_clients.specs.declared.client.RequestKind.{RequestKind}
use Rattle.sip_clients.specs.declared.client.RequestKind.TheVariants.{InitialInvite, ReInvite, InDialog, OutOfDialog}
use Rattle.sip_clients.specs.declared.event.Event.{Event}
use Rattle.sip_clients.specs.declared.outputs.ClientChange.TheVariants.{Stays}
use Rattle.sip_clients.specs.declared.reply.ReceivedResponse.{ReceivedResponse}
use Rattle.sip_clients.specs.declared.reply.ReplyCase.{ReplyCase}
use Rattle.sip_clients.specs.declared.reply.ReplyCase.TheVariants as reply
use Rattle.sip_clients.specs.declared.send_outcome.SendOutcome.{SendOutcome}
use Rattle.sip_clients.specs.declared.send_outcome.SendOutcome.TheVariants as outcome
use Rattle.sip_clients.specs.Answers.{ack_of, has_answer}
use Rattle.sip_clients.specs.Cancel.{after_response, cancel_client, cancelling_after, freed_by}
use Rattle.sip_clients.specs.Client.{Side, ClientTaken, client_at, client_for}
use Rattle.sip_clients.specs.ClientLife.{ClientHappening, Outgoing, GetsProvisional, GetsSuccess, GetsSuccessAgain, SendsAck, SendsAckAgain, SendsCancel, TakesReliable, acks_out, cancels_out, requests_out}
use Rattle.sip_clients.specs.ClientRules.{AllLive, EachFits, HoldsRules}
use Rattle.sip_clients.specs.ClientStory.{ClientStory, with_answer, client_told, is_provisional_response}
use Rattle.sip_clients.specs.ClientTelling.{ClientStories, AreTold, HoldsStories, begin_story, begin_stories, for_dialog, for_dialog_or_cancel, happens_to, reliable_taken, reply_told, response_happens, response_told, success_happens}
use Rattle.sip_clients.specs.Clients.{found_taken, reply_name, reply_of, reply_settled, response_taken, settled, side_after, status_of}
use Rattle.sip_clients.specs.Pending.{kept_pending}
use Rattle.sip_clients.specs.Dialogs.{accepted, dialog_for_provisional}
use Rattle.sip_clients.specs.Event.{branch_of}
use Rattle.sip_clients.specs.Outputs.{direct, kind_in, request_said, sent_ack}
use Rattle.sip_clients.specs.Provisionals.{is_response, provisional_number}
use Rattle.sip_clients.specs.Replied.{Replied, ack_owed, after_dialog, by_reply_case, heard_again, heard_first, held_after_success, automatic_body, prack_owed, replied_in, request_over, told_of_ack}
use Rattle.sip_clients.specs.ReceivedResponse.{heard_of, is_dialog_response, is_last, has_dialog, offer_case, reliable_case, rseq_of, success_case}
use Rattle.sip_clients.specs.SendOutcome.{discharged, sending_in, outcome_by}
use Rattle.sip_clients.proofs.ClientRecords.{any_more, client_happened, heard_taken, or_false}
use Rattle.sip_clients.proofs.StoryBegins.{ChangesFor, HasNoCancel, beside_on, beside_sent, beside_silent, freed_cancel, freed_out, over_on, put_on, quiet_then, settled_no_cancel, settled_on, settled_silent, some_same, then_begin}
use Rattle.sip_clients.proofs.StoryFits.{IsReady, LivesSo, acks_fit, begin_fit, freed_fits, happens_fit, ready_then, waits_ready}
use Rattle.sip_clients.proofs.StoryMaps.{insert_twice, remove_set}
use Rattle.sip_clients.proofs.WithoutStarts.{AreQuiet, case_quiet}

-- ---- the record

again_same : (name : DialogId) (acks : List SentAck) (client : Client)
    → fold client_happened client (map (SendsAckAgain name) acks) ≡ client
again_same name [] client = refl
again_same name (ack ∷ acks) client =
    again_same name acks (client_happened client (SendsAckAgain name ack))
    ∙ (λ i. record client { provisional = or_false client.provisional i })

-- a CANCEL that waited goes out
sends_freed : (invite client : Client) (state : Cancelling) → client.cancel ≡ state
    → fold client_happened client (map SendsCancel (freed_out invite (freed_by false state)))
    ≡ record client { cancel = cancelling_after false state }
sends_freed invite client cancel.NotAsked is = λ i. record client { cancel = is i }
sends_freed invite client (cancel.Waits id) is = λ i. record client {
  provisional = or_false client.provisional i;
  cancel = cancel.Sent;
}
sends_freed invite client cancel.Sent is = λ i. record client { cancel = is i }

hears_so : (kind : RequestKind) (client : Client) (found : Option HeldDialog) (rseq : ℕ)
    → has_dialog kind found ≡ true → offered (heard_of kind client found) rseq ≡ Taken
    → heard_again kind rseq client
    ≡ record client { last_rseq = heard_taken kind client.last_rseq rseq }
hears_so InitialInvite client found rseq there taken = refl
hears_so (ReInvite own) client found rseq there taken =
    ap (λ offer. record client { last_rseq = latest_after offer client.last_rseq rseq }) taken
hears_so (InDialog own) client found rseq there taken = absurd (false≢true there)
hears_so OutOfDialog client found rseq there taken = absurd (false≢true there)

-- ---- the PRACK

abbrev pub IsPrack : Id → SendOutcome → Type 0
IsPrack created_by (outcome.Sent sending) =
    (is_cancel sending.message ≡ false) × (sending.created_by ≡ created_by)
IsPrack created_by outcome.Waits = Unit {0}
IsPrack created_by (outcome.Refused refusal) = Unit {0}

pub sent_method : (event : Event) (method : List ℕ) (rack : Option RAck) (content : Content)
    (held : HeldDialog) → is_cancel (sending_in event method rack content held).message
    ≡ is_cancel (bare_request_in held.dialog method (held.dialog.local_cseq + 1)
    (branch_of event) event.local)
unfolding with_content_of
sent_method event method rack content held = refl

owed_prack : (event : Event) (rseq number : ℕ) (offer : Option Content) (held : HeldDialog)
    → IsPrack held.created_by (kept_pending event (Prack rseq number) offer held).1
unfolding kept_pending discharged
owed_prack event rseq number None held = tt
owed_prack event rseq number (Some content) held =
    by_fault (request_fault held.dialog (codes "PRACK"))
  where
    rack : RAck
    rack = record { rseq = rseq; cseq = number; method = codes "INVITE" }

    by_fault : (fault : Option DialogFault) → IsPrack held.created_by (outcome_by fault
        (sending_in event (codes "PRACK") (Some rack) content held))
    by_fault None = (sent_method event (codes "PRACK") (Some rack) content held, refl)
    by_fault (Some fault) = tt

first_born : (kind : RequestKind) (rseq : ℕ) (held : HeldDialog)
    → (heard_first kind rseq held).created_by ≡ held.created_by
first_born InitialInvite rseq held = refl
first_born (ReInvite own) rseq held = refl
first_born (InDialog own) rseq held = refl
first_born OutOfDialog rseq held = refl

prack_is : (rseq : ℕ) (client : Client) (held : HeldDialog) (answer : ReceivedResponse)
    → IsPrack held.created_by (prack_owed rseq client held answer).1
unfolding prack_owed
prack_is rseq client held answer =
    let last_rseq = heard_first client.kind rseq held in
    subst (λ created_by. IsPrack created_by (prack_owed rseq client held answer).1)
    (first_born client.kind rseq held)
    (owed_prack answer.event rseq ((client.request).cseq).number
    (automatic_body client answer.response) last_rseq)

-- ---- a response to a request that is held

module _ (event : Event) (id : Id) (call_id : List ℕ) (response : Message) (status : ℕ)
    (client : Client) (side : Side) (stories : ClientStories)
    (told : AreTold side.clients stories) (at : client_at id side.clients ≡ Some client) where
  abbrev name : DialogId
  name = reply_name client.kind client response

  abbrev answer : ReceivedResponse
  answer = reply_of event id call_id name status response

  abbrev found : Option HeldDialog
  found = dialog_at name side.dialogs

  abbrev sent_for : Message → RequestKind
  sent_for = for_dialog_or_cancel event name side.dialogs

  -- after what was done, with the CANCEL that is freed
  abbrev taken_with : Option Id → Replied → ClientTaken
  taken_with freed done =
      side_after event id side (option_map (λ id. cancel_client id client) freed) done

  none_freed : (state : Cancelling) → freed_by true state ≡ None
  none_freed cancel.NotAsked = refl
  none_freed (cancel.Waits id) = refl
  none_freed cancel.Sent = refl

  -- ---- the last one

  over_told : (final : Bool) → final ≡ true → AreTold ((taken_with (freed_by final client.cancel)
      (request_over (after_response final client) side.dialogs answer)).0).clients
      (remove_entry (is_id id) stories)
  over_told final is =
      subst (λ freed. AreTold ((taken_with freed
      (request_over (after_response final client) side.dialogs answer)).0).clients
      (remove_entry (is_id id) stories))
      (sym (ap (λ b. freed_by b client.cancel) is ∙ none_freed client.cancel))
      (remove_set (is_id id) side.clients (after_response final client)
      ∙ over_on side.clients stories told id)

  -- ---- a 2xx

  success_on : (after : Client) (outs : List CallOut) (more : List ClientHappening)
      → AreQuiet outs → fold client_happened client more ≡ after
      → AreTold (set_value (is_id id) side.clients after)
      (begin_stories sent_for (outs ++ []) (happens_to id more stories))
  success_on after outs more quiet same =
      put_on side.clients stories told id more client after at same
      ∙ (λ i. map (λ entry. (entry.0, client_told entry.1))
      (fold (begin_story sent_for) (happens_to id more stories) (sym (quiet_then outs [] quiet) i)))

  abbrev success_taken : ReplyCase → ClientTaken
  success_taken case =
      taken_with None (after_dialog name side.dialogs
      (by_reply_case case (after_response true client) found answer))

  abbrev SuccessTold : Bool → ClientTaken → Type 0
  SuccessTold again taken = AreTold (taken.0).clients (begin_stories sent_for taken.1
      (happens_to id (success_happens again name event.moment taken.1) stories))

  repeated_told : SuccessTold true (success_taken reply.Repeated)
  repeated_told =
      let case = by_reply_case reply.Repeated (after_response true client) found answer in
      success_on (after_response true client) case.2
      (success_happens true name event.moment (case.2 ++ []))
      (case_quiet reply.Repeated (after_response true client) found answer)
      (again_same name (acks_out (case.2 ++ [])) (after_response true client))

  late_told : SuccessTold false (success_taken reply.Late)
  late_told =
      success_on (held_after_success answer None (after_response true client))
      (by_reply_case reply.Late (after_response true client) found answer).2
      (GetsSuccess name event.moment ∷ [])
      (case_quiet reply.Late (after_response true client) found answer) refl

  accepted_told : SuccessTold false (success_taken reply.Accepted)
  accepted_told =
      by_service (ack_owed (after_response true client)
      (accepted (after_response true client) answer found) answer)
    where
      done_by : HeldDialog × SendOutcome → Replied
      done_by pending_requests =
          let told = told_of_ack answer pending_requests.1 in
          after_dialog name side.dialogs (
            held_after_success answer told.1 (after_response true client),
            Some pending_requests.0,
            told.0,
            Stays,
          )

      by_service : (pending_requests : HeldDialog × SendOutcome)
          → SuccessTold false (taken_with None (done_by pending_requests))
      by_service (held, outcome.Sent sending) =
          let ack = sent_ack sending in
          success_on (held_after_success answer (Some ack) (after_response true client))
          (told_of_ack answer (outcome.Sent sending)).0
          (GetsSuccess name event.moment ∷ SendsAck name ack ∷ []) (refl, (tt, tt))
          (λ i. record (held_after_success answer (Some ack) (after_response true client)) {
            provisional = or_false (client.provisional || false) i;
            answers = insert_twice name_laws client.answers name None (Some ack) i;
          })
      by_service (held, outcome.Waits) =
          success_on (held_after_success answer None (after_response true client))
          (told_of_ack answer outcome.Waits).0 (GetsSuccess name event.moment ∷ []) (refl, tt) refl
      by_service (held, outcome.Refused refusal) =
          success_on (held_after_success answer None (after_response true client))
          (told_of_ack answer (outcome.Refused refusal)).0 (GetsSuccess name event.moment ∷ [])
          (refl, (refl, tt)) refl

  success_told : (again there : Bool) → SuccessTold again
      (success_taken (if again then reply.Repeated else (if there then reply.Accepted
      else reply.Late)))
  success_told true there = repeated_told
  success_told false true = accepted_told
  success_told false false = late_told

  -- ---- a provisional one

  abbrev freed : Option Id
  freed = freed_by false client.cancel

  abbrev provisional_more : List ClientHappening → List Outgoing → List ClientHappening
  provisional_more takes cancels = GetsProvisional ∷ takes ++ map SendsCancel cancels

  abbrev ProvisionalTold : List ClientHappening → ClientTaken → Type 0
  ProvisionalTold takes taken = AreTold (taken.0).clients (begin_stories sent_for taken.1
      (happens_to id (provisional_more takes (cancels_out taken.1)) stories))

  provisional_sent : (done : Replied) → AreQuiet done.2
      → requests_out (taken_with freed done).1
      ≡ requests_out (settled event id done.3 (set_value (is_id id) side.clients done.0)).1
      ++ freed_out client freed
  provisional_sent done quiet =
      let after = settled event id done.3 (set_value (is_id id) side.clients done.0) in
      beside_sent client freed (after.0, done.2 ++ after.1)
      ∙ ap (λ sent. sent ++ freed_out client freed) (quiet_then done.2 after.1 quiet)

  provisional_cancels : (done : Replied) → AreQuiet done.2 → HasNoCancel done.3
      → cancels_out (taken_with freed done).1 ≡ freed_out client freed
  provisional_cancels done quiet none =
      let put = set_value (is_id id) side.clients done.0 in
      ap (filter (λ sent. is_cancel sent.request)) (provisional_sent done quiet)
      ∙ filter-append (λ (sent : Outgoing). is_cancel sent.request)
      (requests_out (settled event id done.3 put).1) (freed_out client freed)
      ∙ (λ i. settled_no_cancel event id done.3 put none i ++ freed_cancel client freed i)

  provisional_on : (done : Replied) (takes : List ClientHappening) → AreQuiet done.2
      → ChangesFor event sent_for done.3 → HasNoCancel done.3
      → fold client_happened client (provisional_more takes (freed_out client freed)) ≡ done.0
      → ProvisionalTold takes (taken_with freed done)
  provisional_on done takes quiet for none same =
      let put = set_value (is_id id) side.clients done.0 in
      let after = settled event id done.3 put in
      let sent = provisional_sent done quiet in
      let cancels = provisional_cancels done quiet none in
      let lived = happens_to id (provisional_more takes (freed_out client freed)) stories in
      let begun = begin_stories sent_for after.1 lived in
      beside_on sent_for client refl freed (after.0, done.2 ++ after.1) begun
      (settled_on event id sent_for done.3 put lived
      (put_on side.clients stories told id (provisional_more takes (freed_out client freed)) client
      done.0 at same) for)
      ∙ ap (map (λ entry. (entry.0, client_told entry.1)))
      (sym (then_begin sent_for (requests_out after.1) (freed_out client freed) lived))
      ∙ (λ i. map (λ entry. (entry.0, client_told entry.1)) (fold (begin_story sent_for)
      (happens_to id (provisional_more takes (sym cancels i)) stories) (sym sent i)))

  abbrev case_done : ReplyCase → Replied
  case_done case =
      after_dialog name side.dialogs (by_reply_case case (after_response false client) found answer)

  abbrev case_taken : ReplyCase → ClientTaken
  case_taken case = taken_with freed (case_done case)

  -- if nothing is taken
  quiet_same : fold client_happened client (provisional_more [] (freed_out client freed))
      ≡ after_response false client
  quiet_same =
      sends_freed client (client_happened client GetsProvisional) client.cancel refl

  reliable_same : (rseq : ℕ) → has_dialog client.kind found ≡ true
      → offered (heard_of client.kind (after_response false client) found) rseq ≡ Taken
      → fold client_happened client
      (provisional_more (TakesReliable rseq ∷ []) (freed_out client freed))
      ≡ heard_again client.kind rseq (after_response false client)
  reliable_same rseq there taken =
      let one = client_happened client GetsProvisional in
      sends_freed client (client_happened one (TakesReliable rseq)) client.cancel refl
      ∙ (λ i. record (after_response false client) {
        provisional = or_false (client.provisional || true) i;
        last_rseq = heard_taken client.kind client.last_rseq rseq;
      })
      ∙ sym (hears_so client.kind (after_response false client) found rseq there taken)

  prack_for : (outcome : SendOutcome)
      → IsPrack (option_map_or (λ held. held.created_by) found event.id) outcome
      → ChangesFor event sent_for (request_said event call_id name outcome).1
  prack_for (outcome.Sent sending) is =
      let message = sending.message in
      record {
        fresh =
            (λ i. client_for event.id (kind_in record { name = name; created_by = is.1 i } message)
            message sending.to)
            ∙ (λ i. client_for event.id
            (if sym is.0 i then OutOfDialog else for_dialog event name side.dialogs message) message
            sending.to);
      }
  prack_for outcome.Waits is = tt
  prack_for (outcome.Refused refusal) is = tt

  prack_none : (created_by : Id) (outcome : SendOutcome) → IsPrack created_by outcome
      → HasNoCancel (request_said event call_id name outcome).1
  prack_none created_by (outcome.Sent sending) is = is.0
  prack_none created_by outcome.Waits is = tt
  prack_none created_by (outcome.Refused refusal) is = tt

  found_born : (o : Option HeldDialog)
      → (dialog_for_provisional (after_response false client) answer o).created_by
      ≡ option_map_or (λ held. held.created_by) o event.id
  found_born None = refl
  found_born (Some held) = refl

  told_told : ProvisionalTold [] (case_taken reply.Told)
  told_told = provisional_on (case_done reply.Told) [] (refl, tt) tt tt quiet_same

  early_told : ProvisionalTold [] (case_taken reply.Early)
  early_told = provisional_on (case_done reply.Early) [] (refl, tt) tt tt quiet_same

  passed_told : ProvisionalTold [] (case_taken reply.Passed)
  passed_told = provisional_on (case_done reply.Passed) [] tt tt tt quiet_same

  reliable_told : (rseq : ℕ) → has_dialog client.kind found ≡ true
      → offered (heard_of client.kind (after_response false client) found) rseq ≡ Taken
      → ProvisionalTold (TakesReliable rseq ∷ []) (case_taken (reply.Reliable rseq))
  reliable_told rseq there taken =
      let held = dialog_for_provisional (after_response false client) answer found in
      let pending_requests = prack_owed rseq (after_response false client) held answer in
      let is = subst (λ created_by. IsPrack created_by pending_requests.1) (found_born found)
      (prack_is rseq (after_response false client) held answer) in
      provisional_on (case_done (reply.Reliable rseq)) (TakesReliable rseq ∷ [])
      (case_quiet (reply.Reliable rseq) (after_response false client) found answer)
      (prack_for pending_requests.1 is)
      (prack_none (option_map_or (λ held. held.created_by) found event.id) pending_requests.1 is)
      (reliable_same rseq there taken)

  -- ---- what is taken, by what is told

  shown_by : (done : Replied)
      → list_any is_response (taken_with freed done).1 ≡ list_any is_response done.2
  shown_by done =
      let put = set_value (is_id id) side.clients done.0 in
      let after = settled event id done.3 put in
      beside_silent client freed (after.0, done.2 ++ after.1)
      ∙ list_any-append is_response done.2 after.1
      ∙ ap (λ b. list_any is_response done.2 || b) (settled_silent event id done.3 put)
      ∙ or_false (list_any is_response done.2)

  abbrev takes_by : Bool → Bool → Bool → Option ℕ → List ClientHappening
  takes_by there reported of_dialog rseq =
      if there && reported
      then option_map_or (λ rseq. TakesReliable rseq ∷ []) (if of_dialog then rseq else None) []
      else []

  number_so : is_final status ≡ false → provisional_number (Some status) response
      ≡ (if is_dialog_response answer then rseq_of response else None)
  number_so final =
      ap (λ b. if b then None else (if is_dialog_response answer then rseq_of response else None))
      final

  abbrev ByResponse : ReplyCase → Type 0
  ByResponse case =
      ProvisionalTold (reliable_taken status client response found (case_taken case).1)
      (case_taken case)

  so_taken : is_final status ≡ false → (case : ReplyCase) (takes : List ClientHappening)
      → takes_by (has_dialog client.kind found) (list_any is_response (case_done case).2)
      (is_dialog_response answer) (rseq_of response) ≡ takes
      → ProvisionalTold takes (case_taken case) → ByResponse case
  so_taken final case takes same so =
      subst (λ takes. ProvisionalTold takes (case_taken case))
      (sym ((λ i. if has_dialog client.kind found && shown_by (case_done case) i
      then option_map_or (λ rseq. TakesReliable rseq ∷ []) (number_so final i) [] else []) ∙ same))
      so

  none_taken : (there reported : Bool) → takes_by there reported false (rseq_of response) ≡ []
  none_taken there reported = none_either (there && reported)

  by_offer : is_final status ≡ false → is_dialog_response answer ≡ true
      → has_dialog client.kind found ≡ true → (rseq : ℕ) → rseq_of response ≡ Some rseq
      → (offer : Offer)
      → offered (heard_of client.kind (after_response false client) found) rseq ≡ offer
      → ByResponse (offer_case offer rseq)
  by_offer final of_dialog there rseq has Taken is =
      so_taken final (reply.Reliable rseq) (TakesReliable rseq ∷ [])
      (λ i. takes_by (there i) true (of_dialog i) (has i))
      (reliable_told rseq there is)
  by_offer final of_dialog there rseq has Repeat is =
      so_taken final reply.Passed []
      (λ i. takes_by (there i) false (of_dialog i) (has i)) passed_told
  by_offer final of_dialog there rseq has Gap is =
      so_taken final reply.Passed []
      (λ i. takes_by (there i) false (of_dialog i) (has i)) passed_told

  by_rseq : is_final status ≡ false → is_dialog_response answer ≡ true
      → has_dialog client.kind found ≡ true → (o : Option ℕ) → rseq_of response ≡ o
      → ByResponse (reliable_case (heard_of client.kind (after_response false client) found) o)
  by_rseq final of_dialog there None has =
      so_taken final reply.Early []
      (λ i. takes_by (there i) true (of_dialog i) (has i)) early_told
  by_rseq final of_dialog there (Some rseq) has =
      by_offer final of_dialog there rseq has
      (offered (heard_of client.kind (after_response false client) found) rseq) refl

  provisional_told : is_final status ≡ false → (of_dialog there : Bool)
      → is_dialog_response answer ≡ of_dialog → has_dialog client.kind found ≡ there
      → ByResponse (if of_dialog && there
      then reliable_case (heard_of client.kind (after_response false client) found)
      (rseq_of response)
      else reply.Told)
  provisional_told final true true of_dialog is =
      by_rseq final of_dialog is (rseq_of response) refl
  provisional_told final true false of_dialog is =
      so_taken final reply.Told []
      (λ i. takes_by (is i) true (is_dialog_response answer) (rseq_of response)) told_told
  provisional_told final false there of_dialog is =
      so_taken final reply.Told []
      ((λ i. takes_by (has_dialog client.kind found) true (of_dialog i) (rseq_of response))
      ∙ none_taken (has_dialog client.kind found) true) told_told

  -- ---- any

  abbrev final_case : Bool → ReplyCase
  final_case final =
      if final then success_case (after_response final client) found name
      else (if is_dialog_response answer && has_dialog client.kind found
      then reliable_case (heard_of client.kind (after_response final client) found)
      (rseq_of response)
      else reply.Told)

  abbrev final_taken : Bool → Option Id → ClientTaken
  final_taken final freed =
      taken_with freed (after_dialog name side.dialogs
      (by_reply_case (final_case final) (after_response final client) found answer))

  abbrev FinalTold : Bool → ClientTaken → Type 0
  FinalTold final taken = AreTold (taken.0).clients (begin_stories sent_for taken.1 (happens_to id
      (if final then success_happens (has_answer name client.answers) name event.moment taken.1
      else provisional_more (reliable_taken status client response found taken.1)
      (cancels_out taken.1)) stories))

  by_final : (final : Bool) → is_final status ≡ final
      → FinalTold final (final_taken final (freed_by final client.cancel))
  by_final true is =
      subst (λ freed. FinalTold true (final_taken true freed)) (sym (none_freed client.cancel))
      (success_told (has_answer name client.answers) (has_dialog client.kind found))
  by_final false is =
      provisional_told is (is_dialog_response answer) (has_dialog client.kind found) refl refl

  abbrev LastTold : Bool → ClientTaken → Type 0
  LastTold last taken = AreTold (taken.0).clients (if last then remove_entry (is_id id) stories
      else begin_stories sent_for taken.1 (happens_to id
      (response_happens event status client response name found taken.1) stories))

  and_first : (x y : Bool) → (x && y) ≡ true → x ≡ true
  and_first true y e = refl
  and_first false y e = absurd (false≢true e)

  by_last : (last : Bool) → is_last client.kind status ≡ last
      → LastTold last (taken_with (freed_by (is_final status) client.cancel)
      (cond {A = Replied} last
      (request_over (after_response (is_final status) client) side.dialogs answer)
      (after_dialog name side.dialogs
      (replied_in (after_response (is_final status) client) found answer))))
  by_last true last = over_told (is_final status) (and_first (is_final status) _ last)
  by_last false last = by_final (is_final status) refl

  pub reply_on : let taken = reply_settled answer client side in
      AreTold (taken.0).clients
      (reply_told event id status client response side.dialogs taken.1 stories)
  reply_on = by_last (is_last client.kind status) refl

  -- ---- what happens is allowed by what happened before

  -- the record that the story tells is what is held
  is_told : (story : ClientStory) → lookup (is_id id) stories ≡ Some story
      → client_told story ≡ client
  is_told story is =
      some_same (client_told story) client (sym (ap (option_map client_told) is)
      ∙ sym (lookup-map_values client_told (is_id id) stories) ∙ sym (ap (lookup (is_id id)) told)
      ∙ at)

  case_no_cancel : (case : ReplyCase) → HasNoCancel (case_done case).3
  case_no_cancel reply.Repeated = tt
  case_no_cancel reply.Accepted = tt
  case_no_cancel reply.Late = tt
  case_no_cancel (reply.Reliable rseq) =
      let held = dialog_for_provisional (after_response false client) answer found in
      let pending_requests = prack_owed rseq (after_response false client) held answer in
      prack_none held.created_by pending_requests.1 (prack_is rseq (after_response false client)
      held answer)
  case_no_cancel reply.Passed = tt
  case_no_cancel reply.Early = tt
  case_no_cancel reply.Told = tt

  case_cancels : (case : ReplyCase) → cancels_out (case_taken case).1 ≡ freed_out client freed
  case_cancels case =
      provisional_cancels (case_done case)
      (case_quiet case (after_response false client) found answer) (case_no_cancel case)

  module _ (story : ClientStory) (is : client_told story ≡ client)
      (lived : EachFits story [] story.life) where
    abbrev after_provisional : List ClientHappening
    after_provisional = story.life ++ GetsProvisional ∷ []

    came_now : (life : List ClientHappening)
        → list_any is_provisional_response (life ++ GetsProvisional ∷ []) ≡ true
    came_now life =
        any_more is_provisional_response life GetsProvisional
        ∙ or_true (list_any is_provisional_response life)
      where
        or_true : (b : Bool) → (b || true) ≡ true
        or_true true = refl
        or_true false = refl

    ready_now : (waiting : Id) → client.cancel ≡ cancel.Waits waiting
        → IsReady story after_provisional waiting
    ready_now waiting waits =
        ready_then story story.life waiting GetsProvisional refl refl refl
        (waits_ready story waiting lived
        (ap (λ (client : Client). client.cancel) is ∙ waits))

    abbrev cancel_after : List ClientHappening → Type 0
    cancel_after before = EachFits story before (map SendsCancel (freed_out client freed))

    freed_after : (before : List ClientHappening) → list_any is_provisional_response before ≡ true
        → ((waiting : Id) → client.cancel ≡ cancel.Waits waiting → IsReady story before waiting)
        → cancel_after before
    freed_after before came ready =
        freed_fits story before client client.cancel
        (sym (ap (λ (client : Client). client.request) is))
        (sym (ap (λ (client : Client). client.to) is)) came ready

    takes_fit : (b : Bool) (o : Option ℕ)
        → EachFits story after_provisional
        ((if b then option_map_or (λ rseq. TakesReliable rseq ∷ []) o [] else [])
        ++ map SendsCancel (freed_out client freed))
    takes_fit true (Some rseq) = (
      tt,
      freed_after (after_provisional ++ TakesReliable rseq ∷ [])
          (any_more is_provisional_response after_provisional (TakesReliable rseq)
          ∙ ap (λ b. b || false) (came_now story.life))
          (λ waiting waits. ready_then story after_provisional waiting (TakesReliable rseq) refl
          refl refl (ready_now waiting waits)),
    )
    takes_fit true None = freed_after after_provisional (came_now story.life) ready_now
    takes_fit false o = freed_after after_provisional (came_now story.life) ready_now

    again_fits : (o : Option SentAck) → ack_of name client.answers ≡ o
        → EachFits story (story.life ++ GetsSuccessAgain name ∷ [])
        (map (SendsAckAgain name) (acks_out (option_map_or (λ ack. direct ack ∷ []) o [] ++ [])))
    again_fits None same = tt
    again_fits (Some ack) same = (
      ap (ack_of name) (fold_push with_answer [] story.life (GetsSuccessAgain name))
          ∙ ap (λ (client : Client). ack_of name client.answers) is ∙ same,
      tt,
    )

    abbrev after_success : List ClientHappening
    after_success = story.life ++ GetsSuccess name event.moment ∷ []

    success_fits : (again there : Bool) → EachFits story story.life
        (success_happens again name event.moment (success_taken (if again then reply.Repeated
        else (if there then reply.Accepted else reply.Late))).1)
    success_fits true there = (tt, again_fits (ack_of name client.answers) refl)
    success_fits false true =
        (tt, acks_fit story after_success name (acks_out (success_taken reply.Accepted).1))
    success_fits false false =
        (tt, acks_fit story after_success name (acks_out (success_taken reply.Late).1))

    provisional_fits : (case : ReplyCase) → EachFits story story.life
        (provisional_more (reliable_taken status client response found (case_taken case).1)
        (cancels_out (case_taken case).1))
    provisional_fits case =
        let outs = (case_taken case).1 in (
          tt,
          subst (λ cancels. EachFits story after_provisional
              (reliable_taken status client response found outs ++ map SendsCancel cancels))
              (sym (case_cancels case))
              (takes_fit (has_dialog client.kind found && list_any is_response outs)
              (provisional_number (Some status) response)),
        )

    abbrev FinalFits : Bool → ClientTaken → Type 0
    FinalFits final taken = EachFits story story.life (if final
        then success_happens (has_answer name client.answers) name event.moment taken.1
        else provisional_more (reliable_taken status client response found taken.1)
        (cancels_out taken.1))

    final_fits : (final : Bool) → FinalFits final (final_taken final (freed_by final client.cancel))
    final_fits true =
        subst (λ freed. FinalFits true (final_taken true freed)) (sym (none_freed client.cancel))
        (success_fits (has_answer name client.answers) (has_dialog client.kind found))
    final_fits false = provisional_fits (final_case false)

  abbrev LastLives : Bool → ClientTaken → Type 0
  LastLives last taken = AllLive (if last then remove_entry (is_id id) stories
      else begin_stories sent_for taken.1 (happens_to id
      (response_happens event status client response name found taken.1) stories))

  last_lives : AllLive stories → (last : Bool)
      → LastLives last (taken_with (freed_by (is_final status) client.cancel)
      (cond {A = Replied} last
      (request_over (after_response (is_final status) client) side.dialogs answer)
      (after_dialog name side.dialogs
      (replied_in (after_response (is_final status) client) found answer))))
  last_lives all true = each_but_one LivesSo (is_id id) stories all
  last_lives all false =
      let taken = final_taken (is_final status) (freed_by (is_final status) client.cancel) in
      let more = response_happens event status client response name found taken.1 in
      begin_fit sent_for (requests_out taken.1) (happens_to id more stories)
      (happens_fit id more stories all
      (λ story is lived. final_fits story (is_told story is) lived (is_final status)))

  pub reply_lives : AllLive stories → AllLive (reply_told event id status client response
      side.dialogs (reply_settled answer client side).1 stories)
  reply_lives all = last_lives all (is_last client.kind status)

found_on : (event : Event) (id : Id) (call_id : List ℕ) (response : Message) (side : Side)
    (stories : ClientStories) → AreTold side.clients stories → (status : Option ℕ)
    (o : Option Client) → client_at id side.clients ≡ o
    → let taken = found_taken event id call_id response status o side in
    AreTold (taken.0).clients (option_map_or (λ client. option_map_or
    (λ status. reply_told event id status client response side.dialogs taken.1 stories) status
    stories) o stories)
found_on event id call_id response side stories told None None at = told
found_on event id call_id response side stories told None (Some client) at = told
found_on event id call_id response side stories told (Some status) None at = told
found_on event id call_id response side stories told (Some status) (Some client) at =
    reply_on event id call_id response status client side stories told at

pub response_holds : (event : Event) (id : Id) (call_id : List ℕ) (response : Message)
    → HoldsStories (response_taken event id call_id response)
    (λ side outs stories. response_told event id response side outs stories)
response_holds event id call_id response side stories told =
    found_on event id call_id response side stories told (status_of response.start)
    (client_at id side.clients) refl

found_lives : (event : Event) (id : Id) (call_id : List ℕ) (response : Message) (side : Side)
    (stories : ClientStories) → AreTold side.clients stories → AllLive stories
    → (status : Option ℕ) (o : Option Client) → client_at id side.clients ≡ o
    → let taken = found_taken event id call_id response status o side in
    AllLive (option_map_or (λ client. option_map_or
    (λ status. reply_told event id status client response side.dialogs taken.1 stories) status
    stories) o stories)
found_lives event id call_id response side stories told all None None at = all
found_lives event id call_id response side stories told all None (Some client) at = all
found_lives event id call_id response side stories told all (Some status) None at = all
found_lives event id call_id response side stories told all (Some status) (Some client) at =
    reply_lives event id call_id response status client side stories told at all

pub response_rules : (event : Event) (id : Id) (call_id : List ℕ) (response : Message)
    → HoldsRules (response_taken event id call_id response)
    (λ side outs stories. response_told event id response side outs stories)
response_rules event id call_id response side stories told all =
    found_lives event id call_id response side stories told all (status_of response.start)
    (client_at id side.clients) refl
