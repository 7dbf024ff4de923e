-- A response: the rule says the same as the step.
use Rattle.std.proofs.Common.{◌≡◌, ℕ, ◌+◌, Bool, true, false, cond, ◌&&◌, ◌||◌, List, [], ◌∷◌, ◌++◌, refl, sym, ap, ◌∙◌, append-nil}
use Rattle.std.specs.Prelude.{Option, None, Some, ◌==◌, fold, nat_le, nat_lt, not, option_map, option_to_list, if◌then◌else◌}
use Rattle.std.specs.Map.{remove_entry, set_value}
use Rattle.std.specs.Option.{option_map_or}
use Rattle.indexmap.specs.IndexMap.{insert_entry}
use Rattle.keyed_machine.proofs.Ordered.{by_bool}
use Rattle.sip_message.specs.Content.{Content}
use Rattle.sip_message.specs.Party.{tag_of}
use Rattle.sip_message.specs.declared.id.Id.{Id}
use Rattle.sip_message.specs.declared.message.Message.{Message}
use Rattle.sip_message.specs.declared.start_line.StartLine.{StartLine}
use Rattle.sip_message.specs.declared.start_line.StartLine.TheVariants as start
use Rattle.sip_dialog.specs.Dialog.{is_ended}
use Rattle.sip_dialog.specs.Opening.{contact_uri}
use Rattle.sip_reliable.specs.declared.offer.Offer.TheVariants.{Taken, Repeat, Gap}
use Rattle.sip_reliable.specs.Inbound.{latest_after, offered}
use Rattle.sip_held_dialogs.specs.declared.pending_request.PendingRequest.{PendingRequest}
use Rattle.sip_held_dialogs.specs.declared.pending_request.PendingRequest.TheVariants.{Ack, Prack}
use Rattle.sip_held_dialogs.specs.declared.held_dialog.DialogReference.{DialogReference}
use Rattle.sip_held_dialogs.specs.declared.held_dialog.DialogId.{DialogId}
use Rattle.sip_held_dialogs.specs.declared.held_dialog.HeldDialog.{HeldDialog}
use Rattle.sip_user.specs.declared.item.CallOut.{CallOut}
use Rattle.sip_held_dialogs.specs.Dialogs.{confirmed, dialog_at, is_dialog_id, retargeted, Dialogs}
use Rattle.sip_held_dialogs.specs.Ids.{is_id}
use Rattle.sip_held_dialogs.specs.Requests.{is_final, dialog_id_of_tags}
use Rattle.sip_clients.specs.declared.answers.SentAck.{SentAck}
use Rattle.sip_clients.specs.declared.client.Cancelling.{Cancelling}
use Rattle.sip_clients.specs.declared.client.Cancelling.TheVariants.{NotAsked, Waits, Sent}
use Rattle.sip_clients.specs.declared.client.Client.{Client}
use Rattle.sip_clients.specs.declared.client.RequestKind.{RequestKind}
use Rattle.sip_clients.specs.declared.client.RequestKind.TheVariants.{InitialInvite, ReInvite, InDialog, OutOfDialog}
use Rattle.sip_clients.specs.declared.event.Event.{Event}
use Rattle.sip_clients.specs.declared.outputs.ClientChange.TheVariants.{Stays, Over}
use Rattle.sip_clients.specs.declared.reply.ReceivedResponse.{ReceivedResponse}
use Rattle.sip_clients.specs.declared.reply.ReplyCase.{ReplyCase}
use Rattle.sip_clients.specs.declared.reply.ReplyCase.TheVariants as reply
use Rattle.sip_clients.specs.declared.send_outcome.SendOutcome.{SendOutcome}
use Rattle.sip_clients.specs.declared.send_outcome.SendOutcome.TheVariants as outcome
use Rattle.sip_clients.specs.Answers.{has_answer}
use Rattle.sip_clients.specs.Cancel.{after_response, cancel_client, cancel_freed, cancelling_after, freed_by}
use Rattle.sip_clients.specs.Client.{ClientTaken, Side, client_at}
use Rattle.sip_clients.specs.Clients.{found_taken, reply_name, reply_of, reply_settled, response_taken, side_after, status_of}
use Rattle.sip_clients.specs.Pending.{kept_unless_sent, kept_pending}
use Rattle.sip_clients.specs.Dialogs.{accepted, hearing}
use Rattle.sip_clients.specs.Outputs.{ack_said, request_said, response_notice, start_command}
use Rattle.sip_clients.specs.Replied.{Replied, accepted_by_ack, ack_again, ack_owed, after_dialog, ends_dialog, hears, held_after_success, notice, automatic_body, prack_owed, reliable, reply_taken, request_over, told_of_prack}
use Rattle.sip_clients.specs.ReceivedResponse.{is_dialog_response, offer_case, rseq_of}
use Rattle.sip_clients.specs.SendOutcome.{discharged}
use Rattle.sip_clients.specs.Rules.Ends as ends
use Rattle.sip_clients.specs.Rules.Requests as rule
use Rattle.sip_clients.specs.Rules.Responses.{Outcome, dialog_made_by, outcome_of, response_received, success_in, waiting_cancel}
use Rattle.sip_clients.specs.Rules.Responses as response
use Rattle.sip_clients.proofs.RuleEnds.{over_same}
use Rattle.sip_clients.proofs.RuleRequests.{dialog_by, owed_kept, served_by, served_same, started_by}

-- ---- an outcome put into the side

abbrev put : Id → Side → List Client → Outcome → ClientTaken
put id side cancel done =
    let clients = option_map_or (set_value (is_id id) side.clients) done.request
    (remove_entry (is_id id) side.clients) in
    let sent = fold rule.start (clients, done.outs) (done.prack ++ cancel) in
    (record { dialogs = done.dialogs; clients = sent.0 }, sent.1)

stays_put : (event : Event) (id : Id) (side : Side) (cancel : Option Client) (client : Client)
    (dialogs : Dialogs) (outs : List CallOut)
    → put id side (option_to_list cancel)
    (record { request = Some client; dialogs = dialogs; outs = outs; prack = [] })
    ≡ side_after event id side cancel (client, dialogs, outs, Stays)
unfolding start_command
stays_put event id side None client dialogs outs =
    let clients = set_value (is_id id) side.clients client in
    ap (λ (outs : List CallOut). (record { dialogs = dialogs; clients = clients }, outs))
    (sym (append-nil outs))
stays_put event id side (Some cancel) client dialogs outs =
    let clients = set_value (is_id id) side.clients client in
    ap (λ (outs : List CallOut).
    let sent = rule.start (clients, outs) cancel in
    (record { dialogs = dialogs; clients = sent.0 }, sent.1)) (sym (append-nil outs))

removed_step : {K X : Type 0} (test : K → Bool) (e : K × X) (es : List (K × X)) (w : X) (b : Bool)
    → test e.0 ≡ b → remove_entry test (set_value test es w) ≡ remove_entry test es
    → remove_entry test (cond b ((e.0, w) ∷ es) (e ∷ set_value test es w))
    ≡ cond b es (e ∷ remove_entry test es)
removed_step test e es w true is later =
    ap (λ b. cond b es ((e.0, w) ∷ remove_entry test es)) is
removed_step {K} {X} test e es w false is later =
    ap (λ b. cond b (set_value test es w) (e ∷ remove_entry test (set_value test es w))) is
    ∙ ap (λ (rest : List (K × X)). e ∷ rest) later

removed_set : {K X : Type 0} (test : K → Bool) (es : List (K × X)) (w : X)
    → remove_entry test (set_value test es w) ≡ remove_entry test es
removed_set test [] w = refl
removed_set test (e ∷ es) w =
    removed_step test e es w (test e.0) refl (removed_set test es w)

over_put : (event : Event) (id : Id) (side : Side) (cancel : Option Client) (client : Client)
    (dialogs : Dialogs) (outs : List CallOut)
    → put id side (option_to_list cancel)
    (record { request = None; dialogs = dialogs; outs = outs; prack = [] })
    ≡ side_after event id side cancel (client, dialogs, outs, Over)
unfolding start_command
over_put event id side None client dialogs outs =
    λ i. (
      record {
        dialogs = dialogs;
        clients = sym (removed_set (is_id id) side.clients client) i;
      },
      sym (append-nil outs) i,
    )
over_put event id side (Some cancel) client dialogs outs =
    λ i. (
    let sent = rule.start (
      sym (removed_set (is_id id) side.clients client) i,
      sym (append-nil outs) i,
    ) cancel in
    (record { dialogs = dialogs; clients = sent.0 }, sent.1)
    )

-- a PRACK is sent, waits or is refused
prack_put : (event : Event) (id : Id) (side : Side) (cancel : Option Client) (client : Client)
    (dialogs : Dialogs) (call_id : List ℕ) (name : DialogId) (told : CallOut) (o : SendOutcome)
    → (let said = request_said event call_id name o in
    put id side (option_to_list cancel) (record {
      request = Some client;
      dialogs = dialogs;
      outs = told ∷ said.0;
      prack = started_by said.1;
    }))
    ≡ (let said = request_said event call_id name o in
    side_after event id side cancel (client, dialogs, told ∷ said.0, said.1))
unfolding start_command
prack_put event id side None client dialogs call_id name told (outcome.Sent sending) = refl
prack_put event id side (Some cancel) client dialogs call_id name told (outcome.Sent sending) =
    refl
prack_put event id side cancel client dialogs call_id name told outcome.Waits =
    stays_put event id side cancel client dialogs (told ∷ [])
prack_put event id side cancel client dialogs call_id name told (outcome.Refused why) =
    stays_put event id side cancel client dialogs
    (told ∷ (request_said event call_id name (outcome.Refused why)).0)

-- ---- what a response asks for

abbrev seen : Event → List ℕ → DialogId → PendingRequest → HeldDialog × SendOutcome
    → rule.PendingOutcome
seen event call_id name (Ack invite number) done = record {
  dialog = done.0;
  ack = (ack_said event call_id done.1).1;
  prack = [];
  outs = (ack_said event call_id done.1).0;
}
seen event call_id name (Prack rseq number) done = record {
  dialog = done.0;
  ack = None;
  prack = started_by (request_said event call_id name done.1).1;
  outs = (request_said event call_id name done.1).0;
}

kept_in : (pending : PendingRequest) (held after : HeldDialog) (o : SendOutcome)
    → after.pending_requests ≡ held.pending_requests
    → dialog_by o held.pending_requests (held.pending_requests ++ pending ∷ []) after
    ≡ kept_unless_sent pending o after
kept_in pending held after (outcome.Sent sending) same =
    ap (λ (pending_requests : List PendingRequest). record after
    { pending_requests = pending_requests }) (sym same)
kept_in pending held after outcome.Waits same =
    ap (λ (pending_requests : List PendingRequest). record after
    { pending_requests = pending_requests ++ pending ∷ [] }) (sym same)
kept_in pending held after (outcome.Refused why) same =
    ap (λ (pending_requests : List PendingRequest). record after
    { pending_requests = pending_requests ++ pending ∷ [] }) (sym same)

owed_seen : (event : Event) (call_id : List ℕ) (name : DialogId) (pending : PendingRequest)
    (content : Option Content) (held : HeldDialog)
    → served_by event call_id name pending held.pending_requests
    (held.pending_requests ++ pending ∷ [])
    (discharged event pending content held)
    ≡ seen event call_id name pending (kept_pending event pending content held)
unfolding kept_pending
owed_seen event call_id name (Ack invite number) content held =
    let pending = Ack invite number in
    let done = discharged event pending content held in
    ap (λ (after : HeldDialog). seen event call_id name pending (after, done.1))
    (kept_in pending held done.0 done.1 (owed_kept event pending content held))
owed_seen event call_id name (Prack rseq number) content held =
    let pending = Prack rseq number in
    let done = discharged event pending content held in
    ap (λ (after : HeldDialog). seen event call_id name pending (after, done.1))
    (kept_in pending held done.0 done.1 (owed_kept event pending content held))

owed_same : (event : Event) (call_id : List ℕ) (name : DialogId) (pending : PendingRequest)
    (content : Option Content) (held : HeldDialog)
    → rule.pending_outcome event call_id name pending content held
    (record held { pending_requests = held.pending_requests ++ pending ∷ [] })
    ≡ seen event call_id name pending (kept_pending event pending content held)
owed_same event call_id name pending content held =
    served_same event call_id name held held.pending_requests
    (held.pending_requests ++ pending ∷ []) pending content
    ∙ owed_seen event call_id name pending content held

-- ---- one response

success_first : (message : Message) (held : HeldDialog)
    → success_in true message held ≡ confirmed message held
success_first message held = by_ended (is_ended held.dialog.state) refl
  where
    by_ended : (b : Bool) → is_ended held.dialog.state ≡ b
        → success_in true message held ≡ confirmed message held
    by_ended true is = rw is refl
    by_ended false is = rw is refl

success_again : (message : Message) (held : HeldDialog)
    → success_in false message held ≡ retargeted (contact_uri message) held
success_again message held = by_ended (is_ended held.dialog.state) (contact_uri message) refl refl
  where
    by_ended : (b : Bool) (uri : Option (List ℕ)) → is_ended held.dialog.state ≡ b
        → contact_uri message ≡ uri
        → success_in false message held ≡ retargeted (contact_uri message) held
    by_ended true None is target = rw (target, is) refl
    by_ended true (Some uri) is target = rw (target, is) refl
    by_ended false None is target = rw (target, is) refl
    by_ended false (Some uri) is target = rw (target, is) refl

-- the next RSeq is taken, any other is dropped
abbrev is_next : Option ℕ → ℕ → Bool
is_next last rseq = option_map_or (λ last. rseq == last + 1) last true

abbrev Goes : Bool → ReplyCase → ℕ → Type 0
Goes true case rseq = case ≡ reply.Reliable rseq
Goes false case rseq = case ≡ reply.Passed

goes : (last : Option ℕ) (rseq : ℕ)
    → Goes (is_next last rseq) (offer_case (offered last rseq) rseq) rseq
goes None rseq = refl
goes (Some last) rseq = by (rseq == last + 1) (nat_le rseq last)
  where
    by : (next before : Bool) → Goes next
        (offer_case (if next then Taken else (if before then Repeat else Gap)) rseq) rseq
    by true before = refl
    by false true = refl
    by false false = refl

latest : (last : Option ℕ) (rseq : ℕ) → is_next last rseq ≡ true
    → latest_after (offered last rseq) last rseq ≡ Some rseq
latest None rseq is = refl
latest (Some last) rseq is = ap (λ b. latest_after (if b then Taken
    else (if nat_le rseq last then Repeat else Gap)) (Some last) rseq) is

module _ (answer : ReceivedResponse) (side : Side) (cancel : Option Client) where
  abbrev ours : Outcome → ClientTaken
  ours done = put answer.id side (option_to_list cancel) done

  abbrev theirs : Replied → ClientTaken
  theirs done = side_after answer.event answer.id side cancel done

  abbrev Same : Client → Type 0
  Same client = ours (outcome_of answer client side.dialogs)
      ≡ theirs (reply_taken client side.dialogs answer)

  stays : (client : Client) (dialogs : Dialogs) (outs : List CallOut)
      → ours (record { request = Some client; dialogs = dialogs; outs = outs; prack = [] })
      ≡ theirs (client, dialogs, outs, Stays)
  stays client dialogs outs =
      stays_put answer.event answer.id side cancel client dialogs outs

  over : (client : Client)
      → (let ended = ends.request_over client (ends_dialog answer.status) side.dialogs in
      ours (record {
        request = None;
        dialogs = ended.0;
        outs = response_notice answer ∷ ended.1;
        prack = [];
      }))
      ≡ theirs (request_over client side.dialogs answer)
  over client =
      ap (λ (ended : Dialogs × List CallOut). ours (record {
        request = None;
        dialogs = ended.0;
        outs = response_notice answer ∷ ended.1;
        prack = [];
      })) (over_same client (ends_dialog answer.status) side.dialogs)
      ∙ over_put answer.event answer.id side cancel client _ _

  abbrev asked_for : Option Content → PendingRequest → HeldDialog → rule.PendingOutcome
  asked_for content pending held =
      rule.pending_outcome answer.event answer.call_id answer.name pending content held
      (record held { pending_requests = held.pending_requests ++ pending ∷ [] })

  abbrev with_served : (Option SentAck → Client) → rule.PendingOutcome → Outcome
  with_served after done = record {
    request = Some (after done.ack);
    dialogs = insert_entry is_dialog_id side.dialogs answer.name done.dialog;
    outs = response_notice answer ∷ done.outs;
    prack = done.prack;
  }

  ack_asked : (client : Client) (held : HeldDialog)
      → ours (with_served (λ ack. held_after_success answer ack client)
      (asked_for (automatic_body client answer.response)
      (Ack client.id ((client.request).cseq).number) held))
      ≡ theirs (after_dialog answer.name side.dialogs (accepted_by_ack client held answer))
  unfolding ack_owed
  ack_asked client held =
      let pending = Ack client.id ((client.request).cseq).number in
      let content = automatic_body client answer.response in
      let done = kept_pending answer.event pending content held in
      let said = ack_said answer.event answer.call_id done.1 in
      ap (λ (done : rule.PendingOutcome).
      ours (with_served (λ ack. held_after_success answer ack client) done))
      (owed_same answer.event answer.call_id answer.name pending content held)
      ∙ stays (held_after_success answer said.1 client)
      (insert_entry is_dialog_id side.dialogs answer.name done.0) (response_notice answer ∷ said.0)

  prack_asked : (after : Client) (content : Option Content) (rseq number : ℕ) (held : HeldDialog)
      → ours (with_served (λ ack. after) (asked_for content (Prack rseq number) held))
      ≡ (let done = kept_pending answer.event (Prack rseq number) content held in
      let told = told_of_prack answer done.1 in
      theirs (after, insert_entry is_dialog_id side.dialogs answer.name done.0, told.0, told.1))
  prack_asked after content rseq number held =
      let done = kept_pending answer.event (Prack rseq number) content held in
      ap (λ (done : rule.PendingOutcome). ours (with_served (λ ack. after) done))
      (owed_same answer.event answer.call_id answer.name (Prack rseq number) content held)
      ∙ prack_put answer.event answer.id side cancel after
      (insert_entry is_dialog_id side.dialogs answer.name done.0) answer.call_id answer.name
      (response_notice answer) done.1

  -- ---- no INVITE

  abbrev of_kind : RequestKind → Client → Client
  of_kind kind client = record client { kind = kind }

  other : (client : Client) → Same (of_kind OutOfDialog client)
  other client =
      by_bool (is_final answer.status) (λ f. rw f (over (of_kind OutOfDialog client)))
      (λ f. by_bool (is_dialog_response answer)
      (λ d. rw (f, d) (stays (of_kind OutOfDialog client) side.dialogs (notice answer)))
      (λ d. rw (f, d) (stays (of_kind OutOfDialog client) side.dialogs (notice answer))))

  other_inside : (life : DialogReference) (client : Client) → Same (of_kind (InDialog life) client)
  other_inside life client =
      by_bool (is_final answer.status) (λ f. rw f (over (of_kind (InDialog life) client)))
      (λ f. by_bool (is_dialog_response answer)
      (λ d. rw (f, d) (stays (of_kind (InDialog life) client) side.dialogs (notice answer)))
      (λ d. rw (f, d) (stays (of_kind (InDialog life) client) side.dialogs (notice answer))))

  -- ---- an initial INVITE

  abbrev initial : Client → Client
  initial client = of_kind InitialInvite client

  accepted_first : (client : Client) (found : Option HeldDialog)
      → option_map_or (success_in true answer.response) found (dialog_made_by answer client)
      ≡ accepted (initial client) answer found
  accepted_first client None = refl
  accepted_first client (Some held) = success_first answer.response held

  ack_first : (client : Client)
      → ours (with_served (λ ack. held_after_success answer ack (initial client))
      (asked_for (automatic_body client answer.response)
      (Ack client.id ((client.request).cseq).number)
      (option_map_or (success_in true answer.response) (dialog_at answer.name side.dialogs)
      (dialog_made_by answer client))))
      ≡ theirs (after_dialog answer.name side.dialogs (accepted_by_ack (initial client)
      (accepted (initial client) answer (dialog_at answer.name side.dialogs)) answer))
  ack_first client =
      ap (λ (held : HeldDialog).
      ours (with_served (λ ack. held_after_success answer ack (initial client))
      (asked_for (automatic_body client answer.response)
      (Ack client.id ((client.request).cseq).number)
      held)))
      (accepted_first client (dialog_at answer.name side.dialogs))
      ∙ ack_asked (initial client)
      (accepted (initial client) answer (dialog_at answer.name side.dialogs))

  success_of_first : (client : Client) → is_final answer.status ≡ true
      → nat_lt answer.status 300 ≡ true → Same (initial client)
  success_of_first client f s =
      by_bool (has_answer answer.name client.answers)
      (λ h. rw (f, s, h) (stays (initial client) side.dialogs (ack_again client answer)))
      (λ h. rw (f, s, h) (ack_first client))

  early_of_first : (client : Client) (found : Option HeldDialog) (rseq : Option ℕ)
      → is_final answer.status ≡ false → is_dialog_response answer ≡ true
      → dialog_at answer.name side.dialogs ≡ found → rseq_of answer.response ≡ rseq
      → Same (initial client)
  unfolding prack_owed
  early_of_first client None None f d at is =
      rw (f, d, at, is) (stays (initial client) (insert_entry is_dialog_id side.dialogs answer.name
      (dialog_made_by answer client)) (notice answer))
  early_of_first client (Some held) None f d at is =
      rw (f, d, at, is) (stays (initial client)
      (insert_entry is_dialog_id side.dialogs answer.name held) (notice answer))
  early_of_first client None (Some rseq) f d at is =
      rw (f, d, at, is) (prack_asked (initial client) (automatic_body client answer.response) rseq
      ((client.request).cseq).number
      (record (dialog_made_by answer client) { last_rseq = Some rseq }))
  early_of_first client (Some held) (Some rseq) f d at is =
      by_next (is_next held.last_rseq rseq) refl (goes held.last_rseq rseq)
    where
      by_next : (b : Bool) → is_next held.last_rseq rseq ≡ b
          → Goes b (offer_case (offered held.last_rseq rseq) rseq) rseq → Same (initial client)
      by_next true n case =
          let content = automatic_body client answer.response in
          let number = ((client.request).cseq).number in
          let last_rseq : HeldDialog = record held { last_rseq = Some rseq } in
          let left : outcome_of answer (initial client) side.dialogs
          ≡ with_served (λ ack. initial client) (asked_for content (Prack rseq number) last_rseq)
          = rw (f, d, at, is, n) refl in
          let right : reply_taken (initial client) side.dialogs answer
          ≡ after_dialog answer.name side.dialogs (reliable rseq (initial client) held answer)
          = rw (f, d, at, is, case) refl in
          let hears : hearing rseq held ≡ last_rseq =
          ap (λ (last : Option ℕ). record held { last_rseq = last }) (latest held.last_rseq rseq n)
          in
          ap ours left ∙ prack_asked (initial client) content rseq number last_rseq
          ∙ ap (λ (last_rseq : HeldDialog).
          let done = kept_pending answer.event (Prack rseq number) content last_rseq in
          let told = told_of_prack answer done.1 in
          theirs (
            initial client,
            insert_entry is_dialog_id side.dialogs answer.name done.0,
            told.0,
            told.1,
          )) (sym hears)
          ∙ ap theirs (sym right)
      by_next false n case =
          let left : outcome_of answer (initial client) side.dialogs ≡ record {
            request = Some (initial client);
            dialogs = side.dialogs;
            outs = [];
            prack = [];
          } = rw (f, d, at, is, n) refl in
          let right : reply_taken (initial client) side.dialogs answer
          ≡ (initial client, side.dialogs, [], Stays)
          = rw (f, d, at, is, case) refl in
          ap ours left ∙ stays (initial client) side.dialogs [] ∙ ap theirs (sym right)

  provisional_of_first : (client : Client) → is_final answer.status ≡ false
      → Same (initial client)
  provisional_of_first client f =
      by_bool (is_dialog_response answer)
      (λ d. early_of_first client (dialog_at answer.name side.dialogs) (rseq_of answer.response)
      f d refl refl)
      (λ d. rw (f, d) (stays (initial client) side.dialogs (notice answer)))

  first : (client : Client) → Same (initial client)
  first client =
      by_bool (is_final answer.status)
      (λ f. by_bool (nat_lt answer.status 300) (success_of_first client f)
      (λ s. rw (f, s) (over (initial client)))) (provisional_of_first client)
  -- ---- a re-INVITE: the response is of its dialog

module _ (life : DialogReference) (given : ReceivedResponse) (side : Side) (cancel : Option Client)
  where
    abbrev own : ReceivedResponse
    own = record given { name = life.name }

    abbrev again : Client → Client
    again client = record client { kind = ReInvite life }

    ack_again_owed : (client : Client) (held : HeldDialog)
        → ours own side cancel
        (with_served own side cancel (λ ack. held_after_success own ack (again client))
        (asked_for own side cancel (automatic_body client own.response)
        (Ack client.id ((client.request).cseq).number) (success_in false own.response held)))
        ≡ theirs own side cancel (after_dialog own.name side.dialogs
        (accepted_by_ack (again client) (accepted (again client) own (Some held)) own))
    ack_again_owed client held =
        ap (λ (held : HeldDialog). ours own side cancel
        (with_served own side cancel (λ ack. held_after_success own ack (again client))
        (asked_for own side cancel (automatic_body client own.response)
        (Ack client.id ((client.request).cseq).number) held)))
        (success_again own.response held)
        ∙ ack_asked own side cancel (again client)
        (accepted (again client) own (Some held))

    success_of_again : (client : Client) (found : Option HeldDialog) → is_final own.status ≡ true
        → nat_lt own.status 300 ≡ true → dialog_at life.name side.dialogs ≡ found
        → Same own side cancel (again client)
    success_of_again client found f s at =
        by_answered (has_answer own.name client.answers) found refl at
      where
        by_answered : (b : Bool) (found : Option HeldDialog) → has_answer own.name client.answers
            ≡ b
            → dialog_at life.name side.dialogs ≡ found → Same own side cancel (again client)
        by_answered true found h at =
            rw (f, s, h) (stays own side cancel (again client) side.dialogs (ack_again client own))
        by_answered false None h at =
            rw (f, s, h, at) (stays own side cancel (held_after_success own None (again client))
            side.dialogs (notice own))
        by_answered false (Some held) h at =
            by_bool (is_id held.created_by life.created_by)
            (λ l. rw (f, s, h, at, l) (ack_again_owed client held))
            (λ l. rw (f, s, h, at, l) (stays own side cancel
            (held_after_success own None (again client)) side.dialogs (notice own)))

    early_of_again : (client : Client) (held : HeldDialog) (rseq : Option ℕ)
        → is_final own.status ≡ false → is_dialog_response own ≡ true
        → is_id held.created_by life.created_by ≡ true → dialog_at life.name side.dialogs
        ≡ Some held
        → rseq_of own.response ≡ rseq → Same own side cancel (again client)
    unfolding prack_owed
    early_of_again client held None f d l at is =
        rw (f, at, l, d, is) (stays own side cancel (again client)
        (insert_entry is_dialog_id side.dialogs own.name held) (notice own))
    early_of_again client held (Some rseq) f d l at is =
        by_next (is_next client.last_rseq rseq) refl (goes client.last_rseq rseq)
      where
        by_next : (b : Bool) → is_next client.last_rseq rseq ≡ b
            → Goes b (offer_case (offered client.last_rseq rseq) rseq) rseq
            → Same own side cancel (again client)
        by_next true n case =
            let content = automatic_body client own.response in
            let number = ((client.request).cseq).number in
            let after : Client = record (again client) { last_rseq = Some rseq } in
            let left : outcome_of own (again client) side.dialogs
            ≡ with_served own side cancel (λ ack. after)
            (asked_for own side cancel content (Prack rseq number) held)
            = rw (f, at, l, d, is, n) refl in
            let right : reply_taken (again client) side.dialogs own
            ≡ after_dialog own.name side.dialogs (reliable rseq (again client) held own)
            = rw (f, at, l, d, is, case) refl in
            let hears_it : hears rseq (again client) ≡ after =
            ap (λ (last : Option ℕ). record (again client) { last_rseq = last })
            (latest client.last_rseq rseq n) in
            ap (ours own side cancel) left
            ∙ prack_asked own side cancel after content rseq number held
            ∙ ap (λ (after : Client).
            let done = kept_pending own.event (Prack rseq number) content held in
            let told = told_of_prack own done.1 in
            theirs own side cancel (
              after,
              insert_entry is_dialog_id side.dialogs own.name done.0,
              told.0,
              told.1,
            )) (sym hears_it)
            ∙ ap (theirs own side cancel) (sym right)
        by_next false n case =
            let left : outcome_of own (again client) side.dialogs ≡ record {
              request = Some (again client);
              dialogs = side.dialogs;
              outs = [];
              prack = [];
            } = rw (f, at, l, d, is, n) refl in
            let right : reply_taken (again client) side.dialogs own
            ≡ (again client, side.dialogs, [], Stays)
            = rw (f, at, l, d, is, case) refl in
            ap (ours own side cancel) left ∙ stays own side cancel (again client) side.dialogs []
            ∙ ap (theirs own side cancel) (sym right)

    abbrev told_alone : Client → Outcome
    told_alone client = record {
      request = Some client;
      dialogs = side.dialogs;
      outs = notice own;
      prack = [];
    }

    abbrev IsTold : Client → Type 0
    IsTold client = (outcome_of own client side.dialogs ≡ told_alone client)
        × (reply_taken client side.dialogs own ≡ (client, side.dialogs, notice own, Stays))

    told_only : (client : Client) → IsTold client → Same own side cancel client
    told_only client told =
        ap (ours own side cancel) told.0 ∙ stays own side cancel client side.dialogs (notice own)
        ∙ ap (theirs own side cancel) (sym told.1)

    -- the response has no dialog, or its dialog has ended
    told_by : (client : Client) (held : HeldDialog) (d l : Bool) → is_final own.status ≡ false
        → dialog_at life.name side.dialogs ≡ Some held → is_dialog_response own ≡ d
        → is_id held.created_by life.created_by ≡ l → (d && l) ≡ false → IsTold (again client)
    told_by client held true true f at d l none = absurd cc
    told_by client held true false f at d l none =
        (rw (f, at, l) refl, rw (f, at, l, d) refl)
    told_by client held false true f at d l none =
        (rw (f, at, l, d) refl, rw (f, at, l, d) refl)
    told_by client held false false f at d l none =
        (rw (f, at, l) refl, rw (f, at, l, d) refl)

    gone : (client : Client) (d : Bool) → is_final own.status ≡ false
        → dialog_at life.name side.dialogs ≡ None → is_dialog_response own ≡ d
        → IsTold (again client)
    gone client true f at d = (rw (f, at) refl, rw (f, at, d) refl)
    gone client false f at d = (rw (f, at) refl, rw (f, at, d) refl)

    provisional_of_again : (client : Client) (found : Option HeldDialog)
        → is_final own.status ≡ false → dialog_at life.name side.dialogs ≡ found
        → Same own side cancel (again client)
    provisional_of_again client None f at =
        told_only (again client) (gone client (is_dialog_response own) f at refl)
    provisional_of_again client (Some held) f at =
        by_bool (is_dialog_response own)
        (λ d. by_bool (is_id held.created_by life.created_by)
        (λ l. early_of_again client held (rseq_of own.response) f d l at refl)
        (λ l. told_only (again client) (told_by client held true false f at d l refl)))
        (λ d. told_only (again client) (told_by client held false
        (is_id held.created_by life.created_by) f at d
        refl refl))

    re_invite : (client : Client) → Same own side cancel (again client)
    re_invite client =
        by_bool (is_final own.status)
        (λ f. by_bool (nat_lt own.status 300)
        (λ s. success_of_again client (dialog_at life.name side.dialogs) f s refl)
        (λ s. rw (f, s) (over own side cancel (again client))))
        (λ f. provisional_of_again client (dialog_at life.name side.dialogs) f refl)

-- ---- any response

-- the response of this name to a request of this kind
abbrev name_by : RequestKind → Client → Message → DialogId
name_by kind client message =
    option_map_or (λ life. life.name) (rule.dialog_of_kind kind)
    (dialog_id_of_tags (tag_of (client.request).from) (tag_of message.to))

name_same : (kind : RequestKind) (client : Client) (message : Message)
    → name_by kind client message ≡ reply_name kind client message
name_same InitialInvite client message = refl
name_same (ReInvite life) client message = refl
name_same (InDialog life) client message = refl
name_same OutOfDialog client message = refl

any_kind : (kind : RequestKind) (answer : ReceivedResponse) (side : Side) (cancel : Option Client)
    (client : Client) (message : Message)
    → Same (record answer { name = name_by kind client message }) side cancel
    (record client { kind = kind })
any_kind InitialInvite answer side cancel client message =
    first (record answer { name = name_by InitialInvite client message }) side cancel client
any_kind (ReInvite life) answer side cancel client message =
    re_invite life answer side cancel client
any_kind (InDialog life) answer side cancel client message =
    other_inside (record answer { name = life.name }) side cancel life client
any_kind OutOfDialog answer side cancel client message =
    other (record answer { name = name_by OutOfDialog client message }) side cancel client

cancelling_same : (final : Bool) (cancel : Cancelling)
    → option_map_or (λ by. if final then NotAsked else Sent) (waiting_cancel cancel) cancel
    ≡ cancelling_after final cancel
cancelling_same final NotAsked = refl
cancelling_same final (Waits id) = refl
cancelling_same final Sent = refl

freed_same : (final : Bool) (invite : Client) (cancel : Cancelling)
    → (if final then [] else option_map_or (λ by. rule.cancel_request by invite ∷ [])
    (waiting_cancel cancel) [])
    ≡ option_to_list (option_map (λ id. cancel_client id invite) (freed_by final cancel))
freed_same true invite NotAsked = refl
freed_same true invite (Waits id) = refl
freed_same true invite Sent = refl
freed_same false invite NotAsked = refl
freed_same false invite (Waits id) = refl
freed_same false invite Sent = refl

-- a response to a held request
taken_same : (answer : ReceivedResponse) (side : Side) (client : Client)
    → (let final = is_final answer.status in
    put answer.id side
    (if final then [] else option_map_or (λ by. rule.cancel_request by client ∷ [])
    (waiting_cancel client.cancel) [])
    (outcome_of (record answer { name = name_by client.kind client answer.response })
    (record client {
      provisional = client.provisional || not final;
      cancel = option_map_or (λ by. if final then NotAsked else Sent)
          (waiting_cancel client.cancel) client.cancel;
    }) side.dialogs))
    ≡ reply_settled (record answer { name = reply_name client.kind client answer.response }) client
    side
taken_same answer side client =
    let final = is_final answer.status in
    let named = record answer { name = name_by client.kind client answer.response } in
    (λ i. put answer.id side (freed_same final client client.cancel i)
    (outcome_of named (record client {
      provisional = client.provisional || not final;
      cancel = cancelling_same final client.cancel i;
    }) side.dialogs))
    ∙ any_kind client.kind answer side (cancel_freed final client) (after_response final client)
    answer.response
    ∙ ap (λ name. reply_settled (record answer { name = name }) client side)
    (name_same client.kind client answer.response)

-- the effect of a response, by its status and the held request
abbrev rule_by : Event → Id → List ℕ → Message → Side → Option ℕ → Option Client → ClientTaken
rule_by event id call_id message side status held =
    option_map_or (λ status. option_map_or (λ (client : Client).
    let final = is_final status in
    put id side
    (if final then [] else option_map_or (λ by. rule.cancel_request by client ∷ [])
    (waiting_cancel client.cancel) [])
    (outcome_of (reply_of event id call_id (name_by client.kind client message) status message)
    (record client {
      provisional = client.provisional || not final;
      cancel = option_map_or (λ by. if final then NotAsked else Sent)
          (waiting_cancel client.cancel) client.cancel;
    }) side.dialogs)) held (side, [])) status (side, [])

by_held : (event : Event) (id : Id) (call_id : List ℕ) (message : Message) (side : Side)
    (status : Option ℕ) (held : Option Client)
    → rule_by event id call_id message side status held
    ≡ found_taken event id call_id message status held side
by_held event id call_id message side None held = refl
by_held event id call_id message side (Some status) None = refl
by_held event id call_id message side (Some status) (Some client) =
    taken_same (reply_of event id call_id (name_by client.kind client message) status message) side
    client

status_same : (start : StartLine) → response.status_of start ≡ status_of start
status_same (start.Request uri) = refl
status_same (start.Response status reason) = refl

pub response_same : (event : Event) (id : Id) (call_id : List ℕ) (message : Message) (side : Side)
    → response_received event id call_id message side ≡ response_taken event id call_id message side
unfolding response_received
response_same event id call_id message side =
    ap (λ status. rule_by event id call_id message side status (client_at id side.clients))
    (status_same message.start)
    ∙ by_held event id call_id message side (status_of message.start) (client_at id side.clients)
