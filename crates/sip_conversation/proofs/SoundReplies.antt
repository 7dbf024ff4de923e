-- What a response, the loss of a request and a tick do to the client side of a call keeps its
-- dialogs sound, and what goes out then keeps the rules of messages.
use Rattle.std.proofs.Common.{◌≡◌, ℕ, ◌+◌, ◌<◌, ◌^◌, Bool, true, false, ◌||◌, ◌&&◌, List, [], ◌∷◌, ◌++◌, refl, sym, subst}
use Rattle.std.specs.Prelude.{Option, None, Some, IfSome, ◌==◌, filter, is_some, length, not, unwrap_or, if◌then◌else◌}
use Rattle.std.specs.List.{AllByRecursion, list_any}
use Rattle.std.specs.Map.{lookup, remove_entry, set_value, values_of}
use Rattle.std.specs.Option.{option_map_or}
use Rattle.sip_message.specs.Addr.{IsAddr}
use Rattle.sip_message.specs.Content.{Content, content_of_body}
use Rattle.sip_message.specs.Party.{tag_of}
use Rattle.sip_message.specs.Rules.{IsMessage}
use Rattle.sip_message.specs.declared.id.Id.{Id}
use Rattle.sip_message.specs.declared.message.Message.{Message}
use Rattle.sip_dialog.specs.Dialog.{is_ended}
use Rattle.sip_dialog.specs.Opening.{contact_uri}
use Rattle.sip_dialog.specs.Step.{confirmed_by}
use Rattle.sip_held_dialogs.specs.Dialogs.{Dialogs, early_ended, ended_at, is_dialog_id, lives}
use Rattle.sip_held_dialogs.specs.Ids.{is_id}
use Rattle.sip_held_dialogs.specs.Requests.{dialog_id_of_tags, has_to_tag, is_final, is_success, requires_100rel}
use Rattle.sip_held_dialogs.specs.declared.held_dialog.HeldDialog.{HeldDialog}
use Rattle.sip_held_dialogs.specs.declared.pending_request.PendingRequest.{PendingRequest}
use Rattle.sip_held_dialogs.specs.declared.pending_request.PendingRequest.TheVariants.{Ack, Prack}
use Rattle.sip_held_dialogs.proofs.Each.{all_of_each, both, each_but_one, each_inserted, each_left, each_set, found_one}
use Rattle.sip_clients.specs.Client.{Clients, Side}
use Rattle.sip_clients.specs.Provisionals.{is_response}
use Rattle.sip_clients.specs.Rules.Ends.{client_tick, is_over, request_is_lost, request_over}
use Rattle.sip_clients.specs.Rules.Requests.{cancel_request, dialog_of_kind, is_invite_kind}
use Rattle.sip_clients.specs.Rules.Responses.{Outcome, accepted, asks_for, dialog_made_by, dialog_response, first_success, has_dialog, is_initial, kept, last_response, notice_of, outcome_of, reliable_response, response_received, response_to, status_of, success_again, success_in, waiting_cancel}
use Rattle.sip_clients.specs.declared.answers.SentAck.{SentAck}
use Rattle.sip_clients.specs.declared.client.Cancelling.TheVariants.{NotAsked, Sent}
use Rattle.sip_clients.specs.declared.client.Client.{Client}
use Rattle.sip_clients.specs.declared.event.Event.{Event}
use Rattle.sip_transactions.proofs.RowFacts.{and-left, and-right}
use Rattle.sip_conversation.specs.Commands.{IsContent}
use Rattle.sip_conversation.proofs.Branches.{either, found_or}
use Rattle.sip_conversation.proofs.KeepsRules.{Keep, KeepsRulesWith}
use Rattle.sip_conversation.proofs.OwnRequests.{empty_keeps}
use Rattle.sip_conversation.proofs.RackedSteps.{IsToldOf, still_told}
use Rattle.sip_conversation.proofs.SoundClients.{AreSoundClients, IsKept, IsSoundClient, IsSoundSide, Pays, Taken, cancel_sound, client_found, dialog_found, outcome_paid, starts_done}
use Rattle.sip_conversation.proofs.SoundDialogs.{AreSound, IsSound, IsSoundPending, by_response_sound, confirmed_sound, target_sound, target_word}
use Rattle.sip_conversation.proofs.SoundServed.{Ended, dialog_ends, early_ends}

-- the type of what a response is with all that comes up with it
abbrev Domain : {A B : Type 0} → (A → B) → Type 0
Domain {A} f = A

abbrev Reply : Type 0
Reply = Domain notice_of

-- what a response is, with all that comes up with it
abbrev pub reply_for : Event → Id → List ℕ → Message → ℕ → Client → Reply
reply_for event id of response status client = record {
  event = event;
  id = id;
  call_id = of;
  name = option_map_or (λ reference. reference.name) (dialog_of_kind client.kind)
      (dialog_id_of_tags (tag_of client.request.from) (tag_of response.to));
  status = status;
  response = response;
}

-- the dialog of a 2xx, as it is then
abbrev pub success_dialog : Reply → Client → Dialogs → HeldDialog
success_dialog reply client dialogs =
    option_map_or (success_in (is_initial client) reply.response)
    (lookup (is_dialog_id reply.name) dialogs) (dialog_made_by reply client)

-- of each ACK that is sent this is said
module _ (AckIs : Message → Type 0) where
  -- ---- the end of a request

  over_ends : (client : Client) (ends : Bool) (dialogs : Dialogs) → AreSound dialogs
      → Ended AckIs (request_over client ends dialogs)
  over_ends client ends dialogs all =
      let early = early_ended client.id dialogs in
      let so = early_ends AckIs client.id dialogs all in
      let own = found_or (Ended AckIs) (λ reference. if ends && lives early.0 reference
      then ended_at reference.name early.0 else (early.0, []))
      (dialog_of_kind client.kind) (early.0, [])
      (λ reference is. either (Ended AckIs) (ends && lives early.0 reference)
      (ended_at reference.name early.0) (early.0, [])
      (λ over. dialog_ends AckIs reference.name early.0 so.0) (λ lives. (so.0, tt)))
      (λ none. (so.0, tt)) in
      (own.0, both (KeepsRulesWith AckIs) early.1 _ so.1 own.1)

  pub lost_done : (id : Id) (timed_out : Bool) (side : Side) → IsSoundSide AckIs side
      → Taken AckIs (request_is_lost id timed_out side)
  unfolding request_is_lost
  lost_done id timed_out side sides =
      let ended = found_or (Ended AckIs) (λ client. request_over client timed_out side.dialogs)
      (lookup (is_id id) side.clients) (side.dialogs, [])
      (λ client is. over_ends client timed_out side.dialogs sides.dialogs)
      (λ none. (sides.dialogs, tt)) in (
        record {
          dialogs = ended.0;
          clients = each_but_one (IsSoundClient AckIs) (is_id id) side.clients sides.clients;
        },
        ended.1,
      )

  pub tick_done : (side : Side) (now : ℕ) → IsSoundSide AckIs side
      → Taken AckIs (client_tick side now)
  unfolding client_tick
  tick_done side now sides = (
    record {
      dialogs = each_left IsSound _ side.dialogs sides.dialogs;
      clients = each_left (IsSoundClient AckIs) _ side.clients sides.clients;
    },
    all_of_each (KeepsRulesWith AckIs) (λ client. (early_ended client.id side.dialogs).1)
        (λ client. (early_ends AckIs client.id side.dialogs sides.dialogs).1)
        (filter (is_over now) (values_of side.clients)),
  )

  -- ---- a response

  -- so is each ACK that may be made for a 2xx, if the user is told of it
  abbrev pub Hears : Type 0 → Reply → Client → Dialogs → Type 0
  Hears Told reply client dialogs = is_success reply.status ≡ true
      → has_dialog client dialogs ≡ true → Told
      → Pays AckIs reply.event (success_dialog reply client dialogs).dialog
      (Ack client.id client.request.cseq.number)

  record IsReplied (done : Outcome) : Type 0 where
    pub request : IfSome done.request (IsSoundClient AckIs)
    pub dialogs : AreSound done.dialogs
    pub outs : Keep AckIs done.outs
    pub prack : AllByRecursion (IsSoundClient AckIs) done.prack

  -- the response keeps the rules
  record IsSoundReply (reply : Reply) : Type 0 where
    pub address : IsAddr (reply.event).local
    pub rules : IsMessage reply.response

  asks_done : (pending : PendingRequest) (reply : Reply) (client : Client)
      (after : Option SentAck → Client) (held : HeldDialog) (dialogs : Dialogs)
      → IsSoundReply reply → IsSoundPending pending → Pays AckIs reply.event held.dialog pending
      → ((ack : Option SentAck) → IsKept AckIs ack → IsSoundClient AckIs (after ack)) → IsSound held
      → AreSound dialogs → IsReplied (asks_for pending reply client after held dialogs)
  asks_done pending reply client after held dialogs comes fits pays keeps sound all =
      let content : Option Content = if not (length client.request.body == 0)
      || (length reply.response.body == 0) then Some (content_of_body []) else None in
      let with_it : HeldDialog =
      record held { pending_requests = held.pending_requests ++ pending ∷ [] } in
      let so = outcome_paid AckIs reply.event comes.address reply.call_id reply.name pending content
      held
      with_it sound
      (record {
        dialog = sound.dialog;
        pending = both IsSoundPending held.pending_requests (pending ∷ []) sound.pending (fits, tt);
      }) fits pays
      (either (λ (o : Option Content). IfSome o IsContent)
      (not (length client.request.body == 0) || (length reply.response.body == 0)) _ _
      (λ empty. empty_keeps) (λ none. tt)) in
      record {
        request = keeps _ so.ack;
        dialogs = each_inserted IsSound _ reply.name _ so.dialog dialogs all;
        outs = (tt, so.outs);
        prack = so.prack;
      }

  accepted_sound : (reply : Reply) (client : Client) (ack : Option SentAck)
      → IsSoundClient AckIs client
      → IsKept AckIs ack → IsSoundClient AckIs (accepted reply client ack)
  accepted_sound reply client ack its kept = record {
    request = its.request;
    named = its.named;
    answers = each_inserted (IsKept AckIs) is_dialog_id reply.name ack kept client.answers
        its.answers;
  }

  made_sound : (reply : Reply) (client : Client) → IsSoundReply reply → IsSoundClient AckIs client
      → IsSound (dialog_made_by reply client)
  made_sound reply client comes its = record {
    dialog = by_response_sound client.request reply.response its.request comes.rules;
    pending = tt;
  }

  success_sound : (initial : Bool) (response : Message) (held : HeldDialog) → IsMessage response
      → IsSound held → IsSound (success_in initial response held)
  success_sound initial response held rules sound =
      let target = unwrap_or (contact_uri response) held.dialog.target in
      let confirmed : HeldDialog = record held { dialog = confirmed_by held.dialog response } in
      let refreshed : HeldDialog =
      record held { dialog = record held.dialog { target = target } } in
      either IsSound (is_ended held.dialog.state) held
      (if initial then confirmed else refreshed) (λ ended. sound)
      (λ still. either IsSound initial confirmed refreshed
      (λ first. record {
        dialog = confirmed_sound held.dialog response sound.dialog rules;
        pending = sound.pending;
      })
      (λ again. record {
        dialog = target_sound held.dialog target sound.dialog
            (target_word response held.dialog.target rules (sound.dialog).target);
        pending = sound.pending;
      }))

  first_done : (reply : Reply) (client : Client) (dialogs : Dialogs) → IsSoundReply reply
      → IsSoundClient AckIs client → AreSound dialogs
      → Pays AckIs reply.event (success_dialog reply client dialogs).dialog
      (Ack client.id client.request.cseq.number)
      → IsReplied (first_success reply client dialogs)
  first_done reply client dialogs comes its all pays =
      let found = lookup (is_dialog_id reply.name) dialogs in
      let initial = is_initial client in
      let held : HeldDialog = option_map_or (success_in initial reply.response) found
      (dialog_made_by reply client) in
      asks_done (Ack client.id client.request.cseq.number) reply client (accepted reply client) held
      dialogs comes (its.request).number pays (λ ack kept. accepted_sound reply client ack its kept)
      (found_or IsSound (success_in initial reply.response) found (dialog_made_by reply client)
      (λ held is. success_sound initial reply.response held comes.rules
      (dialog_found reply.name dialogs all held is))
      (λ none. made_sound reply client comes its)) all

  reliable_done : (reply : Reply) (client : Client) (dialogs : Dialogs) (held : HeldDialog)
      (rseq : ℕ) → IsSoundReply reply → rseq < 2 ^ 32 → IsSoundClient AckIs client → IsSound held
      → AreSound dialogs → IsReplied (reliable_response reply client dialogs held rseq)
  reliable_done reply client dialogs held rseq comes fits its sound all =
      let initial = is_initial client in
      let last = if initial then held.last_rseq else client.last_rseq in
      let heard : Client = record client { last_rseq = Some rseq } in
      let hears : HeldDialog = record held { last_rseq = Some rseq } in
      let after : Option SentAck → Client = λ ack. if initial then client else heard in
      let dialog : HeldDialog = if initial then hears else held in
      either IsReplied (not (option_map_or (λ last. rseq == last + 1) last true))
      (kept client dialogs [])
      (asks_for (Prack rseq client.request.cseq.number) reply client after dialog dialogs)
      (λ passed. record { request = its; dialogs = all; outs = tt; prack = tt })
      (λ taken. asks_done (Prack rseq client.request.cseq.number) reply client after dialog dialogs
      comes (fits, (its.request).number) tt
      (λ ack kept. either (IsSoundClient AckIs) initial client heard (λ first. its)
      (λ again. record { request = its.request; named = its.named; answers = its.answers }))
      (either IsSound initial hears held
      (λ first. record { dialog = sound.dialog; pending = sound.pending }) (λ again. sound)) all)

  dialog_done : (reply : Reply) (client : Client) (dialogs : Dialogs) → IsSoundReply reply
      → IsSoundClient AckIs client → AreSound dialogs
      → IsReplied (dialog_response reply client dialogs)
  dialog_done reply client dialogs comes its all =
      let response = reply.response in
      let found = lookup (is_dialog_id reply.name) dialogs in
      let held = unwrap_or found (dialog_made_by reply client) in
      let sound = made_or found (dialog_made_by reply client)
      (found_one IsSound (is_dialog_id reply.name) dialogs all)
      (made_sound reply client comes its) in
      let rseq = if requires_100rel response then response.rseq else None in
      let fits = either (λ (o : Option ℕ). IfSome o (λ n. n < 2 ^ 32)) (requires_100rel response)
      response.rseq None (λ reliable. (comes.rules).rseq) (λ other. tt) in
      found_or IsReplied (reliable_response reply client dialogs held) rseq
      (kept client _ (notice_of reply ∷ []))
      (λ number is. reliable_done reply client dialogs held number comes
      (subst (λ o. IfSome o (λ n. n < 2 ^ 32)) is fits) its sound all)
      (λ none. record {
        request = its;
        dialogs = each_inserted IsSound is_dialog_id reply.name held sound dialogs all;
        outs = (tt, tt);
        prack = tt;
      })
    where
      made_or : (o : Option HeldDialog) (made : HeldDialog) → IfSome o IsSound → IsSound made
          → IsSound (unwrap_or o made)
      made_or None made found is = is
      made_or (Some held) made found is = found

  again_done : (answer : Option (Option SentAck)) (client : Client) (dialogs : Dialogs)
      → IfSome answer (IsKept AckIs) → IsSoundClient AckIs client → AreSound dialogs
      → IsReplied (success_again answer client dialogs)
  again_done None client dialogs kept its all =
      record { request = its; dialogs = all; outs = tt; prack = tt }
  again_done (Some None) client dialogs kept its all =
      record { request = its; dialogs = all; outs = tt; prack = tt }
  again_done (Some (Some ack)) client dialogs kept its all =
      record { request = its; dialogs = all; outs = (kept, tt); prack = tt }

  -- a final response that isn't the last one is a 2xx
  is_2xx : (final invite success : Bool) → final ≡ true
      → (final && not (invite && success)) ≡ false → success ≡ true
  is_2xx false invite success is more = absurd cc
  is_2xx true true true is more = refl
  is_2xx true true false is more = absurd cc
  is_2xx true false success is more = absurd cc

  outcome_done : (reply : Reply) (client : Client) (dialogs : Dialogs) → IsSoundReply reply
      → IsSoundClient AckIs client → AreSound dialogs
      → Hears (list_any is_response (outcome_of reply client dialogs).outs ≡ true) reply client
      dialogs
      → IsReplied (outcome_of reply client dialogs)
  outcome_done reply client dialogs comes its all =
      let Done : Outcome → Type 0 = λ done.
      Hears (list_any is_response done.outs ≡ true) reply client dialogs → IsReplied done in
      let final = is_final reply.status in
      let answer = lookup (is_dialog_id reply.name) client.answers in
      let told : Outcome = kept client dialogs (notice_of reply ∷ []) in
      let late : Outcome = kept (accepted reply client None) dialogs (notice_of reply ∷ []) in
      let is_told = not (has_dialog client dialogs && not (reply.status == 100)
      && has_to_tag reply.response) in
      let fifth : Outcome = if is_told then told else dialog_response reply client dialogs in
      let fourth : Outcome = if final then late else fifth in
      let third : Outcome = if final && has_dialog client dialogs
      then first_success reply client dialogs else fourth in
      let second : Outcome = if final && is_some answer
      then success_again answer client dialogs else third in
      let over = over_ends client ((reply.status == 481) || (reply.status == 408)) dialogs all in
      either Done (final && not (is_invite_kind client.kind && is_success reply.status))
      (last_response reply client dialogs) second
      (λ last hears. record { request = tt; dialogs = over.0; outs = (tt, over.1); prack = tt })
      (λ more. either Done (final && is_some answer) (success_again answer client dialogs)
      third
      (λ again hears. again_done answer client dialogs
      (found_one (IsKept AckIs) (is_dialog_id reply.name) client.answers its.answers) its all)
      (λ new. either Done (final && has_dialog client dialogs)
      (first_success reply client dialogs) fourth
      (λ success hears. first_done reply client dialogs comes its all
      (hears (is_2xx final (is_invite_kind client.kind) (is_success reply.status)
      (and-left final (has_dialog client dialogs) success) more)
      (and-right final (has_dialog client dialogs) success) refl))
      (λ none. either Done final late fifth
      (λ over hears. record {
        request = accepted_sound reply client None its tt;
        dialogs = all;
        outs = (tt, tt);
        prack = tt;
      })
      (λ provisional. either Done is_told told (dialog_response reply client dialogs)
      (λ other hears. record { request = its; dialogs = all; outs = (tt, tt); prack = tt })
      (λ early hears. dialog_done reply client dialogs comes its all)))))

  response_done : (event : Event) (id : Id) (of : List ℕ) (response : Message) (side : Side)
      (status : ℕ) (client : Client) → IsAddr event.local → IsMessage response
      → IsSoundClient AckIs client → IsSoundSide AckIs side
      → Hears (IsToldOf (response_to event id of response side status client))
      (reply_for event id of response status client) client side.dialogs
      → Taken AckIs (response_to event id of response side status client)
  response_done event id of response side status client address rules its sides hears =
      let final = is_final status in
      let waiting = waiting_cancel client.cancel in
      let cancels : List Client = if final then []
      else option_map_or (λ asked_by. cancel_request asked_by client ∷ []) waiting [] in
      let after : Client = record client {
        provisional = client.provisional || not final;
        cancel = option_map_or (λ asked_by. if final then NotAsked else Sent) waiting
            client.cancel;
      } in
      let reply = reply_for event id of response status client in
      let done = outcome_of reply after side.dialogs in
      let clients : Clients = option_map_or (set_value (is_id id) side.clients) done.request
      (remove_entry (is_id id) side.clients) in
      let so = outcome_done reply after side.dialogs
      (record { address = address; rules = rules })
      (record { request = its.request; named = its.named; answers = its.answers }) sides.dialogs
      (λ success has told. hears success has
      (still_told (done.prack ++ cancels) (clients, done.outs) told)) in
      let started = starts_done AckIs (done.prack ++ cancels) (clients, done.outs) (
        found_or (AreSoundClients AckIs) (set_value (is_id id) side.clients) done.request
            (remove_entry (is_id id) side.clients)
            (λ after is. each_set (IsSoundClient AckIs) (is_id id) side.clients after
            (subst (λ o. IfSome o (IsSoundClient AckIs)) is so.request) sides.clients)
            (λ over. each_but_one (IsSoundClient AckIs) (is_id id) side.clients sides.clients),
        so.outs,
      )
      (both (IsSoundClient AckIs) done.prack cancels so.prack
      (either (AllByRecursion (IsSoundClient AckIs)) final []
      (option_map_or (λ asked_by. cancel_request asked_by client ∷ []) waiting [])
      (λ final. tt)
      (λ provisional. found_or (AllByRecursion (IsSoundClient AckIs))
      (λ asked_by. cancel_request asked_by client ∷ []) waiting []
      (λ asked_by is. (cancel_sound AckIs asked_by client its, tt)) (λ none. tt)))) in
      (record { dialogs = so.dialogs; clients = started.0 }, started.1)

  pub received_done : (event : Event) (id : Id) (of : List ℕ) (response : Message) (side : Side)
      → IsAddr event.local → IsMessage response → IsSoundSide AckIs side
      → ((status : ℕ) → status_of response.start ≡ Some status → (client : Client)
      → lookup (is_id id) side.clients ≡ Some client
      → Hears (IsToldOf (response_received event id of response side))
      (reply_for event id of response status client) client side.dialogs)
      → Taken AckIs (response_received event id of response side)
  unfolding response_received
  received_done event id of response side address rules sides hears =
      found_or (Taken AckIs) _ (status_of response.start) (side, [])
      (λ status is. found_or (Taken AckIs) (response_to event id of response side status)
      (lookup (is_id id) side.clients) (side, [])
      (λ client found. response_done event id of response side status client address rules
      (client_found AckIs id side.clients sides.clients client found) sides
      (λ success has told. hears status is client found success has
      (subst IsToldOf
      (sym (λ i. option_map_or (λ status. option_map_or
      (response_to event id of response side status) (found i) (side, [])) (is i) (side, [])))
      told)))
      (λ none. (sides, tt)))
      (λ none. (sides, tt))
