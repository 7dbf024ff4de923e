-- The user is told of a response by the input that brings it, once, as it came.
use Rattle.std.proofs.Common.{◌≡◌, ◌⊎◌, inl, inr, ℕ, Bool, true, false, ◌+◌, not, ◌&&◌, ◌||◌, ◌==◌, cond, List, [], ◌∷◌, ◌++◌, refl, sym, ap, subst, ◌∙◌}
use Rattle.std.specs.Prelude.{Option, None, Some, filter, fold, is_some, length, unwrap_or, if◌then◌else◌}
use Rattle.std.specs.List.{AllByRecursion, list_any}
use Rattle.std.specs.Map.{lookup, remove_entry, set_value}
use Rattle.std.specs.Option.{option_map_or}
use Rattle.std.proofs.lemmas.Bool.{false≢true}
use Rattle.std.proofs.lemmas.List.Elements.{filter-append}
use Rattle.sip_message.specs.declared.content.Content.{Content}
use Rattle.sip_message.specs.declared.id.Id.{Id}
use Rattle.sip_message.specs.declared.message.Message.{Message}
use Rattle.sip_message.specs.Content.{content_of_body}
use Rattle.sip_message.specs.Party.{tag_of}
use Rattle.sip_transactions.specs.declared.output.UpKind.{UpKind}
use Rattle.sip_transactions.specs.declared.output.UpKind.TheVariants as kind
use Rattle.sip_transactions.specs.declared.output.Up.{Up as AnUp}
use Rattle.sip_user.specs.declared.item.CallOut.{CallOut}
use Rattle.sip_user.specs.declared.item.CallOut.TheVariants as out
use Rattle.sip_user.specs.declared.item.Item.TheVariants.{Up, User}
use Rattle.sip_user.specs.declared.notice.Notice.{Notice}
use Rattle.sip_user.specs.declared.notice.Notice.TheVariants as notice
use Rattle.sip_user.specs.declared.refusal.Refusal.{Refusal}
use Rattle.sip_user.specs.Notices.{refused}
use Rattle.sip_user.specs.Refusal.{first_refusal}
use Rattle.indexmap.specs.IndexMap.{insert_entry}
use Rattle.sip_held_dialogs.specs.declared.pending_request.PendingRequest.{PendingRequest}
use Rattle.sip_held_dialogs.specs.declared.pending_request.PendingRequest.TheVariants.{Ack, Prack}
use Rattle.sip_held_dialogs.specs.declared.held_dialog.DialogId.{DialogId}
use Rattle.sip_held_dialogs.specs.declared.held_dialog.DialogReference.{DialogReference}
use Rattle.sip_held_dialogs.specs.declared.held_dialog.HeldDialog.{HeldDialog}
use Rattle.sip_held_dialogs.specs.Dialogs.{Dialogs, ended_at, is_dialog_id, lives}
use Rattle.sip_held_dialogs.specs.Ids.{is_id}
use Rattle.sip_held_dialogs.specs.Requests.{dialog_id_of_tags, has_to_tag, is_final, is_success, requires_100rel}
use Rattle.sip_held_dialogs.proofs.Each.{both}
use Rattle.sip_served.proofs.ServedAnswers.{AllowsServed, IsOther}
use Rattle.sip_clients.specs.declared.answers.SentAck.{SentAck}
use Rattle.sip_clients.specs.declared.client.Cancelling.TheVariants.{NotAsked, Sent}
use Rattle.sip_clients.specs.declared.client.Client.{Client}
use Rattle.sip_clients.specs.declared.event.Event.{Event}
use Rattle.sip_clients.specs.declared.reply.ReceivedResponse.{ReceivedResponse}
use Rattle.sip_clients.specs.Client.{Clients, Side}
use Rattle.sip_clients.specs.Clients.{reply_of}
use Rattle.sip_clients.specs.Outputs.{start_command}
use Rattle.sip_clients.specs.Provisionals.{is_response as is_told}
use Rattle.sip_clients.specs.Rules.Ends.{request_over}
use Rattle.sip_clients.specs.Rules.Requests.{cancel_request, dialog_of_kind, is_invite_kind, method_of, pending_outcome, pending_sent, pending_unsent, refusals_in, start}
use Rattle.sip_clients.specs.Rules.Responses.{Outcome, accepted, asks_for, dialog_made_by, has_dialog, is_initial, kept as kept_so, notice_of, outcome_of, reliable_response, response_received, response_to, status_of, success_again, success_in, waiting_cancel}
use Rattle.sip_clients.proofs.ClientOuts.{Allows, early, end_told}
use Rattle.sip_calls.specs.declared.call.Call.{Call}
use Rattle.sip_calls.specs.declared.calls.Calls.{Calls}
use Rattle.sip_calls.specs.Call.{CallItem, Taken, call_step, event_of, received}
use Rattle.sip_calls.specs.Sides.{side_of}
use Rattle.sip_calls.proofs.SameSteps.{same_step}
use Rattle.sip_agent_laws.specs.Calls.Told.{IsAsItCame, ToldAsTheyCome, ToldOnce, brings_response, is_response, tells_response}
use Rattle.sip_agent_laws.proofs.calls.Arrived.{as_received, of_state}
use Rattle.sip_agent_laws.proofs.calls.EachItem.{Passes, item_passes}
use Rattle.sip_agent_laws.proofs.calls.ServerOuts.{Any, kind_passes, respond_passes, ticked_passes}

-- ---- outputs that tell of no response

abbrev Silent : CallOut → Type 0
Silent out = is_told out ≡ false

abbrev AllSilent : List CallOut → Type 0
AllSilent outs = AllByRecursion Silent outs

abbrev told : List CallOut → List CallOut
told outs = filter is_told outs

none_told : (outs : List CallOut) → AllSilent outs → told outs ≡ []
none_told [] all = refl
none_told (one ∷ outs) all =
    (λ i. cond (all.0 i) (one ∷ told outs) (told outs)) ∙ none_told outs all.1

started_silent : (event : Id) (client : Client) → Silent (start_command event client)
unfolding start_command
started_silent event client = refl

allows : Allows Silent
allows = record {
  ended = λ held. refl;
  refusal = λ call_id place why. refl;
  sent = λ ack. refl;
  started = started_silent;
}

other_silent : (one : Notice) → IsOther one → Silent (out.Notice one)
other_silent (notice.Response call_id request status local_tag remote_tag body) other =
    absurd other
other_silent one other = refl

served_allowed : AllowsServed Silent Any
served_allowed = record { told = other_silent; answer = λ id key {message} here. refl }

passes : Passes Silent
passes = record {
  others = record {
    allows = allows;
    gives_up = λ id client. refl;
    kinds = kind_passes Silent served_allowed;
    responds = respond_passes Silent served_allowed;
  };
  timeout = λ call_id id. refl;
  failed = λ call_id id. refl;
}

-- ---- a response

-- a request that starts tells of none
start_untold : (list : List Client) (done : Clients × List CallOut)
    → told (fold start done list).1 ≡ told done.1
start_untold [] done = refl
start_untold (client ∷ list) done =
    start_untold list (start done client) ∙ one_more done
  where
    nil : (outs : List CallOut) → outs ++ [] ≡ outs
    nil [] = refl
    nil (one ∷ outs) = ap (λ outs. one ∷ outs) (nil outs)

    one_more : (done : Clients × List CallOut) → told (start done client).1 ≡ told done.1
    one_more done = filter-append is_told done.1 _ ∙ nil (told done.1)

module _ (reply : ReceivedResponse) where
  -- nothing is told, or the response
  abbrev IsFine : List CallOut → Type 0
  IsFine outs = (told outs ≡ []) ⊎ (told outs ≡ notice_of reply ∷ [])

  first_told : (outs : List CallOut) → AllSilent outs → IsFine (notice_of reply ∷ outs)
  first_told outs all = inr (ap (λ outs. notice_of reply ∷ outs) (none_told outs all))

  record Fine (outcome : Outcome) : Type 0 where
    outs : IsFine outcome.outs

  if_fine : (b : Bool) (x y : Outcome) → Fine x → Fine y → Fine (if b then x else y)
  if_fine true x y first second = first
  if_fine false x y first second = second

  -- the dialogs that end with the request
  over_silent : (client : Client) (ends : Bool) (dialogs : Dialogs)
      → AllSilent (request_over client ends dialogs).1
  over_silent client ends dialogs =
      both Silent _ _ (early Silent allows client.id dialogs) (own _ _)
    where
      by : (b : Bool) (name : DialogId) (dialogs : Dialogs)
          → AllSilent (cond {A = Dialogs × List CallOut} b (ended_at name dialogs) (dialogs, [])).1
      by true name dialogs = end_told Silent allows name dialogs
      by false name dialogs = tt

      own : (dialogs : Dialogs) (o : Option DialogReference)
          → AllSilent (option_map_or (λ reference. if ends && lives dialogs reference
          then ended_at reference.name dialogs else (dialogs, [])) o (dialogs, [])).1
      own dialogs None = tt
      own dialogs (Some reference) = by (ends && lives dialogs reference) reference.name dialogs

  -- the ACK or PRACK that it asks for
  sent_silent : (pending : PendingRequest) (content : Content) (held : HeldDialog)
      → AllSilent (pending_sent reply.event reply.name pending content held).outs
  sent_silent (Ack invite cseq) content held = (refl, tt)
  sent_silent (Prack rseq cseq) content held = tt

  asks_fine : (pending : PendingRequest) (client : Client) (after : Option SentAck → Client)
      (held : HeldDialog) (dialogs : Dialogs)
      → Fine (asks_for pending reply client after held dialogs)
  asks_fine pending client after held dialogs =
      let content = if not (length client.request.body == 0)
      || (length reply.response.body == 0) then Some (content_of_body []) else None in
      let with_it = record held { pending_requests = held.pending_requests ++ pending ∷ [] } in
      record {
        outs = first_told (pending_outcome reply.event reply.call_id reply.name pending content
            held with_it).outs (by with_it content);
      }
    where
      refusal_silent : (with_it : HeldDialog) (content : Content) (o : Option Refusal)
          → AllSilent (option_map_or
          (λ refusal. pending_unsent with_it (refused reply.event.id reply.call_id refusal)) o
          (pending_sent reply.event reply.name pending content held)).outs
      refusal_silent with_it content None = sent_silent pending content held
      refusal_silent with_it content (Some refusal) = (refl, tt)

      by : (with_it : HeldDialog) (content : Option Content)
          → AllSilent (pending_outcome reply.event reply.call_id reply.name pending content held
          with_it).outs
      by with_it None = tt
      by with_it (Some content) =
          refusal_silent with_it content
          (first_refusal (refusals_in held.dialog (method_of pending)) None)

  again_fine : (o : Option (Option SentAck)) (client : Client) (dialogs : Dialogs)
      → Fine (success_again o client dialogs)
  again_fine None client dialogs = record { outs = inl refl }
  again_fine (Some None) client dialogs = record { outs = inl refl }
  again_fine (Some (Some ack)) client dialogs = record { outs = inl refl }

  reliable_fine : (client : Client) (dialogs : Dialogs) (held : HeldDialog) (o : Option ℕ)
      → Fine (option_map_or (reliable_response reply client dialogs held) o
      (kept_so client (insert_entry is_dialog_id dialogs reply.name held) (notice_of reply ∷ [])))
  reliable_fine client dialogs held None = record { outs = inr refl }
  reliable_fine client dialogs held (Some rseq) =
      let initial = is_initial client in
      let last = if initial then held.last_rseq else client.last_rseq in
      if_fine (not (option_map_or (λ last. rseq == last + 1) last true)) _ _
      (record { outs = inl refl })
      (asks_fine (Prack rseq client.request.cseq.number) client
      (λ ack. if initial then client else record client { last_rseq = Some rseq })
      (if initial then record held { last_rseq = Some rseq } else held) dialogs)

  outcome_fine : (client : Client) (dialogs : Dialogs) → Fine (outcome_of reply client dialogs)
  outcome_fine client dialogs =
      let final = is_final reply.status in
      let answer = lookup (is_dialog_id reply.name) client.answers in
      if_fine (final && not (is_invite_kind client.kind && is_success reply.status)) _ _
      (record {
        outs = first_told _
            (over_silent client ((reply.status == 481) || (reply.status == 408)) dialogs);
      })
      (if_fine (final && is_some answer) _ _ (again_fine answer client dialogs)
      (if_fine (final && has_dialog client dialogs) _ _
      (asks_fine (Ack client.id client.request.cseq.number) client (accepted reply client)
      (option_map_or (success_in (is_initial client) reply.response)
      (lookup (is_dialog_id reply.name) dialogs) (dialog_made_by reply client)) dialogs)
      (if_fine final _ _ (record { outs = inr refl })
      (if_fine (not (has_dialog client dialogs && not (reply.status == 100)
      && has_to_tag reply.response)) _ _ (record { outs = inr refl })
      (reliable_fine client dialogs
      (unwrap_or (lookup (is_dialog_id reply.name) dialogs) (dialog_made_by reply client))
      (if requires_100rel reply.response then reply.response.rseq else None))))))

module _ (event : Event) (id : Id) (call_id : List ℕ) (response : Message) (side : Side) where
  -- nothing is told, or the response with this status
  abbrev IsToldWith : ℕ → List CallOut → Type 0
  IsToldWith status outs = (told outs ≡ []) ⊎ (told outs ≡ out.Notice (notice.Response call_id id
      status (tag_of response.from) (tag_of response.to) response.body) ∷ [])

  to_fine : (status : ℕ) (client : Client)
      → IsToldWith status (response_to event id call_id response side status client).1
  to_fine status client =
      let final = is_final status in
      let waiting = waiting_cancel client.cancel in
      let cancel : List Client = if final then []
      else option_map_or (λ asked_by. cancel_request asked_by client ∷ []) waiting [] in
      let after = record client {
        provisional = client.provisional || not final;
        cancel = option_map_or (λ asked_by. if final then NotAsked else Sent) waiting
            client.cancel;
      } in
      let reply = reply_of event id call_id (option_map_or (λ reference. reference.name)
      (dialog_of_kind client.kind) (dialog_id_of_tags (tag_of client.request.from)
      (tag_of response.to))) status response in
      let done = outcome_of reply after side.dialogs in
      let clients = option_map_or (set_value (is_id id) side.clients) done.request
      (remove_entry (is_id id) side.clients) in
      subst (λ list. (list ≡ []) ⊎ (list ≡ notice_of reply ∷ []))
      (sym (start_untold (done.prack ++ cancel) (clients, done.outs)))
      (outcome_fine reply after side.dialogs).outs

  abbrev TakenBy : Option ℕ → Option Client → List CallOut
  TakenBy status o = (option_map_or (λ status. option_map_or
      (response_to event id call_id response side status) o (side, [])) status (side, [])).1

  abbrev IsTold : Option ℕ → List CallOut → Type 0
  IsTold started outs = (told outs ≡ []) ⊎ ((status : ℕ) × (started ≡ Some status)
      × (told outs ≡ out.Notice (notice.Response call_id id status (tag_of response.from)
      (tag_of response.to) response.body) ∷ []))

  found_fine : (started : Option ℕ) (o : Option Client) → IsTold started (TakenBy started o)
  found_fine None o = inl refl
  found_fine (Some status) None = inl refl
  found_fine (Some status) (Some client) =
      elim (to_fine status client) as (λ _. IsTold (Some status) (TakenBy (Some status)
      (Some client))) [ inl none ↦ inl none | inr is ↦ inr (status, refl, is) ]

  received_fine : IsTold (status_of response.start)
      (response_received event id call_id response side).1
  unfolding response_received
  received_fine =
      found_fine (status_of response.start) (lookup (is_id id) side.clients)

-- ---- all inputs

module _ (calls : Calls) (state : Option Call) (event : Id) (up : AnUp) (now : ℕ) where
  abbrev outs : List CallOut
  outs = (call_step calls state (Some (event, Up up)) now).1

  abbrev Goal : Type 0
  Goal = (told outs ≡ []) ⊎ IsAsItCame (Some (event, Up up)) (told outs)

  untold : (k : UpKind) → up.kind ≡ k → ((response : Message) → k ≡ kind.Response response → ⊥)
      → Goal
  untold k is other = inl (none_told outs (subst (λ (taken : Taken). AllSilent taken.1)
      (sym (same_step calls state (Some (event, Up up)) now))
      (item_passes Silent passes calls state event (Up up) now
      (λ it response came brought.
      let same : up ≡ it = cc in
      absurd (other response (sym is ∙ ap (λ (up : AnUp). up.kind) same ∙ brought))))))

  up_told : (k : UpKind) → up.kind ≡ k → Goal
  up_told (kind.Response response) is =
      let ev = event_of calls event now in
      let call = of_state calls state in
      let same : (received call ev up (kind.Response response)).1 ≡ outs =
      sym (ap (λ (taken : Taken). taken.1) (as_received calls state event up now)
      ∙ ap (λ (k : UpKind). (received call ev up k).1) is) in
      elim (subst (IsTold ev up.id up.call_id response (side_of call) (status_of response.start))
      same (received_fine ev up.id up.call_id response (side_of call))) as (λ _. Goal) [
        | inl none ↦ inl none
        | inr it ↦ inr (record {
          event = event;
          up = up;
          response = response;
          status = it.0;
          came = refl;
          brought = is;
          has_status = it.1;
          is = it.2;
        })
      ]
  up_told _ is = untold _ is (λ response same. cc)

pub told_once : ToldOnce
told_once calls None None now = inl refl
told_once calls (Some call) None now =
    inl (none_told _ (subst (λ (taken : Taken). AllSilent taken.1)
    (sym (same_step calls (Some call) None now))
    (ticked_passes Silent allows served_allowed call now)))
told_once calls state (Some (event, User command)) now =
    inl (none_told _ (subst (λ (taken : Taken). AllSilent taken.1)
    (sym (same_step calls state (Some (event, User command)) now))
    (item_passes Silent passes calls state event (User command) now
    (λ up response came. absurd cc))))
told_once calls state (Some (event, Up up)) now = up_told calls state event up now up.kind refl

-- ---- one to the same request

-- what is told of it is among what is told of any
told_among : (id : Id) (outs : List CallOut)
    → list_any (tells_response id) outs ≡ list_any (tells_response id) (told outs)
told_among id [] = refl
told_among id
    (out.Notice (notice.Response call_id request status local_tag remote_tag body) ∷ outs) =
    ap (λ b. is_id id request || b) (told_among id outs)
told_among id (other ∷ outs) = told_among id outs

brings_one : (id : Id) (input : Option CallItem) (told : List CallOut)
    → (told ≡ []) ⊎ IsAsItCame input told → list_any (tells_response id) told ≡ true
    → brings_response id input ≡ true
brings_one id input told (inl none) tells =
    absurd (false≢true (sym (ap (list_any (tells_response id)) none) ∙ tells))
brings_one id input told (inr it) tells =
    ap (brings_response id) it.came
    ∙ (λ i. if is_response (it.brought i) then is_id id it.up.id else false)
    ∙ sym (or_false (is_id id it.up.id)) ∙ sym (ap (list_any (tells_response id)) it.is) ∙ tells
  where
    or_false : (b : Bool) → (b || false) ≡ b
    or_false true = refl
    or_false false = refl

pub told_as_they_come : ToldAsTheyCome
told_as_they_come calls state input now id tells =
    let outs = (call_step calls state input now).1 in
    brings_one id input (told outs) (told_once calls state input now)
    (sym (told_among id outs) ∙ tells)
