-- Where each request of the peer that is held after an input comes from, and each response that
-- goes out.
use Rattle.std.proofs.Common.{◌≡◌, ◌⊎◌, inl, inr, ⊎_elim, ℕ, ◌+◌, Bool, true, false, ◌&&◌, ◌||◌, List, [], ◌∷◌, map, refl, sym, ap, ◌∙◌, subst, arith, ◌++◌}
use Rattle.std.specs.Prelude.{◌==◌, Option, None, Some, find, filter, reverse, codes, nat_le, nat_lt, is_none, is_some, not, if◌then◌else◌}
use Rattle.std.specs.List.{AllByRecursion, list_any}
use Rattle.std.specs.Map.{values_of}
use Rattle.std.specs.Option.{option_map, option_map_or}
use Rattle.std.proofs.lemmas.Bool.{false≢true}
use Rattle.std.proofs.lemmas.Grind.{common_steps, flat_map-append}
use Rattle.keyed_machine.proofs.Ordered.{by_bool}
use Rattle.sip_message.specs.Response.{response_of}
use Rattle.sip_message.specs.declared.id.Id.{Id}
use Rattle.sip_message.specs.declared.key.Key.{Key}
use Rattle.sip_message.specs.declared.message.Message.{Message}
use Rattle.sip_message.specs.declared.rack.RAck.{RAck}
use Rattle.sip_message.specs.declared.start_line.StartLine.TheVariants as start
use Rattle.sip_timers.specs.declared.estimate.TheConstants.{LIFETIME}
use Rattle.sip_transactions.specs.Ids.{IdsRise}
use Rattle.sip_transactions.specs.declared.input.Command.{Command}
use Rattle.sip_transactions.specs.declared.input.Command.TheVariants as command
use Rattle.sip_transactions.specs.declared.trigger.Class.TheVariants as class
use Rattle.sip_transactions.specs.declared.trigger.Trigger.TheVariants as on
use Rattle.sip_transactions.specs.Steps.Input.{answer_of, class_of}
use Rattle.sip_transactions.proofs.RowFacts.{and-left, and-right}
use Rattle.sip_user.specs.declared.command.Respond.{Respond}
use Rattle.sip_user.specs.declared.item.CallOut.{CallOut}
use Rattle.sip_user.specs.declared.item.CallOut.TheVariants as out
use Rattle.sip_user.specs.declared.notice.Notice.TheVariants as notice
use Rattle.sip_user.specs.declared.refusal.Refusal.{Refusal}
use Rattle.sip_user.specs.declared.refusal.Refusal.TheVariants.{AlreadyFinal}
use Rattle.sip_held_dialogs.specs.declared.held_dialog.DialogId.{DialogId}
use Rattle.sip_held_dialogs.specs.declared.held_dialog.HeldDialog.{HeldDialog}
use Rattle.sip_held_dialogs.specs.Dialogs.{Dialogs, dialog_at, dialog_changed, early_ended, ended_at, is_early_of, ended_notice}
use Rattle.sip_held_dialogs.specs.Ids.{is_id}
use Rattle.sip_held_dialogs.specs.Requests.{dialog_id_of, has_to_tag, is_bye, is_cancel, is_final, is_invite, is_prack, is_provisional, is_success, is_unknown_option}
use Rattle.sip_held_dialogs.proofs.Each.{filtered}
use Rattle.sip_served.specs.declared.arrival.Arrival.{Arrival}
use Rattle.sip_served.specs.declared.held_request.HeldRequest.{HeldRequest}
use Rattle.sip_served.specs.declared.held_request.Success.{Success}
use Rattle.sip_served.specs.Rules.Arrivals.{after_487, after_ack, after_prack, after_request, ack_for, ack_received, bad_extension, awaits, cancel_for, cancel_received, is_above, is_merged, is_named_by, is_same_branch, no_such_call, prack_for, prack_received, request_for_user, request_in_dialog, request_received, own_response}
use Rattle.sip_served.specs.Rules.Responses.{dialogs_after, held_after, is_sent_reliably, makes_dialog, refuse, respond_command, respond_to, response_refusal, response_sent, success_sent, is_dialog_response}
use Rattle.sip_served.specs.Rules.Ticks.{server_tick, success_at}
use Rattle.sip_served.specs.declared.held_request.SuccessEnd.{SuccessEnd}
use Rattle.sip_served.specs.declared.held_request.SuccessEnd.TheVariants.{Acknowledged, GivenUp}
use Rattle.sip_served.specs.State.{State, ServedTaken, changed_at, has_id}
use Rattle.sip_agent_laws.specs.Transactions.Outcomes.{is_provisional as is_provisional_line}
use Rattle.sip_agent_laws.proofs.agents.Commands.{ordered_among, orders, IsFinal}
use Rattle.sip_agent_laws.proofs.agents.ClientsHeld.{id_itself}
use Rattle.sip_agent_laws.proofs.agents.Lists.{Among, among_either, both, by_found, by_if, found_among, found_passes, kept_among, mapped_among, reverse_among, same_some, among_left, among_kept, among_right, among_mapped}
use Rattle.sip_agent_laws.proofs.agents.ServedHeld.{Holds, IsIt, Says, apart_of, changed_from, changed_holds, changed_once, changed_or}
use Rattle.sip_message.specs.declared.addr.Addr.{Addr}
use Rattle.sip_message.specs.Content.{with_content_of}
use Rattle.sip_round.specs.Outputs.{command_of}
use Rattle.sip_dialog.specs.Request.{contact_of}
use Rattle.sip_agent_laws.proofs.calls.ServedBounds.{ticked}

-- ---- what happens to a request

-- a provisional response
abbrev pub IsEarly : Message → Type 0
IsEarly message = is_provisional_line message.start ≡ true

-- so are those of a request that are sent again
abbrev pub AreEarly : HeldRequest → Type 0
AreEarly held = AllByRecursion (λ one. IsEarly one.response) held.provisionals

-- its 2xx went out before, and ends as before
pub record StillSent (old held : HeldRequest) (success : Success) : Type 0 where
  pub was : Success
  pub before : old.success ≡ Some was
  pub over : was.over ≡ None
  pub end : was.end ≡ success.end
  pub removal : (held.removal ≡ old.removal) ⊎ (old.removal ≡ None)

-- a 2xx goes out to it
pub record IsAccepted (now : ℕ) (outs : List CallOut) (old held : HeldRequest) (success : Success)
    : Type 0 where
  pub unanswered : old.removal ≡ None
  pub removal : held.removal ≡ Some success.end
  pub end : success.end ≡ now + LIFETIME
  pub message : Message
  pub is : answer_of message.start ≡ Some (on.Answer class.Success)
  pub sent : orders outs ≡ (old.id, command.Answer old.key message) ∷ []

pub record Goes (now : ℕ) (outs : List CallOut) (old held : HeldRequest) : Type 0 where
  pub id_is : old.id ≡ held.id
  pub key_is : old.key ≡ held.key
  pub unanswered : held.removal ≡ None → old.removal ≡ None
  pub success : (success : Success) → held.success ≡ Some success → success.over ≡ None
      → StillSent old held success ⊎ IsAccepted now outs old held success
  pub early : AreEarly old → AreEarly held

-- it just came up, and nothing goes out
pub record IsNew (came : Option (Id × Key)) (outs : List CallOut) (held : HeldRequest) : Type 0
  where
    pub came_so : came ≡ Some (held.id, held.key)
    pub silent : orders outs ≡ []
    pub success : held.success ≡ None
    pub provisionals : held.provisionals ≡ []

-- a final response goes out to a request without one, and none of its id is left without one
pub record IsAnswered (before after : List HeldRequest) (id : Id) (key : Key) : Type 0 where
  pub held : HeldRequest
  pub among : Among before held
  pub id_is : held.id ≡ id
  pub key_is : held.key ≡ key
  pub unanswered : held.removal ≡ None
  pub none : (other : HeldRequest) → Among after other → other.id ≡ id → other.removal ≡ None → ⊥

-- the request that comes is held so, or a final response goes out
abbrev pub IsTaken : Option (Id × Key) → List HeldRequest → List CallOut → Type 0
IsTaken None after outs = Unit {0}
IsTaken (Some (id, key)) after outs = Holds key id after ⊎ Says key outs

-- An input that brings this request, or none: each request that is held then was held before, or
-- just came up. Each response that goes out is provisional, or to the request that it brings, or to
-- one without a final response; and each without one stays so until one goes out.
pub record Serves (before : List HeldRequest) (came : Option (Id × Key)) (now : ℕ)
    (after : List HeldRequest) (outs : List CallOut) : Type 0 where
  pub each : (held : HeldRequest) → Among after held
      → IsNew came outs held ⊎ (old : HeldRequest) × Among before old × Goes now outs old held
  pub answers : (id : Id) (key : Key) (message : Message)
      → Among outs (out.Command id (command.Answer key message))
      → IsEarly message ⊎ ((came ≡ Some (id, key)) ⊎ IsAnswered before after id key)
  pub keeps : (k : Key) (id : Id) → Holds k id before → Holds k id after ⊎ Says k outs
  pub takes : IsTaken came after outs

pub both_silent : (xs ys : List CallOut) → orders xs ≡ [] → orders ys ≡ [] → orders (xs ++ ys) ≡ []
both_silent xs ys one other =
    flat_map-append command_of xs ys ∙ (λ i. one i ++ other i)

pub notices_silent : (ended : List HeldDialog) → orders (map ended_notice ended) ≡ []
notices_silent [] = refl
notices_silent (held ∷ ended) = notices_silent ended

pub ended_silent : (name : DialogId) (dialogs : Dialogs) → orders (ended_at name dialogs).1 ≡ []
ended_silent name dialogs =
    by_found (λ outs. orders outs ≡ []) (λ held. ended_notice held ∷ []) (dialog_at name dialogs) []
    (λ held is. refl) (λ none. refl)

some_moment : (moment : ℕ) → Some moment ≡ None → ⊥
some_moment moment same = absurd cc

pub no_command : (outs : List CallOut) (id : Id) (c : Command) → orders outs ≡ []
    → Among outs (out.Command id c) → ⊥
no_command outs id c none among =
    subst (λ (all : List (Id × Command)). Among all (id, c)) none (ordered_among outs id c among)

module _ (now : ℕ) (outs : List CallOut) where
  -- a change that leaves its 2xx and its provisional responses as they are
  changed_goes : (old held : HeldRequest) → old.id ≡ held.id → old.key ≡ held.key
      → (held.removal ≡ None → old.removal ≡ None) → held.success ≡ old.success
      → (held.removal ≡ old.removal) ⊎ (old.removal ≡ None) → (AreEarly old → AreEarly held)
      → Goes now outs old held
  changed_goes old held id_is key_is unanswered same removal early = record {
    id_is = id_is;
    key_is = key_is;
    unanswered = unanswered;
    success = λ success is over. inl (record {
      was = success;
      before = sym same ∙ is;
      over = over;
      end = refl;
      removal = removal;
    });
    early = early;
  }

  same_goes : (held : HeldRequest) → Goes now outs held held
  same_goes held =
      changed_goes held held refl refl (λ lacks. lacks) refl (inl refl) (λ early. early)

  -- nothing changes
  pub serves_same : (requests : List HeldRequest)
      → ((id : Id) (key : Key) (message : Message)
      → Among outs (out.Command id (command.Answer key message)) → ⊥)
      → Serves requests None now requests outs
  serves_same requests none = record {
    each = λ held among. inr (held, among, same_goes held);
    answers = λ id key message among. absurd (none id key message among);
    keeps = λ k id ours. inl ours;
    takes = tt;
  }

  -- one request changes
  each_changed : (requests : List HeldRequest) (came : Option (Id × Key)) (id : Id)
      (f : HeldRequest → HeldRequest)
      → ((old : HeldRequest) → find (has_id id) requests ≡ Some old → Goes now outs old (f old))
      → (held : HeldRequest) → Among (changed_at id f requests) held
      → IsNew came outs held ⊎ (old : HeldRequest) × Among requests old × Goes now outs old held
  each_changed requests came id f goes held among =
      ⊎_elim (λ still. inr (held, still, same_goes held))
      (λ changed. inr (
        changed.0,
        found_among (has_id id) requests changed.0 changed.1,
        subst (Goes now outs changed.0) (sym changed.2) (goes changed.0 changed.1),
      )) (changed_from (has_id id) f requests held among)

-- ---- the responses that an input gives

own_came : (own : Id) (mine : Key) (response : Message) (id : Id) (key : Key) (message : Message)
    → out.Command own (command.Answer mine response)
    ≡ out.Command id (command.Answer key message)
    → ◌≡◌ {A = Option (Id × Key)} (Some (own, mine)) (Some (id, key))
own_came own mine response id key message same =
    let this : own ≡ id = cc in
    let other : command.Answer mine response ≡ command.Answer key message = cc in
    let its : mine ≡ key = cc in
    λ i. Some (this i, its i)

-- ---- the user's response

plain_start : (local : Addr) (held : HeldRequest) (respond : Respond)
    → (if is_dialog_response held respond.status
    then record (response_of held.request respond.status respond.reason held.tag) {
      contacts = contact_of local ∷ [];
      record_routes = held.request.record_routes;
    }
    else response_of held.request respond.status respond.reason held.tag).start
    ≡ start.Response respond.status respond.reason
plain_start local held respond =
    by_if (λ (message : Message). message.start ≡ start.Response respond.status respond.reason)
    (is_dialog_response held respond.status) _ _ (λ yes. refl) (λ no. refl)

sent_start : (local : Addr) (held : HeldRequest) (respond : Respond)
    → (response_sent local held respond).start ≡ start.Response respond.status respond.reason
unfolding with_content_of
sent_start local held respond =
    by_if (λ (message : Message). message.start ≡ start.Response respond.status respond.reason)
    (is_sent_reliably held respond) _ _ (λ yes. plain_start local held respond)
    (λ no. plain_start local held respond)

two_refusals : (first second : Bool) (one other : Refusal) (rest : Option Refusal)
    → (if first then Some one else if second then Some other else rest) ≡ None → second ≡ false
two_refusals true second one other rest none = absurd cc
two_refusals false true one other rest none = absurd cc
two_refusals false false one other rest none = refl

no_moment : (o : Option ℕ) → is_some o ≡ false → o ≡ None
no_moment None none = refl
no_moment (Some moment) none = absurd (false≢true (sym none))

unrefused : (dialogs : Dialogs) (held : HeldRequest) (respond : Respond)
    → response_refusal dialogs held respond ≡ None → held.removal ≡ None
unrefused dialogs held respond none =
    no_moment held.removal (two_refusals _ (is_some held.removal) _ AlreadyFinal _ none)

dialogs_silent : (event : Id) (held : HeldRequest) (status : ℕ) (response : Message)
    (dialogs : Dialogs) → orders (dialogs_after event held status response dialogs).1 ≡ []
dialogs_silent event held status response dialogs =
    let P : Dialogs × List CallOut → Type 0 = λ after. orders after.1 ≡ [] in
    by_if P (makes_dialog held status) _ _ (λ makes. refl)
    (λ m. by_if P (is_invite held.request && is_success status && not (has_to_tag held.request))
    _ _ (λ success. refl)
    (λ s. by_if P (is_invite held.request && nat_le 300 status) (early_ended held.id dialogs)
    (dialogs, []) (λ rejects. early_silent held.id dialogs) (λ r. refl)))
  where
    early_silent : (id : Id) (dialogs : Dialogs) → orders (early_ended id dialogs).1 ≡ []
    early_silent id dialogs = notices_silent (filter (is_early_of id) (values_of dialogs))

module _ (state : State) (event : Id) (respond : Respond) (now : ℕ)
    (rise : IdsRise (map (λ held. held.id) state.requests)) where
  abbrev Follows : ServedTaken → Type 0
  Follows taken = Serves state.requests None now taken.0.requests taken.1

  refused_serves : (refusal : Refusal) → Follows (refuse state event respond refusal)
  refused_serves refusal =
      serves_same now _ state.requests
      (λ id key message among. ⊎_elim (λ same. absurd cc) (λ none. absurd none) among)

  module _ (held : HeldRequest) (found : find (has_id respond.id) state.requests ≡ Some held)
      (lacks : held.removal ≡ None) where
    abbrev response : Message
    response = response_sent state.local held respond

    abbrev after : HeldRequest
    after = held_after event held respond response now

    abbrev dialogs : Dialogs × List CallOut
    dialogs = dialogs_after event held respond.status response state.dialogs

    abbrev outs : List CallOut
    outs = out.Command held.id (command.Answer held.key response) ∷ dialogs.1

    line : response.start ≡ start.Response respond.status respond.reason
    line = sent_start state.local held respond

    is_early : is_provisional respond.status ≡ true → IsEarly response
    is_early early = ap is_provisional_line line ∙ early

    reliably_early : is_sent_reliably held respond ≡ true → is_provisional respond.status ≡ true
    reliably_early reliable =
        and-right (is_invite held.request) _
        (and-left (is_invite held.request && is_provisional respond.status) _
        (and-left _ _ reliable))

    sent_alone : orders outs ≡ (held.id, command.Answer held.key response) ∷ []
    sent_alone =
        ap (λ more. (held.id, command.Answer held.key response) ∷ more)
        (dialogs_silent event held respond.status response state.dialogs)

    class_so : (status : ℕ) → is_success status ≡ true → class_of status ≡ class.Success
    class_so status success = grind (arith, common_steps, success)

    accepts : is_success respond.status ≡ true
        → answer_of response.start ≡ Some (on.Answer class.Success)
    accepts success =
        ap answer_of line ∙ ap (λ c. Some (on.Answer c)) (class_so respond.status success)

    final_success : (b : Bool) → (b ≡ true → is_success respond.status ≡ true)
        → (success : Success)
        → (if b then Some (success_sent response now) else held.success) ≡ Some success
        → success.over ≡ None
        → (changed : HeldRequest) → changed.removal ≡ Some (now + LIFETIME)
        → StillSent held changed success ⊎ IsAccepted now outs held changed success
    final_success true accepted success is over changed removal =
        let same : success_sent response now ≡ success = cc in
        let end : now + LIFETIME ≡ success.end = ap (λ (s : Success). s.end) same in
        inr (record {
          unanswered = lacks;
          removal = removal ∙ ap (λ moment. Some moment) end;
          end = sym end;
          message = response;
          is = accepts (accepted refl);
          sent = sent_alone;
        })
    final_success false accepted success is over changed removal = inl (record {
      was = success;
      before = is;
      over = over;
      end = refl;
      removal = inr lacks;
    })

    answered_goes : Goes now outs held after
    answered_goes =
        let P : HeldRequest → Type 0 = Goes now outs held in
        by_if P (is_sent_reliably held respond) _ _
        (λ reliable. changed_goes now outs held _ refl refl (λ none. lacks) refl (inr lacks)
        (λ early. both (λ one. IsEarly one.response) held.provisionals _ early
        (is_early (reliably_early reliable), tt)))
        (λ plain. by_if P (is_final respond.status) _ _
        (λ final. record {
          id_is = refl;
          key_is = refl;
          unanswered = λ none. lacks;
          success = λ success is over. final_success
              (is_invite held.request && is_success respond.status)
              (λ both. and-right (is_invite held.request) _ both) success is over _ refl;
          early = λ early. early;
        })
        (λ early. changed_goes now outs held _ refl refl (λ none. lacks) refl (inr lacks)
        (λ early. early)))

    final_after : is_provisional respond.status ≡ false → after.removal ≡ None → ⊥
    final_after late =
        let P : HeldRequest → Type 0 = λ changed. changed.removal ≡ None → ⊥ in
        by_if P (is_sent_reliably held respond) _ _
        (λ reliable. absurd (false≢true (sym late ∙ reliably_early reliable)))
        (λ plain. by_if P (is_final respond.status) _ _
        (λ final none. some_moment (now + LIFETIME) none)
        (λ early. absurd (not_early respond.status late early)))
      where
        not_early : (status : ℕ) → is_provisional status ≡ false → is_final status ≡ false → ⊥
        not_early status late early = grind (arith, common_steps, late, early)

    early_after : is_final respond.status ≡ false → after.removal ≡ None
    early_after early =
        let P : HeldRequest → Type 0 = λ changed. changed.removal ≡ None in
        by_if P (is_sent_reliably held respond) _ _ (λ reliable. lacks)
        (λ plain. by_if P (is_final respond.status) _ _
        (λ final. absurd (false≢true (sym early ∙ final))) (λ other. lacks))

    answer_keeps : (k : Key) (id : Id) → Holds k id state.requests
        → Holds k id (changed_at respond.id (λ _. after) state.requests) ⊎ Says k outs
    answer_keeps k id ours =
        ⊎_elim (λ still. inl (ours.0, still, ours.2))
        (λ changed.
        let it = subst (IsIt k id) (same_some ours.0 held (sym changed.0 ∙ found)) ours.2 in
        by_bool (is_final respond.status)
        (λ final. inr (_, inl refl, (it.key_is, (respond.status, respond.reason, line, final))))
        (λ early. inl (
          after,
          changed.1,
          record {
            id_is = sym answered_goes.id_is ∙ it.id_is;
            key_is = sym answered_goes.key_is ∙ it.key_is;
            unanswered = early_after early;
          },
        )))
        (changed_or (has_id respond.id) (λ _. after) state.requests ours.0 ours.1)

    answer_serves : Serves state.requests None now
        (changed_at respond.id (λ _. after) state.requests) outs
    answer_serves = record {
      each = each_changed now outs state.requests None respond.id (λ _. after) (λ old is.
          subst (λ h. Goes now outs h after) (same_some held old (sym found ∙ is)) answered_goes);
      answers = λ id key message among. ⊎_elim
          (λ same.
          let this : held.id ≡ id = cc in
          let other : command.Answer held.key response ≡ command.Answer key message = cc in
          let its : held.key ≡ key = cc in
          let mine : response ≡ message = cc in
          by_bool (is_provisional respond.status)
          (λ early. inl (subst IsEarly mine (is_early early)))
          (λ late. inr (inr (record {
            held = held;
            among = found_among (has_id respond.id) state.requests held found;
            id_is = this;
            key_is = its;
            unanswered = lacks;
            none = λ other among id_is none.
                let left = changed_once respond.id (λ _. after) state.requests rise other among
                (ap (λ i. is_id i respond.id) (id_is ∙ sym this)
                ∙ found_passes (has_id respond.id) state.requests held found) in
                final_after late (sym (ap (λ (h : HeldRequest). h.removal) left.2) ∙ none);
          }))))
          (λ later. absurd (no_command dialogs.1 id (command.Answer key message)
          (dialogs_silent event held respond.status response state.dialogs) later)) among;
      keeps = answer_keeps;
      takes = tt;
    }

  pub respond_serves : Follows (respond_command state event respond now)
  unfolding respond_command
  respond_serves =
      by_found Follows (respond_to state event respond now)
      (find (has_id respond.id) state.requests) _
      (λ held found. by_found Follows (refuse state event respond)
      (response_refusal state.dialogs held respond) _
      (λ refusal refused. refused_serves refusal)
      (λ none. answer_serves held found (unrefused state.dialogs held respond none)))
      (λ none. refused_serves _)

-- ---- a request that comes up

module _ (state : State) (arrival : Arrival) (now : ℕ)
    (rise : IdsRise (map (λ held. held.id) state.requests)) where
  abbrev came : Option (Id × Key)
  came = Some (arrival.id, arrival.key)

  abbrev Takes : ServedTaken → Type 0
  Takes taken = Serves state.requests came now taken.0.requests taken.1

  -- the agent responds by itself
  own_serves : (left : State) (response : Message) → IsFinal response
      → left.requests ≡ state.requests
      → Takes (left, out.Command arrival.id (command.Answer arrival.key response) ∷ [])
  own_serves left response final same =
      let outs = out.Command arrival.id (command.Answer arrival.key response) ∷ [] in
      subst (λ requests. Serves state.requests came now requests outs) (sym same) (record {
        each = λ held among. inr (held, among, same_goes now outs held);
        answers = λ id key message among. ⊎_elim
            (λ is. inr (inl (own_came arrival.id arrival.key response id key message is)))
            (λ none. absurd none) among;
        keeps = λ k id ours. inl ours;
        takes = inr (_, inl refl, (refl, final));
      })

  -- so it does by default
  by_itself : (left : State) (status : ℕ) (reason : List ℕ) → is_final status ≡ true
      → left.requests ≡ state.requests → Takes (left, own_response arrival status reason)
  by_itself left status reason final same = own_serves left _ (status, reason, refl, final) same

  for_user_serves : (dialogs : Dialogs) (call_id : List ℕ) (name : DialogId)
      → Takes (request_for_user (record state { dialogs = dialogs }) call_id name arrival)
  for_user_serves dialogs call_id name =
      let request = arrival.request in
      let outs = (request_for_user (record state { dialogs = dialogs }) call_id name arrival).1 in
      let ends = if has_to_tag request && is_bye request then ended_at name dialogs
      else (dialogs, []) in
      let silent : orders ends.1 ≡ [] =
      by_if (λ (after : Dialogs × List CallOut). orders after.1 ≡ [])
      (has_to_tag request && is_bye request) (ended_at name dialogs) (dialogs, [])
      (λ bye. ended_silent name dialogs) (λ other. refl) in
      record {
        each = λ held among. ⊎_elim
            (λ still. inr (held, still, same_goes now outs held))
            (λ new. ⊎_elim
            (λ same. subst (λ h. IsNew came outs h ⊎ (old : HeldRequest) × Among state.requests old
            × Goes now outs old h) same
            (inl (record { came_so = refl; silent = silent; success = refl; provisionals = refl })))
            (λ none. absurd none) new)
            (among_either state.requests (_ ∷ []) held among);
        answers = λ id key message among. ⊎_elim (λ same. absurd cc)
            (λ later. absurd (no_command ends.1 id (command.Answer key message) silent later)) among;
        keeps = λ k id ours. inl (ours.0, among_left state.requests _ ours.0 ours.1, ours.2);
        takes = inl (
          _,
          among_right state.requests _ _ (inl refl),
          record { id_is = refl; key_is = refl; unanswered = refl },
        );
      }

  prack_serves : (dialogs : Dialogs) (call_id : List ℕ) (rack : RAck) (invite : HeldRequest)
      → Takes (prack_for (record state { dialogs = dialogs }) call_id arrival rack invite)
  prack_serves dialogs call_id rack invite = record {
    each = each_changed now _ state.requests came invite.id (after_prack rack.rseq)
        (λ old is. changed_goes now _ old (after_prack rack.rseq old) refl refl (λ lacks. lacks) refl
        (inl refl) (λ early. filtered (λ one. IsEarly one.response)
        (λ one. not (one.number == rack.rseq)) old.provisionals early));
    answers = λ id key message among. ⊎_elim
        (λ same. inr (inl (own_came arrival.id arrival.key _ id key message same)))
        (λ later. ⊎_elim (λ same. absurd cc) (λ none. absurd none) later) among;
    keeps = λ k id ours. inl (changed_holds k id (has_id invite.id) (after_prack rack.rseq)
        state.requests (λ held it. record {
          id_is = it.id_is;
          key_is = it.key_is;
          unanswered = it.unanswered;
        }) ours);
    takes = inr (_, inl refl, (refl, (200, codes "OK", refl, refl)));
  }

  rack_serves : (dialogs : Dialogs) (call_id : List ℕ) (name : DialogId) (created_by : Id)
      (rack : Option RAck)
      → Takes (prack_received (record state { dialogs = dialogs }) call_id name created_by arrival
      rack)
  rack_serves dialogs call_id name created_by None =
      by_itself (record state { dialogs = dialogs }) 481 _ refl refl
  rack_serves dialogs call_id name created_by (Some rack) =
      let noted : State = record state { dialogs = dialogs } in
      by_found Takes (prack_for noted call_id arrival rack)
      (find (is_named_by rack name created_by) state.requests) (no_such_call noted arrival)
      (λ invite found. prack_serves dialogs call_id rack invite)
      (λ none. by_itself noted 481 _ refl refl)

  inside_serves : (call_id : List ℕ) (name : DialogId) (held_dialog : HeldDialog)
      → Takes (request_in_dialog state call_id name arrival held_dialog)
  inside_serves call_id name held_dialog =
      let request = arrival.request in
      let dialogs = dialog_changed name (after_request request) state.dialogs in
      let noted : State = record state { dialogs = dialogs } in
      by_if Takes (not (is_above held_dialog request.cseq.number)) _ _
      (λ old. by_itself state 500 _ refl refl)
      (λ new. by_if Takes (is_prack request)
      (prack_received noted call_id name held_dialog.created_by arrival request.rack)
      (request_for_user noted call_id name arrival)
      (λ is. rack_serves dialogs call_id name held_dialog.created_by request.rack)
      (λ isnt. for_user_serves dialogs call_id name))

  cancelled_serves : (call_id : List ℕ) (held : HeldRequest) → Among state.requests held
      → held.removal ≡ None → (response : Message) → IsFinal response → (more : Dialogs × List CallOut)
      → orders more.1 ≡ []
      → Takes (
        record state {
          requests = changed_at held.id (after_487 now) state.requests;
          dialogs = more.0;
        },
        out.Command arrival.id (command.Answer arrival.key response)
            ∷ out.Command held.id (command.Answer held.key
            (response_of held.request 487 (codes "Request Terminated") held.tag))
            ∷ out.Notice (notice.Cancel call_id held.id) ∷ more.1,
      )
  cancelled_serves call_id held among lacks response final more silent = record {
    each = each_changed now _ state.requests came held.id (after_487 now) (λ old is.
        let same = apart_of state.requests rise old held
        (found_among (has_id held.id) state.requests old is) among
        (found_passes (has_id held.id) state.requests old is) in
        let none : old.removal ≡ None = ap (λ (h : HeldRequest). h.removal) same ∙ lacks in
        changed_goes now _ old (after_487 now old) refl refl (λ after. none) refl (inr none)
        (λ early. early));
    answers = λ id key message answer. ⊎_elim
        (λ same. inr (inl (own_came arrival.id arrival.key response id key message same)))
        (λ later. ⊎_elim
        (λ same.
        let this : held.id ≡ id = cc in
        let other : command.Answer held.key (response_of held.request 487
        (codes "Request Terminated") held.tag) ≡ command.Answer key message = cc in
        let its : held.key ≡ key = cc in
        inr (inr (record {
          held = held;
          among = among;
          id_is = this;
          key_is = its;
          unanswered = lacks;
          none = λ other among id_is none.
              let left = changed_once held.id (after_487 now) state.requests rise other among
              (ap (λ i. is_id i held.id) (id_is ∙ sym this) ∙ id_itself held.id) in
              some_moment (now + LIFETIME) (sym (ap (λ (h : HeldRequest). h.removal) left.2)
              ∙ none);
        })))
        (λ rest. ⊎_elim (λ same. absurd cc)
        (λ last. absurd (no_command more.1 id (command.Answer key message) silent last)) rest)
        later) answer;
    keeps = λ k id ours. ⊎_elim (λ still. inl (ours.0, still, ours.2))
        (λ changed.
        let same = apart_of state.requests rise ours.0 held ours.1 among
        (found_passes (has_id held.id) state.requests ours.0 changed.0) in
        inr (
          _,
          inr (inl refl),
          (
            ap (λ (h : HeldRequest). h.key) (sym same) ∙ (ours.2).key_is,
            (487, codes "Request Terminated", refl, refl),
          ),
        ))
        (changed_or (has_id held.id) (after_487 now) state.requests ours.0 ours.1);
    takes = inr (_, inl refl, (refl, final));
  }

  cancel_serves : (call_id : List ℕ) (held : HeldRequest) → Among state.requests held
      → Takes (cancel_for state call_id arrival now held)
  cancel_serves call_id held among =
      by_if Takes (not (is_invite held.request && is_none held.removal)) _ _
      (λ other. own_serves state _ (200, _, refl, refl) refl)
      (λ invite. cancelled_serves call_id held among
      (no_moment_of held.removal (and-right (is_invite held.request) _ (not_not _ invite))) _
      (200, _, refl, refl)
      (early_ended held.id state.dialogs)
      (notices_silent (filter (is_early_of held.id) (values_of state.dialogs))))
    where
      no_moment_of : (o : Option ℕ) → is_none o ≡ true → o ≡ None
      no_moment_of None is = refl
      no_moment_of (Some moment) is = absurd (false≢true is)

      not_not : (b : Bool) → not b ≡ false → b ≡ true
      not_not true is = refl
      not_not false is = absurd (false≢true (sym is))

  pub request_serves : (call_id : List ℕ) → Takes (request_received state call_id arrival now)
  unfolding request_received
  request_serves call_id =
      let request = arrival.request in
      let name = dialog_id_of request arrival.tag in
      let none = no_such_call state arrival in
      let none_serves : Takes none = by_itself state 481 _ refl refl in
      by_if Takes (is_cancel request) (cancel_received state call_id arrival now) _
      (λ cancel. by_found Takes (cancel_for state call_id arrival now)
      (find (λ held. is_same_branch arrival.key held.key) (reverse state.requests)) none
      (λ held found. cancel_serves call_id held (reverse_among state.requests held
      (found_among (λ held. is_same_branch arrival.key held.key) (reverse state.requests) held
      found)))
      (λ no. none_serves))
      (λ c. by_if Takes (not (has_to_tag request) && list_any (is_merged request) state.requests) _ _
      (λ merged. by_itself state 482 _ refl refl)
      (λ m. by_if Takes (list_any is_unknown_option request.require) (bad_extension state arrival) _
      (λ unknown. own_serves state _ (420, _, refl, refl) refl)
      (λ u. by_if Takes (has_to_tag request) _ _
      (λ is. by_found Takes (request_in_dialog state call_id name arrival)
      (dialog_at name state.dialogs) none
      (λ dialog found. inside_serves call_id name dialog) (λ no. none_serves))
      (λ t. by_if Takes (is_bye request || is_prack request) none
      (request_for_user state call_id name arrival)
      (λ is. none_serves) (λ other. for_user_serves state.dialogs call_id name)))))

-- ---- an ACK

not_over : (why : SuccessEnd) → Some why ≡ None → ⊥
not_over why same = absurd cc

no_over : (o : Option Success) (success : Success)
    → option_map (λ (s : Success). record s { over = Some Acknowledged }) o ≡ Some success
    → success.over ≡ None → ⊥
no_over None success is over = absurd cc
no_over (Some s) success is over =
    not_over Acknowledged
    (ap (λ (x : Success). x.over) (same_some (record s { over = Some Acknowledged }) success is)
    ∙ over)

pub ack_serves : (state : State) (call_id : List ℕ) (ack : Message) (now : ℕ)
    → Serves state.requests None now (ack_received state call_id ack).0.requests
    (ack_received state call_id ack).1
unfolding ack_received
ack_serves state call_id ack now =
    by_found (λ (taken : ServedTaken). Serves state.requests None now taken.0.requests taken.1)
    (ack_for state call_id ack) (find (awaits ack) state.requests) (state, [])
    (λ invite found. record {
      each = each_changed now _ state.requests None invite.id after_ack (λ old is. record {
        id_is = refl;
        key_is = refl;
        unanswered = λ lacks. lacks;
        success = λ success same over. absurd (no_over old.success success same over);
        early = λ early. early;
      });
      answers = λ id key message among. ⊎_elim (λ same. absurd cc) (λ none. absurd none) among;
      keeps = λ k id ours. inl (changed_holds k id (has_id invite.id) after_ack state.requests
          (λ held it. record {
            id_is = it.id_is;
            key_is = it.key_is;
            unanswered = it.unanswered;
          }) ours);
      takes = tt;
    })
    (λ none. serves_same now [] state.requests (λ id key message among. among))

-- ---- a tick

-- after a tick it ends as before, or it was given up
record IsLeft (o : Option Success) (success : Success) : Type 0 where
  was : Success
  before : o ≡ Some was
  over : was.over ≡ None
  end : was.end ≡ success.end

success_left : (now : ℕ) (held : HeldRequest) (o : Option Success) (success : Success)
    → (option_map_or (success_at now held) o (None, [])).0 ≡ Some success → success.over ≡ None
    → IsLeft o success
success_left now held None success = λ is over. absurd cc
success_left now held (Some was) success =
    let P : Option Success × List CallOut → Type 0 = λ after.
    after.0 ≡ Some success → success.over ≡ None → IsLeft (Some was) success in
    let so : (left : Success) → left.over ≡ was.over → left.end ≡ was.end
    → Some left ≡ Some success → success.over ≡ None → IsLeft (Some was) success =
    λ left over end is none.
    let same = same_some left success is in
    record {
      was = was;
      before = refl;
      over = sym over ∙ (ap (λ (s : Success). s.over) same ∙ none);
      end = sym end ∙ ap (λ (s : Success). s.end) same;
    } in
    by_if P (is_none was.over && nat_le was.end now) _ _
    (λ late is none. absurd (not_over GivenUp
    (ap (λ (s : Success). s.over) (same_some _ success is) ∙ none)))
    (λ l. by_if P (is_none was.over && nat_le was.retransmission.due now) _ _
    (λ due. so _ refl refl) (λ d. so was refl refl))

abbrev stays_at : ℕ → HeldRequest → Bool
stays_at now held = option_map_or (λ moment. nat_lt now moment) held.removal true

pub tick_stays : (k : Key) (id : Id) (state : State) (now : ℕ) → Holds k id state.requests
    → Holds k id (server_tick state now).0.requests
unfolding server_tick
tick_stays k id state now ours = (
  ticked now ours.0,
  among_kept (stays_at now) _ (ticked now ours.0)
      (among_mapped (ticked now) state.requests ours.0 ours.1)
      (ap (λ removal. option_map_or (λ moment. nat_lt now moment) removal true)
      (ours.2).unanswered),
  record {
    id_is = (ours.2).id_is;
    key_is = (ours.2).key_is;
    unanswered = (ours.2).unanswered;
  },
)

ticked_goes : (now : ℕ) (given : List CallOut) (old : HeldRequest) → Goes now given old (ticked now old)
ticked_goes now given old = record {
  id_is = refl;
  key_is = refl;
  unanswered = λ lacks. lacks;
  success = λ success is over.
      let was = success_left now old old.success success is over in
      inl (record {
        was = was.was;
        before = was.before;
        over = was.over;
        end = was.end;
        removal = inl refl;
      });
  early = λ early. early;
}

pub ticked_from : (state : State) (now : ℕ) (outs : List CallOut) (held : HeldRequest)
    → Among ((server_tick state now).0).requests held
    → (old : HeldRequest) × Among state.requests old × Goes now outs old held
    × (held.removal ≡ old.removal)
    × (option_map_or (λ moment. nat_lt now moment) held.removal true ≡ true)
unfolding server_tick
ticked_from state now outs held among =
    let left = kept_among (stays_at now) (map (ticked now) state.requests) held among in
    so (mapped_among (ticked now) state.requests held left.0) left.1
  where
    so : (old : HeldRequest) × Among state.requests old × (ticked now old ≡ held)
        → stays_at now held ≡ true
        → (old : HeldRequest) × Among state.requests old × Goes now outs old held
        × (held.removal ≡ old.removal) × (stays_at now held ≡ true)
    so (old, there, is) stays = (
      old,
      there,
      subst (Goes now outs old) is (ticked_goes now outs old),
      sym (ap (λ (h : HeldRequest). h.removal) is),
      stays,
    )
