-- After each item of the server side the INVITE of an id awaits its ACK exactly if the outputs say
-- so.
use Rattle.std.proofs.Common.{◌≡◌, ℕ, Bool, true, false, ◌&&◌, ◌||◌, cond, List, [], ◌∷◌, map, refl, sym, ap, ◌∙◌, arith}
use Rattle.std.specs.Prelude.{Option, None, Some, Result, Ok, Err, fold, is_none, nat_le, nat_lt, if◌then◌else◌}
use Rattle.std.specs.Option.{option_map, option_map_or}
use Rattle.std.specs.Cmp.{first_so, second_so}
use Rattle.std.specs.Result.{result_ok}
use Rattle.std.proofs.lemmas.Grind.{common_steps}
use Rattle.sip_message.specs.declared.addr.Addr.{Addr}
use Rattle.sip_message.specs.declared.id.Id.{Id}
use Rattle.sip_message.specs.declared.message.Message.{Message}
use Rattle.sip_message.specs.Content.{Content, with_content_of}
use Rattle.sip_message.specs.Response.{response_of}
use Rattle.sip_reliable.specs.declared.send_fault.SendFault.{SendFault}
use Rattle.sip_reliable.specs.declared.tick.Tick.{Tick}
use Rattle.sip_reliable.specs.declared.tick.Tick.TheVariants as tick
use Rattle.sip_reliable.specs.Ledger.{send_answer, tick_answer}
use Rattle.sip_transactions.specs.declared.input.Command.TheVariants as order
use Rattle.sip_user.specs.declared.command.Respond.{Respond as Answer}
use Rattle.sip_held_dialogs.specs.declared.held_dialog.DialogReference.{DialogReference}
use Rattle.sip_user.specs.declared.item.CallOut.{CallOut}
use Rattle.sip_user.specs.declared.item.CallOut.TheVariants as out
use Rattle.sip_held_dialogs.specs.Ids.{is_id}
use Rattle.sip_held_dialogs.specs.Requests.{dialog_id_of, is_final, is_invite, is_provisional, is_success, requires_100rel, supports_100rel}
use Rattle.sip_served.specs.declared.held_request.HeldRequest.{HeldRequest}
use Rattle.sip_served.specs.declared.held_request.Success.{Success}
use Rattle.sip_served.specs.declared.held_request.SuccessEnd.{SuccessEnd}
use Rattle.sip_served.specs.declared.held_request.SuccessEnd.TheVariants.{Acknowledged, GivenUp}
use Rattle.sip_served.specs.declared.provisionals.ReliableResponse.{ReliableResponse}
use Rattle.sip_served.specs.declared.retransmissions.SuccessDue.{SuccessDue}
use Rattle.sip_served.specs.declared.retransmissions.SuccessDue.TheVariants as repeat
use Rattle.sip_served.specs.Acknowledgment.{awaits_ack, success_ended}
use Rattle.sip_served.specs.Awaiting.{awaits_by, has_success}
use Rattle.sip_served.specs.Cancel.{request_terminated}
use Rattle.sip_served.specs.Provisionals.{of_numbers}
use Rattle.sip_served.specs.RequestLife.{Finishes, MakesDialog, RepeatsSuccess, request_happened, success_sent, went_on}
use Rattle.sip_served.specs.Respond.{after_answer, answer_to, answered, finished, if_so, makes_or_confirms_dialog, is_reliable, is_sent_reliably, makes_dialog, may_be_reliable, sends_as, sent_as, sent_reliably, with_routes, with_rseq}
use Rattle.sip_served.specs.Tick.{provisionals_told, provisionals_ticked, request_ticked, success_answer, success_at_tick, success_goes, success_ticked, success_told}
use Rattle.sip_served.specs.Unacknowledged.{at_tick}
use Rattle.sip_served.proofs.Reading as reading
use Rattle.sip_served.proofs.Reading.{IsTold, Reading}
use Rattle.sip_served.proofs.RequestLives.{provisionals_alone}

-- an INVITE awaits its ACK, or doesn't
abbrev pub awaiting : Id → Reading Bool
awaiting invite =
    record {
      none = false;
      read = awaits_ack;
      by = awaits_by invite;
      ticks = at_tick (awaits_by invite);
    }

no_wait : (b : Bool) → (b && false) ≡ false
no_wait true = refl
no_wait false = refl

-- ---- an ACK, and a CANCEL

over_now : (end : SuccessEnd) (held : HeldRequest) → awaits_ack (success_ended end held) ≡ false
over_now end held = by_success held.success
  where
    by_success : (o : Option Success) → (is_invite held.request
        && option_map_or (λ success. is_none success.over)
        (option_map (λ (success : Success). record success { over = Some end }) o)
        false) ≡ false
    by_success None = no_wait (is_invite held.request)
    by_success (Some success) = no_wait (is_invite held.request)

terminated_as : (response : Message) (now : ℕ) (held : HeldRequest)
    → awaits_ack (finished response 487 now held) ≡ awaits_ack held
terminated_as response now held = by_method (is_invite held.request)
  where
    by_method : (b : Bool) → (b && option_map_or (λ success. is_none success.over)
        (if b && is_success 487 then Some (success_sent response now) else held.success) false)
        ≡ (b && option_map_or (λ success. is_none success.over) held.success false)
    by_method true = refl
    by_method false = refl

-- a 487 is no 2xx
rejected_silent : (own inviting awaits : Bool)
    → cond (own && (inviting && is_success 487)) true awaits ≡ awaits
rejected_silent true true awaits = refl
rejected_silent true false awaits = refl
rejected_silent false inviting awaits = refl

-- ---- an answer of the user

-- a 2xx to an INVITE
abbrev answers_invite : Message → Bool
answers_invite response = is_invite response && has_success response.start

content_as : (response : Message) (content : Content)
    → answers_invite (with_content_of response content) ≡ answers_invite response
unfolding with_content_of
content_as response content = refl

so_as : (b : Bool) (change : Message → Message)
    → ((response : Message) → answers_invite (change response) ≡ answers_invite response)
    → (response : Message) → answers_invite (if_so b change response) ≡ answers_invite response
so_as true change same response = same response
so_as false change same response = refl

answer_as : (local : Addr) (held : HeldRequest) (r : Answer)
    → answers_invite (answer_to local held r)
    ≡ (is_invite held.request && is_success r.status)
answer_as local held r =
    let plain = response_of held.request r.status r.reason held.tag in
    let routed = if_so (makes_or_confirms_dialog held r.status) (with_routes local held.request)
    plain in
    let numbered = with_rseq (result_ok (send_answer held.ledger)) in
    content_as (if_so (is_sent_reliably held r.status r.reliability) numbered routed) r.content
    ∙ so_as (is_sent_reliably held r.status r.reliability) numbered (λ response. refl) routed
    ∙ so_as (makes_or_confirms_dialog held r.status) (with_routes local held.request)
    (λ response. refl) plain

never_both : (status : ℕ) → nat_lt status 200 ≡ true → nat_le 200 status ≡ false
never_both status e = grind (arith, common_steps)

pub reliable_not_final : (held : HeldRequest) (r : Answer)
    → is_sent_reliably held r.status r.reliability ≡ true
    → is_final r.status ≡ false
reliable_not_final held r is =
    never_both r.status
    (second_so (is_invite held.request) (is_provisional r.status)
    (first_so (is_invite held.request && is_provisional r.status)
    (supports_100rel held.request)
    (first_so (may_be_reliable held r.status)
    (is_reliable r.reliability || requires_100rel held.request) is)))

reliably_waits : (response : Message) (now : ℕ) (held : HeldRequest)
    → awaits_ack (sent_reliably response now held) ≡ awaits_ack held
reliably_waits response now held = by_answer (send_answer held.ledger)
  where
    by_answer : (o : Result ℕ SendFault)
        → awaits_ack (sent_as o response now held) ≡ awaits_ack held
    by_answer (Ok number) = refl
    by_answer (Err fault) = refl

-- the request after its answer
module _ (r : Answer) (response : Message) (now : ℕ) (held : HeldRequest) where
  abbrev waits_now : Bool → Bool
  waits_now success = cond (is_invite held.request && success) true (awaits_ack held)

  not_success : (final : Bool) → is_final r.status ≡ final → final ≡ false
      → awaits_ack held ≡ waits_now (is_success r.status)
  not_success final is never =
      ap (λ b. cond b true (awaits_ack held))
      (sym (ap (λ b. is_invite held.request && (b && nat_lt r.status 300)) (is ∙ never)
      ∙ no_wait (is_invite held.request)))

  finished_waits : awaits_ack (finished response r.status now held)
      ≡ waits_now (is_success r.status)
  finished_waits = by_both (is_invite held.request) (is_success r.status)
    where
      by_both : (inviting success : Bool)
          → (inviting && option_map_or (λ success. is_none success.over)
          (if inviting && success then Some (success_sent response now) else held.success) false)
          ≡ cond (inviting && success) true
          (inviting && option_map_or (λ success. is_none success.over) held.success false)
      by_both true true = refl
      by_both true false = refl
      by_both false success = refl

  by_final : (final : Bool) → is_final r.status ≡ final
      → awaits_ack (went_on (if final then Finishes response r.status now ∷ [] else []) held)
      ≡ waits_now (is_success r.status)
  by_final true is = finished_waits
  by_final false is = not_success false is refl

  by_reliable : (b : Bool) → is_sent_reliably held r.status r.reliability ≡ b
      → awaits_ack (went_on (if b then sends_as (send_answer held.ledger) response now
      else (if is_final r.status then Finishes response r.status now ∷ [] else [])) held)
      ≡ waits_now (is_success r.status)
  by_reliable false is = by_final (is_final r.status) refl
  by_reliable true is =
      reliably_waits response now held
      ∙ not_success (is_final r.status) refl (reliable_not_final held r is)

  answered_waits : awaits_ack (answered r.status r.reliability response now held)
      ≡ waits_now (is_success r.status)
  answered_waits = by_reliable (is_sent_reliably held r.status r.reliability) refl

given_waits : (response : Message) (event : Id) (r : Answer) (now : ℕ) (held : HeldRequest)
    → awaits_ack (after_answer event r response now held)
    ≡ waits_now r response now held (is_success r.status)
given_waits response event r now held =
    let made : DialogReference = record {
      name = dialog_id_of held.request held.tag;
      created_by = event;
    } in
    elim (makes_dialog held r.status) as (λ b. awaits_ack (answered r.status r.reliability response
    now (went_on (if b then MakesDialog made ∷ [] else []) held))
    ≡ waits_now r response now held (is_success r.status)) [
      | true ↦ answered_waits r response now record held { dialog = Some made }
      | false ↦ answered_waits r response now held
    ]

-- ---- a tick

module _ (invite : Id) where
  abbrev Quiet : List CallOut → Type 0
  Quiet outs = reading.Quiet (awaiting invite) outs

  repeats_quiet : (held : HeldRequest) (responses : List ReliableResponse)
      → Quiet (map (λ one. out.Command held.id (order.Answer held.key one.response)) responses)
  repeats_quiet held [] awaits = refl
  repeats_quiet held (one ∷ responses) awaits = repeats_quiet held responses awaits

  provisionals_quiet : (t : Tick) (held : HeldRequest) → Quiet (provisionals_told t held)
  provisionals_quiet tick.Nothing held awaits = refl
  provisionals_quiet (tick.Again numbers) held awaits =
      repeats_quiet held (of_numbers numbers.items held.provisionals) awaits
  provisionals_quiet tick.GivenUp held awaits = refl

  -- the 2xx of this request, or of another
  success_waits : (now : ℕ) (held : HeldRequest) → is_id held.id invite ≡ true
      → (o : Option Success) → awaits_ack (success_at_tick now held o).0
      ≡ fold (at_tick (awaits_by invite)) (awaits_ack held) (success_at_tick now held o).1
  success_waits now held own None = refl
  success_waits now held own (Some success) = by_due (success_answer now success)
    where
      again : (o : Option Success)
          → awaits_ack (request_happened record held { success = o } (RepeatsSuccess now))
          ≡ awaits_ack record held { success = o }
      again None = refl
      again (Some success) = refl

      by_due : (due : SuccessDue)
          → awaits_ack (went_on (success_goes due now) held)
          ≡ fold (at_tick (awaits_by invite)) (awaits_ack held)
          (success_told due held success.response)
      by_due repeat.Nothing = refl
      by_due repeat.Again = again held.success
      by_due repeat.GivenUp =
          over_now GivenUp held ∙ ap (λ b. cond b false (awaits_ack held)) (sym own)

  success_quiet : (now : ℕ) (held : HeldRequest) → is_id held.id invite ≡ false
      → (o : Option Success) → Quiet (success_at_tick now held o).1
  success_quiet now held other None awaits = refl
  success_quiet now held other (Some success) awaits = by_due (success_answer now success)
    where
      by_due : (due : SuccessDue)
          → fold (at_tick (awaits_by invite)) awaits (success_told due held success.response)
          ≡ awaits
      by_due repeat.Nothing = refl
      by_due repeat.Again = refl
      by_due repeat.GivenUp = ap (λ b. cond b false awaits) other

  own_ticks : (now : ℕ) (held : HeldRequest) → is_id held.id invite ≡ true
      → awaits_ack (request_ticked now held).0
      ≡ fold (at_tick (awaits_by invite)) (awaits_ack held) (request_ticked now held).1
  own_ticks now held own =
      let first = success_ticked now held in
      let second = provisionals_ticked now first.0 in
      ap awaits_ack (provisionals_alone (tick_answer (first.0).ledger now) now first.0)
      ∙ success_waits now held own held.success
      ∙ sym (reading.fold_on (at_tick (awaits_by invite)) (awaits_ack held) first.1 second.1
      ∙ provisionals_quiet (tick_answer (first.0).ledger now) first.0
      (fold (at_tick (awaits_by invite)) (awaits_ack held) first.1))

  other_ticks : (now : ℕ) (held : HeldRequest) → is_id held.id invite ≡ false
      → Quiet (request_ticked now held).1
  other_ticks now held other =
      let first = success_ticked now held in
      let second = provisionals_ticked now first.0 in
      reading.quiet_both (awaiting invite) first.1 second.1
      (success_quiet now held other held.success)
      (provisionals_quiet (tick_answer (first.0).ledger now) first.0)

  -- ---- all of it

  pub ack_told : IsTold Bool (awaiting invite) invite
  ack_told = record {
    another = λ id other key response awaits.
        ap (λ b. cond (b && answers_invite response) true awaits) other;
    request = λ call_id id method local remote body awaits. refl;
    ended = λ dialog awaits. refl;
    refusal = λ call_id place refusal awaits. refl;
    cancel = λ call_id id awaits. refl;
    new = λ arrival dialog. no_wait (is_invite arrival.request);
    prack = λ call_id id rseq body own held. refl;
    other_prack = λ call_id id rseq body other awaits. refl;
    ack = λ call_id id body own held.
        over_now Acknowledged held ∙ ap (λ b. cond b false (awaits_ack held)) (sym own);
    other_ack = λ call_id id body other awaits. ap (λ b. cond b false awaits) other;
    terminated = λ id own of key now held.
        terminated_as (request_terminated of) now held
        ∙ sym (rejected_silent (is_id id invite) (is_invite (request_terminated of))
        (awaits_ack held));
    given = λ id own local key event r now held.
        given_waits (answer_to local held r) event r now held
        ∙ sym (λ i. cond (own i && answer_as local held r i) true (awaits_ack held));
    ticked = own_ticks;
    other_ticked = other_ticks;
  }
