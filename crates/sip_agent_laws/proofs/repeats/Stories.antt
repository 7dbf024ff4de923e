-- The repeats in the stories of the held requests are what goes out.
use Rattle.std.proofs.Common.{◌≡◌, ℕ, Bool, true, false, not, ◌&&◌, ◌||◌, ◌==◌, List, [], ◌∷◌, ◌++◌, map, nat_le, nat_lt, refl, sym, ap, ◌∙◌, arith}
use Rattle.std.specs.Prelude.{Option, None, Some, filter, flat_map, if◌then◌else◌}
use Rattle.std.specs.List.{list_any}
use Rattle.std.specs.Option.{option_to_list}
use Rattle.std.proofs.lemmas.Grind.{common_steps, flat_map-append}
use Rattle.std.proofs.lemmas.List.{append-nil}
use Rattle.std.proofs.lemmas.List.Folds.{flat_map-map}
use Rattle.keyed_machine.proofs.Ordered.{by_bool}
use Rattle.sip_message.specs.declared.message.Message.{Message}
use Rattle.sip_reliable.specs.declared.tick.Tick.TheVariants as tick
use Rattle.sip_reliable.specs.Ledger.{due_numbers, tick_answer}
use Rattle.sip_reliable.specs.Provisional.{Provisional, is_late, is_repeated}
use Rattle.sip_user.specs.declared.item.CallOut.{CallOut}
use Rattle.sip_served.specs.declared.held_request.HeldRequest.{HeldRequest}
use Rattle.sip_served.specs.declared.held_request.Success.{Success}
use Rattle.sip_served.specs.declared.held_request.SuccessEnd.{SuccessEnd}
use Rattle.sip_served.specs.declared.provisionals.ReliableResponse.{ReliableResponse}
use Rattle.sip_served.specs.Provisionals.{of_numbers}
use Rattle.sip_served.specs.Story.{request_of}
use Rattle.sip_served.specs.Tick.{provisionals_go, request_passes, success_passes}
use Rattle.sip_calls.specs.declared.call.Call.{Call}
use Rattle.sip_calls.specs.declared.calls.Calls.{Calls}
use Rattle.sip_calls.specs.Call.{call_step}
use Rattle.sip_calls.specs.HeldRequests.{requests_held}
use Rattle.sip_calls.specs.Histories.{call_from}
use Rattle.sip_calls.specs.RequestHistories.{stories_of}
use Rattle.sip_calls.proofs.RequestHistories.{holds_its_stories}
use Rattle.sip_agent_laws.specs.Calls.Commanded.{goes_out}
use Rattle.sip_agent_laws.specs.Repeats.Repeats.{is_due, provisionals_due, responses_to, success_due}
use Rattle.sip_agent_laws.specs.Repeats.Stories.{SentAsTold, sent_by}
use Rattle.sip_agent_laws.proofs.repeats.Repeats.{none_due, number_due, sent_again}

-- ---- one request

module _ (now : ℕ) (held : HeldRequest) where
  later_is : (end : ℕ) (b : Bool) → nat_le end now ≡ b → nat_lt now end ≡ not b
  later_is end true e = grind (arith, common_steps)
  later_is end false e = grind (arith, common_steps)

  abbrev with_success : Option Success → HeldRequest
  with_success o = record held { success = o }

  abbrev Same : Option Success → Type 0
  Same o =
      flat_map (sent_by (with_success o)) (success_passes now o)
      ≡ map (λ (s : Success). s.response) (filter (is_due now) (option_to_list o))

  by_over : (success : Success) (over : Option SuccessEnd)
      → Same (Some record success { over = over })
  by_over success (Some end) = refl
  by_over success None =
      by_bool (nat_le success.end now) (λ e. rw (e, later_is success.end true e) refl)
      (λ e. by_bool (nat_le success.retransmission.due now)
      (λ f. rw (e, later_is success.end false e, f) refl)
      (λ f. rw (e, later_is success.end false e, f) refl))

  success_so : (o : Option Success) → Same o
  success_so None = refl
  success_so (Some success) = by_over success success.over

  -- ---- the reliable provisional responses

  abbrev numbers_due : ReliableResponse → Bool
  numbers_due one =
      list_any (λ p. is_repeated now p && (one.number == p.number)) held.ledger.waiting

  abbrev sent : List ReliableResponse → List Message
  sent responses = map (λ (one : ReliableResponse). one.response) responses

  none_repeated : (one : ReliableResponse) (waiting : List Provisional)
      → list_any (is_repeated now) waiting ≡ false
      → list_any (λ p. is_repeated now p && (one.number == p.number)) waiting ≡ false
  none_repeated one [] none = refl
  none_repeated one (p ∷ waiting) none =
      by_first (is_repeated now p) (one.number == p.number) (list_any (is_repeated now) waiting)
      (list_any (λ p. is_repeated now p && (one.number == p.number)) waiting) none
      (none_repeated one waiting)
    where
      by_first : (a b c d : Bool) → (a || c) ≡ false → (c ≡ false → d ≡ false)
          → ((a && b) || d) ≡ false
      by_first true b c d none rest = absurd cc
      by_first false b c d none rest = rest none

  by_tick : (closed late due : Bool)
      → (due ≡ false → (one : ReliableResponse) → numbers_due one ≡ false)
      → flat_map (sent_by held) (provisionals_go (if closed then tick.Nothing
      else if late then tick.GivenUp
      else if due then tick.Again record { items = due_numbers now held.ledger.waiting }
      else tick.Nothing) now)
      ≡ sent (filter (λ one. not closed && not late && numbers_due one) held.provisionals)
  by_tick true late due none = sym (ap sent (none_due now held held.provisionals))
  by_tick false true due none = sym (ap sent (none_due now held held.provisionals))
  by_tick false false true none =
      append-nil (sent (of_numbers (due_numbers now held.ledger.waiting) held.provisionals))
      ∙ (λ i. sent (filter (λ one. number_due now held one held.ledger.waiting i)
      held.provisionals))
  by_tick false false false none =
      sym (ap sent (none_due now held held.provisionals))
      ∙ (λ i. sent (filter (λ one. sym (none refl one) i) held.provisionals))

  provisionals_so : flat_map (sent_by held) (provisionals_go (tick_answer held.ledger now) now)
      ≡ provisionals_due now held
  provisionals_so =
      by_tick held.ledger.closed (list_any (is_late now) held.ledger.waiting)
      (list_any (is_repeated now) held.ledger.waiting)
      (λ none one. none_repeated one held.ledger.waiting none)

  request_so : success_due now held ++ provisionals_due now held
      ≡ flat_map (sent_by held) (request_passes now held)
  request_so =
      sym (flat_map-append (sent_by held) (success_passes now held.success)
      (provisionals_go (tick_answer held.ledger now) now)
      ∙ (λ i. success_so held.success i ++ provisionals_so i))

-- ---- all of them

abbrev pub sent_to : ℕ → HeldRequest → List CallOut
sent_to now held = responses_to held (flat_map (sent_by held) (request_passes now held))

pub held_sent : (calls : Calls) (state : Option Call) (now : ℕ)
    → goes_out (call_step calls state None now).1 ≡ flat_map (sent_to now) (requests_held state)
held_sent calls None now = refl
held_sent calls (Some call) now =
    sent_again calls call now
    ∙ (λ i. flat_map (λ held. responses_to held (request_so now held i)) (call.served).requests)

pub sent_as_told : SentAsTold
sent_as_told calls inputs now =
    held_sent calls (call_from calls None inputs) now
    ∙ ap (flat_map (sent_to now)) (holds_its_stories calls inputs)
    ∙ flat_map-map (sent_to now) request_of (stories_of calls inputs)
