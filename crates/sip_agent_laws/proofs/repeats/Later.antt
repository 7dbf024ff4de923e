-- After a tick nothing goes out again at that moment.
use Rattle.std.proofs.Common.{◌≡◌, ◌≤◌, ℕ, ◌+◌, ◌*◌, Bool, true, false, not, ◌&&◌, ◌||◌, ◌==◌, cond, List, [], ◌∷◌, ◌++◌, map, min, nat_le, nat_lt, refl, sym, ap, subst, ◌∙◌, arith, pow_pos}
use Rattle.std.proofs.lemmas.Bool.{and_right}
use Rattle.std.specs.Prelude.{Option, None, Some, IfSome, filter, fold, is_none, length}
use Rattle.std.specs.List.{AllByRecursion, list_any}
use Rattle.std.specs.Option.{option_map, option_map_or, option_to_list}
use Rattle.keyed_machine.proofs.Ordered.{by_bool}
use Rattle.sip_message.specs.declared.message.Message.{Message}
use Rattle.sip_reliable.specs.declared.provisional.Retransmission.{Retransmission as ProvisionalRetransmission}
use Rattle.sip_reliable.specs.Ledger.{Ledger}
use Rattle.sip_reliable.specs.Provisional.{Provisional, after_repeat, given_up, interval_after, is_late, is_repeated}
use Rattle.sip_transactions.specs.declared.step.Pace.TheVariants.{Capped}
use Rattle.sip_transactions.specs.declared.timers.TheConstants.{T2}
use Rattle.sip_transactions.specs.Timers.{interval}
use Rattle.sip_user.specs.declared.item.CallOut.{CallOut}
use Rattle.sip_served.specs.declared.held_request.HeldRequest.{HeldRequest}
use Rattle.sip_served.specs.declared.held_request.Success.{Success}
use Rattle.sip_served.specs.declared.provisionals.ReliableResponse.{ReliableResponse}
use Rattle.sip_served.specs.Rules.Ticks.{server_tick, success_at}
use Rattle.sip_served.specs.Story.{RequestStory, SuccessStory, request_of, success_by, success_of}
use Rattle.sip_served.specs.Telling.{Stories}
use Rattle.sip_calls.specs.declared.call.Call.{Call}
use Rattle.sip_calls.specs.declared.calls.Calls.{Calls}
use Rattle.sip_calls.specs.Call.{call_step, call_tick}
use Rattle.sip_calls.specs.HeldRequests.{requests_held}
use Rattle.sip_calls.specs.Histories.{call_from}
use Rattle.sip_calls.specs.RequestHistories.{stories_of}
use Rattle.sip_calls.proofs.HeldRequests.{kept_requests}
use Rattle.sip_calls.proofs.RequestHistories.{holds_its_stories}
use Rattle.sip_agent_laws.proofs.calls.ServedBounds.{ticked}
use Rattle.sip_agent_laws.specs.Repeats.Later.{DueLater}
use Rattle.sip_agent_laws.specs.Repeats.Repeats.{is_due, is_provisional_due, provisionals_due, success_due}
use Rattle.sip_agent_laws.proofs.calls.InTime.{left}
use Rattle.sip_agent_laws.proofs.repeats.Repeats.{none_due, not_due}

-- ---- the interval of a 2xx isn't 0

abbrev IsPaced : HeldRequest → Type 0
IsPaced held = IfSome held.success (λ success. 1 ≤ success.retransmission.interval)

capped_above : (n : ℕ) → 1 ≤ interval Capped n
capped_above n = let positive = pow_pos n in grind (arith, positive)

story_paced : (story : RequestStory) → IsPaced (request_of story)
story_paced story = by_success (fold (success_by story.arrival) None story.life)
  where
    by_success : (o : Option SuccessStory)
        → IfSome (option_map success_of o) (λ success. 1 ≤ success.retransmission.interval)
    by_success None = tt
    by_success (Some success) = capped_above (length success.repeats)

all_paced : (stories : Stories) → AllByRecursion IsPaced (map request_of stories)
all_paced [] = tt
all_paced (story ∷ stories) = (story_paced story, all_paced stories)

-- ---- one request

module _ (now : ℕ) (held : HeldRequest) where
  later : (n : ℕ) → 1 ≤ n → nat_le (now + min (2 * n) T2) now ≡ false
  later n above = grind (arith, above)

  abbrev due_of : Option Success → List Message
  due_of o = map (λ (s : Success). s.response) (filter (is_due now) (option_to_list o))

  not_again : (success : Success) → is_due now success ≡ false → due_of (Some success) ≡ []
  not_again success e = rw e refl

  success_later : (o : Option Success)
      → IfSome o (λ success. 1 ≤ success.retransmission.interval)
      → due_of (option_map_or (success_at now held) o (None, [])).0 ≡ []
  success_later None paced = refl
  success_later (Some success) paced =
      by_bool (is_none success.over && nat_le success.end now) (λ e. rw e refl)
      (λ e. by_bool (is_none success.over && nat_le success.retransmission.due now)
      (λ f. rw (e, f) (not_again (record success {
        retransmission = record {
          due = now + min (2 * success.retransmission.interval) T2;
          interval = min (2 * success.retransmission.interval) T2;
        };
      }) (ap (λ b. is_none success.over && nat_lt now success.end && b)
      (later success.retransmission.interval paced)
      ∙ and_right (is_none success.over && nat_lt now success.end) false refl)))
      (λ f. rw (e, f) (not_again success (not_due now success f))))

  -- ---- the reliable provisional responses

  unrepeated : (one : ReliableResponse) (f : Provisional → Provisional)
      → ((p : Provisional) → is_repeated now (f p) ≡ false) → (waiting : List Provisional)
      → list_any (λ p. is_repeated now p && (one.number == p.number)) (map f waiting) ≡ false
  unrepeated one f none [] = refl
  unrepeated one f none (p ∷ waiting) =
      (λ i. (none p i && (one.number == (f p).number))
      || list_any (λ p. is_repeated now p && (one.number == p.number)) (map f waiting))
      ∙ unrepeated one f none waiting

  sent_later : (o : Option ProvisionalRetransmission)
      → option_map_or (λ (r : ProvisionalRetransmission). nat_le r.due now)
      (option_map (λ (r : ProvisionalRetransmission). record {
        due = now + interval_after (r.repeats + 1);
        repeats = r.repeats + 1;
      }) o) false ≡ false
  sent_later None = refl
  sent_later (Some r) =
      let positive = pow_pos (r.repeats + 1) in grind (arith, positive)

  after_unrepeated : (p : Provisional) → is_repeated now (after_repeat now p) ≡ false
  after_unrepeated p =
      by_bool (is_repeated now p) (λ e. rw e (sent_later p.retransmission)) (λ e. rw e e)

  abbrev is_owed : Ledger → ReliableResponse → Bool
  is_owed ledger one =
      not ledger.closed && not (list_any (is_late now) ledger.waiting)
      && list_any (λ p. is_repeated now p && (one.number == p.number)) ledger.waiting

  both : (a b c : Bool) → c ≡ false → (a && b && c) ≡ false
  both true true c e = e
  both true false c e = refl
  both false b c e = refl

  by_case : (closed late : Bool) (outs1 outs2 outs3 : List CallOut) (one : ReliableResponse)
      → held.ledger.closed ≡ closed
      → is_owed (cond {A = Ledger × List CallOut} closed (held.ledger, outs1)
      (cond late (record (held.ledger) { waiting = map given_up held.ledger.waiting }, outs2)
      (record (held.ledger) { waiting = map (after_repeat now) held.ledger.waiting }, outs3))).0
      one ≡ false
  by_case true late outs1 outs2 outs3 one is = rw is refl
  by_case false true outs1 outs2 outs3 one is =
      both (not held.ledger.closed)
      (not (list_any (is_late now) (map given_up held.ledger.waiting))) _
      (unrepeated one given_up (λ p. refl) held.ledger.waiting)
  by_case false false outs1 outs2 outs3 one is =
      both (not held.ledger.closed)
      (not (list_any (is_late now) (map (after_repeat now) held.ledger.waiting))) _
      (unrepeated one (after_repeat now) after_unrepeated held.ledger.waiting)

  one_later : (one : ReliableResponse) → is_provisional_due now (ticked now held) one ≡ false
  one_later one =
      by_case held.ledger.closed (list_any (is_late now) held.ledger.waiting) _ _ _ one refl

  provisionals_later : provisionals_due now (ticked now held) ≡ []
  provisionals_later =
      (λ i. map (λ (one : ReliableResponse). one.response)
      (filter (λ one. one_later one i) held.provisionals))
      ∙ ap (map (λ (one : ReliableResponse). one.response))
      (none_due now held held.provisionals)

  all_later : IsPaced held
      → success_due now (ticked now held) ++ provisionals_due now (ticked now held) ≡ []
  all_later paced = λ i. success_later held.success paced i ++ provisionals_later i

-- ---- all of them

abbrev IsLater : ℕ → HeldRequest → Type 0
IsLater now held = success_due now held ++ provisionals_due now held ≡ []

left_later : (now : ℕ) (requests : List HeldRequest) → AllByRecursion IsPaced requests
    → AllByRecursion (IsLater now) (left now requests)
left_later now [] all = tt
left_later now (held ∷ requests) all =
    by_bool (option_map_or (λ moment. nat_lt now moment) held.removal true)
    (λ e. rw e (all_later now held all.0, left_later now requests all.1))
    (λ e. rw e (left_later now requests all.1))

call_later : (calls : Calls) (now : ℕ) (state : Option Call)
    → AllByRecursion IsPaced (requests_held state)
    → AllByRecursion (IsLater now) (requests_held (call_step calls state None now).0)
unfolding server_tick
call_later calls now None all = tt
call_later calls now (Some call) all =
    subst (AllByRecursion (IsLater now)) (sym (kept_requests (call_tick call now).0))
    (left_later now (call.served).requests all)

pub due_later : DueLater
due_later calls inputs now =
    call_later calls now (call_from calls None inputs)
    (subst (AllByRecursion IsPaced) (sym (holds_its_stories calls inputs))
    (all_paced (stories_of calls inputs)))
