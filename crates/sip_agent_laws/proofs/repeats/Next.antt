-- When a response goes out next, after a tick.
use Rattle.std.proofs.Common.{◌≡◌, ℕ, Bool, true, false, not, ◌&&◌, cond, List, [], ◌∷◌, map, nat_le, nat_lt, refl, ap, ◌∙◌}
use Rattle.std.specs.Prelude.{Option, None, Some, is_none}
use Rattle.std.specs.List.{list_any}
use Rattle.std.specs.Option.{option_map, option_map_or}
use Rattle.std.proofs.lemmas.Bool.{false≢true, true≢false}
use Rattle.keyed_machine.proofs.Ordered.{by_bool}
use Rattle.sip_reliable.specs.Ledger.{Ledger}
use Rattle.sip_reliable.specs.Provisional.{is_late}
use Rattle.sip_user.specs.declared.item.CallOut.{CallOut}
use Rattle.sip_served.specs.declared.held_request.HeldRequest.{HeldRequest}
use Rattle.sip_served.specs.declared.held_request.Retransmission.{Retransmission}
use Rattle.sip_served.specs.declared.held_request.Success.{Success}
use Rattle.sip_served.specs.Rules.Ticks.{provisionals_tick, server_tick, success_at}
use Rattle.sip_calls.specs.declared.call.Call.{Call}
use Rattle.sip_calls.specs.declared.calls.Calls.{Calls}
use Rattle.sip_calls.specs.Call.{call_step, call_tick}
use Rattle.sip_calls.specs.HeldRequests.{requests_held}
use Rattle.sip_calls.proofs.HeldRequests.{kept_requests}
use Rattle.sip_agent_laws.specs.Calls.InTime.{has_come}
use Rattle.sip_agent_laws.proofs.calls.ServedBounds.{ticked}
use Rattle.sip_agent_laws.specs.Repeats.Next.{ProvisionalsNext, SuccessesNext, left_at, provisionals_next, success_next}
use Rattle.sip_agent_laws.proofs.calls.InTime.{later_same, left}
use Rattle.sip_agent_laws.proofs.repeats.Repeats.{ended, due, not_due}

-- ---- what is left

module _ {X : Type 0} (now : ℕ) (after before : HeldRequest → X)
    (one : (held : HeldRequest) → after (ticked now held) ≡ before held) where
  each_left : (requests : List HeldRequest)
      → map after (left now requests) ≡ map before (left_at now requests)
  each_left [] = refl
  each_left (held ∷ requests) =
      by_kept (not (has_come now held.removal))
      (option_map_or (λ moment. nat_lt now moment) held.removal true)
      (later_same now held.removal) (each_left requests)
    where
      by_kept : (b c : Bool) → c ≡ b
          → map after (left now requests) ≡ map before (left_at now requests)
          → map after (cond c (ticked now held ∷ left now requests) (left now requests))
          ≡ map before (cond b (held ∷ left_at now requests) (left_at now requests))
      by_kept true true same later = λ i. one held i ∷ later i
      by_kept true false same later = absurd (false≢true same)
      by_kept false true same later = absurd (true≢false same)
      by_kept false false same later = later

  next_so : (calls : Calls) (call : Call)
      → map after (requests_held (call_step calls (Some call) None now).0)
      ≡ map before (left_at now (call.served).requests)
  unfolding server_tick
  next_so calls call =
      ap (map after) (kept_requests (call_tick call now).0) ∙ each_left (call.served).requests

-- ---- the 2xx

module _ (now : ℕ) (held : HeldRequest) where
  abbrev moment_of : Option Success → Option Retransmission
  moment_of o = option_map (λ (success : Success). success.retransmission) o

  success_so : (o : Option Success)
      → moment_of (option_map_or (success_at now held) o (None, [])).0
      ≡ option_map (success_next now) o
  success_so None = refl
  success_so (Some success) =
      by_bool (is_none success.over && nat_le success.end now)
      (λ e. rw (e, ended now success e) refl)
      (λ e. by_bool (is_none success.over && nat_le success.retransmission.due now)
      (λ f. rw (e, f, due now success e f) refl) (λ f. rw (e, f, not_due now success f) refl))

  -- ---- the reliable provisional responses

  by_case : (closed late : Bool) (l1 l2 l3 : Ledger) (o1 o2 o3 : List CallOut)
      → (cond {A = Ledger × List CallOut} closed (l1, o1) (cond late (l2, o2) (l3, o3))).0.waiting
      ≡ cond closed l1.waiting (cond late l2.waiting l3.waiting)
  by_case true late l1 l2 l3 o1 o2 o3 = refl
  by_case false true l1 l2 l3 o1 o2 o3 = refl
  by_case false false l1 l2 l3 o1 o2 o3 = refl

  provisionals_so : ((provisionals_tick now held).0).waiting ≡ provisionals_next now held
  provisionals_so =
      by_case held.ledger.closed (list_any (is_late now) held.ledger.waiting) _ _ _ _ _ _

-- ---- all of them

pub successes_next : SuccessesNext
successes_next calls call now =
    next_so now (λ held. option_map (λ (success : Success). success.retransmission) held.success)
    (λ held. option_map (success_next now) held.success) (λ held. success_so now held held.success)
    calls call

pub provisionals_next_so : ProvisionalsNext
provisionals_next_so calls call now =
    next_so now (λ held. held.ledger.waiting) (provisionals_next now) (provisionals_so now) calls
    call
