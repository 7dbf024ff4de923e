-- If nothing of a call is due, a tick does nothing.
use Rattle.std.proofs.Common.{◌≡◌, ℕ, Bool, true, false, ◌||◌, List, [], ◌++◌, refl, sym, ◌∙◌, ap, arith}
use Rattle.std.specs.Prelude.{None, Some, if◌then◌else◌}
use Rattle.std.proofs.lemmas.Grind.{common_steps}
use Rattle.std.proofs.lemmas.Bool.{true≢false}
use Rattle.keyed_machine.specs.Machine.{IsIdle, tick_at}
use Rattle.keyed_machine.proofs.Ordered.{by_bool}
use Rattle.sip_timers.specs.Queue.{is_due}
use Rattle.sip_served.specs.Tick as served
use Rattle.sip_served.specs.State.{ServedTaken}
use Rattle.sip_served.proofs.QuietBeforeDue.{quiet_before}
use Rattle.sip_served.proofs.TickRules.{due_same, tick_same as server_same}
use Rattle.sip_timers.specs.Earlier.{earlier}
use Rattle.sip_held_dialogs.proofs.Dues.{earlier_due}
use Rattle.sip_clients.specs.Tick as clients
use Rattle.sip_clients.specs.Client.{ClientTaken}
use Rattle.sip_clients.specs.Rules.Ends.{client_due, client_tick as clients_rule}
use Rattle.sip_clients.proofs.QuietBeforeDue.{clients_quiet_before}
use Rattle.sip_clients.proofs.RuleEnds.{removal_same, tick_same as client_same}
use Rattle.sip_calls.specs.declared.call.Call.{Call}
use Rattle.sip_calls.specs.declared.calls.Calls.{Calls}
use Rattle.sip_calls.specs.Call.{call_due, call_machine, call_tick, kept_call}
use Rattle.sip_calls.specs.Sides.{CallTaken, by_clients, by_server, holds_any, side_of}
use Rattle.sip_calls.specs.Steps.Call.{due_taken, next_due, ticked}

-- a tick: the rules say the same as the steps of the code
pub same_tick : (call : Call) (now : ℕ) → call_tick call now ≡ ticked call now
same_tick call now =
    let after : CallTaken = by_server call (served.tick_taken call.served now) in
    ap (λ (taken : ServedTaken). let first = by_server call taken in
    let second = by_clients first.0 (clients_rule (side_of first.0) now) in
    (second.0, first.1 ++ second.1)) (server_same call.served now)
    ∙ ap (λ (taken : ClientTaken). let second = by_clients after.0 taken in
    (second.0, after.1 ++ second.1)) (client_same (side_of after.0) now)

pub same_due : (call : Call) → call_due call ≡ due_taken call
same_due call =
    ap (λ due. if holds_any call then earlier due (client_due call.clients) else Some 0)
    (due_same call.served)
    ∙ ap (λ due. if holds_any call then earlier (served.next_server_due call.served) due else Some
    0)
    (removal_same call.clients)

due_at_once : (now : ℕ) → is_due now (Some 0) ≡ true
due_at_once now = grind (arith, common_steps)

neither : (x y : Bool) → (x || y) ≡ false → (x ≡ false) × (y ≡ false)
neither true y e = absurd cc
neither false y e = (refl, e)

-- a call of which nothing is due
calm_tick : (now : ℕ) (call : Call) → is_due now (next_due call) ≡ false
    → ticked call now ≡ (call, [])
calm_tick now call calm =
    let parts = neither _ _ (sym (earlier_due now (served.next_server_due call.served)
    (clients.next_removal call.clients)) ∙ calm) in
    let first : by_server call (served.tick_taken call.served now) ≡ (call, []) =
    ap (by_server call) (quiet_before call.served now parts.0) in
    let second : by_clients call (clients.clients_ticked (side_of call) now) ≡ (call, []) =
    ap (by_clients call) (clients_quiet_before (side_of call) now parts.1) in
    (λ i. let done : CallTaken = first i in (
      (by_clients done.0 (clients.clients_ticked (side_of done.0) now)).0,
      done.1
          ++ (by_clients done.0 (clients.clients_ticked (side_of done.0) now)).1,
    ))
    ∙ second

-- a call that holds something, of which nothing is due
held_is_calm : (calls : Calls) (now : ℕ) (key : List ℕ) (call : Call) → holds_any call ≡ true
    → is_due now (call_due call) ≡ false
    → (call_machine calls).step key (Some call) (tick_at now) ≡ (Some call, [])
held_is_calm calls now key call some calm =
    let later : is_due now (next_due call) ≡ false =
    sym (ap (λ b. is_due now (if b then next_due call else Some 0)) some)
    ∙ ap (is_due now) (sym (same_due call)) ∙ calm in
    ap (λ (taken : CallTaken). (kept_call taken.0, taken.1))
    (same_tick call now ∙ calm_tick now call later)
    ∙ (λ i. (if some i then Some call else None, []))

pub call_ticks_are_idle : (calls : Calls) (now : ℕ)
    → IsIdle (call_machine calls) call_due now (tick_at now)
call_ticks_are_idle calls now key None calm = refl
call_ticks_are_idle calls now key (Some call) calm =
    by_bool (holds_any call) (λ some. held_is_calm calls now key call some calm)
    (λ none. absurd (true≢false (sym
    (ap (is_due now) (same_due call)
    ∙ ap (λ b. is_due now (if b then next_due call else Some 0)) none ∙ due_at_once now)
    ∙ calm)))
