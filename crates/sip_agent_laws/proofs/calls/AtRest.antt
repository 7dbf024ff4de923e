-- 64*T1 after the last message or command a call is at rest, and stays so; at rest with nothing that
-- waits it isn't held.
use Rattle.std.proofs.Common.{◌≡◌, ◌≤◌, ℕ, ◌+◌, ◌*◌, Bool, true, false, not, ◌&&◌, ◌||◌, ◌==◌, cond, List, [], ◌∷◌, ◌++◌, length, nat_le, nat_lt, refl, sym, ap, subst, ◌∙◌, arith}
use Rattle.std.specs.Prelude.{Option, None, Some, fold, is_none, is_some, if◌then◌else◌}
use Rattle.std.specs.List.{AllByRecursion, list_any}
use Rattle.std.specs.Map.{values_of}
use Rattle.std.specs.Option.{option_map_or}
use Rattle.std.proofs.lemmas.Bool.{false≢true, true≢false}
use Rattle.std.proofs.lemmas.Grind.{common_steps}
use Rattle.keyed_machine.specs.Machine.{Timed}
use Rattle.keyed_machine.proofs.Ordered.{by_bool}
use Rattle.sip_message.specs.declared.id.Id.{Id}
use Rattle.sip_timers.specs.declared.estimate.TheConstants.{LIFETIME, T1}
use Rattle.sip_timers.specs.Earlier.{earlier}
use Rattle.sip_timers.specs.Queue.{is_due}
use Rattle.sip_transactions.specs.declared.output.UpKind.{UpKind}
use Rattle.sip_transactions.specs.declared.output.UpKind.TheVariants as kind
use Rattle.sip_transactions.specs.declared.output.Up.{Up as AnUp}
use Rattle.sip_user.specs.declared.item.Item.TheVariants.{Up, User}
use Rattle.sip_held_dialogs.specs.declared.held_dialog.DialogId.{DialogId}
use Rattle.sip_held_dialogs.specs.Dialogs.{Dialogs, dialog_at}
use Rattle.sip_held_dialogs.specs.Ids.{is_id}
use Rattle.sip_held_dialogs.proofs.Each.{each_but_one}
use Rattle.sip_held_dialogs.proofs.Heard.{id_laws, name_laws}
use Rattle.sip_served.specs.declared.held_request.HeldRequest.{HeldRequest}
use Rattle.sip_served.specs.State.{has_id}
use Rattle.sip_clients.specs.declared.client.Client.{Client}
use Rattle.sip_clients.specs.Client.{Clients, Side}
use Rattle.sip_clients.specs.Rules.Ends.{client_tick, request_is_lost}
use Rattle.sip_clients.specs.Rules.Requests.{is_invite_kind}
use Rattle.sip_clients.specs.Tick.{clients_left, is_over, next_removal}
use Rattle.sip_clients.specs.declared.event.Event.{Event}
use Rattle.sip_calls.specs.declared.call.Call.{Call}
use Rattle.sip_calls.specs.declared.calls.Calls.{Calls}
use Rattle.sip_calls.specs.Call.{Taken, CallItem, call_due, call_step, call_tick, event_of, kept, kept_call, new_call, received}
use Rattle.sip_calls.specs.HeldRequests.{requests_held}
use Rattle.sip_calls.specs.Histories.{call_from}
use Rattle.sip_calls.specs.Idle.{call_ticks_are_idle, same_due}
use Rattle.sip_calls.specs.Provisionals.{side_held}
use Rattle.sip_calls.specs.Sides.{holds_any, side_of}
use Rattle.sip_calls.specs.Steps.Call.{next_due}
use Rattle.sip_calls.proofs.HeldRequests.{kept_requests, requests_of}
use Rattle.sip_calls.proofs.KeptSides.{kept_side}
use Rattle.sip_agent_laws.specs.Calls.Rest.{AtRestAfterAll, IsAtRest, NothingLeft, Rests, is_from_outside, is_message, is_tick_from}
use Rattle.sip_agent_laws.specs.Calls.Waiting.{InDialog, OfPeer, OurInvite}
use Rattle.sip_agent_laws.proofs.calls.CallBounds.{AreSet, from_set, none_set, step_set}
use Rattle.sip_agent_laws.proofs.calls.ServedBounds.{IsStill, IsWithin, none_due, stills}

-- ---- what is at rest

abbrev NoRemoval : Client → Type 0
NoRemoval client = client.removal ≡ None

abbrev NoRemovals : Clients → Type 0
NoRemovals clients = AllByRecursion (λ (entry : Id × Client). NoRemoval entry.1) clients

no_removal : (clients : Clients) → NoRemovals clients → next_removal clients ≡ None
no_removal [] all = refl
no_removal (entry ∷ clients) all =
    (λ i. fold (λ due (client : Client). earlier due client.removal) (all.0 i) (values_of clients))
    ∙ no_removal clients all.1

removals : (requests : List HeldRequest) → AllByRecursion IsStill requests
    → AllByRecursion (λ (held : HeldRequest). held.removal ≡ None) requests
removals [] all = tt
removals (held ∷ requests) all = (all.0.removal, removals requests all.1)

-- the same of an optional call, with what follows from it
record AreStill (state : Option Call) : Type 0 where
  pub requests : AllByRecursion IsStill (requests_held state)
  pub clients : NoRemovals (side_held state).clients
  pub rests : IsAtRest state

none_still : AreStill None
none_still = record { requests = tt; clients = tt; rests = tt }

rests_of : (call : Call) → AllByRecursion IsStill (requests_of call) → NoRemovals call.clients
    → holds_any call ≡ true → Rests call
rests_of call requests clients some = record {
  due = same_due call
      ∙ ap (λ b. if b then next_due call else Some 0) some
      ∙ (λ i. earlier (none_due (requests_of call) requests i)
      (no_removal call.clients clients i));
  requests = removals (requests_of call) requests;
  clients = clients;
}

kept_still : (call : Call) → AllByRecursion IsStill (requests_of call) → NoRemovals call.clients
    → AreStill (kept_call call)
kept_still call requests clients = record {
  requests = subst (AllByRecursion IsStill) (sym (kept_requests call)) requests;
  clients = subst (λ (side : Side). NoRemovals side.clients) (sym (kept_side call)) clients;
  rests = by_bool (holds_any call)
      (λ some. subst (λ b. IsAtRest (if b then Some call else None)) (sym some)
      (rests_of call requests clients some))
      (λ none. subst (λ b. IsAtRest (if b then Some call else None)) (sym none) tt);
}

-- ---- a tick at the end or later

late_client : (m now : ℕ) → m + LIFETIME ≤ now → (client : Client) → IsWithin m client.removal
    → not (is_over now client) ≡ true → NoRemoval client
late_client m now late client within left = by_end client.removal within left
  where
    past : (end : ℕ) → end ≤ m + LIFETIME → not (nat_le end now) ≡ true → ⊥
    past end within later = grind (arith, common_steps)

    by_end : (o : Option ℕ) → IsWithin m o
        → not (option_map_or (λ moment. nat_le moment now) o false) ≡ true → o ≡ None
    by_end None within left = refl
    by_end (Some end) within left = absurd (past end within left)

late_clients : (m now : ℕ) → m + LIFETIME ≤ now → (clients : Clients)
    → AllByRecursion (λ (entry : Id × Client). IsWithin m entry.1.removal) clients
    → NoRemovals (clients_left now clients)
late_clients m now late [] all = tt
late_clients m now late (entry ∷ clients) all =
    by_left (not (is_over now entry.1)) refl (late_clients m now late clients all.1)
  where
    by_left : (b : Bool) → not (is_over now entry.1) ≡ b → NoRemovals (clients_left now clients)
        → NoRemovals (cond b (entry ∷ clients_left now clients) (clients_left now clients))
    by_left true left rest = (late_client m now late entry.1 all.0 left, rest)
    by_left false left rest = rest

tick_clients : (call : Call) (now : ℕ)
    → ((call_tick call now).0).clients ≡ clients_left now call.clients
unfolding client_tick
tick_clients call now = refl

tick_stills : (calls : Calls) (m now : ℕ) (state : Option Call) → m + LIFETIME ≤ now
    → AreSet m state → AreStill (call_step calls state None now).0
tick_stills calls m now None late set = none_still
tick_stills calls m now (Some call) late set =
    kept_still (call_tick call now).0 (stills m now call.served late set.requests)
    (subst NoRemovals (sym (tick_clients call now))
    (late_clients m now late call.clients set.clients))

-- ---- ticks and reports afterwards

lost_still : (call : Call) (id : Id) (timed_out : Bool) → NoRemovals call.clients
    → NoRemovals ((request_is_lost id timed_out (side_of call)).0).clients
unfolding request_is_lost
lost_still call id timed_out all = each_but_one NoRemoval (is_id id) call.clients all

up_still : (call : Call) (event : Event) (up : AnUp) (k : UpKind) → is_message k ≡ false
    → AllByRecursion IsStill (requests_of call) → NoRemovals call.clients
    → AreStill (kept (received call event up k)).0
up_still call event up kind.Timeout inside requests clients =
    kept_still (received call event up kind.Timeout).0 requests
    (lost_still call up.id true clients)
up_still call event up kind.Failed inside requests clients =
    kept_still (received call event up kind.Failed).0 requests
    (lost_still call up.id false clients)
up_still call event up _ inside requests clients =
    absurd (true≢false inside)

stays_still : (calls : Calls) (state : Option Call) (input : Option CallItem) (now : ℕ)
    → is_from_outside input ≡ false → AreStill state
    → AreStill (call_step calls state input now).0
stays_still calls None None now inside still = none_still
stays_still calls (Some call) None now inside still =
    subst (λ (taken : Taken). AreStill taken.0)
    (sym (call_ticks_are_idle calls now [] (Some call)
    (ap (is_due now) (still.rests).due))) still
stays_still calls None (Some (id, Up up)) now inside still =
    up_still (new_call calls.local) (event_of calls id now) up up.kind inside tt tt
stays_still calls (Some call) (Some (id, Up up)) now inside still =
    up_still call (event_of calls id now) up up.kind inside still.requests still.clients
stays_still calls state (Some (id, User command)) now inside still = absurd (true≢false inside)

-- ---- all inputs

pub from_both : (calls : Calls) (first second : List (Timed CallItem)) (state : Option Call)
    → call_from calls state (first ++ second)
    ≡ call_from calls (call_from calls state first) second
from_both calls [] second state = refl
from_both calls (input ∷ first) second state =
    from_both calls first second (call_step calls state input.input input.moment).0

stay_still : (calls : Calls) (inputs : List (Timed CallItem)) (state : Option Call)
    → AllByRecursion (λ (timed : Timed CallItem). is_from_outside timed.input ≡ false) inputs
    → AreStill state → AreStill (call_from calls state inputs)
stay_still calls [] state inside still = still
stay_still calls (input ∷ inputs) state inside still =
    stay_still calls inputs (call_step calls state input.input input.moment).0 inside.1
    (stays_still calls state input.input input.moment inside.0 still)

never : (b : Bool) → b ≡ false → b ≡ true → ⊥
never b false_is true_is = absurd (true≢false (sym true_is ∙ false_is))

tick_or_less : (calls : Calls) (m now : ℕ) (state : Option Call) (input : Option CallItem)
    → (is_none input && nat_le (m + 64 * T1) now) ≡ true → AreSet m state
    → AreStill (call_step calls state input now).0
tick_or_less calls m now state None late all = tick_stills calls m now state (in_time m now late) all
  where
    in_time : (m now : ℕ) → nat_le (m + 64 * T1) now ≡ true → m + LIFETIME ≤ now
    in_time m now late = grind (arith, common_steps)
tick_or_less calls m now state (Some item) late all = absurd (false≢true late)

or_later : (x y : Bool) → (x || y) ≡ true → x ≡ false → y ≡ true
or_later true y e early = absurd (true≢false early)
or_later false y e early = e

from_still : (calls : Calls) (m : ℕ) (inputs : List (Timed CallItem)) (state : Option Call)
    → AllByRecursion (λ (timed : Timed CallItem). is_from_outside timed.input ≡ false) inputs
    → list_any (is_tick_from (m + 64 * T1)) inputs ≡ true → AreSet m state
    → AreStill (call_from calls state inputs)
from_still calls m [] state inside ticks all = absurd (false≢true ticks)
from_still calls m (input ∷ inputs) state inside ticks all =
    let next = (call_step calls state input.input input.moment).0 in
    by_bool (is_tick_from (m + 64 * T1) input)
    (λ late. stay_still calls inputs next inside.1
    (tick_or_less calls m input.moment state input.input late all))
    (λ early. from_still calls m inputs next inside.1
    (or_later (is_tick_from (m + 64 * T1) input)
    (list_any (is_tick_from (m + 64 * T1)) inputs) ticks early)
    (step_set m calls state input.input input.moment
    (λ outside. absurd (never (is_from_outside input.input) inside.0 outside)) all))

pub at_rest_after_all : AtRestAfterAll
at_rest_after_all calls m before after over =
    subst IsAtRest (sym (from_both calls before after None))
    (from_still calls m after (call_from calls None before) over.none over.ticked
    (from_set m calls before None over.by (none_set m))).rests

-- ---- nothing is left

no_requests : (requests : List HeldRequest)
    → AllByRecursion (λ (held : HeldRequest). held.removal ≡ None) requests
    → ((id : Id) → list_any (λ held. has_id id held && is_none held.removal) requests ≡ false)
    → requests ≡ []
no_requests [] lacks none = refl
no_requests (held ∷ requests) lacks none =
    let first : (is_id held.id held.id && is_none held.removal) ≡ true =
    λ i. id_laws.refl held.id i && is_none (lacks.0 i) in
    absurd (taken first (list_any (λ one. has_id held.id one && is_none one.removal) requests)
    (none held.id))
  where
    taken : {b : Bool} → b ≡ true → (rest : Bool) → (b || rest) ≡ false → ⊥
    taken {b} first rest none = absurd (true≢false (sym (ap (λ c. c || rest) first) ∙ none))

no_dialogs : (dialogs : Dialogs)
    → ((name : DialogId) → is_some (dialog_at name dialogs) ≡ false) → dialogs ≡ []
no_dialogs [] none = refl
no_dialogs ((name, held) ∷ dialogs) none =
    absurd (true≢false (sym (ap (λ b. is_some (cond b (Some held) (dialog_at name dialogs)))
    (name_laws.refl name)) ∙ none name))

no_clients : (clients : Clients) → NoRemovals clients
    → ((id : Id) → list_any (λ (entry : Id × Client).
    is_id id entry.0 && (is_invite_kind entry.1.kind && is_none entry.1.removal)) clients ≡ false)
    → list_any (λ (client : Client). not (is_invite_kind client.kind)) (values_of clients) ≡ false
    → clients ≡ []
no_clients [] lacks none reports = refl
no_clients (entry ∷ clients) lacks none reports =
    absurd (by_kind (is_invite_kind entry.1.kind) refl)
  where
    rest : Bool
    rest = list_any (λ (other : Id × Client). is_id entry.0 other.0
        && (is_invite_kind other.1.kind && is_none other.1.removal)) clients

    by_kind : (b : Bool) → is_invite_kind entry.1.kind ≡ b → ⊥
    by_kind true is =
        absurd (true≢false (sym (λ i. (id_laws.refl entry.0 i && (is i && is_none (lacks.0 i))) || rest)
        ∙ none entry.0))
    by_kind false is =
        absurd (true≢false (sym (ap (λ b. not b
        || list_any (λ (client : Client). not (is_invite_kind client.kind)) (values_of clients)) is)
        ∙ reports))

held_due : (call : Call) → (call.served).requests ≡ [] → (call.served).dialogs ≡ []
    → call.clients ≡ [] → call_due call ≡ Some 0
held_due call requests dialogs clients =
    same_due call
    ∙ (λ i. if (nat_lt 0 (length (requests i)) || nat_lt 0 (length (dialogs i)))
    || not (length (clients i) == 0)
    then next_due call else Some 0)

pub nothing_left : NothingLeft
nothing_left None rests none reports = refl
nothing_left (Some call) rests none reports =
    let requests = no_requests (call.served).requests rests.requests (λ id. none (OfPeer id)) in
    let dialogs = no_dialogs (call.served).dialogs (λ name. none (InDialog name)) in
    let clients = no_clients call.clients rests.clients (λ id. none (OurInvite id)) reports in
    absurd (some (sym (held_due call requests dialogs clients) ∙ rests.due))
  where
    some : ◌≡◌ {A = Option ℕ} (Some 0) None → ⊥
    some e = absurd cc
