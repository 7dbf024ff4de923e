-- Before something is due a tick does nothing, and from then on it does something.
use Rattle.std.proofs.Common.{◌≡◌, ◌≢◌, ℕ, ◌+◌, ◌≤◌, Bool, true, false, not, cond, ◌||◌, List, [], ◌∷◌, ◌++◌, map, length, nat_le, nat_lt, refl, sym, ap, ◌∙◌, arith}
use Rattle.std.specs.Prelude.{Option, None, Some, filter}
use Rattle.std.specs.List.{flat_map, list_any}
use Rattle.std.specs.Option.{option_and_then, option_map, option_map_or}
use Rattle.std.proofs.lemmas.Bool.{true≢false}
use Rattle.std.proofs.lemmas.List.{length-map}
use Rattle.sip_timers.specs.Queue.{is_due}
use Rattle.keyed_machine.specs.Groups.{speaks}
use Rattle.keyed_machine.proofs.Ordered.{by_bool}
use Rattle.arrayvec.specs.ArrayVec.{ArrayVec}
use Rattle.sip_reliable.specs.declared.provisional.Retransmission.{Retransmission as Resending}
use Rattle.sip_reliable.specs.declared.tick.Tick.{Tick}
use Rattle.sip_reliable.specs.declared.tick.Tick.TheVariants as tick
use Rattle.sip_reliable.specs.Provisional.{Provisional, after_repeat, interval_after, is_late, is_repeated, sent_again as once_more}
use Rattle.sip_reliable.specs.Ledger.{Ledger, due_numbers, next_moment, tick_answer}
use Rattle.sip_reliable.proofs.Dues.{is_something, ledger_due, nothing_from as nothing_told}
use Rattle.sip_reliable.proofs.Sounds.{not_longer}
use Rattle.sip_served.specs.declared.held_request.HeldRequest.{HeldRequest}
use Rattle.sip_served.specs.declared.held_request.Success.{Success}
use Rattle.sip_user.specs.declared.item.CallOut.{CallOut}
use Rattle.sip_served.specs.declared.retransmissions.SuccessDue.TheVariants as repeat
use Rattle.sip_served.specs.RequestLife.{went_on}
use Rattle.sip_served.specs.State.{State, ServedTaken, quiet}
use Rattle.sip_served.specs.Tick.{is_kept_at, next_server_due, provisionals_by, provisionals_ticked, provisionals_told, request_due, request_ticked, success_answer, success_goes, success_moment, success_at_tick, success_ticked, success_told, tick_taken}
use Rattle.sip_served.proofs.Dues.{nothing_from, removal_due, removal_kept, request_due_of, requests_due, success_due, success_keeps, success_says}

neither : (x y : Bool) → (x || y) ≡ false → (x ≡ false) × (y ≡ false)
neither true y e = absurd cc
neither false y e = (refl, e)

-- ---- nothing is due

calm_success : (now : ℕ) (held : HeldRequest) (o : Option Success)
    → is_due now (option_and_then success_moment o) ≡ false → success_at_tick now held o
    ≡ (held, [])
calm_success now held None calm = refl
calm_success now held (Some success) calm =
    let nothing : success_answer now success ≡ repeat.Nothing =
    nothing_from (success_answer now success) (sym (success_due now success) ∙ calm) in
    λ i. (
      went_on (success_goes (nothing i) now) held,
      success_told (nothing i) held success.response,
    )

calm_provisionals : (now : ℕ) (held : HeldRequest)
    → is_due now (next_moment held.ledger) ≡ false → provisionals_ticked now held ≡ (held, [])
calm_provisionals now held calm =
    let nothing : tick_answer held.ledger now ≡ tick.Nothing =
    nothing_told (tick_answer held.ledger now) (sym (ledger_due now held.ledger) ∙ calm) in
    λ i. provisionals_by (nothing i) now held

pub calm_request : (now : ℕ) (held : HeldRequest) → is_due now (request_due held) ≡ false
    → request_ticked now held ≡ (held, [])
calm_request now held calm =
    let parts = neither _ _ (sym (request_due_of now held) ∙ calm) in
    let both = neither _ _ parts.0 in
    let first : success_ticked now held ≡ (held, []) =
    calm_success now held held.success both.0 in
    let second : provisionals_ticked now held ≡ (held, []) = calm_provisionals now held both.1 in
    (λ i. (
      (provisionals_ticked now (first i).0).0,
      (first i).1
          ++ (provisionals_ticked now (first i).0).1,
    )) ∙ second

negated : (y : Bool) → not y ≡ false → y ≡ true
negated true e = refl
negated false e = absurd cc

pub calm_kept : (now : ℕ) (held : HeldRequest) → is_due now (request_due held) ≡ false
    → is_kept_at now held ≡ true
calm_kept now held calm =
    let parts = neither _ _ (sym (request_due_of now held) ∙ calm) in
    negated (is_kept_at now held) (removal_due now held.removal ∙ parts.1)

abbrev after_tick : ℕ → List HeldRequest → List HeldRequest
after_tick now requests =
    filter (is_kept_at now) (map (λ held. (request_ticked now held).0) requests)

abbrev said_at : ℕ → List HeldRequest → List CallOut
said_at now requests = flat_map (λ held. (request_ticked now held).1) requests

abbrev both_after : ℕ → List HeldRequest → List HeldRequest × List CallOut
both_after now requests = (after_tick now requests, said_at now requests)

abbrev untouched : List HeldRequest → List HeldRequest × List CallOut
untouched requests = (requests, [])

calm_requests : (now : ℕ) (requests : List HeldRequest)
    → list_any (λ held. is_due now (request_due held)) requests ≡ false
    → both_after now requests ≡ untouched requests
calm_requests now [] calm = refl
calm_requests now (held ∷ requests) calm =
    let parts =
    neither (is_due now (request_due held))
    (list_any (λ held. is_due now (request_due held)) requests) calm in
    let same : request_ticked now held ≡ (held, []) = calm_request now held parts.0 in
    let rest = calm_requests now requests parts.1 in
    (λ i. (
      cond (is_kept_at now (same i).0) ((same i).0 ∷ after_tick now requests)
          (after_tick now requests),
      (same i).1 ++ said_at now requests,
    ))
    ∙ (λ i. (cond (calm_kept now held parts.0 i) (held ∷ (rest i).0) (rest i).0, (rest i).1))

pub quiet_before : (state : State) (now : ℕ) → is_due now (next_server_due state) ≡ false
    → tick_taken state now ≡ quiet state
quiet_before state now calm =
    let same = calm_requests now state.requests (sym (requests_due now state.requests) ∙ calm) in
    λ i. (record state { requests = (same i).0 }, (same i).1)

-- ---- something is due

silent : {O : Type 0} (xs ys : List O) → xs ++ ys ≡ [] → (xs ≡ []) × (ys ≡ [])
silent [] ys e = (refl, e)
silent (x ∷ xs) ys e = absurd cc

due_step : (b rest : Bool) → (b || rest) ≡ true → b ≡ false → rest ≡ true
due_step true rest e f = absurd (true≢false f)
due_step false rest e f = e

-- a response that is due is sent again, so its count differs
other_count : (now : ℕ) (p : Provisional) → is_repeated now p ≡ true → after_repeat now p ≢ p
other_count now p due same = counts p.retransmission due
    (ap (λ q. q.retransmission) (sym (ap (λ b. cond b (once_more now p) p) due) ∙ same))
  where
    again : Resending → Resending
    again r = record { due = now + interval_after (r.repeats + 1); repeats = r.repeats + 1 }

    counts : (o : Option Resending) → option_map_or (λ r. nat_le r.due now) o false ≡ true
        → option_map again o ≡ o → ⊥
    counts None due same = absurd (true≢false (sym due))
    counts (Some r) due same =
        let more : r.repeats + 1 ≡ r.repeats =
        ap (λ o. option_map_or (λ (r : Resending). r.repeats) o 0) same in
        absurd (omega (arith, more))

heads : {X : Type 0} (x y : X) (xs ys : List X) → x ∷ xs ≡ y ∷ ys → (x ≡ y) × (xs ≡ ys)
heads x y xs ys e = (cc, cc)

others_count : (now : ℕ) (ps : List Provisional) → list_any (is_repeated now) ps ≡ true
    → map (after_repeat now) ps ≢ ps
others_count now [] due same = absurd (true≢false (sym due))
others_count now (p ∷ ps) due same =
    let parts = heads (after_repeat now p) p (map (after_repeat now) ps) ps same in
    by_bool (is_repeated now p) (λ its. other_count now p its parts.0)
    (λ others. others_count now ps (due_step (is_repeated now p)
    (list_any (is_repeated now) ps) due others) parts.1)

repeated_by : (closed late repeated : Bool) (due numbers : ArrayVec ℕ)
    → cond closed tick.Nothing (cond late tick.GivenUp
    (cond repeated (tick.Again due) tick.Nothing)) ≡ tick.Again numbers → repeated ≡ true
repeated_by true late repeated due numbers e = absurd cc
repeated_by false true repeated due numbers e = absurd cc
repeated_by false false true due numbers e = refl
repeated_by false false false due numbers e = absurd cc

-- if a tick of a request says nothing but changes its ledger, the ledger differs
by_tick : (t : Tick) (now : ℕ) (held : HeldRequest) → tick_answer held.ledger now ≡ t
    → is_something t ≡ true → provisionals_told t held ≡ []
    → (provisionals_by t now held).0.ledger ≢ held.ledger
by_tick tick.Nothing now held is some says = absurd (true≢false (sym some))
by_tick (tick.Again numbers) now held is some says = λ same.
    others_count now held.ledger.waiting
    (repeated_by held.ledger.closed (list_any (is_late now) held.ledger.waiting)
    (list_any (is_repeated now) held.ledger.waiting)
    record { items = due_numbers now held.ledger.waiting } numbers is)
    (ap (λ (l : Ledger). l.waiting) same)
by_tick tick.GivenUp now held is some says = absurd cc

third : (x y z : Bool) → ((x || y) || z) ≡ true → x ≡ false → z ≡ false → y ≡ true
third true y z due p q = absurd (true≢false p)
third false true z due p q = refl
third false false z due p q = absurd (true≢false (sym due ∙ q))

says_none : {O : Type 0} (xs : List O) → xs ≡ [] → speaks xs ≡ false
says_none xs e = ap speaks e

not_removed : (y : Bool) → y ≡ true → not y ≡ false
not_removed y e = ap not e

-- if something of a request is due, and a tick says nothing and keeps the request, it changes it
changes : (now : ℕ) (held : HeldRequest) → is_due now (request_due held) ≡ true
    → (request_ticked now held).1 ≡ [] → is_kept_at now held ≡ true
    → (request_ticked now held).0 ≢ held
changes now held due says kept = λ same.
    let first = success_ticked now held in
    let keeps = success_keeps now held held.success in
    let parts = silent first.1 (provisionals_ticked now first.0).1 says in
    let calm : is_due now (option_and_then success_moment held.success) ≡ false =
    sym (success_says now held held.success) ∙ says_none first.1 parts.0 in
    let stays : is_due now held.removal ≡ false =
    sym (removal_due now held.removal) ∙ not_removed (is_kept_at now held) kept in
    let its : is_due now (next_moment held.ledger) ≡ true =
    third _ _ _ (sym (request_due_of now held) ∙ due) calm stays in
    let some : is_something (tick_answer (first.0).ledger now) ≡ true =
    sym (ledger_due now (first.0).ledger)
    ∙ ap (λ l. is_due now (next_moment l)) keeps.ledger ∙ its in
    by_tick (tick_answer (first.0).ledger now) now first.0 refl some parts.1
    (ap (λ (h : HeldRequest). h.ledger) same ∙ sym keeps.ledger)

shorter : (now : ℕ) (requests : List HeldRequest)
    → length (after_tick now requests) ≤ length requests
shorter now requests =
    let h = not_longer (is_kept_at now) (map (λ held. (request_ticked now held).0) requests) in
    let g = length-map requests (λ (held : HeldRequest). (request_ticked now held).0) in
    omega (arith, h, g)

-- so if something is due and nothing is said, what is held differs
differs : (now : ℕ) (requests : List HeldRequest)
    → list_any (λ held. is_due now (request_due held)) requests ≡ true → said_at now requests ≡ []
    → after_tick now requests ≢ requests
differs now [] due says same = absurd (true≢false (sym due))
differs now (held ∷ requests) due says same =
    let parts = silent (request_ticked now held).1 (said_at now requests) says in
    let after : HeldRequest = (request_ticked now held).0 in
    let removal : is_kept_at now after ≡ is_kept_at now held =
    ap (λ (o : Option ℕ). option_map_or (λ moment. nat_lt now moment) o true)
    (removal_kept now held) in
    by_bool (is_kept_at now after)
    (λ kept. let both =
    heads after held (after_tick now requests) requests
    (sym (ap (λ b. cond b (after ∷ after_tick now requests) (after_tick now requests)) kept)
    ∙ same) in
    by_bool (is_due now (request_due held))
    (λ its. changes now held its parts.0 (sym removal ∙ kept) both.0)
    (λ others. differs now requests (due_step (is_due now (request_due held))
    (list_any (λ held. is_due now (request_due held)) requests) due others) parts.1 both.1))
    (λ dropped.
    let less = shorter now requests in
    let long : length (after_tick now requests) ≡ length (held ∷ requests) =
    ap (λ (hs : List HeldRequest). length hs)
    (sym (ap (λ b. cond b (after ∷ after_tick now requests) (after_tick now requests)) dropped)
    ∙ same) in
    absurd (omega (arith, less, long)))

pub busy_from : (state : State) (now : ℕ) → is_due now (next_server_due state) ≡ true
    → tick_taken state now ≢ quiet state
busy_from state now due same =
    differs now state.requests (sym (requests_due now state.requests) ∙ due)
    (ap (λ (taken : ServedTaken). taken.1) same) (ap (λ (taken : ServedTaken). (taken.0).requests)
    same)
