-- What a held request of the peer is due by: if messages and commands came by a moment, all its
-- timers end 64*T1 after it.
use Rattle.std.proofs.Common.{◌≡◌, ◌≤◌, ℕ, ◌+◌, Bool, true, false, not, ◌&&◌, ◌||◌, ◌==◌, cond, List, [], ◌∷◌, map, refl, sym, ap, ◌∙◌, arith}
use Rattle.std.specs.Prelude.{Option, None, Some, find, filter, fold, is_none, is_some, nat_le, nat_lt, reverse, if◌then◌else◌}
use Rattle.std.specs.List.{AllByRecursion, list_any}
use Rattle.std.specs.Option.{option_map, option_map_or, option_and_then}
use Rattle.std.proofs.lemmas.Bool.{true≢false, or_parts}
use Rattle.std.proofs.lemmas.Grind.{common_steps}
use Rattle.keyed_machine.proofs.Ordered.{by_bool}
use Rattle.sip_message.specs.declared.id.Id.{Id}
use Rattle.sip_message.specs.declared.message.Message.{Message}
use Rattle.sip_message.specs.declared.rack.RAck.{RAck}
use Rattle.sip_timers.specs.declared.estimate.TheConstants.{LIFETIME}
use Rattle.sip_timers.specs.Earlier.{earlier}
use Rattle.sip_reliable.specs.declared.send_fault.SendFault.{SendFault}
use Rattle.sip_reliable.specs.Provisional.{Provisional, after_repeat, given_up, is_late, is_repeated}
use Rattle.sip_reliable.specs.Ledger.{Ledger, first_moment, next_moment, ok_unless, send_fault}
use Rattle.sip_transactions.specs.declared.output.UpKind.{UpKind}
use Rattle.sip_transactions.specs.declared.output.UpKind.TheVariants.{Request, Ack}
use Rattle.sip_transactions.specs.declared.output.Up.{Up}
use Rattle.sip_user.specs.declared.command.Respond.{Respond as Answer}
use Rattle.sip_user.specs.declared.refusal.Refusal.{Refusal}
use Rattle.sip_held_dialogs.specs.declared.held_dialog.DialogId.{DialogId}
use Rattle.sip_held_dialogs.specs.declared.held_dialog.HeldDialog.{HeldDialog}
use Rattle.sip_held_dialogs.specs.Dialogs.{dialog_at, dialog_changed}
use Rattle.sip_held_dialogs.specs.Requests.{dialog_id_of, has_to_tag, is_bye, is_cancel, is_final, is_invite, is_prack, is_unknown_option, local_tag_of}
use Rattle.sip_held_dialogs.proofs.Each as each
use Rattle.sip_served.specs.declared.arrival.Arrival.{Arrival}
use Rattle.sip_served.specs.declared.held_request.HeldRequest.{HeldRequest}
use Rattle.sip_served.specs.declared.held_request.Success.{Success}
use Rattle.sip_served.specs.RequestLife.{RequestHappening, Finishes, GivesUpProvisionals, MakesDialog, RepeatsProvisionals, SendsReliably, TakesPrack, request_happened, went_on}
use Rattle.sip_served.specs.Respond.{after_answer, answers, by_refusal, by_request, is_sent_reliably, makes_dialog, refusal_for, respond_taken, sends_as, with_dialog}
use Rattle.sip_served.specs.Rules.Arrivals.{ack_for, ack_received, after_487, after_ack, after_prack, after_request, awaits, cancel_for, is_above, is_merged, is_named_by, is_same_branch, no_such_call, prack_for, prack_received, request_for_user, request_in_dialog, request_received, server_received}
use Rattle.sip_served.specs.Rules.Ticks.{provisionals_tick, server_tick, success_at, success_tick}
use Rattle.sip_served.specs.State.{State, ServedTaken, has_id}
use Rattle.sip_served.specs.Tick.{is_kept_at, next_due_of, request_due, success_moment}
use Rattle.sip_served.proofs.FirstChanged.{first_changed}
use Rattle.sip_agent_laws.specs.Calls.Rest.{is_message}

-- ---- one request

-- an end, if there is one, is 64*T1 after the moment at the latest
abbrev pub IsWithin : ℕ → Option ℕ → Type 0
IsWithin m None = Unit {0}
IsWithin m (Some end) = end ≤ m + LIFETIME

abbrev pub AreSent : ℕ → Ledger → Type 0
AreSent m ledger = AllByRecursion (λ (p : Provisional). p.sent ≤ m) ledger.waiting

-- its final response went out by the moment, and so did the responses that wait for their PRACK; it
-- has no 2xx without a final response
pub record IsSet (m : ℕ) (held : HeldRequest) : Type 0 where
  pub removal : IsWithin m held.removal
  pub success : held.removal ≡ None → held.success ≡ None
  pub sent : AreSent m held.ledger

-- what happens, happens by the moment
abbrev By : ℕ → RequestHappening → Type 0
By m (SendsReliably number response now) = now ≤ m
By m (Finishes response status now) = now ≤ m
By m _ = Unit {0}

repeated_sent : (m now : ℕ) (p : Provisional) → p.sent ≤ m → (after_repeat now p).sent ≤ m
repeated_sent m now p by = by_bool (is_repeated now p) (λ e. rw e by) (λ e. rw e by)

no_more : (f : Success → Success) (held : HeldRequest) → (held.removal ≡ None
    → held.success ≡ None) → held.removal ≡ None → option_map f held.success ≡ None
no_more f held none lacks = ap (option_map f) (none lacks)

later : (m now : ℕ) → now ≤ m → now + LIFETIME ≤ m + LIFETIME
later m now by = omega arith

some_end : (end : ℕ) → Some end ≡ None → ⊥
some_end end e = absurd cc

happened_set : (m : ℕ) (held : HeldRequest) (h : RequestHappening) → By m h → IsSet m held
    → IsSet m (request_happened held h)
happened_set m held (MakesDialog life) by set =
    record { removal = set.removal; success = set.success; sent = set.sent }
happened_set m held (SendsReliably number response now) by set =
    record {
      removal = set.removal;
      success = set.success;
      sent = each.both (λ (p : Provisional). p.sent ≤ m) held.ledger.waiting _ set.sent (by, tt);
    }
happened_set m held (TakesPrack number) by set =
    record {
      removal = set.removal;
      success = set.success;
      sent = each.filtered (λ (p : Provisional). p.sent ≤ m) (λ p. not (p.number == number))
          held.ledger.waiting set.sent;
    }
happened_set m held (RepeatsProvisionals numbers now) by set =
    record {
      removal = set.removal;
      success = set.success;
      sent = each.mapped (λ (p : Provisional). p.sent ≤ m) (λ (p : Provisional). p.sent ≤ m)
          (after_repeat now) (repeated_sent m now) held.ledger.waiting set.sent;
    }
happened_set m held (GivesUpProvisionals now) by set =
    record {
      removal = set.removal;
      success = set.success;
      sent = each.mapped (λ (p : Provisional). p.sent ≤ m) (λ (p : Provisional). p.sent ≤ m)
          given_up (λ p sent. sent) held.ledger.waiting set.sent;
    }
happened_set m held (Finishes response status now) by set =
    record {
      removal = later m now by;
      success = λ lacks. absurd (some_end (now + LIFETIME) lacks);
      sent = set.sent;
    }
happened_set m held _ by set =
    record {
      removal = set.removal;
      success = no_more _ held set.success;
      sent = set.sent;
    }

went_set : (m : ℕ) (life : List RequestHappening) (held : HeldRequest)
    → AllByRecursion (By m) life → IsSet m held → IsSet m (went_on life held)
went_set m [] held by set = set
went_set m (h ∷ life) held by set =
    went_set m life (request_happened held h) by.1 (happened_set m held h by.0 set)

-- ---- an answer

answers_by : (m : ℕ) (held : HeldRequest) (r : Answer) (response : Message) (now : ℕ) → now ≤ m
    → AllByRecursion (By m) (answers held r.status r.reliability response now)
answers_by m held r response now by =
    by_two (is_sent_reliably held r.status r.reliability) (is_final r.status)
  where
    by_fault : (o : Option SendFault)
        → AllByRecursion (By m) (sends_as (ok_unless o held.ledger.next) response now)
    by_fault None = (by, tt)
    by_fault (Some fault) = tt

    by_two : (reliable final : Bool) → AllByRecursion (By m) (cond reliable
        (sends_as (ok_unless (send_fault held.ledger) held.ledger.next) response now)
        (cond final (Finishes response r.status now ∷ []) []))
    by_two true final = by_fault (send_fault held.ledger)
    by_two false true = (by, tt)
    by_two false false = tt

dialog_set : (m : ℕ) (event : Id) (r : Answer) (held : HeldRequest) → IsSet m held
    → IsSet m (with_dialog event r.status held)
dialog_set m event r held set =
    elim (makes_dialog held r.status) as (λ b. IsSet m (went_on (cond b (MakesDialog record {
      name = dialog_id_of held.request held.tag;
      created_by = event;
    } ∷ []) []) held)) [
      | true ↦ happened_set m held (MakesDialog _) tt set
      | false ↦ set
    ]

answer_set : (m : ℕ) (event : Id) (r : Answer) (response : Message) (now : ℕ) (held : HeldRequest)
    → now ≤ m → IsSet m held → IsSet m (after_answer event r response now held)
answer_set m event r response now held by set =
    let made = with_dialog event r.status held in
    went_set m (answers made r.status r.reliability response now) made
    (answers_by m made r response now by) (dialog_set m event r held set)

-- ---- a tick

-- a request after a tick, unless it is removed
abbrev pub ticked : ℕ → HeldRequest → HeldRequest
ticked now held = record held {
  ledger = (provisionals_tick now held).0;
  success = (success_tick now held).0;
}

waiting_set : (m now : ℕ) (held : HeldRequest) → AreSent m held.ledger
    → AreSent m (provisionals_tick now held).0
waiting_set m now held sent =
    by_bool held.ledger.closed (λ e. rw e sent)
    (λ e. by_bool (list_any (is_late now) held.ledger.waiting)
    (λ f. rw (e, f) (each.mapped (λ (p : Provisional). p.sent ≤ m)
    (λ (p : Provisional). p.sent ≤ m) given_up (λ p sent. sent) held.ledger.waiting sent))
    (λ f. rw (e, f) (each.mapped (λ (p : Provisional). p.sent ≤ m)
    (λ (p : Provisional). p.sent ≤ m) (after_repeat now) (repeated_sent m now)
    held.ledger.waiting sent)))

ticked_set : (m now : ℕ) (held : HeldRequest) → IsSet m held → IsSet m (ticked now held)
ticked_set m now held set = record {
  removal = set.removal;
  success = λ lacks. ap (λ (o : Option Success). (option_map_or (success_at now held) o (None, [])).0)
      (set.success lacks);
  sent = waiting_set m now held set.sent;
}

-- ---- the server side

abbrev pub AreSet : ℕ → State → Type 0
AreSet m state = AllByRecursion (IsSet m) state.requests

module _ (m : ℕ) where
  record Keeps (taken : ServedTaken) : Type 0 where
    pub all : AreSet m taken.0

  if_keeps : (b : Bool) (x y : ServedTaken) → Keeps x → Keeps y → Keeps (if b then x else y)
  if_keeps true x y first second = first
  if_keeps false x y first second = second

  or_keeps : {X : Type 0} (f : X → ServedTaken) (otherwise : ServedTaken)
      → ((x : X) → Keeps (f x)) → Keeps otherwise → (o : Option X)
      → Keeps (option_map_or f o otherwise)
  or_keeps f otherwise each none None = none
  or_keeps f otherwise each none (Some x) = each x

  module _ (call_id : List ℕ) (arrival : Arrival) (now : ℕ) (by : now ≤ m) where
    cancel_set : (state : State) → AreSet m state → (held : HeldRequest)
        → Keeps (cancel_for state call_id arrival now held)
    cancel_set state all held =
        if_keeps (not (is_invite held.request && is_none held.removal)) _ _ (record { all = all })
        (record {
          all = first_changed (IsSet m) (has_id held.id) (after_487 now)
              (λ one set. record {
                removal = later m now by;
                success = λ lacks. absurd (some_end (now + LIFETIME) lacks);
                sent = set.sent;
              }) state.requests all;
        })

    prack_set : (state : State) → AreSet m state → (rack : RAck) (invite : HeldRequest)
        → Keeps (prack_for state call_id arrival rack invite)
    prack_set state all rack invite = record {
      all = first_changed (IsSet m) (has_id invite.id) (after_prack rack.rseq) (λ one set. record {
        removal = set.removal;
        success = set.success;
        sent = each.filtered (λ (p : Provisional). p.sent ≤ m)
            (λ p. not (p.number == rack.rseq)) one.ledger.waiting set.sent;
      }) state.requests all;
    }

    rack_set : (state : State) → AreSet m state → (name : DialogId) (created_by : Id)
        (o : Option RAck) → Keeps (prack_received state call_id name created_by arrival o)
    rack_set state all name created_by None = record { all = all }
    rack_set state all name created_by (Some rack) =
        or_keeps (prack_for state call_id arrival rack) (no_such_call state arrival)
        (prack_set state all rack) (record { all = all })
        (find (is_named_by rack name created_by) state.requests)

    user_set : (state : State) → AreSet m state → (name : DialogId)
        → Keeps (request_for_user state call_id name arrival)
    user_set state all name = record {
      all = each.both (IsSet m) state.requests _ all
          (record { removal = tt; success = λ lacks. refl; sent = tt }, tt);
    }

    inside_set : (state : State) → AreSet m state → (name : DialogId) (held : HeldDialog)
        → Keeps (request_in_dialog state call_id name arrival held)
    inside_set state all name held =
        let request = arrival.request in
        let dialogs = dialog_changed name (after_request request) state.dialogs in
        let noted : State = record state { dialogs = dialogs } in
        if_keeps (not (is_above held request.cseq.number)) _ _ (record { all = all })
        (if_keeps (is_prack request) _ _ (rack_set noted all name held.created_by request.rack)
        (user_set noted all name))

    received_set : (state : State) → AreSet m state
        → Keeps (request_received state call_id arrival now)
    unfolding request_received
    received_set state all =
        let request = arrival.request in
        let name = dialog_id_of request arrival.tag in
        if_keeps (is_cancel request) _ _
        (or_keeps (cancel_for state call_id arrival now) (no_such_call state arrival)
        (cancel_set state all) (record { all = all })
        (find (λ held. is_same_branch arrival.key held.key) (reverse state.requests)))
        (if_keeps (not (has_to_tag request) && list_any (is_merged request) state.requests) _ _
        (record { all = all })
        (if_keeps (list_any is_unknown_option request.require) _ _ (record { all = all })
        (if_keeps (has_to_tag request) _ _ (or_keeps (request_in_dialog state call_id name arrival)
        (no_such_call state arrival) (inside_set state all name) (record { all = all })
        (dialog_at name state.dialogs))
        (if_keeps (is_bye request || is_prack request) _ _ (record { all = all })
        (user_set state all name)))))

  ack_set : (state : State) (call_id : List ℕ) (ack : Message) → AreSet m state
      → Keeps (ack_received state call_id ack)
  unfolding ack_received
  ack_set state call_id ack all =
      or_keeps (ack_for state call_id ack) (state, [])
      (λ invite. record {
        all = first_changed (IsSet m) (has_id invite.id) after_ack
            (λ one set. record {
              removal = set.removal;
              success = no_more _ one set.success;
              sent = set.sent;
            }) state.requests all;
      })
      (record { all = all }) (find (awaits ack) state.requests)

  refusal_set : (state : State) (event : Id) (r : Answer) (now : ℕ) (held : HeldRequest)
      (o : Option Refusal) → now ≤ m → AreSet m state
      → AreSet m (by_refusal state event r now held o).0
  refusal_set state event r now held (Some refusal) by all = all
  refusal_set state event r now held None by all =
      first_changed (IsSet m) (has_id r.id) (after_answer event r _ now)
      (λ one set. answer_set m event r _ now one by set) state.requests all

  pub respond_set : (state : State) (event : Id) (r : Answer) (now : ℕ) → now ≤ m
      → AreSet m state → AreSet m (respond_taken state event r now).0
  respond_set state event r now by all = by_found (find (has_id r.id) state.requests)
    where
      by_found : (o : Option HeldRequest) → AreSet m (by_request state event r now o).0
      by_found None = all
      by_found (Some held) =
          refusal_set state event r now held (refusal_for state.dialogs r held) by all

  -- what comes up
  pub kind_set : (state : State) (tag : List ℕ) (up : Up) (kind : UpKind) (now : ℕ)
      → (is_message kind ≡ true → now ≤ m) → AreSet m state
      → AreSet m (server_received state tag up kind now).0
  kind_set state tag up (Request request reply_to) now by all =
      (received_set up.call_id record {
        id = up.id;
        key = up.key;
        request = request;
        reply_to = reply_to;
        tag = local_tag_of request tag;
      } now (by refl) state all).all
  kind_set state tag up (Ack ack) now by all = (ack_set state up.call_id ack all).all
  kind_set state tag up _ now by all = all

  pub tick_set : (state : State) (now : ℕ) → AreSet m state → AreSet m (server_tick state now).0
  unfolding server_tick
  tick_set state now all =
      each.filtered (IsSet m) (is_kept_at now) (map (ticked now) state.requests)
      (each.mapped (IsSet m) (IsSet m) (ticked now) (ticked_set m now) state.requests all)

-- ---- a tick at the end or later

-- no timer of a request runs, and it has no final response
pub record IsStill (held : HeldRequest) : Type 0 where
  pub removal : held.removal ≡ None
  pub due : request_due held ≡ None

-- what passes a filter, passes its test
kept_pass : {X : Type 0} (P Q : X → Type 0) (test : X → Bool)
    → ((x : X) → test x ≡ true → P x → Q x) → (xs : List X) → AllByRecursion P xs
    → AllByRecursion Q (filter test xs)
kept_pass P Q test gives [] all = tt
kept_pass P Q test gives (x ∷ xs) all =
    by (test x) refl (kept_pass P Q test gives xs all.1)
  where
    by : (b : Bool) → test x ≡ b → AllByRecursion Q (filter test xs)
        → AllByRecursion Q (cond b (x ∷ filter test xs) (filter test xs))
    by true is rest = (gives x is all.0, rest)
    by false is rest = rest

late_removal : (m now : ℕ) (o : Option ℕ) → m + LIFETIME ≤ now → IsWithin m o
    → option_map_or (λ moment. nat_lt now moment) o true ≡ true → o ≡ None
late_removal m now None late within kept = refl
late_removal m now (Some end) late within kept = absurd (past end within kept)
  where
    past : (end : ℕ) → end ≤ m + LIFETIME → nat_lt now end ≡ true → ⊥
    past end within later = grind (arith, common_steps)

-- ---- its provisional responses

given_up_none : (waiting : List Provisional) → first_moment (map given_up waiting) ≡ None
given_up_none [] = refl
given_up_none (p ∷ waiting) = given_up_none waiting

-- if none is late, none is still sent
none_late : (m now : ℕ) → m + LIFETIME ≤ now → (p : Provisional) → p.sent ≤ m
    → is_late now p ≡ false → p.retransmission ≡ None
none_late m now late p by not_late = by_resending p.retransmission not_late
  where
    past : (sent : ℕ) → sent ≤ m → nat_le (sent + LIFETIME) now ≡ true
    past sent by = grind (arith, common_steps)

    by_resending : {X : Type 0} (r : Option X)
        → (is_some r && nat_le (p.sent + LIFETIME) now) ≡ false → r ≡ None
    by_resending None e = refl
    by_resending (Some r) e = absurd (true≢false (sym (past p.sent by) ∙ e))

all_still : (m now : ℕ) → m + LIFETIME ≤ now → (waiting : List Provisional)
    → AllByRecursion (λ (p : Provisional). p.sent ≤ m) waiting
    → list_any (is_late now) waiting ≡ false
    → first_moment (map (after_repeat now) waiting) ≡ None
all_still m now late [] by none = refl
all_still m now late (p ∷ waiting) by none =
    let parts = or_parts (is_late now p) (list_any (is_late now) waiting) none in
    ap (λ o.
    first_moment (after_repeat now (record p { retransmission = o })
    ∷ map (after_repeat now) waiting))
    (none_late m now late p by.0 parts.0)
    ∙ all_still m now late waiting by.1 parts.1

-- after a tick at the end or later no response is sent again
ledger_still : (m now : ℕ) (held : HeldRequest) → m + LIFETIME ≤ now → AreSent m held.ledger
    → next_moment (provisionals_tick now held).0 ≡ None
ledger_still m now held late by =
    by_bool held.ledger.closed (λ e. rw e refl)
    (λ e. by_bool (list_any (is_late now) held.ledger.waiting)
    (λ f. rw (e, f) (given_up_none held.ledger.waiting))
    (λ f. rw (e, f) (all_still m now late held.ledger.waiting by f)))

-- ---- all requests

-- a request whose timers run no longer, except for its removal
record Calms (m : ℕ) (held : HeldRequest) : Type 0 where
  pub set : IsSet m held
  pub ledger : next_moment held.ledger ≡ None

calmed : (m now : ℕ) → m + LIFETIME ≤ now → (held : HeldRequest) → IsSet m held
    → Calms m (ticked now held)
calmed m now late held set = record {
  set = ticked_set m now held set;
  ledger = ledger_still m now held late set.sent;
}

still_of : (m now : ℕ) → m + LIFETIME ≤ now → (held : HeldRequest) → is_kept_at now held ≡ true
    → Calms m held → IsStill held
still_of m now late held kept calms =
    let removal = late_removal m now held.removal late calms.set.removal kept in
    let success = calms.set.success removal in
    let ledger = calms.ledger in
    record {
      removal = removal;
      due = λ i. earlier (earlier (option_and_then success_moment (success i)) (ledger i))
          (removal i);
    }

-- after a tick at the end or later each request is still
pub stills : (m now : ℕ) (state : State) → m + LIFETIME ≤ now → AreSet m state
    → AllByRecursion IsStill ((server_tick state now).0).requests
unfolding server_tick
stills m now state late all =
    kept_pass (Calms m) IsStill (is_kept_at now) (still_of m now late)
    (map (ticked now) state.requests)
    (each.mapped (IsSet m) (Calms m) (ticked now) (calmed m now late) state.requests all)

-- then nothing is due
pub none_due : (requests : List HeldRequest) → AllByRecursion IsStill requests
    → next_due_of requests ≡ None
none_due [] all = refl
none_due (held ∷ requests) all =
    (λ i. fold (λ due one. earlier due (request_due one)) (all.0.due i) requests)
    ∙ none_due requests all.1
