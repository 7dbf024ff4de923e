-- A client of a request other than INVITE sends the request again at least each T2, until a final
-- response comes (RFC 3261, section 17.1.2.2).
use Rattle.std.proofs.Common.{◌≡◌, ◌⊎◌, inl, inr, ⊎_elim, ℕ, suc, ◌+◌, ◌*◌, ◌<◌, ◌≤◌, Bool, true, false, cond, ◌||◌, ◌==◌, List, [], ◌∷◌, ◌++◌, refl, sym, ◌∙◌, ap, subst, arith, codes}
use Rattle.std.specs.Prelude.{Contains, Option, None, Some, nat_le, nat_lt, min, option_and_then}
use Rattle.std.specs.List.{AllByRecursion, list_any}
use Rattle.std.proofs.lemmas.Bool.{false≢true}
use Rattle.std.proofs.lemmas.Grind.{common_steps}
use Rattle.std.proofs.lemmas.List.Sums.{sum_by-append}
use Rattle.std.proofs.Math.Nat.{lt_of_mul-lt-mul_right, suc-mul}
use Rattle.sip_message.specs.declared.addr.Addr.{Addr}
use Rattle.sip_message.specs.declared.id.Id.{Id}
use Rattle.sip_message.specs.declared.key.Key.{Key}
use Rattle.sip_message.specs.declared.message.Message.{Message}
use Rattle.sip_message.specs.declared.start_line.StartLine.{StartLine}
use Rattle.sip_message.specs.declared.start_line.StartLine.TheVariants as start
use Rattle.keyed_machine.specs.Machine.{Timed, given_at, outputs_from, state_from, tick_at}
use Rattle.keyed_machine.proofs.Ordered.{by_bool}
use Rattle.sip_transactions.specs.declared.input.Input.{Input}
use Rattle.sip_transactions.specs.declared.input.Input.TheVariants.{Receive, Start, Answer, Failed, Abandon}
use Rattle.sip_transactions.specs.declared.life.Context.{Context}
use Rattle.sip_transactions.specs.declared.life.Life.{Life}
use Rattle.sip_transactions.specs.declared.output.Out.{Out}
use Rattle.sip_transactions.specs.declared.output.Out.TheVariants as out
use Rattle.sip_transactions.specs.declared.state.Role.TheVariants as role
use Rattle.sip_transactions.specs.declared.state.State.TheVariants.{Completed, Proceeding, Trying}
use Rattle.sip_transactions.specs.declared.step.Pace.{Pace}
use Rattle.sip_transactions.specs.declared.step.Pace.TheVariants.{Capped, Even}
use Rattle.sip_transactions.specs.declared.trigger.Class.{Class}
use Rattle.sip_transactions.specs.declared.trigger.Class.TheVariants as class
use Rattle.sip_transactions.specs.declared.trigger.Trigger.{Trigger}
use Rattle.sip_transactions.specs.declared.trigger.Trigger.TheVariants as on
use Rattle.sip_transactions.specs.Rows.{row_of, rows_of}
use Rattle.sip_transactions.specs.Rules.Timers.{interval}
use Rattle.sip_transactions.specs.Steps.Input.{answer_of, arrival_of, class_of, is_same_method, role_of, trigger_of}
use Rattle.sip_transactions.specs.Steps.Life.{life_after, life_in, state_of, step_for, step_machine, stepped}
use Rattle.sip_transactions.specs.Steps.Output.{handed_out, kind_of, made_of, outputs_of, up_out}
use Rattle.sip_transactions.proofs.RowFacts.{by_test}
use Rattle.sip_agent_laws.specs.Transactions.Outcomes.{is_final}
use Rattle.sip_agent_laws.specs.Transactions.Copies.{TicksInTime, copies, is_copy}
use Rattle.sip_conversation.proofs.Among.{first_or_later, none_among}
use Rattle.sip_agent_laws.proofs.transactions.Often.{one_copy, or_false}
use Rattle.sip_agent_laws.proofs.transactions.OftenSent.{by_role, by_row, to_role}
use Rattle.sip_conversation.proofs.FirstStart.{AreOthers, IsOther, stays}

-- what doesn't change while it waits
pub record Waiting : Type 0 where
  pub key : Key
  pub id : Id
  pub call_id : List ℕ
  pub to : Addr
  pub text : List ℕ
  pub end : ℕ

-- it waits; a provisional response has come, or not
abbrev pub waits : Waiting → Bool → ℕ → ℕ → Life
waits setup early repeat fired = record {
  state = cond early Proceeding Trying;
  context = record {
    id = setup.id;
    call_id = setup.call_id;
    to = setup.to;
    request = None;
    last = Some setup.text;
    timers = record { repeat = Some repeat; fired = fired; ending = Some setup.end };
  };
}

-- what ends the wait: timer F, a final response, a failed send, and the user
abbrev pub ends_by : ℕ → ℕ → Option Input → Bool
ends_by end now None = nat_le end now
ends_by end now (Some (Receive id message reply_to)) = is_final message.start
ends_by end now (Some (Start id call_id message to)) = false
ends_by end now (Some (Answer id message)) = false
ends_by end now (Some (Failed id)) = true
ends_by end now (Some Abandon) = true

abbrev pub ends_wait : ℕ → Timed Input → Bool
ends_wait end timed = ends_by end timed.moment timed.input

abbrev pace_at : Bool → Pace
pace_at early = cond early Even Capped

abbrev client_by : Waiting → Bool → ℕ → ℕ → ℕ → Option Input → Option Trigger
    → Option Life × List Out
client_by setup early repeat fired now input trigger =
    by_role role.Client setup.key (Some (waits setup early repeat fired)) now input trigger

-- the repeat goes out
abbrev again : Waiting → Bool → ℕ → ℕ → Option Life × List Out
again setup early now fired = (
  Some (waits setup early (now + interval (pace_at early) (fired + 1)) (fired + 1)),
  out.Send setup.key setup.to setup.text ∷ [],
)

repeated : (setup : Waiting) (early : Bool) (repeat fired now : ℕ)
    → client_by setup early repeat fired now None (Some on.RetransmitDue)
    ≡ again setup early now fired
unfolding life_after outputs_of made_of handed_out
repeated setup true repeat fired now = refl
repeated setup false repeat fired now = refl

-- a trigger without a row for it
abbrev is_unmoved : Trigger → Bool
is_unmoved on.Start = true
is_unmoved on.Request = true
is_unmoved on.Ack = true
is_unmoved (on.Answer c) = true
is_unmoved trigger = false

unmoved : (setup : Waiting) (early : Bool) (repeat fired now : ℕ) (input : Option Input)
    (trigger : Trigger) → is_unmoved trigger ≡ true
    → client_by setup early repeat fired now input (Some trigger)
    ≡ (Some (waits setup early repeat fired), [])
unmoved setup true repeat fired now input on.Start is = refl
unmoved setup true repeat fired now input on.Request is = refl
unmoved setup true repeat fired now input on.Ack is = refl
unmoved setup true repeat fired now input (on.Answer class.Trying) is = refl
unmoved setup true repeat fired now input (on.Answer class.Provisional) is = refl
unmoved setup true repeat fired now input (on.Answer class.Success) is = refl
unmoved setup true repeat fired now input (on.Answer class.Failure) is = refl
unmoved setup false repeat fired now input on.Start is = refl
unmoved setup false repeat fired now input on.Request is = refl
unmoved setup false repeat fired now input on.Ack is = refl
unmoved setup false repeat fired now input (on.Answer class.Trying) is = refl
unmoved setup false repeat fired now input (on.Answer class.Provisional) is = refl
unmoved setup false repeat fired now input (on.Answer class.Success) is = refl
unmoved setup false repeat fired now input (on.Answer class.Failure) is = refl
unmoved setup early repeat fired now input on.RetransmitDue is = absurd (false≢true is)
unmoved setup early repeat fired now input on.TimeoutDue is = absurd (false≢true is)
unmoved setup early repeat fired now input on.Failed is = absurd (false≢true is)
unmoved setup early repeat fired now input (on.Response c) is = absurd (false≢true is)

-- a provisional response comes up
abbrev progress : Waiting → Bool → ℕ → ℕ → Message → Addr → Option Life × List Out
progress setup early repeat fired message reply_to = (
  Some (waits setup true repeat fired),
  up_out setup.key (waits setup early repeat fired).context
      (kind_of message.start message reply_to) ∷ [],
)

abbrev pub is_early : Class → Bool
is_early class.Trying = true
is_early class.Provisional = true
is_early class.Success = false
is_early class.Failure = false

progressed : (setup : Waiting) (early : Bool) (repeat fired now : ℕ) (id : Id)
    (message : Message) (reply_to : Addr) (c : Class) → is_early c ≡ true
    → client_by setup early repeat fired now (Some (Receive id message reply_to))
    (Some (on.Response c)) ≡ progress setup early repeat fired message reply_to
unfolding life_after outputs_of made_of handed_out
progressed setup true repeat fired now id message reply_to class.Trying is = refl
progressed setup true repeat fired now id message reply_to class.Provisional is = refl
progressed setup false repeat fired now id message reply_to class.Trying is = refl
progressed setup false repeat fired now id message reply_to class.Provisional is = refl
progressed setup early repeat fired now id message reply_to class.Success is =
    absurd (false≢true is)
progressed setup early repeat fired now id message reply_to class.Failure is =
    absurd (false≢true is)

pub not_final : (status : ℕ) → nat_le 200 status ≡ false → is_early (class_of status) ≡ true
not_final status early = by_hundred (status == 100) (nat_lt status 200) (nat_lt status 300)
    (grind (arith, common_steps, early))
  where
    by_hundred : (hundred below other : Bool) → below ≡ true
        → is_early (cond hundred class.Trying (cond below class.Provisional
        (cond other class.Success class.Failure))) ≡ true
    by_hundred true below other is = refl
    by_hundred false true other is = refl
    by_hundred false false other is = absurd (false≢true is)

abbrev step_of : Waiting → Bool → ℕ → ℕ → ℕ → Option Input → Option Life × List Out
step_of setup early repeat fired now input =
    stepped setup.key (Some (waits setup early repeat fired))
    (record { moment = now; input = input })

-- it still waits after an input: its repeat is due as before; or the request went out again, and is
-- due at most T2 later
pub record StillWaits (setup : Waiting) (repeat now : ℕ) (input : Option Input)
    (after : Option Life × List Out) : Type 0 where
  pub early : Bool
  pub next : ℕ
  pub fired : ℕ
  pub outs : List Out
  pub is : after ≡ (Some (waits setup early next fired), outs)
  pub when : (next ≡ repeat) ⊎ ((input ≡ None) × (next ≤ now + 4000)
      × (1 ≤ copies setup.to setup.text outs))

at_most_t2 : (early : Bool) (now fired : ℕ) → now + interval (pace_at early) fired ≤ now + 4000
at_most_t2 true now fired = omega arith
at_most_t2 false now fired = omega arith

module _ (setup : Waiting) (own : role_of setup.key ≡ role.Client) (early : Bool)
    (repeat fired now : ℕ) where
  abbrev life : Life
  life = waits setup early repeat fired

  ticked : nat_le setup.end now ≡ false → (due : Bool) → nat_le repeat now ≡ due
      → step_of setup early repeat fired now None
      ≡ cond due (again setup early now fired) (Some life, [])
  unfolding stepped step_for
  ticked before due is =
      ap (λ r. by_role r setup.key (Some life) now None (cond (nat_le setup.end now)
      (Some on.TimeoutDue) (cond (nat_le repeat now) (Some on.RetransmitDue) None))) own
      ∙ ap (λ e. client_by setup early repeat fired now None (cond e
      (Some on.TimeoutDue) (cond (nat_le repeat now) (Some on.RetransmitDue) None))) before
      ∙ ap (λ r. client_by setup early repeat fired now None (cond r (Some on.RetransmitDue) None)) is
      ∙ by_due due
    where
      by_due : (due : Bool)
          → client_by setup early repeat fired now None (cond due (Some on.RetransmitDue) None)
          ≡ cond due (again setup early now fired) (Some life, [])
      by_due true = repeated setup early repeat fired now
      by_due false = refl

  moved : (input : Input) (trigger : Trigger) → is_unmoved trigger ≡ true
      → by_role (role_of setup.key) setup.key (Some life) now (Some input) (Some trigger)
      ≡ (Some life, [])
  moved input trigger is =
      ap (λ r. by_role r setup.key (Some life) now (Some input) (Some trigger)) own
      ∙ unmoved setup early repeat fired now (Some input) trigger is

  unchanged : (input : Option Input) → step_of setup early repeat fired now input ≡ (Some life, [])
      → StillWaits setup repeat now input (step_of setup early repeat fired now input)
  unchanged input is = record {
    early = early;
    next = repeat;
    fired = fired;
    outs = [];
    is = is;
    when = inl refl;
  }

  received : (id : Id) (message : Message) (reply_to : Addr) → is_final message.start ≡ false
      → StillWaits setup repeat now (Some (Receive id message reply_to))
      (step_of setup early repeat fired now (Some (Receive id message reply_to)))
  unfolding stepped step_for
  received id message reply_to opened = by_line message.start refl opened
    where
      by_line : (line : StartLine) → message.start ≡ line → is_final line ≡ false
          → StillWaits setup repeat now (Some (Receive id message reply_to))
          (by_role (role_of setup.key) setup.key (Some life) now
          (Some (Receive id message reply_to)) (Some (arrival_of message.start message.cseq.method)))
      by_line (start.Request uri) same opened =
          unchanged_by (ap (λ l. by_role (role_of setup.key) setup.key (Some life) now
          (Some (Receive id message reply_to)) (Some (arrival_of l message.cseq.method))) same
          ∙ by_test (is_same_method message.cseq.method (codes "ACK"))
          (λ ack. moved (Receive id message reply_to)
          (arrival_of (start.Request uri) message.cseq.method)
          (ap (λ b. is_unmoved (cond b on.Ack on.Request)) ack))
          (λ other. moved (Receive id message reply_to)
          (arrival_of (start.Request uri) message.cseq.method)
          (ap (λ b. is_unmoved (cond b on.Ack on.Request)) other)))
        where
          unchanged_by : by_role (role_of setup.key) setup.key (Some life) now
              (Some (Receive id message reply_to))
              (Some (arrival_of message.start message.cseq.method)) ≡ (Some life, [])
              → StillWaits setup repeat now (Some (Receive id message reply_to))
              (by_role (role_of setup.key) setup.key (Some life) now
              (Some (Receive id message reply_to))
              (Some (arrival_of message.start message.cseq.method)))
          unchanged_by is = record {
            early = early;
            next = repeat;
            fired = fired;
            outs = [];
            is = is;
            when = inl refl;
          }
      by_line (start.Response status reason) same opened = record {
        early = true;
        next = repeat;
        fired = fired;
        outs = up_out setup.key life.context (kind_of message.start message reply_to) ∷ [];
        is = ap (λ l. by_role (role_of setup.key) setup.key (Some life) now
            (Some (Receive id message reply_to)) (Some (arrival_of l message.cseq.method))) same
            ∙ (ap (λ r. by_role r setup.key (Some life) now
            (Some (Receive id message reply_to)) (Some (on.Response (class_of status)))) own
            ∙ progressed setup early repeat fired now id message reply_to (class_of status)
            (not_final status opened));
        when = inl refl;
      }

  answered : (id : Id) (message : Message)
      → step_of setup early repeat fired now (Some (Answer id message)) ≡ (Some life, [])
  unfolding stepped step_for
  answered id message = by_line message.start
    where
      by_line : (line : StartLine)
          → by_row (role_of setup.key) setup.key (Some life) now (Some (Answer id message))
          (option_and_then (row_of (rows_of (role_of setup.key)) (state_of (Some life)))
          (answer_of line))
          ≡ (Some life, [])
      by_line (start.Request uri) = refl
      by_line (start.Response status reason) =
          moved (Answer id message) (on.Answer (class_of status)) refl

  started : (id : Id) (call_id : List ℕ) (message : Message) (to : Addr)
      → step_of setup early repeat fired now (Some (Start id call_id message to)) ≡ (Some life, [])
  unfolding stepped step_for
  started id call_id message to = moved (Start id call_id message to) on.Start refl

  pub still : (input : Option Input) → ends_by setup.end now input ≡ false
      → StillWaits setup repeat now input (step_of setup early repeat fired now input)
  still None before =
      by_bool (nat_le repeat now)
      (λ due. record {
        early = early;
        next = now + interval (pace_at early) (fired + 1);
        fired = fired + 1;
        outs = out.Send setup.key setup.to setup.text ∷ [];
        is = ticked before true due;
        when = inr (
          refl,
          at_most_t2 early now (fired + 1),
          subst (λ n. 1 ≤ n) (sym (one_copy setup.key setup.to setup.text)) (omega arith),
        );
      })
      (λ quiet. unchanged None (ticked before false quiet))
  still (Some (Receive id message reply_to)) opened = received id message reply_to opened
  still (Some (Start id call_id message to)) calm =
      unchanged (Some (Start id call_id message to)) (started id call_id message to)
  still (Some (Answer id message)) calm =
      unchanged (Some (Answer id message)) (answered id message)
  still (Some (Failed id)) ends = absurd (false≢true (sym ends))
  still (Some Abandon) ends = absurd (false≢true (sym ends))

-- ---- inputs up to a moment

-- it waits after them, and its repeat is due by then
pub record WaitsAfter (setup : Waiting) (by : ℕ) (held : Option Life) : Type 0 where
  pub early : Bool
  pub repeat : ℕ
  pub fired : ℕ
  pub is : held ≡ Some (waits setup early repeat fired)
  pub due : repeat ≤ by

module _ (setup : Waiting) (own : role_of setup.key ≡ role.Client) (moment : ℕ) where
  abbrev Waits : Option Life → Type 0
  Waits = WaitsAfter setup (moment + 4000)

  pub waits_on : (inputs : List (Timed Input))
      → AllByRecursion (λ timed. timed.moment ≤ moment) inputs
      → list_any (ends_wait setup.end) inputs ≡ false
      → (held : Option Life) → Waits held → Waits (state_from step_machine setup.key held inputs)
  waits_on [] by none held goes = goes
  waits_on (timed ∷ inputs) by none held goes =
      let ends = or_false (ends_wait setup.end timed) (list_any (ends_wait setup.end) inputs) none in
      let one = still setup own goes.early goes.repeat goes.fired timed.moment timed.input ends.0 in
      let now : timed.moment ≤ moment = by.0 in
      let due : one.next ≤ moment + 4000 = soon one.when goes.due now in
      let after : stepped setup.key held timed ≡ (
        Some (waits setup one.early one.next one.fired),
        one.outs,
      ) = ap (λ h. stepped setup.key h timed) goes.is ∙ one.is in
      waits_on inputs by.1 ends.1 (stepped setup.key held timed).0 (record {
        early = one.early;
        repeat = one.next;
        fired = one.fired;
        is = ap (λ (a : Option Life × List Out). a.0) after;
        due = due;
      })
    where
      soon : {next repeat now : ℕ} {input : Option Input} {sent : ℕ}
          → (next ≡ repeat) ⊎ ((input ≡ None) × (next ≤ now + 4000) × (1 ≤ sent))
          → repeat ≤ moment + 4000 → now ≤ moment → next ≤ moment + 4000
      soon (inl same) due by = omega (arith, same, due, by)
      soon (inr fires) due by = let next_due = fires.1 in omega (arith, next_due, by)

-- so long as it waits no final response came
pub no_final : (end : ℕ) (inputs : List (Timed Input)) → list_any (ends_wait end) inputs ≡ false
    → (now : ℕ) (id : Id) (message : Message) (reply_to : Addr)
    → Contains inputs (given_at now (Receive id message reply_to))
    → is_final message.start ≡ true → ⊥
no_final end [] none now id message reply_to among final =
    none_among (given_at now (Receive id message reply_to)) among
no_final end (timed ∷ inputs) none now id message reply_to among final =
    let ends = or_false (ends_wait end timed) (list_any (ends_wait end) inputs) none in
    ⊎_elim
    (λ same. false≢true (sym ends.0 ∙ (ap (ends_wait end) same ∙ final)))
    (λ later. no_final end inputs ends.1 now id message reply_to later final)
    (first_or_later timed inputs (given_at now (Receive id message reply_to)) among)

-- ---- inputs after a moment

below : (a b c each moment repeat last lag : ℕ) → repeat ≤ moment + 4000 + a → last ≤ repeat + lag
    → moment + b < last → each ≡ 4000 + lag → c ≡ a + each → b < c
below a b c each moment repeat last lag due soon late is sum = omega arith

as_often : (each sent tries moment repeat last lag : ℕ) → repeat ≤ moment + 4000 + sent * each
    → last ≤ repeat + lag → moment + tries * each < last → each ≡ 4000 + lag → tries ≤ sent
as_often each sent tries moment repeat last lag due soon late is =
    let less : tries < suc sent = lt_of_mul-lt-mul_right each
    (below (sent * each) (tries * each) (suc sent * each) each moment repeat last lag due soon late
    is (suc-mul sent each)) in
    omega (arith, less)

more_due : (each sent moment repeat now next lag : ℕ) → repeat ≤ moment + 4000 + sent * each
    → now ≤ repeat + lag → next ≤ now + 4000 → each ≡ 4000 + lag
    → next ≤ moment + 4000 + suc sent * each
more_due each sent moment repeat now next lag due soon after is =
    sums (sent * each) (suc sent * each) (suc-mul sent each) due
  where
    sums : (a c : ℕ) → c ≡ a + each → repeat ≤ moment + 4000 + a → next ≤ moment + 4000 + c
    sums a c sum due = omega arith

module _ (setup : Waiting) (own : role_of setup.key ≡ role.Client) (lag moment tries last : ℕ)
    (late : moment + tries * (4000 + lag) < last) where
  -- so often it has gone out by then
  abbrev Due : ℕ → ℕ → Type 0
  Due repeat sent = repeat ≤ moment + 4000 + sent * (4000 + lag)

  abbrev Often : ℕ → List (Timed Input) → Option Life × List Out → Type 0
  Often sent inputs after =
      TicksInTime step_machine lag setup.key after.0 (inputs ++ tick_at last ∷ [])
      → tries ≤ sent + copies setup.to setup.text
      (after.1 ++ outputs_from step_machine setup.key after.0 inputs)

  counted : (sent more : ℕ) (o : List Out) (rest : List Out) → more ≤ copies setup.to setup.text o
      → tries ≤ (sent + more) + copies setup.to setup.text rest
      → tries ≤ sent + copies setup.to setup.text (o ++ rest)
  counted sent more o rest here enough =
      let all = sum_by-append (λ x. cond {A = ℕ} (is_copy setup.to setup.text x) 1 0) o rest in
      omega (arith, here, enough, all)

  pub often : (inputs : List (Timed Input)) → list_any (ends_wait setup.end) inputs ≡ false
      → (early : Bool) (repeat fired sent : ℕ) → Due repeat sent
      → Often sent inputs (Some (waits setup early repeat fired), [])
  often [] none early repeat fired sent due in_time =
      let at : last ≤ min setup.end repeat + lag = in_time.0 refl in
      let fine : tries ≤ sent =
      as_often (4000 + lag) sent tries moment repeat last lag due (omega arith) late refl in
      omega arith
  often (timed ∷ inputs) none early repeat fired sent due in_time =
      let ends = or_false (ends_wait setup.end timed) (list_any (ends_wait setup.end) inputs) none in
      let one = still setup own early repeat fired timed.moment timed.input ends.0 in
      let on = often inputs ends.1 one.early one.next one.fired in
      let rest = outputs_from step_machine setup.key
      (Some (waits setup one.early one.next one.fired)) inputs in
      let later : TicksInTime step_machine lag setup.key
      (Some (waits setup one.early one.next one.fired)) (inputs ++ tick_at last ∷ []) =
      subst (λ (a : Option Life × List Out). TicksInTime step_machine lag setup.key a.0
      (inputs ++ tick_at last ∷ [])) one.is in_time.1 in
      subst (λ (a : Option Life × List Out). tries ≤ sent + copies setup.to setup.text
      (a.1 ++ outputs_from step_machine setup.key a.0 inputs)) (sym one.is)
      (⊎_elim
      (λ same. counted sent 0 one.outs rest (omega arith)
      (subst (λ n. tries ≤ n + copies setup.to setup.text rest) (nothing sent)
      (on sent (subst (λ r. Due r sent) (sym same) due) later)))
      (λ fires.
      let soon : timed.moment ≤ min setup.end repeat + lag = in_time.0 fires.0 in
      counted sent 1 one.outs rest fires.2
      (subst (λ n. tries ≤ n + copies setup.to setup.text rest) (one_more sent)
      (on (suc sent) (more_due (4000 + lag) sent moment repeat timed.moment one.next lag due
      (omega arith) fires.1 refl) later)))
      one.when)
    where
      nothing : (n : ℕ) → n ≡ n + 0
      nothing n = omega arith

      one_more : (n : ℕ) → suc n ≡ n + 1
      one_more n = omega arith

-- ---- the end of the wait

-- it is gone, or has its final response
abbrev pub IsClosed : Option Life → Type 0
IsClosed held = (held ≡ None) ⊎ ((context : Context) × (held ≡ Some (life_in context Completed)))

closed_by : (key : Key) (context : Context) (now : ℕ) (input : Option Input)
    (trigger : Option Trigger)
    → IsClosed (by_role role.Client key (Some (life_in context Completed)) now input trigger).0
unfolding life_after
closed_by key context now input None = inr (context, refl)
closed_by key context now input (Some on.Start) = inr (context, refl)
closed_by key context now input (Some on.RetransmitDue) = inr (context, refl)
closed_by key context now input (Some on.TimeoutDue) = inl refl
closed_by key context now input (Some on.Failed) = inr (context, refl)
closed_by key context now input (Some on.Request) = inr (context, refl)
closed_by key context now input (Some on.Ack) = inr (context, refl)
closed_by key context now input (Some (on.Response class.Trying)) = inr (context, refl)
closed_by key context now input (Some (on.Response class.Provisional)) = inr (context, refl)
closed_by key context now input (Some (on.Response class.Success)) = inr (context, refl)
closed_by key context now input (Some (on.Response class.Failure)) = inr (context, refl)
closed_by key context now input (Some (on.Answer class.Trying)) = inr (context, refl)
closed_by key context now input (Some (on.Answer class.Provisional)) = inr (context, refl)
closed_by key context now input (Some (on.Answer class.Success)) = inr (context, refl)
closed_by key context now input (Some (on.Answer class.Failure)) = inr (context, refl)

given_up : (key : Key) (held : Life) (now : ℕ)
    → (stepped key (Some held) (given_at now Abandon)).0 ≡ None
unfolding stepped step_for life_after
given_up key held now = refl

closed_goes : (key : Key) → role_of key ≡ role.Client → (context : Context) (now : ℕ)
    (input : Option Input)
    → IsClosed (stepped key (Some (life_in context Completed))
    (record { moment = now; input = input })).0
closed_goes key own context now (Some Abandon) = inl (given_up key (life_in context Completed) now)
closed_goes key own context now input =
    subst (λ (a : Option Life × List Out). IsClosed a.0)
    (sym (to_role key role.Client own (Some (life_in context Completed)) now input refl))
    (closed_by key context now input (trigger_of (Some (life_in context Completed)) now input))

closed_step : (key : Key) → role_of key ≡ role.Client → (held : Option Life) → IsClosed held
    → (timed : Timed Input) → IsOther timed.input → IsClosed (stepped key held timed).0
closed_step key own held (inl none) timed other =
    inl (ap (λ h. (stepped key h timed).0) none ∙ stays false key own timed.moment timed.input other)
closed_step key own held (inr (context, is)) timed other =
    subst (λ h. IsClosed (stepped key h timed).0) (sym is)
    (closed_goes key own context timed.moment timed.input)

closed_then : (key : Key) → role_of key ≡ role.Client → (inputs : List (Timed Input))
    → AreOthers inputs → (held : Option Life) → IsClosed held
    → IsClosed (state_from step_machine key held inputs)
closed_then key own [] others held closed = closed
closed_then key own (timed ∷ inputs) others held closed =
    closed_then key own inputs others.1 (stepped key held timed).0
    (closed_step key own held closed timed others.0)

pub not_early : (status : ℕ) → nat_le 200 status ≡ true → is_early (class_of status) ≡ false
not_early status final = by_hundred (status == 100) (nat_lt status 200) (nat_lt status 300)
    (grind (arith, common_steps, final)) (grind (arith, common_steps, final))
  where
    by_hundred : (hundred below other : Bool) → hundred ≡ false → below ≡ false
        → is_early (cond hundred class.Trying (cond below class.Provisional
        (cond other class.Success class.Failure))) ≡ false
    by_hundred true below other not_so is = absurd (false≢true (sym not_so))
    by_hundred false true other not_so is = absurd (false≢true (sym is))
    by_hundred false false true not_so is = refl
    by_hundred false false false not_so is = refl

ends_so : (setup : Waiting) (early : Bool) (repeat fired now : ℕ) (input : Option Input)
    → (client_by setup early repeat fired now input (Some on.TimeoutDue)).0 ≡ None
unfolding life_after
ends_so setup true repeat fired now input = refl
ends_so setup false repeat fired now input = refl

fails_so : (setup : Waiting) (early : Bool) (repeat fired now : ℕ) (input : Option Input)
    → (client_by setup early repeat fired now input (Some on.Failed)).0 ≡ None
unfolding life_after
fails_so setup true repeat fired now input = refl
fails_so setup false repeat fired now input = refl

module _ (setup : Waiting) (own : role_of setup.key ≡ role.Client) where
  final_closes : (early : Bool) (repeat fired now : ℕ) (id : Id) (message : Message)
      (reply_to : Addr) (c : Class) → is_early c ≡ false
      → IsClosed (client_by setup early repeat fired now (Some (Receive id message reply_to))
      (Some (on.Response c))).0
  unfolding life_after made_of
  final_closes true repeat fired now id message reply_to class.Success is = inr (_, refl)
  final_closes true repeat fired now id message reply_to class.Failure is = inr (_, refl)
  final_closes false repeat fired now id message reply_to class.Success is = inr (_, refl)
  final_closes false repeat fired now id message reply_to class.Failure is = inr (_, refl)
  final_closes early repeat fired now id message reply_to class.Trying is =
      absurd (false≢true (sym is))
  final_closes early repeat fired now id message reply_to class.Provisional is =
      absurd (false≢true (sym is))

  line_closes : (early : Bool) (repeat fired now : ℕ) (id : Id) (message : Message)
      (reply_to : Addr) (line : StartLine) → is_final line ≡ true
      → IsClosed (client_by setup early repeat fired now (Some (Receive id message reply_to))
      (Some (arrival_of line message.cseq.method))).0
  line_closes early repeat fired now id message reply_to (start.Request uri) final =
      absurd (false≢true final)
  line_closes early repeat fired now id message reply_to (start.Response status reason) final =
      final_closes early repeat fired now id message reply_to (class_of status)
      (not_early status final)

  end_closes : (early : Bool) (repeat fired now : ℕ) (input : Option Input)
      → ends_by setup.end now input ≡ true
      → IsClosed (step_of setup early repeat fired now input).0
  end_closes early repeat fired now None late =
      let life = waits setup early repeat fired in
      inl (ap (λ (a : Option Life × List Out). a.0)
      (to_role setup.key role.Client own (Some life) now None refl
      ∙ ap (λ e. client_by setup early repeat fired now None (cond e (Some on.TimeoutDue)
      (cond (nat_le repeat now) (Some on.RetransmitDue) None))) late)
      ∙ ends_so setup early repeat fired now None)
  end_closes early repeat fired now (Some (Receive id message reply_to)) final =
      let life = waits setup early repeat fired in
      subst (λ (a : Option Life × List Out). IsClosed a.0)
      (sym (to_role setup.key role.Client own (Some life) now (Some (Receive id message reply_to))
      refl))
      (line_closes early repeat fired now id message reply_to message.start final)
  end_closes early repeat fired now (Some (Start id call_id message to)) ends =
      absurd (false≢true ends)
  end_closes early repeat fired now (Some (Answer id message)) ends = absurd (false≢true ends)
  end_closes early repeat fired now (Some (Failed id)) ends =
      inl (ap (λ (a : Option Life × List Out). a.0)
      (to_role setup.key role.Client own (Some (waits setup early repeat fired)) now
      (Some (Failed id)) refl)
      ∙ fails_so setup early repeat fired now (Some (Failed id)))
  end_closes early repeat fired now (Some Abandon) ends =
      inl (given_up setup.key (waits setup early repeat fired) now)

  -- once the wait has ended, it is closed
  pub ends_closed : (inputs : List (Timed Input)) → AreOthers inputs
      → list_any (ends_wait setup.end) inputs ≡ true → (early : Bool) (repeat fired : ℕ)
      → IsClosed (state_from step_machine setup.key (Some (waits setup early repeat fired)) inputs)
  ends_closed [] others ended early repeat fired = absurd (false≢true ended)
  ends_closed (timed ∷ inputs) others ended early repeat fired =
      by_bool (ends_wait setup.end timed)
      (λ here. closed_then setup.key own inputs others.1
      (step_of setup early repeat fired timed.moment timed.input).0
      (end_closes early repeat fired timed.moment timed.input here))
      (λ goes.
      let one = still setup own early repeat fired timed.moment timed.input goes in
      subst (λ h. IsClosed (state_from step_machine setup.key h inputs))
      (sym (ap (λ (a : Option Life × List Out). a.0) one.is))
      (ends_closed inputs others.1
      (sym (ap (λ b. b || list_any (ends_wait setup.end) inputs) goes) ∙ ended)
      one.early one.next one.fired))
