-- A request that isn't answered goes out at each moment of timer A or E.
use Rattle.std.proofs.Common.{◌≡◌, ℕ, suc, ◌+◌, ◌≤◌, Bool, true, false, cond, List, [], ◌∷◌, refl, sym, ◌∙◌, ap, subst, arith, codes, zero-add}
use Rattle.std.specs.Prelude.{Option, None, Some, nat_le, not, option_and_then}
use Rattle.std.proofs.lemmas.Bool.{false≢true}
use Rattle.sip_message.specs.declared.addr.Addr.{Addr}
use Rattle.sip_message.specs.declared.id.Id.{Id}
use Rattle.sip_message.specs.declared.key.Key.{Key}
use Rattle.sip_message.specs.declared.key.Key.TheVariants as key
use Rattle.sip_message.specs.declared.message.Message.{Message}
use Rattle.sip_message.specs.declared.start_line.StartLine.{StartLine}
use Rattle.sip_message.specs.declared.start_line.StartLine.TheVariants as start
use Rattle.sip_message.specs.Message.{is_request_line, is_request_message}
use Rattle.sip_message.specs.Written.{written}
use Rattle.keyed_machine.specs.Machine.{given_at}
use Rattle.sip_transactions.specs.declared.input.Input.{Input}
use Rattle.sip_transactions.specs.declared.input.Input.TheVariants.{Receive, Start, Answer, Failed, Abandon}
use Rattle.sip_transactions.specs.declared.life.Life.{Life}
use Rattle.sip_transactions.specs.declared.output.Out.{Out}
use Rattle.sip_transactions.specs.declared.output.Out.TheVariants as out
use Rattle.sip_transactions.specs.declared.state.Role.{Role}
use Rattle.sip_transactions.specs.declared.state.Role.TheVariants as role
use Rattle.sip_transactions.specs.declared.state.State.TheVariants.{Calling, Trying}
use Rattle.sip_transactions.specs.declared.step.Pace.{Pace}
use Rattle.sip_transactions.specs.declared.step.Pace.TheVariants.{Doubled, Capped}
use Rattle.sip_transactions.specs.declared.step.Step.{Step}
use Rattle.sip_transactions.specs.declared.trigger.Class.TheVariants as class
use Rattle.sip_transactions.specs.declared.trigger.Trigger.{Trigger}
use Rattle.sip_transactions.specs.declared.trigger.Trigger.TheVariants as on
use Rattle.sip_transactions.specs.Rows.{row_of, rows_of}
use Rattle.sip_transactions.specs.Rules.Timers.{interval}
use Rattle.sip_transactions.specs.Steps.Input.{answer_of, arrival_of, class_of, is_abandon, is_same_method, role_of, tick_of, trigger_of}
use Rattle.sip_transactions.specs.Steps.Life.{acted_if, begun, context_of, life_after, state_of, step_for, step_machine, stepped}
use Rattle.sip_transactions.specs.Steps.Output.{handed_out, made_of, outputs_of}
use Rattle.sip_transactions.proofs.RowFacts.{by_test}
use Rattle.sip_agent_laws.specs.Transactions.Copies.{EachRequestIsRepeated, ends_by, ends_wait, is_invite}
use Rattle.sip_agent_laws.proofs.transactions.Often.{Often, Repeats, from_first}

-- ---- an input, by the table of a role

abbrev pub by_row : Role → Key → Option Life → ℕ → Option Input → Option Step → Option Life × List Out
by_row role key held now input None = (held, [])
by_row role key held now input (Some step) =
    acted_if key now input (state_of held) (context_of role held input) step

abbrev pub by_role : Role → Key → Option Life → ℕ → Option Input → Option Trigger
    → Option Life × List Out
by_role role key held now input trigger =
    by_row role key held now input (option_and_then (row_of (rows_of role) (state_of held)) trigger)

pub to_role : (key : Key) (r : Role) → role_of key ≡ r → (held : Option Life) (now : ℕ)
    (input : Option Input) → is_abandon input ≡ false
    → stepped key held (record { moment = now; input = input })
    ≡ by_role r key held now input (trigger_of held now input)
unfolding stepped step_for
to_role key r own held now None kept = ap (λ r. by_role r key held now None (tick_of now held)) own
to_role key r own held now (Some (Receive id message reply_to)) kept =
    ap (λ r. by_role r key held now (Some (Receive id message reply_to))
    (Some (arrival_of message.start message.cseq.method))) own
to_role key r own held now (Some (Start id call_id message to)) kept =
    ap (λ r. by_role r key held now (Some (Start id call_id message to)) (Some on.Start)) own
to_role key r own held now (Some (Answer id message)) kept =
    ap (λ r. by_role r key held now (Some (Answer id message)) (answer_of message.start)) own
to_role key r own held now (Some (Failed id)) kept =
    ap (λ r. by_role r key held now (Some (Failed id)) (Some on.Failed)) own
to_role key r own held now (Some Abandon) kept = absurd (false≢true (sym kept))

-- the client of an INVITE, or of another request
abbrev pub role_at : Bool → Role
role_at invite = cond invite role.InviteClient role.Client

abbrev pace_at : Bool → Pace
pace_at invite = cond invite Doubled Capped

-- ---- a client that waits for its first response

-- what doesn't change while it waits
record Setup : Type 0 where
  key : Key
  id : Id
  call_id : List ℕ
  to : Addr
  kept : Option Message
  text : List ℕ
  end : ℕ

abbrev waits : Bool → Setup → ℕ → ℕ → Life
waits invite setup repeat fired = record {
  state = cond invite Calling Trying;
  context = record {
    id = setup.id;
    call_id = setup.call_id;
    to = setup.to;
    request = setup.kept;
    last = Some setup.text;
    timers = record { repeat = Some repeat; fired = fired; ending = Some setup.end };
  };
}

-- the repeat goes out
abbrev again : Bool → Setup → ℕ → ℕ → Option Life × List Out
again invite setup now fired = (
  Some (waits invite setup (now + interval (pace_at invite) (fired + 1)) (fired + 1)),
  out.Send setup.key setup.to setup.text ∷ [],
)

abbrev role_by : Bool → Setup → ℕ → ℕ → ℕ → Option Input → Option Trigger → Option Life × List Out
role_by invite setup repeat fired now input trigger =
    by_role (role_at invite) setup.key (Some (waits invite setup repeat fired)) now input trigger

repeated : (invite : Bool) (setup : Setup) (repeat fired now : ℕ)
    → role_by invite setup repeat fired now None (Some on.RetransmitDue)
    ≡ again invite setup now fired
unfolding life_after outputs_of made_of handed_out
repeated true setup repeat fired now = refl
repeated false setup repeat fired now = refl

-- a trigger without a row for it
abbrev is_unmoved : Trigger → Bool
is_unmoved on.Start = true
is_unmoved on.Request = true
is_unmoved on.Ack = true
is_unmoved (on.Answer class) = true
is_unmoved trigger = false

unmoved : (invite : Bool) (setup : Setup) (repeat fired now : ℕ) (input : Option Input)
    (trigger : Trigger) → is_unmoved trigger ≡ true
    → role_by invite setup repeat fired now input (Some trigger)
    ≡ (Some (waits invite setup repeat fired), [])
unmoved true setup repeat fired now input on.Start is = refl
unmoved true setup repeat fired now input on.Request is = refl
unmoved true setup repeat fired now input on.Ack is = refl
unmoved true setup repeat fired now input (on.Answer class.Trying) is = refl
unmoved true setup repeat fired now input (on.Answer class.Provisional) is = refl
unmoved true setup repeat fired now input (on.Answer class.Success) is = refl
unmoved true setup repeat fired now input (on.Answer class.Failure) is = refl
unmoved false setup repeat fired now input on.Start is = refl
unmoved false setup repeat fired now input on.Request is = refl
unmoved false setup repeat fired now input on.Ack is = refl
unmoved false setup repeat fired now input (on.Answer class.Trying) is = refl
unmoved false setup repeat fired now input (on.Answer class.Provisional) is = refl
unmoved false setup repeat fired now input (on.Answer class.Success) is = refl
unmoved false setup repeat fired now input (on.Answer class.Failure) is = refl
unmoved invite setup repeat fired now input on.RetransmitDue is = absurd (false≢true is)
unmoved invite setup repeat fired now input on.TimeoutDue is = absurd (false≢true is)
unmoved invite setup repeat fired now input on.Failed is = absurd (false≢true is)
unmoved invite setup repeat fired now input (on.Response class) is = absurd (false≢true is)

abbrev step_of : Setup → Bool → ℕ → ℕ → ℕ → Option Input → Option Life × List Out
step_of setup invite repeat fired now input =
    stepped setup.key (Some (waits invite setup repeat fired))
    (record { moment = now; input = input })

module _ (invite : Bool) (setup : Setup) (own : role_of setup.key ≡ role_at invite)
    (repeat fired now : ℕ) where
  abbrev life : Life
  life = waits invite setup repeat fired

  ticked : nat_le setup.end now ≡ false → (due : Bool) → nat_le repeat now ≡ due
      → step_of setup invite repeat fired now None
      ≡ cond due (again invite setup now fired) (Some life, [])
  unfolding stepped step_for
  ticked before due is =
      ap (λ r. by_role r setup.key (Some life) now None (cond (nat_le setup.end now)
      (Some on.TimeoutDue) (cond (nat_le repeat now) (Some on.RetransmitDue) None))) own
      ∙ ap (λ e. role_by invite setup repeat fired now None (cond e
      (Some on.TimeoutDue) (cond (nat_le repeat now) (Some on.RetransmitDue) None))) before
      ∙ ap (λ r. role_by invite setup repeat fired now None (cond r (Some on.RetransmitDue) None)) is
      ∙ by_due due
    where
      by_due : (due : Bool)
          → role_by invite setup repeat fired now None (cond due (Some on.RetransmitDue) None)
          ≡ cond due (again invite setup now fired) (Some life, [])
      by_due true = repeated invite setup repeat fired now
      by_due false = refl

  moved : (input : Input) (trigger : Trigger) → is_unmoved trigger ≡ true
      → by_role (role_of setup.key) setup.key (Some life) now (Some input) (Some trigger)
      ≡ (Some life, [])
  moved input trigger is =
      ap (λ r. by_role r setup.key (Some life) now (Some input) (Some trigger)) own
      ∙ unmoved invite setup repeat fired now (Some input) trigger is

  received : (id : Id) (message : Message) (reply_to : Addr)
      → not (is_request_message message) ≡ false
      → step_of setup invite repeat fired now (Some (Receive id message reply_to))
      ≡ (Some life, [])
  unfolding stepped step_for
  received id message reply_to asks =
      by_line message.start asks
    where
      by_line : (line : StartLine) → not (is_request_line line) ≡ false
          → by_role (role_of setup.key) setup.key (Some life) now
          (Some (Receive id message reply_to)) (Some (arrival_of line message.cseq.method))
          ≡ (Some life, [])
      by_line (start.Request uri) asks =
          by_test (is_same_method message.cseq.method (codes "ACK"))
          (λ ack. moved (Receive id message reply_to)
          (arrival_of (start.Request uri) message.cseq.method)
          (ap (λ b. is_unmoved (cond b on.Ack on.Request)) ack))
          (λ other. moved (Receive id message reply_to)
          (arrival_of (start.Request uri) message.cseq.method)
          (ap (λ b. is_unmoved (cond b on.Ack on.Request)) other))
      by_line (start.Response status reason) asks = absurd (false≢true (sym asks))

  answered : (id : Id) (message : Message)
      → step_of setup invite repeat fired now (Some (Answer id message)) ≡ (Some life, [])
  unfolding stepped step_for
  answered id message = by_line message.start
    where
      by_line : (line : StartLine)
          → by_row (role_of setup.key) setup.key (Some life) now (Some (Answer id message))
          (option_and_then (row_of (rows_of (role_of setup.key)) (state_of (Some life)))
          (answer_of line))
          ≡ (Some life, [])
      by_line (start.Request uri) = refl
      by_line (start.Response status reason) =
          moved (Answer id message) (on.Answer (class_of status)) refl

  started : (id : Id) (call_id : List ℕ) (message : Message) (to : Addr)
      → step_of setup invite repeat fired now (Some (Start id call_id message to)) ≡ (Some life, [])
  unfolding stepped step_for
  started id call_id message to = moved (Start id call_id message to) on.Start refl

  calm : (input : Input) → ends_by setup.end now (Some input) ≡ false
      → (step_of setup invite repeat fired now (Some input)).0 ≡ Some life
  calm (Receive id message reply_to) asks =
      ap (λ (after : Option Life × List Out). after.0) (received id message reply_to asks)
  calm (Start id call_id message to) none =
      ap (λ (after : Option Life × List Out). after.0) (started id call_id message to)
  calm (Answer id message) none =
      ap (λ (after : Option Life × List Out). after.0) (answered id message)
  calm (Failed id) ends = absurd (false≢true (sym ends))
  calm Abandon ends = absurd (false≢true (sym ends))

-- the first input
abbrev begun_so : Bool → Key → ℕ → Id → List ℕ → Message → Addr → Setup
begun_so invite key now id call_id request to = record {
  key = key;
  id = id;
  call_id = call_id;
  to = to;
  kept = cond invite (Some request) None;
  text = written request;
  end = now + 32000;
}

abbrev first_of : Bool → Key → ℕ → Id → List ℕ → Message → Addr → Option Life × List Out
first_of invite key now id call_id request to = (
  Some (waits invite (begun_so invite key now id call_id request to) (now + 500) 0),
  out.Send key to (written request) ∷ [],
)

first_is : (i : Bool) (key : Key) (now : ℕ) (id : Id)
    (call_id : List ℕ) (request : Message) (to : Addr)
    → by_role (role_at i) key None now (Some (Start id call_id request to)) (Some on.Start)
    ≡ first_of i key now id call_id request to
unfolding begun life_after outputs_of made_of handed_out
first_is true key now id call_id request to = refl
first_is false key now id call_id request to = refl

pub begins : (invite : Bool) (key : Key) → role_of key ≡ role_at invite → (now : ℕ) (id : Id)
    (call_id : List ℕ) (request : Message) (to : Addr)
    → stepped key None (given_at now (Start id call_id request to))
    ≡ first_of invite key now id call_id request to
unfolding stepped step_for
begins invite key own now id call_id request to =
    ap (λ r. by_role r key None now (Some (Start id call_id request to)) (Some on.Start)) own
    ∙ first_is invite key now id call_id request to

-- ---- how often

abbrev client_repeats : (invite : Bool) (setup : Setup) → role_of setup.key ≡ role_at invite → Repeats
client_repeats invite setup own = record {
  key = setup.key;
  to = setup.to;
  text = setup.text;
  pace = pace_at invite;
  end = setup.end;
  life = waits invite setup;
  ends = ends_wait setup.end;
  due = λ repeat fired. refl;
  ticked = ticked invite setup own;
  calm = calm invite setup own;
}

-- ---- the law

first_interval : (invite : Bool) (now : ℕ) → now + 500 ≤ now + interval (pace_at invite) 0
first_interval true now = omega arith
first_interval false now = omega arith

pub a_request_is_repeated : EachRequestIsRepeated step_machine
a_request_is_repeated branch method lag repeats now end id call_id request to waiting in_time none
    late =
    let invite = is_invite method in
    let own = key.Client branch method in
    let setup = begun_so invite own now id call_id request to in
    let repeated = client_repeats invite setup refl in
    let often = subst (Often repeated lag now repeats end late 0 waiting)
    (sym (begins invite own refl now id call_id request to))
    (from_first repeated lag now repeats end late waiting none (now + 500)
    (first_interval invite now)) in_time.1 in
    subst (λ n. suc repeats ≤ n) (zero-add _) often
