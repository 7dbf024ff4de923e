-- A life of a client transaction begins with a request that is started. The request goes out at
-- once.
use Rattle.std.proofs.Common.{◌≡◌, ℕ, Bool, true, false, cond, ◌&&◌, ◌||◌, List, [], ◌∷◌, ◌++◌, refl, sym, ap, ◌∙◌, subst}
use Rattle.std.specs.Prelude.{not, IsSome, Option, None, Some, is_none, is_some, option_map, unwrap_or, codes}
use Rattle.std.specs.List.{flat_map}
use Rattle.std.proofs.lemmas.Bool.{false≢true}
use Rattle.std.proofs.lemmas.Grind.{flat_map-append}
use Rattle.sip_message.specs.declared.addr.Addr.{Addr}
use Rattle.sip_message.specs.declared.id.Id.{Id}
use Rattle.sip_message.specs.declared.key.Key.{Key}
use Rattle.sip_message.specs.declared.key.Key.TheVariants as key
use Rattle.sip_message.specs.declared.message.Message.{Message}
use Rattle.sip_message.specs.declared.start_line.StartLine.{StartLine}
use Rattle.sip_message.specs.declared.start_line.StartLine.TheVariants as start
use Rattle.sip_message.specs.Key.{key_cmp}
use Rattle.sip_message.specs.Written.{written}
use Rattle.keyed_machine.specs.Laws.{EachKeyAlone}
use Rattle.keyed_machine.specs.Machine.{Timed, adds, given_at, outputs_from, said_after, said_in_rest, tick_at}
use Rattle.keyed_machine.proofs.Ordered.{by_bool}
use Rattle.sip_transactions.specs.declared.input.Input.{Input}
use Rattle.sip_transactions.specs.declared.input.Input.TheVariants.{Receive, Start, Answer, Failed, Abandon}
use Rattle.sip_transactions.specs.declared.life.Context.{Context}
use Rattle.sip_transactions.specs.declared.life.Life.{Life}
use Rattle.sip_transactions.specs.declared.output.Out.{Out}
use Rattle.sip_transactions.specs.declared.output.Out.TheVariants as out
use Rattle.sip_transactions.specs.declared.state.Role.TheVariants as role
use Rattle.sip_transactions.specs.declared.state.State.{State}
use Rattle.sip_transactions.specs.declared.step.Due.{Due}
use Rattle.sip_transactions.specs.declared.step.UpAction.{UpAction}
use Rattle.sip_transactions.specs.declared.step.UpAction.TheVariants as up
use Rattle.sip_transactions.specs.declared.step.Next.{Next}
use Rattle.sip_transactions.specs.declared.step.Next.TheVariants.{Same, Ended, Become}
use Rattle.sip_transactions.specs.declared.step.Sent.{Sent}
use Rattle.sip_transactions.specs.declared.step.Sent.TheVariants as send
use Rattle.sip_transactions.specs.declared.step.Step.{Step}
use Rattle.sip_transactions.specs.declared.trigger.Trigger.{Trigger}
use Rattle.sip_transactions.specs.declared.trigger.Trigger.TheVariants as on
use Rattle.sip_transactions.specs.Steps.Input.{arrival_of, is_same_method, role_of}
use Rattle.sip_transactions.specs.Steps.Life.{begun, context_by, entered, keeps_request, life_after, stepped}
use Rattle.sip_transactions.specs.Machine.{transaction_machine}
use Rattle.sip_transactions.proofs.Rules.{step_is}
use Rattle.sip_transactions.specs.Steps.Output.{handed_out, made_bytes, made_of, outputs_of}
use Rattle.sip_transactions.specs.Rows.{rows_of}
use Rattle.sip_transactions.proofs.LawSteps.{RowFor, abandoned, by_step, is_ended}
use Rattle.sip_transactions.proofs.RowFacts.{and-left, and-right, row_passes, table_passes}
use Rattle.sip_round.specs.declared.config.Config.{Config}
use Rattle.sip_round.specs.declared.round.Round.{Round}
use Rattle.sip_round.specs.Answers.{answers, past_of}
use Rattle.sip_round.specs.Given.{AnswersGiveOwnSends, GivesStartedRequests, send_in}
use Rattle.sip_round.proofs.Lives.{in_lives}
use Rattle.sip_round.proofs.Said.{transaction_alone}

-- ---- tests of the tables of clients

abbrev is_start : Trigger → Bool
is_start on.Start = true
is_start on.RetransmitDue = false
is_start on.TimeoutDue = false
is_start on.Failed = false
is_start on.Request = false
is_start on.Ack = false
is_start (on.Response c) = false
is_start (on.Answer c) = false

abbrev is_nothing : UpAction → Bool
is_nothing up.Nothing = true
is_nothing up.Message = false
is_nothing up.Timeout = false
is_nothing up.Failed = false
is_nothing up.NoTransaction = false

abbrev is_given : Sent → Bool
is_given send.Nothing = false
is_given send.Given = true
is_given send.Latest = false
is_given send.Trying = false
is_given send.Ack = false

-- only a start begins a life; it sends what it is given, and hands nothing up
abbrev starts_alone : Option State → Trigger → Step → Bool
starts_alone state trigger step = not (is_none state)
    || cond (is_start trigger) (is_nothing step.handed && is_given step.sent) (is_ended step.next)

tables_start : (branch method : List ℕ)
    → table_passes starts_alone (rows_of (role_of (key.Client branch method))) ≡ true
tables_start branch method =
    by_bool (is_same_method method (codes "INVITE"))
    (λ hit. ap (λ b. table_passes starts_alone
    (rows_of (cond b role.InviteClient role.Client))) hit)
    (λ miss. ap (λ b. table_passes starts_alone
    (rows_of (cond b role.InviteClient role.Client))) miss)

-- ---- what a start sends

given_out : (key : Key) (context : Context) (n : Next) (h : UpAction) (s : Sent) (d : Due)
    (message : Message) → is_nothing h ≡ true → is_given s ≡ true
    → outputs_of key context (record { next = n; handed = h; sent = s; due = d })
    (made_bytes context.request s (Some message)) None
    ≡ out.Send key context.to (written message) ∷ []
unfolding outputs_of handed_out made_of
given_out key context n up.Nothing send.Given d message nothing given = refl
given_out key context n up.Nothing send.Nothing d message nothing given =
    absurd (false≢true given)
given_out key context n up.Nothing send.Latest d message nothing given =
    absurd (false≢true given)
given_out key context n up.Nothing send.Trying d message nothing given =
    absurd (false≢true given)
given_out key context n up.Nothing send.Ack d message nothing given = absurd (false≢true given)
given_out key context n up.Message s d message nothing given = absurd (false≢true nothing)
given_out key context n up.Timeout s d message nothing given = absurd (false≢true nothing)
given_out key context n up.Failed s d message nothing given = absurd (false≢true nothing)
given_out key context n up.NoTransaction s d message nothing given = absurd (false≢true nothing)

-- ---- what begins a life

none_held : (o : Option Life) → o ≡ None → IsSome o → ⊥
none_held o none some = false≢true (sym (ap is_some none) ∙ some)

ended_so : (n : Next) → is_ended n ≡ true → entered n None ≡ None
ended_so Same ended = absurd (false≢true ended)
ended_so Ended ended = refl
ended_so (Become state) ended = absurd (false≢true ended)

module _ (branch method : List ℕ) where
  abbrev client : Key
  client = key.Client branch method

  row_starts : (trigger : Trigger) (timed : Timed Input) (step : Step)
      → (row : RowFor client None timed step)
      → cond (is_start row.trigger) (is_nothing step.handed && is_given step.sent)
      (is_ended step.next) ≡ true
  row_starts trigger timed step row =
      row_passes starts_alone (rows_of (role_of client)) (tables_start branch method) None
      row.trigger step row.row

  no_arrival : (line : StartLine) (name : List ℕ) → is_start (arrival_of line name) ≡ false
  no_arrival (start.Request uri) name =
      by_bool (is_same_method name (codes "ACK"))
      (λ hit. ap (λ b. is_start (cond b on.Ack on.Request)) hit)
      (λ miss. ap (λ b. is_start (cond b on.Ack on.Request)) miss)
  no_arrival (start.Response status reason) name = refl

  -- a life begins with a start, and its request goes out
  record Begins (first : Timed Input) : Type 0 where
    pub now : ℕ
    pub id : Id
    pub call_id : List ℕ
    pub request : Message
    pub to : Addr
    pub is : first ≡ given_at now (Start id call_id request to)
    pub sends : adds transaction_machine client None first
        ≡ out.Send client to (written request) ∷ []

  started_out : (now : ℕ) (id : Id) (call_id : List ℕ) (request : Message) (to : Addr)
      → IsSome (stepped client None (given_at now (Start id call_id request to))).0
      → (stepped client None (given_at now (Start id call_id request to))).1
      ≡ out.Send client to (written request) ∷ []
  unfolding begun
  started_out now id call_id request to =
      by_step (λ after. IsSome after.0 → after.1 ≡ out.Send client to (written request) ∷ [])
      client None (given_at now (Start id call_id request to)) (λ some. absurd (false≢true some))
      (λ some. absurd (false≢true some))
      (λ step row some.
      let started : is_start row.trigger ≡ true =
      ap (λ o. is_start (unwrap_or o on.Start)) (sym row.triggered) in
      let both : (is_nothing step.handed && is_given step.sent) ≡ true =
      sym (ap (λ b. cond b (is_nothing step.handed && is_given step.sent)
      (is_ended step.next)) started) ∙ row_starts row.trigger _ step row in
      given_out client
      (context_by id call_id to (cond (keeps_request (role_of client)) (Some request) None))
      step.next step.handed step.sent step.due request
      (and-left (is_nothing step.handed) (is_given step.sent) both)
      (and-right (is_nothing step.handed) (is_given step.sent) both))

  arrived_none : (now : ℕ) (id : Id) (message : Message) (to : Addr)
      → IsSome (stepped client None (given_at now (Receive id message to))).0 → ⊥
  unfolding begun life_after
  arrived_none now id message to =
      by_step (λ after. IsSome after.0 → ⊥) client None (given_at now (Receive id message to))
      (λ some. false≢true some) (λ some. false≢true some)
      (λ step row.
      let other : is_start row.trigger ≡ false =
      ap (λ o. is_start (unwrap_or o on.Ack)) (sym row.triggered)
      ∙ no_arrival message.start message.cseq.method in
      let ended : is_ended step.next ≡ true =
      sym (ap (λ b. cond b (is_nothing step.handed && is_given step.sent)
      (is_ended step.next)) other) ∙ row_starts row.trigger _ step row in
      none_held _ (ap (option_map _) (ended_so step.next ended)))

  begins_so : (now : ℕ) (input : Option Input)
      → IsSome (stepped client None (record { moment = now; input = input })).0
      → Begins (record { moment = now; input = input })
  unfolding begun
  begins_so now None some =
      absurd (by_step (λ after. IsSome after.0 → ⊥) client None (tick_at now)
      (λ some. false≢true some) (λ some. false≢true some)
      (λ step row some. false≢true some) some)
  begins_so now (Some (Receive id message to)) some = absurd (arrived_none now id message to some)
  begins_so now (Some (Start id call_id request to)) some = record {
    now = now;
    id = id;
    call_id = call_id;
    request = request;
    to = to;
    is = refl;
    sends = ap (λ (done : Option Life × List Out). done.1)
        (step_is client None now (Some (Start id call_id request to)))
        ∙ started_out now id call_id request to some;
  }
  begins_so now (Some (Answer id message)) some =
      absurd (by_step (λ after. IsSome after.0 → ⊥) client None (given_at now (Answer id message))
      (λ some. false≢true some) (λ some. false≢true some) (λ step row some. false≢true some) some)
  begins_so now (Some (Failed id)) some =
      absurd (by_step (λ after. IsSome after.0 → ⊥) client None (given_at now (Failed id))
      (λ some. false≢true some) (λ some. false≢true some) (λ step row some. false≢true some) some)
  begins_so now (Some Abandon) some =
      absurd (false≢true (sym (ap (λ (done : Option Life × List Out). is_some done.0)
      (abandoned client None now)) ∙ some))

-- ---- over rounds

pub started_requests : EachKeyAlone key_cmp transaction_machine tick_at → AnswersGiveOwnSends
    → (config : Config) (rounds : List Round)
    → GivesStartedRequests config rounds (answers config rounds)
started_requests alone own config rounds branch method life =
    let k = key.Client branch method in
    let first = begins_so branch method life.first.moment life.first.input
    (subst (λ (done : Option Life × List Out). IsSome done.0)
    (step_is k None life.first.moment life.first.input) life.begins) in
    let before = outputs_from transaction_machine k None life.before in
    let later = said_in_rest life ++ said_after life in
    record {
      now = first.now;
      id = first.id;
      call_id = first.call_id;
      request = first.request;
      to = first.to;
      begins = first.is;
      sends = own config rounds k
          ∙ ap (flat_map send_in)
          (transaction_alone alone [] (past_of config rounds).transactions k
          ∙ in_lives transaction_machine k life
          ∙ ap (λ outs. before ++ (outs ++ later)) first.sends)
          ∙ flat_map-append send_in before
          (out.Send k first.to (written first.request) ∷ later);
    }
