-- What one or two inputs do to a server transaction that is held.
use Rattle.std.proofs.Common.{◌≡◌, ℕ, ◌+◌, Bool, true, false, cond, List, [], ◌∷◌, ◌⊎◌, inl, inr, refl, sym, ◌∙◌, ap}
use Rattle.std.specs.Prelude.{Option, None, Some, nat_le, codes, option_and_then, option_map, option_to_list}
use Rattle.std.proofs.lemmas.Bool.{false≢true}
use Rattle.sip_message.specs.declared.addr.Addr.{Addr}
use Rattle.sip_message.specs.declared.id.Id.{Id}
use Rattle.sip_message.specs.declared.key.Key.{Key}
use Rattle.sip_message.specs.declared.key.Key.TheVariants as key
use Rattle.sip_message.specs.declared.message.Message.{Message}
use Rattle.sip_message.specs.Written.{written}
use Rattle.sip_transactions.specs.declared.life.Life.{Life}
use Rattle.sip_transactions.specs.declared.output.Out.{Out}
use Rattle.sip_transactions.specs.declared.output.Out.TheVariants.{Send}
use Rattle.sip_transactions.specs.declared.input.Input.TheVariants as input
use Rattle.sip_transactions.specs.declared.input.Input.{Input}
use Rattle.keyed_machine.specs.Machine.{Timed, tick_at}
use Rattle.sip_transactions.specs.declared.state.Role.{Role}
use Rattle.sip_transactions.specs.declared.state.Role.TheVariants.{InviteClient, Client, InviteServer, Server}
use Rattle.sip_transactions.specs.declared.state.State.{State}
use Rattle.sip_transactions.specs.declared.state.State.TheVariants.{Calling, Trying, Proceeding, Completed, Accepted, Confirmed}
use Rattle.sip_transactions.specs.declared.step.Due.TheVariants.{Keep, Clear, Ending}
use Rattle.sip_transactions.specs.declared.step.UpAction.TheVariants as up
use Rattle.sip_transactions.specs.declared.step.Next.TheVariants.{Same, Ended, Become}
use Rattle.sip_transactions.specs.declared.step.Sent.TheVariants as send
use Rattle.sip_transactions.specs.declared.step.Step.{Step}
use Rattle.sip_timers.specs.declared.estimate.TheConstants.{LIFETIME}
use Rattle.sip_transactions.specs.declared.trigger.Class.TheVariants as class
use Rattle.sip_transactions.specs.declared.trigger.Trigger.{Trigger}
use Rattle.sip_transactions.specs.declared.trigger.Trigger.TheVariants as on
use Rattle.sip_transactions.specs.Steps.Input.{answer_of, is_abandon, is_same_method, role_of, trigger_of}
use Rattle.sip_transactions.specs.Laws.{IsServer}
use Rattle.sip_transactions.specs.Steps.Life.{stepped, stepped_by, step_for, acted, given_up, life_after}
use Rattle.sip_transactions.specs.Steps.Output.{outputs_of, made_of, handed_out}
use Rattle.sip_transactions.specs.Rows.{row_of, rows_of}
use Rattle.sip_transactions.specs.ServerLaws.{is_answering, is_open, is_final_answer, answering, AnsweredAgain, EndsAfterItsAnswer, FailedSendKeeps}
use Rattle.sip_transactions.specs.Shard.{failed_send, receipt}
use Rattle.sip_transactions.specs.Steps.Life.{step_machine}
use Rattle.sip_transactions.proofs.RowFacts.{by_test}

-- ---- the tables of servers
is_server : Role → Bool
is_server InviteClient = false
is_server Client = false
is_server InviteServer = true
is_server Server = true

server_role : (k : Key) → IsServer k → is_server (role_of k) ≡ true
unfolding is_server
server_role (key.Client branch method) none = absurd none
server_role (key.Server branch sent_by method) server =
    by_test (is_same_method method (codes "INVITE"))
    (λ hit. ap (λ b. is_server (cond b InviteServer Server)) hit)
    (λ miss. ap (λ b. is_server (cond b InviteServer Server)) miss)

-- an input of a life, if this row fits it
by_row : (key : Key) (life : Life) (timed : Timed Input) (trigger : Trigger) (row : Option Step)
    → is_abandon timed.input ≡ false
    → trigger_of (Some life) timed.moment timed.input ≡ Some trigger
    → row_of (rows_of (role_of key)) (Some life.state) trigger ≡ row
    → stepped key (Some life) timed ≡ stepped_by key (Some life) timed.moment timed.input row
unfolding stepped step_for
by_row key life timed trigger row goes_on triggered fits =
    let by : Option Trigger → Option Life × List Out =
    λ t. stepped_by key (Some life) timed.moment timed.input
    (option_and_then (row_of (rows_of (role_of key)) (Some life.state)) t) in
    ap (λ b. stepped_by key (Some life) timed.moment timed.input (cond b (Some given_up)
    (option_and_then (row_of (rows_of (role_of key)) (Some life.state))
    (trigger_of (Some life) timed.moment timed.input)))) goes_on
    ∙ ap by triggered
    ∙ ap (stepped_by key (Some life) timed.moment timed.input) fits

-- ---- a request that was answered
again : Step
again = record { next = Same; handed = up.Nothing; sent = send.Latest; due = Keep }

again_row : (r : Role) → is_server r ≡ true → (s : State) → is_answering s ≡ true
    → row_of (rows_of r) (Some s) on.Request ≡ Some again
unfolding is_server again
again_row InviteClient server s answering = absurd (false≢true server)
again_row Client server s answering = absurd (false≢true server)
again_row InviteServer server Calling answering = absurd (false≢true answering)
again_row InviteServer server Trying answering = absurd (false≢true answering)
again_row InviteServer server Proceeding answering = refl
again_row InviteServer server Completed answering = refl
again_row InviteServer server Accepted answering = absurd (false≢true answering)
again_row InviteServer server Confirmed answering = absurd (false≢true answering)
again_row Server server Calling answering = absurd (false≢true answering)
again_row Server server Trying answering = absurd (false≢true answering)
again_row Server server Proceeding answering = refl
again_row Server server Completed answering = refl
again_row Server server Accepted answering = absurd (false≢true answering)
again_row Server server Confirmed answering = absurd (false≢true answering)

acted_again : (key : Key) (life : Life) (bytes : List ℕ) → life.context.last ≡ Some bytes
    → (id : Id) (message : Message) (reply_to : Addr) (now : ℕ)
    → acted key now (Some (input.Receive id message reply_to)) (Some life.state) life.context again
    ≡ (Some life, Send key life.context.to bytes ∷ [])
unfolding again life_after outputs_of made_of handed_out
acted_again key life bytes last id message reply_to now =
    ap (λ o. (Some life, option_to_list (option_map (λ b. Send key life.context.to b) o))) last

pub answered_again : AnsweredAgain step_machine
answered_again key server life bytes answering last id message reply_to now request =
    by_row key life (receipt id message reply_to now) on.Request (Some again) refl
    (ap (λ (t : Trigger). Some t) request)
    (again_row (role_of key) (server_role key server) life.state answering)
    ∙ acted_again key life bytes last id message reply_to now

-- ---- a failed send
keeps : Step
keeps = record { next = Same; handed = up.Failed; sent = send.Nothing; due = Keep }

failed_row : (r : Role) → is_server r ≡ true → (s : State)
    → (row_of (rows_of r) (Some s) on.Failed ≡ Some keeps)
    ⊎ (row_of (rows_of r) (Some s) on.Failed ≡ None)
unfolding is_server keeps
failed_row InviteClient server s = absurd (false≢true server)
failed_row Client server s = absurd (false≢true server)
failed_row InviteServer server Calling = inr refl
failed_row InviteServer server Trying = inr refl
failed_row InviteServer server Proceeding = inl refl
failed_row InviteServer server Completed = inl refl
failed_row InviteServer server Accepted = inl refl
failed_row InviteServer server Confirmed = inl refl
failed_row Server server Calling = inr refl
failed_row Server server Trying = inl refl
failed_row Server server Proceeding = inl refl
failed_row Server server Completed = inl refl
failed_row Server server Accepted = inr refl
failed_row Server server Confirmed = inr refl

acted_failed : (key : Key) (life : Life) (id : Id) (now : ℕ)
    → (acted key now (Some (input.Failed id)) (Some life.state) life.context keeps).0 ≡ Some life
unfolding keeps life_after
acted_failed key life id now = refl

by_failed_row : (key : Key) (life : Life) (id : Id) (now : ℕ)
    → (row_of (rows_of (role_of key)) (Some life.state) on.Failed ≡ Some keeps)
    ⊎ (row_of (rows_of (role_of key)) (Some life.state) on.Failed ≡ None)
    → (stepped key (Some life) (failed_send id now)).0 ≡ Some life
by_failed_row key life id now (inl fits) =
    ap (λ p. p.0) (by_row key life (failed_send id now) on.Failed (Some keeps) refl refl fits)
    ∙ acted_failed key life id now
by_failed_row key life id now (inr none) =
    ap (λ p. p.0) (by_row key life (failed_send id now) on.Failed None refl refl none)

pub failed_send_keeps : FailedSendKeeps step_machine
failed_send_keeps key server life id now =
    by_failed_row key life id now (failed_row (role_of key) (server_role key server) life.state)

-- ---- a final answer
answers : Step
answers = record {
  next = Become Completed;
  handed = up.Nothing;
  sent = send.Given;
  due = Ending LIFETIME;
}

answer_row : (s : State) → is_open s ≡ true → (t : Trigger) → is_final_answer (Some t) ≡ true
    → row_of (rows_of Server) (Some s) t ≡ Some answers
unfolding answers
answer_row Calling unanswered t final = absurd (false≢true unanswered)
answer_row Completed unanswered t final = absurd (false≢true unanswered)
answer_row Accepted unanswered t final = absurd (false≢true unanswered)
answer_row Confirmed unanswered t final = absurd (false≢true unanswered)
answer_row s unanswered on.Start final = absurd (false≢true final)
answer_row s unanswered on.RetransmitDue final = absurd (false≢true final)
answer_row s unanswered on.TimeoutDue final = absurd (false≢true final)
answer_row s unanswered on.Failed final = absurd (false≢true final)
answer_row s unanswered on.Request final = absurd (false≢true final)
answer_row s unanswered on.Ack final = absurd (false≢true final)
answer_row s unanswered (on.Response c) final = absurd (false≢true final)
answer_row s unanswered (on.Answer class.Trying) final = absurd (false≢true final)
answer_row s unanswered (on.Answer class.Provisional) final = absurd (false≢true final)
answer_row Trying unanswered (on.Answer class.Success) final = refl
answer_row Proceeding unanswered (on.Answer class.Success) final = refl
answer_row Trying unanswered (on.Answer class.Failure) final = refl
answer_row Proceeding unanswered (on.Answer class.Failure) final = refl

-- the life after it
answered : ℕ → Message → Life → Life
answered now response life = record {
  state = Completed;
  context = record life.context {
    last = Some (written response);
    timers = record { repeat = None; fired = 0; ending = Some (now + LIFETIME) };
  };
}

acted_answer : (key : Key) (life : Life) (id : Id) (response : Message) (now : ℕ)
    → (acted key now (Some (input.Answer id response)) (Some life.state) life.context answers).0
    ≡ Some (answered now response life)
unfolding answers answered life_after made_of
acted_answer key life id response now = refl

by_answer : (key : Key) → role_of key ≡ Server → (life : Life) → is_open life.state ≡ true
    → (id : Id) (response : Message) (now : ℕ) (o : Option Trigger) → answer_of response.start ≡ o
    → is_final_answer o ≡ true
    → (stepped key (Some life) (answering id response now)).0 ≡ Some (answered now response life)
by_answer key server life unanswered id response now None is final = absurd (false≢true final)
by_answer key server life unanswered id response now (Some t) is final =
    ap (λ p. p.0) (by_row key life (answering id response now) t (Some answers) refl is
    (ap (λ r. row_of (rows_of r) (Some life.state) t) server
    ∙ answer_row life.state unanswered t final))
    ∙ acted_answer key life id response now

-- ---- the end of a life, at a tick
ends : Step
ends = record { next = Ended; handed = up.Nothing; sent = send.Nothing; due = Clear }

ends_row : row_of (rows_of Server) (Some Completed) on.TimeoutDue ≡ Some ends
unfolding ends
ends_row = refl

acted_end : (key : Key) (life : Life) (moment : ℕ)
    → (acted key moment None (Some life.state) life.context ends).0 ≡ None
unfolding ends life_after
acted_end key life moment = refl

by_nothing : (key : Key) (life : Life) (timed : Timed Input)
    → is_abandon timed.input ≡ false → trigger_of (Some life) timed.moment timed.input ≡ None
    → stepped key (Some life) timed ≡ (Some life, [])
unfolding stepped step_for
by_nothing key life timed goes_on none =
    let by : Option Trigger → Option Life × List Out =
    λ t. stepped_by key (Some life) timed.moment timed.input
    (option_and_then (row_of (rows_of (role_of key)) (Some life.state)) t) in
    ap (λ b. stepped_by key (Some life) timed.moment timed.input (cond b (Some given_up)
    (option_and_then (row_of (rows_of (role_of key)) (Some life.state))
    (trigger_of (Some life) timed.moment timed.input)))) goes_on
    ∙ ap by none

due_at : (now moment : ℕ) (response : Message) (life : Life) (b : Bool)
    → nat_le (now + LIFETIME) moment ≡ b
    → trigger_of (Some (answered now response life)) moment None
    ≡ cond b (Some on.TimeoutDue) None
unfolding answered
due_at now moment response life b is =
    ap (λ (late : Bool). cond late (Some on.TimeoutDue) None) is

at_tick : (key : Key) → role_of key ≡ Server → (now moment : ℕ) (response : Message) (life : Life)
    (b : Bool) → nat_le (now + LIFETIME) moment ≡ b
    → (stepped key (Some (answered now response life)) (tick_at moment)).0
    ≡ cond b None (Some (answered now response life))
unfolding answered
at_tick key server now moment response life true late =
    ap (λ p. p.0) (by_row key (answered now response life) (tick_at moment) on.TimeoutDue
    (Some ends) refl
    (due_at now moment response life true late)
    (ap (λ r. row_of (rows_of r) (Some Completed) on.TimeoutDue) server ∙ ends_row))
    ∙ acted_end key (answered now response life) moment
at_tick key server now moment response life false early =
    ap (λ p. p.0) (by_nothing key (answered now response life) (tick_at moment) refl
    (due_at now moment response life false early))

pub ends_after_its_answer : EndsAfterItsAnswer step_machine
ends_after_its_answer key server life unanswered id response now final moment =
    let done : (stepped key (Some life) (answering id response now)).0
    ≡ Some (answered now response life) =
    by_answer key server life unanswered id response now (answer_of response.start) refl final in
    ap (λ held. (stepped key held (tick_at moment)).0) done
    ∙ at_tick key server now moment response life (nat_le (now + LIFETIME) moment) refl
    ∙ sym (ap (λ held. cond (nat_le (now + LIFETIME) moment) None held) done)
