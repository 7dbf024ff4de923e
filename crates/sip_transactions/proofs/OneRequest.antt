-- A life of a server key hands its request up once.
use Rattle.std.proofs.Common.{◌≡◌, ℕ, ◌+◌, true, cond, ◌&&◌, ◌||◌, List, [], ◌∷◌, inl, inr, refl, sym, ◌∙◌, ap, zero-add}
use Rattle.std.specs.Prelude.{not, Option, None, Some, IsSome, is_some, option_map, option_to_list, codes}
use Rattle.std.proofs.lemmas.Bool.{false≢true}
use Rattle.std.proofs.lemmas.List.Sums.{sum_by-append}
use Rattle.sip_message.specs.declared.addr.Addr.{Addr}
use Rattle.sip_message.specs.declared.key.Key.{Key}
use Rattle.sip_message.specs.declared.message.Message.{Message}
use Rattle.sip_message.specs.declared.start_line.StartLine.{StartLine}
use Rattle.sip_message.specs.declared.start_line.StartLine.TheVariants as start
use Rattle.keyed_machine.specs.Machine.{outputs_from, Timed}
use Rattle.keyed_machine.proofs.Lives.{IsWithinLife, is_within}
use Rattle.sip_transactions.specs.declared.input.Input.{Input}
use Rattle.sip_transactions.specs.declared.input.Input.TheVariants.{Receive, Start, Answer, Failed, Abandon}
use Rattle.sip_transactions.specs.declared.life.Context.{Context}
use Rattle.sip_transactions.specs.declared.life.Life.{Life}
use Rattle.sip_transactions.specs.declared.output.UpKind.TheVariants as kind
use Rattle.sip_transactions.specs.declared.state.State.{State}
use Rattle.sip_transactions.specs.declared.step.Step.{Step}
use Rattle.sip_transactions.specs.declared.step.Next.{Next}
use Rattle.sip_transactions.specs.declared.step.Next.TheVariants.{Same, Ended, Become}
use Rattle.sip_transactions.specs.declared.step.UpAction.{UpAction}
use Rattle.sip_transactions.specs.declared.step.UpAction.TheVariants as up
use Rattle.sip_transactions.specs.declared.trigger.Trigger.{Trigger}
use Rattle.sip_transactions.specs.declared.trigger.Trigger.TheVariants as on
use Rattle.sip_transactions.specs.Rows.{rows_of}
use Rattle.sip_transactions.specs.Steps.Input.{role_of, trigger_of, is_same_method, arrival_of, arrived_in}
use Rattle.sip_transactions.specs.Steps.Output.{handed_out, kind_of, up_out}
use Rattle.sip_transactions.specs.Steps.Life.{stepped, acted_if, begun, life_after, life_in, entered, armed, last_of}
use Rattle.sip_transactions.specs.Laws.{IsServer, OneRequestUp, is_request_up, requests_in}
use Rattle.sip_transactions.specs.Steps.Life.{step_machine}
use Rattle.sip_transactions.proofs.RowFacts.{by_test, or_cases, and-left, and-right, row_passes, not_both}
use Rattle.sip_transactions.proofs.LawSteps.{by_step, is_request, is_ended, is_message, begins_by_request, later_not_handed_up, later_in_tables, server_tables, requests-outputs}

-- an ended life isn't held
entered-ended : (next : Next) (state : Option State) → is_ended next ≡ true
    → entered next state ≡ None
entered-ended Same state ended = absurd (false≢true ended)
entered-ended Ended state ended = refl
entered-ended (Become new) state ended = absurd (false≢true ended)

pub life_after-ended : (state : Option State) (context : Context) (step : Step) (now : ℕ)
    (bytes : Option (List ℕ)) → is_ended step.next ≡ true
    → life_after state context step now bytes ≡ None
unfolding life_after
life_after-ended state context step now bytes ended =
    ap (option_map (life_in (armed step.due now (last_of bytes context))))
    (entered-ended step.next state ended)

none_is_none : {T : Type 0} (o : Option T) → o ≡ None → IsSome o → ⊥
none_is_none o none some = false≢true (sym (ap is_some none) ∙ some)

-- a request that came is handed up as one
up_request : (key : Key) (context : Context) (handed : UpAction) (message : Message) (reply_to : Addr)
    (line : StartLine) → message.start ≡ line → is_message handed ≡ true
    → is_request (arrival_of line message.cseq.method) ≡ true
    → requests_in (option_to_list (handed_out key context handed (Some (message, reply_to)))) ≡ 1
unfolding handed_out
up_request key context up.Nothing message reply_to line is handed request =
    absurd (false≢true handed)
up_request key context up.Message message reply_to (start.Request uri) is handed request =
    by_test (is_same_method message.cseq.method (codes "ACK"))
    (λ ack. absurd (not_both _ request (ap (λ b. is_request (cond b on.Ack on.Request)) ack)))
    (λ other. ap (λ l. requests_in
    (option_to_list (Some (up_out key context (kind_of l message reply_to))))) is
    ∙ ap (λ b. requests_in (option_to_list
    (Some (up_out key context (cond b (kind.Ack message) (kind.Request message reply_to))))))
    other)
up_request key context up.Message message reply_to (start.Response status reason) is handed
    request =
    absurd (false≢true request)
up_request key context up.Timeout message reply_to line is handed request =
    absurd (false≢true handed)
up_request key context up.Failed message reply_to line is handed request =
    absurd (false≢true handed)
up_request key context up.NoTransaction message reply_to line is handed request =
    absurd (false≢true handed)

-- a life that goes on hasn't ended, so it began with a request
begun_by_request : (context : Context) (step : Step) (now : ℕ) (bytes : Option (List ℕ))
    (trigger : Trigger) → (is_ended step.next || (is_message step.handed && is_request trigger))
    ≡ true → IsSome (life_after None context step now bytes)
    → (is_message step.handed && is_request trigger) ≡ true
begun_by_request context step now bytes trigger passed goes_on =
    elim (or_cases (is_ended step.next) (is_message step.handed && is_request trigger) passed) [
      | inl ended ↦ absurd (none_is_none _ (life_after-ended None context step now bytes ended)
          goes_on)
      | inr request ↦ request
    ]

-- the first input of a life
begins_once : (key : Key) (now : ℕ) (input : Option Input) (step : Step) (trigger : Trigger)
    → trigger_of None now input ≡ Some trigger
    → (is_ended step.next || (is_message step.handed && is_request trigger)) ≡ true
    → IsSome (acted_if key now input None (begun (role_of key) input) step).0
    → requests_in (acted_if key now input None (begun (role_of key) input) step).1 ≡ 1
unfolding begun
begins_once key now None step trigger triggered passed goes_on = absurd (false≢true goes_on)
begins_once key now (Some (Answer id message)) step trigger triggered passed goes_on =
    absurd (false≢true goes_on)
begins_once key now (Some (Failed id)) step trigger triggered passed goes_on =
    absurd (false≢true goes_on)
begins_once key now (Some Abandon) step trigger triggered passed goes_on =
    absurd (false≢true goes_on)
begins_once key now (Some (Start id call_id message to)) step trigger triggered passed goes_on =
    let same : on.Start ≡ trigger = cc in
    let request : (is_message step.handed && is_request trigger) ≡ true =
    begun_by_request _ step now _ trigger passed goes_on in
    absurd (false≢true (ap is_request same
    ∙ and-right (is_message step.handed) (is_request trigger) request))
begins_once key now (Some (Receive id message reply_to)) step trigger triggered passed goes_on =
    let same : arrival_of message.start message.cseq.method ≡ trigger = cc in
    let request : (is_message step.handed && is_request trigger) ≡ true =
    begun_by_request _ step now _ trigger passed goes_on in
    requests-outputs key _ step _ _
    ∙ up_request key _ step.handed message reply_to message.start refl
    (and-left (is_message step.handed) (is_request trigger) request)
    (ap is_request same ∙ and-right (is_message step.handed) (is_request trigger) request)

pub first_once : (key : Key) → IsServer key → (first : Timed Input)
    → IsSome (stepped key None first).0
    → requests_in (stepped key None first).1 ≡ 1
first_once key server first =
    by_step (λ after. IsSome after.0 → requests_in after.1 ≡ 1) key None first
    (λ some. absurd (false≢true some)) (λ some. absurd (false≢true some))
    (λ step row. begins_once key first.moment first.input step row.trigger row.triggered
    (row_passes begins_by_request (rows_of (role_of key))
    (server_tables key server) None row.trigger step row.row))

-- a later input
later_receive : (key : Key) (context : Context) (message : Message) (reply_to : Addr)
    (line : StartLine)
    → message.start ≡ line → not (is_request (arrival_of line message.cseq.method)) ≡ true
    → requests_in (option_to_list (Some (up_out key context
    (kind_of message.start message reply_to))))
    ≡ 0
later_receive key context message reply_to (start.Response status reason) is other =
    ap (λ l. requests_in (option_to_list (Some (up_out key context (kind_of l message reply_to)))))
    is
later_receive key context message reply_to (start.Request uri) is other =
    ap (λ l. requests_in (option_to_list (Some (up_out key context (kind_of l message reply_to)))))
    is
    ∙ by_test (is_same_method message.cseq.method (codes "ACK"))
    (λ ack. ap (λ b. requests_in (option_to_list
    (Some (up_out key context (cond b (kind.Ack message) (kind.Request message reply_to)))))) ack)
    (λ plain. absurd (false≢true (sym (ap (λ b. not (is_request (cond b on.Ack on.Request))) plain)
    ∙ other)))

pub later_once : (key : Key) (held : Option Life) (context : Context) (handed : UpAction) (now : ℕ)
    (input : Option Input) (trigger : Trigger) → trigger_of held now input ≡ Some trigger
    → not (is_message handed && is_request trigger) ≡ true
    → requests_in (option_to_list (handed_out key context handed (arrived_in input))) ≡ 0
unfolding handed_out
later_once key held context up.Nothing now input trigger triggered passed = refl
later_once key held context up.Timeout now input trigger triggered passed = refl
later_once key held context up.Failed now input trigger triggered passed = refl
later_once key held context up.NoTransaction now input trigger triggered passed = refl
later_once key held context up.Message now None trigger triggered passed = refl
later_once key held context up.Message now (Some (Start id call_id message to)) trigger triggered
    passed = refl
later_once key held context up.Message now (Some (Answer id message)) trigger triggered passed =
    refl
later_once key held context up.Message now (Some (Failed id)) trigger triggered passed = refl
later_once key held context up.Message now (Some Abandon) trigger triggered passed = refl
later_once key held context up.Message now (Some (Receive id message reply_to)) trigger triggered
    passed =
    let same : arrival_of message.start message.cseq.method ≡ trigger = cc in
    later_receive key context message reply_to message.start refl
    (ap (λ t. not (is_request t)) same ∙ passed)

pub held_silent : (key : Key) (life : Life) (timed : Timed Input)
    → requests_in (stepped key (Some life) timed).1 ≡ 0
held_silent key life timed =
    by_step (λ after. requests_in after.1 ≡ 0) key (Some life) timed refl refl
    (λ step row. requests-outputs key life.context step _ _
    ∙ later_once key (Some life) life.context step.handed timed.moment timed.input row.trigger
    row.triggered
    (row_passes later_not_handed_up (rows_of (role_of key)) (later_in_tables (role_of key))
    (Some life.state) row.trigger step row.row))

rest_silent : (key : Key) (state : Option Life) (inputs : List (Timed Input))
    → IsWithinLife step_machine key state inputs
    → requests_in (outputs_from step_machine key state inputs) ≡ 0
rest_silent key state [] within = refl
rest_silent key None (timed ∷ inputs) within = absurd (false≢true within.0)
rest_silent key (Some life) (timed ∷ inputs) within =
    sum_by-append (λ o. cond (is_request_up o) 1 0) (stepped key (Some life) timed).1
    (outputs_from step_machine key (stepped key (Some life) timed).0 inputs)
    ∙ ap (λ n. n + requests_in (outputs_from step_machine key
    (stepped key (Some life) timed).0 inputs)) (held_silent key life timed) ∙ zero-add _
    ∙ rest_silent key (stepped key (Some life) timed).0 inputs within.1

pub one_request_up : OneRequestUp step_machine
one_request_up key server inputs life = (
  first_once key server life.first life.begins,
  rest_silent key (stepped key None life.first).0 life.rest
      (is_within step_machine key inputs life),
)
