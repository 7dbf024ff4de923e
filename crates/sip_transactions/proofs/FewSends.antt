-- A life of a client sends its request at most 7 or 11 times.
use Rattle.std.proofs.Common.{◌≡◌, ℕ, ◌+◌, ◌≤◌, true, cond, List, [], ◌∷◌, refl, sym, ◌∙◌, ap, subst, arith, codes}
use Rattle.std.specs.Prelude.{not, Option, None, Some, IsSome, option_map}
use Rattle.std.proofs.lemmas.Bool.{false≢true}
use Rattle.std.proofs.lemmas.List.Sums.{sum_by-append}
use Rattle.std.proofs.lemmas.Bool.Decides.{Decides-eqb}
use Rattle.std.proofs.lemmas.Slice.Eq.{slice_eq-Decides}
use Rattle.sip_message.specs.declared.addr.Addr.{Addr}
use Rattle.sip_message.specs.declared.id.Id.{Id}
use Rattle.sip_message.specs.declared.key.Key.{Key}
use Rattle.sip_message.specs.declared.key.Key.TheVariants as key
use Rattle.sip_message.specs.declared.message.Message.{Message}
use Rattle.sip_message.specs.Message.{is_request_message}
use Rattle.sip_message.specs.Written.{written}
use Rattle.keyed_machine.specs.Machine.{outputs_from, Timed, given_at}
use Rattle.keyed_machine.proofs.Lives.{IsWithinLife, is_within}
use Rattle.sip_transactions.specs.declared.input.Input.{Input}
use Rattle.sip_transactions.specs.declared.input.Input.TheVariants.{Start}
use Rattle.sip_transactions.specs.declared.life.Context.{Context}
use Rattle.sip_transactions.specs.declared.life.Life.{Life}
use Rattle.sip_transactions.specs.declared.state.Role.{Role}
use Rattle.sip_transactions.specs.declared.state.Role.TheVariants.{InviteClient, Client}
use Rattle.sip_transactions.specs.declared.step.Due.{Due}
use Rattle.sip_transactions.specs.declared.step.Due.TheVariants.{Keep, Clear, Ending, Both, Again}
use Rattle.sip_transactions.specs.declared.step.UpAction.{UpAction}
use Rattle.sip_transactions.specs.declared.step.Next.{Next}
use Rattle.sip_transactions.specs.declared.step.Next.TheVariants.{Same, Ended, Become}
use Rattle.sip_transactions.specs.declared.step.Pace.{Pace}
use Rattle.sip_transactions.specs.declared.step.Sent.{Sent}
use Rattle.sip_transactions.specs.declared.step.Sent.TheVariants as send
use Rattle.sip_transactions.specs.declared.step.Step.{Step}
use Rattle.sip_transactions.specs.declared.trigger.Trigger.{Trigger}
use Rattle.sip_transactions.specs.declared.trigger.Trigger.TheVariants as on
use Rattle.sip_transactions.specs.Steps.Input.{role_of, trigger_of, is_same_method, message_in, arrived_in}
use Rattle.sip_transactions.specs.Laws.{FewSends, is_send_of, sends_of, most_repeats}
use Rattle.sip_transactions.specs.Steps.Life.{stepped, acted_if, begun, life_after, life_in, entered, last_of, armed, keeps_request, context_by}
use Rattle.sip_transactions.specs.Steps.Output.{outputs_of, made_of}
use Rattle.sip_transactions.specs.Rows.{row_of, rows_of}
use Rattle.sip_transactions.specs.Timers.{rearmed}
use Rattle.sip_transactions.specs.Steps.Life.{step_machine}
use Rattle.sip_transactions.proofs.AckTexts.{Apart, first_of, request_first}
use Rattle.sip_transactions.proofs.ClientRows.{is_acked, Fit, FitAfter, budget, Few, is_repeat, sends_well, starts_well, client_row, client_tables, sends-outputs, one_send, no_send, none-made, latest-made, none_entered, acked_entered, repeat_due, response_message, ack_made}
use Rattle.sip_transactions.proofs.Firings.{taken-zero, is_client, Paced, left, paces, Fired, fired_at, least_interval, is_plain, Left, plain_left}
use Rattle.sip_transactions.proofs.RowFacts.{by_test, row_passes, and-left, and-right}
use Rattle.sip_transactions.proofs.LawSteps.{by_step}

module _ (role : Role) (client : is_client role ≡ true) (key : Key) (text : List ℕ)
    (invite : keeps_request role ≡ true → first_of text ≡ Some 73) where
  abbrev room : Life → ℕ
  room life = left role life.context.timers.repeat life.context.timers.fired

  armed_fit : (due : Due) (now : ℕ) (life : Life) → Fit role text life
      → Left role life.context.timers (rearmed due now life.context.timers)
      → Fit role text (life_in (armed due now life.context) life.state)
  armed_fit due now life fit l = record { paced = l.paced; apart = fit.apart; keeps = fit.keeps }

  -- the request is sent again
  repeated : (life : Life) (now : ℕ) (handed : UpAction) (pace : Pace)
      (arrived : Option (Message × Addr)) → Fit role text life
      → Fired role life.context.timers (Again pace) now
      → Few role text (room life) (
        Some (life_in (armed (Again pace) now life.context) life.state),
        outputs_of key life.context (record {
          next = Same;
          handed = handed;
          sent = send.Latest;
          due = Again pace;
        }) None arrived,
      )
  unfolding FitAfter
  repeated life now handed pace arrived fit f =
      let said = sends-outputs text key life.context
      (record { next = Same; handed = handed; sent = send.Latest; due = Again pace }) None
      arrived in
      let one = one_send text key life.context.to life.context.last in
      let fewer = f.fewer in
      record {
        few = omega (arith, said, one, fewer);
        fit = record { paced = f.paced; apart = fit.apart; keeps = fit.keeps };
      }

  row_few : (life : Life) (now : ℕ) (input : Option Input) (trigger : Trigger)
      → trigger_of (Some life) now input ≡ Some trigger → Fit role text life
      → (next : Next) (handed : UpAction) (sent : Sent) (due : Due)
      → sends_well role life.state trigger next sent due ≡ true
      → Few role text (room life) (acted_if key now input (Some life.state) (Some life.context)
      (record { next = next; handed = handed; sent = sent; due = due }))
  unfolding life_after Apart
  row_few life now input trigger is fit next handed send.Given due ok = absurd (false≢true ok)
  row_few life now input trigger is fit next handed send.Trying due ok = absurd (false≢true ok)
  row_few life now input trigger is fit next handed send.Nothing due ok =
      let step : Step = record { next = next; handed = handed; sent = send.Nothing; due = due } in
      let l = plain_left role due now life.context.timers (and-left (is_plain due) _ ok) fit.paced
      in
      subst (λ made. Few role text (room life) (
        option_map (life_in (armed due now (last_of made life.context)))
            (entered next (Some life.state)),
        outputs_of key life.context step made (arrived_in input),
      ))
      (sym (none-made life.context.request (message_in input)))
      (none_entered role text next life.state (armed due now life.context) (room life)
      (outputs_of key life.context step None (arrived_in input)) (and-right (is_plain due) _ ok)
      (armed_fit due now life fit l) l.fewer
      (sends-outputs text key life.context step None (arrived_in input)))
  row_few life now input trigger is fit next handed send.Ack due ok =
      let step : Step = record { next = next; handed = handed; sent = send.Ack; due = due } in
      let keeping = and-left (keeps_request role) _ ok in
      let rest = and-right (keeps_request role) _ ok in
      let l = plain_left role due now life.context.timers (and-left (is_plain due) _ rest) fit.paced
      in
      let m = ack_made text (invite keeping) life.context.request (message_in input)
      (fit.keeps keeping)
      (response_message life now input trigger is (and-right (is_plain due) _ rest)) in
      let acked : Context = record life.context { last = Some m.bytes } in
      subst (λ made. Few role text (room life) (
        option_map (life_in (armed due now (last_of made life.context)))
            (entered next (Some life.state)),
        outputs_of key life.context step made (arrived_in input),
      )) (sym m.is)
      (acked_entered role text next life.state (armed due now acked) (room life)
      (outputs_of key life.context step (Some m.bytes) (arrived_in input)) m.apart
      (record { paced = l.paced; apart = λ at_ack. m.apart; keeps = fit.keeps }) l.fewer
      (sends-outputs text key life.context step (Some m.bytes) (arrived_in input)
      ∙ no_send text key life.context.to (Some m.bytes) m.apart))
  row_few life now input trigger is fit Same handed send.Latest Keep ok =
      let step : Step = record { next = Same; handed = handed; sent = send.Latest; due = Keep } in
      subst (λ made. Few role text (room life) (
        option_map (life_in (armed Keep now (last_of made life.context)))
            (entered Same (Some life.state)),
        outputs_of key life.context step made (arrived_in input),
      ))
      (sym (latest-made life.context.request (message_in input)))
      (none_entered role text Same life.state (armed Keep now life.context) (room life)
      (outputs_of key life.context step None (arrived_in input)) refl fit (omega arith)
      (sends-outputs text key life.context step None (arrived_in input)
      ∙ no_send text key life.context.to life.context.last
      (fit.apart (and-left (is_acked role life.state) _ ok))))
  row_few life now input trigger is fit Ended handed send.Latest Keep ok =
      absurd (false≢true (and-right (is_acked role life.state) _ ok))
  row_few life now input trigger is fit (Become state) handed send.Latest Keep ok =
      absurd (false≢true (and-right (is_acked role life.state) _ ok))
  row_few life now input trigger is fit next handed send.Latest Clear ok =
      absurd (false≢true (and-right (is_acked role life.state) _ ok))
  row_few life now input trigger is fit next handed send.Latest (Ending after) ok =
      absurd (false≢true (and-right (is_acked role life.state) _ ok))
  row_few life now input trigger is fit next handed send.Latest Both ok =
      absurd (false≢true (and-right (is_acked role life.state) _ ok))
  row_few life now input trigger is fit Ended handed send.Latest (Again pace) ok =
      absurd (false≢true (and-right (paces role (Again pace)) _
      (and-right (is_repeat trigger) _ ok)))
  row_few life now input trigger is fit (Become state) handed send.Latest (Again pace) ok =
      absurd (false≢true (and-right (paces role (Again pace)) _
      (and-right (is_repeat trigger) _ ok)))
  row_few life now input trigger is fit Same handed send.Latest (Again pace) ok =
      let step : Step =
      record { next = Same; handed = handed; sent = send.Latest; due = Again pace } in
      let due_now = repeat_due life now input trigger is (and-left (is_repeat trigger) _ ok) in
      let f = fired_at role client pace now life.context.timers.fired life.context.timers.repeat
      life.context.timers.ending
      (least_interval role pace (life.context.timers.fired + 1)
      (and-left (paces role (Again pace)) _ (and-right (is_repeat trigger) _ ok))) due_now.0
      due_now.1 fit.paced in
      subst (λ made. Few role text (room life) (
        option_map (life_in (armed (Again pace) now (last_of made life.context)))
            (entered Same (Some life.state)),
        outputs_of key life.context step made (arrived_in input),
      ))
      (sym (latest-made life.context.request (message_in input)))
      (repeated life now handed pace (arrived_in input) fit f)

  input_few : (life : Life) (timed : Timed Input) → role_of key ≡ role → Fit role text life
      → Few role text (room life) (stepped key (Some life) timed)
  unfolding FitAfter
  input_few life timed own fit =
      by_step (Few role text (room life)) key (Some life) timed
      (record { few = omega arith; fit = tt })
      (record { few = omega arith; fit = fit })
      (λ step row. row_few life timed.moment timed.input row.trigger row.triggered fit step.next
      step.handed step.sent step.due
      (row_passes (client_row role) (rows_of role) (client_tables role client)
      (Some life.state) row.trigger step
      (subst (λ r. row_of (rows_of r) (Some life.state) row.trigger ≡ Some step) own row.row)))

  rest_few : (state : Option Life) (inputs : List (Timed Input)) → role_of key ≡ role
      → IsWithinLife step_machine key state inputs → FitAfter role text state
      → sends_of text (outputs_from step_machine key state inputs) ≤ budget role state
  unfolding FitAfter
  rest_few state [] own within fit = omega arith
  rest_few None (timed ∷ inputs) own within fit = absurd (false≢true within.0)
  rest_few (Some life) (timed ∷ inputs) own within fit =
      let one = input_few life timed own fit in
      let later = rest_few (stepped key (Some life) timed).0 inputs own within.1 one.fit in
      let both = sum_by-append (λ o. cond (is_send_of text o) 1 0) (stepped key (Some life) timed).1
      (outputs_from step_machine key (stepped key (Some life) timed).0 inputs) in
      let few = one.few in
      omega (arith, later, both, few)

  -- the start
  start_few : (now : ℕ) (id : Id) (call_id : List ℕ) (request : Message) (to : Addr) (next : Next)
      (handed : UpAction) (sent : Sent) (due : Due) → starts_well role on.Start next sent due ≡ true
      → Few role text (1 + most_repeats role)
      (acted_if key now (Some (Start id call_id request to)) None
      (begun role (Some (Start id call_id request to)))
      (record { next = next; handed = handed; sent = sent; due = due }))
  unfolding begun life_after made_of FitAfter Paced
  start_few now id call_id request to Same handed sent due ok = absurd (false≢true ok)
  start_few now id call_id request to Ended handed sent due ok = absurd (false≢true ok)
  start_few now id call_id request to (Become state) handed send.Nothing due ok =
      absurd (false≢true ok)
  start_few now id call_id request to (Become state) handed send.Latest due ok =
      absurd (false≢true ok)
  start_few now id call_id request to (Become state) handed send.Trying due ok =
      absurd (false≢true ok)
  start_few now id call_id request to (Become state) handed send.Ack due ok = absurd (false≢true ok)
  start_few now id call_id request to (Become state) handed send.Given Keep ok =
      absurd (false≢true ok)
  start_few now id call_id request to (Become state) handed send.Given Clear ok =
      absurd (false≢true ok)
  start_few now id call_id request to (Become state) handed send.Given (Ending after) ok =
      absurd (false≢true ok)
  start_few now id call_id request to (Become state) handed send.Given (Again pace) ok =
      absurd (false≢true ok)
  start_few now id call_id request to (Become state) handed send.Given Both ok =
      let context : Context = context_by id call_id to
      (cond (keeps_request role) (Some request) None) in
      let said = sends-outputs text key context
      (record { next = Become state; handed = handed; sent = send.Given; due = Both })
      (Some (written request)) None in
      let one = one_send text key to (Some (written request)) in
      let none = taken-zero role in
      record {
        few = omega (arith, said, one);
        fit = record {
          paced = omega (arith, none);
          apart = λ acked. absurd (false≢true (sym (ap not acked) ∙ ok));
          keeps = λ keeping. subst (λ b. IsSome (cond b (Some request) None)) (sym keeping) refl;
        };
      }

-- ---- the law

start_row : (role : Role) → is_client role ≡ true → (trigger : Trigger) (step : Step)
    → Some on.Start ≡ Some trigger → row_of (rows_of role) None trigger ≡ Some step
    → starts_well role on.Start step.next step.sent step.due ≡ true
start_row role client trigger step is row =
    let same : on.Start ≡ trigger = cc in
    subst (λ t. starts_well role t step.next step.sent step.due ≡ true) (sym same)
    (row_passes (client_row role) (rows_of role)
    (client_tables role client) None trigger step row)

role_client : (branch method : List ℕ) → is_client (role_of (key.Client branch method)) ≡ true
role_client branch method =
    by_test (is_same_method method (codes "INVITE"))
    (λ hit. ap (λ b. is_client (cond b InviteClient Client)) hit)
    (λ miss. ap (λ b. is_client (cond b InviteClient Client)) miss)

invite_method : (branch method : List ℕ) → keeps_request (role_of (key.Client branch method)) ≡ true
    → method ≡ codes "INVITE"
invite_method branch method keeping =
    by_test (is_same_method method (codes "INVITE"))
    (λ hit. (slice_eq-Decides Decides-eqb method (codes "INVITE")
    (is_same_method method (codes "INVITE")) refl).0 hit)
    (λ miss. absurd (false≢true (sym (ap (λ b. keeps_request (cond b InviteClient Client)) miss)
    ∙ keeping)))

-- a life that begins like that
few_from : (branch method : List ℕ) (now : ℕ) (id : Id) (call_id : List ℕ) (request : Message)
    (to : Addr) (rest : List (Timed Input))
    → (method ≡ codes "INVITE"
    → (is_request_message request ≡ true) × (request.cseq.method ≡ method))
    → IsWithinLife step_machine (key.Client branch method)
    (stepped (key.Client branch method) None (given_at now (Start id call_id request to))).0 rest
    → sends_of (written request) (outputs_from step_machine (key.Client branch method) None
    (given_at now (Start id call_id request to) ∷ rest))
    ≤ 1 + most_repeats (role_of (key.Client branch method))
unfolding FitAfter
few_from branch method now id call_id request to rest own within =
    let k = key.Client branch method in
    let role = role_of k in
    let client = role_client branch method in
    let text = written request in
    let invite : keeps_request role ≡ true → first_of text ≡ Some 73 =
    λ keeping. let is = invite_method branch method keeping in
    request_first request (own is).0 ((own is).1 ∙ is) in
    let first = given_at now (Start id call_id request to) in
    let one : Few role text (1 + most_repeats role) (stepped k None first) =
    by_step (Few role text (1 + most_repeats role)) k None first
    (record { few = omega arith; fit = tt })
    (record { few = omega arith; fit = tt })
    (λ step row. start_few role client k text invite now id call_id request to step.next step.handed
    step.sent step.due (start_row role client row.trigger step row.triggered row.row)) in
    let later = rest_few role client k text invite
    (stepped k None first).0 rest refl within one.fit in
    let both = sum_by-append (λ o. cond (is_send_of text o) 1 0) (stepped k None first).1
    (outputs_from step_machine k (stepped k None first).0 rest) in
    let few = one.few in
    omega (arith, later, both, few)

pub few_sends : FewSends step_machine
few_sends branch method inputs life now id call_id request to started own =
    let k = key.Client branch method in
    subst (λ first. IsWithinLife step_machine k (stepped k None first).0 life.rest
    → sends_of (written request) (outputs_from step_machine k None (first ∷ life.rest))
    ≤ 1 + most_repeats (role_of k)) (sym started)
    (few_from branch method now id call_id request to life.rest own)
    (is_within step_machine k inputs life)
