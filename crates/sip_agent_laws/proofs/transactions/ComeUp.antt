-- A response comes up to a client that has no final one.
use Rattle.std.proofs.Common.{◌≡◌, ℕ, Bool, true, false, ◌&&◌, ◌||◌, List, [], ◌∷◌, ◌++◌, refl, sym, ap, ◌∙◌}
use Rattle.std.specs.Prelude.{Option, None, Some, filter, not, option_map, option_to_list}
use Rattle.std.proofs.lemmas.Bool.{and_from, false≢true}
use Rattle.sip_message.specs.declared.addr.Addr.{Addr}
use Rattle.sip_message.specs.declared.key.Key.{Key}
use Rattle.sip_message.specs.declared.key.Key.TheVariants as key
use Rattle.sip_message.specs.declared.message.Message.{Message}
use Rattle.sip_message.specs.declared.start_line.StartLine.{StartLine}
use Rattle.sip_message.specs.declared.start_line.StartLine.TheVariants as start
use Rattle.sip_message.specs.Message.{is_request_line}
use Rattle.keyed_machine.specs.Machine.{given_at}
use Rattle.sip_transactions.specs.declared.input.Input.TheVariants.{Receive}
use Rattle.sip_transactions.specs.declared.life.Context.{Context}
use Rattle.sip_transactions.specs.declared.output.Out.{Out}
use Rattle.sip_transactions.specs.declared.output.UpKind.{UpKind}
use Rattle.sip_transactions.specs.declared.output.UpKind.TheVariants as kind
use Rattle.sip_transactions.specs.declared.state.Role.{Role}
use Rattle.sip_transactions.specs.declared.state.State.{State}
use Rattle.sip_transactions.specs.declared.step.Step.{Step}
use Rattle.sip_transactions.specs.declared.step.UpAction.{UpAction}
use Rattle.sip_transactions.specs.declared.step.UpAction.TheVariants as up
use Rattle.sip_transactions.specs.declared.trigger.Trigger.{Trigger}
use Rattle.sip_transactions.specs.declared.trigger.Trigger.TheVariants as on
use Rattle.sip_transactions.specs.Steps.Input.{arrival_of, class_of, message_in, role_of}
use Rattle.sip_transactions.specs.Steps.Life.{step_machine}
use Rattle.sip_transactions.specs.Steps.Output.{handed_out, kind_of, made_bytes, outputs_of, send_out, sent_bytes, up_out}
use Rattle.sip_transactions.proofs.Firings.{is_client}
use Rattle.sip_agent_laws.specs.Transactions.Closing.{lacks_final}
use Rattle.sip_agent_laws.specs.Transactions.Outcomes.{ResponsesComeUp, is_up}
use Rattle.sip_agent_laws.proofs.transactions.Closed.{client_key}
use Rattle.sip_agent_laws.proofs.transactions.Inputs.{by_input, passes, rule}
use Rattle.sip_agent_laws.proofs.transactions.Timed.{can_be, implied, is_timed, reached}

abbrev is_response : Trigger → Bool
is_response (on.Response class) = true
is_response trigger = false

abbrev is_message : UpAction → Bool
is_message up.Message = true
is_message handed = false

-- the row of a response hands it up
abbrev hands_up : Role → State → Trigger → Step → Bool
hands_up role state trigger step =
    not (is_client role && (can_be role state && (lacks_final state && is_response trigger)))
    || is_message step.handed

-- all that comes up
abbrev ups : List Out → List Out
ups outs = filter (is_up (λ kind. true)) outs

module _ (k : Key) (context : Context) (response : Message) (reply_to : Addr) where
  one_up : (handed : UpAction) → is_message handed ≡ true → (sent : Option (List ℕ))
      → ups (option_to_list (handed_out k context handed (Some (response, reply_to)))
      ++ option_to_list (option_map (send_out k context.to) sent))
      ≡ up_out k context (kind_of response.start response reply_to) ∷ []
  unfolding handed_out
  one_up up.Message is None = refl
  one_up up.Message is (Some bytes) = refl
  one_up handed is sent = absurd (false≢true is)

  row_up : (step : Step) (made : Option (List ℕ)) → is_message step.handed ≡ true
      → ups (outputs_of k context step made (Some (response, reply_to)))
      ≡ up_out k context (kind_of response.start response reply_to) ∷ []
  unfolding outputs_of
  row_up step made is = one_up step.handed is (sent_bytes context.last step.sent made)

-- a response by its line
by_line : (P : Trigger → UpKind → Type 0) (message : Message) (reply_to : Addr)
    → ((status : ℕ) → P (on.Response (class_of status)) (kind.Response message))
    → (line : StartLine) → is_request_line line ≡ false
    → P (arrival_of line message.cseq.method) (kind_of line message reply_to)
by_line P message reply_to holds (start.Response status reason) is = holds status
by_line P message reply_to holds (start.Request uri) is = absurd (false≢true (sym is))

pub responses_come_up : ResponsesComeUp step_machine
responses_come_up branch method inputs life is lacks id response reply_to now comes =
    let k = key.Client branch method in
    let role = role_of k in
    let possible = (is_timed role _ life (reached k inputs) is).possible in
    let timed = given_at now (Receive id response reply_to) in
    let step = rule role life.state (arrival_of response.start response.cseq.method) in
    let hands : is_message step.handed ≡ true =
    by_line (λ trigger up. is_message (rule role life.state trigger).handed ≡ true) response reply_to
    (λ status. implied (is_client role && (can_be role life.state && (lacks_final life.state && true)))
    _ (and_from (is_client role) _ (client_key branch method) (and_from (can_be role life.state) _
    possible (and_from (lacks_final life.state) true lacks refl)))
    (passes hands_up refl role life.state (on.Response (class_of status)))) response.start comes in
    let is_it : kind_of response.start response reply_to ≡ kind.Response response =
    by_line (λ trigger up. up ≡ kind.Response response) response reply_to (λ status. refl)
    response.start comes in
    by_input (λ after. ups after.1 ≡ up_out k life.context (kind.Response response) ∷ []) k life timed
    (λ given. absurd (false≢true given))
    (λ goes_on. row_up k life.context response reply_to step
    (made_bytes life.context.request step.sent (message_in timed.input)) hands
    ∙ ap (λ up. up_out k life.context up ∷ []) is_it)
