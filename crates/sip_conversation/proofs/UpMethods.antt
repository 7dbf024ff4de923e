-- A transaction hands up an ACK as one, and any other request as a request.
use Rattle.std.proofs.Common.{◌≡◌, ℕ, Bool, true, false, cond, List, [], ◌∷◌, refl, sym, ap, ◌∙◌, subst}
use Rattle.std.specs.Prelude.{Option, None, Some, codes, option_map, option_to_list}
use Rattle.std.specs.List.{AllByRecursion}
use Rattle.std.specs.Cmp.Lexicographic.{bytes_decides}
use Rattle.std.proofs.lemmas.Bool.{false≢true}
use Rattle.sip_message.specs.declared.addr.Addr.{Addr}
use Rattle.sip_message.specs.declared.key.Key.{Key}
use Rattle.sip_message.specs.declared.message.Message.{Message}
use Rattle.sip_message.specs.declared.start_line.StartLine.{StartLine}
use Rattle.sip_message.specs.declared.start_line.StartLine.TheVariants as start
use Rattle.sip_message.specs.Key.{key_cmp}
use Rattle.sip_message.specs.Message.{is_request_line, is_request_message}
use Rattle.keyed_machine.specs.Laws.{EachKeyAlone}
use Rattle.keyed_machine.specs.Machine.{Timed, outputs_from, tick_at}
use Rattle.sip_transactions.specs.declared.input.Input.{Input}
use Rattle.sip_transactions.specs.declared.life.Context.{Context}
use Rattle.sip_transactions.specs.declared.life.Life.{Life}
use Rattle.sip_transactions.specs.declared.output.UpKind.{UpKind}
use Rattle.sip_transactions.specs.declared.output.UpKind.TheVariants as kind
use Rattle.sip_transactions.specs.declared.output.Out.{Out}
use Rattle.sip_transactions.specs.declared.output.Up.{Up as AnUp}
use Rattle.sip_transactions.specs.declared.state.State.{State}
use Rattle.sip_transactions.specs.declared.step.UpAction.{UpAction}
use Rattle.sip_transactions.specs.declared.step.UpAction.TheVariants as up
use Rattle.sip_transactions.specs.declared.step.Step.{Step}
use Rattle.sip_transactions.specs.Machine.{transaction_machine}
use Rattle.sip_transactions.specs.Rules.Step.{step_at}
use Rattle.sip_transactions.specs.Steps.Input.{arrived_in, is_same_method, message_in, role_of}
use Rattle.sip_transactions.specs.Steps.Life.{acted_if, context_of, state_of, stepped}
use Rattle.sip_transactions.specs.Steps.Output.{handed_out, kind_of, made_bytes, outputs_of, send_out, sent_bytes}
use Rattle.sip_transactions.proofs.LawSteps.{by_step}
use Rattle.sip_transactions.proofs.Rules.{step_is}
use Rattle.sip_held_dialogs.proofs.Each.{both}
use Rattle.sip_round.specs.declared.config.Config.{Config}
use Rattle.sip_round.specs.declared.round.Round.{Round}
use Rattle.sip_round.specs.Answers.{past_of}
use Rattle.sip_round.specs.Laws.{inputs_of, said_of}
use Rattle.sip_round.proofs.Said.{transaction_alone}
use Rattle.sip_conversation.proofs.Ups.{OutCame}

-- an ACK has this method, and a request another one
abbrev pub HasMethod : UpKind → Type 0
HasMethod (kind.Request message reply_to) = message.cseq.method ≡ codes "ACK" → ⊥
HasMethod (kind.Ack message) = (message.cseq.method ≡ codes "ACK")
    × (is_request_message message ≡ true)
HasMethod (kind.Response message) = Unit {0}
HasMethod kind.Timeout = Unit {0}
HasMethod kind.Failed = Unit {0}

abbrev pub UpHasMethod : AnUp → Type 0
UpHasMethod up = HasMethod up.kind

abbrev OutHasMethod : Out → Type 0
OutHasMethod = OutCame UpHasMethod

abbrev HaveMethods : List Out → Type 0
HaveMethods outs = AllByRecursion OutHasMethod outs

by_method : (message : Message) (reply_to : Addr) (ack : Bool)
    → is_request_message message ≡ true
    → is_same_method message.cseq.method (codes "ACK") ≡ ack
    → HasMethod (cond ack (kind.Ack message) (kind.Request message reply_to))
by_method message reply_to true asks is =
    ((bytes_decides message.cseq.method (codes "ACK")).0 is, asks)
by_method message reply_to false asks other =
    λ ack. false≢true (sym other ∙ ap (λ method. is_same_method method (codes "ACK")) ack)

kind_method : (line : StartLine) (message : Message) (reply_to : Addr)
    → is_request_line line ≡ is_request_message message
    → HasMethod (kind_of line message reply_to)
kind_method (start.Request uri) message reply_to same =
    by_method message reply_to (is_same_method message.cseq.method (codes "ACK")) (sym same) refl
kind_method (start.Response status reason) message reply_to same = tt

handed_methods : (key : Key) (context : Context) (handed : UpAction)
    (arrived : Option (Message × Addr))
    → HaveMethods (option_to_list (handed_out key context handed arrived))
unfolding handed_out
handed_methods key context up.Nothing arrived = tt
handed_methods key context up.Message None = tt
handed_methods key context up.Message (Some arrived) =
    (kind_method arrived.0.start arrived.0 arrived.1 refl, tt)
handed_methods key context up.Timeout arrived = (tt, tt)
handed_methods key context up.Failed arrived = (tt, tt)
handed_methods key context up.NoTransaction arrived = (tt, tt)

sends_methods : (key : Key) (to : Addr) (bytes : Option (List ℕ))
    → HaveMethods (option_to_list (option_map (send_out key to) bytes))
sends_methods key to None = tt
sends_methods key to (Some bytes) = (tt, tt)

acted_methods : (key : Key) (now : ℕ) (input : Option Input) (state : Option State)
    (context : Option Context) (step : Step)
    → HaveMethods (acted_if key now input state context step).1
unfolding outputs_of
acted_methods key now input state None step = tt
acted_methods key now input state (Some context) step =
    let sent = sent_bytes context.last step.sent
    (made_bytes context.request step.sent (message_in input)) in
    both OutHasMethod (option_to_list (handed_out key context step.handed (arrived_in input)))
    (option_to_list (option_map (send_out key context.to) sent))
    (handed_methods key context step.handed (arrived_in input))
    (sends_methods key context.to sent)

abbrev After : Option Life × List Out → Type 0
After after = HaveMethods after.1

one_input : (key : Key) (held : Option Life) (timed : Timed Input)
    → After (stepped key held timed)
one_input key held timed =
    by_step After key held timed tt tt
    (λ step row. acted_methods key timed.moment timed.input (state_of held)
    (context_of (role_of key) held timed.input) step)

methods_from : (key : Key) (held : Option Life) (inputs : List (Timed Input))
    → HaveMethods (outputs_from transaction_machine key held inputs)
methods_from key held [] = tt
methods_from key held (timed ∷ inputs) =
    let step = step_at key held timed.moment timed.input in
    both OutHasMethod step.1 (outputs_from transaction_machine key step.0 inputs)
    (subst After (sym (step_is key held timed.moment timed.input)) (one_input key held timed))
    (methods_from key step.0 inputs)

-- so is each that rounds hand up
pub all_methods : (config : Config) (rounds : List Round)
    → EachKeyAlone key_cmp transaction_machine tick_at → (key : Key)
    → AllByRecursion (OutCame UpHasMethod) (said_of config rounds key)
all_methods config rounds alone key =
    subst HaveMethods
    (sym (transaction_alone alone [] (past_of config rounds).transactions key))
    (methods_from key None (inputs_of config rounds key))
