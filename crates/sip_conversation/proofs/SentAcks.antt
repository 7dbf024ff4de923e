-- Each text that a call of a side sends is that of an ACK of its own, whatever the inputs at which
-- it does so.
use Rattle.std.proofs.Common.{◌≡◌, ℕ, List, [], ◌++◌, sym, subst, append-nil}
use Rattle.std.specs.Prelude.{IfSome, None}
use Rattle.std.specs.List.{AllByRecursion}
use Rattle.sip_message.specs.declared.addr.Addr.{Addr}
use Rattle.sip_message.specs.declared.message.Message.{Message}
use Rattle.keyed_machine.specs.Machine.{Timed, outputs_from}
use Rattle.sip_user.specs.declared.item.CallOut.TheVariants as call_out
use Rattle.sip_calls.specs.Call.{CallItem, call_machine}
use Rattle.sip_calls.specs.OwnCall.{IsInputOf}
use Rattle.sip_calls.specs.Provisionals.{EventsDiffer, event_in}
use Rattle.sip_calls.specs.declared.calls.Calls.{Calls}
use Rattle.sip_round.specs.declared.config.Config.{Config}
use Rattle.sip_round.specs.declared.round.Round.{Round}
use Rattle.sip_round.specs.Answers.{calls_of, past_of}
use Rattle.sip_round.specs.Laws.{call_inputs_of, said_of_call}
use Rattle.sip_round.proofs.CallEvents.{events_differ}
use Rattle.sip_round.proofs.Said.{call_alone}
use Rattle.sip_conversation.specs.Commands.{CommandsKeepTypes}
use Rattle.sip_conversation.specs.Conversation.{Carried, Side, Turn, rounds_of}
use Rattle.sip_conversation.specs.Messages.{CallSays, CallsKeepRules}
use Rattle.sip_conversation.specs.Steps.Fair.{IsFair}
use Rattle.sip_conversation.proofs.AckedCalls.{IsAckOf, all_acked}
use Rattle.sip_conversation.proofs.Among.{all_go, each_of}
use Rattle.sip_conversation.proofs.CallsKeep.{inputs_keep_so}
use Rattle.sip_conversation.proofs.KeepsRules.{KeepsInput, KeepsRulesWith}
use Rattle.sip_conversation.proofs.Origins.{IsOrigin, TimedComes, inputs_come}
use Rattle.sip_conversation.proofs.RackedCalls.{front_differ}
use Rattle.sip_conversation.proofs.Rounds.{all_of_parts}
use Rattle.sip_conversation.proofs.Unchanged.{fine_after}

module _ (configs : Side → Config) (fair : IsFair configs) (turns : List Turn)
    (carried : Carried configs turns) (keep : CallsKeepRules configs turns)
    (types : CommandsKeepTypes turns) (s : Side) where
  abbrev config : Config
  config = configs s

  abbrev rounds : List Round
  rounds = rounds_of s turns

  abbrev calls : Calls
  calls = calls_of config

  abbrev inputs : List ℕ → List (Timed CallItem)
  inputs call_id = call_inputs_of config rounds call_id

  pub inputs_keep : (call_id : List ℕ)
      → AllByRecursion (λ timed. KeepsInput timed.input) (inputs call_id)
  inputs_keep call_id =
      inputs_keep_so configs fair turns
      (fine_after fair.transactions configs fair.addresses [] turns tt carried keep) types s call_id

  -- an ACK of this call
  abbrev pub IsOwnAck : List ℕ → List (Timed CallItem) → Message → Type 0
  IsOwnAck call_id first = IsAckOf calls call_id first (IsOrigin config rounds call_id)

  -- at the first inputs
  pub sent_at : (call_id : List ℕ) (first later : List (Timed CallItem))
      → inputs call_id ≡ first ++ later
      → AllByRecursion (KeepsRulesWith (IsOwnAck call_id first))
      (outputs_from (call_machine calls) call_id None first)
  sent_at call_id first later are =
      let Keeps : Timed CallItem → Type 0 = λ timed. KeepsInput timed.input in
      let Its : Timed CallItem → Type 0 = λ timed. IsInputOf call_id timed.input in
      let Come : Timed CallItem → Type 0 =
      λ timed. IfSome (event_in timed.input) (IsOrigin config rounds call_id) in
      let its = all_go {P = TimedComes config rounds call_id} {Q = Its}
      (λ timed comes. comes.0) (inputs call_id) (inputs_come config rounds call_id) in
      let come = all_go {P = TimedComes config rounds call_id} {Q = Come}
      (λ timed comes. comes.1) (inputs call_id) (inputs_come config rounds call_id) in
      all_acked calls call_id first (IsOrigin config rounds call_id) call_id (fair.addresses s)
      (front_differ first later (subst EventsDiffer are (events_differ config call_id rounds)))
      (all_of_parts Its first later (subst (AllByRecursion Its) are its)).0
      (all_of_parts Come first later (subst (AllByRecursion Come) are come)).0
      (all_of_parts Keeps first later (subst (AllByRecursion Keeps) are (inputs_keep call_id))).0

  -- at any input
  pub sent_so : (to : Addr) (text : List ℕ)
      → (says : CallSays config rounds (call_out.Direct to text))
      → KeepsRulesWith (IsOwnAck says.0 (inputs says.0)) (call_out.Direct to text)
  sent_so to text says =
      let call_id = says.0 in
      let Keeps = KeepsRulesWith (IsOwnAck call_id (inputs call_id)) in
      each_of Keeps (said_of_call config rounds call_id) (call_out.Direct to text)
      (subst (AllByRecursion Keeps)
      (sym (call_alone calls (fair.calls s) [] (past_of config rounds).calls call_id))
      (sent_at call_id (inputs call_id) [] (sym (append-nil (inputs call_id))))) says.1
