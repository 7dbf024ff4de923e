-- What a user asks for arrives.
use Rattle.std.proofs.Common.{◌≡◌, ◌+◌, ◌≤◌, false, List, length, ap, ◌∙◌, subst}
use Rattle.std.specs.Prelude.{Contains}
use Rattle.std.specs.List.{list_any}
use Rattle.std.specs.Str.{str_to_ascii_lowercase}
use Rattle.sip_message.specs.declared.key.Key.TheVariants as key
use Rattle.sip_message.specs.TopVia.{top_branch}
use Rattle.sip_message.specs.Written.{written}
use Rattle.keyed_machine.specs.Machine.{given_at}
use Rattle.sip_transactions.specs.declared.input.Command.TheVariants as order
use Rattle.sip_transactions.specs.declared.input.Input.TheVariants.{Start}
use Rattle.sip_user.specs.Command.{call_of_command}
use Rattle.sip_user.specs.declared.item.CallOut.TheVariants as call_out
use Rattle.sip_round.specs.declared.config.Config.{Config}
use Rattle.sip_round.specs.declared.output.Output.{Output}
use Rattle.sip_round.specs.Laws.{inputs_of}
use Rattle.sip_conversation.specs.Conversation.{Carried, Side, Turn, peer, rounds_of}
use Rattle.sip_agent_laws.specs.Transactions.Copies.{latest_repeat, pace_of}
use Rattle.sip_conversation.specs.Delivery.{ArrivesBy, IsUnderWay, is_lost, longest_datagram}
use Rattle.sip_conversation.specs.GoOut.{AskedArrive, GoesOut}
use Rattle.sip_conversation.specs.Messages.{CallsKeepRules}
use Rattle.sip_conversation.specs.Steps.Fair.{IsFair}
use Rattle.sip_conversation.proofs.RequestsArrive.{requests_arrive}
use Rattle.sip_conversation.proofs.RequestsAsked.{out_own}
use Rattle.sip_conversation.proofs.RequestsGoOut.{requests_go_out}
use Rattle.sip_conversation.proofs.WasAnswered.{start_said}

pub asked_arrive : (configs : Side → Config) (fair : IsFair configs) (turns : List Turn)
    → Carried configs turns → CallsKeepRules configs turns → AskedArrive configs turns
asked_arrive configs fair turns carried keep lag repeats delay clock runs delivers side few round
    among command has method body asks no_cancel soon on =
    let config = configs side in
    let rounds = rounds_of side turns in
    let taken = requests_go_out config (fair.calls side) rounds round among command has method body
    asks in (taken, λ goes to short kept. arrives taken.event taken.given goes to short kept)
  where
    arrives : (event : _) (given : List Output) (goes : GoesOut (configs side) (rounds_of side turns)
        (call_of_command command) event given round.moment method body)
        → goes.to ≡ (configs (peer side)).local → length (written goes.request) ≤ longest_datagram
        → list_any (λ timed. is_lost timed.input)
        (inputs_of (configs side) (rounds_of side turns) goes.key) ≡ false
        → ArrivesBy configs turns side goes.request
        (round.moment + (latest_repeat (pace_of method) lag repeats + delay))
    arrives event given goes to short kept =
        let config = configs side in
        let rounds = rounds_of side turns in
        let of = call_of_command command in
        let branch = str_to_ascii_lowercase (top_branch goes.request) in
        let own = out_own config rounds (fair.calls side)
        (call_out.Command event (order.Start goes.key of goes.request goes.to))
        (start_said config rounds goes.key event of goes.request goes.to
        (round.moment, goes.started)) in
        let key_is : goes.key ≡ key.Client branch method =
        own.key_is ∙ ap (λ m. key.Client branch m) goes.method_is in
        let way : IsUnderWay config (configs (peer side)).local side turns
        (key.Client branch method) round.moment goes.request = record {
          id = event;
          call_id = of;
          started = subst (λ k. Contains (inputs_of config rounds k)
              (given_at round.moment (Start event of goes.request (configs (peer side)).local)))
              key_is (subst (λ at. Contains (inputs_of config rounds goes.key)
              (given_at round.moment (Start event of goes.request at))) to goes.started);
          kept = subst (λ k. list_any (λ timed. is_lost timed.input) (inputs_of config rounds k)
              ≡ false) key_is kept;
          short = short;
        } in
        requests_arrive configs fair turns carried keep lag repeats delay clock runs delivers side
        branch method round.moment goes.request no_cancel way few soon on
