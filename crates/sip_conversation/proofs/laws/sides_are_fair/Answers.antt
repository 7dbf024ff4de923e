-- `sides_are_fair`: by the laws of phases, for both sides.
use Rattle.keyed_machine.specs.Laws.{EachKeyAlone}
use Rattle.keyed_machine.specs.Machine.{tick_at}
use Rattle.sip_calls.specs.Call.{call_machine}
use Rattle.sip_calls.specs.CallShard.{call_cmp}
use Rattle.sip_round.specs.Answers.{calls_of}
use Rattle.sip_message.specs.Addr.{IsAddr}
use Rattle.sip_conversation.proofs.Sides.{each_side}
use Rattle.sip_conversation.proofs.laws.sides_are_fair.Goals as goal

pub returns : goal.returns
returns c = record {
  addresses = each_side (λ config. IsAddr config.local) c.args.one.now c.args.other.now
      c.numbers_fit.ensures c.numbers_fit-2.ensures;
  transactions = c.laws_of_phases.ensures.each_key_alone;
  calls = each_side (λ config. EachKeyAlone call_cmp (call_machine (calls_of config)) tick_at)
      c.args.one.now c.args.other.now c.laws_of_phases-2.ensures.each_key_alone
      c.laws_of_phases-3.ensures.each_key_alone;
}
