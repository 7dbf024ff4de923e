-- The law `the_rules_say_the_steps`: the rules of the server side say the same as its steps.
use Rattle.sip_served.proofs.ArrivalRules.{item_same, kind_same}
use Rattle.sip_served.proofs.ResponseRules.{respond_same}
use Rattle.sip_served.proofs.TickRules.{due_same, tick_same}
use Rattle.sip_served.proofs.laws.the_rules_say_the_steps.Goals as goal

pub returns : goal.returns
returns c = record {
  item = item_same;
  kind = kind_same;
  answer = respond_same;
  tick = tick_same;
  due = due_same;
}
