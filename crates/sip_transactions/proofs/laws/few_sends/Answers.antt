-- The law `few_sends`: a client sends an INVITE at most 7 times, another request at most 11 times.
use Rattle.sip_transactions.specs.Laws.{FewSends}
use Rattle.sip_transactions.proofs.FewSends as sends
use Rattle.sip_transactions.proofs.Rules.{at_steps}
use Rattle.sip_transactions.proofs.laws.few_sends.Goals as goal

pub returns : goal.returns
returns c = at_steps FewSends sends.few_sends
