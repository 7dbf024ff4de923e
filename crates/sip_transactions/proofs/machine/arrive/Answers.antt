-- `arrive`: if the row ends and sends nothing, `pass` gives what is held and what is said.
use Rattle.sip_transactions.proofs.machine.arrive.Goals as goal

pub returns-in-Ended-Nothing-clause-next : goal.returns-in-Ended-Nothing-clause-next
returns-in-Ended-Nothing-clause-next c = c.pass.ensures.next c.args.now

pub returns-in-Ended-Nothing-clause-adds : goal.returns-in-Ended-Nothing-clause-adds
returns-in-Ended-Nothing-clause-adds c = c.pass.ensures.adds c.args.now
