-- `Inbound::offer`: the numbers taken are the ones in order of all that came.
use Rattle.sip_reliable.proofs.InOrder.{stays, takes}
use Rattle.sip_reliable.proofs.inbound.Inbound.offer.Goals as goal

pub returns-clause-stays : goal.returns-clause-stays
returns-clause-stays c = λ came stands.
    stays c.args.self.now c.step.new.self c.step.result came c.args.rseq c.step.ensures.answer
    c.step.ensures.after stands

pub returns-clause-in_order : goal.returns-clause-in_order
returns-clause-in_order c =
    λ came stands. takes c.args.self.now c.step.result came c.args.rseq c.step.ensures.answer stands
