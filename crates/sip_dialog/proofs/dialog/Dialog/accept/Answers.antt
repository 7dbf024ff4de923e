-- `Dialog::accept`: the dialog stands for all that happened and the request accepted.
use Rattle.sip_dialog.proofs.Lives.{accept_stands}
use Rattle.sip_dialog.proofs.dialog.Dialog.accept.Goals as goal

pub returns-clause-life : goal.returns-clause-life
returns-clause-life c = accept_stands c.args.self.now c.accept_step.new.self c.accept_step.result
    c.args.cseq c.accept_step.ensures.answer c.accept_step.ensures.ok
