-- `Dialog::refresh`: the dialog stands for all that happened and the new target.
use Rattle.sip_dialog.proofs.Lives.{refresh_stands}
use Rattle.sip_dialog.proofs.dialog.Dialog.refresh.Goals as goal

pub returns-clause-life : goal.returns-clause-life
returns-clause-life c = refresh_stands c.args.self.now c.refresh_step.new.self c.refresh_step.result
    c.args.uri c.refresh_step.ensures.ok
