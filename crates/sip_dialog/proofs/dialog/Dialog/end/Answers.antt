-- `Dialog::end`: the dialog stands for all that happened and its end.
use Rattle.sip_dialog.proofs.Lives.{end_stands}
use Rattle.sip_dialog.proofs.dialog.Dialog.end.Goals as goal

pub returns-clause-life : goal.returns-clause-life
returns-clause-life c = end_stands c.args.self.now c.end_step.new.self c.end_step.ensures
