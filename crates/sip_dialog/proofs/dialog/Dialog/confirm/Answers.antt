-- `Dialog::confirm`: the dialog stands for all that happened and the response that confirms it.
use Rattle.sip_dialog.proofs.Lives.{confirm_stands}
use Rattle.sip_dialog.proofs.dialog.Dialog.confirm.Goals as goal

pub returns-clause-life : goal.returns-clause-life
returns-clause-life c = confirm_stands c.args.self.now c.confirm_step.new.self c.confirm_step.result
    c.args.response.now c.confirm_step.ensures.open c.confirm_step.ensures.ok
