-- `Dialog::next_request`: the dialog stands for all that happened and the request made.
use Rattle.sip_dialog.proofs.Lives.{request_stands}
use Rattle.sip_dialog.proofs.dialog.Dialog.next_request.Goals as goal

pub returns-clause-life : goal.returns-clause-life
returns-clause-life c = request_stands c.args.self.now c.args.method
