-- `Dialog::ack`: the dialog stands for all that happened and the ACK.
use Rattle.sip_dialog.proofs.Lives.{ack_stands}
use Rattle.sip_dialog.proofs.dialog.Dialog.ack.Goals as goal

pub returns-clause-life : goal.returns-clause-life
returns-clause-life c = ack_stands c.args.self.now c.args.cseq
