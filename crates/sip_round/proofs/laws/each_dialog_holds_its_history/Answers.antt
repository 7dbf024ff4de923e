-- The law `each_dialog_holds_its_history`, with the numbers of what each input sends next.
use Rattle.sip_round.proofs.CallsHeld.{dialogs_have_their_history, inputs_number_on}
use Rattle.sip_round.proofs.laws.each_dialog_holds_its_history.Goals as goal

pub returns-clause-history : goal.returns-clause-history
returns-clause-history c =
    dialogs_have_their_history c.args.config.now c.laws_of_phases.ensures.each_key_alone

pub returns-clause-next : goal.returns-clause-next
returns-clause-next c = inputs_number_on c.args.config.now
