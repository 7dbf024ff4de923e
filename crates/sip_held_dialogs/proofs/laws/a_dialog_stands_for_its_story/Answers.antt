-- The law `a_dialog_stands_for_its_story`: the record of a dialog says the same as its story.
use Rattle.sip_held_dialogs.proofs.Lives.{all_on, cases_fit}
use Rattle.sip_held_dialogs.proofs.laws.a_dialog_stands_for_its_story.Goals as goal

pub returns-clause-stands : goal.returns-clause-stands
returns-clause-stands c = all_on

pub returns-clause-fits : goal.returns-clause-fits
returns-clause-fits c = cases_fit
