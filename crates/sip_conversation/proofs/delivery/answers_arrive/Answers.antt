-- The law `answers_arrive`: a final response arrives, and is told.
use Rattle.sip_conversation.specs.Conversation.{of_sides}
use Rattle.sip_conversation.proofs.ApplicationAnswers.{applications_answers_arrive}
use Rattle.sip_conversation.proofs.AnswersArrive.{answers_arrive}
use Rattle.sip_conversation.proofs.CallsKeep.{by_types}
use Rattle.sip_conversation.proofs.delivery.answers_arrive.Goals as goal

pub returns-clause-given : goal.returns-clause-given
returns-clause-given c =
    let configs = of_sides c.args.one c.args.other in
    let fair = c.sides_are_fair.ensures in
    by_types configs fair
    (answers_arrive configs fair)

pub returns-clause-by_the_application : goal.returns-clause-by_the_application
returns-clause-by_the_application c =
    let configs = of_sides c.args.one c.args.other in
    let fair = c.sides_are_fair.ensures in
    by_types configs fair
    (applications_answers_arrive configs fair)
