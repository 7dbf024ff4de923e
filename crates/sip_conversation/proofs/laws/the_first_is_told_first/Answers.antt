-- The law `the_first_is_told_first`: an RSeq above 1 is told after RSeq 1 was.
use Rattle.std.specs.Prelude.{List}
use Rattle.sip_round.specs.declared.round.Round.{Round}
use Rattle.sip_round.specs.Laws.{ProvisionalsInLives}
use Rattle.sip_conversation.specs.Conversation.{of_sides}
use Rattle.sip_conversation.proofs.CallsKeep.{by_types}
use Rattle.sip_conversation.proofs.FirstTold.{first_is_told}
use Rattle.sip_conversation.proofs.Sides.{each_side}
use Rattle.sip_conversation.proofs.laws.the_first_is_told_first.Goals as goal

pub returns : goal.returns
returns c =
    let configs = of_sides c.args.one c.args.other in
    let fair = c.sides_are_fair.ensures in
    by_types configs fair
    (first_is_told configs fair
    (each_side (λ config. (rounds : List Round) → ProvisionalsInLives config rounds)
    c.args.one c.args.other c.provisionals_in_each_life.ensures
    c.provisionals_in_each_life-2.ensures))
