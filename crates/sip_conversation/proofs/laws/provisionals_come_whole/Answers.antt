-- The law `provisionals_come_whole`: what a user is told in one life of a dialog is a run, or a
-- front, of what the other user gave.
use Rattle.std.specs.Prelude.{List}
use Rattle.sip_round.specs.declared.round.Round.{Round}
use Rattle.sip_round.specs.Laws.{ProvisionalsInLives}
use Rattle.sip_conversation.specs.Conversation.{of_sides}
use Rattle.sip_conversation.proofs.CallsKeep.{by_types}
use Rattle.sip_conversation.proofs.ComeWhole.{come_whole}
use Rattle.sip_conversation.proofs.Sides.{each_side}
use Rattle.sip_conversation.proofs.laws.provisionals_come_whole.Goals as goal

pub returns : goal.returns
returns c =
    let configs = of_sides c.args.one c.args.other in
    let fair = c.sides_are_fair.ensures in
    by_types configs fair
    (come_whole configs fair
    (each_side (λ config. (rounds : List Round) → ProvisionalsInLives config rounds)
    c.args.one c.args.other c.provisionals_in_each_life.ensures
    c.provisionals_in_each_life-2.ensures))
