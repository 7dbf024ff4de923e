-- `drawn` gives the ladder of the rounds that the text spells.
use Rattle.std.proofs.Common.{rules}
use Rattle.sip_ladder.proofs.Drawn.{draws_file}
use Rattle.sip_ladder.proofs.drawing.drawn.Goals as goal

pub returns-clause-draws : goal.returns-clause-draws
returns-clause-draws g c =
    draws_file c.args.kind c.args.text.now c.in-Ok.read.0 c.in-Ok.read.1
    c.as_slice-rounds.result.now
    c.in-Ok-run.answers.items c.in_ok-picture.picture.items (search rules) c.in-Ok.ensures.found
    c.in-Ok.ensures.size c.in-Ok-run.ensures.unrefused c.in-Ok-run.ensures.answers
    (search rules)
