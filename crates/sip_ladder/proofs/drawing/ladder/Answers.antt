-- `ladder`: without a picture nothing is written; with `Output` a front of the ladder may be.
use Rattle.std.proofs.Common.{rules}
use Rattle.sip_ladder.proofs.Drawn.{draws_front, of_fault, untouched}
use Rattle.sip_ladder.proofs.drawing.ladder.Goals as goal

pub returns-in_err-picture-clause-unwritten : goal.returns-in_err-picture-clause-unwritten
returns-in_err-picture-clause-unwritten g c = untouched _ c.args.writer.now

pub returns-clause-front : goal.returns-clause-front
returns-clause-front g c = λ is.
    draws_front c.args.kind (g.R.CountedRead.remaining c.args.reader.now) c.in_ok-text.text.items
    c.in_ok-picture.picture.items _ _ c.in_ok-text.ensures.all (search rules)
    (of_fault c.write_whole.result _ is (rw c.deref-2.ensures.value at c.write_whole.ensures.front))
