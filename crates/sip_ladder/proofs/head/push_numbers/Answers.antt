-- `push_numbers`: each turn of the loop writes the number above one more column.
use Rattle.sip_ladder.proofs.Legend.{number_more}
use Rattle.sip_ladder.proofs.head.push_numbers.Goals as goal

pub loop-index-preserved : goal.loop-index-preserved
loop-index-preserved c =
    number_more _ _ _ _ c.loop-index.index c.loop-index.invariant c.in_ok-push_number.ensures
