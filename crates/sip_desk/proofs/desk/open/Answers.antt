-- `open`: each turn of the loop adds one more line, with its poster.
use Rattle.std.proofs.Common.{refl}
use Rattle.sip_desk.proofs.Rings.{opened_more}
use Rattle.sip_desk.proofs.desk.open.Goals as goal

pub loop-line-preserved : goal.loop-line-preserved
loop-line-preserved g c =
    opened_more c.loop-line.desk _ c.loop-line.posters.items c.push-in-loop-line.new.self.items
    c.loop-line.line c.args.capacity _ c.in_ok-ring.end c.loop-line.invariant
    c.in_ok-push.ensures.items c.in_ok-push-2.ensures.items refl c.in_ok-ring.ensures.pair
    c.in_ok-ring.ensures.producer.0 c.in_ok-ring.ensures.producer.2
    c.in_ok-ring.ensures.consumer.0
