-- `send_all`: each turn of the loop sends one more output, and adds its failure if that failed.
use Rattle.std.proofs.Common.{rules}
use Rattle.sip_udp.proofs.Sendings.{begun, goes_on}
use Rattle.sip_udp.proofs.sending.send_all.Goals as goal

pub loop-key-init : goal.loop-key-init
loop-key-init g c = begun _ _ _ _ _ (search rules) (search rules) (search rules)

pub loop-key-preserved : goal.loop-key-preserved
loop-key-preserved g c =
    let sends = c.send_one.ensures.sends in
    rw c.send_one.ensures.room (goes_on _ _ _ _ _ _ _ _ _ _ _ c.in-Some-split_first.placed.now
    c.in-Some.key sends.0 c.loop-key.invariant (search rules)
    (search rules) sends.1 sends.2)
