-- `push_peers`: each turn of the loop writes the line of one more peer.
use Rattle.sip_ladder.proofs.Legend.{peer_more}
use Rattle.sip_ladder.proofs.head.push_peers.Goals as goal

pub loop-index-preserved : goal.loop-index-preserved
loop-index-preserved c =
    let h = c.in_ok-push_peer.ensures in
    peer_more c.args.peers.now c.loop-index.index _ _ _ _ c.loop-index-test.true
    c.loop-index.invariant h
