-- `in_turn`: each turn of the loop runs one more piece.
use Rattle.sip_workers.proofs.Runs.{ran_then}
use Rattle.sip_workers.proofs.pieces.in_turn.Goals as goal

pub loop-piece-preserved : goal.loop-piece-preserved
loop-piece-preserved g c = (
  tt,
  tt,
  ran_then g.J.Job.gives c.loop-piece.yielded c.in-Some.piece c.run_piece.result
      c.loop-piece.dones.items c.push.new.self.items c.in_ok-push.ensures.items
      c.run_piece.ensures c.loop-piece.invariant.2,
)
