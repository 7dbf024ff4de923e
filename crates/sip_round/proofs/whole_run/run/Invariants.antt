-- The loop of `run`: the agent stands for the rounds so far, whose answers were made.
use Rattle.sip_round.proofs.SoFar.{RunsSoFar}
use Rattle.sip_round.proofs.whole_run.run.Given as goal

abbrev pub invariant-loop-index : goal.invariant-loop-index
invariant-loop-index g l =
    RunsSoFar g.C.Cut.shard_of l.fn.config l.rounds l.index l.agent l.made.items
