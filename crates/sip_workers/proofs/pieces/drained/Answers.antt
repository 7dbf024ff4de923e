-- `drained`: each turn of the loop runs one more piece, and ends only when all were taken.
use Rattle.std.proofs.Common.{[], ◌∷◌, length, length-append, arith, ap, ◌∙◌}
use Rattle.crossbeam_deque.specs.Handles.{worker_view}
use Rattle.sip_workers.proofs.Balances.{takes, pops, drained}
use Rattle.sip_workers.proofs.Runs.{ran_more}
use Rattle.sip_workers.proofs.pieces.drained.Goals as goal

pub pop_as-requires-clause-fifo : goal.pop_as-requires-clause-fifo
pop_as-requires-clause-fifo g c = λ _. takes _ _ (omega arith)

pub pop_as-requires-clause-lifo : goal.pop_as-requires-clause-lifo
pop_as-requires-clause-lifo g c = λ _. pops _ _ (omega arith)

pub pop_as-requires-clause-empty : goal.pop_as-requires-clause-empty
pop_as-requires-clause-empty g c = drained _ _

pub loop-piece-preserved : goal.loop-piece-preserved
loop-piece-preserved g c =
    let took = c.in-Some.ensures.rule.0 in (
      ap (λ v. v.parts) took ∙ c.loop-piece.invariant.0,
      ap (λ v. v.put) took ∙ c.loop-piece.invariant.1,
      ran_more g.J.Job.gives (worker_view c.loop-piece.owner)
          (worker_view c.pop_as.new.self) c.in-Some.piece c.run_piece.result
          c.loop-piece.dones.items c.push.new.self.items took c.in_ok-push.ensures.items
          c.run_piece.ensures c.loop-piece.invariant.2,
    )

pub loop-piece-smaller : goal.loop-piece-smaller
loop-piece-smaller g c =
    let took = c.in-Some.ensures.rule.0 in
    omega (
      arith,
      ap (λ v. length v.put) took,
      ap (λ v. length v.taken) took,
      length-append (worker_view c.loop-piece.owner).taken (c.in-Some.piece ∷ []),
      c.in-Some.ensures.rule.1 c.loop-piece.invariant.0,
    )
