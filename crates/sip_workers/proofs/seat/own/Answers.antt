-- `own`: each turn of the loop runs one more piece of the owner's.
use Rattle.std.proofs.Common.{◌≡◌, arith, ap, subst, sym, ◌∙◌}
use Rattle.crossbeam_deque.specs.Handles.{worker_deque, worker_view}
use Rattle.sip_workers.proofs.Balances.{takes, pops, drained}
use Rattle.sip_workers.proofs.Runs.{ran_more}
use Rattle.sip_workers.specs.Ran.{Ran}
use Rattle.sip_workers.proofs.seat.own.Goals as goal
use Rattle.sip_workers.proofs.seat.own.Goals.{else-loop-test, then-loop-test+in_default}

pub pop_as-requires-clause-fifo : goal.pop_as-requires-clause-fifo
pop_as-requires-clause-fifo g c = λ _. takes _ _ (omega arith)

pub pop_as-requires-clause-lifo : goal.pop_as-requires-clause-lifo
pop_as-requires-clause-lifo g c = λ _. pops _ _ (omega arith)

pub pop_as-requires-clause-empty : goal.pop_as-requires-clause-empty
pop_as-requires-clause-empty g c = drained _ _

pub loop-preserved : goal.loop-preserved
loop-preserved g c =
    let took = c.in-Some.ensures.rule.0 in (
      c.in-Some.ensures.same.0.0 ∙ c.loop.invariant.0,
      ap (λ v. v.parts) took ∙ c.loop.invariant.1,
      ap (λ v. v.put) took ∙ c.loop.invariant.2,
      ran_more g.J.Job.gives (worker_view c.loop.owner)
          (worker_view c.pop_as.new.self) c.in-Some.piece c.run_piece.result c.loop.dones.items
          c.push.new.self.items took c.in_ok-push.ensures.items c.run_piece.ensures
          c.loop.invariant.3,
    )

pub returns : goal.returns
returns g c =
    let alike : (worker_deque c.loop-test.owner ≡ worker_deque c.loop.owner)
    × (worker_view c.loop-test.owner ≡ worker_view c.loop.owner) =
    elim c.loop-test.branch [
      | else-loop-test w ↦ (ap worker_deque w.owner-is, ap worker_view w.owner-is)
      | then-loop-test+in_default w ↦ (
        ap worker_deque w.owner-is
            ∙ w.in_default.ensures.same.0.0,
        ap worker_view w.owner-is ∙ w.in_default.ensures.rule.0,
      )
    ] in
    record {
      same = alike.0 ∙ c.loop.invariant.0;
      parts = ap (λ v. v.parts) alike.1 ∙ c.loop.invariant.1;
      put = ap (λ v. v.put) alike.1 ∙ c.loop.invariant.2;
      ran = subst (λ v. Ran g.J.Job.gives v.taken c.loop.dones.items)
          (sym alike.1) c.loop.invariant.3;
    }
