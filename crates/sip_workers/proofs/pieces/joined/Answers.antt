-- `joined`: each thief's pass belongs to the owner's deque, and its dones are put behind the
-- others.
use Rattle.std.proofs.Common.{◌++◌, arith, ap, subst, sym, ◌∙◌, append-nil}
use Rattle.crossbeam_deque.specs.Handles.{view, IsPassOf, worker_view}
use Rattle.sip_workers.proofs.Balances.{merges}
use Rattle.sip_workers.proofs.Runs.{ran_joined}
use Rattle.sip_workers.proofs.Ends.{thiefs_last}
use Rattle.sip_workers.proofs.pieces.joined.Goals as goal

pub absorb-requires-clause-rule : goal.absorb-requires-clause-rule
absorb-requires-clause-rule g c = merges _ _ _ _

pub absorb-requires-clause-table : goal.absorb-requires-clause-table
absorb-requires-clause-table g c =
    let theirs = thiefs_last g.J.Job.gives c.args.owner c.loop-result.thieves.items
    c.pop.new.self.items c.in-Some.result _ c.loop-result.invariant.3 c.in-Some.ensures.items
    c.in_ok-pass.ensures in
    subst (λ d. IsPassOf d c.in_ok-pass.pass) (sym c.loop-result.invariant.0) theirs.1.0

pub loop-result-preserved : goal.loop-result-preserved
loop-result-preserved g c =
    let theirs = thiefs_last g.J.Job.gives c.args.owner c.loop-result.thieves.items
    c.pop.new.self.items c.in-Some.result _ c.loop-result.invariant.3 c.in-Some.ensures.items
    c.in_ok-pass.ensures in
    let pass = theirs.1 in
    let both = c.absorb.ensures.rule in (
      c.absorb.ensures.same.0.0 ∙ c.loop-result.invariant.0,
      omega (arith, ap (λ v. v.parts) both, pass.1, c.in-Some.ensures.cases),
      ap (λ v. v.put) both ∙ ap (λ xs. (worker_view c.loop-result.owner).put ++ xs) pass.2
          ∙ append-nil _ ∙ c.loop-result.invariant.2,
      theirs.0,
      ran_joined g.J.Job.gives (worker_view c.loop-result.owner) (view c.in_ok-pass.pass)
          (worker_view c.absorb.new.self) c.loop-result.dones.items c.in_ok-pass.theirs.items
          c.append.new.self.items both c.in_ok-append.ensures.items c.loop-result.invariant.4
          pass.3,
    )
