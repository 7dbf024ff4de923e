-- `thieve`: each turn of the loop runs one more stolen piece.
use Rattle.std.proofs.Common.{◌≡◌, ap, subst, sym, ◌∙◌}
use Rattle.crossbeam_deque.specs.Handles.{view, IsPassOf, stealer_deque}
use Rattle.sip_workers.proofs.Runs.{ran_more}
use Rattle.sip_workers.specs.Ran.{Ran}
use Rattle.sip_workers.proofs.seat.thieve.Goals as goal
use Rattle.sip_workers.proofs.seat.thieve.Goals.{else-loop-test, then-loop-test+in_default}

pub loop-preserved : goal.loop-preserved
loop-preserved g c =
    let took = c.in-Some.ensures.some in (
      c.in-Some.ensures.same,
      ap (λ v. v.parts) took ∙ c.loop.invariant.1,
      ap (λ v. v.put) took ∙ c.loop.invariant.2,
      ran_more g.J.Job.gives (view c.loop.pass)
          (view c.steal.new.pass) c.in-Some.piece c.run_piece.result c.loop.dones.items
          c.push.new.self.items took c.in_ok-push.ensures.items c.run_piece.ensures
          c.loop.invariant.3,
    )

pub returns : goal.returns
returns g c =
    let alike : IsPassOf (stealer_deque c.args.thief.now) c.loop-test.pass
    × (view c.loop-test.pass ≡ view c.loop.pass) =
    elim c.loop-test.branch [
      | else-loop-test w ↦ (
        subst (λ pass. IsPassOf (stealer_deque c.args.thief.now) pass)
            (sym w.pass-is) c.loop.invariant.0,
        ap view w.pass-is,
      )
      | then-loop-test+in_default w ↦ (
        subst
            (λ pass. IsPassOf (stealer_deque c.args.thief.now) pass)
            (sym w.pass-is) w.in_default.ensures.same,
        ap view w.pass-is ∙ w.in_default.ensures.none,
      )
    ] in
    record {
      same = alike.0;
      parts = ap (λ v. v.parts) alike.1 ∙ c.loop.invariant.1;
      put = ap (λ v. v.put) alike.1 ∙ c.loop.invariant.2;
      ran = subst (λ v. Ran g.J.Job.gives v.taken c.loop.dones.items)
          (sym alike.1) c.loop.invariant.3;
    }
