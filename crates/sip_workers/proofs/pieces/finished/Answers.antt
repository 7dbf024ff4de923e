-- `finished` gives one done for each piece, whichever seat took it.
use Rattle.std.proofs.Common.{◌≡◌, arith, ◌∙◌}
use Rattle.crossbeam_deque.specs.Handles.{worker_view}
use Rattle.sip_workers.proofs.Ends.{comes_back}
use Rattle.sip_workers.proofs.pieces.finished.Goals as goal

pub joined-requires : goal.joined-requires
joined-requires g c =
    let given = c.requires.given in
    let b = comes_back g.J.Job.gives given.0 c.args.results.items _ c.in_ok-owner.owner
    c.in_ok-owner.dones given.1 (rw c.in_ok-owner.ensures at c.pop.ensures.items) in
    record { parts = omega (arith, b.parts, c.pop.new.self.ok); thieves = b.thieves; ran = b.ran }

pub returns : goal.returns
returns g c = λ put are.
    let b = comes_back g.J.Job.gives put c.args.results.items _ c.in_ok-owner.owner
    c.in_ok-owner.dones are (rw c.in_ok-owner.ensures at c.pop.ensures.items) in
    let all : (worker_view c.in_ok-owner-2.owner).put ≡ put =
    c.in_ok-owner-2.ensures.put ∙ b.put_is in
    rw (← all) c.drained.ensures
