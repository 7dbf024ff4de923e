-- `Seat::work`: an owner and a thief each give back what they began with, and their dones.
use Rattle.sip_workers.proofs.Ends.{owner_serves, thief_serves}
use Rattle.sip_workers.proofs.seat.Seat.work.Goals as goal

pub returns-in_ok-owner-in-Owner : goal.returns-in_ok-owner-in-Owner
returns-in_ok-owner-in-Owner g c =
    let o = c.in_ok-owner-in-Owner.ensures in
    owner_serves g.J.Job.gives c.args.self c.in-Owner.owner c.in_ok-owner-in-Owner.owner
    c.in_ok-owner-in-Owner.dones c.in-Owner.is o.same o.parts o.put o.ran

pub returns-in_ok-pass-in-Thief : goal.returns-in_ok-pass-in-Thief
returns-in_ok-pass-in-Thief g c =
    let t = c.in_ok-pass-in-Thief.ensures in
    thief_serves g.J.Job.gives c.args.self c.in-Thief.thief c.in-Thief.pass
    c.in_ok-pass-in-Thief.pass c.in_ok-pass-in-Thief.dones c.in-Thief.is t.same t.parts t.put
    t.ran
