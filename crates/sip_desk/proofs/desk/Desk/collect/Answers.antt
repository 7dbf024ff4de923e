-- `Desk::collect`: each turn of the loop gathers more events, and all of them are a merge.
use Rattle.std.proofs.Common.{◌≡◌, ◌≤◌, [], subst, sym, arith}
use Rattle.std.specs.Vec.{vec_len, vec_capacity}
use Rattle.sip_desk.specs.Collected.{Gathers}
use Rattle.sip_desk.proofs.Parts.{gathers_nothing, gathers_then, collected_all, keeps_itself, keeps_then}
use Rattle.sip_desk.proofs.desk.Desk.collect.Goals as goal

pub loop-init : goal.loop-init
loop-init g c =
    let none : Gathers c.args.self.now c.args.self.now [] c.in_ok-events.events.items =
    subst (Gathers c.args.self.now c.args.self.now []) (sym c.in_ok-events.ensures.items)
    (gathers_nothing c.args.self.now []) in
    let room : vec_capacity c.in_ok-events.events ≡ c.args.max = c.in_ok-events.ensures.exact in
    let most : vec_len c.in_ok-events.events ≤ c.args.max =
    omega (arith, c.in_ok-events.ensures.len) in
    (none, keeps_itself c.args.self.now, room, most)

pub loop-preserved : goal.loop-preserved
loop-preserved g c = (
  gathers_then c.args.self.now c.loop.self c.pass.new.self [] c.loop.events.items
      c.pass.new.events.items c.loop.invariant.0 c.pass.ensures.gathers,
  keeps_then c.args.self.now c.loop.self c.pass.new.self c.loop.invariant.1 c.pass.ensures.same,
  c.pass.ensures.room,
  c.pass.ensures.most,
)

pub returns-clause-merge : goal.returns-clause-merge
returns-clause-merge g c =
    collected_all c.args.self.now c.pass.new.self c.pass.new.events.items
    (gathers_then c.args.self.now c.loop.self c.pass.new.self [] c.loop.events.items
    c.pass.new.events.items c.loop.invariant.0 c.pass.ensures.gathers)
