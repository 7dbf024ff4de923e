-- `ServerSide::tick` takes a tick by the rules.
use Rattle.std.proofs.Common.{rules, sym, ◌∙◌}
use Rattle.sip_served.proofs.TickRules.{tick_same}
use Rattle.sip_served.proofs.server_side.ServerSide.tick.Goals as goal

pub returns : goal.returns
returns c = search rules ∙ sym (tick_same c.args.self.now c.args.now)
