-- `ServerSide::ack` takes an ACK by the rules.
use Rattle.std.proofs.Common.{◌≡◌, subst}
use Rattle.std.specs.Prelude.{IfOk}
use Rattle.sip_served.specs.State.{ServedTaken}
use Rattle.sip_served.proofs.ArrivalRules.{ack_same}
use Rattle.sip_served.proofs.server_side.ServerSide.ack.Goals as goal

pub returns : goal.returns
returns c =
    subst (λ (taken : ServedTaken). IfOk c.take_ack.result
    (λ outs. (c.take_ack.new.self, outs.items) ≡ taken))
    (ack_same c.args.self.now c.args.call_id c.args.ack.now) c.take_ack.ensures
