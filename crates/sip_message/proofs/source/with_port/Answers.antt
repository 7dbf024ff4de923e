-- `with_port`: the text of a port is the value of a parameter.
use Rattle.std.proofs.Common.{◌≡◌, decimal, arith}
use Rattle.std.proofs.lemmas.Grind.{common_steps}
use Rattle.sip_message.proofs.Stamps.{port_is_value}
use Rattle.sip_message.proofs.source.with_port.Goals as goal

pub with_value-requires-clause-value_is : goal.with_value-requires-clause-value_is
with_value-requires-clause-value_is c =
    let e : c.deref.result.now ≡ decimal c.args.source.port = grind (arith, common_steps) in
    rw e (port_is_value c.args.source.port (omega arith))
