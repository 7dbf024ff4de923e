-- `CallShard::new`: a new shard holds no call.
use Rattle.std.proofs.Common.{ap}
use Rattle.sip_calls.proofs.shard.CallShard.new.Goals as goal

pub returns : goal.returns
returns c = ap (λ held. record {
  calls = record { local = c.args.local; seed = c.args.seed };
  held = held;
}) c.new.ensures
