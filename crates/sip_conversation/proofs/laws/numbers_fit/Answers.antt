-- `numbers_fit`: each number of an address is an octet.
use Rattle.std.proofs.Common.{arith}
use Rattle.sip_conversation.proofs.Addresses.{four_octets}
use Rattle.sip_conversation.proofs.laws.numbers_fit.Goals as goal

pub returns : goal.returns
returns c = (
  four_octets c.args.address.ip (omega arith) (omega arith) (omega arith) (omega arith)
      (omega arith),
  omega arith,
)
