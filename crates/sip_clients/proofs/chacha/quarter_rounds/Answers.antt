-- `quarter_rounds` makes the quarter round of the four words in each lane.
use Rattle.std.proofs.Common.{refl}
use Rattle.rand_chacha.specs.Block.{quarter_round}
use Rattle.sip_clients.proofs.chacha.quarter_rounds.Goals as goal

pub returns : goal.returns
unfolding quarter_round
returns c lane h =
    rw (
      c.xor_rotate-b2.ensures lane h,
      c.add-c2.ensures lane h,
      c.xor_rotate-d2.ensures lane h,
      c.add-a2.ensures lane h,
      c.xor_rotate-b1.ensures lane h,
      c.add-c1.ensures lane h,
      c.xor_rotate-d1.ensures lane h,
      c.add-a1.ensures lane h,
    ) refl
