-- `read_u64` reads eight bytes.
use Rattle.seeded_hash.specs.SeededHasher.{read_u64}
use Rattle.seeded_hash.proofs.seeded_hasher.read_u64.Goals as goal

pub returns : goal.returns
unfolding read_u64
returns c = rw (c.read_u32.ensures, c.read_u32-2.ensures)
