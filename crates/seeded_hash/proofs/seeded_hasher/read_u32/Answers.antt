-- `read_u32` reads four bytes.
use Rattle.seeded_hash.specs.SeededHasher.{read_u32}
use Rattle.seeded_hash.proofs.seeded_hasher.read_u32.Goals as goal

pub returns : goal.returns
unfolding read_u32
returns c = c.from_le_bytes.ensures
