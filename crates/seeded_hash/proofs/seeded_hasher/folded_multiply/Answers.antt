-- `folded_multiply` joins the halves of the product.
use Rattle.std.proofs.Common.{refl}
use Rattle.seeded_hash.specs.SeededHasher.{folded_multiply}
use Rattle.seeded_hash.proofs.seeded_hasher.folded_multiply.Goals as goal

pub returns : goal.returns
unfolding folded_multiply
returns c = refl
