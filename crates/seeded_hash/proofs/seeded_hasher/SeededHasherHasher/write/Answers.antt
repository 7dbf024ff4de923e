-- `write`: each turn of the loop takes one more block.
use Rattle.std.proofs.Common.{◌≡◌, ℕ, suc, ◌+◌, ◌-◌, ◌*◌, ◌/◌, length, refl, arith}
use borrow.Author.Tests.{le-leb, lt-leb}
use Rattle.seeded_hash.specs.SeededHasher.{mix_blocks, write}
use Rattle.seeded_hash.proofs.seeded_hasher.SeededHasherHasher.write.Goals as goal

pub returns-then-len-le-WORD : goal.returns-then-len-le-WORD
unfolding write
returns-then-len-le-WORD c =
    rw (
      c.folded_multiply-self.ensures,
      c.read_short.ensures,
      le-leb (length c.args.bytes.now) 8 c.if-len-le-WORD.true,
    )

pub loop-at-init : goal.loop-at-init
unfolding mix_blocks
loop-at-init c = (refl, omega arith, refl)

pub loop-at-preserved : goal.loop-at-preserved
unfolding mix_blocks
loop-at-preserved c =
    let at : ℕ = c.loop-at.at in
    let whole : at ≡ 16 * (at / 16) = omega (arith, c.loop-at.invariant.0) in
    let more : (at + 16) / 16 ≡ suc (at / 16) = omega arith in (
      omega arith,
      omega arith,
      rw (more, c.mixed-state.ensures, ← c.loop-at.invariant.2, ← whole),
    )

pub returns : goal.returns
unfolding write
returns c =
    let n : ℕ = length c.args.bytes.now in
    let count : (n - 1) / 16 ≡ c.loop-at.at / 16 =
    omega (arith, c.loop-at.invariant.0, c.loop-at.invariant.1, c.loop-at-test.false) in
    rw (
      lt-leb n 8 c.if-len-le-WORD.false,
      count,
      ← c.loop-at.invariant.2,
      c.mixed-self.ensures,
      c.saturating_sub.ensures,
    )
