-- The loop of `write`: the state after the blocks so far.
use Rattle.std.proofs.Common.{◌≡◌, ◌-◌, ◌/◌, ◌%◌, ◌<◌}
use Rattle.seeded_hash.specs.SeededHasher.{mix_blocks}
use Rattle.seeded_hash.proofs.seeded_hasher.SeededHasherHasher.write.Given as goal

abbrev pub invariant-loop-at : goal.invariant-loop-at
invariant-loop-at l =
    (l.at % 16 ≡ 0) × (l.at < l.len)
    × (l.state ≡ mix_blocks l.self.factor l.bytes l.initial.state (l.at / 16))

abbrev pub decreases-loop-at : goal.decreases-loop-at
decreases-loop-at l = l.len - l.at
