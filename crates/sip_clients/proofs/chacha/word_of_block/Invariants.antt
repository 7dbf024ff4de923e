-- The loop of `word_of_block`: so many double rounds were made.
use Rattle.std.proofs.Common.{◌≡◌, ◌++◌}
use Rattle.rand_chacha.specs.Block.{double_rounds}
use Rattle.sip_clients.proofs.chacha.word_of_block.Given as goal

-- the rows after so many double rounds
abbrev pub invariant-loop-round : goal.invariant-loop-round
invariant-loop-round l = l.p ++ (l.q ++ (l.r ++ l.s))
    ≡ double_rounds l._round (l.a ++ (l.b ++ (l.c ++ l.d)))
