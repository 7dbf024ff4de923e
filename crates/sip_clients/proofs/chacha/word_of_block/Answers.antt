-- `word_of_block`: each turn of the loop makes one more double round, and after ten the word is the
-- sum.
use Rattle.std.proofs.Common.{◌≡◌, ◌++◌, List, ℕ, ◌<◌, ◌≤◌, slice_index, arith, refl, ap, ◌∙◌, add-one}
use Rattle.rand_chacha.specs.Block.{add32, column_round, diagonal_round, double_rounds}
use Rattle.sip_clients.proofs.ChaChaRows.{sum_in_first, sum_in_second, sum_in_third, sum_in_last}
use Rattle.sip_clients.proofs.chacha.word_of_block.Goals as goal

pub loop-round-init : goal.loop-round-init
unfolding double_rounds
loop-round-init c = refl

pub loop-round-preserved : goal.loop-round-preserved
unfolding double_rounds
loop-round-preserved c =
    rw add-one (c.double_round.ensures
    ∙ ap (λ x. diagonal_round (column_round x)) c.loop-round.invariant)

-- the sum once the rounds are over
whole : (x state : List ℕ) (rounds k sum : ℕ) → rounds ≡ 10 → x ≡ double_rounds rounds state
    → sum ≡ add32 (slice_index x k) (slice_index state k)
    → sum ≡ add32 (slice_index (double_rounds 10 state) k) (slice_index state k)
whole x state rounds k sum done made sums =
    sums ∙ ap (λ y. add32 (slice_index y k) (slice_index state k))
    (made ∙ ap (λ n. double_rounds n state) done)

pub returns-then-index-lt-ROW_WORDS : goal.returns-then-index-lt-ROW_WORDS
returns-then-index-lt-ROW_WORDS c =
    let i = c.args in let x = c.loop-round in
    let done : x._round ≡ 10 = omega arith in
    let below : i.index < 4 = omega arith in
    c.sum_at.ensures
    ∙ whole (x.p ++ (x.q ++ (x.r ++ x.s))) (i.a ++ (i.b ++ (i.c ++ i.d)))
    x._round i.index _ done x.invariant
    (sum_in_first x.p x.q x.r x.s i.a i.b i.c i.d x.auto.p.0 x.auto.q.0 x.auto.r.0 c.fits-a.0
    c.fits-b.0 c.fits-c.0 i.index below)

pub returns-then-index : goal.returns-then-index
returns-then-index c =
    let i = c.args in let x = c.loop-round in
    let done : x._round ≡ 10 = omega arith in
    let past : 4 ≤ i.index = omega arith in
    let below : i.index < 8 = omega arith in
    c.sum_at-then-index.ensures
    ∙ whole (x.p ++ (x.q ++ (x.r ++ x.s))) (i.a ++ (i.b ++ (i.c ++ i.d)))
    x._round i.index _ done x.invariant
    (sum_in_second x.p x.q x.r x.s i.a i.b i.c i.d x.auto.p.0 x.auto.q.0 x.auto.r.0 c.fits-a.0
    c.fits-b.0 c.fits-c.0 i.index past below)

pub returns-then-index-2 : goal.returns-then-index-2
returns-then-index-2 c =
    let i = c.args in let x = c.loop-round in
    let done : x._round ≡ 10 = omega arith in
    let past : 8 ≤ i.index = omega arith in
    let below : i.index < 12 = omega arith in
    c.sum_at-then-index-2.ensures
    ∙ whole (x.p ++ (x.q ++ (x.r ++ x.s))) (i.a ++ (i.b ++ (i.c ++ i.d)))
    x._round i.index _ done x.invariant
    (sum_in_third x.p x.q x.r x.s i.a i.b i.c i.d x.auto.p.0 x.auto.q.0 x.auto.r.0 c.fits-a.0
    c.fits-b.0 c.fits-c.0 i.index past below)

pub returns-else-index-2 : goal.returns-else-index-2
returns-else-index-2 c =
    let i = c.args in let x = c.loop-round in
    let done : x._round ≡ 10 = omega arith in
    let past : 12 ≤ i.index = omega arith in
    c.sum_at-else-index-2.ensures
    ∙ whole (x.p ++ (x.q ++ (x.r ++ x.s))) (i.a ++ (i.b ++ (i.c ++ i.d)))
    x._round i.index _ done x.invariant
    (sum_in_last x.p x.q x.r x.s i.a i.b i.c i.d x.auto.p.0 x.auto.q.0 x.auto.r.0 c.fits-a.0
    c.fits-b.0 c.fits-c.0 i.index past)
