-- `run_len` gives the length of the run, with four tests in each turn.
use Rattle.std.proofs.Common.{◌+◌, sym, arith}
use Rattle.sip_text.proofs.Runs.{one_further, two_further, three_further, four_further, run_ends_at, run_is_all}
use Rattle.sip_text.proofs.run.run_len.Goals as goal

pub loop-index-init : goal.loop-index-init
loop-index-init g c = record { within = omega arith; each = λ k l. absurd (omega arith) }

pub overflow_sub-text : goal.overflow_sub-text
overflow_sub-text g c = c.loop-index.invariant.within

pub returns-then-not-test-clause-run : goal.returns-then-not-test-clause-run
returns-then-not-test-clause-run g c =
    run_ends_at g.C.ByteClass.holds c.args.text.now c.loop-index.index c.loop-index.invariant
    (sym c.if-not-test.ensures)

pub returns-then-not-test-2-clause-run : goal.returns-then-not-test-2-clause-run
returns-then-not-test-2-clause-run g c =
    let test = g.C.ByteClass.holds in
    let text = c.args.text.now in
    let first = c.loop-index.index in
    run_ends_at test text (first + 1)
    (one_further test text first (omega arith) c.loop-index.invariant (sym c.if-not-test.ensures))
    (sym c.if-not-test-2.ensures)

pub returns-then-not-test-3-clause-run : goal.returns-then-not-test-3-clause-run
returns-then-not-test-3-clause-run g c =
    let test = g.C.ByteClass.holds in
    let text = c.args.text.now in
    let first = c.loop-index.index in
    run_ends_at test text (first + 2)
    (two_further test text first (omega arith) c.loop-index.invariant (sym c.if-not-test.ensures)
    (sym c.if-not-test-2.ensures)) (sym c.if-not-test-3.ensures)

pub returns-then-not-test-4-clause-run : goal.returns-then-not-test-4-clause-run
returns-then-not-test-4-clause-run g c =
    let test = g.C.ByteClass.holds in
    let text = c.args.text.now in
    let first = c.loop-index.index in
    run_ends_at test text (first + 3)
    (three_further test text first (omega arith) c.loop-index.invariant (sym c.if-not-test.ensures)
    (sym c.if-not-test-2.ensures) (sym c.if-not-test-3.ensures)) (sym c.if-not-test-4.ensures)

pub loop-index-smaller : goal.loop-index-smaller
loop-index-smaller g c = omega arith

pub loop-index-preserved : goal.loop-index-preserved
loop-index-preserved g c =
    four_further g.C.ByteClass.holds c.args.text.now c.loop-index.index (omega arith)
    c.loop-index.invariant (sym c.if-not-test.ensures) (sym c.if-not-test-2.ensures)
    (sym c.if-not-test-3.ensures) (sym c.if-not-test-4.ensures)

pub loop-index-2-init : goal.loop-index-2-init
loop-index-2-init g c = c.loop-index.invariant

pub loop-index-2-preserved : goal.loop-index-2-preserved
loop-index-2-preserved g c =
    one_further g.C.ByteClass.holds c.args.text.now c.loop-index-2.index (omega arith)
    c.loop-index-2.invariant (sym c.if-test.ensures)

pub returns-else-test-clause-run : goal.returns-else-test-clause-run
returns-else-test-clause-run g c =
    run_ends_at g.C.ByteClass.holds c.args.text.now c.loop-index-2.index c.loop-index-2.invariant
    (sym c.if-test.ensures)

pub returns-after-loop-index-2-clause-run : goal.returns-after-loop-index-2-clause-run
returns-after-loop-index-2-clause-run g c =
    run_is_all g.C.ByteClass.holds c.args.text.now c.loop-index-2.index c.loop-index-2.invariant
    (omega arith)

pub returns-after-loop-index-2-clause-within : goal.returns-after-loop-index-2-clause-within
returns-after-loop-index-2-clause-within g c = c.loop-index-2.invariant.within
