-- `read_seed` reads 32 pairs of digits, and nothing may follow them.
use Rattle.std.proofs.Common.{sym, ◌∙◌, arith, rules}
use Rattle.sip_files.specs.Steps.Reading.{seed_at}
use Rattle.sip_files.proofs.Pairs.{seed_goes_on, seed_stops, seed_ends}
use Rattle.sip_files.proofs.numbers.read_seed.Goals as goal

pub returns-in_err-byte : goal.returns-in_err-byte
unfolding seed_at
returns-in_err-byte c =
    rw c.from_residual.ensures (seed_stops 32 c.loop-i.i _ c.loop-i.left.now _ c.loop-i-test.true
    c.in_err-byte.ensures c.loop-i.invariant.so_far)

pub loop-i-preserved : goal.loop-i-preserved
loop-i-preserved c = record {
  len = search rules;
  so_far = seed_goes_on 32 c.loop-i.i c.loop-i.seed c.loop-i.left.now c.in_ok-byte.byte
      c.in_ok-byte.after.now _ c.loop-i-test.true c.loop-i.invariant.len c.in_ok-byte.ensures
      c.loop-i.invariant.so_far;
}

pub returns-then-is_empty : goal.returns-then-is_empty
unfolding seed_at
returns-then-is_empty c =
    seed_ends 32 c.loop-i.i c.loop-i.seed c.loop-i.left.now _ _ (omega arith) c.loop-i.invariant.len
    (sym c.is_empty.ensures ∙ c.if-is_empty.true) c.loop-i.invariant.so_far

pub returns-else-is_empty : goal.returns-else-is_empty
unfolding seed_at
returns-else-is_empty c =
    seed_ends 32 c.loop-i.i c.loop-i.seed c.loop-i.left.now _ _ (omega arith) c.loop-i.invariant.len
    (sym c.is_empty.ensures ∙ c.if-is_empty.false) c.loop-i.invariant.so_far
