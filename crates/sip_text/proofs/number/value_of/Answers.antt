-- `value_of` gives the number that the digits stand for, or None above the maximum.
use Rattle.std.proofs.Common.{◌+◌, arith}
use Rattle.std.proofs.lemmas.Str.Parse.{digits_value-take-le}
use Rattle.sip_text.proofs.Digits.{one_more}
use Rattle.sip_text.proofs.number.value_of.Goals as goal

pub returns-in_err-value : goal.returns-in_err-value
returns-in_err-value c =
    let step = one_more c.args.digits.now c.loop-digit.digit-index c.requires
    c.loop-digit-test.true in
    let below = digits_value-take-le 10 c.args.digits.now (c.loop-digit.digit-index + 1)
    (omega arith) in
    rw c.from_residual.ensures (λ fits.
    c.in_err-value.ensures (omega (arith, step, below, c.ranges.most)))

pub returns-then-value-most : goal.returns-then-value-most
returns-then-value-most c =
    let step = one_more c.args.digits.now c.loop-digit.digit-index c.requires
    c.loop-digit-test.true in
    let below = digits_value-take-le 10 c.args.digits.now (c.loop-digit.digit-index + 1)
    (omega arith) in
    λ fits. omega (arith, step, below, c.in_ok-value.ensures)

pub loop-digit-preserved : goal.loop-digit-preserved
loop-digit-preserved c =
    let step = one_more c.args.digits.now c.loop-digit.digit-index c.requires
    c.loop-digit-test.true in
    record { so_far = omega (arith, step, c.in_ok-value.ensures); small = omega arith }
