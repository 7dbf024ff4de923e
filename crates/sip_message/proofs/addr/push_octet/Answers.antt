-- `push_octet`: a number has at most three digits, so there is room for it.
use Rattle.std.proofs.Common.{◌≡◌, decimal, length, ap, ◌∙◌, arith}
use Rattle.std.proofs.lemmas.Fmt.{length-decimal-le}
use Rattle.sip_message.proofs.addr.push_octet.Goals as goal

pub unwrap-requires : goal.unwrap-requires
unwrap-requires c =
    let e : c.deref.result.now ≡ decimal c.args.octet =
    c.deref.ensures.0 ∙ c.decimal.ensures ∙ ap decimal c.from.ensures in
    let short = length-decimal-le 3 c.args.octet (omega arith) (omega arith) (omega arith) in
    c.try_extend_from_slice.ensures.variant.1 (omega (arith, short, ap length e))

pub returns-clause-len : goal.returns-clause-len
returns-clause-len c =
    let e : c.deref.result.now ≡ decimal c.args.octet =
    c.deref.ensures.0 ∙ c.decimal.ensures ∙ ap decimal c.from.ensures in
    let short = length-decimal-le 3 c.args.octet (omega arith) (omega arith) (omega arith) in
    let len = rw c.unwrap.ensures at c.try_extend_from_slice.ensures.len in
    omega (arith, short, ap length e, len)
