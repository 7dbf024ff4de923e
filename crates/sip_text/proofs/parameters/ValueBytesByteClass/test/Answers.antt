-- `ValueBytes::test`: the table has an x for exactly the bytes of a value without quotes.
use Rattle.std.proofs.Common.{◌==◌, get_or, refl, arith}
use Rattle.std.proofs.lemmas.Bool.{agree_below_at}
use Rattle.sip_text.specs.Parameter.{is_value_byte}
use Rattle.sip_text.specs.declared.parameters.TheConstants.{VALUE_BYTES}
use Rattle.sip_text.proofs.parameters.ValueBytesByteClass.test.Goals as goal

pub returns : goal.returns
unfolding is_value_byte
returns c = rw c.from.ensures
    (agree_below_at (λ b. get_or VALUE_BYTES b 0 == 120) is_value_byte 256 c.args.byte refl
    (omega arith))
