-- `TokenBytes::test`: the table has an x for exactly the bytes of a token.
use Rattle.std.proofs.Common.{◌==◌, get_or, refl, arith}
use Rattle.std.proofs.lemmas.Bool.{agree_below_at}
use Rattle.sip_text.specs.Character.{is_token_byte}
use Rattle.sip_text.specs.declared.character.TheConstants.{TOKEN_BYTES}
use Rattle.sip_text.proofs.character.TokenBytesByteClass.test.Goals as goal

pub returns : goal.returns
unfolding is_token_byte
returns c = rw c.from.ensures
    (agree_below_at (λ b. get_or TOKEN_BYTES b 0 == 120) is_token_byte 256 c.args.byte refl
    (omega arith))
