-- `UriBytes`: the table of bytes is the test of a URI's bytes.
use Rattle.std.proofs.Common.{◌==◌, get_or, refl, arith}
use Rattle.std.proofs.lemmas.Bool.{agree_below_at}
use Rattle.sip_grammar.specs.Uri.{is_uri_byte}
use Rattle.sip_grammar.specs.declared.uri.TheConstants.{URI_BYTES}
use Rattle.sip_grammar.proofs.uri.UriBytesByteClass.test.Goals as goal

pub returns : goal.returns
unfolding is_uri_byte
returns c = rw c.from.ensures
    (agree_below_at (λ b. get_or URI_BYTES b 0 == 120) is_uri_byte 256 c.args.byte refl
    (omega arith))
