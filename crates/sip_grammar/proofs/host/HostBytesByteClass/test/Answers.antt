-- `HostBytes`: the table of bytes is the test of a host's bytes.
use Rattle.std.proofs.Common.{◌==◌, get_or, refl, arith}
use Rattle.std.proofs.lemmas.Bool.{agree_below_at}
use Rattle.sip_grammar.specs.Host.{is_host_byte}
use Rattle.sip_grammar.specs.declared.host.TheConstants.{HOST_BYTES}
use Rattle.sip_grammar.proofs.host.HostBytesByteClass.test.Goals as goal

pub returns : goal.returns
unfolding is_host_byte
returns c = rw c.from.ensures
    (agree_below_at (λ b. get_or HOST_BYTES b 0 == 120) is_host_byte 256 c.args.byte refl
    (omega arith))
