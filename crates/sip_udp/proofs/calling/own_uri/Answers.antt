-- `own_uri`: the text `sip:ua@` with an IP address may stand as a URI.
use Rattle.std.proofs.Common.{◌≡◌, ◌++◌, codes, arith, rules}
use Rattle.sip_message.specs.Ip.{ip_text}
use Rattle.sip_udp.proofs.OwnUri.{own_uri}
use Rattle.sip_udp.proofs.calling.own_uri.Goals as goal

pub from_text-requires : goal.from_text-requires
from_text-requires c =
    let e : c.extend_from_slice.new.self ≡ codes "sip:ua@" ++ ip_text c.args.local.ip =
    search rules in
    rw e (own_uri c.args.local.ip (omega arith) (omega arith) (omega arith) (omega arith))
