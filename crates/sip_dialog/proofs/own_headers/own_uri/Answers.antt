-- `own_uri`: the text `sip:` with an address may stand as a URI.
use Rattle.std.proofs.Common.{◌≡◌, ◌++◌, codes, decimal, arith, rules}
use Rattle.sip_message.specs.Ip.{ip_text}
use Rattle.sip_dialog.proofs.Requests.{own_uri}
use Rattle.sip_dialog.proofs.own_headers.own_uri.Goals as goal

pub from_text-requires : goal.from_text-requires
from_text-requires c =
    let e : c.extend_from_slice-3.new.self
    ≡ ((codes "sip:" ++ ip_text c.args.local.ip) ++ codes ":") ++ decimal c.args.local.port =
    search rules in
    rw e (own_uri c.args.local.ip c.args.local.port (omega arith) (omega arith) (omega arith)
    (omega arith) (omega arith))
