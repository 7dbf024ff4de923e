-- `own_host`: the text of an IPv4 address may stand as a host.
use Rattle.std.proofs.Common.{arith}
use Rattle.sip_dialog.proofs.Requests.{ip_is_host}
use Rattle.sip_dialog.proofs.own_headers.own_host.Goals as goal

pub copy_of-requires : goal.copy_of-requires
copy_of-requires c = rw (c.deref.ensures.0, c.ip_text.ensures.value)
    (ip_is_host c.args.local.ip (omega arith) (omega arith) (omega arith) (omega arith))
