-- The law `what_is_missing`: the missing header of a draft is that of its lines.
use Rattle.sip_headers.proofs.Presences.{missing_is}
use Rattle.sip_headers.proofs.laws.what_is_missing.Goals as goal

pub returns : goal.returns
returns c lines e = missing_is lines e
