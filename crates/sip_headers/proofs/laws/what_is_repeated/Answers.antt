-- The law `what_is_repeated`: the repeated header of a draft is that of its lines.
use Rattle.sip_headers.proofs.Presences.{repeated_is}
use Rattle.sip_headers.proofs.laws.what_is_repeated.Goals as goal

pub returns : goal.returns
returns c lines e = repeated_is lines e
