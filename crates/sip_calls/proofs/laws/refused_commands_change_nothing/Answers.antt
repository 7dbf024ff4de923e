-- The law `refused_commands_change_nothing`: a refused command only gives its notice.
use Rattle.sip_calls.proofs.RefusedAlone.{refused_alone}
use Rattle.sip_calls.proofs.laws.refused_commands_change_nothing.Goals as goal

pub returns : goal.returns
returns c = refused_alone
