-- The law `nothing_left`: at rest with nothing that waits a call isn't held.
use Rattle.sip_agent_laws.proofs.calls.AtRest.{nothing_left}
use Rattle.sip_agent_laws.proofs.calls.nothing_left.Goals as goal

pub returns : goal.returns
returns c = nothing_left
