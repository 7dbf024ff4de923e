-- The law `removed_in_time`: a tick removes what is due to be removed.
use Rattle.sip_agent_laws.proofs.calls.InTime.{clients_removed, requests_removed}
use Rattle.sip_agent_laws.proofs.calls.removed_in_time.Goals as goal

pub returns-clause-requests : goal.returns-clause-requests
returns-clause-requests c = requests_removed

pub returns-clause-clients : goal.returns-clause-clients
returns-clause-clients c = clients_removed
