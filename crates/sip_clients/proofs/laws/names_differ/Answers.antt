-- The law `names_differ`: names of different rounds, places or indexes differ.
use Rattle.sip_clients.proofs.Names.{names_differ}
use Rattle.sip_clients.proofs.laws.names_differ.Goals as goal

pub returns : goal.returns
returns c = names_differ
