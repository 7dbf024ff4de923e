-- The law `names_of_agents_differ`.
use Rattle.std.proofs.Common.{ap}
use Rattle.sip_clients.proofs.Names.{names_differ}
use Rattle.sip_agents.specs.Stripes.{agent_of_id}
use Rattle.sip_agents.proofs.laws.names_of_agents_differ.Goals as goal

pub returns : goal.returns
returns c seed id other index other_index r1 r2 p1 p2 i1 i2 same =
    ap agent_of_id
    (names_differ seed seed id other index other_index r1 r2 p1 p2 i1 i2 same).0
