-- The loop of `agent_of_datagram`: the first Call-ID of the rest is that of the datagram.
use Rattle.std.proofs.Common.{◌≡◌, length}
use Rattle.sip_agents.specs.Destination.{call_id_in}
use Rattle.sip_agents.specs.Steps.HeaderScan.{lines_behind}
use Rattle.sip_agents.proofs.CallIdLines.{first_value}
use Rattle.sip_agents.proofs.call_id.agent_of_datagram.Given as goal

abbrev pub invariant-loop-line : goal.invariant-loop-line
invariant-loop-line g l = first_value (lines_behind l.rest) ≡ call_id_in l.bytes

abbrev pub decreases-loop-line : goal.decreases-loop-line
decreases-loop-line g l = length l.rest
