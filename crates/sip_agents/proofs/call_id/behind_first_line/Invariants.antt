-- The loop of `behind_first_line`: the rest has the same head as the whole.
use Rattle.std.proofs.Common.{◌≡◌, length}
use Rattle.sip_reader.specs.Steps.ReadHead.{head_at}
use Rattle.sip_agents.proofs.call_id.behind_first_line.Given as goal

abbrev pub invariant-loop-line : goal.invariant-loop-line
invariant-loop-line l = head_at l.rest ≡ head_at l.text

abbrev pub decreases-loop-line : goal.decreases-loop-line
decreases-loop-line l = length l.rest
