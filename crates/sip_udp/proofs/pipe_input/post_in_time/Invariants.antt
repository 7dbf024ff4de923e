-- The loop of `post_in_time`: nothing was posted so far, and the line is still to be posted.
use Rattle.std.proofs.Common.{◌≡◌}
use Rattle.sip_desk.specs.Lines.{posted}
use Rattle.sip_udp.proofs.pipe_input.post_in_time.Given as goal

abbrev pub invariant-loop : goal.invariant-loop
invariant-loop l = (posted l.line ≡ posted l.initial.line) × (l.said ≡ l.fn.said)
