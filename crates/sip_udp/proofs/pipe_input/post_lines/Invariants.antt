-- The loop of `post_lines`: the lines read so far were posted.
use Rattle.std.proofs.Common.{IfSome}
use Rattle.sip_desk.specs.Lines.{posted}
use Rattle.sip_udp.proofs.Fed.{FedSoFar}
use Rattle.sip_udp.proofs.pipe_input.post_lines.Given as goal

abbrev pub invariant-loop-number : goal.invariant-loop-number
invariant-loop-number g l =
    IfSome (g.I.Read.remaining l.fn.input) (λ text.
    FedSoFar l.kind text (g.I.Read.remaining l.input) (posted l.fn.line) (posted l.line) l.number)
