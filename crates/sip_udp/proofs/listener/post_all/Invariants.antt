-- The loop of `post_all`: the lines are the same, fewer than 100 receives failed in a row, and what
-- came was posted on the lines.
use Rattle.std.proofs.Common.{◌<◌}
use Rattle.std.specs.List.{AllZip}
use Rattle.sip_desk.specs.Lines.{SameLine}
use Rattle.sip_udp.specs.Hearing.{Hears, posted_by}
use Rattle.sip_udp.proofs.listener.post_all.Given as goal

abbrev pub invariant-loop : goal.invariant-loop
invariant-loop g l = AllZip SameLine l.initial.lines l.lines × (l.failed < 100)
    × Hears (g.I.Inlet.given l.initial.inlet) (g.I.Inlet.given l.inlet) l.initial.lines
    (posted_by l.lines) l.lost
