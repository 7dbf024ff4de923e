-- The loop of `ends_of`: the ends of the lines so far.
use Rattle.std.specs.List.{AllZip}
use Rattle.sip_udp.specs.Hearing.{EndsAsPosted, EndsLine}
use Rattle.sip_udp.proofs.listener.ends_of.Given as goal

abbrev pub invariant-loop-line : goal.invariant-loop-line
invariant-loop-line l =
    (goal.iterator-loop-line).can_next l.line-iterator
    × (goal.iterator-loop-line).is_finite l.line-iterator
    × AllZip EndsLine l.yielded l.ends.items
    × AllZip EndsAsPosted l.yielded l.ends.items
