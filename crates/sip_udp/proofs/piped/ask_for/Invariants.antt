-- The loop of `ask_for`: what was asked for, and what the lines that are left ask for.
use Rattle.std.proofs.Common.{◌≡◌, ◌++◌}
use Rattle.std.specs.Vec.Iter.{into_iter_items}
use Rattle.sip_udp.specs.Piping.{all_asked, headers_at_end}
use Rattle.sip_udp.proofs.piped.ask_for.Given as goal

-- what was asked for so far, and what the other lines ask for
abbrev pub invariant-loop-line : goal.invariant-loop-line
invariant-loop-line g l = record {
  asked : l.events.items ++ all_asked l.waiting.headers (into_iter_items l.line-iterator)
      ≡ l.fn.events.items ++ all_asked l.fn.waiting.headers l.fn.lines.items;
  waits : headers_at_end l.waiting.headers (into_iter_items l.line-iterator)
      ≡ headers_at_end l.fn.waiting.headers l.fn.lines.items;
}
