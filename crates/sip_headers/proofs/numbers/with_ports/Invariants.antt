-- The loop of `with_ports`: the Via values so far have their ports, and the rest is left.
use Rattle.std.proofs.Common.{◌≡◌}
use Rattle.std.specs.Vec.Iter.{into_iter_items}
use Rattle.sip_text.specs.Forms.{each}
use Rattle.sip_headers.specs.Numbers.{via_with}
use Rattle.sip_headers.proofs.Eaches.{behind}
use Rattle.sip_headers.proofs.numbers.with_ports.Given as goal

abbrev pub invariant-loop-draft : goal.invariant-loop-draft
invariant-loop-draft l =
    behind l.vias.items (each via_with (into_iter_items l.draft-iterator))
    ≡ each via_with l.fn.drafts
