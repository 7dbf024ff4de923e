-- The loop of `push_vias`: the lines of the Vias so far are written.
use Rattle.std.proofs.Common.{◌≡◌, ◌++◌, take}
use Rattle.std.specs.List.{flat_map}
use Rattle.sip_message.specs.Written as written
use Rattle.sip_message.proofs.writer.push_vias.Given as goal

abbrev pub invariant-loop-via : goal.invariant-loop-via
invariant-loop-via l =
    l.out.items ≡ l.fn.out.items ++ flat_map written.via_line (take l.via-index l.vias)
