-- The loop of `push_addresses`: the lines of the addresses so far are written.
use Rattle.std.proofs.Common.{◌≡◌, ◌++◌, take}
use Rattle.std.specs.List.{flat_map}
use Rattle.sip_message.specs.Written as written
use Rattle.sip_message.proofs.writer.push_addresses.Given as goal

abbrev pub invariant-loop-address : goal.invariant-loop-address
invariant-loop-address l = l.out.items ≡ l.fn.out.items
    ++ flat_map (written.address_line l.name) (take l.address-index l.addresses)
