-- The loop of `push_contacts`: the lines of the contacts so far are written.
use Rattle.std.proofs.Common.{◌≡◌, ◌++◌, take}
use Rattle.std.specs.List.{flat_map}
use Rattle.sip_message.specs.Written as written
use Rattle.sip_message.proofs.writer.push_contacts.Given as goal

abbrev pub invariant-loop-contact : goal.invariant-loop-contact
invariant-loop-contact l =
    l.out.items ≡ l.fn.out.items ++ flat_map written.contact_line (take l.contact-index l.contacts)
