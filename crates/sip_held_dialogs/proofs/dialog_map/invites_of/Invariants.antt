-- The loop of `invites_of`: what is counted, and what is left, are all dialogs.
use Rattle.std.proofs.Common.{◌≡◌, ◌+◌}
use Rattle.sip_message.specs.declared.id.Id.{Id}
use Rattle.sip_held_dialogs.specs.Counted.{count_at, count_of}
use Rattle.sip_held_dialogs.proofs.dialog_map.invites_of.Given as goal

abbrev pub invariant-loop-name : goal.invariant-loop-name
invariant-loop-name l = (invite : Id)
    → count_at invite l.invites.entries + count_of invite l.name-iterator
    ≡ count_of invite l.fn.list.entries
