-- The loop of `begin_third`: the parts so far, and the commands that are left.
use Rattle.std.proofs.Common.{◌≡◌, ◌+◌, length, map}
use Rattle.std.specs.Vec.Iter.{into_iter_items}
use Rattle.sip_message.specs.Key.{branch_in}
use Rattle.sip_shards.specs.Parts.{owner_of}
use Rattle.sip_round.specs.Phases.{command_items}
use Rattle.sip_shards.proofs.Cutting.{PartsLeft}
use Rattle.sip_round.proofs.phases.begin_third.Given as goal

-- the parts of the commands so far, and the place of the next
abbrev pub invariant-loop-id : goal.invariant-loop-id
invariant-loop-id g l =
    let left = into_iter_items l.id-iterator in
    PartsLeft (owner_of (g.C.Cut.shard_of l.cut) branch_in l.shards) l.shards
    (command_items 0 l.fn.commands.items) (command_items l.place left)
    (map (λ part. part.items) l.parts.items)
    × (l.place + length left ≡ length l.fn.commands.items)
