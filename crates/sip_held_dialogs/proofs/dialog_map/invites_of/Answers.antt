-- The loop of `invites_of` counts one more of the dialogs that are left.
use Rattle.std.proofs.Common.{◌≡◌, ◌∷◌, ap, arith, rules}
use Rattle.sip_held_dialogs.specs.Counted.{count_of}
use Rattle.sip_held_dialogs.proofs.Counts.{one_more}
use Rattle.sip_held_dialogs.proofs.dialog_map.invites_of.Goals as goal

pub loop-name-preserved : goal.loop-name-preserved
loop-name-preserved c = λ invite.
    let rest : c.loop-name.name-iterator
    ≡ (c.in-Some.name.now, c.in-Some.held.now) ∷ c.next.new.self = search rules in
    let counted = c.in_ok-count_in.ensures invite in
    let before = c.loop-name.invariant invite in
    let one = one_more invite c.in-Some.name.now c.in-Some.held.now c.next.new.self in
    let left = ap (count_of invite) rest in
    omega (arith, counted, before, one, left)
