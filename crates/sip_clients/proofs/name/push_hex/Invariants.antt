-- The loop of `push_hex`: all digits but those that are left are written.
use Rattle.std.proofs.Common.{◌≡◌, ◌≤◌, ◌-◌, ◌/◌, ◌^◌, ◌*◌, ◌++◌}
use Rattle.sip_clients.specs.Name.{hex}
use Rattle.sip_clients.proofs.name.push_hex.Given as goal

-- the digits before those that are left
abbrev pub invariant-loop-left : goal.invariant-loop-left
invariant-loop-left l = (l.left ≤ l.count) × (l.digits.items
    ≡ l.fn.digits.items ++ hex (l.count - l.left) (l.number / 2 ^ (4 * l.left)))

abbrev pub decreases-loop-left : goal.decreases-loop-left
decreases-loop-left l = l.left
