-- The loop of `set_out`: what was set out so far, with the arrivals of the events left.
use Rattle.std.proofs.Common.{◌≡◌, ◌++◌, ◌+◌, drop}
use Rattle.sip_round.specs.Arrivals.{arrivals_from}
use Rattle.sip_round.specs.Phases.{transaction_items}
use Rattle.sip_round.specs.Steps.Waiting.{all_waiting}
use Rattle.sip_round.proofs.waiting.set_out.Given as goal

-- the places so far, and the arrivals of the events that are left
abbrev pub invariant-loop-event : goal.invariant-loop-event
invariant-loop-event l =
    let left = arrivals_from l.local l.round (l.place + 1) (drop l.event-index l.events) in
    let all = arrivals_from l.local l.round (l.before + 1) l.events in
    (l.place ≡ l.before + l.event-index)
    × (l.items.items ++ transaction_items left ≡ transaction_items all)
    × (l.waiting.items ++ all_waiting left ≡ all_waiting all)
