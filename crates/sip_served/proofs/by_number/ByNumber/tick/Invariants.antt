-- The loop of `ByNumber::tick`: what is left to do leads to the same end, and the indices are those of the
-- requests; those whose number is still to come aren't in the schedule.
use Rattle.std.proofs.Common.{◌≡◌, ◌++◌, ℕ, drop}
use Rattle.std.specs.BTreeMap.{IsOrdered}
use Rattle.std.specs.List.Sorted.{IsStrictlySortedBy}
use Rattle.std.specs.Ordering.{nat_cmp}
use Rattle.sip_timers.specs.Index as timers
use Rattle.sip_served.specs.Steps.Indexed.{IsBelow, at, due_at}
use Rattle.sip_served.specs.Steps.Indices.{IsIndices}
use Rattle.sip_served.specs.Tick.{is_kept_at}
use Rattle.sip_served.proofs.IndexedTicks.{hidden, ticked_at, told_at}
use Rattle.sip_served.proofs.NumberedTicks.{all_ticked, all_told}
use Rattle.sip_served.proofs.by_number.ByNumber.tick.Given as goal

abbrev pub invariant-loop-number : goal.invariant-loop-number
invariant-loop-number l =
    let left = drop l.number-index l.number-items in
    record {
      ordered : IsOrdered nat_cmp l.self.requests;
      below : (next : ℕ) → IsBelow next l.initial.self → IsBelow next l.self;
      indices : IsIndices (at l.self.requests) l.self.indices;
      dues : timers.IsIndexOf nat_cmp (hidden left (due_at l.self.requests)) l.self.dues;
      rises : IsStrictlySortedBy nat_cmp left;
      after : all_ticked (ticked_at l.now) (is_kept_at l.now) (told_at l.now) left
          l.self.requests.entries
          ≡ all_ticked (ticked_at l.now) (is_kept_at l.now) (told_at l.now) l.number-items
          l.initial.self.requests.entries;
      said : l.outs.items ++ all_told (ticked_at l.now) (is_kept_at l.now) (told_at l.now) left
          l.self.requests.entries
          ≡ l.initial.outs.items ++ all_told (ticked_at l.now) (is_kept_at l.now) (told_at l.now)
          l.number-items l.initial.self.requests.entries;
    }
