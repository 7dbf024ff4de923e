-- `Queue::disarm`: the schedule is still the index of the entries after a key is taken out.
use Rattle.std.proofs.Common.{◌≡◌, Some, None, cond, sym, ap, ◌∙◌}
use Rattle.std.specs.Ordering.{is_eq}
use Rattle.sip_timers.specs.Queue.{moment}
use Rattle.sip_timers.specs.Index.{with_moment}
use Rattle.sip_timers.proofs.Dues.{moment_tied}
use Rattle.sip_timers.proofs.Schedules.{index_of_same}
use Rattle.sip_timers.proofs.queue.Queue.disarm.Goals as goal

pub invariant_of-self : goal.invariant_of-self
invariant_of-self g c =
    let cmp = g.K.Ord.cmp in
    let total = g.met.K.Ord.total in
    let moments = moment cmp c.self.inside.moments.entries in
    let key = c.in-Some.key in
    let tied = c.in-Some.ensures.same_key in
    let armed : moments key ≡ Some c.in-Some.due =
    moment_tied total moments c.self.inside.dues c.self.invariant.1 c.args.key.now key
    (ap is_eq tied) ∙ sym c.in-Some.ensures.value in (
      c.in-Some.ensures.ordered,
      index_of_same cmp (with_moment cmp moments key None)
          (moment cmp c.remove_entry.new.self.entries) c.disarm.new.self
          (λ q. sym (c.in-Some.ensures.updates.0 q
          ∙ ap (λ o. cond (is_eq o) None (moments q)) (total.congr c.args.key.now key q tied)))
          (c.disarm.ensures moments c.self.invariant.1 armed),
    )
