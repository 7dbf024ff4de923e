-- `Timers::again`: the repeat has fired at most ten times, so no number overflows, and the next
-- repeat is paced too.
use Rattle.std.proofs.Common.{arith, ◌≤◌, ◌+◌, ◌∙◌, ap}
use Rattle.sip_timers.specs.Queue.{is_due}
use Rattle.sip_transactions.proofs.Pace.{fired_bound, paced_again, interval_least}
use Rattle.sip_transactions.proofs.timers.Timers.again.Goals as goal

pub overflow_add-fired : goal.overflow_add-fired
overflow_add-fired c =
    let few : c.self.inside.fired ≤ 9 =
    fired_bound c.args.now c.self.inside.fired c.self.inside.repeat c.self.inside.ending
    (ap (λ d. is_due c.args.now d.repeat) c.self.view_is ∙ c.requires.due)
    (ap (λ d. is_due c.args.now d.ending) c.self.view_is ∙ c.requires.before_end)
    c.self.invariant in
    omega arith

pub interval-requires : goal.interval-requires
interval-requires c =
    let few : c.self.inside.fired ≤ 9 =
    fired_bound c.args.now c.self.inside.fired c.self.inside.repeat c.self.inside.ending
    (ap (λ d. is_due c.args.now d.repeat) c.self.view_is ∙ c.requires.due)
    (ap (λ d. is_due c.args.now d.ending) c.self.view_is ∙ c.requires.before_end)
    c.self.invariant in
    omega arith

pub invariant_of-result : goal.invariant_of-result
invariant_of-result c =
    paced_again c.args.now c.self.inside.fired c.interval.result c.self.inside.repeat
    c.self.inside.ending
    (ap (λ d. is_due c.args.now d.repeat) c.self.view_is ∙ c.requires.due)
    (ap (λ d. is_due c.args.now d.ending) c.self.view_is ∙ c.requires.before_end)
    c.self.invariant
    (rw c.interval.ensures.value (interval_least c.args.pace (c.self.inside.fired + 1)))
