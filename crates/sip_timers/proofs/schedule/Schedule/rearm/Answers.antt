-- `Schedule::rearm` moves a key to its new moment. If memory runs out, the key is gone.
use Rattle.std.proofs.Common.{◌≡◌, ℕ, Option, Some, None, Result, Ok, Err, OnErr, sym, subst}
use Rattle.sip_timers.specs.Index.{IsIndexOf, with_moment}
use Rattle.sip_timers.proofs.Schedules.{rearmed, disarmed}
use Rattle.sip_timers.proofs.schedule.Schedule.rearm.Goals as goal

after_err : {T E P : Type 0} (answer : Result T E) → P → OnErr answer P
after_err (Ok done) p = tt
after_err (Err refused) p = p

pub returns-in_err-insert-clause-err : goal.returns-in_err-insert-clause-err
returns-in_err-insert-clause-err g c =
    let cmp = g.K.Ord.cmp in
    let gone : (moments : _ → Option ℕ) → IsIndexOf cmp moments c.args.self.now
    → moments c.args.key ≡ Some c.args.former
    → IsIndexOf cmp (with_moment cmp moments c.args.key None) c.insert.new.self.keys =
    λ moments index there.
    subst (IsIndexOf cmp (with_moment cmp moments c.args.key None))
    (sym c.in_err-insert.ensures.err)
    (disarmed g.met.K.Ord.total moments c.self.inside.dues.keys c.remove.new.self.keys c.args.key
    c.args.former (subst (IsIndexOf cmp moments) (sym c.self.view_is) index) there
    c.remove.ensures.updates.0) in
    after_err c.from_residual.result gone

pub returns-clause-ok : goal.returns-clause-ok
returns-clause-ok g c = λ moments index there.
    rearmed g.met.K.Ord.total moments c.self.inside.dues.keys c.remove.new.self.keys
    c.insert.new.self.keys c.args.key c.args.former c.args.due
    (subst (IsIndexOf g.K.Ord.cmp moments) (sym c.self.view_is) index) there
    c.remove.ensures.updates.0 c.in_ok-insert.ensures.updates.0
