-- `Schedule::arm`: the schedule is the index of the moments with that key's added.
use Rattle.std.proofs.Common.{sym, subst}
use Rattle.sip_timers.specs.Index.{IsIndexOf}
use Rattle.sip_timers.proofs.Schedules.{armed}
use Rattle.sip_timers.proofs.schedule.Schedule.arm.Goals as goal

pub returns-clause-ok : goal.returns-clause-ok
returns-clause-ok g c = λ moments index absent.
    armed g.met.K.Ord.total moments c.self.inside.dues.keys c.insert.new.self.keys c.args.key
    c.args.due (subst (IsIndexOf g.K.Ord.cmp moments) (sym c.self.view_is) index) absent
    c.in_ok-insert.ensures.updates.0
