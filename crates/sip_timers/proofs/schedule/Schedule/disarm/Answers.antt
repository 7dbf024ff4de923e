-- `Schedule::disarm`: the schedule is the index of the moments without that key's.
use Rattle.std.proofs.Common.{sym, subst}
use Rattle.sip_timers.specs.Index.{IsIndexOf}
use Rattle.sip_timers.proofs.Schedules.{disarmed}
use Rattle.sip_timers.proofs.schedule.Schedule.disarm.Goals as goal

pub returns : goal.returns
returns g c = λ moments index there.
    disarmed g.met.K.Ord.total moments c.self.inside.dues.keys c.remove.new.self.keys c.args.key
    c.args.due (subst (IsIndexOf g.K.Ord.cmp moments) (sym c.self.view_is) index) there
    c.remove.ensures.updates.0
