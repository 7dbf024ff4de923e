-- `Schedule::replace`: the schedule is the index of the moments with that key's changed.
use Rattle.std.proofs.Common.{◌≡◌, ℕ, Some, true, sym, ap, subst, ◌∙◌}
use Rattle.sip_timers.specs.Index.{IsIndexOf}
use Rattle.sip_timers.proofs.Dues.{Puts}
use Rattle.sip_timers.proofs.Schedules.{armed, replaced}
use Rattle.sip_timers.proofs.schedule.Schedule.replace.Goals as goal

pub returns-in_default-clause-ok : goal.returns-in_default-clause-ok
returns-in_default-clause-ok g c = λ moments index former.
    let cmp = g.K.Ord.cmp in
    let same : c.in_ok-clone.field-0 ≡ c.args.key =
    c.requires.alike c.in_ok-clone.field-0 c.in_ok-clone.ensures.cases in
    armed g.met.K.Ord.total moments c.self.inside.dues.keys c.insert.new.self.keys c.args.key
    c.args.due (subst (IsIndexOf cmp moments) (sym c.self.view_is) index)
    (former ∙ c.in_default.is)
    (subst (λ k. Puts cmp c.self.inside.dues.keys c.insert.new.self.keys c.args.due k true) same
    c.in_ok-insert.ensures.updates.0)

pub returns-clause-ok : goal.returns-clause-ok
returns-clause-ok g c = λ moments index former.
    let cmp = g.K.Ord.cmp in
    let same : c.in_ok-clone.field-0 ≡ c.args.key =
    c.requires.alike c.in_ok-clone.field-0 c.in_ok-clone.ensures.cases in
    replaced g.met.K.Ord.total moments c.self.inside.dues.keys c.insert.new.self.keys
    c.remove.new.self.keys c.args.key c.in-Some.former c.args.due
    (subst (IsIndexOf cmp moments) (sym c.self.view_is) index) (former ∙ c.in-Some.is)
    (λ e. c.requires.other (c.in-Some.is ∙ ap (λ (m : ℕ). Some m) e))
    (subst (λ k. Puts cmp c.self.inside.dues.keys c.insert.new.self.keys c.args.due k true) same
    c.in_ok-insert.ensures.updates.0)
    c.remove.ensures.updates.0
