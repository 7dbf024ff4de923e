-- `Schedule::next_due` gives the moment of a key, with none before it, or nothing if none is armed.
use Rattle.std.proofs.Common.{◌≡◌, ℕ, Option, None, length, sym, subst}
use Rattle.std.specs.Prelude.{IfNone}
use Rattle.sip_timers.specs.Index.{IsIndexOf}
use Rattle.sip_timers.proofs.Dues.{armed_at, empty_from_none}
use Rattle.sip_timers.proofs.Schedules.{earliest_due, nothing_due}
use Rattle.sip_timers.proofs.schedule.Schedule.next_due.Goals as goal

pub returns-in_err-first-clause-none_due : goal.returns-in_err-first-clause-none_due
returns-in_err-first-clause-none_due g c = λ moments index.
    subst (λ (due : Option ℕ). IfNone due ((q : _) → moments q ≡ None))
    (sym c.from_residual.ensures)
    (nothing_due g.met.K.Ord.total moments c.self.inside.dues.keys
    (subst (IsIndexOf g.K.Ord.cmp moments) (sym c.self.view_is) index)
    (empty_from_none (length c.self.inside.dues.keys) c.in_err-first.ensures.variant.1))

pub returns-clause-none_before : goal.returns-clause-none_before
returns-clause-none_before g c = λ moments index.
    earliest_due g.met.K.Ord.total moments c.self.inside.dues.keys
    (subst (IsIndexOf g.K.Ord.cmp moments) (sym c.self.view_is) index) c.in_ok-first.field-0.now
    c.in_ok-first.ensures.least

pub returns-clause-of_a_key : goal.returns-clause-of_a_key
returns-clause-of_a_key g c = λ moments index. (
  c.in_ok-first.field-0.now.1,
  armed_at g.met.K.Ord.total moments c.self.inside.dues.keys
      (subst (IsIndexOf g.K.Ord.cmp moments) (sym c.self.view_is) index)
      c.in_ok-first.field-0.now.0 c.in_ok-first.field-0.now.1 c.in_ok-first.ensures.member,
)
