-- `ByNumber::push`: the request has the next number, and each index has it.
use Rattle.std.proofs.Common.{◌+◌, Some, ap, ◌∙◌, arith}
use Rattle.std.specs.Map.{values_of}
use Rattle.std.specs.Option.{option_and_then}
use Rattle.sip_served.specs.Steps.Indexed.{at, due_at}
use Rattle.sip_served.specs.Tick.{request_due}
use Rattle.sip_served.proofs.IndexedSteps.{below_moved, dues_moved, indices_moved}
use Rattle.sip_served.proofs.Numbered.{pushed_values}
use Rattle.sip_served.proofs.by_number.ByNumber.push.Goals as goal

pub returns-clause-numbered : goal.returns-clause-numbered
returns-clause-numbered c =
    let old = c.args.self.now.requests in
    let new = c.insert-2.new.self in
    let next = c.args.next in
    let held = c.args.held in
    let updates = c.in_ok-insert-2.ensures.updates.0 in
    let absent = c.requires.below next (omega arith) in
    record {
      in_order = c.in_ok-insert-2.ensures.ordered;
      indices = indices_moved old new next (Some held) updates c.insert.new.self
          (c.in_ok-insert.ensures (at old) c.requires.numbered.indices absent);
      dues = dues_moved old new next (Some held) updates c.move_due.new.dues c.request_due.result
          c.request_due.ensures
          (c.in_ok-move_due.ensures (due_at old) c.requires.numbered.dues
          (ap (option_and_then request_due) absent));
    }

pub returns-clause-below : goal.returns-clause-below
returns-clause-below c =
    below_moved c.args.self.now.requests c.insert-2.new.self c.args.next (Some c.args.held)
    c.in_ok-insert-2.ensures.updates.0 (c.args.next + 1) (omega arith)
    (λ n le. c.requires.below n (omega (arith, le)))

pub returns-clause-held : goal.returns-clause-held
returns-clause-held c =
    ap values_of c.in_ok-insert-2.ensures.entries
    ∙ pushed_values c.args.self.now.requests.entries c.args.next c.args.held c.requires.below
