-- `ByNumber::tick_number`: the request of the number is ticked; it stays, or it is removed.
use Rattle.std.proofs.Common.{◌≡◌, Some, sym, ap, ◌∙◌}
use Rattle.std.specs.Prelude.{is_some}
use Rattle.std.specs.Option.{option_copied_mut}
use Rattle.sip_served.specs.Steps.Indexed.{at}
use Rattle.sip_served.specs.declared.held_request.HeldRequest.{HeldRequest}
use Rattle.sip_served.proofs.IndexedSteps.{came_ticked, came_with, dialog_ticked, entries_removed, indices_removed, indices_stay_all, ticked_kept, ticked_removed}
use Rattle.sip_served.proofs.Indexes.{on_ok_mapped}
use Rattle.sip_served.proofs.by_number.ByNumber.tick_number.Goals as goal

pub returns-then-is_kept-clause-indices : goal.returns-then-is_kept-clause-indices
returns-then-is_kept-clause-indices c =
    let old = c.args.self.now.requests in
    let w = c.tick_request.new.held in
    let x = c.in-Some.held.now in
    let told = c.get_mut.follows.holds w in
    let there : at old c.args.number ≡ Some x =
    sym c.get_mut.ensures.value ∙ ap option_copied_mut c.in-Some.is in
    on_ok_mapped _ _ c.move_due.result
    (λ moved. indices_stay_all old (c.get_mut.follows.lender w) c.args.number x w there
    (ap came_with c.in_ok-tick_request.ensures.held ∙ came_ticked c.args.now x)
    (told.3 (ap is_some there)).0
    (ap (λ (held : HeldRequest). held.dialog) c.in_ok-tick_request.ensures.held
    ∙ dialog_ticked c.args.now x) c.args.self.now.indices)
    c.move_due.ensures

pub returns-then-is_kept-clause-moves : goal.returns-then-is_kept-clause-moves
returns-then-is_kept-clause-moves c =
    let old = c.args.self.now.requests in
    let w = c.tick_request.new.held in
    let x = c.in-Some.held.now in
    let told = c.get_mut.follows.holds w in
    let there : at old c.args.number ≡ Some x =
    sym c.get_mut.ensures.value ∙ ap option_copied_mut c.in-Some.is in
    on_ok_mapped _ _ c.move_due.result
    (λ moved. ticked_kept old (c.get_mut.follows.lender w) c.args.now c.args.number x w there
    c.in_ok-tick_request.ensures.held (told.3 (ap is_some there)).0
    (sym c.is_kept.ensures ∙ c.if-is_kept.true))
    c.move_due.ensures

pub returns-clause-requests : goal.returns-clause-requests
returns-clause-requests c =
    let old = c.args.self.now.requests in
    let w = c.tick_request.new.held in
    let x = c.in-Some.held.now in
    let told = c.get_mut.follows.holds w in
    let there : at old c.args.number ≡ Some x =
    sym c.get_mut.ensures.value ∙ ap option_copied_mut c.in-Some.is in
    entries_removed old (c.get_mut.follows.lender w) c.args.now c.args.number x w there
    c.in_ok-tick_request.ensures.held (told.3 (ap is_some there)).0 c.remove-2.new.self
    c.remove-2.ensures.updates.0 told.0 c.remove-2.ensures.entries
    (sym c.is_kept.ensures ∙ c.if-is_kept.false)

pub returns-clause-moves : goal.returns-clause-moves
returns-clause-moves c =
    let old = c.args.self.now.requests in
    let w = c.tick_request.new.held in
    let x = c.in-Some.held.now in
    let told = c.get_mut.follows.holds w in
    let there : at old c.args.number ≡ Some x =
    sym c.get_mut.ensures.value ∙ ap option_copied_mut c.in-Some.is in
    ticked_removed old (c.get_mut.follows.lender w) c.args.now c.args.number x w there
    c.in_ok-tick_request.ensures.held (told.3 (ap is_some there)).0 c.remove-2.new.self
    c.remove-2.ensures.updates.0 (sym c.is_kept.ensures ∙ c.if-is_kept.false)

pub returns-clause-indices : goal.returns-clause-indices
returns-clause-indices c = λ tied.
    let old = c.args.self.now.requests in
    let w = c.tick_request.new.held in
    let x = c.in-Some.held.now in
    let told = c.get_mut.follows.holds w in
    let there : at old c.args.number ≡ Some x =
    sym c.get_mut.ensures.value ∙ ap option_copied_mut c.in-Some.is in
    indices_removed old (c.get_mut.follows.lender w) c.args.now c.args.number x w there
    c.in_ok-tick_request.ensures.held (told.3 (ap is_some there)).0 c.remove-2.new.self
    c.remove-2.ensures.updates.0 c.args.self.now.indices c.remove.new.self tied
    c.in_ok-remove.ensures
