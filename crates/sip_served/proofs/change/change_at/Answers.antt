-- `change_at`: if the request is held, it is changed; all else is unchanged.
use Rattle.std.proofs.Common.{◌≡◌}
use Rattle.std.specs.List.{slice_set}
use Rattle.sip_served.specs.Steps.Change.{after_change}
use Rattle.sip_served.specs.State.{changed_at}
use Rattle.sip_served.proofs.Changes.{ok_mapped, written}
use Rattle.sip_served.proofs.change.change_at.Goals as goal

pub returns-in-Some : goal.returns-in-Some
returns-in-Some c =
    let requests = c.args.requests.now.items in
    let change = after_change c.args.change in
    ok_mapped (λ _. c.apply.new.held ≡ change c.index_mut.result.now)
    (λ _. slice_set requests c.in-Some.index c.apply.new.held
    ≡ changed_at c.args.id change requests)
    c.apply.result
    (λ _ after. written c.as_slice.result.now requests c.args.id c.in-Some.index
    c.index_mut.result.now c.apply.new.held change c.as_slice.ensures.value
    c.in-Some.ensures.within c.index_mut.ensures.value after c.in-Some.ensures.changed)
    c.apply.ensures
