-- `IndexedRequests::cancelled_request` finds the last request of the branch by its number.
use Rattle.std.proofs.Common.{List, sym, ap, ◌∙◌}
use Rattle.std.specs.Prelude.{reverse}
use Rattle.sip_served.specs.declared.held_request.HeldRequest.{HeldRequest}
use Rattle.sip_served.specs.Cancel.{cancelled_request, is_same_branch}
use Rattle.sip_served.specs.Steps.Indexed.{at}
use Rattle.sip_served.specs.Steps.Indices.{keys_at}
use Rattle.sip_served.specs.Steps.Keys.{branch_of, text_cmp}
use Rattle.sip_served.proofs.Finds.{below_next, last_of_key, never_found, none_of_key_back, none_to_next}
use Rattle.sip_served.proofs.KeyTests.{branch_same, no_branch}
use Rattle.sip_served.proofs.indexed_requests.IndexedRequests.cancelled_request.Goals as goal

pub returns-in_default : goal.returns-in_default
returns-in_default c =
    let cancel = c.args.cancel.now in
    sym (never_found (λ (held : HeldRequest). is_same_branch cancel held.key)
    (no_branch cancel (sym c.in_ok-branch.ensures ∙ c.in_default.is)) (reverse c.args.self.now))

pub returns-in-Some-last_up_to : goal.returns-in-Some-last_up_to
returns-in-Some-last_up_to c =
    let inside = c.self.inside in
    let cancel = c.args.cancel.now in
    let branch = c.in-Some.branch in
    let cmp = text_cmp in
    let test = λ (held : HeldRequest). is_same_branch cancel held.key in
    let same = branch_same cancel branch (sym c.in_ok-branch.ensures ∙ c.in-Some.is) in
    let found = c.in-Some-last_up_to.ensures in
    let keys = keys_at branch_of (at inside.all.requests) in
    let index = c.self.invariant.numbered.indices.branches in
    c.get.ensures.value
    ∙ last_of_key cmp branch branch_of test same inside.all.requests.entries c.self.invariant.numbered.in_order
    c.in-Some-last_up_to.number (found.number keys index).0
    (λ m has. found.none_after keys index m has
    (below_next cmp branch branch_of test same inside.all.requests.entries c.self.invariant.numbered.in_order
    inside.next c.self.invariant.below m has))
    ∙ ap (λ (all : List HeldRequest). cancelled_request cancel all) c.self.view_is

pub returns : goal.returns
returns c =
    let inside = c.self.inside in
    let cancel = c.args.cancel.now in
    let branch = c.in-Some.branch in
    let cmp = text_cmp in
    let test = λ (held : HeldRequest). is_same_branch cancel held.key in
    let same = branch_same cancel branch (sym c.in_ok-branch.ensures ∙ c.in-Some.is) in
    let entries = inside.all.requests.entries in
    let in_order = c.self.invariant.numbered.in_order in
    sym (none_of_key_back cmp branch branch_of test same entries in_order
    (none_to_next cmp branch branch_of test same entries in_order inside.next
    c.self.invariant.below
    (c.in-None.ensures.none (keys_at branch_of (at inside.all.requests))
    c.self.invariant.numbered.indices.branches)))
    ∙ ap (λ (all : List HeldRequest). cancelled_request cancel all) c.self.view_is
