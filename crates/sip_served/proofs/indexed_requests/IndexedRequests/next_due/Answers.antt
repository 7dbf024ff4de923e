-- `IndexedRequests::next_due` gives the first moment of the schedule.
use Rattle.std.proofs.Common.{ap, ◌∙◌}
use Rattle.sip_served.specs.Steps.Indexed.{due_at}
use Rattle.sip_served.specs.Tick.{next_due_of}
use Rattle.sip_served.proofs.IndexedSteps.{first_due}
use Rattle.sip_served.proofs.indexed_requests.IndexedRequests.next_due.Goals as goal

pub returns : goal.returns
returns c =
    let requests = c.self.inside.all.requests in
    let dues = c.self.invariant.numbered.dues in
    first_due requests c.self.invariant.numbered.in_order c.next_due.result
    (c.next_due.ensures.none_before (due_at requests) dues)
    (c.next_due.ensures.of_a_key (due_at requests) dues)
    (c.next_due.ensures.none_due (due_at requests) dues)
    ∙ ap next_due_of c.self.view_is
