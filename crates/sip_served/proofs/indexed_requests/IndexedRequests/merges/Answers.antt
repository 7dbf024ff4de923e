-- `IndexedRequests::merges`: a request is held by another path if the index has one with its key.
use Rattle.std.proofs.Common.{sym, ap, ◌∙◌}
use Rattle.std.specs.List.{list_any}
use Rattle.sip_served.specs.Steps.Index.{is_key_of}
use Rattle.sip_served.specs.Steps.Indexed.{at}
use Rattle.sip_served.specs.Steps.Indices.{keys_at}
use Rattle.sip_served.specs.Steps.Keys.{merge_of, text_cmp}
use Rattle.sip_served.specs.Arrival.{is_merged}
use Rattle.sip_served.proofs.Finds.{any_of_key}
use Rattle.sip_served.proofs.KeyTests.{merge_same}
use Rattle.sip_served.proofs.indexed_requests.IndexedRequests.merges.Goals as goal

pub returns : goal.returns
returns c =
    let inside = c.self.inside in
    let request = c.args.request.now in
    let keys = keys_at merge_of (at inside.all.requests) in
    let index = c.self.invariant.numbered.indices.merges in
    c.is_some.ensures
    ∙ any_of_key text_cmp c.in_ok-key.key merge_of (is_merged request)
    (λ held. merge_same request held
    ∙ ap (λ k. is_key_of text_cmp k (merge_of held)) (sym c.in_ok-key.ensures))
    inside.all.requests.entries c.self.invariant.numbered.in_order c.first_from.result
    (c.first_from.ensures.number keys index) (c.first_from.ensures.none_before keys index)
    (c.first_from.ensures.none keys index)
    ∙ ap (list_any (is_merged request)) c.self.view_is
