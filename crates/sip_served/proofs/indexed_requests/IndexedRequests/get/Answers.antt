-- `IndexedRequests::get` finds the first request of the id by its number.
use Rattle.std.proofs.Common.{sym, ap, ◌∙◌, arith}
use Rattle.std.specs.Prelude.{find}
use Rattle.std.specs.Option.{option_copied}
use Rattle.sip_message.specs.contracts.id.IdOrd.TheImpl as id_order
use Rattle.sip_served.specs.Steps.Indexed.{at}
use Rattle.sip_served.specs.Steps.Indices.{keys_at}
use Rattle.sip_served.specs.Steps.Keys.{id_of}
use Rattle.sip_served.specs.State.{has_id}
use Rattle.sip_served.proofs.Finds.{first_of_key, none_of_key}
use Rattle.sip_served.proofs.KeyTests.{id_same}
use Rattle.sip_served.proofs.indexed_requests.IndexedRequests.get.Goals as goal

pub returns-in_err-number : goal.returns-in_err-number
returns-in_err-number c =
    let inside = c.self.inside in
    let id = c.args.id in
    ap option_copied c.from_residual.ensures
    ∙ sym (none_of_key id_order.ghosts.cmp id id_of (has_id id) (id_same id) inside.all.requests.entries
    c.self.invariant.numbered.in_order
    (λ m. c.in_err-number.ensures.none (keys_at id_of (at inside.all.requests))
    c.self.invariant.numbered.indices.ids m (omega arith)))
    ∙ ap (find (has_id id)) c.self.view_is

pub returns : goal.returns
returns c =
    let inside = c.self.inside in
    let id = c.args.id in
    let keys = keys_at id_of (at inside.all.requests) in
    c.get.ensures.value
    ∙ first_of_key id_order.ghosts.cmp id id_of (has_id id) (id_same id) inside.all.requests.entries
    c.self.invariant.numbered.in_order c.in_ok-number.number
    (c.in_ok-number.ensures.number keys c.self.invariant.numbered.indices.ids).0
    (λ m has. c.in_ok-number.ensures.none_before keys c.self.invariant.numbered.indices.ids m has
    (omega arith))
    ∙ ap (find (has_id id)) c.self.view_is
