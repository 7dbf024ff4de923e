-- `set_out`: each turn of the loop sets out one more event.
use Rattle.std.proofs.Common.{◌+◌, [], ◌∷◌, ◌++◌, ◌∙◌, ap, refl, arith}
use Rattle.sip_message.specs.declared.id.Id.{Id}
use Rattle.sip_round.specs.Arrivals.{arrival_of, arrivals_from}
use Rattle.sip_round.specs.Phases.{transaction_item, transaction_items}
use Rattle.sip_round.specs.Steps.Waiting.{all_waiting, waiting_of}
use Rattle.sip_round.proofs.Placed.{further, next_arrival}
use Rattle.sip_round.proofs.waiting.set_out.Goals as goal

pub loop-event-preserved : goal.loop-event-preserved
loop-event-preserved c =
    let local = c.args.local in
    let round = c.args.round in
    let place = c.loop-event.place + 1 in
    let events = c.args.events.now in
    let id : Id = record { round = round; place = place } in
    let arrival = arrival_of local id c.event-item.result in
    let all = arrivals_from local round (c.args.before + 1) events in
    let next = next_arrival local round place c.loop-event.event-index c.event-item.result events
    c.loop-event-test.true c.event-item.is in (
      omega (arith, c.loop-event.invariant.0),
      further transaction_items (id, arrival) (transaction_item id arrival) c.loop-event.items.items
          c.set_out_event.new.items.items (transaction_items all) next refl
          c.in_ok-left.ensures.items c.loop-event.invariant.1,
      further all_waiting (id, arrival) ((id, waiting_of arrival) ∷ []) c.loop-event.waiting.items
          c.push.new.self.items (all_waiting all) next refl
          (c.in_ok-push.ensures.items
          ∙ ap (λ w. c.loop-event.waiting.items ++ (id, w) ∷ []) c.in_ok-left.ensures.left)
          c.loop-event.invariant.2,
    )
