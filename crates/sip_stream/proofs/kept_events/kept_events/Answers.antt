-- `kept_events`: each turn of the loop puts the event or nothing in its place.
use Rattle.std.proofs.Common.{rules, ◌≡◌, ◌++◌, ◌∷◌, [], List, map-id, refl, sym, subst, ◌∙◌}
use Rattle.std.specs.List.{AllZip}
use Rattle.std.proofs.lemmas.Iterator.Adapters.{YieldsList-from_vec}
use Rattle.std.proofs.lemmas.Iterator.Consumers.{YieldsList-end}
use Rattle.sip_round.specs.declared.round.Event.{Event}
use Rattle.sip_files.proofs.HeadedLines.{zip_push}
use Rattle.sip_stream.specs.Shorter.{StaysOrIsNothing}
use Rattle.sip_stream.proofs.Shorter.{thinned}
use Rattle.sip_stream.proofs.kept_events.kept_events.Goals as goal

one_more : (yielded kept others : List Event) (event other : Event)
    → AllZip StaysOrIsNothing yielded kept → StaysOrIsNothing event other
    → others ≡ kept ++ other ∷ [] → AllZip StaysOrIsNothing (yielded ++ event ∷ []) others
one_more yielded kept others event other zip one are =
    subst (AllZip StaysOrIsNothing (yielded ++ event ∷ [])) (sym are)
    (zip_push StaysOrIsNothing yielded kept event other zip one)

pub loop-event-preserved-then-stays : goal.loop-event-preserved-then-stays
loop-event-preserved-then-stays c = (
  tt,
  tt,
  one_more c.loop-event.yielded c.loop-event.kept.items c.push.new.self.items c.in-Some.event
      c.in_ok-event.event c.loop-event.invariant.2 c.in_ok-event.ensures c.in_ok-push.ensures.items,
)

pub loop-event-preserved : goal.loop-event-preserved
loop-event-preserved c = (
  tt,
  tt,
  one_more c.loop-event.yielded c.loop-event.kept.items c.push.new.self.items c.in-Some.event
      c.in_ok-event.event c.loop-event.invariant.2 c.in_ok-event.ensures c.in_ok-push.ensures.items,
)

pub returns : goal.returns
returns c =
    let events = c.into_vec-event-items.result.items in
    let end =
    YieldsList-end
    (YieldsList-from_vec {s = c.into_iter-event-iterator.result} events (search rules) (search rules))
    c.loop-event.yielded c.loop-event.event-iterator c.loop-event.yielded_by c.next.result
    c.next.new.self c.in-None.is c.next.ensures.steps in
    thinned c.args.round _ c.loop-event.yielded c.loop-event.kept.items c.loop-event.len
    (sym c.into_vec-event-items.ensures ∙ sym end.0 ∙ map-id c.loop-event.yielded)
    c.loop-event.invariant.2 refl (c.from_vec-events.ensures ∙ c.truncate.ensures.items)
