-- `joined`: each turn of the loop joins one more run.
use Rattle.std.proofs.Common.{◌∷◌, ◌∙◌, sym, ap, subst}
use Rattle.std.proofs.lemmas.List.{nil_from_length}
use Rattle.std.specs.Vec.Iter.{into_iter_items}
use Rattle.sip_round.proofs.EventRuns.{JoinsLeft, all_joined, none_joined, one_joined}
use Rattle.sip_round.proofs.reading.joined.Goals as goal

pub loop-run-init : goal.loop-run-init
loop-run-init c = λ arrivals of.
    none_joined arrivals c.args.runs.items (into_iter_items c.into_iter-run-iterator.result)
    c.in_ok-items.items.items c.in_ok-waiting.waiting.items
    c.into_iter-run-iterator.ensures.into_iter_gives.0 c.in_ok-items.ensures.items
    c.in_ok-waiting.ensures.items of

pub loop-run-preserved : goal.loop-run-preserved
loop-run-preserved c = λ arrivals of.
    one_joined arrivals c.in_ok-more_items.field-0 (into_iter_items c.next.new.self)
    c.loop-run.items.items c.append.new.self.items
    c.loop-run.waiting.items c.append-in-loop-run.new.self.items
    c.in_ok-append.ensures.items c.in_ok-append-2.ensures.items
    (subst (λ runs. JoinsLeft arrivals runs c.loop-run.items.items c.loop-run.waiting.items)
    (c.in-Some.ensures.steps.0
    ∙ ap (λ run. run ∷ into_iter_items c.next.new.self) c.in_ok-more_items.was)
    (c.loop-run.invariant arrivals of))

pub returns : goal.returns
returns c = λ arrivals of.
    let left = c.loop-run.run-iterator in
    let nothing_left = nil_from_length (into_iter_items left)
    (sym left.rest.ok.0 ∙ c.in-None.ensures.steps.0) in
    all_joined arrivals
    (record { items = c.loop-run.items; waiting = c.loop-run.waiting })
    (subst (λ runs. JoinsLeft arrivals runs c.loop-run.items.items c.loop-run.waiting.items)
    nothing_left (c.loop-run.invariant arrivals of))
