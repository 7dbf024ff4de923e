-- `admitted_by` lets all events in if they are usual; otherwise one after another.
use Rattle.std.proofs.Common.{sym, ap, subst, ◌∙◌}
use Rattle.std.proofs.lemmas.List.{nil_from_length}
use Rattle.std.specs.List.{list_all}
use Rattle.std.specs.Vec.Iter.{into_iter_items}
use Rattle.sip_udp.specs.Admission.{is_usual}
use Rattle.sip_udp.proofs.Admitted.{LetsIn, all_let_in, none_shed, one_let_in}
use Rattle.sip_udp.proofs.admission.admitted_by.Goals as goal

pub returns-then-are_usual : goal.returns-then-are_usual
returns-then-are_usual c = λ config rounds stands.
    none_shed config rounds c.args.limits c.args.load c.args.events.items
    (ap (list_all (is_usual c.args.limits c.args.load)) (sym c.deref.ensures.value)
    ∙ sym c.are_usual.ensures ∙ c.if-are_usual.true)

pub loop-event-preserved : goal.loop-event-preserved
loop-event-preserved c = λ config rounds stands.
    one_let_in config rounds c.args.limits c.args.load c.loop-event.admitted.items c.admit_one.new.admitted.items
    (into_iter_items c.next.new.self) c.args.events.items c.in-Some.event
    (c.in_ok-admit_one.ensures config rounds stands)
    (subst (λ left. LetsIn config rounds c.args.limits c.args.load c.loop-event.admitted.items left
    c.args.events.items) c.in-Some.ensures.steps.0 (c.loop-event.invariant config rounds stands))

pub returns : goal.returns
returns c = λ config rounds stands.
    let left = c.loop-event.event-iterator in
    all_let_in config rounds c.args.limits c.args.load c.loop-event.admitted.items (into_iter_items left)
    c.args.events.items
    (nil_from_length (into_iter_items left) (sym left.rest.ok.0 ∙ c.in-None.ensures.steps.0))
    (c.loop-event.invariant config rounds stands)
