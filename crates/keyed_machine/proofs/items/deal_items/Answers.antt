-- `deal_items`: each turn of the loop gives one more item to its key.
use Rattle.std.proofs.Common.{◌∷◌, subst, sym, ap, ◌∙◌, append-nil}
use Rattle.std.proofs.lemmas.List.{map-append, nil_from_length}
use Rattle.std.specs.Vec.Iter.{into_iter_items}
use Rattle.keyed_machine.specs.Phase.{timed_item, timed_items}
use Rattle.keyed_machine.specs.Groups.{groups}
use Rattle.keyed_machine.specs.Table.{state_in}
use Rattle.keyed_machine.proofs.ItemsLeft.{ItemsLeft, items_left_more, no_item_left}
use Rattle.keyed_machine.proofs.items.deal_items.Goals as goal

pub loop-place-preserved : goal.loop-place-preserved
loop-place-preserved g c =
    let cmp = g.M.Key.Ord.cmp in
    let machine = g.M.StateMachine.machine c.args.machine.now in
    let due = g.M.StateMachine.due in
    let now = c.args.now in
    let all = timed_items now c.args.items.items in
    let old = state_in cmp c.args.states.now.entries in
    let rest = into_iter_items c.next.new.self in
    let item = c.in-Some.field-0 in
    let left : ItemsLeft cmp machine due old all
    (timed_items now (item ∷ rest)) (state_in cmp c.loop-place.states.entries) c.loop-place.dues
    (groups c.loop-place.told.items) =
    subst (λ items. ItemsLeft cmp machine due old all (timed_items now items)
    (state_in cmp c.loop-place.states.entries) c.loop-place.dues (groups c.loop-place.told.items))
    c.in-Some.ensures.steps.0 c.loop-place.invariant in
    let more = items_left_more machine due old all (timed_items now rest) (timed_item now item)
    (state_in cmp c.loop-place.states.entries) (state_in cmp c.step_key.new.states.entries)
    c.loop-place.dues
    c.step_key.new.dues
    (groups c.loop-place.told.items) c.in_ok-outputs.outputs.items left
    c.in_ok-outputs.ensures.states c.in_ok-outputs.ensures.armed c.in_ok-outputs.ensures.added in
    rw (c.in_ok-push.ensures.items, map-append) more

pub returns-clause-states : goal.returns-clause-states
returns-clause-states g c =
    let left = c.loop-place.place-iterator in
    let done = no_item_left {all = timed_items c.args.now c.args.items.items}
    c.loop-place.invariant (ap (timed_items c.args.now)
    (nil_from_length (into_iter_items left)
    (sym left.rest.ok.0 ∙ c.in-None.ensures.steps.0))) in
    done.stepped_so_far

pub returns-clause-armed : goal.returns-clause-armed
returns-clause-armed g c =
    let left = c.loop-place.place-iterator in
    let done = no_item_left {all = timed_items c.args.now c.args.items.items}
    c.loop-place.invariant (ap (timed_items c.args.now)
    (nil_from_length (into_iter_items left)
    (sym left.rest.ok.0 ∙ c.in-None.ensures.steps.0))) in
    done.armed

pub returns-clause-told : goal.returns-clause-told
returns-clause-told g c =
    let left = c.loop-place.place-iterator in
    let done = no_item_left {all = timed_items c.args.now c.args.items.items}
    c.loop-place.invariant (ap (timed_items c.args.now)
    (nil_from_length (into_iter_items left)
    (sym left.rest.ok.0 ∙ c.in-None.ensures.steps.0))) in
    sym (append-nil (groups c.loop-place.told.items)) ∙ done.said
