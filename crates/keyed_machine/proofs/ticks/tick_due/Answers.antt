-- `tick_due` gives the outputs that all held keys have to the tick.
use Rattle.std.proofs.Common.{◌≡◌, ◌∷◌, subst, refl, sym, ap, ◌∙◌, append-nil}
use Rattle.std.proofs.lemmas.List.{nil_from_length}
use Rattle.std.specs.BTreeMap.{is_at}
use Rattle.std.specs.List.{list_any}
use Rattle.std.specs.List.Sorted.{IsStrictlySortedBy}
use Rattle.std.specs.Vec.Iter.{into_iter_items}
use Rattle.keyed_machine.specs.Machine.{due_of, tick_at}
use Rattle.keyed_machine.specs.Groups.{groups}
use Rattle.keyed_machine.specs.Table.{state_in}
use Rattle.keyed_machine.proofs.Tick.{TickLeft, none_left, tick_left_at_first, tick_left_more, told_by_due}
use Rattle.keyed_machine.proofs.ticks.tick_due.Goals as goal

pub loop-key-init : goal.loop-key-init
loop-key-init g c =
    let cmp = g.M.Key.Ord.cmp in
    let machine = g.M.StateMachine.machine c.args.machine.now in
    let due = g.M.StateMachine.due in
    let input = tick_at c.args.now in
    let old = state_in cmp c.args.states.now.entries in
    let all = into_iter_items c.into_iter-key-iterator.result in
    let gives : all ≡ c.in_ok-due.due.items =
    c.into_iter-key-iterator.ensures.into_iter_gives.0 in
    rw c.new-told.ensures.items
    (tick_left_at_first g.met.M.Key.Ord.total g.met.M.StateMachine.exact machine due input
    c.args.now (g.met.M.StateMachine.idle c.args.machine.now c.args.now) old all c.take_due.new.self
    (subst (IsStrictlySortedBy cmp) (sym gives)
    (c.in_ok-due.ensures.in_order (λ q. due_of due (old q)) c.requires.armed))
    (λ q. ap (list_any (is_at (cmp q))) gives
    ∙ c.in_ok-due.ensures.given (λ q. due_of due (old q)) c.requires.armed q)
    (c.in_ok-due.ensures.left (λ q. due_of due (old q)) c.requires.armed))

pub loop-key-preserved : goal.loop-key-preserved
loop-key-preserved g c =
    let cmp = g.M.Key.Ord.cmp in
    let machine = g.M.StateMachine.machine c.args.machine.now in
    let due = g.M.StateMachine.due in
    let input = tick_at c.args.now in
    let old = state_in cmp c.args.states.now.entries in
    let all = into_iter_items c.into_iter-key-iterator.result in
    let left : TickLeft cmp machine due input old all
    (c.in-Some.key ∷ into_iter_items c.next.new.self)
    (state_in cmp c.loop-key.states.entries) c.loop-key.dues (groups c.loop-key.told.items) =
    subst (λ ks. TickLeft cmp machine due input old all ks
    (state_in cmp c.loop-key.states.entries) c.loop-key.dues (groups c.loop-key.told.items))
    c.in-Some.ensures.steps.0 c.loop-key.invariant in
    let more = tick_left_more g.met.M.Key.Ord.total g.met.M.StateMachine.exact machine due input old
    all (into_iter_items c.next.new.self) c.in-Some.key (state_in cmp c.loop-key.states.entries)
    (state_in cmp c.tick_key.new.states.entries)
    c.loop-key.dues c.tick_key.new.dues
    (groups c.loop-key.told.items) c.in_ok-outputs.outputs.items
    left
    c.in_ok-outputs.ensures.states c.in_ok-outputs.ensures.dues
    c.in_ok-outputs.ensures.added in
    rw c.in_ok-tell.ensures more

pub returns-clause-states : goal.returns-clause-states
returns-clause-states g c =
    let left = c.loop-key.key-iterator in
    let done = none_left c.loop-key.invariant (nil_from_length (into_iter_items left)
    (sym left.rest.ok.0 ∙ c.in-None.ensures.steps.0)) in
    λ q. done.done q refl

pub returns-clause-armed : goal.returns-clause-armed
returns-clause-armed g c =
    let left = c.loop-key.key-iterator in
    let done = none_left c.loop-key.invariant (nil_from_length (into_iter_items left)
    (sym left.rest.ok.0 ∙ c.in-None.ensures.steps.0)) in
    done.armed

pub returns-clause-told : goal.returns-clause-told
returns-clause-told g c =
    let cmp = g.M.Key.Ord.cmp in
    let machine = g.M.StateMachine.machine c.args.machine.now in
    let due = g.M.StateMachine.due in
    let input = tick_at c.args.now in
    let old = state_in cmp c.args.states.now.entries in
    let all = into_iter_items c.into_iter-key-iterator.result in
    let gives : all ≡ c.in_ok-due.due.items =
    c.into_iter-key-iterator.ensures.into_iter_gives.0 in
    let left = c.loop-key.key-iterator in
    let done = none_left c.loop-key.invariant (nil_from_length (into_iter_items left)
    (sym left.rest.ok.0 ∙ c.in-None.ensures.steps.0)) in
    λ keys covers.
    sym (append-nil (groups c.loop-key.told.items)) ∙ done.said
    ∙ told_by_due g.met.M.Key.Ord.total g.met.M.StateMachine.exact machine due input c.args.now
    (g.met.M.StateMachine.idle c.args.machine.now c.args.now) old all
    (subst (IsStrictlySortedBy cmp) (sym gives)
    (c.in_ok-due.ensures.in_order (λ q. due_of due (old q)) c.requires.armed))
    (λ q. ap (list_any (is_at (cmp q))) gives
    ∙ c.in_ok-due.ensures.given (λ q. due_of due (old q)) c.requires.armed q) keys covers
