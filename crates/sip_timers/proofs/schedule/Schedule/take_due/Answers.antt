-- `Schedule::take_due` gives the keys that are due, in order, and leaves the later ones.
use Rattle.std.proofs.Common.{◌≡◌, [], ◌∷◌, ◌++◌, map, take, drop, sym, ap, subst, ◌∙◌, arith}
use Rattle.sip_timers.specs.Index.{IsIndexOf}
use Rattle.sip_timers.proofs.Dues.{due_count}
use Rattle.sip_timers.proofs.Schedules.{next_place, popped_given, popped_in_order, popped_left}
use Rattle.sip_timers.proofs.schedule.Schedule.take_due.Goals as goal

pub loop-preserved : goal.loop-preserved
loop-preserved g c =
    let all = c.self.inside.dues.keys in
    let i = c.loop.counter in
    let next = next_place (λ d. d.1) all i (c.in-Some.field-0-0, c.in-Some.key)
    c.pop_first.new.self.keys
    (sym c.loop.invariant.dues ∙ c.in-Some.ensures.removal) in
    record {
      len = omega (arith, c.push_reserved.ensures.len, c.loop.invariant.len);
      capacity = omega (arith, c.push_reserved.ensures.capacity, c.loop.invariant.capacity);
      keys = c.push_reserved.ensures.items
          ∙ ap (λ keys. keys ++ c.in-Some.key ∷ []) c.loop.invariant.keys ∙ sym next.0;
      dues = sym next.1;
    }

pub returns-clause-in_order : goal.returns-clause-in_order
returns-clause-in_order g c = λ moments index.
    let all = c.self.inside.dues.keys in
    let count : c.loop.counter ≡ due_count c.args.now all = omega (arith, c.loop.keys.ok) in
    popped_in_order g.met.K.Ord.total moments all
    (subst (IsIndexOf g.K.Ord.cmp moments) (sym c.self.view_is) index)
    c.count_due-count.ensures.ordered c.args.now c.loop.keys.items
    (c.loop.invariant.keys ∙ ap (λ n. map (λ d. d.1) (take n all)) count)
    c.sort_unstable.new.self.items c.sort_unstable.ensures.permutation
    c.sort_unstable.ensures.sorted

pub returns-clause-given : goal.returns-clause-given
returns-clause-given g c = λ moments index.
    let all = c.self.inside.dues.keys in
    let count : c.loop.counter ≡ due_count c.args.now all = omega (arith, c.loop.keys.ok) in
    popped_given g.met.K.Ord.total moments all
    (subst (IsIndexOf g.K.Ord.cmp moments) (sym c.self.view_is) index)
    c.count_due-count.ensures.ordered c.args.now c.loop.keys.items
    (c.loop.invariant.keys ∙ ap (λ n. map (λ d. d.1) (take n all)) count)
    c.sort_unstable.new.self.items c.sort_unstable.ensures.permutation

pub returns-clause-left : goal.returns-clause-left
returns-clause-left g c = λ moments index.
    let all = c.self.inside.dues.keys in
    let count : c.loop.counter ≡ due_count c.args.now all = omega (arith, c.loop.keys.ok) in
    subst (IsIndexOf g.K.Ord.cmp _) (sym (c.loop.invariant.dues ∙ ap (λ n. drop n all) count))
    (popped_left g.met.K.Ord.total moments all
    (subst (IsIndexOf g.K.Ord.cmp moments) (sym c.self.view_is) index)
    c.count_due-count.ensures.ordered c.args.now)
