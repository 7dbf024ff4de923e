-- `Queue::rearm`: the schedule is still the index of the entries, also if memory runs out.
use Rattle.std.proofs.Common.{◌≡◌, Some, None, cond, sym, ap, subst, ◌∙◌}
use Rattle.std.specs.BTreeMap.{is_at}
use Rattle.std.specs.Ordering.{is_eq}
use Rattle.std.proofs.lemmas.Cmp.{tied_itself}
use Rattle.sip_timers.specs.Queue.{moment}
use Rattle.sip_timers.specs.Index.{IsIndexOf, with_moment}
use Rattle.sip_timers.proofs.Schedules.{index_of_same, undone}
use Rattle.sip_timers.proofs.queue.Queue.rearm.Goals as goal

pub invariant_of-self-in-Err : goal.invariant_of-self-in-Err
invariant_of-self-in-Err g c =
    let cmp = g.K.Ord.cmp in
    let total = g.met.K.Ord.total in
    let old = c.self.inside.moments.entries in
    let key = c.args.key in
    let due = c.args.due in
    let before = c.self.invariant.1 in
    let armed = with_moment cmp (moment cmp old) key (Some due) in
    let put : IsIndexOf cmp armed c.replace.new.self =
    c.in_ok-key.ensures.ok (moment cmp old) before (rw c.self.view_is c.requires.former) in
    let there : armed key ≡ Some due =
    ap (λ o. cond (is_eq o) (Some due) (moment cmp old key)) (tied_itself total key) in
    let same : c.in_ok-key.key ≡ key = c.in_ok-key.ensures.key in
    let absent : moment cmp old key ≡ None =
    subst (λ k. moment cmp old k ≡ None) same c.in-Err.ensures.absent in
    let back : c.in-Err.refused.value ≡ (key, due) =
    c.in-Err.ensures.value_returned ∙ ap (λ k. (k, due)) same in
    let again : IsIndexOf cmp (with_moment cmp armed key None) c.disarm.new.self =
    (rw back at (c.disarm.ensures armed put)) there in (
      c.in-Err.ensures.ordered,
      subst (λ es. IsIndexOf cmp (moment cmp es) c.disarm.new.self)
          {y = c.insert.new.self.entries} (sym c.in-Err.ensures.err)
          (undone total (moment cmp old) c.self.inside.dues c.disarm.new.self key due before absent
          again),
    )

pub invariant_of-self-in_default : goal.invariant_of-self-in_default
invariant_of-self-in_default g c =
    let cmp = g.K.Ord.cmp in
    let old = moment cmp c.self.inside.moments.entries in
    let due = c.args.due in (
      c.in_default.ensures.ordered,
      index_of_same cmp (with_moment cmp old c.args.key (Some due))
          (moment cmp c.insert.new.self.entries) c.replace.new.self
          (λ q. sym (c.in_default.ensures.updates.0 q
          ∙ ap (λ k. cond (is_at (cmp k) q) (Some due) (old q)) c.in_ok-key.ensures.key))
          (c.in_ok-key.ensures.ok old c.self.invariant.1 (rw c.self.view_is c.requires.former)),
    )
