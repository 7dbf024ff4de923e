-- `Queue::take_due` gives the keys that are due, in order, and leaves the later entries.
use Rattle.std.proofs.Common.{◌++◌, length, take, refl, sym, ap, subst, ◌∙◌, arith}
use Rattle.std.specs.Prelude.{nat_lt}
use Rattle.std.specs.BTreeMap.{is_at}
use Rattle.std.specs.List.{list_any}
use Rattle.std.specs.List.Sorted.{IsStrictlySortedBy}
use Rattle.std.specs.Map.{keys_of}
use Rattle.std.proofs.lemmas.List.{append-nil, drop_all, take_all}
use Rattle.std.proofs.lemmas.Map.Keys.{IsDistinct-from_sorted}
use Rattle.sip_timers.specs.Queue.{moment, due_keys, later, if_later}
use Rattle.sip_timers.specs.Index.{IsIndexOf}
use Rattle.sip_timers.proofs.Moments.{moment-later, given, due_keys-sorted, kept_sorted}
use Rattle.sip_timers.proofs.Schedules.{index_of_same}
use Rattle.sip_timers.proofs.Taking.{own_keys, without, takes_due, all_taken}
use Rattle.sip_timers.proofs.queue.Queue.take_due.Goals as goal

pub loop-key-init : goal.loop-key-init
loop-key-init g c =
    let cmp = g.K.Ord.cmp in
    let all = c.self.inside.moments.entries in
    let index = c.self.invariant.1 in
    let same = c.deref_mut-key-items.ensures.value in
    let takes = takes_due g.met.K.Ord.total c.args.now all c.in_ok-keys.keys.items
    (c.in_ok-keys.ensures.in_order (moment cmp all) index) c.self.invariant.0
    (c.in_ok-keys.ensures.given (moment cmp all) index) in
    record {
      given = ap (λ ks. own_keys cmp ks all) same ∙ takes.0
          ∙ ap (due_keys c.args.now) c.self.view_is;
      left = ap (λ ks. without cmp ks all) same ∙ takes.1 ∙ ap (later c.args.now) c.self.view_is;
      dues = refl;
    }

pub returns-clause-due : goal.returns-clause-due
returns-clause-due g c =
    let items = c.loop-key.key-items in
    let len = c.in_ok-keys.keys.len in
    ap (λ rest. take len (items ++ rest))
    (drop_all (length items) c.in_ok-keys.keys.items (omega arith))
    ∙ ap (take len) (append-nil items) ∙ take_all len items (omega (arith, c.in_ok-keys.keys.ok))
    ∙ (all_taken g.K.Ord.cmp items c.loop-key.key-index (omega arith)
    c.loop-key.self-inside.moments.entries).0 ∙ c.loop-key.invariant.given

pub returns-clause-in_order : goal.returns-clause-in_order
returns-clause-in_order g c =
    let cmp = g.K.Ord.cmp in
    let sorted : IsStrictlySortedBy cmp (keys_of c.args.self.now) =
    rw (← c.self.view_is) c.self.invariant.0 in
    subst (IsStrictlySortedBy cmp) (sym (returns-clause-due g c))
    (due_keys-sorted cmp c.args.now c.args.self.now sorted)

pub returns-clause-ok : goal.returns-clause-ok
returns-clause-ok g c =
    (all_taken g.K.Ord.cmp c.loop-key.key-items c.loop-key.key-index (omega arith)
    c.loop-key.self-inside.moments.entries).1 ∙ c.loop-key.invariant.left

pub returns-clause-given : goal.returns-clause-given
returns-clause-given g c =
    let cmp = g.K.Ord.cmp in
    let sorted : IsStrictlySortedBy cmp (keys_of c.args.self.now) =
    rw (← c.self.view_is) c.self.invariant.0 in
    λ q. ap (list_any (is_at (cmp q))) (returns-clause-due g c)
    ∙ given g.met.K.Ord.total c.args.now c.args.self.now
    (IsDistinct-from_sorted cmp (keys_of c.args.self.now) sorted) q

pub returns-clause-moments : goal.returns-clause-moments
returns-clause-moments g c =
    let cmp = g.K.Ord.cmp in
    let sorted : IsStrictlySortedBy cmp (keys_of c.args.self.now) =
    rw (← c.self.view_is) c.self.invariant.0 in
    λ q. ap (λ es. moment cmp es q) (returns-clause-ok g c)
    ∙ moment-later g.met.K.Ord.total c.args.now c.args.self.now sorted q

pub invariant_of-self-in-loop-key : goal.invariant_of-self-in-loop-key
invariant_of-self-in-loop-key g c =
    let cmp = g.K.Ord.cmp in
    let now = c.args.now in
    let all = c.args.self.now in
    let sorted : IsStrictlySortedBy cmp (keys_of all) =
    rw (← c.self.view_is) c.self.invariant.0 in
    let index : IsIndexOf cmp (moment cmp all) c.self.inside.dues =
    rw (← c.self.view_is) c.self.invariant.1 in (
      subst (λ es. IsStrictlySortedBy cmp (keys_of es)) (sym (returns-clause-ok g c))
          (kept_sorted cmp (λ e. nat_lt now e.1) all sorted),
      index_of_same cmp (λ q. if_later now (moment cmp all q))
          (moment cmp c.loop-key.self-inside.moments.entries) c.loop-key.self-inside.dues
          (λ q. sym (returns-clause-moments g c q))
          (subst (IsIndexOf cmp (λ q. if_later now (moment cmp all q)))
          (sym c.loop-key.invariant.dues) (c.in_ok-keys.ensures.left (moment cmp all) index)),
    )
