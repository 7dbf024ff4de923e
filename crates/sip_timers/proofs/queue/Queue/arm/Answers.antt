-- `Queue::arm`: if the key is already due at that moment, the entries stay the same.
use Rattle.std.proofs.Common.{Some, sym, ◌∙◌, ap, ℕ}
use Rattle.std.specs.Map.{keys_of}
use Rattle.std.specs.List.Sorted.{IsStrictlySortedBy}
use Rattle.sip_timers.proofs.Moments.{insert_same}
use Rattle.sip_timers.proofs.queue.Queue.arm.Goals as goal

pub returns-in-Some-clause-ok : goal.returns-in-Some-clause-ok
returns-in-Some-clause-ok g c =
    let sorted : IsStrictlySortedBy g.K.Ord.cmp (keys_of c.args.self.now) =
    rw (← c.self.view_is) c.self.invariant.0 in
    insert_same g.met.K.Ord.total c.args.self.now sorted c.args.key c.args.due
    (rw (← c.self.view_is) (sym (c.get.ensures.value) ∙ sym c.copied.ensures ∙ c.in-Some.is
    ∙ ap (λ (m : ℕ). Some m) c.if-former-due.true))
