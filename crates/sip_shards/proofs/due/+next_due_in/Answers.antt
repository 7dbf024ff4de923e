-- `next_due_in` gives the first moment at which a key is due, over all shards.
use Rattle.std.proofs.Common.{◌≡◌, ℕ, true, false, ap, map, sym, subst, ◌∙◌}
use Rattle.std.specs.List.{AllByRecursion}
use Rattle.std.specs.Prelude.{IfSome, IsSome, drop}
use Rattle.keyed_machine.specs.Machine.{tick_at}
use Rattle.sip_timers.specs.Queue.{is_due}
use Rattle.sip_shards.specs.AllShards.{IsIdle}
use Rattle.sip_shards.specs.Steps.Dues.{IsDueIn}
use Rattle.sip_shards.proofs.FirstDue.{due_in_first, due_in_rest, first_and_rest, in_any, neither_due, of_either, rest_is, with_first}
use Rattle.sip_shards.proofs.due.+next_due_in.Goals as goal

pub returns-in-len1-up-clause-before : goal.returns-in-len1-up-clause-before
returns-in-len1-up-clause-before g n c = λ sound now ticks before.
    let shards = c.args.shards.now in
    let some = c.in-len1-up.len_at_least in
    let parts = first_and_rest (λ shard. IsSome (g.S.KeyShard.held shard)) shards
    c.shard-item.result _ some
    c.shard-item.is sound in
    let neither : (ticks ≡ true) → (is_due now c.next_due.result ≡ false)
    × (is_due now c.next_due_in.result ≡ false) =
    λ with_tick. neither_due now c.next_due.result c.next_due_in.result
    (ap (is_due now) (sym c.earlier.ensures) ∙ before with_tick) in
    with_first (λ shard. IsIdle g.S.Machine.Key.Ord.cmp
    (g.S.Machine.StateMachine.machine (g.S.KeyShard.machine shard)) tick_at now ticks
    (g.S.KeyShard.held shard)) shards c.shard-item.result _ some c.shard-item.is
    (c.next_due.ensures.before parts.0 now ticks (λ with_tick. (neither with_tick).0))
    (subst (AllByRecursion (λ shard. IsIdle g.S.Machine.Key.Ord.cmp
    (g.S.Machine.StateMachine.machine (g.S.KeyShard.machine shard)) tick_at now ticks
    (g.S.KeyShard.held shard))) (rest_is shards)
    (c.next_due_in.ensures.before
    (subst (AllByRecursion (λ shard. IsSome (g.S.KeyShard.held shard))) (sym (rest_is shards))
    parts.1) now ticks
    (λ with_tick. (neither with_tick).1)))

pub returns-in-len1-up-clause-due : goal.returns-in-len1-up-clause-due
returns-in-len1-up-clause-due g n c =
    let cmp = g.S.Machine.Key.Ord.cmp in
    let due = g.S.Machine.StateMachine.due in
    let held = g.S.KeyShard.held in
    let shards = c.args.shards.now in
    let is_in : ℕ → Type 0 = λ at. IsDueIn cmp due at (map held shards) in
    subst (λ first. IfSome first is_in) (sym c.earlier.ensures)
    (of_either is_in c.next_due.result c.next_due_in.result
    (in_any _ is_in c.next_due.result
    (due_in_first cmp due held shards c.shard-item.result _ c.in-len1-up.len_at_least
    c.shard-item.is)
    c.next_due.ensures.due)
    (in_any (λ at. IsDueIn cmp due at (map held (drop 1 shards))) is_in c.next_due_in.result
    (due_in_rest cmp due held shards c.shard-item.result _ c.in-len1-up.len_at_least
    c.shard-item.is)
    (subst (λ rest. IfSome c.next_due_in.result (λ at. IsDueIn cmp due at (map held rest)))
    (rest_is shards) c.next_due_in.ensures.due)))
