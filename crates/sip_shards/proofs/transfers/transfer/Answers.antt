-- `transfer`: each held key is afterwards in the table of its new owner.
use Rattle.std.proofs.Common.{◌≡◌, ◌<◌, [], Some, refl, sym, ◌∙◌, subst, arith, length, map, vec_len}
use Rattle.std.proofs.lemmas.List.{length-map, nil_from_length}
use Rattle.std.proofs.lemmas.List.Elements.{All-map}
use Rattle.std.specs.Vec.Iter.{into_iter_items}
use Rattle.std.specs.Option.{option_or}
use Rattle.keyed_machine.specs.Machine.{tick_at}
use Rattle.keyed_machine.specs.Table.{state_at}
use Rattle.sip_shards.specs.Parts.{owner_of}
use Rattle.sip_shards.specs.Steps.Transfer.{AreOwners, held_by_owner}
use Rattle.sip_shards.proofs.Transferred.{TransferLeft, all_moved, nothing_moved, one_moved}
use Rattle.sip_shards.proofs.transfers.transfer.Goals as goal

pub loop-shard-init : goal.loop-shard-init
loop-shard-init g c =
    let cmp = g.S.Machine.Key.Ord.cmp in
    let machine = g.S.Machine.StateMachine.machine c.args.machine.now in
    let held = g.S.KeyShard.held in
    let others = c.args.others.items in
    let shards = map held c.args.shards.items in
    let count = length others in
    let owner = owner_of (g.C.Cut.shard_of c.args.cut.now) g.S.Machine.Key.Named.name count in
    let as_many : length (map held others) ≡ count = length-map others held in (
      subst (λ rest. TransferLeft cmp machine tick_at owner count shards (map held rest)
          (map held others)) (sym c.into_iter-shard-iterator.ensures.into_iter_gives.0)
          (subst (λ n. TransferLeft cmp machine tick_at owner n shards shards (map held others))
          as_many
          (nothing_moved cmp machine tick_at c.laws_of_phases.ensures.shards_hold_apart owner
          shards (map held others) (All-map (λ table. table ≡ Some []) held others c.requires.empty)
          (λ key. subst (λ n. owner key < n) (sym as_many)
          (g.met.C.Cut.within c.args.cut.now (g.S.Machine.Key.Named.name key) count
          (omega (arith, c.requires.some, c.args.others.ok)))))),
      refl,
    )

pub loop-shard-preserved : goal.loop-shard-preserved
loop-shard-preserved g c =
    let cmp = g.S.Machine.Key.Ord.cmp in
    let machine = g.S.Machine.StateMachine.machine c.args.machine.now in
    let held = g.S.KeyShard.held in
    let count = length c.args.others.items in
    let shards = map held c.args.shards.items in
    let owner = owner_of (g.C.Cut.shard_of c.args.cut.now) g.S.Machine.Key.Named.name in
    let moved = c.loop-shard.moved in
    let newer = c.transfer_shard.new.moved in
    let rest = into_iter_items c.next.new.self in
    let left = c.loop-shard.invariant.0 in
    let before = subst (λ rest. TransferLeft cmp machine tick_at (owner count) count shards
    (map held rest) (map held moved.items)) c.in-Some.ensures.steps.0 left in
    let as_many : vec_len moved ≡ count =
    omega (arith, moved.ok, left.count, length-map moved.items held) in
    let after = c.in_ok-transfer_shard.ensures in (
      one_moved cmp machine tick_at c.laws_of_phases.ensures.shards_hold_apart (owner count) count
          shards (held c.in-Some.shard) (map held rest) (map held moved.items)
          (map held newer.items)
          (omega (
            arith,
            moved.ok,
            newer.ok,
            after.count,
            length-map moved.items held,
            length-map newer.items held,
          ))
          (subst (λ n. AreOwners cmp (owner n) (map held newer.items)) as_many after.owners)
          (subst (λ n. (q : g.row.S-Machine-Key.Denot)
          → held_by_owner cmp (owner n) (map held newer.items) q
          ≡ option_or (state_at cmp (held c.in-Some.shard) q)
          (held_by_owner cmp (owner n) (map held moved.items) q))
          as_many after.states)
          before,
      after.machines ∙ c.loop-shard.invariant.1,
    )

pub returns-clause-holds : goal.returns-clause-holds
returns-clause-holds g c = λ old_owner phases within holds.
    let cmp = g.S.Machine.Key.Ord.cmp in
    let machine = g.S.Machine.StateMachine.machine c.args.machine.now in
    let held = g.S.KeyShard.held in
    let count = length c.args.others.items in
    let shards = map held c.args.shards.items in
    let owner = owner_of (g.C.Cut.shard_of c.args.cut.now) g.S.Machine.Key.Named.name count in
    let left = c.loop-shard.shard-iterator in
    let moved = map held c.loop-shard.moved.items in
    let nothing_left : into_iter_items left ≡ [] =
    nil_from_length (into_iter_items left) (sym left.rest.ok.0 ∙ c.in-None.ensures.steps.0) in
    all_moved cmp machine tick_at c.laws_of_phases.ensures.shards_hold_apart owner count
    shards moved
    (subst (λ rest. TransferLeft cmp machine tick_at owner count shards (map held rest) moved)
    nothing_left c.loop-shard.invariant.0)
    (λ key. g.met.C.Cut.within c.args.cut.now (g.S.Machine.Key.Named.name key) count
    (omega (arith, c.requires.some, c.args.others.ok)))
    old_owner phases
    (λ key. subst (λ n. old_owner key < n) (sym (length-map c.args.shards.items held))
    (within key))
    holds

pub transfer_shard-requires-clause-some : goal.transfer_shard-requires-clause-some
transfer_shard-requires-clause-some g c =
    omega (
      arith,
      c.loop-shard.invariant.0.count,
      length-map c.loop-shard.moved.items g.S.KeyShard.held,
      c.loop-shard.moved.ok,
      c.args.others.ok,
      c.requires.some,
    )

pub transfer_shard-requires-clause-most : goal.transfer_shard-requires-clause-most
transfer_shard-requires-clause-most g c =
    omega (
      arith,
      c.loop-shard.invariant.0.count,
      length-map c.loop-shard.moved.items g.S.KeyShard.held,
      c.loop-shard.moved.ok,
      c.args.others.ok,
      c.requires.most,
    )

pub returns-clause-count : goal.returns-clause-count
returns-clause-count g c =
    sym (length-map c.loop-shard.moved.items g.S.KeyShard.held) ∙ c.loop-shard.invariant.0.count

pub returns-clause-machines : goal.returns-clause-machines
returns-clause-machines g c = c.loop-shard.invariant.1
