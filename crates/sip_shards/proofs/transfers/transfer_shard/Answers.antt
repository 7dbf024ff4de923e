-- `transfer_shard`: each turn of the loop moves one more key to its new owner.
use Rattle.std.proofs.Common.{◌≡◌, ◌<◌, None, Some, cond, sym, ◌∙◌, ap, arith, length, map, refl, subst}
use Rattle.std.proofs.Math.Seq.{map-set_same}
use Rattle.std.specs.BTreeMap.{is_at}
use Rattle.std.specs.Option.{option_or}
use Rattle.std.specs.List.{IsDistinct}
use Rattle.std.specs.Map.{keys_of}
use Rattle.std.specs.Ordering.{eq_by_cmp}
use Rattle.std.proofs.lemmas.List.{get_or-map, length-map, map-set}
use Rattle.keyed_machine.specs.Table.{state_at, state_in}
use Rattle.sip_shards.specs.Parts.{owner_of}
use Rattle.sip_shards.specs.Steps.Transfer.{AreOwners, held_by_owner}
use Rattle.sip_shards.proofs.Transferred.{TableLeft, first_left, one_less}
use Rattle.sip_shards.proofs.transfers.transfer_shard.Goals as goal

pub loop-key-init : goal.loop-key-init
loop-key-init g c =
    let cmp = g.S.Machine.Key.Ord.cmp in
    let gives = c.into_iter-key-iterator.ensures.into_iter_gives in
    let held = map g.S.KeyShard.held c.args.moved.now.items in
    let owner = owner_of (g.C.Cut.shard_of c.args.cut.now) g.S.Machine.Key.Named.name in
    let all : Some c.in-Some.states.entries ≡ g.S.KeyShard.held c.args.shard = c.in-Some.ensures in
    let apart : IsDistinct (eq_by_cmp cmp) (keys_of c.in-Some.states.entries) =
    subst (λ same. IsDistinct same (keys_of c.in-Some.states.entries))
    (λ i x y. g.met.S.Machine.Key.Ord.matches_eq x y i) gives.4 in (
      record {
        count = length-map c.args.moved.now.items g.S.KeyShard.held
            ∙ sym (c.len-count.ensures ∙ omega (arith, c.args.moved.now.ok));
        owners = subst (λ n. AreOwners cmp (owner n) held) (sym c.len-count.ensures)
            c.requires.owners;
        both = λ q. ap (λ table. option_or (state_at cmp table q)
            (held_by_owner cmp (owner c.len-count.result) held q))
            (ap Some gives.0 ∙ all);
      },
      subst (λ entries. IsDistinct (eq_by_cmp cmp) (keys_of entries)) (sym gives.0) apart,
      refl,
    )

pub loop-key-preserved : goal.loop-key-preserved
loop-key-preserved g c =
    let cmp = g.S.Machine.Key.Ord.cmp in
    let held = g.S.KeyShard.held in
    let shard_of = g.C.Cut.shard_of c.args.cut.now in
    let count = c.len-count.result in
    let owner = owner_of shard_of g.S.Machine.Key.Named.name in
    let key = c.in-Some-2.key in
    let moved = c.loop-key.moved.items in
    let at = c.shard-owner.result in
    let new = c.put.new.self in
    let owned : at ≡ owner count key =
    c.shard-owner.ensures ∙ ap (λ name. shard_of name count) c.name.ensures in
    let some : 0 < count = omega (arith, c.requires.some, c.len-count.ensures) in
    let within : owner count key < count =
    g.met.C.Cut.within c.args.cut.now (g.S.Machine.Key.Named.name key) count some in
    let inside : at < count = omega (arith, owned, within) in
    let left = c.loop-key.invariant.0 in
    let first = first_left g.met.S.Machine.Key.Ord.total g.met.S.Machine.StateMachine.exact
    (owner count) c.loop-key.key-iterator c.next.new.self key c.in-Some-2.state
    c.in-Some-2.ensures.steps c.loop-key.invariant.1 in
    let there : at < length moved =
    omega (arith, inside, left.count, length-map moved held) in (
      subst (TableLeft g.met.S.Machine.Key.Ord.total g.met.S.Machine.StateMachine.exact
          (owner count) count (state_at cmp (held c.args.shard)) (state_in cmp c.next.new.self)
          (map held c.args.moved.now.items)) (sym (map-set held moved at new))
          (one_less g.met.S.Machine.Key.Ord.total g.met.S.Machine.StateMachine.exact (owner count)
          count (state_at cmp (held c.args.shard)) (state_in cmp c.loop-key.key-iterator)
          (state_in cmp c.next.new.self) (map held c.args.moved.now.items) (map held moved) at key
          c.in-Some-2.state (held new) owned inside c.in-Ok.ensures.sound
          (λ q. c.in-Ok.ensures.states q
          ∙ ap (λ t. cond (is_at (cmp key) q) (Some c.in-Some-2.state) (state_at cmp t q))
          (ap held c.index_mut.ensures.value ∙ sym (get_or-map held moved at _ None there)))
          first.has first.without left),
      first.apart,
      map-set_same g.S.KeyShard.machine moved at new _
          (c.in-Ok.ensures.machine ∙ ap g.S.KeyShard.machine c.index_mut.ensures.value)
          ∙ c.loop-key.invariant.2,
    )

pub returns-clause-states : goal.returns-clause-states
returns-clause-states g c = λ q.
    let cmp = g.S.Machine.Key.Ord.cmp in
    let held = g.S.KeyShard.held in
    let owner = owner_of (g.C.Cut.shard_of c.args.cut.now) g.S.Machine.Key.Named.name in
    let moved = map held c.loop-key.moved.items in
    subst (λ n. held_by_owner cmp (owner n) moved q
    ≡ option_or (state_at cmp (held c.args.shard) q)
    (held_by_owner cmp (owner n) (map held c.args.moved.now.items) q)) c.len-count.ensures
    (sym (ap (λ entries. option_or (state_in cmp entries q)
    (held_by_owner cmp (owner c.len-count.result) moved q)) c.in-None.ensures.steps.0)
    ∙ c.loop-key.invariant.0.both q)

pub index_mut-requires : goal.index_mut-requires
index_mut-requires g c =
    let count = c.len-count.result in
    let shard_of = g.C.Cut.shard_of c.args.cut.now in
    let name = g.S.Machine.Key.Named.name in
    let owned : c.shard-owner.result ≡ owner_of shard_of name count c.in-Some-2.key =
    c.shard-owner.ensures ∙ ap (λ bytes. shard_of bytes count) c.name.ensures in
    let within = g.met.C.Cut.within c.args.cut.now (name c.in-Some-2.key) count
    (omega (arith, c.requires.some, c.len-count.ensures)) in
    omega (
      arith,
      owned,
      within,
      c.loop-key.invariant.0.count,
      length-map c.loop-key.moved.items g.S.KeyShard.held,
      c.loop-key.moved.ok,
    )

pub returns-in_default-put-clause-count : goal.returns-in_default-put-clause-count
returns-in_default-put-clause-count g c =
    omega (
      arith,
      c.loop-key.invariant.0.count,
      length-map c.loop-key.moved.items g.S.KeyShard.held,
      c.loop-key.moved.ok,
      c.len-count.ensures,
    )

pub returns-clause-count : goal.returns-clause-count
returns-clause-count g c =
    omega (
      arith,
      c.loop-key.invariant.0.count,
      length-map c.loop-key.moved.items g.S.KeyShard.held,
      c.loop-key.moved.ok,
      c.len-count.ensures,
    )

pub returns-clause-machines : goal.returns-clause-machines
returns-clause-machines g c = c.loop-key.invariant.2

pub returns-clause-owners : goal.returns-clause-owners
returns-clause-owners g c =
    let owner = owner_of (g.C.Cut.shard_of c.args.cut.now) g.S.Machine.Key.Named.name in
    subst (λ n. AreOwners g.S.Machine.Key.Ord.cmp (owner n)
    (map g.S.KeyShard.held c.loop-key.moved.items)) c.len-count.ensures
    c.loop-key.invariant.0.owners
