-- `Shards::holds` asks the shard that owns the key.
use Rattle.std.proofs.Common.{◌≡◌, ◌<◌, ◌∙◌, Some, ap, arith, is_some, length, sym, subst}
use Rattle.std.proofs.lemmas.Option.{slice_get-get_or}
use Rattle.std.specs.List.{slice_get}
use Rattle.std.specs.Option.{option_map}
use Rattle.sip_message.specs.Key.{branch_in}
use Rattle.sip_transactions.specs.declared.life.Life.{Life}
use Rattle.sip_round.proofs.HeldLives.{some_state, state_in_shard}
use Rattle.sip_round.proofs.shards.Shards.holds.Goals as goal

pub returns-in-Some : goal.returns-in-Some
returns-in-Some g c = λ past hold.
    let shards = c.args.self.now in
    let owner = g.C.Cut.shard_of c.args.cut.now in
    let key = c.args.key.now in
    let number = c.shard-owner.result in
    let shard = c.in-Some.shard.now in
    let look = c.in-Some.ensures.lookup in
    let below : number < length c.deref.result.now = omega arith in
    let same = c.deref.ensures.value ∙ ap (λ s. s.transactions) c.self.view_is in
    let found : slice_get shards.transactions number ≡ Some shard =
    subst (λ all. slice_get all number ≡ Some shard) same
    (slice_get-get_or c.deref.result.now number shard below ∙ ap Some (sym look.1)) in
    let owns : number ≡ owner (branch_in key) (length shards.transactions) =
    c.shard-owner.ensures ∙ ap (owner c.name.result.now) c.count.ensures.count
    ∙ ap (λ name. owner name (length shards.transactions)) c.name.ensures in
    c.is_some.ensures ∙ ap is_some c.state_of.ensures ∙ some_state _
    ∙ ap is_some (state_in_shard owner shards past key number shard hold found owns)
