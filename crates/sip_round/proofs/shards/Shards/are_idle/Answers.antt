-- `Shards::are_idle`: no shard is due, so a phase without items changes nothing in any.
use Rattle.std.proofs.Common.{true, false, ap, ◌∙◌, map, sym, subst}
use Rattle.std.specs.List.{AllByRecursion}
use Rattle.std.proofs.lemmas.Bool.{false≢true}
use Rattle.sip_message.specs.Key.{key_cmp}
use Rattle.keyed_machine.specs.Machine.{tick_at}
use Rattle.sip_shards.specs.AllShards.{IsIdle}
use Rattle.sip_transactions.specs.Machine.{transaction_machine}
use Rattle.sip_round.proofs.HeldInShards.{of_held}
use Rattle.sip_round.proofs.shards.Shards.are_idle.Goals as goal
use Rattle.sip_round.proofs.shards.Shards.are_idle.Goals.{then-are_idle, else-are_idle}

pub returns-then-are_idle-2-clause-first : goal.returns-then-are_idle-2-clause-first
returns-then-are_idle-2-clause-first c = λ _. elim c.if-are_idle.branch [
  | then-are_idle w ↦
      let same = c.deref.ensures.value ∙ ap (λ s. s.transactions) c.self.view_is in
      let idle = IsIdle key_cmp transaction_machine tick_at c.args.moment true in
      subst (λ shards. AllByRecursion idle (map (λ shard. shard.held) shards)) same
      (of_held idle (λ shard. shard.held) _ (c.are_idle.ensures w.if-are_idle.true))
  | else-are_idle w ↦ absurd (false≢true
      (sym w.if-are_idle.false ∙ (sym w.value-is ∙ c.if-are_idle-2.true)))
]

pub returns-then-are_idle-2-clause-third : goal.returns-then-are_idle-2-clause-third
returns-then-are_idle-2-clause-third c = λ _. elim c.if-are_idle.branch [
  | then-are_idle w ↦
      let same = (w.deref-then-are_idle).ensures.value
      ∙ ap (λ s. s.transactions) c.self.view_is in
      let idle = IsIdle key_cmp transaction_machine tick_at c.args.moment false in
      subst (λ shards. AllByRecursion idle (map (λ shard. shard.held) shards)) same
      (of_held idle (λ shard. shard.held) _
      ((w.are_idle-then-are_idle).ensures (sym w.value-is ∙ c.if-are_idle-2.true)))
  | else-are_idle w ↦ absurd (false≢true
      (sym w.if-are_idle.false ∙ (sym w.value-is ∙ c.if-are_idle-2.true)))
]
