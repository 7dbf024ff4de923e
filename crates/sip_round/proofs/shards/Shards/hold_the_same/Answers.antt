-- `Shards::hold_the_same` compares the shards of both kinds, one by one.
use Rattle.std.proofs.Common.{ap, ◌∙◌, sym}
use Rattle.std.proofs.lemmas.Bool.{false≢true}
use Rattle.keyed_machine.specs.SameTables.{HoldTheSame}
use Rattle.sip_calls.specs.CallShard.{HeldCalls, call_cmp}
use Rattle.sip_message.specs.Key.{key_cmp}
use Rattle.sip_transactions.specs.Shard.{Lives}
use Rattle.sip_shards.proofs.SameShards.{zip_of_same}
use Rattle.sip_round.proofs.shards.Shards.hold_the_same.Goals as goal

pub returns-then-hold_the_same-clause-same : goal.returns-then-hold_the_same-clause-same
returns-then-hold_the_same-clause-same c =
    let lives = zip_of_same {X = Lives} (HoldTheSame key_cmp) (λ shard. shard.held)
    (c.as_slice.ensures.value ∙ ap (λ s. s.transactions) c.self.view_is)
    (c.as_slice-2.ensures.value ∙ ap (λ s. s.transactions) c.others.view_is)
    c.hold_the_same.ensures in
    let calls = zip_of_same {X = HeldCalls} (HoldTheSame call_cmp) (λ shard. shard.held)
    (c.as_slice-then-hold_the_same.ensures.value ∙ ap (λ s. s.calls) c.self.view_is)
    (c.as_slice-then-hold_the_same-2.ensures.value ∙ ap (λ s. s.calls) c.others.view_is)
    c.hold_the_same-then-hold_the_same.ensures in (
      (λ yes. record {
        transactions = lives.0 c.if-hold_the_same.true;
        calls = calls.0 yes;
      }),
      λ same. calls.1 same.calls,
    )

pub returns-else-hold_the_same-clause-same : goal.returns-else-hold_the_same-clause-same
returns-else-hold_the_same-clause-same c =
    let lives = zip_of_same {X = Lives} (HoldTheSame key_cmp) (λ shard. shard.held)
    (c.as_slice.ensures.value ∙ ap (λ s. s.transactions) c.self.view_is)
    (c.as_slice-2.ensures.value ∙ ap (λ s. s.transactions) c.others.view_is)
    c.hold_the_same.ensures in (
      (λ yes. absurd (false≢true (sym c.if-hold_the_same.false ∙ yes))),
      λ same. absurd (false≢true (sym c.if-hold_the_same.false ∙ lives.1 same.transactions)),
    )
