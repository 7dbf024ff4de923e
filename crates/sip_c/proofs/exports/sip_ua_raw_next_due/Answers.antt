-- `sip_ua_raw_next_due` tells the first moment at which something is due, or that there is none.
use Rattle.std.proofs.Common.{◌≡◌, ℕ, List, Option, None, ap, refl, sym, subst, ◌∙◌}
use Rattle.std.specs.Prelude.{IfSome}
use Rattle.sip_round.specs.Answers.{StandsFor}
use Rattle.sip_round.specs.NextDue.{IsDueAfter}
use Rattle.sip_round.specs.declared.config.Config.{Config}
use Rattle.sip_round.specs.declared.round.Round.{Round}
use Rattle.sip_host.specs.Hosting.{shard_of}
use Rattle.sip_c.specs.Called.{IsNextDue, due_of}
use Rattle.sip_c.proofs.exports.sip_ua_raw_next_due.Goals as goal

pub returns-clause-told : goal.returns-clause-told
returns-clause-told c =
    subst (λ held. IfSome held (λ host. (moment : Option ℕ) × ◌≡◌ {A = ℕ} 0 0
    × (c.due_of-2.result ≡ due_of moment) × (host.agent.shards ≡ None → moment ≡ None)
    × ((config : Config) (rounds : List Round)
    → StandsFor shard_of host.agent config rounds → IsNextDue config rounds moment)))
    (sym c.in-Some.ensures.taken) (
      c.next_due.result,
      refl,
      c.due_of-2.ensures,
      λ broken. c.next_due.ensures.broken (ap (λ host. host.agent.shards) c.deref.ensures ∙ broken),
      λ config rounds stands.
          let here = subst (λ host. StandsFor shard_of host.agent config rounds)
          (sym c.deref.ensures) stands in
          record {
            before = λ moment early. c.next_due.ensures.before config rounds here moment early;
            at = λ moment is. subst (λ due. IfSome due (λ moment. (config : Config)
                (rounds : List Round) → StandsFor shard_of c.deref.result.now.agent config rounds
                → IsDueAfter config rounds moment)) is c.next_due.ensures.due config rounds here;
          },
    )
