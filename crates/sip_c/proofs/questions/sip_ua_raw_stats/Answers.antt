-- `sip_ua_raw_stats` tells what the agent holds and what waits in it.
use Rattle.std.proofs.Common.{◌≡◌, ℕ, Some, refl, sym, subst}
use Rattle.std.specs.Prelude.{IfSome}
use Rattle.sip_host.specs.Hosting.{HoldsSo}
use Rattle.sip_host.specs.declared.holdings.Holdings.{Holdings}
use Rattle.sip_c.specs.Called.{stats_of}
use Rattle.sip_c.proofs.questions.sip_ua_raw_stats.Goals as goal

pub returns-clause-told : goal.returns-clause-told
returns-clause-told c =
    subst (λ held. IfSome held (λ host. (holds : Holdings) × ◌≡◌ {A = ℕ} 0 0
    × HoldsSo host holds × (c.stats_of-2.result ≡ stats_of (Some holds))))
    (sym c.in-Some.ensures.taken) (
      c.holdings.result,
      refl,
      subst (λ host. HoldsSo host c.holdings.result) c.deref.ensures c.holdings.ensures,
      c.stats_of-2.ensures,
    )
