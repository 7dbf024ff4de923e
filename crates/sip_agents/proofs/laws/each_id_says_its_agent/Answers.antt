-- The law `each_id_says_its_agent`.
use Rattle.std.proofs.Common.{◌≡◌, ◌+◌, ◌*◌, ◌/◌, ◌^◌, ℕ, ap, ◌∙◌, arith}
use Rattle.std.proofs.lemmas.Nat.{div-mul-add}
use Rattle.sip_agents.proofs.laws.each_id_says_its_agent.Goals as goal

moved : (first number round : ℕ)
    → (first + number * 2 ^ 58) + round ≡ number * 2 ^ 58 + (first + round)
moved first number round = omega arith

pub returns : goal.returns
returns c config number round place few =
    ap (λ n. n / 2 ^ 58) (moved config.first number round)
    ∙ div-mul-add number (2 ^ 58) (config.first + round) few
