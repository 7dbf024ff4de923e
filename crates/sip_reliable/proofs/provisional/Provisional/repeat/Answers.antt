-- `Provisional::repeat`: it was repeated so rarely that the next interval doesn't overflow.
use Rattle.std.proofs.Common.{ℕ, ◌+◌, ◌*◌, ◌^◌, ◌<◌, ◌≤◌, inl, inr, arith}
use Rattle.std.proofs.Math.Pow.{pow-lt}
use Rattle.std.proofs.lemmas.Bool.{cases_lt}
use Rattle.sip_timers.specs.declared.estimate.TheConstants.{T1}
use Rattle.sip_reliable.specs.declared.provisional.Retransmission.{Retransmission}
use Rattle.sip_reliable.specs.Provisional.{interval_after}
use Rattle.sip_reliable.proofs.provisional.Provisional.repeat.Goals as goal

-- what keeps the intervals short
abbrev Paced : ℕ → Retransmission → Type 0
Paced sent r = (sent + 2 * interval_after r.repeats ≤ r.due + T1) × (r.due ≤ 2 ^ 63 + T1)

few : (sent now : ℕ) (r : Retransmission) → Paced sent r → r.due ≤ now → now ≤ 2 ^ 62
    → r.repeats + 1 < 64
few sent now r paced due before =
    elim (cases_lt 62 r.repeats) as (λ _. r.repeats + 1 < 64) [
      | inl many ↦ absurd (omega (arith, pow-lt many, paced.0, due, before))
      | inr less ↦ omega (arith, less)
    ]

pub overflow_shl-due : goal.overflow_shl-due
overflow_shl-due c =
    let last = c.in-Some.last in
    few c.self.inside.sent c.args.now last (c.self.invariant.1 last c.in-Some.is)
    c.if-last-now.true c.requires

pub overflow_add-repeats : goal.overflow_add-repeats
overflow_add-repeats c =
    let last = c.in-Some.last in
    let less : last.repeats + 1 < 64 =
    few c.self.inside.sent c.args.now last (c.self.invariant.1 last c.in-Some.is)
    c.if-last-now.true c.requires in
    omega (arith, less)
