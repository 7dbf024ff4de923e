-- `Outbound::acknowledge_step` takes out the response with this number, and keeps the invariant.
use Rattle.std.proofs.Common.{◌==◌, not, ap, ◌∙◌, rules}
use Rattle.sip_reliable.specs.Ledger.{Ledger, acknowledged}
use Rattle.sip_reliable.proofs.Sounds.{retained, sound_kept}
use Rattle.sip_reliable.proofs.outbound.Outbound.acknowledge_step.Goals as goal

pub invariant_of-self : goal.invariant_of-self
invariant_of-self c =
    let o = c.self.inside in
    let kept = retained _ (λ p. not (p.number == c.args.rseq)) _
    (λ x b t y call. search rules) _ _ c.retain.ensures.filtered in (
      c.self.invariant.0,
      c.self.invariant.1,
      rw kept (sound_kept o.first o.next (λ p. not (p.number == c.args.rseq)) o.waiting.items
          c.self.invariant.2),
    )

pub returns-clause-ok : goal.returns-clause-ok
returns-clause-ok c = let kept = retained _ (λ p. not (p.number == c.args.rseq)) _
    (λ x b t y call. search rules) _ _ c.retain.ensures.filtered in
    let o = c.self.inside in
    let before : Ledger = record {
      first = o.first;
      next = o.next;
      supported = o.supported;
      closed = o.closed;
      waiting = o.waiting.items;
    } in
    ap (λ waiting. record before { waiting = waiting }) kept
    ∙ ap (acknowledged c.args.rseq) c.self.view_is
