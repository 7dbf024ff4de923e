-- `Outbound::send_step` keeps the invariant, and few responses wait after it.
use Rattle.std.proofs.Common.{sym, ap, ◌∙◌, arith}
use Rattle.sip_reliable.proofs.Sounds.{sent_sound}
use Rattle.sip_reliable.proofs.outbound.Outbound.send_step.Goals as goal

pub invariant_of-self : goal.invariant_of-self
invariant_of-self c =
    let o = c.self.inside in
    let sent =
    sent_sound o.first o.next o.supported o.closed o.waiting.items c.args.self.now
    c.in_ok-number.number c.new.result c.self.view_is (sym c.in_ok-number.was
    ∙ c.next_number.ensures) (ap (λ p. p.number) c.new.ensures) c.self.invariant.2 in
    rw c.push.ensures.items (omega arith, sent.0, sent.1)

pub returns-clause-few_wait : goal.returns-clause-few_wait
returns-clause-few_wait c =
    let o = c.self.inside in
    let sent =
    sent_sound o.first o.next o.supported o.closed o.waiting.items c.args.self.now
    c.in_ok-number.number c.new.result c.self.view_is (sym c.in_ok-number.was
    ∙ c.next_number.ensures) (ap (λ p. p.number) c.new.ensures) c.self.invariant.2 in
    rw c.push.ensures.items ((sent.1).room, (sent.1).alone)
