-- `Outbound::tick`: the ledger stands for all that happened and this tick; the numbers rise.
use Rattle.sip_reliable.proofs.Ledgers.{numbers_due, tick_stands}
use Rattle.sip_reliable.proofs.Repeats.{due_rise}
use Rattle.sip_reliable.proofs.outbound.Outbound.tick.Goals as goal

pub returns-clause-in_order : goal.returns-clause-in_order
returns-clause-in_order c = λ numbers is.
    let old = c.args.self.now in
    let due = numbers_due old c.args.now c.tick_step.result c.tick_step.ensures.answer numbers is in
    rw due (due_rise old.first old.next c.args.now old.waiting c.tick_step.ensures.sound.rise)

pub returns-clause-stands : goal.returns-clause-stands
returns-clause-stands c = let old = c.args.self.now in
    tick_stands old c.tick_step.new.self c.tick_step.result old.first old.next c.args.now
    c.tick_step.ensures.sound.rise c.tick_step.ensures.answer c.tick_step.ensures.after
