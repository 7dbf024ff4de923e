-- `end_first` gives the outputs of the first phase, and the items of the calls.
use Rattle.std.proofs.Common.{sym, ◌∙◌}
use Rattle.keyed_machine.specs.Groups.{groups}
use Rattle.sip_round.specs.Outputs.{joined, sent_of}
use Rattle.sip_round.specs.Steps.Waiting.{by_event}
use Rattle.sip_round.proofs.InForm.{told, told_in_form}
use Rattle.sip_round.proofs.Leading.{led_first}
use Rattle.sip_round.proofs.phases.end_first.Goals as goal

pub returns : goal.returns
returns g c =
    let both = c.in_ok-first_outputs.field-0 in
    let ticks = groups c.args.replies.ticks.items in
    let said = groups c.args.replies.items.items in
    let waiting = c.args.waiting.items in (
      told sent_of (λ w. (w.0).place) (λ w. w.1) (joined ticks) (by_event waiting said),
      c.in_ok-first_outputs.ensures.outputs
          ∙ sym (told_in_form sent_of (λ w. (w.0).place) (λ w. w.1) g.F.Form.form (joined ticks)
          (by_event waiting said)),
      λ owner old new now arrivals placed waits deals.
          led_first owner old new c.args.number now arrivals placed
          c.laws_of_phases.ensures.told_in_order ticks said deals waiting both.1.items waits
          c.in_ok-first_outputs.ensures.items,
    )
