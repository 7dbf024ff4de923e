-- `end_second` adds the outputs of the second phase, and gives the commands.
use Rattle.keyed_machine.specs.Groups.{groups}
use Rattle.sip_round.specs.Outputs.{place_of, call_outputs}
use Rattle.sip_round.proofs.InForm.{by_places}
use Rattle.sip_round.proofs.Leading.{led_second, second_given}
use Rattle.sip_round.proofs.phases.end_second.Goals as goal

pub returns : goal.returns
returns g c = λ items kept.
    let ticks = groups c.args.replies.ticks.items in
    let said = groups c.args.replies.items.items in (
      second_given items ticks said,
      by_places call_outputs g.F.Form.form c.args.outputs.now.items c.part_ticks.new.outputs.items
          c.part_items.new.outputs.items (place_of items)
          (g.F.Form.place_at c.args.places.now) ticks said kept
          c.in_ok-part_ticks.ensures.outputs c.in_ok-part_items.ensures.outputs,
      λ calls owner old new now deals.
          led_second calls owner old new now items ticks said c.new-commands.result.items
          c.part_ticks.new.commands.items c.part_items.new.commands.items deals
          c.new-commands.ensures.items c.in_ok-part_ticks.ensures.commands
          c.in_ok-part_items.ensures.commands,
    )
