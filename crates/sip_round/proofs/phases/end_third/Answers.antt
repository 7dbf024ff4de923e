-- `end_third` adds the outputs of the third phase.
use Rattle.std.proofs.Common.{◌++◌}
use Rattle.std.specs.List.{flat_map}
use Rattle.keyed_machine.specs.Groups.{groups}
use Rattle.sip_round.specs.Outputs.{joined, sent_at, sent_of}
use Rattle.sip_round.proofs.InForm.{at_no_place}
use Rattle.sip_round.proofs.Leading.{led_third}
use Rattle.sip_round.proofs.phases.end_third.Goals as goal

pub returns : goal.returns
returns g c =
    let ticks = groups c.args.replies.ticks.items in
    let said = groups c.args.replies.items.items in (
      flat_map (sent_at 0) (joined ticks ++ joined said),
      at_no_place sent_of g.F.Form.form c.args.outputs.now.items c.send_all.new.outputs.items
          c.send_all-2.new.outputs.items ticks said c.in_ok-send_all.ensures
          c.in_ok-send_all-2.ensures,
      λ owner old new now commands deals.
          led_third owner old new now commands ticks said deals,
    )
