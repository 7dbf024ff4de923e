-- `stamp_source`: the stamped parameters have the same branch.
use Rattle.std.proofs.Common.{◌≡◌, arith}
use Rattle.std.proofs.lemmas.Grind.{common_steps}
use Rattle.sip_message.specs.Source.{stamped_parameters}
use Rattle.sip_message.proofs.Stamps.{stamp_leaves}
use Rattle.sip_message.proofs.source.stamp_source.Goals as goal

pub set_top_parameters-requires : goal.set_top_parameters-requires
set_top_parameters-requires c =
    let e : c.in-Some.parameters ≡ stamped_parameters c.args.source c.top.result.now =
    grind (arith, common_steps) in
    rw e (stamp_leaves c.args.source c.args.message.now.vias c.top.result.now c.top.ensures)
