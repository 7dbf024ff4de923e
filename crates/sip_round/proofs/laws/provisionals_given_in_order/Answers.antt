-- The law `provisionals_given_in_order`: the user is told of them in order, and of each once.
use Rattle.std.proofs.Common.{◌∙◌, ap}
use Rattle.std.specs.List.{flat_map}
use Rattle.sip_round.specs.Given.{notice_in}
use Rattle.sip_round.proofs.laws.provisionals_given_in_order.Goals as goal

pub returns : goal.returns
returns c = λ rounds call_id invite life.
    let reported = c.provisionals_in_each_life.ensures rounds call_id invite life in
    record {
      told = c.own_notices_given.ensures c.args.config.now rounds call_id
          ∙ ap (flat_map notice_in) reported.said_in_order;
      in_its_order = reported.shown_in_order;
      consecutive = reported.consecutive;
      once = reported.once;
    }
