-- The law `provisionals_in_each_life`: those that are told have consecutive RSeqs.
use Rattle.std.specs.Prelude.{[]}
use Rattle.sip_round.specs.Answers.{calls_of, past_of}
use Rattle.sip_round.specs.Laws.{call_inputs_of}
use Rattle.sip_round.proofs.CallEvents.{events_differ}
use Rattle.sip_round.proofs.Said.{call_alone}
use Rattle.sip_round.proofs.laws.provisionals_in_each_life.Goals as goal

pub returns : goal.returns
returns c = λ rounds call_id invite life.
    let config = c.args.config.now in
    let inputs = call_inputs_of config rounds call_id in
    let differ = events_differ config call_id rounds in
    record {
      said_in_order = call_alone (calls_of config) c.laws_of_phases.ensures.each_key_alone []
          (past_of config rounds).calls call_id;
      shown_in_order = c.provisionals_shown_in_order.ensures.in_order
          (calls_of config) inputs differ invite life;
      consecutive = c.provisionals_shown_in_order.ensures.consecutive
          (calls_of config) inputs differ invite life;
      once = c.provisionals_shown_in_order.ensures.once (calls_of config) inputs differ invite life;
    }
