-- The law `one_request_in_each_life`: a server transaction hands its request up once in each life.
use Rattle.std.proofs.Common.{[], ◌∙◌}
use Rattle.sip_transactions.specs.Machine.{transaction_machine}
use Rattle.sip_round.specs.Answers.{past_of}
use Rattle.sip_round.specs.Laws.{inputs_of}
use Rattle.sip_round.proofs.Lives.{in_lives}
use Rattle.sip_round.proofs.Said.{transaction_alone}
use Rattle.sip_round.proofs.laws.one_request_in_each_life.Goals as goal

pub returns : goal.returns
returns c = λ config rounds key server life.
    let up = c.one_request_up.ensures key server (inputs_of config rounds key) life in
    record {
      said_in_order = transaction_alone c.laws_of_phases.ensures.each_key_alone []
          (past_of config rounds).transactions key
          ∙ in_lives transaction_machine key life;
      once = up.0;
      no_more = up.1;
    }
