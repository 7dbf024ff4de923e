-- The law `nothing_given_after_ends`: nothing comes from a life that has ended.
use Rattle.std.proofs.Common.{sym, subst}
use Rattle.sip_round.specs.Answers.{answers}
use Rattle.sip_round.specs.Given.{NoneComesFrom}
use Rattle.sip_round.proofs.AfterEnds.{none_comes}
use Rattle.sip_round.proofs.laws.nothing_given_after_ends.Goals as goal

pub returns : goal.returns
returns c = λ rounds.
    let config = c.args.config.now in
    record {
      handed_up = c.nothing_after_each_end.ensures config rounds;
      told = λ earlier later are key id ended call_id.
          subst (λ all. NoneComesFrom key id config earlier later (answers config all) call_id)
          (sym are)
          (none_comes c.nothing_after_each_end.ensures c.laws_of_phases.ensures.each_key_alone
          config c.laws_of_phases-2.ensures.each_key_alone earlier later key id ended call_id);
    }
