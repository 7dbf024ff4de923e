-- The law `nothing_after_each_end`: nothing is handed up under the id of a life that has ended.
use Rattle.sip_round.specs.Laws.{inputs_of}
use Rattle.sip_round.proofs.NamesRise.{names_differ}
use Rattle.sip_round.proofs.laws.nothing_after_each_end.Goals as goal

pub returns : goal.returns
returns c = λ config rounds key life id over named.
    c.nothing_after_the_end.ensures key (inputs_of config rounds key) life id over named
    (names_differ config key rounds)
