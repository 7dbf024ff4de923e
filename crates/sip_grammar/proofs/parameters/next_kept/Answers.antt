-- `next_kept`: reading one parameter of a text that is kept finds the first of its list.
use Rattle.std.proofs.Common.{refl}
use Rattle.sip_grammar.specs.ListedParameters.{listed}
use Rattle.sip_grammar.proofs.KeptParameters.{next_none, next_some}
use Rattle.sip_grammar.proofs.parameters.next_kept.Goals as goal

pub returns-in-None-clause-none : goal.returns-in-None-clause-none
unfolding listed
returns-in-None-clause-none c = rw c.in-None.is refl

pub returns-in-Some-clause-none : goal.returns-in-Some-clause-none
returns-in-Some-clause-none c =
    next_none _ c.in-Some.behind.now (rw c.in-Some.is at c.requires) c.first_parameter.result
    c.first_parameter.ensures.exact

pub returns-in-Some-clause-some : goal.returns-in-Some-clause-some
returns-in-Some-clause-some c =
    rw c.in-Some.is (next_some c.in-Some.behind.now (rw c.in-Some.is at c.requires)
    c.first_parameter.result c.first_parameter.ensures.exact)
