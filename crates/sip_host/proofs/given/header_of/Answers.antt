-- `header_of` gives the header that the line says, or None if it says none.
use Rattle.std.proofs.Common.{◌∙◌, rules}
use Rattle.sip_host.proofs.SaidHeaders.{none_said, some_said}
use Rattle.sip_host.proofs.given.header_of.Goals as goal

pub returns-clause-some : goal.returns-clause-some
returns-clause-some c = some_said c.args.name.now c.args.value.now c.deref.result.now
    (c.deref.ensures.value ∙ c.in_ok-line.ensures) (search rules) c.read_given.result
    c.read_given.ensures

pub returns-clause-none : goal.returns-clause-none
returns-clause-none c = none_said c.args.name.now c.args.value.now c.deref.result.now
    (c.deref.ensures.value ∙ c.in_ok-line.ensures) c.read_given.result c.read_given.ensures
