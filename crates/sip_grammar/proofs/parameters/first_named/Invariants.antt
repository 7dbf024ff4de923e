-- `first_named`: the first such parameter of what is left is the first one of all.
use Rattle.std.proofs.Common.{◌≡◌, length}
use Rattle.std.specs.Option.{option_copied}
use Rattle.sip_grammar.specs.ListedParameters.{listed, IsKept, stored}
use Rattle.sip_grammar.specs.Parameters.{parameter_named}
use Rattle.sip_grammar.proofs.parameters.first_named.Given as goal

abbrev pub invariant-loop-parameter : goal.invariant-loop-parameter
invariant-loop-parameter l =
    IsKept (stored (option_copied l.rest))
    × (parameter_named l.name (listed (stored (option_copied l.rest)))
    ≡ parameter_named l.name (listed (stored (option_copied l.fn.rest))))

abbrev pub decreases-loop-parameter : goal.decreases-loop-parameter
decreases-loop-parameter l = length (stored (option_copied l.rest))
