-- `with_value_in`: the new list, with the value set in what is left, is the whole result.
use Rattle.std.proofs.Common.{◌≡◌, ◌++◌, length}
use Rattle.std.specs.Option.{option_copied}
use Rattle.sip_grammar.specs.ListedParameters.{listed, IsKept, stored}
use Rattle.sip_grammar.specs.Parameters.{with_value}
use Rattle.sip_grammar.proofs.parameters.with_value_in.Given as goal

abbrev pub invariant-loop-parameter : goal.invariant-loop-parameter
invariant-loop-parameter l =
    IsKept (stored (option_copied l.rest))
    × (l.made ++ with_value l.name l.value (listed (stored (option_copied l.rest)))
    ≡ l.fn.made ++ with_value l.name l.value (listed (stored (option_copied l.fn.rest))))

abbrev pub decreases-loop-parameter : goal.decreases-loop-parameter
decreases-loop-parameter l = length (stored (option_copied l.rest))
