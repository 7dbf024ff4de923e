-- `and_value`: if there is no such parameter, it gets added at the end.
use Rattle.std.proofs.Common.{sym, ◌∙◌}
use Rattle.sip_grammar.proofs.KeptParameters.{added}
use Rattle.sip_grammar.proofs.parameters.Parameters.and_value.Goals as goal

pub returns : goal.returns
returns c =
    rw (added c.args.name.now c.args.value.now c.args.self c.named.result c.named.ensures
    (sym c.is_some.ensures ∙ c.if-is_some.false)) c.with.ensures
