-- `plain_parameter`: a parameter found in one pass is what reading gives, and its name is a token.
use Rattle.std.proofs.Common.{sym, ◌∙◌}
use Rattle.std.specs.Option.{option_copied}
use Rattle.sip_text.specs.Token.{is_token_byte}
use Rattle.sip_grammar.proofs.PlainParameters.{name_first}
use Rattle.sip_grammar.proofs.PlainRuns.{front_is, token_is}
use Rattle.sip_grammar.proofs.parameter_text.plain_parameter.Goals as goal

pub plain_value-requires : goal.plain_value-requires
plain_value-requires c =
    let front = front_is is_token_byte c.args.text.now c.split_at.result.0.now
    c.split_at.result.1.now c.run_len.result c.run_len.ensures.run c.split_at.ensures.front
    c.split_at.ensures.back (sym c.is_empty.ensures ∙ c.if-is_empty.false) in
    token_is c.split_at.result.0.now front.run

pub returns-clause-exact : goal.returns-clause-exact
returns-clause-exact c =
    let front = front_is is_token_byte c.args.text.now c.split_at.result.0.now
    c.split_at.result.1.now c.run_len.result c.run_len.ensures.run c.split_at.ensures.front
    c.split_at.ensures.back (sym c.is_empty.ensures ∙ c.if-is_empty.false) in
    name_first c.args.text.now c.split_at.result.0.now c.split_at.result.1.now
    (option_copied c.in_ok-after.after) front.parts (token_is c.split_at.result.0.now front.run)
    (sym c.in_ok-after.ensures)

pub returns-clause-name : goal.returns-clause-name
returns-clause-name c =
    let front = front_is is_token_byte c.args.text.now c.split_at.result.0.now
    c.split_at.result.1.now c.run_len.result c.run_len.ensures.run c.split_at.ensures.front
    c.split_at.ensures.back (sym c.is_empty.ensures ∙ c.if-is_empty.false) in
    token_is c.split_at.result.0.now front.run
