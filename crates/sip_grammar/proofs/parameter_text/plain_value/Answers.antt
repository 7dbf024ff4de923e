-- `plain_value`: a name and a value found in one pass are what reading gives.
use Rattle.std.proofs.Common.{sym, ◌∙◌}
use Rattle.std.specs.Option.{option_copied}
use Rattle.sip_text.specs.Parameter.{is_value_byte}
use Rattle.sip_grammar.proofs.PlainParameters.{value_first, word_is_value}
use Rattle.sip_grammar.proofs.PlainRuns.{front_is, word_is}
use Rattle.sip_grammar.proofs.parameter_text.plain_value.Goals as goal

pub returns-clause-exact : goal.returns-clause-exact
returns-clause-exact c =
    let front = front_is is_value_byte c.args.text.now c.split_at.result.0.now
    c.split_at.result.1.now c.run_len.result c.run_len.ensures.run c.split_at.ensures.front
    c.split_at.ensures.back (sym c.is_empty.ensures ∙ c.if-is_empty.false) in
    value_first c.args.text.now c.args.name.now c.split_at.result.0.now c.split_at.result.1.now
    (option_copied c.in_ok-after.after) front.parts c.requires
    (word_is c.split_at.result.0.now front.run) (sym c.in_ok-after.ensures)

pub returns-clause-value : goal.returns-clause-value
returns-clause-value c =
    let front = front_is is_value_byte c.args.text.now c.split_at.result.0.now
    c.split_at.result.1.now c.run_len.result c.run_len.ensures.run c.split_at.ensures.front
    c.split_at.ensures.back (sym c.is_empty.ensures ∙ c.if-is_empty.false) in
    word_is_value c.split_at.result.0.now (word_is c.split_at.result.0.now front.run)
