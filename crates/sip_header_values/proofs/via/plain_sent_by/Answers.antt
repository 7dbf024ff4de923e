-- `plain_sent_by`: a host, and a port if there is one, found in one pass are what reading gives.
use Rattle.std.proofs.Common.{sym, ◌∙◌}
use Rattle.std.specs.Option.{option_copied}
use Rattle.sip_grammar.specs.Host.{is_host_byte}
use Rattle.sip_grammar.proofs.PlainRuns.{front_is}
use Rattle.sip_header_values.proofs.PlainVias.{host_first, host_is}
use Rattle.sip_header_values.proofs.via.plain_sent_by.Goals as goal

pub plain_port-requires : goal.plain_port-requires
plain_port-requires c =
    let front = front_is is_host_byte c.args.text.now c.split_at.result.0.now
    c.split_at.result.1.now c.run_len.result c.run_len.ensures.run c.split_at.ensures.front
    c.split_at.ensures.back (sym c.is_empty.ensures ∙ c.if-is_empty.false) in
    front.run

pub returns-clause-exact : goal.returns-clause-exact
returns-clause-exact c =
    let front = front_is is_host_byte c.args.text.now c.split_at.result.0.now
    c.split_at.result.1.now c.run_len.result c.run_len.ensures.run c.split_at.ensures.front
    c.split_at.ensures.back (sym c.is_empty.ensures ∙ c.if-is_empty.false) in
    host_first c.args.text.now c.split_at.result.0.now c.split_at.result.1.now
    (option_copied c.in_ok-after.after) front.parts front.run (sym c.in_ok-after.ensures)

pub returns-clause-rule : goal.returns-clause-rule
returns-clause-rule c =
    let front = front_is is_host_byte c.args.text.now c.split_at.result.0.now
    c.split_at.result.1.now c.run_len.result c.run_len.ensures.run c.split_at.ensures.front
    c.split_at.ensures.back (sym c.is_empty.ensures ∙ c.if-is_empty.false) in
    host_is c.split_at.result.0.now front.run
