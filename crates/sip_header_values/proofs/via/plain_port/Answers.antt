-- `plain_port`: a host and a port found in one pass are what reading gives, and the host is one.
use Rattle.std.proofs.Common.{◌≡◌, Some, sym, ap, ◌∙◌}
use Rattle.std.specs.Option.{option_copied}
use Rattle.sip_text.specs.Character.{is_token_byte}
use Rattle.sip_header_values.specs.Numeral.{numeral}
use Rattle.sip_header_values.specs.declared.numeral.Numeral.{Numeral}
use Rattle.sip_grammar.proofs.PlainRuns.{front_is, token_is}
use Rattle.sip_header_values.proofs.PlainVias.{host_is, port_first}
use Rattle.sip_header_values.proofs.via.plain_port.Goals as goal

pub returns-clause-exact : goal.returns-clause-exact
returns-clause-exact c =
    let front = front_is is_token_byte c.args.text.now c.split_at.result.0.now
    c.split_at.result.1.now c.run_len.result c.run_len.ensures.run c.split_at.ensures.front
    c.split_at.ensures.back (sym c.is_empty.ensures ∙ c.if-is_empty.false) in
    let port = c.split_at.result.0.now in
    let known : numeral port ≡ c.numeral_of-port.result = sym c.numeral_of-port.ensures in
    port_first c.args.text.now c.args.host.now port c.split_at.result.1.now
    (option_copied c.in_ok-after.after) front.parts c.requires (token_is port front.run)
    (sym c.in_ok-after.ensures)
    ∙ ap (λ (n : Numeral). Some ((c.args.host.now, Some n), option_copied c.in_ok-after.after))
    known

pub returns-clause-rule : goal.returns-clause-rule
returns-clause-rule c = host_is c.args.host.now c.requires
