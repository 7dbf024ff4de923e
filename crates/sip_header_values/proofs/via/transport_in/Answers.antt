-- `transport_in`: cutting at the first white space gives what reading gives, and its first part is
-- a token.
use Rattle.std.proofs.Common.{sym}
use Rattle.sip_header_values.proofs.PlainVias.{transport_first, transport_token}
use Rattle.sip_header_values.proofs.via.transport_in.Goals as goal

pub returns-in-Some-clause-exact : goal.returns-in-Some-clause-exact
returns-in-Some-clause-exact c = sym (transport_first c.args.text.now
    (c.in-Some.transport.now, c.in-Some.rest.now) (sym c.in-Some.ensures))

pub returns-in-Some-clause-rule : goal.returns-in-Some-clause-rule
returns-in-Some-clause-rule c = transport_token c.args.text.now
    (c.in-Some.transport.now, c.in-Some.rest.now) (sym c.in-Some.ensures)
