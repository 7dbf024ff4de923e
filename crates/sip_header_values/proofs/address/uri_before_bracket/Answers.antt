-- `uri_before_bracket`: cutting at the first `>` gives what reading gives, and its first part is a
-- URI.
use Rattle.std.proofs.Common.{sym}
use Rattle.sip_header_values.proofs.PlainVias.{uri_first, uri_found}
use Rattle.sip_header_values.proofs.address.uri_before_bracket.Goals as goal

pub returns-in-Some-clause-exact : goal.returns-in-Some-clause-exact
returns-in-Some-clause-exact c = sym (uri_first c.args.text.now
    (c.in-Some.uri.now, c.in-Some.rest.now) (sym c.in-Some.ensures))

pub returns-in-Some-clause-rule : goal.returns-in-Some-clause-rule
returns-in-Some-clause-rule c = uri_found c.args.text.now
    (c.in-Some.uri.now, c.in-Some.rest.now) (sym c.in-Some.ensures)
