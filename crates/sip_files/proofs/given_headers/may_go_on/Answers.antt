-- `may_go_on` gathers the headers only if a line names a `*`.
use Rattle.std.proofs.Common.{ap, sym, ◌∙◌}
use Rattle.sip_files.specs.Given.{gathered}
use Rattle.sip_files.specs.Steps.Drafting.{may_go_on, may_unregister}
use Rattle.sip_files.proofs.Unregistering.{with_wildcard, without_wildcard}
use Rattle.sip_files.proofs.given_headers.may_go_on.Goals as goal

pub returns-then-not-has_wildcard_line : goal.returns-then-not-has_wildcard_line
returns-then-not-has_wildcard_line c =
    sym (without_wildcard c.as_slice.result.now
    (sym c.has_wildcard_line.ensures ∙ c.if-not-has_wildcard_line.true))
    ∙ ap (λ headers. may_go_on (gathered headers)) c.as_slice.ensures

pub returns : goal.returns
returns c =
    c.may_unregister.ensures ∙ ap may_unregister c.in_ok-headers.ensures
    ∙ ap (λ headers. may_unregister (gathered headers)) (sym c.as_slice.ensures)
    ∙ sym (with_wildcard c.as_slice.result.now
    (sym c.has_wildcard_line.ensures ∙ c.if-not-has_wildcard_line.false))
    ∙ ap (λ headers. may_go_on (gathered headers)) c.as_slice.ensures
