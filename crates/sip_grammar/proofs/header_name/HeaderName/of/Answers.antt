-- `HeaderName::of`: a header whose long name is exactly this one is the header of this name.
use Rattle.std.proofs.Common.{sym, ap, ◌∙◌}
use Rattle.sip_grammar.specs.HeaderEntry.{header_named}
use Rattle.sip_grammar.proofs.HeaderNames.{long_names}
use Rattle.sip_grammar.proofs.header_name.HeaderName.of.Goals as goal

pub returns-in-Some : goal.returns-in-Some
returns-in-Some c =
    sym (ap header_named c.in-Some.ensures ∙ long_names c.in-Some.header)
