-- `HeaderFields::add_class`: the name and the value of a header of another name can be kept.
use Rattle.std.proofs.Common.{ap, ◌∙◌}
use Rattle.sip_headers.specs.HeaderLine.{class_now}
use Rattle.sip_headers.proofs.OthersFit.{other_fits}
use Rattle.sip_headers.proofs.header_fields.HeaderFields.add_class.Goals as goal

pub add_other-requires-clause-name : goal.add_other-requires-clause-name
add_other-requires-clause-name c =
    (other_fits c.requires.0 c.in-Other.name.now c.in-Other.value.now
    (c.requires.1 ∙ ap class_now c.in-Other.is)).0

pub add_other-requires-clause-value : goal.add_other-requires-clause-value
add_other-requires-clause-value c =
    (other_fits c.requires.0 c.in-Other.name.now c.in-Other.value.now
    (c.requires.1 ∙ ap class_now c.in-Other.is)).1
