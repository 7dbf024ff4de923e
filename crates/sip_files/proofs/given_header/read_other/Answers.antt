-- `read_other` gives the other header that one line adds to a draft.
use Rattle.std.proofs.Common.{length, ap, sym, ◌∙◌}
use Rattle.std.proofs.lemmas.List.{nil_from_length}
use Rattle.sip_headers.specs.HeaderFields.{with_line}
use Rattle.sip_headers.specs.declared.header_fields.HeaderFields.{HeaderFields}
use Rattle.sip_files.proofs.GivenLaws.{last_given}
use Rattle.sip_files.proofs.given_header.read_other.Goals as goal

pub returns : goal.returns
returns c =
    last_given c.args.line.now c.in-Some.others c.pop.new.self.items c.pop.result c.map.result
    (ap (λ (d : HeaderFields). (with_line d c.args.line.now).others) (sym c.new-draft.ensures)
    ∙ ap (λ (d : HeaderFields). d.others) (sym c.in_ok-add.ensures) ∙ sym c.take.ensures.value
    ∙ c.in-Some.is)
    (sym c.into_vec.ensures ∙ c.pop.ensures.items)
    (λ none. (let popped = rw none at c.pop.ensures.cases in
    nil_from_length c.in-Some.others
    (ap length (sym c.into_vec.ensures) ∙ sym c.into_vec.result.ok.0 ∙ popped.0)))
    c.map.ensures.cases
