-- `of_fields`: the label has a word for each field, and is printable.
use Rattle.std.proofs.Common.{[], sym, rules, subst}
use Rattle.sip_ladder.proofs.Fields.{fields_is, last_of, next_of}
use Rattle.sip_ladder.proofs.Printable.{AreShown}
use Rattle.sip_ladder.proofs.label.of_fields.Goals as goal

pub loop-field-preserved : goal.loop-field-preserved
loop-field-preserved c =
    next_of c.args.line.now c.loop-field.rest.now c.in-Some.field.now c.in-Some.after.now
    c.loop-field.label.items _ c.loop-field.invariant (search rules) (search rules)

pub returns-clause-label : goal.returns-clause-label
returns-clause-label c =
    last_of c.args.line.now c.loop-field.rest.now c.loop-field.label.items _
    c.loop-field.invariant (search rules) (search rules)

pub returns-clause-printable : goal.returns-clause-printable
returns-clause-printable c =
    subst AreShown (sym (last_of c.args.line.now c.loop-field.rest.now c.loop-field.label.items
    c.from_vec.result c.loop-field.invariant (search rules) (search rules)))
    (fields_is [] c.args.line.now)
