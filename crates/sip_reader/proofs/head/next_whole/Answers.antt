-- `next_whole`: the line that it finds is the first whole line of the text; if it finds none, there
-- is none.
use Rattle.std.proofs.Common.{sym, ◌∙◌}
use Rattle.sip_headers.specs.Whole.{whole_now}
use Rattle.sip_headers.proofs.Folds.{is_empty_text, is_full_text}
use Rattle.sip_reader.proofs.HeadValues.{empty_whole, next_whole, none_whole}
use Rattle.sip_reader.proofs.head.next_whole.Goals as goal

pub returns-in_default-clause-lines : goal.returns-in_default-clause-lines
returns-in_default-clause-lines c = none_whole c.args.text.now (sym c.in_default.ensures.parts)

pub returns-then-is_empty-clause-lines : goal.returns-then-is_empty-clause-lines
returns-then-is_empty-clause-lines c =
    empty_whole c.args.text.now c.in-Some.line.now c.in-Some.after.now (sym c.in-Some.ensures.parts)
    (is_empty_text c.in-Some.line.now (sym c.is_empty.ensures ∙ c.if-is_empty.true))

pub returns-clause-lines : goal.returns-clause-lines
returns-clause-lines c =
    let found = c.in_ok-whole_line.field-0 in
    next_whole c.args.text.now c.in-Some.line.now c.in-Some.after.now (whole_now found.0)
    found.1.now (sym c.in-Some.ensures.parts)
    (is_full_text c.in-Some.line.now (sym c.is_empty.ensures ∙ c.if-is_empty.false))
    c.in_ok-whole_line.ensures.lines
