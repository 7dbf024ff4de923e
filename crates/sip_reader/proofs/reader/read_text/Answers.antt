-- `read_text` gives what reading from left to right gives, unless memory runs out.
use Rattle.std.proofs.Common.{sym, subst, ◌∙◌}
use Rattle.sip_headers.specs.Whole.{whole_now}
use Rattle.sip_reader.specs.ReadMessage.{Gives}
use Rattle.sip_reader.proofs.Sections.{no_first_line, none_gathered, short_text, some_gathered}
use Rattle.sip_reader.proofs.reader.read_text.Goals as goal

pub returns-in_default : goal.returns-in_default
returns-in_default c =
    short_text c.args.text.now c.without_line_ends.result.now
    (sym c.is_too_long.ensures ∙ c.if-is_too_long.false) c.without_line_ends.ensures
    ∙ no_first_line c.args.text.now c.without_line_ends.result.now c.without_line_ends.ensures
    c.in_default.ensures.parts

pub returns-in_default-2 : goal.returns-in_default-2
returns-in_default-2 c =
    short_text c.args.text.now c.without_line_ends.result.now
    (sym c.is_too_long.ensures ∙ c.if-is_too_long.false) c.without_line_ends.ensures
    ∙ none_gathered c.args.text.now c.without_line_ends.result.now c.in-Some.line.now
    c.in-Some.after.now (whole_now c.in_ok-start_line.start_line) c.in_ok-start_line.after.now
    c.without_line_ends.ensures c.in-Some.ensures.parts c.in_ok-start_line.ensures.whole
    (rw c.in_default-2.is at c.in_ok-draft.ensures)

pub returns : goal.returns
returns c =
    subst (λ r. Gives c.message_of.result r)
    (sym (short_text c.args.text.now c.without_line_ends.result.now
    (sym c.is_too_long.ensures ∙ c.if-is_too_long.false) c.without_line_ends.ensures
    ∙ some_gathered c.args.text.now c.without_line_ends.result.now c.in-Some.line.now
    c.in-Some.after.now (whole_now c.in_ok-start_line.start_line) c.in_ok-start_line.after.now
    c.in-Some-2.draft.value c.in-Some-2.rest.now c.without_line_ends.ensures
    c.in-Some.ensures.parts c.in_ok-start_line.ensures.whole
    (rw c.in-Some-2.is at c.in_ok-draft.ensures)))
    (rw c.as_slice.ensures at c.message_of.ensures)
