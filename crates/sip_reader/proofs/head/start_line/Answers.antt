-- `start_line` gives what the first line of the text says, or None if it says nothing or there is
-- none.
use Rattle.std.proofs.Common.{Some, None, sym, ap, ◌∙◌}
use Rattle.sip_reader.specs.Steps.ReadHead.{first_at, lines_found}
use Rattle.sip_reader.specs.ReadStart.{start_at}
use Rattle.sip_reader.proofs.Heads.{begins_with}
use Rattle.sip_reader.proofs.head.start_line.Goals as goal

pub returns-in_default : goal.returns-in_default
returns-in_default c =
    begins_with c.args.text.now None
    (ap first_at (sym (ap lines_found c.in_default.is) ∙ c.in_ok-line.ensures))

pub returns-in_default-2 : goal.returns-in_default-2
returns-in_default-2 c =
    begins_with c.args.text.now None
    (sym c.in_default-2.is ∙ c.in_ok-first.ensures ∙ ap start_at c.as_slice.ensures
    ∙ ap first_at (sym (ap lines_found c.in-Some.is) ∙ c.in_ok-line.ensures))

pub returns : goal.returns
returns c =
    begins_with c.args.text.now (Some c.in_ok-into_owned.field-0)
    (ap (λ first. Some first) c.in_ok-into_owned.ensures
    ∙ sym c.in-Some-2.is ∙ c.in_ok-first.ensures ∙ ap start_at c.as_slice.ensures
    ∙ ap first_at (sym (ap lines_found c.in-Some.is) ∙ c.in_ok-line.ensures))
