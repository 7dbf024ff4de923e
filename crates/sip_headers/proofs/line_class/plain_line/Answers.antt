-- `plain_line`: a line that it finds is the first line of the text, of this class, without folds.
use Rattle.std.proofs.Common.{List, ℕ, ap, sym, ◌∙◌}
use Rattle.sip_grammar.specs.HeaderEntry.{header_named}
use Rattle.sip_headers.specs.HeaderLine.{class_by_name}
use Rattle.sip_headers.proofs.PlainLines.{plain_line_is}
use Rattle.sip_headers.proofs.line_class.plain_line.Goals as goal

pub returns : goal.returns
returns c =
    let name = c.in_ok-name.name.now in
    plain_line_is c.args.text.now (name, c.in_ok-name.rest.now) c.in_ok-value.value.now
    c.in_ok-value.after.now _ (sym c.in_ok-name.ensures) c.in_ok-value.ensures
    (sym c.begins_blank.ensures ∙ c.if-begins_blank.false)
    (c.class_named.ensures
    ∙ ap (λ (v : List ℕ). class_by_name name v (header_named name)) c.trimmed.ensures)
