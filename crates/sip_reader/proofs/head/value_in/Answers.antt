-- `value_in` gives the value of a line whose name is one of the header.
use Rattle.std.proofs.Common.{List, ℕ, Bool, cond, not, Option, Some, None, sym, ap, ◌∙◌}
use Rattle.std.specs.Str.{str_eq_ignore_ascii_case}
use Rattle.sip_headers.specs.HeaderFields.{long_name}
use Rattle.sip_headers.specs.HeaderLine.{line_from}
use Rattle.sip_reader.proofs.HeadValues.{known_value, not_same, not_unknown, other_value}
use Rattle.sip_reader.proofs.head.value_in.Goals as goal
use Rattle.sip_reader.proofs.head.value_in.Goals.{else-is_none-via-then-is_none+else-token_eq, else-is_none-via-else-is_none}

-- the value, or none
abbrev kept : List ℕ → Bool → Option (List ℕ)
kept value b = cond b (Some value) None

pub returns-then-is_known : goal.returns-then-is_known
returns-then-is_known c =
    ap (kept c.in-Known.value.now) (sym c.if-is_known.true ∙ c.is_known.ensures)
    ∙ known_value c.args.name.now c.args.header c.in-Known.other c.in-Known.value.now
    (line_from c.args.line.now) c.requires c.in-Known.ensures

pub returns-else-is_known : goal.returns-else-is_known
returns-else-is_known c =
    ap (kept c.in-Known.value.now) (sym c.if-is_known.false ∙ c.is_known.ensures)
    ∙ known_value c.args.name.now c.args.header c.in-Known.other c.in-Known.value.now
    (line_from c.args.line.now) c.requires c.in-Known.ensures

pub returns-else-is_none : goal.returns-else-is_none
returns-else-is_none c =
    let same = str_eq_ignore_ascii_case (long_name c.in-Other.other.now)
    (long_name c.args.name.now) in
    ap (kept c.in-Other.value.now) (sym (elim c.else-is_none.branch [
      | else-is_none-via-then-is_none+else-token_eq w ↦ not_same c.args.header same
          (ap (λ (n : List ℕ). str_eq_ignore_ascii_case n (long_name c.args.name.now))
          (sym w.long_name.ensures)
          ∙ ap (str_eq_ignore_ascii_case w.long_name.result.now)
          (sym w.long_name-then-is_none.ensures)
          ∙ sym w.token_eq.ensures ∙ w.if-token_eq.false)
      | else-is_none-via-else-is_none w ↦ not_unknown c.args.header same
          (c.is_none.ensures ∙ ap not w.if-is_none.false)
    ]))
    ∙ other_value c.args.name.now c.args.header c.in-Other.other.now c.in-Other.value.now
    (line_from c.args.line.now) c.requires c.in-Other.ensures
