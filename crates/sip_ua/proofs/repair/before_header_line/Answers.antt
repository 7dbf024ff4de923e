-- `before_header_line` takes off the last line if it begins with a space and has its end.
use Rattle.std.proofs.Common.{◌≡◌, ◌≤◌, ap, length, subst, sym, ◌∙◌, arith, List, ℕ, true, false, drop}
use Rattle.sip_ua.specs.Repair.{without_last_headers, is_header_line}
use Rattle.sip_ua.proofs.LastHeaders.{last_cut, last_kept, unended_kept, whole_shorter}
use Rattle.sip_ua.proofs.repair.before_header_line.Goals as goal

pub returns-then-is_in_line-clause-kept : goal.returns-then-is_in_line-clause-kept
returns-then-is_in_line-clause-kept c =
    let parts = c.in_ok-last.ensures.cases.0 in
    ap (without_last_headers true) parts
    ∙ unended_kept true c.in_ok-last.lines.now c.in_ok-last.last.now
    (sym c.is_in_line.ensures ∙ c.if-is_in_line.true)
    ∙ sym parts

pub split_at-requires : goal.split_at-requires
split_at-requires c =
    subst (λ (text : List ℕ). length text ≤ length c.in_ok-last.lines.now)
    (sym c.whole_lines-front.ensures) (whole_shorter c.in_ok-last.lines.now)

pub returns-then-is_header_line-clause-cut : goal.returns-then-is_header_line-clause-cut
returns-then-is_header_line-clause-cut c =
    let lines = c.in_ok-last.lines.now in
    let header = subst (λ (front : List ℕ). is_header_line (drop (length front) lines) ≡ true)
    c.whole_lines-front.ensures
    (ap is_header_line (sym c.split_at.ensures.back)
    ∙ sym c.is_header_line.ensures ∙ c.if-is_header_line.true) in
    ap (without_last_headers true) c.whole_lines-front.ensures
    ∙ last_cut c.args.text.now lines c.in_ok-last.last.now c.in_ok-last.ensures.cases.0
    (sym c.is_in_line.ensures ∙ c.if-is_in_line.false) header

pub returns-else-is_header_line-clause-kept : goal.returns-else-is_header_line-clause-kept
returns-else-is_header_line-clause-kept c =
    let lines = c.in_ok-last.lines.now in
    let other = subst (λ (front : List ℕ). is_header_line (drop (length front) lines) ≡ false)
    c.whole_lines-front.ensures
    (ap is_header_line (sym c.split_at.ensures.back)
    ∙ sym c.is_header_line.ensures ∙ c.if-is_header_line.false) in
    last_kept c.args.text.now lines c.in_ok-last.last.now c.in_ok-last.ensures.cases.0
    (sym c.is_in_line.ensures ∙ c.if-is_in_line.false) other
