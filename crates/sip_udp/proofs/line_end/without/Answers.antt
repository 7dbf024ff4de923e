-- `without` takes this byte off the end, if it stands there.
use Rattle.std.proofs.Common.{[], ◌∷◌, ◌++◌, ap, sym, ◌∙◌}
use Rattle.std.specs.Prelude.{if◌then◌else◌}
use Rattle.std.proofs.lemmas.Bool.{eq-eqb, ne_eqb}
use Rattle.sip_udp.specs.LineEnd.{without_last}
use Rattle.sip_udp.proofs.ReadLines.{without_at_end}
use Rattle.sip_udp.proofs.line_end.without.Goals as goal

pub returns-in-Some : goal.returns-in-Some
returns-in-Some c =
    let byte = c.args.byte in
    let last = c.in-Some.last.now in
    let front = c.in-Some.front.now in
    sym (ap (without_last byte) c.in-Some.ensures.cases.0 ∙ without_at_end byte last front
    ∙ ap (λ is. if is then front else front ++ last ∷ []) (eq-eqb last byte c.if-last-byte.true))

pub returns-in_default : goal.returns-in_default
returns-in_default c =
    let byte = c.args.byte in
    let last = c.in-Some.last.now in
    let front = c.in-Some.front.now in
    c.in-Some.ensures.cases.0
    ∙ sym (ap (without_last byte) c.in-Some.ensures.cases.0 ∙ without_at_end byte last front
    ∙ ap (λ is. if is then front else front ++ last ∷ []) (ne_eqb last byte c.if-last-byte.false))
