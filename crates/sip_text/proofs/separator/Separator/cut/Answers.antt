-- `Separator::cut`: the first byte that may separate does so, or the text has no separator.
use Rattle.std.proofs.Common.{◌≡◌, ◌+◌, ◌-◌, length, take, drop, add-one, sym, arith}
use Rattle.std.proofs.lemmas.List.{take_all, length-drop}
use Rattle.sip_text.specs.declared.separator.Place.TheVariants.{Plain}
use Rattle.sip_text.proofs.Separators.{cut_at_first, nothing_separates}
use Rattle.sip_text.proofs.separator.Separator.cut.Goals as goal

pub returns-in_err-first-clause-exact : goal.returns-in_err-first-clause-exact
returns-in_err-first-clause-exact c =
    rw c.from_residual.ensures (sym
    (nothing_separates c.args.self Plain c.args.text.now c.in_err-first.ensures))

pub returns-clause-exact : goal.returns-clause-exact
returns-clause-exact c =
    let found = c.in_ok-first.ensures in
    let text = c.args.text.now in
    let k = c.in_ok-first.first in
    let rest : take (length text - (k + 1)) (drop (k + 1) text) ≡ drop (k + 1) text =
    take_all _ _ (omega (arith, length-drop (k + 1) text)) in
    rw rest (rw add-one (sym (cut_at_first c.args.self text k found.0.high found.0.before found.1
    c.if-opens_in.ensures)))
