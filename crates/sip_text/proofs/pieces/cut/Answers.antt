-- `cut` gives the parts before and after the first such byte.
use Rattle.std.proofs.Common.{◌≡◌, ◌==◌, ◌+◌, ◌-◌, length, take, drop, add-one, sym, arith}
use Rattle.std.proofs.lemmas.List.{take_all, length-drop}
use Rattle.sip_text.proofs.Cutting.{cut_where-none, cut_where-some}
use Rattle.sip_text.proofs.pieces.cut.Goals as goal

pub returns-in_err-place-clause-parts : goal.returns-in_err-place-clause-parts
returns-in_err-place-clause-parts c =
    rw c.from_residual.ensures (sym
    (cut_where-none (λ b. b == c.args.at) c.args.text.now (c.in_err-place.ensures)))

pub returns-clause-parts : goal.returns-clause-parts
returns-clause-parts c =
    let found = c.in_ok-place.ensures in
    let text = c.args.text.now in
    let place = c.in_ok-place.place in
    let rest : take (length text - (place + 1)) (drop (place + 1) text) ≡ drop (place + 1) text =
    take_all _ _ (omega (arith, length-drop (place + 1) text)) in
    rw rest (rw add-one (sym (cut_where-some
    (λ b. b == c.args.at) text place found.0.high found.0.before found.1)))
