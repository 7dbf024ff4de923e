-- `Separator::cut_by_steps`, byte by byte, gives the cut at the first separator that counts.
use Rattle.std.proofs.Common.{◌≡◌, ◌+◌, ◌-◌, length, take, drop, add-one, sym, ap, ◌∙◌, arith}
use Rattle.std.proofs.lemmas.List.{take_all, length-drop}
use Rattle.sip_text.specs.Separator.{place_after}
use Rattle.sip_text.specs.declared.separator.Place.TheVariants.{Plain}
use Rattle.sip_text.proofs.Separators.{cut_at_index, place_more, whole_again}
use Rattle.sip_text.proofs.separator.Separator.cut_by_steps.Goals as goal

pub returns-in-None-clause-exact : goal.returns-in-None-clause-exact
returns-in-None-clause-exact c =
    let text = c.args.text.now in
    let k = c.loop-index.index in
    let rest : take (length text - (k + 1)) (drop (k + 1) text) ≡ drop (k + 1) text =
    take_all _ _ (omega (arith, length-drop (k + 1) text)) in
    rw rest (rw add-one (sym (cut_at_index c.args.self Plain c.loop-index.place text k
    c.loop-index-test.true c.loop-index.invariant (sym c.in-None.ensures))))

pub loop-index-preserved : goal.loop-index-preserved
loop-index-preserved c =
    place_more c.args.self c.loop-index.place c.in-Some.next c.args.text.now c.loop-index.index
    c.loop-index-test.true c.loop-index.invariant (sym c.in-Some.ensures)

pub returns-clause-exact : goal.returns-clause-exact
returns-clause-exact c =
    let text = c.args.text.now in
    let whole : take c.loop-index.index text ≡ text = take_all _ _ c.loop-index-test.false in
    sym (whole_again c.args.self Plain text
    (record {
      last = c.loop-index.place;
      none = ap (place_after c.args.self Plain) (sym whole) ∙ c.loop-index.invariant;
    }))
