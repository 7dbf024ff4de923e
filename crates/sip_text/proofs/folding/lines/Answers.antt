-- `lines` gives all lines of the text that have an end.
use Rattle.std.proofs.Common.{◌≡◌, ◌++◌, ◌∷◌, [], List, ℕ, sym, subst, refl}
use Rattle.std.proofs.lemmas.List.{append-nil, map_push}
use Rattle.sip_text.specs.Lines.{IsLines}
use Rattle.sip_text.specs.Pieces.{all_now}
use Rattle.sip_text.proofs.LineParts.{HasBefore, one_line_more, no_line}
use Rattle.sip_text.proofs.folding.lines.Goals as goal

pub loop-line-preserved : goal.loop-line-preserved
loop-line-preserved c =
    let e : all_now c.push.new.self.items ≡ all_now c.loop-line.found.items
    ++ c.in-Some.line.now ∷ [] = rw c.in_ok-push.ensures.items
    (map_push (λ text. text.now) c.loop-line.found.items c.in-Some.line) in
    subst (λ (front : List (List ℕ)). HasBefore c.args.text.now front c.in-Some.after.now) (sym e)
    (one_line_more c.args.text.now
    (all_now c.loop-line.found.items) c.loop-line.rest.now c.in-Some.line.now
    c.in-Some.after.now c.loop-line.invariant (sym c.in-Some.ensures.parts))

pub returns-clause-lines : goal.returns-clause-lines
returns-clause-lines c =
    let found = all_now c.loop-line.found.items in
    record {
      rest = c.loop-line.rest.now;
      parts = subst (λ (lines : List (List ℕ)). IsLines c.args.text.now lines c.loop-line.rest.now)
          (append-nil found) (c.loop-line.invariant [] c.loop-line.rest.now refl);
      no_more = no_line c.loop-line.rest.now (sym c.in_default.ensures.parts);
    }
