-- `with_ports` gives each Via value its port, or None if a word isn't a port.
use Rattle.std.proofs.Common.{◌≡◌, [], ◌∷◌, subst, sym, ◌∙◌}
use Rattle.std.proofs.lemmas.List.{nil_from_length}
use Rattle.std.specs.Vec.Iter.{into_iter_items}
use Rattle.sip_text.specs.Forms.{each}
use Rattle.sip_headers.specs.Numbers.{via_with}
use Rattle.sip_headers.proofs.Eaches.{behind, each_more, each_stops, each_ends}
use Rattle.sip_headers.proofs.numbers.with_ports.Goals as goal

pub loop-draft-preserved : goal.loop-draft-preserved
loop-draft-preserved c =
    let total = each via_with c.args.drafts in
    let left : behind c.loop-draft.vias.items
    (each via_with (c.in-Some.draft ∷ into_iter_items c.next.new.self)) ≡ total =
    subst (λ ds. behind c.loop-draft.vias.items (each via_with ds) ≡ total)
    c.in-Some.ensures.steps.0 c.loop-draft.invariant in
    rw c.in_ok-push.ensures.items (each_more via_with c.loop-draft.vias.items c.in-Some.draft
    (into_iter_items c.next.new.self) c.in-Some-with_port.via total
    (sym c.in-Some-with_port.ensures) left)

pub returns-in_default : goal.returns-in_default
returns-in_default c =
    let total = each via_with c.args.drafts in
    let left : behind c.loop-draft.vias.items
    (each via_with (c.in-Some.draft ∷ into_iter_items c.next.new.self)) ≡ total =
    subst (λ ds. behind c.loop-draft.vias.items (each via_with ds) ≡ total)
    c.in-Some.ensures.steps.0 c.loop-draft.invariant in
    each_stops via_with c.loop-draft.vias.items c.in-Some.draft
    (into_iter_items c.next.new.self) total (sym c.in_default.ensures) left

pub returns : goal.returns
returns c =
    let total = each via_with c.args.drafts in
    let left = c.loop-draft.draft-iterator in
    let nothing_left : into_iter_items left ≡ [] =
    nil_from_length (into_iter_items left) (sym left.rest.ok.0 ∙ c.in-None.ensures.steps.0) in
    rw c.from_vec.ensures (each_ends via_with c.loop-draft.vias.items total
    (subst (λ ds. behind c.loop-draft.vias.items (each via_with ds) ≡ total) nothing_left
    c.loop-draft.invariant))
