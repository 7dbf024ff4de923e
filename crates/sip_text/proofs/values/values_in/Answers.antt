-- `values_in` gives each piece between commas, without the white space around it.
use Rattle.std.proofs.Common.{◌≡◌, ◌++◌, ◌∷◌, [], sym}
use Rattle.std.proofs.lemmas.List.{map_push}
use Rattle.sip_text.specs.Pieces.{all_now}
use Rattle.sip_text.specs.Trimmed.{trimmed}
use Rattle.sip_text.specs.declared.separator.Separator.TheVariants.{Byte}
use Rattle.sip_text.proofs.Loops.{piece_mapped, last_mapped}
use Rattle.sip_text.proofs.values.values_in.Goals as goal

pub loop-value-preserved : goal.loop-value-preserved
loop-value-preserved c =
    let e : all_now c.push.new.self.items ≡ all_now c.loop-value.values.items
    ++ trimmed c.in-Some.value.now ∷ [] =
    rw (c.in_ok-push.ensures.items, ← c.trimmed.ensures)
    (map_push (λ text. text.now) c.loop-value.values.items c.trimmed.result) in
    rw e (piece_mapped (Byte 44) trimmed
    (all_now c.loop-value.values.items) c.loop-value.rest.now c.in-Some.value.now
    c.in-Some.after.now _ (sym c.in-Some.ensures.exact) c.loop-value.invariant)

pub returns : goal.returns
returns c =
    let e : all_now c.push-2.new.self.items ≡ all_now c.loop-value.values.items
    ++ trimmed c.loop-value.rest.now ∷ [] =
    rw (c.in_ok-push-2.ensures.items, ← c.trimmed-2.ensures)
    (map_push (λ text. text.now) c.loop-value.values.items c.trimmed-2.result) in
    rw e (last_mapped (Byte 44) trimmed (all_now c.loop-value.values.items) c.loop-value.rest.now _
    (sym c.in_default.ensures.exact) c.loop-value.invariant)
