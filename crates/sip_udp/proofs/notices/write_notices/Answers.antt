-- `write_notices` tells all outputs, in order.
use Rattle.std.proofs.Common.{subst}
use Rattle.std.proofs.KnownBytes.{Appends-kept}
use Rattle.std.proofs.lemmas.List.{take_all}
use Rattle.std.specs.Io.KnownBytes.{Appends}
use Rattle.sip_files.proofs.Pushed.{taken}
use Rattle.sip_udp.proofs.Told.{none_told, output_told}
use Rattle.sip_udp.proofs.notices.write_notices.Goals as goal

pub loop-placed-init : goal.loop-placed-init
loop-placed-init g c = none_told _ _ _ _

pub loop-placed-preserved : goal.loop-placed-preserved
loop-placed-preserved g c =
    let more = taken c.args.outputs.now c.loop-placed.placed-index c.placed-item.result
    c.loop-placed-test.true c.placed-item.is in
    output_told _ _ _ _ _ _ _ _ _ c.in_ok-text.text.items more c.loop-placed.invariant
    c.in_ok-text.ensures
    (subst (λ text. Appends (g.W.Write.contents c.loop-placed.writer)
    (g.W.Write.contents c.write_text.new.writer) text) c.deref.ensures.value
    c.in_ok-write_text.ensures)

pub returns-in-Ok : goal.returns-in-Ok
returns-in-Ok g c =
    let told = rw (take_all c.loop-placed.placed-index c.args.outputs.now
    c.loop-placed-test.false) at c.loop-placed.invariant in
    (told.0, told.1, Appends-kept _ _ _ told.0 told.2 c.flush.ensures.bytes)
