-- `part`: each turn of the loop adds what one more thing gives.
use Rattle.std.proofs.Common.{sym, ◌∙◌}
use Rattle.std.proofs.lemmas.List.{nil_from_length}
use Rattle.std.specs.Vec.Iter.{into_iter_items}
use Rattle.sip_round.specs.Outputs.{raised_of}
use Rattle.sip_round.specs.Steps.Form.{sent_as}
use Rattle.sip_round.proofs.Taken.{all_taken, one_taken}
use Rattle.sip_round.proofs.outs.part.Goals as goal

pub loop-out-preserved : goal.loop-out-preserved
loop-out-preserved g c = (
  one_taken (sent_as g.F.Form.form c.args.id.place) _ c.loop-out.outputs.items
      c.put.new.outputs.items _ _ _ c.in-Some.ensures.steps.0 c.in_ok-put.ensures.outputs
      c.loop-out.invariant.0,
  one_taken (raised_of c.args.id) _ c.loop-out.items.items c.put.new.items.items _ _ _
      c.in-Some.ensures.steps.0 c.in_ok-put.ensures.items c.loop-out.invariant.1,
)

pub returns-clause-outputs : goal.returns-clause-outputs
returns-clause-outputs g c =
    let left = c.loop-out.out-iterator in
    all_taken (sent_as g.F.Form.form c.args.id.place) _ c.loop-out.outputs.items
    (into_iter_items left) (nil_from_length (into_iter_items left)
    (sym left.rest.ok.0 ∙ c.in-None.ensures.steps.0)) c.loop-out.invariant.0

pub returns-clause-items : goal.returns-clause-items
returns-clause-items g c =
    let left = c.loop-out.out-iterator in
    all_taken (raised_of c.args.id) _ c.loop-out.items.items (into_iter_items left)
    (nil_from_length (into_iter_items left)
    (sym left.rest.ok.0 ∙ c.in-None.ensures.steps.0)) c.loop-out.invariant.1
