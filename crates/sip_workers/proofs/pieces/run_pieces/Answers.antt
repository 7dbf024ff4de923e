-- `run_pieces` gives one done for each piece; if the numbers of the pieces differ, so do theirs.
use Rattle.std.proofs.lemmas.Result.{IfOk-weaker}
use Rattle.sip_workers.proofs.Gathers.{distinct_done}
use Rattle.sip_workers.proofs.pieces.run_pieces.Goals as goal

pub returns : goal.returns
returns g c = record {
  each_once = c.dones_of.ensures;
  differ = λ distinct. IfOk-weaker c.dones_of.result _ _
      (λ dones all. distinct_done g.J.Job.gives c.args.pieces.items dones.items all distinct)
      c.dones_of.ensures;
}
