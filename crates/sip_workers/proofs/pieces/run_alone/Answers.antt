-- `run_alone` gives one done for each piece; if the numbers of the pieces differ, so do theirs.
use Rattle.std.proofs.lemmas.Result.{IfOk-weaker}
use Rattle.sip_workers.proofs.Gathers.{distinct_done}
use Rattle.sip_workers.proofs.pieces.run_alone.Goals as goal

pub returns : goal.returns
returns g c = record {
  each_once = c.in_turn.ensures;
  differ = λ distinct. IfOk-weaker c.in_turn.result _ _
      (λ dones all. distinct_done g.J.Job.gives c.args.pieces.items dones.items all distinct)
      c.in_turn.ensures;
}
