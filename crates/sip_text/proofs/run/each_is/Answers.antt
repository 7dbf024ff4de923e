-- `each_is`: each byte belongs to the class exactly if the run is as long as the text.
use Rattle.std.proofs.Common.{◌∙◌, ap, eqb, length}
use Rattle.sip_text.proofs.Runs.{run_is_text}
use Rattle.sip_text.proofs.run.each_is.Goals as goal

pub returns : goal.returns
returns g c =
    ap (λ n. eqb n (length c.args.text.now)) c.run_len.ensures.run
    ∙ run_is_text g.C.ByteClass.holds c.args.text.now
