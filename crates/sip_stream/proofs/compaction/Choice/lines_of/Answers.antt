-- `lines_of`: the last round stays as it is.
use Rattle.std.proofs.Common.{refl}
use Rattle.sip_stream.proofs.Shorter.{if_ok, whole_round}
use Rattle.sip_stream.proofs.compaction.Choice.lines_of.Goals as goal

pub returns-then-number-self : goal.returns-then-number-self
returns-then-number-self c =
    if_ok c.write_file_round.result c.write_file_round.ensures
    (λ text is. (c.args.round, whole_round c.args.round, (λ _. refl), is))
