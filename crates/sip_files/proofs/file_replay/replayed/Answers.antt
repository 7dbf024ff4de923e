-- `replayed` gives the output file of the rounds that the text spells.
use Rattle.std.proofs.Common.{rules}
use Rattle.sip_files.proofs.Streams.{replays_read}
use Rattle.sip_files.proofs.file_replay.replayed.Goals as goal

pub returns-clause-replays : goal.returns-clause-replays
returns-clause-replays g c =
    replays_read c.args.kind c.args.text.now c.in-Ok.read.0 c.in-Ok.read.1
    c.as_slice-rounds.result.now
    c.in-Ok-run.answers.items c.in_ok-told.told.items c.in_ok-file.file.items (search rules)
    c.in-Ok.ensures.found c.in-Ok.ensures.size c.in-Ok-run.ensures.unrefused
    c.in-Ok-run.ensures.answers c.in_ok-told.ensures (search rules)
