-- `replay_by`: where what is whole of it is replayed, the front of that output file may be written.
use Rattle.std.proofs.Common.{ap, ◌∙◌}
use Rattle.sip_ua.specs.Repair.{whole}
use Rattle.sip_ua.proofs.Repairs.{whole_front}
use Rattle.sip_ua.proofs.program.replay_by.Goals as goal

pub returns-clause-front : goal.returns-clause-front
returns-clause-front g c = λ is.
    whole_front c.args.kind c.args.repairs c.if-not-repairs.false _ _
    (g.R.Read.remaining c.args.input.now) c.in_ok-text.text.items c.whole-front.result.now
    (c.whole-front.ensures ∙ ap (whole c.args.kind) c.as_slice.ensures.value)
    c.in_ok-text.ensures.all (c.replay-2.ensures.front is)
