-- `write_shorter`: before the first round nothing but the head is written.
use Rattle.std.proofs.Common.{arith, ap, ◌∙◌}
use Rattle.sip_files.specs.Written.{session_head_text}
use Rattle.sip_stream.specs.Steps.{from}
use Rattle.sip_stream.proofs.Shorter.{begun, on_ok}
use Rattle.sip_stream.proofs.compaction.write_shorter.Goals as goal

pub returns-clause-shortens : goal.returns-clause-shortens
returns-clause-shortens g c =
    let made = c.in_ok-rounds.ensures.head in
    on_ok c.write_rounds.result c.write_rounds.ensures.shortens (λ all.
    all _ _
    (begun c.max.result c.in_ok-choice.choice.last c.in_ok-rounds.rounds.config
    c.in_ok-rounds.rounds.number _ _ _ _ made.0 c.deref.result.now made.1 made.2
    c.in_ok-rounds.ensures.number
    (omega (arith, c.max.ensures, ap (λ config. config.first) c.config-head.ensures))
    (c.deref.ensures.value ∙ c.in_ok-write_file_head.ensures
    ∙ ap (λ config. session_head_text (from c.max.result config)) c.config-head.ensures)
    c.in_ok-write.ensures.all))
