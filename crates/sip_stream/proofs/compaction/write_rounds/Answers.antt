-- `write_rounds`: at each step what was read and what was written belong together.
use Rattle.std.proofs.Common.{arith, sym, ap, subst, ◌∙◌}
use Rattle.sip_files.specs.Counted.{Counts}
use Rattle.sip_stream.specs.Steps.{IsShortened}
use Rattle.sip_stream.proofs.Going.{counts_on}
use Rattle.sip_stream.proofs.Shorter.{IsEnd, ended, if_none, if_some, keeps, of_config, on_ok, skips}
use Rattle.sip_stream.proofs.compaction.write_rounds.Goals as goal
use Rattle.sip_stream.proofs.compaction.write_rounds.Goals.{then-number-first+in_ok-lines_of+in_ok-write, else-number-first}

pub returns-in_default-clause-shortens : goal.returns-in_default-clause-shortens
returns-in_default-clause-shortens g c =
    on_ok c.end.result c.end.ensures.ends (λ end input before start.
    ended (c.loop.invariant.0 input before start)
    (if_none _ c.in_ok-round.field-0 c.in_default.is c.in_ok-round.ensures.end)
    (subst (λ first. IsEnd c.args.first c.args.choice.now.last first c.loop.rounds.number)
    (ap (λ config. config.first) (c.config.ensures ∙ c.in_ok-round.ensures.config))
    (subst (IsEnd c.args.first c.args.choice.now.last c.config.result.first)
    c.number-number.ensures end)))

pub loop-preserved : goal.loop-preserved
loop-preserved g c =
    let next = c.in_ok-round.field-0 in
    let lines = if_some _ next c.in-Some.round c.in-Some.is c.in_ok-round.ensures.lines in
    let number = if_some _ next c.in-Some.round c.in-Some.is c.in_ok-round.ensures.number in
    let reads = counts_on _ _ _ 0 c.loop.invariant.1 c.in_ok-round.ensures.input in
    elim c.if-number-first.branch [
      | then-number-first+in_ok-lines_of+in_ok-write w ↦
          let kept = w.in_ok-lines_of.ensures in
          let same = sym w.writer-is in (
            λ input before start.
                subst (IsShortened _ _ _ _ _ _ _) (ap g.W.CountedWrite.contents same)
                (of_config _ _ _ _ _ _ _ _ _ c.in_ok-round.ensures.config
                (keeps (c.loop.invariant.0 input before start) _ _ lines.0 c.in-Some.round lines.1
                lines.2 number _ kept.0 _
                (omega (arith, c.number-number.ensures, w.if-number-first.true)) kept.1
                (λ end. kept.2 (c.number-number.ensures ∙ end))
                (w.deref.ensures.value ∙ kept.3) w.in_ok-write.ensures.all)),
            reads,
            subst
                (λ writer. Counts (g.W.CountedWrite.failures c.args.writer.now)
                (g.W.CountedWrite.failures writer) 0)
                same (counts_on _ _ _ 0 c.loop.invariant.2 w.in_ok-write.ensures.output),
          )
      | else-number-first w ↦
          let same = sym w.writer-is in (
            λ input before start.
                subst (IsShortened _ _ _ _ _ _ _) (ap g.W.CountedWrite.contents same)
                (of_config _ _ _ _ _ _ _ _ _ c.in_ok-round.ensures.config
                (skips (c.loop.invariant.0 input before start) _ _ lines.0 c.in-Some.round lines.1
                lines.2 number (omega (arith, c.number-number.ensures, w.if-number-first.false)))),
            reads,
            subst
                (λ writer. Counts (g.W.CountedWrite.failures c.args.writer.now)
                (g.W.CountedWrite.failures writer) 0)
                same c.loop.invariant.2,
          )
    ]
