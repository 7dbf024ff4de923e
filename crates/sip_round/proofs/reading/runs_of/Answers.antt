-- `runs_of`: each turn of the loop adds one more run of events.
use Rattle.std.proofs.Common.{length, refl, sym, ap, subst, ◌∙◌, arith, rules, length-append}
use Rattle.std.specs.Slice.Iter.{chunks_rest}
use Rattle.sip_workers.specs.Ran.{IsNumbered}
use Rattle.sip_workers.proofs.Gathers.{numbered_more}
use Rattle.sip_round.specs.Steps.EventRuns.{arrivals_of_run}
use Rattle.sip_round.proofs.EventRuns.{run_more}
use Rattle.sip_round.proofs.reading.runs_of.Goals as goal

pub loop-run-preserved : goal.loop-run-preserved
loop-run-preserved c =
    let run = c.in-Some.run'.now in
    let rest = chunks_rest c.next.new.self in
    let steps = c.in-Some.ensures.steps in
    let lengths = ap length steps.1.0 ∙ length-append run rest in (
      search rules,
      tt,
      omega (arith, lengths, c.loop-run.invariant.2),
      subst IsNumbered (sym c.in_ok-push.ensures.items)
          (numbered_more c.loop-run.runs.items _ c.loop-run.invariant.3
          (omega (arith, c.len-shard.ensures, c.loop-run.runs.ok))),
      run_more (λ run. arrivals_of_run run.job) c.args.local c.args.round c.loop-run.before
          c.loop-run.runs.items c.push.new.self.items _ run _ rest _ c.in_ok-push.ensures.items refl
          steps.1.0 c.loop-run.invariant.4,
    )
