-- `whole_line`: the line with those that continue it is the first whole line.
use Rattle.std.proofs.Common.{sym, ◌∙◌, arith}
use Rattle.sip_headers.specs.Whole.{whole_now}
use Rattle.sip_headers.proofs.Folds.{goes_on, ends_here, ends_plain, ends_unended, lines_go_on, lines_end_here, lines_plain, lines_unended}
use Rattle.sip_headers.proofs.folding.whole_line.Goals as goal
use Rattle.sip_headers.proofs.folding.whole_line.Goals.{in-Some+then-not-begins_blank-2, in_default}

pub loop-more-preserved : goal.loop-more-preserved
loop-more-preserved c =
    record {
      same = rw c.in_ok-joined.ensures
          (goes_on (whole_now c.loop-more.whole) c.loop-more.rest.now c.in-Some.more.now
          c.in-Some.after.now _ (sym c.in-Some.ensures.parts)
          (sym c.begins_blank-in-Some.ensures ∙ c.if-not-begins_blank-2.false)
          c.loop-more.invariant.same);
      lines = rw c.in_ok-joined.ensures
          (lines_go_on (whole_now c.loop-more.whole) c.loop-more.rest.now c.in-Some.more.now
          c.in-Some.after.now _ (sym c.in-Some.ensures.parts)
          (sym c.begins_blank-in-Some.ensures ∙ c.if-not-begins_blank-2.false)
          c.loop-more.invariant.lines);
      shorter = omega (arith, c.in-Some.ensures.shorter);
    }

pub returns-then-not-begins_blank-clause-whole : goal.returns-then-not-begins_blank-clause-whole
returns-then-not-begins_blank-clause-whole c =
    ends_plain c.args.line.now c.args.text.now
    (sym c.begins_blank.ensures ∙ c.if-not-begins_blank.true)

pub returns-clause-whole : goal.returns-clause-whole
returns-clause-whole c =
    sym c.loop-more.invariant.same ∙ elim c.match-next_line.branch [
      | in-Some+then-not-begins_blank-2 w ↦ ends_here
          (whole_now c.loop-more.whole) c.loop-more.rest.now w.in-Some.more.now w.in-Some.after.now
          (sym w.in-Some.ensures.parts) (sym w.begins_blank-in-Some.ensures
          ∙ w.if-not-begins_blank-2.true)
      | in_default w ↦ ends_unended (whole_now c.loop-more.whole) c.loop-more.rest.now
          (sym w.in_default.ensures.parts)
    ]

pub returns-then-not-begins_blank-clause-lines : goal.returns-then-not-begins_blank-clause-lines
returns-then-not-begins_blank-clause-lines c =
    lines_plain c.args.line.now c.args.text.now
    (sym c.begins_blank.ensures ∙ c.if-not-begins_blank.true)

pub returns-clause-lines : goal.returns-clause-lines
returns-clause-lines c =
    sym c.loop-more.invariant.lines ∙ elim c.match-next_line.branch [
      | in-Some+then-not-begins_blank-2 w ↦ lines_end_here
          (whole_now c.loop-more.whole) c.loop-more.rest.now w.in-Some.more.now w.in-Some.after.now
          (sym w.in-Some.ensures.parts) (sym w.begins_blank-in-Some.ensures
          ∙ w.if-not-begins_blank-2.true)
      | in_default w ↦ lines_unended (whole_now c.loop-more.whole) c.loop-more.rest.now
          (sym w.in_default.ensures.parts)
    ]
