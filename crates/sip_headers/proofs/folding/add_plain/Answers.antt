-- `add_plain`: it adds the same as the lines of the text, and the rest isn't longer than the text.
use Rattle.std.proofs.Common.{◌∙◌, arith}
use Rattle.sip_headers.specs.HeaderLine.{class_now}
use Rattle.sip_headers.proofs.PlainLines.{adds_line, line_shorter}
use Rattle.sip_headers.proofs.folding.add_plain.Goals as goal

pub loop-class-smaller : goal.loop-class-smaller
loop-class-smaller c = line_shorter c.loop-class.rest.now c.in-Some.after.now
    (class_now c.in-Some.class) c.in-Some.ensures

pub loop-class-preserved : goal.loop-class-preserved
loop-class-preserved c =
    let class = class_now c.in-Some.class in
    record {
      same = rw c.in_ok-add_class.ensures (adds_line c.loop-class.draft c.loop-class.rest.now
          c.in-Some.after.now class c.in-Some.ensures)
          ∙ c.loop-class.invariant.same;
      shorter = omega (
        arith,
        c.loop-class.invariant.shorter,
        line_shorter c.loop-class.rest.now c.in-Some.after.now class c.in-Some.ensures,
      );
    }

pub returns-clause-same : goal.returns-clause-same
returns-clause-same c = c.loop-class.invariant.same

pub returns-clause-shorter : goal.returns-clause-shorter
returns-clause-shorter c = c.loop-class.invariant.shorter
