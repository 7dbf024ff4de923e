-- `read_lines` takes one line after another into a draft, or finds the line that can't follow.
use Rattle.std.proofs.Common.{◌≡◌, ◌<◌, length, ap, sym, ◌∙◌, arith}
use Rattle.std.proofs.lemmas.Bool.Decides.{nat_tests}
use Rattle.std.proofs.lemmas.List.{nil_from_length}
use Rattle.sip_files.proofs.ReadSoFar.{nothing_yet, one_further, without_end, no_such_line, not_there, ends_early, all_read}
use Rattle.sip_files.proofs.events_file.read_lines.Goals as goal

pub loop-left-init : goal.loop-left-init
loop-left-init c =
    rw c.new-progress.ensures (record {
      so_far = nothing_yet c.args.version c.args.text.now;
      few = omega arith;
    })

pub returns-in_default : goal.returns-in_default
returns-in_default c =
    let some : 0 < length c.loop-left.left.now = grind (arith, nat_tests) in
    without_end c.args.version c.loop-left.progress c.loop-left.number c.args.text.now
    c.loop-left.left.now c.loop-left.invariant.so_far (λ e. omega (arith, some, ap length e))
    c.in_default.ensures.parts

pub returns-in_default-2 : goal.returns-in_default-2
returns-in_default-2 c =
    let some : 0 < length c.loop-left.left.now = grind (arith, nat_tests) in
    no_such_line c.args.version c.loop-left.progress c.loop-left.number c.args.text.now
    c.loop-left.left.now c.loop-left.invariant.so_far c.in-Some.line.now c.in-Some.after.now
    (λ e. omega (arith, some, ap length e)) c.in-Some.ensures.parts
    (rw c.in_default-2.is at c.in_ok-line.ensures)

pub returns-in_default-3 : goal.returns-in_default-3
returns-in_default-3 c =
    let some : 0 < length c.loop-left.left.now = grind (arith, nat_tests) in
    not_there c.args.version c.loop-left.progress c.loop-left.number c.args.text.now
    c.loop-left.left.now c.loop-left.invariant.so_far c.in-Some.line.now c.in-Some.after.now
    c.in-Some-2.line (λ e. omega (arith, some, ap length e)) c.in-Some.ensures.parts
    (rw c.in-Some-2.is at c.in_ok-line.ensures) (rw c.in_default-3.is at c.in_ok-next.ensures)

pub loop-left-preserved : goal.loop-left-preserved
loop-left-preserved c = record {
  so_far = one_further c.args.version c.loop-left.progress c.loop-left.number c.args.text.now
      c.loop-left.left.now c.loop-left.invariant.so_far c.in-Some-3.next c.in-Some.line.now
      c.in-Some.after.now c.in-Some-2.line c.in-Some.ensures.parts
      (rw c.in-Some-2.is at c.in_ok-line.ensures) (rw c.in-Some-3.is at c.in_ok-next.ensures);
  few = omega (arith, c.in-Some.ensures.length);
}

pub returns-then-not-is_whole : goal.returns-then-not-is_whole
returns-then-not-is_whole c =
    let none : length c.loop-left.left.now ≡ 0 = grind (arith, nat_tests) in
    ends_early c.args.version c.loop-left.progress c.loop-left.number c.args.text.now
    c.loop-left.left.now c.loop-left.invariant.so_far (nil_from_length c.loop-left.left.now none)
    (sym c.is_whole.ensures ∙ c.if-not-is_whole.true)

pub returns : goal.returns
returns c =
    let none : length c.loop-left.left.now ≡ 0 = grind (arith, nat_tests) in
    all_read c.args.version c.loop-left.progress c.loop-left.number c.args.text.now
    c.loop-left.left.now c.loop-left.invariant.so_far (nil_from_length c.loop-left.left.now none)
    (sym c.is_whole.ensures ∙ c.if-not-is_whole.false)
