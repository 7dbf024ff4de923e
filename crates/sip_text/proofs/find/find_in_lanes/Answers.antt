-- `find_in_lanes`: the lowest bit set is the first place of either byte among the sixteen.
use Rattle.std.proofs.Common.{sym, ◌∙◌, arith}
use Rattle.std.proofs.lemmas.Simd.{length-chunk}
use Rattle.memchr.specs.Find.{is_byte2}
use Rattle.sip_text.proofs.Lanes.{first_marked, marks_are, none_marked}
use Rattle.sip_text.proofs.find.find_in_lanes.Goals as goal
use lib.Lanes.{chunk}

pub returns-then-marks-eq0 : goal.returns-then-marks-eq0
returns-then-marks-eq0 c =
    let text = c.args.text.now in
    let bytes = chunk c.args.place 16 text in
    let long = length-chunk c.args.place 16 text c.requires in
    none_marked (is_byte2 c.args.one c.args.other) text c.args.place 16 c.requires
    (sym (marks_are c.args.one c.args.other bytes long) ∙ c.if-marks-eq0.true)

pub returns : goal.returns
returns c =
    let text = c.args.text.now in
    let bytes = chunk c.args.place 16 text in
    let long = length-chunk c.args.place 16 text c.requires in
    first_marked (is_byte2 c.args.one c.args.other) text c.args.place 16 _ c.requires (omega arith)
    (marks_are c.args.one c.args.other bytes long) c.if-marks-eq0.false
