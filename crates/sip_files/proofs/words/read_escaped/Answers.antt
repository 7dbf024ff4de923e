-- `read_escaped` reads one byte after another, or finds one that isn't spelled.
use Rattle.std.proofs.Common.{◌≡◌, ◌<◌, length, arith}
use Rattle.std.proofs.lemmas.Bool.Decides.{nat_tests}
use Rattle.sip_files.specs.Steps.Form.{itself_in}
use Rattle.sip_files.proofs.Escapes.{form_sound, stops, goes_on, ends}
use Rattle.sip_files.proofs.words.read_escaped.Goals as goal

pub returns-in_default : goal.returns-in_default
returns-in_default c =
    let some : 0 < length c.loop-left.left.now = grind (arith, nat_tests) in
    stops (itself_in c.args.form) c.loop-left.bytes.items c.loop-left.left.now _
    (form_sound c.args.form) some c.in_default.ensures.read c.loop-left.invariant

pub loop-left-preserved : goal.loop-left-preserved
loop-left-preserved c =
    let some : 0 < length c.loop-left.left.now = grind (arith, nat_tests) in
    rw c.in_ok-push.ensures.items (goes_on
    (itself_in c.args.form) c.loop-left.bytes.items c.loop-left.left.now c.in-Some.byte
    c.in-Some.after.now _ (form_sound c.args.form) some c.in-Some.ensures.read
    c.loop-left.invariant)

pub returns : goal.returns
returns c =
    let none : length c.loop-left.left.now ≡ 0 = grind (arith, nat_tests) in
    rw c.from_vec.ensures (ends (itself_in c.args.form) c.loop-left.bytes.items c.loop-left.left.now
    _ none c.loop-left.invariant)
