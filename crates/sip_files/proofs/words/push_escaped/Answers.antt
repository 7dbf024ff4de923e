-- `push_escaped` writes each byte as itself or as its escape.
use Rattle.std.proofs.lemmas.List.{take_more, take_all}
use Rattle.sip_files.specs.Steps.Form.{itself_in}
use Rattle.sip_files.specs.Word.{spelled_byte}
use Rattle.sip_files.proofs.Pushed.{one_more}
use Rattle.sip_files.proofs.words.push_escaped.Goals as goal

pub loop-byte-preserved : goal.loop-byte-preserved
loop-byte-preserved c =
    let more = take_more c.args.text.now c.loop-byte.byte-index 0 c.loop-byte-test.true in
    one_more (spelled_byte (itself_in c.args.form)) _ _ _ _ _ _ more c.loop-byte.invariant
    c.in_ok-push_byte.ensures

pub returns : goal.returns
returns c = rw (take_all c.loop-byte.byte-index c.args.text.now c.loop-byte-test.false) at
    c.loop-byte.invariant
