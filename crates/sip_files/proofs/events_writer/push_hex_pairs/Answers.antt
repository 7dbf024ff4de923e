-- `push_hex_pairs` writes two digits for each byte.
use Rattle.std.proofs.lemmas.List.{take_more, take_all}
use Rattle.sip_files.specs.Word.{hex_pair}
use Rattle.sip_files.proofs.Pushed.{one_more}
use Rattle.sip_files.proofs.events_writer.push_hex_pairs.Goals as goal

pub loop-byte-preserved : goal.loop-byte-preserved
loop-byte-preserved c =
    let more = take_more c.args.bytes.now c.loop-byte.byte-index 0 c.loop-byte-test.true in
    one_more hex_pair _ _ _ _ _ _ more c.loop-byte.invariant c.in_ok-push_hex.ensures

pub returns : goal.returns
returns c = rw (take_all c.loop-byte.byte-index c.args.bytes.now c.loop-byte-test.false) at
    c.loop-byte.invariant
