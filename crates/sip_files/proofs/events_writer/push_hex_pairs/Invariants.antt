-- The loop of `push_hex_pairs`: the digits of the bytes so far are written.
use Rattle.std.proofs.Common.{◌≡◌, ◌++◌, take}
use Rattle.std.specs.List.{flat_map}
use Rattle.sip_files.specs.Word.{hex_pair}
use Rattle.sip_files.proofs.events_writer.push_hex_pairs.Given as goal

abbrev pub invariant-loop-byte : goal.invariant-loop-byte
invariant-loop-byte l =
    l.file.items ≡ l.fn.file.items ++ flat_map hex_pair (take l.byte-index l.bytes)
