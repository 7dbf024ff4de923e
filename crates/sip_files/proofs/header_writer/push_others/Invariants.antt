-- The loop of `push_others`: the lines of the headers so far are written.
use Rattle.std.proofs.Common.{◌≡◌, ◌++◌, take}
use Rattle.std.specs.List.{flat_map}
use Rattle.sip_files.specs.Written as written
use Rattle.sip_files.proofs.header_writer.push_others.Given as goal

abbrev pub invariant-loop-header : goal.invariant-loop-header
invariant-loop-header l =
    l.file.items ≡ l.fn.file.items ++ flat_map written.other_line (take l.header-index l.headers)
