-- The loop of `push_tokens`: the lines of the tokens so far are written.
use Rattle.std.proofs.Common.{◌≡◌, ◌++◌, take}
use Rattle.std.specs.List.{flat_map}
use Rattle.sip_files.specs.Written as written
use Rattle.sip_files.proofs.header_writer.push_tokens.Given as goal

abbrev pub invariant-loop-token : goal.invariant-loop-token
invariant-loop-token l =
    l.file.items ≡ l.fn.file.items
    ++ flat_map (written.header_line l.name) (take l.token-index l.tokens)
