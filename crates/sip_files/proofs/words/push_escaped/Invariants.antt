-- The loop of `push_escaped`: the bytes so far are written.
use Rattle.std.proofs.Common.{◌≡◌, ◌++◌, take}
use Rattle.sip_files.specs.Word as word
use Rattle.sip_files.specs.Steps.Form.{itself_in}
use Rattle.sip_files.proofs.words.push_escaped.Given as goal

-- the bytes so far are spelled
abbrev pub invariant-loop-byte : goal.invariant-loop-byte
invariant-loop-byte l = l.line.items ≡ l.fn.line.items
    ++ word.spelled_bytes (itself_in l.form) (take l.byte-index l.text)
