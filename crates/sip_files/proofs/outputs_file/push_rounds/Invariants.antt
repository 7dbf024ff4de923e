-- The loop of `push_rounds`: the rounds so far are written.
use Rattle.std.proofs.Common.{◌≡◌, ◌++◌, take}
use Rattle.sip_files.specs.Outputs.{rounds_text, told}
use Rattle.sip_files.proofs.outputs_file.push_rounds.Given as goal

abbrev pub invariant-loop-moment : goal.invariant-loop-moment
invariant-loop-moment l =
    l.file.items ≡ l.fn.file.items ++ rounds_text (told (take l.moment-index l.rounds))
