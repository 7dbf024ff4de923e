-- The loop of `push_lines`: the lines of the outputs so far are written.
use Rattle.std.proofs.Common.{◌≡◌, ◌++◌, take}
use Rattle.std.specs.List.{flat_map}
use Rattle.sip_files.specs.Outputs.{output_line}
use Rattle.sip_files.proofs.outputs_file.push_lines.Given as goal

abbrev pub invariant-loop-output : goal.invariant-loop-output
invariant-loop-output l =
    l.file.items ≡ l.fn.file.items ++ flat_map output_line (take l.output-index l.outputs)
