-- The loop of `vias_keep`: the Vias so far satisfy their rules.
use Rattle.std.proofs.Common.{take}
use Rattle.std.specs.List.{AllByRecursion}
use Rattle.sip_message.specs.Rules.{IsVia}
use Rattle.sip_reader.proofs.rules.vias_keep.Given as goal

abbrev pub invariant-loop-via : goal.invariant-loop-via
invariant-loop-via l = AllByRecursion IsVia (take l.via-index l.vias)
