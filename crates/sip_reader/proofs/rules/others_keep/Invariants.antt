-- The loop of `others_keep`: the headers so far satisfy their rules.
use Rattle.std.proofs.Common.{take}
use Rattle.std.specs.List.{AllByRecursion}
use Rattle.sip_message.specs.Rules.{IsOtherHeader}
use Rattle.sip_reader.proofs.rules.others_keep.Given as goal

abbrev pub invariant-loop-other : goal.invariant-loop-other
invariant-loop-other l = AllByRecursion IsOtherHeader (take l.other-index l.others)
