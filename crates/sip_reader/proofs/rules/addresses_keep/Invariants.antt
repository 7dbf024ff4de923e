-- The loop of `addresses_keep`: the addresses so far satisfy their rules.
use Rattle.std.proofs.Common.{take}
use Rattle.std.specs.List.{AllByRecursion}
use Rattle.sip_message.specs.Rules.{IsNameAddr}
use Rattle.sip_reader.proofs.rules.addresses_keep.Given as goal

abbrev pub invariant-loop-address : goal.invariant-loop-address
invariant-loop-address l = AllByRecursion IsNameAddr (take l.address-index l.addresses)
