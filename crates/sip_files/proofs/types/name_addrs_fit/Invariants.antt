-- The loop of `name_addrs_fit`: the addresses so far can be written.
use Rattle.std.proofs.Common.{take}
use Rattle.std.specs.List.{AllByRecursion}
use Rattle.sip_files.specs.Written.{IsAddressValue}
use Rattle.sip_files.proofs.types.name_addrs_fit.Given as goal

abbrev pub invariant-loop-address : goal.invariant-loop-address
invariant-loop-address l = AllByRecursion IsAddressValue (take l.address-index l.addresses)
