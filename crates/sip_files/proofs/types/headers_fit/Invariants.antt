-- The loop of `headers_fit`: the headers so far can be written.
use Rattle.std.proofs.Common.{take}
use Rattle.std.specs.List.{AllByRecursion}
use Rattle.sip_files.specs.Written.{IsKeptHeader}
use Rattle.sip_files.proofs.types.headers_fit.Given as goal

abbrev pub invariant-loop-header : goal.invariant-loop-header
invariant-loop-header l = AllByRecursion IsKeptHeader (take l.header-index l.headers)
