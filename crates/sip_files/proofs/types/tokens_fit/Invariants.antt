-- The loop of `tokens_fit`: the tokens so far can be written.
use Rattle.std.proofs.Common.{take}
use Rattle.std.specs.List.{AllByRecursion}
use Rattle.sip_files.specs.Written.{IsOptionTag}
use Rattle.sip_files.proofs.types.tokens_fit.Given as goal

abbrev pub invariant-loop-token : goal.invariant-loop-token
invariant-loop-token l = AllByRecursion IsOptionTag (take l.token-index l.tokens)
