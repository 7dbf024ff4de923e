-- The loop of `due_numbers`: the numbers so far are those of the due responses seen so far.
use Rattle.std.proofs.Common.{◌≡◌, take}
use Rattle.sip_reliable.specs.Ledger.{due_numbers}
use Rattle.sip_reliable.proofs.waiting.due_numbers.Given as goal

abbrev pub invariant-loop-one : goal.invariant-loop-one
invariant-loop-one l = l.numbers.items ≡ due_numbers l.now (take l.one-index l.waiting)
