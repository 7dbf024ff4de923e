-- The loop of `retransmit_provisionals`: of the responses seen so far, those with these numbers.
use Rattle.std.proofs.Common.{◌≡◌, ◌++◌, map, take}
use Rattle.sip_transactions.specs.declared.input.Command.TheVariants.{Answer}
use Rattle.sip_user.specs.declared.item.CallOut.TheVariants.{Command}
use Rattle.sip_served.specs.Provisionals.{of_numbers}
use Rattle.sip_served.proofs.retransmissions.retransmit_provisionals.Given as goal

abbrev pub invariant-loop-one : goal.invariant-loop-one
invariant-loop-one l = l.outs.items ≡ l.initial.outs.items
    ++ map (λ one. Command l.held.id (Answer l.held.key one.response))
    (of_numbers l.numbers (take l.one-index l.one-items))
