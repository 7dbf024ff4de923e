-- Each map has the states of the other.
use Rattle.std.proofs.Common.{sym}
use Rattle.keyed_machine.proofs.SameStates.{among_same, same_by_both}
use Rattle.keyed_machine.proofs.same_states.hold_the_same.Goals as goal

pub returns-then-are_among : goal.returns-then-are_among
returns-then-are_among g c =
    let cmp = g.M.Key.Ord.cmp in
    let states = c.args.states.now.entries in
    let others = c.args.others.now.entries in
    let back = c.are_among-then-are_among.ensures in (
      (λ yes. same_by_both g.met.M.StateMachine.exact states others
          (c.are_among.ensures.among.0 c.if-are_among.true) (back.among.0 yes)),
      λ same. back.among.1 (among_same cmp others states back.own (λ key. sym (same key))),
    )
