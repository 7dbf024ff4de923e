-- The law `phases_are_said_by_histories`, for one phase and for one key.
use Rattle.keyed_machine.specs.Machine.{tick_at}
use Rattle.keyed_machine.proofs.Rules.{said_by_a_key, said_by_histories}
use Rattle.keyed_machine.proofs.laws.phases_are_said_by_histories.Goals as goal

pub returns-clause-phase : goal.returns-clause-phase
returns-clause-phase g c =
    said_by_histories g.met.M.Key.Ord.total g.met.M.StateMachine.exact
    (g.M.StateMachine.machine c.args._machine.now) tick_at

pub returns-clause-key : goal.returns-clause-key
returns-clause-key g c =
    said_by_a_key g.met.M.Key.Ord.total g.met.M.StateMachine.exact
    (g.M.StateMachine.machine c.args._machine.now) tick_at
