-- The law `laws_of_phases`: each key is alone in its outputs, shards work apart, and outputs are
-- sorted.
use Rattle.keyed_machine.specs.Machine.{tick_at}
use Rattle.keyed_machine.proofs.Alone.{in_order, said_alone}
use Rattle.keyed_machine.proofs.Apart.{owned_states, works_apart}
use Rattle.keyed_machine.proofs.Shards.{tell_all}
use Rattle.keyed_machine.proofs.laws.laws_of_phases.Goals as goal

pub returns-clause-each_key_alone : goal.returns-clause-each_key_alone
returns-clause-each_key_alone g c = λ before phases key.
    said_alone g.met.M.Key.Ord.total g.met.M.StateMachine.exact
    (g.M.StateMachine.machine c.args._machine.now) g.M.StateMachine.due
    tick_at
    (g.met.M.StateMachine.idle c.args._machine.now) key before phases

pub returns-clause-shards_work_apart : goal.returns-clause-shards_work_apart
returns-clause-shards_work_apart g c =
    works_apart g.met.M.Key.Ord.total g.met.M.StateMachine.exact
    (g.M.StateMachine.machine c.args._machine.now) g.M.StateMachine.due
    tick_at
    (g.met.M.StateMachine.idle c.args._machine.now)

pub returns-clause-told_in_order : goal.returns-clause-told_in_order
returns-clause-told_in_order g c =
    in_order g.met.M.Key.Ord.total g.met.M.StateMachine.exact
    (g.M.StateMachine.machine c.args._machine.now) g.M.StateMachine.due
    tick_at
    (g.met.M.StateMachine.idle c.args._machine.now)

pub returns-clause-shards_tell_all : goal.returns-clause-shards_tell_all
returns-clause-shards_tell_all g c = λ owner phases phase all.
    tell_all g.met.M.Key.Ord.total g.met.M.StateMachine.exact
    (g.M.StateMachine.machine c.args._machine.now) g.M.StateMachine.due
    tick_at
    (g.met.M.StateMachine.idle c.args._machine.now) owner phase all phases

pub returns-clause-shards_hold_apart : goal.returns-clause-shards_hold_apart
returns-clause-shards_hold_apart g c =
    owned_states g.met.M.Key.Ord.total g.met.M.StateMachine.exact
    (g.M.StateMachine.machine c.args._machine.now) g.M.StateMachine.due
    tick_at
    (g.met.M.StateMachine.idle c.args._machine.now)
