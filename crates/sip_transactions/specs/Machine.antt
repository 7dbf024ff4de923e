-- The machine of all transactions: each key's state is its life.
use Rattle.std.specs.Prelude.{ℕ, Option}
use Rattle.sip_message.specs.declared.key.Key.{Key}
use Rattle.sip_timers.specs.Earlier.{earlier}
use Rattle.sip_transactions.specs.declared.input.Input.{Input}
use Rattle.sip_transactions.specs.declared.life.Life.{Life}
use Rattle.sip_transactions.specs.declared.output.Out.{Out}
use Rattle.sip_transactions.specs.Rules.Step.{step_at}
use Rattle.keyed_machine.specs.Machine.{Machine, Timed}

-- one transaction: each input leads from a life to the next
abbrev pub transaction_machine : Machine Key Life (Timed Input) Out
transaction_machine = record { step = λ key held timed. step_at key held timed.moment timed.input }

-- ---- for steps and laws: `run` needs nothing of what follows

-- the moment at which the next timer of a life fires
abbrev pub life_due : Life → Option ℕ
life_due life = earlier life.context.timers.ending life.context.timers.repeat
