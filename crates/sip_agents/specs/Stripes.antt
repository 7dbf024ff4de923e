-- The numbers of the rounds of several agents: each agent has 2^58 of its own.
use Rattle.std.specs.Prelude.{ℕ, ◌+◌, ◌*◌, ◌/◌, ◌^◌}
use Rattle.sip_message.specs.declared.id.Id.{Id}
use Rattle.sip_round.specs.declared.config.Config.{Config}

-- the configuration of the agent with this number
abbrev pub config_of : Config → ℕ → Config
config_of config number = record config { first = config.first + number * 2 ^ 58 }

-- the agent that gave an event this id
abbrev pub agent_of_id : Id → ℕ
agent_of_id id = id.round / 2 ^ 58
