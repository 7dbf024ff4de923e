-- The law `each_command_is_answered`: each command is refused, or gives what it asks for.
use Rattle.sip_agent_laws.proofs.calls.Commanded.{each_command_is_answered}
use Rattle.sip_agent_laws.proofs.calls.each_command_is_answered.Goals as goal

pub returns : goal.returns
returns c = each_command_is_answered
