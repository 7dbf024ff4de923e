-- The law `the_server_side_only_answers`: the server side gives notices and responses.
use Rattle.sip_agent_laws.proofs.calls.ServerOuts.{items_only_answer, ticks_only_answer}
use Rattle.sip_agent_laws.proofs.calls.the_server_side_only_answers.Goals as goal

pub returns-clause-items : goal.returns-clause-items
returns-clause-items c = items_only_answer

pub returns-clause-ticks : goal.returns-clause-ticks
returns-clause-ticks c = ticks_only_answer
