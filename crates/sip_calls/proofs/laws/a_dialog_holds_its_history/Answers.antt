-- The law `a_dialog_holds_its_history`: a held dialog is what its history makes it; its name,
-- numbers, routes and target.
use Rattle.sip_calls.proofs.Histories.{counts_its_requests, has_its_name, has_the_greatest_number, has_the_latest_route, has_the_next_number, holds_its_history, numbers_its_requests}
use Rattle.sip_calls.proofs.laws.a_dialog_holds_its_history.Goals as goal

pub returns-clause-history : goal.returns-clause-history
returns-clause-history c = holds_its_history

pub returns-clause-local : goal.returns-clause-local
returns-clause-local c = counts_its_requests

pub returns-clause-remote : goal.returns-clause-remote
returns-clause-remote c = has_the_greatest_number

pub returns-clause-route : goal.returns-clause-route
returns-clause-route c = has_the_latest_route

pub returns-clause-numbers : goal.returns-clause-numbers
returns-clause-numbers c = numbers_its_requests

pub returns-clause-next : goal.returns-clause-next
returns-clause-next c = has_the_next_number

pub returns-clause-name : goal.returns-clause-name
returns-clause-name c = has_its_name
