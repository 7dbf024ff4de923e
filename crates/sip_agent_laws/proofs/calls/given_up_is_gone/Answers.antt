-- The law `given_up_is_gone`: what is given up is gone, and nothing is added.
use Rattle.std.proofs.Common.{◌≡◌, false, sym, ap, ◌∙◌, subst}
use Rattle.std.specs.Prelude.{None, Some}
use Rattle.sip_user.specs.declared.item.Item.TheVariants.{User}
use Rattle.sip_calls.specs.Call.{call_step}
use Rattle.sip_calls.specs.Histories.{call_from}
use Rattle.sip_round.specs.Answers.{calls_of, past_of}
use Rattle.sip_round.proofs.RequestsDiffer.{requests_differ}
use Rattle.sip_agent_laws.specs.Calls.Waiting.{NothingWaits, waits}
use Rattle.sip_agent_laws.proofs.agents.LinkedRounds.{given_to}
use Rattle.sip_agent_laws.proofs.calls.AtRest.{from_both}
use Rattle.sip_agent_laws.proofs.calls.Ended.{dialog_given_up, ending_ends, request_given_up, user_ends_all}
use Rattle.sip_agent_laws.proofs.calls.Waits.{ending_adds_nothing, others_add_nothing}
use Rattle.sip_agent_laws.proofs.calls.given_up_is_gone.Goals as goal
use Rattle.sip_agent_laws.proofs.histories.CallsAfter.{same_call}

pub returns-clause-request : goal.returns-clause-request
returns-clause-request c = request_given_up

pub returns-clause-dialog : goal.returns-clause-dialog
returns-clause-dialog c = dialog_given_up

pub returns-clause-others : goal.returns-clause-others
returns-clause-others c = others_add_nothing

pub returns-clause-ending : goal.returns-clause-ending
returns-clause-ending c = ending_adds_nothing

pub returns-clause-ends : goal.returns-clause-ends
returns-clause-ends c = λ config rounds call_id event command now one ends.
    let calls = calls_of config in
    let inputs = given_to (past_of config rounds).calls call_id in
    subst (λ call. waits one (call_step calls call (Some (event, User command)) now).0 ≡ false)
    (same_call calls call_id None inputs)
    (ending_ends calls inputs (requests_differ config call_id rounds) event command now one ends)

pub returns-clause-all : goal.returns-clause-all
returns-clause-all c = λ config rounds call_id commands each all.
    let calls = calls_of config in
    let inputs = given_to (past_of config rounds).calls call_id in
    let held = same_call calls call_id None inputs in
    subst NothingWaits
    (from_both calls inputs commands None ∙ ap (λ call. call_from calls call commands) held)
    (user_ends_all calls inputs commands (requests_differ config call_id rounds) each
    (λ one is. all one (sym (ap (waits one) held) ∙ is)))
