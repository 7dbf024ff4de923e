-- `ServerSide::respond`: an answer that isn't refused is given to the request of its id.
use Rattle.std.proofs.Common.{◌≡◌, sym, ap, ◌∙◌}
use Rattle.std.specs.Prelude.{None, Some, find}
use Rattle.std.specs.Option.{option_copied, option_map_or}
use Rattle.sip_served.specs.Respond.{answer_given, refusal_for}
use Rattle.sip_served.specs.Rules.Responses.{respond_command}
use Rattle.sip_served.specs.State.{State, has_id, quiet}
use Rattle.sip_served.proofs.Changes.{given, ok_mapped}
use Rattle.sip_served.proofs.ResponseRules.{respond_same}
use Rattle.sip_served.proofs.server_side.ServerSide.respond.Goals as goal

pub returns-in-None : goal.returns-in-None
returns-in-None c =
    let state = c.args.self.now in
    let respond = c.args.respond in
    let held = c.in-Some.held.now in
    let found : find (has_id respond.id) state.requests ≡ Some held =
    ap (λ (s : State). find (has_id respond.id) s.requests) (sym c.self.view_is)
    ∙ sym c.get.ensures ∙ ap option_copied c.in-Some.is in
    let unrefused : refusal_for state.dialogs respond held ≡ None =
    ap (λ (s : State). refusal_for s.dialogs respond held) (sym c.self.view_is)
    ∙ sym c.in-None.ensures.first in
    ok_mapped
    (λ outs. (c.give.new.self, outs.items)
    ≡ option_map_or (answer_given state c.args.event respond c.args.now)
    (find (has_id respond.id) state.requests) (quiet state))
    (λ outs. (c.give.new.self, outs.items)
    ≡ respond_command state c.args.event respond c.args.now)
    c.give.result
    (λ outs gave. gave
    ∙ ap (λ o. option_map_or (answer_given state c.args.event respond c.args.now) o (quiet state))
    found
    ∙ given state c.args.event respond c.args.now held found unrefused
    ∙ sym (respond_same state c.args.event respond c.args.now))
    c.give.ensures
