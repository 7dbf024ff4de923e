-- `agent_of_datagram` finds the first Call-ID.
use Rattle.std.proofs.Common.{ℕ, List, [], Option, Some, None, sym, ap, ◌∙◌}
use Rattle.std.specs.Option.{option_copied, option_map_or}
use Rattle.sip_headers.specs.HeaderLine.{class_from}
use Rattle.sip_headers.specs.Whole.{whole_now}
use Rattle.sip_headers.proofs.Folds.{is_empty_text, is_full_text}
use Rattle.sip_agents.specs.Destination.{agent_of, call_id_in}
use Rattle.sip_agents.specs.Steps.HeaderScan.{call_id_of, lines_behind}
use Rattle.sip_agents.proofs.CallIdLines.{first_value, head_ends, looked_at, none_left, passed_over}
use Rattle.sip_agents.proofs.call_id.agent_of_datagram.Goals as goal

-- the agent of a Call-ID, if there is one, otherwise the first
abbrev agent_by : (List ℕ → ℕ → ℕ) → ℕ → Option (List ℕ) → ℕ
agent_by shard_of agents call_id = option_map_or (agent_of shard_of agents) call_id 0

pub returns-in_default : goal.returns-in_default
unfolding call_id_in
returns-in_default g c =
    ap (agent_by (g.A.Cut.shard_of c.args.cut.now) c.args.agents)
    (ap first_value (ap (λ o. option_map_or lines_behind (option_copied o) []) (sym c.in_default.is)
    ∙ c.behind_first_line.ensures))

pub loop-line-init : goal.loop-line-init
unfolding call_id_in
loop-line-init g c =
    ap first_value (ap (λ o. option_map_or lines_behind (option_copied o) []) (sym c.in-Some.is)
    ∙ c.behind_first_line.ensures)

pub returns-then-is_empty : goal.returns-then-is_empty
returns-then-is_empty g c =
    ap (agent_by (g.A.Cut.shard_of c.args.cut.now) c.args.agents)
    (sym (head_ends c.loop-line.rest.now c.in-Some-next_line.line.now c.in-Some-next_line.after.now
    (sym c.in-Some-next_line.ensures.parts)
    (is_empty_text c.in-Some-next_line.line.now (sym c.is_empty.ensures ∙ c.if-is_empty.true)))
    ∙ c.loop-line.invariant)

pub returns-in-Some-call_id_of : goal.returns-in-Some-call_id_of
returns-in-Some-call_id_of g c =
    c.shard.ensures
    ∙ ap (agent_by (g.A.Cut.shard_of c.args.cut.now) c.args.agents)
    (sym (looked_at c.loop-line.rest.now c.in-Some-next_line.line.now
    c.in-Some-next_line.after.now (whole_now c.in_ok-whole.whole) _
    (Some c.in-Some-call_id_of.call_id.now) (sym c.in-Some-next_line.ensures.parts)
    (is_full_text c.in-Some-next_line.line.now (sym c.is_empty.ensures ∙ c.if-is_empty.false))
    (sym c.may_have_call_id.ensures ∙ c.if-may_have_call_id.true) c.in_ok-whole.ensures.lines
    (c.in-Some-call_id_of.ensures ∙ ap (λ l. call_id_of (class_from l)) c.as_slice.ensures))
    ∙ c.loop-line.invariant)

pub loop-line-preserved-in_default-call_id_of : goal.loop-line-preserved-in_default-call_id_of
loop-line-preserved-in_default-call_id_of g c =
    sym (looked_at c.loop-line.rest.now c.in-Some-next_line.line.now
    c.in-Some-next_line.after.now (whole_now c.in_ok-whole.whole) _ None
    (sym c.in-Some-next_line.ensures.parts)
    (is_full_text c.in-Some-next_line.line.now (sym c.is_empty.ensures ∙ c.if-is_empty.false))
    (sym c.may_have_call_id.ensures ∙ c.if-may_have_call_id.true) c.in_ok-whole.ensures.lines
    (c.in_default-call_id_of.ensures ∙ ap (λ l. call_id_of (class_from l)) c.as_slice.ensures))
    ∙ c.loop-line.invariant

pub loop-line-preserved : goal.loop-line-preserved
loop-line-preserved g c =
    sym (passed_over c.loop-line.rest.now c.in-Some-next_line.line.now
    c.in-Some-next_line.after.now (sym c.in-Some-next_line.ensures.parts)
    (is_full_text c.in-Some-next_line.line.now (sym c.is_empty.ensures ∙ c.if-is_empty.false))
    (sym c.may_have_call_id.ensures ∙ c.if-may_have_call_id.false))
    ∙ c.loop-line.invariant

pub returns : goal.returns
returns g c =
    ap (agent_by (g.A.Cut.shard_of c.args.cut.now) c.args.agents)
    (sym (none_left c.loop-line.rest.now (sym c.in_default-next_line.ensures.parts))
    ∙ c.loop-line.invariant)
