-- `end_one_early`: the only dialog of the INVITE ends if it is early.
use Rattle.std.proofs.Common.{true, false, ap, rules, ◌∙◌}
use Rattle.sip_held_dialogs.proofs.Counts.{if_ok, one_ends}
use Rattle.sip_held_dialogs.proofs.dialogs.end_one_early.Goals as goal

pub returns-then-not-is_early_of : goal.returns-then-not-is_early_of
returns-then-not-is_early_of c =
    ap (λ outs. (c.args.dialogs.now.entries, outs)) c.new-then-not-is_early_of.ensures.items
    ∙ one_ends c.args.invite c.args.name.now c.args.dialogs.now.entries c.in-Some.held.now
    c.requires c.in-Some.ensures false (search rules)

pub returns : goal.returns
returns c =
    if_ok c.end.result _ _ c.end.ensures (λ outs is.
    is ∙ one_ends c.args.invite c.args.name.now c.args.dialogs.now.entries c.in-Some.held.now
    c.requires c.in-Some.ensures true (search rules))
