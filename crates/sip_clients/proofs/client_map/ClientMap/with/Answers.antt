-- `with`: a new request may be the first that is removed.
use Rattle.std.proofs.Common.{ap, sym, rules, ◌∙◌}
use Rattle.ordered_map.specs.OrderedMap.{Ordered}
use Rattle.sip_message.specs.declared.id.Id.{Id}
use Rattle.sip_timers.specs.Earlier.{earlier}
use Rattle.sip_clients.specs.declared.client.Client.{Client}
use Rattle.sip_clients.specs.Client.{with_client}
use Rattle.sip_clients.specs.Tick.{next_removal}
use Rattle.sip_clients.proofs.Removals.{new_removal}
use Rattle.sip_clients.proofs.Results.{if_ok}
use Rattle.sip_clients.proofs.client_map.ClientMap.with.Goals as goal

pub invariant_of-result : goal.invariant_of-result
invariant_of-result c =
    c.earlier.ensures ∙ ap (λ due. earlier due c.args.client.removal) c.self.invariant
    ∙ sym (new_removal c.args.id c.args.client c.self.inside.all.entries (search rules))
    ∙ ap next_removal (sym c.in_ok-insert.ensures)

pub returns-then-is_new : goal.returns-then-is_new
returns-then-is_new c =
    c.in_ok-insert.ensures
    ∙ ap (λ (all : Ordered Id Client). with_client c.args.id c.args.client all.entries)
    c.self.view_is

pub returns-in_ok-into_list : goal.returns-in_ok-into_list
returns-in_ok-into_list c =
    if_ok c.of_list.result _ _ c.of_list.ensures (λ clients is.
    is ∙ c.in_ok-into_list.ensures ∙ c.in_ok-insert.ensures
    ∙ ap (λ (all : Ordered Id Client). with_client c.args.id c.args.client all.entries)
    c.self.view_is)
