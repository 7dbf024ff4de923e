-- `without`: what had no moment of removal wasn't the first.
use Rattle.std.proofs.Common.{ap, sym, rules, ◌∙◌}
use Rattle.ordered_map.specs.OrderedMap.{Ordered}
use Rattle.sip_message.specs.declared.id.Id.{Id}
use Rattle.sip_clients.specs.declared.client.Client.{Client}
use Rattle.sip_clients.specs.Client.{client_at, without_client}
use Rattle.sip_clients.specs.Tick.{next_removal}
use Rattle.sip_clients.proofs.Removals.{left_removal}
use Rattle.sip_clients.proofs.client_map.ClientMap.without.Goals as goal

pub invariant_of-result : goal.invariant_of-result
invariant_of-result c =
    c.self.invariant
    ∙ sym (left_removal c.args.id c.self.inside.all.entries c.remove-client.result
    (sym c.remove-client.ensures.value) (search rules))
    ∙ ap next_removal (sym c.remove-client.ensures.entries)

pub returns-then-has_removal-clause-clients : goal.returns-then-has_removal-clause-clients
returns-then-has_removal-clause-clients c =
    c.in_ok-left.ensures ∙ c.in_ok-into_list.ensures ∙ c.remove-client.ensures.entries
    ∙ ap (λ (all : Ordered Id Client). without_client c.args.id all.entries) c.self.view_is

pub returns-then-has_removal-clause-client : goal.returns-then-has_removal-clause-client
returns-then-has_removal-clause-client c =
    c.remove-client.ensures.value
    ∙ ap (λ (all : Ordered Id Client). client_at c.args.id all.entries) c.self.view_is

pub returns-clause-client : goal.returns-clause-client
returns-clause-client c =
    c.remove-client.ensures.value
    ∙ ap (λ (all : Ordered Id Client). client_at c.args.id all.entries) c.self.view_is
