-- `replied`: the moment of removal of one request may change.
use Rattle.std.proofs.Common.{ap, refl, sym, rules, ◌∙◌}
use Rattle.std.specs.Map.{set_value}
use Rattle.ordered_map.specs.OrderedMap.{Ordered}
use Rattle.sip_message.specs.declared.id.Id.{Id}
use Rattle.sip_timers.specs.Earlier.{earlier}
use Rattle.sip_held_dialogs.specs.Ids.{is_id}
use Rattle.sip_held_dialogs.specs.Requests.{is_final}
use Rattle.sip_clients.specs.Cancel.{after_response, cancel_freed}
use Rattle.sip_clients.specs.Replied.{reply_taken}
use Rattle.sip_clients.specs.declared.client.Client.{Client}
use Rattle.sip_clients.proofs.Removals.{kept_removal, same_client, set_removal}
use Rattle.sip_clients.proofs.client_map.ClientMap.replied.Goals as goal

pub invariant_of-result-then-is_none : goal.invariant_of-result-then-is_none
invariant_of-result-then-is_none c =
    c.earlier-due.ensures
    ∙ ap (λ due. earlier due c.reply_to.new.client.removal) c.self.invariant
    ∙ sym (set_removal c.args.reply.now.id c.in-Some.client.now c.reply_to.new.client
    c.self.inside.all.entries (sym c.in-Some.ensures.value) (search rules))

pub invariant_of-result-then-eq : goal.invariant_of-result-then-eq
invariant_of-result-then-eq c =
    c.self.invariant
    ∙ sym (kept_removal c.args.reply.now.id c.in-Some.client.now c.reply_to.new.client
    c.self.inside.all.entries (sym c.in-Some.ensures.value) (search rules))

pub returns-then-is_none-clause-told : goal.returns-then-is_none-clause-told
returns-then-is_none-clause-told c = λ client held.
    let same = same_client c.args.reply.now.id c.self.inside.all c.args.self c.in-Some.client.now
    client c.self.view_is c.in-Some.ensures.value held in (
      c.reply_to.new.client,
      ap (λ (all : Ordered Id Client).
          set_value (is_id c.args.reply.now.id) all.entries c.reply_to.new.client) c.self.view_is,
      c.in_ok-told.ensures.told
          ∙ ap (λ client. reply_taken (after_response (is_final c.args.reply.now.status) client)
          c.args.dialogs.now.entries c.args.reply.now) same,
    )

pub returns-then-is_none-clause-cancel : goal.returns-then-is_none-clause-cancel
returns-then-is_none-clause-cancel c = λ client held.
    let same = same_client c.args.reply.now.id c.self.inside.all c.args.self c.in-Some.client.now
    client c.self.view_is c.in-Some.ensures.value held in
    c.in_ok-told.ensures.cancel ∙ ap (cancel_freed (is_final c.args.reply.now.status)) same

pub returns-then-eq-clause-told : goal.returns-then-eq-clause-told
returns-then-eq-clause-told c = λ client held.
    let same = same_client c.args.reply.now.id c.self.inside.all c.args.self c.in-Some.client.now
    client c.self.view_is c.in-Some.ensures.value held in (
      c.reply_to.new.client,
      ap (λ (all : Ordered Id Client).
          set_value (is_id c.args.reply.now.id) all.entries c.reply_to.new.client) c.self.view_is,
      c.in_ok-told.ensures.told
          ∙ ap (λ client. reply_taken (after_response (is_final c.args.reply.now.status) client)
          c.args.dialogs.now.entries c.args.reply.now) same,
    )

pub returns-then-eq-clause-cancel : goal.returns-then-eq-clause-cancel
returns-then-eq-clause-cancel c = λ client held.
    let same = same_client c.args.reply.now.id c.self.inside.all c.args.self c.in-Some.client.now
    client c.self.view_is c.in-Some.ensures.value held in
    c.in_ok-told.ensures.cancel ∙ ap (cancel_freed (is_final c.args.reply.now.status)) same

pub returns-clause-told : goal.returns-clause-told
returns-clause-told c = λ client held.
    let same = same_client c.args.reply.now.id c.self.inside.all c.args.self c.in-Some.client.now
    client c.self.view_is c.in-Some.ensures.value held in (
      c.reply_to.new.client,
      c.in_ok-of_list.ensures ∙ c.in_ok-into_list.ensures
          ∙ ap (λ (all : Ordered Id Client).
          set_value (is_id c.args.reply.now.id) all.entries c.reply_to.new.client) c.self.view_is,
      c.in_ok-told.ensures.told
          ∙ ap (λ client. reply_taken (after_response (is_final c.args.reply.now.status) client)
          c.args.dialogs.now.entries c.args.reply.now) same,
    )

pub returns-clause-cancel : goal.returns-clause-cancel
returns-clause-cancel c = λ client held.
    let same = same_client c.args.reply.now.id c.self.inside.all c.args.self c.in-Some.client.now
    client c.self.view_is c.in-Some.ensures.value held in
    c.in_ok-told.ensures.cancel ∙ ap (cancel_freed (is_final c.args.reply.now.status)) same
