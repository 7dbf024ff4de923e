-- `note_ack` leaves the moments of removal.
use Rattle.std.proofs.Common.{ap, sym, ◌∙◌}
use Rattle.std.specs.Map.{set_value}
use Rattle.sip_held_dialogs.specs.Ids.{is_id}
use Rattle.sip_clients.proofs.Removals.{kept_removal}
use Rattle.sip_clients.proofs.Results.{on_ok}
use Rattle.sip_clients.proofs.client_map.ClientMap.note_ack.Goals as goal

pub invariant_of-self-2 : goal.invariant_of-self-2
invariant_of-self-2 c =
    c.self.invariant
    ∙ sym (kept_removal c.args.invite c.in-Some.client.now c.note_ack_in.new.client
    c.self.inside.all.entries (sym c.in-Some.ensures.value) c.note_ack_in.ensures.same_removal)

pub returns : goal.returns
returns c =
    rw (← c.self.view_is, ← c.in-Some.ensures.value)
    (on_ok c.note_ack_in.result _ _ c.note_ack_in.ensures.noted
    (ap (λ client. set_value (is_id c.args.invite) c.self.inside.all.entries client)))
