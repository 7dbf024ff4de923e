-- `ask` leaves the moments of removal.
use Rattle.std.proofs.Common.{ap, refl, sym, rules, ◌∙◌}
use Rattle.sip_clients.proofs.Removals.{kept_removal}
use Rattle.sip_clients.proofs.client_map.ClientMap.ask.Goals as goal

pub invariant_of-self-2 : goal.invariant_of-self-2
invariant_of-self-2 c =
    c.self.invariant
    ∙ sym (kept_removal c.args.id c.in-Some.invite.now c.ask_in.new.invite
    c.self.inside.all.entries (sym c.in-Some.ensures.value) (search rules))

pub returns : goal.returns
returns c =
    rw (← c.self.view_is, ← c.in-Some.ensures.value, c.ask_in.ensures) refl
