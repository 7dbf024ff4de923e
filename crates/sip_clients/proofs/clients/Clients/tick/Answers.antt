-- `Clients::tick` does what the rule of a tick says; where no INVITE is over, that is nothing.
use Rattle.std.proofs.Common.{◌≡◌, false, rules, ap, sym, ◌∙◌}
use Rattle.std.specs.List.{list_any}
use Rattle.std.specs.Map.{values_of}
use Rattle.sip_clients.proofs.QuietBeforeDue.{clients_quiet}
use Rattle.sip_clients.proofs.RuleEnds.{tick_same}
use Rattle.sip_clients.proofs.clients.Clients.tick.Goals as goal
use Rattle.sip_clients.specs.Client.{Side}
use Rattle.sip_clients.specs.Tick.{is_over}

pub returns-then-not-is_any_over-clause-taken : goal.returns-then-not-is_any_over-clause-taken
returns-then-not-is_any_over-clause-taken c =
    let side : Side = record {
      dialogs = c.args.dialogs.now.entries;
      clients = c.args.self.now;
    } in
    let calm : list_any (is_over c.args.now) (values_of c.args.self.now) ≡ false = search rules in
    ap (λ outs. (side, outs)) c.new.ensures.items
    ∙ sym (clients_quiet side c.args.now calm)
    ∙ sym (tick_same side c.args.now)

pub returns-clause-taken : goal.returns-clause-taken
returns-clause-taken c =
    search rules
    ∙ sym (tick_same record { dialogs = c.args.dialogs.now.entries; clients = c.args.self.now }
    c.args.now)
