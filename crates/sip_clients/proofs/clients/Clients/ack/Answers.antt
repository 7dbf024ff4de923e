-- `Clients::ack` does what the rule of the command Ack says.
use Rattle.std.proofs.Common.{rules, sym, ◌∙◌}
use Rattle.sip_clients.proofs.RuleRequests.{ack_same}
use Rattle.sip_clients.proofs.clients.Clients.ack.Goals as goal

pub returns-clause-taken : goal.returns-clause-taken
returns-clause-taken c =
    search rules
    ∙ sym (ack_same c.args.event c.args.command.now record
    { dialogs = c.args.dialogs.now.entries; clients = c.args.self.now })
