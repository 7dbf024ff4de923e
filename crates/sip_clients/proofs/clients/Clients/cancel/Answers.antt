-- `Clients::cancel` does what the rule of the command Cancel says.
use Rattle.std.proofs.Common.{rules, sym, ◌∙◌}
use Rattle.sip_clients.proofs.RuleRequests.{cancel_same}
use Rattle.sip_clients.proofs.clients.Clients.cancel.Goals as goal

pub returns-clause-taken : goal.returns-clause-taken
returns-clause-taken c dialogs =
    search rules
    ∙ sym (cancel_same c.args.event c.args.command.now
    record { dialogs = dialogs; clients = c.args.self.now })
