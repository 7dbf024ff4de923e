-- `Clients::abandon_request` does what the rule of its command says.
use Rattle.std.proofs.Common.{rules, sym, ◌∙◌}
use Rattle.sip_clients.proofs.Abandons.{request_same}
use Rattle.sip_clients.proofs.clients.Clients.abandon_request.Goals as goal

pub returns-clause-taken : goal.returns-clause-taken
returns-clause-taken c =
    search rules
    ∙ sym (request_same c.args.event c.args.command.now record
    { dialogs = c.args.dialogs.now.entries; clients = c.args.self.now })
