-- `Clients::response` does what the rule of a response says.
use Rattle.std.proofs.Common.{rules, sym, ◌∙◌}
use Rattle.sip_clients.proofs.RuleResponses.{response_same}
use Rattle.sip_clients.proofs.clients.Clients.response.Goals as goal

pub returns-clause-taken : goal.returns-clause-taken
returns-clause-taken c =
    search rules
    ∙ sym (response_same c.args.event c.args.id c.args.call_id c.args.response record
    { dialogs = c.args.dialogs.now.entries; clients = c.args.self.now })
