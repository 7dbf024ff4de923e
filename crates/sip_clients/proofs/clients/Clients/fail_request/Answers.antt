-- `Clients::fail_request` does what the rule of a lost request says.
use Rattle.std.proofs.Common.{rules, sym, ◌∙◌}
use Rattle.sip_clients.proofs.RuleEnds.{lost_same}
use Rattle.sip_clients.proofs.clients.Clients.fail_request.Goals as goal

pub returns-clause-taken : goal.returns-clause-taken
returns-clause-taken c =
    search rules
    ∙ sym (lost_same c.args.id c.args.timed_out record
    { dialogs = c.args.dialogs.now.entries; clients = c.args.self.now })
