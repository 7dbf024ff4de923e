-- `Clients::plain` does what the rule of the command Plain says.
use Rattle.std.proofs.Common.{rules, sym, ◌∙◌}
use Rattle.sip_clients.proofs.RuleRequests.{plain_same}
use Rattle.sip_clients.proofs.clients.Clients.plain.Goals as goal

pub returns-clause-taken : goal.returns-clause-taken
returns-clause-taken c =
    search rules
    ∙ sym (plain_same c.args.event c.args.plain.now c.args.self.now)
