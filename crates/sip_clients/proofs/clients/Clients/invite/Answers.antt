-- `Clients::invite` does what the rule of the command Invite says.
use Rattle.std.proofs.Common.{rules, sym, ◌∙◌}
use Rattle.sip_clients.proofs.RuleRequests.{invite_same}
use Rattle.sip_clients.proofs.clients.Clients.invite.Goals as goal

pub returns-clause-taken : goal.returns-clause-taken
returns-clause-taken c =
    search rules
    ∙ sym (invite_same c.args.event c.args.invite.now c.args.self.now)
