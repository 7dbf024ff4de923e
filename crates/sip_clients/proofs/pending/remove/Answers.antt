-- `remove` keeps all pending requests but this one.
use Rattle.std.proofs.Common.{not, rules}
use Rattle.std.proofs.lemmas.Fn.{filter_same}
use Rattle.sip_clients.specs.Pending.{is_same_pending}
use Rattle.sip_clients.proofs.pending.remove.Goals as goal

pub returns : goal.returns
returns c = filter_same _ (λ other. not (is_same_pending c.args.pending other)) _
    (λ x b f call. search rules) _ _ c.retain.ensures.filtered
