-- `remove_over` keeps the requests whose moment of removal hasn't come.
use Rattle.std.proofs.Common.{rules}
use Rattle.std.proofs.lemmas.Fn.{filter_same}
use Rattle.sip_served.specs.Tick.{is_kept_at}
use Rattle.sip_served.proofs.retransmissions.remove_over.Goals as goal

pub returns : goal.returns
returns c =
    filter_same _ (is_kept_at c.args.now) _
    (λ x b f call. search rules) _ _ c.retain.ensures.filtered
