-- `drop_clients` keeps the requests that aren't over.
use Rattle.std.proofs.Common.{not, rules}
use Rattle.indexmap.proofs.CallerLemmas.{filter-RetainsPairs}
use Rattle.sip_clients.specs.Tick.{is_over}
use Rattle.sip_clients.proofs.tick.drop_clients.Goals as goal

pub returns : goal.returns
returns c =
    filter-RetainsPairs _ (λ entry. not (is_over c.args.now entry.1)) _
    (λ k v b w g call. search rules) _ _ c.retain.ensures.filtered
