-- `drop_early_of` keeps all dialogs but the early ones of these INVITEs.
use Rattle.std.proofs.Common.{not, rules}
use Rattle.indexmap.proofs.CallerLemmas.{filter-RetainsPairs}
use Rattle.sip_clients.specs.Steps.Over.{is_early_of_any}
use Rattle.sip_clients.proofs.tick.drop_early_of.Goals as goal

pub returns : goal.returns
returns c =
    filter-RetainsPairs _ (λ entry. not (is_early_of_any c.args.invites.now entry.1)) _
    (λ k v b w g call. search rules) _ _ c.retain.ensures.filtered
