-- `drop_early` keeps all dialogs but the early ones of the INVITE.
use Rattle.std.proofs.Common.{not, rules}
use Rattle.indexmap.proofs.CallerLemmas.{filter-RetainsPairs}
use Rattle.sip_held_dialogs.specs.Dialogs.{is_early_of}
use Rattle.sip_held_dialogs.proofs.dialogs.drop_early.Goals as goal

pub returns : goal.returns
returns c =
    filter-RetainsPairs _ (λ entry. not (is_early_of c.args.invite entry.1)) _
    (λ k v b w g call. search rules) _ _ c.retain.ensures.filtered
