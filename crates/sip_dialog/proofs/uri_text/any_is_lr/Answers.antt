-- `any_is_lr` says whether one of the parameters, split at `;`, is `lr`.
use Rattle.std.proofs.Common.{rules, tests}
use Rattle.std.proofs.lemmas.Iterator.Search.{any_from_yields_List}
use Rattle.std.proofs.lemmas.Iterator.Splits.{YieldsList-from_slice_split}
use Rattle.sip_dialog.specs.UriText.{is_lr}
use Rattle.sip_dialog.proofs.uri_text.any_is_lr.Goals as goal

pub returns : goal.returns
returns c =
    any_from_yields_List is_lr _ _ c.any.result c.any.ensures.ran
    (YieldsList-from_slice_split _ _ c.args.parameters.now c.split.ensures.rest c.split.ensures.done
    c.split.ensures.closure (λ x r q k. search (rules, tests)))
    (λ x r q k. search (rules, tests))
