-- `Provisionals::remove` keeps all responses but that with the number.
use Rattle.std.proofs.Common.{◌==◌, not, ap, ◌∙◌, rules}
use Rattle.std.proofs.lemmas.Fn.{filter_same}
use Rattle.sip_served.specs.Provisionals.{without_rseq}
use Rattle.sip_served.proofs.provisionals.Provisionals.remove.Goals as goal

pub returns : goal.returns
returns c =
    filter_same _ (λ one. not (one.number == c.args.number)) _
    (λ x b f call. search rules) _ _ c.retain.ensures.filtered
    ∙ ap (without_rseq c.args.number) c.self.view_is
