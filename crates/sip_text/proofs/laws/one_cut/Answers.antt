-- The law `one_cut`: reading from left to right finds the one cut of a text.
use Rattle.std.proofs.Common.{MatchOption}
use Rattle.sip_text.specs.Separator.{cut_from, IsCut, IsWhole}
use Rattle.sip_text.specs.declared.separator.Place.TheVariants.{Plain}
use Rattle.sip_text.proofs.Separators.{by_option, cut_takes, cut_again, whole_takes}
use Rattle.sip_text.proofs.laws.one_cut.Goals as goal

pub returns-clause-cut : goal.returns-clause-cut
returns-clause-cut c at text =
    by_option (cut_from at Plain text)
    (λ o. MatchOption o (IsWhole at text) (λ parts. IsCut at parts text))
    (whole_takes at Plain text) (cut_takes at Plain text)

pub returns-clause-only : goal.returns-clause-only
returns-clause-only c at text parts cut = cut_again at Plain text parts cut
