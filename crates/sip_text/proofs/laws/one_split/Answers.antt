-- The law `one_split`: a text can be split into its pieces in one way only.
use Rattle.std.proofs.Common.{sym, ◌∙◌}
use Rattle.sip_text.specs.declared.separator.Place.TheVariants.{Plain}
use Rattle.sip_text.proofs.Splits.{splits, split_again}
use Rattle.sip_text.proofs.laws.one_split.Goals as goal

pub returns-clause-split : goal.returns-clause-split
returns-clause-split c at text = splits at Plain text

pub returns-clause-only : goal.returns-clause-only
returns-clause-only c at text pieces others one two =
    sym (split_again at Plain text pieces one) ∙ split_again at Plain text others two
