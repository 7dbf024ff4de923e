-- `split_values` gives the values between the commas, if no quoted string is left open.
use Rattle.std.proofs.Common.{sym, subst, ◌∙◌, List, ℕ}
use Rattle.std.specs.List.{AllZip}
use Rattle.sip_text.specs.Pieces.{IsTrimmed}
use Rattle.sip_text.specs.Separator.{split_from}
use Rattle.sip_text.specs.declared.separator.Separator.TheVariants.{Byte}
use Rattle.sip_text.specs.declared.separator.Place.TheVariants.{Plain}
use Rattle.sip_text.proofs.ParameterForms.{all_trimmed}
use Rattle.sip_text.proofs.Splits.{splits}
use Rattle.sip_text.proofs.values.split_values.Goals as goal

pub returns-clause-values : goal.returns-clause-values
returns-clause-values c =
    let text = c.args.text.now in
    let pieces = split_from (Byte 44) Plain text in
    record {
      closed = sym c.has_open_quote.ensures ∙ c.if-has_open_quote.false;
      values_are = (
        pieces,
        splits (Byte 44) Plain text,
        subst (λ (values : List (List ℕ)). AllZip IsTrimmed values pieces)
            (sym c.in_ok-values_in.ensures) (all_trimmed pieces),
      );
    }
