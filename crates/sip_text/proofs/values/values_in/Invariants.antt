-- The loop of `values_in`: the values so far and those of the rest are those of the text.
use Rattle.std.proofs.Common.{◌≡◌, ◌++◌, length, map}
use Rattle.sip_text.specs.Pieces.{all_now}
use Rattle.sip_text.specs.Separator.{split_from}
use Rattle.sip_text.specs.Trimmed.{trimmed}
use Rattle.sip_text.specs.declared.separator.Separator.TheVariants.{Byte}
use Rattle.sip_text.specs.declared.separator.Place.TheVariants.{Plain}
use Rattle.sip_text.proofs.values.values_in.Given as goal

abbrev pub invariant-loop-value : goal.invariant-loop-value
invariant-loop-value l =
    all_now l.values.items ++ map trimmed (split_from (Byte 44) Plain l.rest)
    ≡ map trimmed (split_from (Byte 44) Plain l.text)

abbrev pub decreases-loop-value : goal.decreases-loop-value
decreases-loop-value l = length l.rest
