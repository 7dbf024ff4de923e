-- A line without folds.
use Rattle.std.specs.Prelude.{ℕ, List}
use Rattle.sip_headers.specs.declared.folding.Whole.{Whole}
use Rattle.sip_headers.specs.declared.folding.Whole.TheVariants.{Plain, Folded}

abbrev pub whole_now : Whole → List ℕ
whole_now (Plain line) = line.now
whole_now (Folded line) = line.items
