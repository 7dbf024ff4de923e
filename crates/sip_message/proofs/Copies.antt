-- A copied list is the same list.
use Rattle.std.proofs.Common.{◌≡◌, List, sym, ◌∙◌}
use Rattle.std.specs.List.{AllZip}
use Rattle.std.proofs.lemmas.List.Elements.{same_from_all_zip}

pub copied : {X : Type 0} {xs ys before after : List X} → xs ≡ before → ys ≡ after
    → AllZip (λ x y. y ≡ x) xs ys → after ≡ before
copied {xs = xs} {ys = ys} old new same =
    sym new ∙ same_from_all_zip _ xs ys same (λ x y e. e) ∙ old
