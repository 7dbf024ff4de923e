-- Lists that are the same at each place.
use Rattle.std.proofs.Common.{◌≡◌, ◌<◌, ◌+◌, ℕ, List, length, get_or, take, sym, ap, ◌∙◌}
use Rattle.std.proofs.lemmas.List.{get_or_default, take_more_same}

-- the elements at one place of a list that is the same as another
pub same_at : {X : Type 0} (xs ys : List X) (i : ℕ) (x y : X) → i < length xs → xs ≡ ys
    → x ≡ get_or xs i x → y ≡ get_or ys i y → x ≡ y
same_at xs ys i x y within same x_at y_at =
    x_at ∙ get_or_default xs i x y within ∙ ap (λ list. get_or list i y) same ∙ sym y_at

-- one more place
pub one_more_same : {X : Type 0} (xs ys : List X) (i : ℕ) (x y : X) → i < length xs
    → i < length ys → take i xs ≡ take i ys → x ≡ get_or xs i x → y ≡ get_or ys i y → x ≡ y
    → take (i + 1) xs ≡ take (i + 1) ys
one_more_same xs ys i x y within other_within before x_at y_at same =
    take_more_same xs ys i x within other_within before
    (sym x_at ∙ same ∙ y_at ∙ get_or_default ys i y x other_within)
