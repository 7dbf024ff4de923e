-- Lists that are gone through side by side.
use Rattle.std.proofs.Common.{◌≡◌, List, [], ◌∷◌, sym, ◌∙◌}
use Rattle.std.specs.Prelude.{◌↔◌}

module _ {X A : Type 0} (xs ys rest others : List X) (x y : X) where
  -- the same at this place, so what is left decides
  pub next_same : A ↔ (xs ≡ ys) → xs ≡ x ∷ rest → ys ≡ y ∷ others → x ≡ y → A ↔ (rest ≡ others)
  next_same says xs_is ys_is same = (
    (λ a. let all = says.0 a in cc),
    λ left. let all : xs ≡ ys = cc in says.1 all,
  )

  -- not the same at this place
  pub next_differs : A ↔ (xs ≡ ys) → xs ≡ x ∷ rest → ys ≡ y ∷ others → (x ≡ y → ⊥) → A → ⊥
  next_differs says xs_is ys_is differs a =
      let all = says.0 a in let same : x ≡ y = cc in differs same

  -- the others end first
  pub others_end : A ↔ (xs ≡ ys) → xs ≡ x ∷ rest → ys ≡ [] → A → ⊥
  others_end says xs_is ys_is a = let all = says.0 a in cc

-- they end together
pub end_same : {X A : Type 0} (xs ys : List X) → A ↔ (xs ≡ ys) → xs ≡ [] → ys ≡ [] → A
end_same xs ys says xs_is ys_is = says.1 (xs_is ∙ sym ys_is)

pub others_go_on : {X A : Type 0} (xs ys others : List X) (y : X) → A ↔ (xs ≡ ys) → xs ≡ []
    → ys ≡ y ∷ others → A → ⊥
others_go_on xs ys others y says xs_is ys_is a = let all = says.0 a in cc
