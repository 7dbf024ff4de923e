-- Lists that are taken apart item by item, each of which adds what it gives at the end.
use Rattle.std.proofs.Common.{◌≡◌, List, [], ◌∷◌, ◌++◌, sym, ◌∙◌, ap, append_assoc, append-nil}
use Rattle.std.specs.List.{flat_map}

module _ {X Y : Type 0} (f : X → List Y) (all : List Y) where
  -- one more item was taken
  pub one_taken : (given newer : List Y) (left rest : List X) (x : X) → left ≡ x ∷ rest
      → newer ≡ given ++ f x → given ++ flat_map f left ≡ all → newer ++ flat_map f rest ≡ all
  one_taken given newer left rest x step adds before =
      ap (λ ys. ys ++ flat_map f rest) adds ∙ append_assoc given (f x) (flat_map f rest)
      ∙ ap (λ xs. given ++ flat_map f xs) (sym step) ∙ before

  -- none is left
  pub all_taken : (given : List Y) (left : List X) → left ≡ [] → given ++ flat_map f left ≡ all
      → given ≡ all
  all_taken given left none before =
      sym (append-nil given) ∙ ap (λ xs. given ++ flat_map f xs) (sym none) ∙ before
