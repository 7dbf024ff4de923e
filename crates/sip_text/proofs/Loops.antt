-- Reading the pieces of a text one after another, as a loop does.
use Rattle.std.proofs.Common.{◌≡◌, ℕ, List, [], ◌∷◌, ◌++◌, map, Option, Some, None, refl, sym, ap, ◌∙◌, append_assoc}
use Rattle.std.specs.Prelude.{option_and_then}
use Rattle.std.specs.Option.{option_map}
use Rattle.sip_text.specs.Forms.{each, split}
use Rattle.sip_text.specs.Separator.{cut_from, split_from}
use Rattle.sip_text.specs.declared.separator.Separator.{Separator}
use Rattle.sip_text.specs.declared.separator.Place.TheVariants.{Plain}
use Rattle.sip_text.proofs.Splits.{split_some, split_none}

-- what was read before, in front of what is still to be read
abbrev pub onto : {X : Type 0} → List X → Option (List X) → Option (List X)
onto front read = option_map (λ ys. front ++ ys) read

onto-cons : {X : Type 0} (front : List X) (y : X) (read : Option (List X))
    → onto front (option_and_then (λ ys. Some (y ∷ ys)) read) ≡ onto (front ++ y ∷ []) read
onto-cons front y None = refl
onto-cons front y (Some ys) = ap (λ zs. Some zs) (sym (append_assoc front (y ∷ []) ys))

onto-each : {A X : Type 0} (f : A → Option X) (front : List X) (x : A) (xs : List A) (y : X)
    → f x ≡ Some y → onto front (each f (x ∷ xs)) ≡ onto (front ++ y ∷ []) (each f xs)
onto-each f front x xs y e = ap
    (λ o. onto front (option_and_then (λ z. option_and_then (λ ys. Some (z ∷ ys)) (each f xs)) o)) e
    ∙ onto-cons front y (each f xs)

onto-none : {A X : Type 0} (f : A → Option X) (front : List X) (x : A) (xs : List A) → f x ≡ None
    → onto front (each f (x ∷ xs)) ≡ None
onto-none f front x xs e = ap (λ o.
    onto front (option_and_then (λ z. option_and_then (λ ys. Some (z ∷ ys)) (each f xs)) o)) e

onto-one : {A X : Type 0} (f : A → Option X) (front : List X) (x : A) (y : X) → f x ≡ Some y
    → onto front (each f (x ∷ [])) ≡ Some (front ++ y ∷ [])
onto-one f front x y e = ap (λ o. onto front (option_and_then (λ z. Some (z ∷ [])) o)) e

-- ---- a piece that can't be read, one that can, and the last piece

pub piece_fails : {X : Type 0} (at : Separator) (f : List ℕ → Option X) (front : List X)
    (rest piece after : List ℕ) (total : Option (List X))
    → cut_from at Plain rest ≡ Some (piece, after) → f piece ≡ None
    → onto front (split at f rest) ≡ total → None ≡ total
piece_fails at f front rest piece after total cut fails so_far =
    sym (ap (λ pieces. onto front (each f pieces)) (split_some at Plain rest piece after cut)
    ∙ onto-none f front piece (split_from at Plain after) fails) ∙ so_far

pub piece_read : {X : Type 0} (at : Separator) (f : List ℕ → Option X) (front : List X)
    (rest piece after : List ℕ) (y : X) (total : Option (List X))
    → cut_from at Plain rest ≡ Some (piece, after) → f piece ≡ Some y
    → onto front (split at f rest) ≡ total → onto (front ++ y ∷ []) (split at f after) ≡ total
piece_read at f front rest piece after y total cut read so_far =
    sym (ap (λ pieces. onto front (each f pieces)) (split_some at Plain rest piece after cut)
    ∙ onto-each f front piece (split_from at Plain after) y read) ∙ so_far

pub last_fails : {X : Type 0} (at : Separator) (f : List ℕ → Option X) (front : List X)
    (rest : List ℕ) (total : Option (List X)) → cut_from at Plain rest ≡ None → f rest ≡ None
    → onto front (split at f rest) ≡ total → None ≡ total
last_fails at f front rest total cut fails so_far =
    sym (ap (λ pieces. onto front (each f pieces)) (split_none at Plain rest cut)
    ∙ onto-none f front rest [] fails) ∙ so_far

pub last_read : {X : Type 0} (at : Separator) (f : List ℕ → Option X) (front : List X)
    (rest : List ℕ) (y : X) (total : Option (List X)) → cut_from at Plain rest ≡ None
    → f rest ≡ Some y → onto front (split at f rest) ≡ total → Some (front ++ y ∷ []) ≡ total
last_read at f front rest y total cut read so_far =
    sym (ap (λ pieces. onto front (each f pieces)) (split_none at Plain rest cut)
    ∙ onto-one f front rest y read) ∙ so_far

-- ---- the same, where each piece is mapped

pub piece_mapped : {X : Type 0} (at : Separator) (f : List ℕ → X) (front : List X)
    (rest piece after : List ℕ) (total : List X) → cut_from at Plain rest ≡ Some (piece, after)
    → front ++ map f (split_from at Plain rest) ≡ total
    → (front ++ f piece ∷ []) ++ map f (split_from at Plain after) ≡ total
piece_mapped at f front rest piece after total cut so_far =
    append_assoc front (f piece ∷ []) (map f (split_from at Plain after))
    ∙ ap (λ pieces. front ++ map f pieces) (sym (split_some at Plain rest piece after cut)) ∙ so_far

pub last_mapped : {X : Type 0} (at : Separator) (f : List ℕ → X) (front : List X) (rest : List ℕ)
    (total : List X) → cut_from at Plain rest ≡ None
    → front ++ map f (split_from at Plain rest) ≡ total → front ++ f rest ∷ [] ≡ total
last_mapped at f front rest total cut so_far =
    ap (λ pieces. front ++ map f pieces) (sym (split_none at Plain rest cut)) ∙ so_far
