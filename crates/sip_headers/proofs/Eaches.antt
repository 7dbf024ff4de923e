-- A value for each element of a list, in order.
use Rattle.std.proofs.Common.{◌≡◌, List, [], ◌∷◌, ◌++◌, Option, Some, None, refl, sym, ap, ◌∙◌, append_assoc}
use Rattle.std.specs.Prelude.{option_and_then}
use Rattle.std.specs.Option.{option_map}
use Rattle.std.proofs.lemmas.List.{append-nil}
use Rattle.sip_text.specs.Forms.{each}

abbrev pub behind : {X : Type 0} → List X → Option (List X) → Option (List X)
behind front more = option_map (λ xs. front ++ xs) more

behind_one : {X : Type 0} (front : List X) (y : X) (more : Option (List X))
    → behind front (option_and_then (λ ys. Some (y ∷ ys)) more) ≡ behind (front ++ y ∷ []) more
behind_one front y None = refl
behind_one front y (Some ys) = ap (λ zs. Some zs) (sym (append_assoc front (y ∷ []) ys))

pub each_more : {A X : Type 0} (f : A → Option X) (front : List X) (a : A) (rest : List A) (y : X)
    (total : Option (List X)) → f a ≡ Some y → behind front (each f (a ∷ rest)) ≡ total
    → behind (front ++ y ∷ []) (each f rest) ≡ total
each_more f front a rest y total e so_far =
    sym (behind_one front y (each f rest))
    ∙ sym (ap (λ o. behind front (option_and_then
    (λ x. option_and_then (λ xs. Some (x ∷ xs)) (each f rest)) o)) e)
    ∙ so_far

pub each_stops : {A X : Type 0} (f : A → Option X) (front : List X) (a : A) (rest : List A)
    (total : Option (List X)) → f a ≡ None → behind front (each f (a ∷ rest)) ≡ total → None ≡ total
each_stops f front a rest total e so_far =
    sym (ap (λ o. behind front (option_and_then
    (λ x. option_and_then (λ xs. Some (x ∷ xs)) (each f rest)) o)) e)
    ∙ so_far

pub each_ends : {A X : Type 0} (f : A → Option X) (front : List X) (total : Option (List X))
    → behind front (each f []) ≡ total → Some front ≡ total
each_ends f front total so_far = ap (λ xs. Some xs) (sym (append-nil front)) ∙ so_far
