-- What holds of each element of a list, and of one more at its end.
use Rattle.std.proofs.Common.{◌++◌, [], ◌∷◌, List}
use Rattle.std.specs.List.{All}
use Rattle.std.proofs.lemmas.List.Elements.{All-append, All-cons, All-nil}

pub one_more : {X : Type 0} (P : X → Type 0) (xs : List X) (x : X) → All P xs → P x
    → All P (xs ++ x ∷ [])
one_more P xs x all one = All-append P xs (x ∷ []) all (All-cons P x [] one (All-nil P))
