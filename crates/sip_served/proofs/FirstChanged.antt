-- What is true of each element of a list stays true after a change of the first that passes a test.
use Rattle.std.proofs.Common.{Bool, true, false, cond, List, [], ◌∷◌}
use Rattle.std.specs.List.{AllByRecursion}
use Rattle.sip_served.specs.State.{changed_first}

module _ {X : Type 0} (P : X → Type 0) where
  pub first_changed : (test : X → Bool) (change : X → X) → ((x : X) → P x → P (change x))
      → (xs : List X) → AllByRecursion P xs → AllByRecursion P (changed_first test change xs)
  first_changed test change keeps [] all = tt
  first_changed test change keeps (x ∷ xs) all =
      elim (test x) as (λ b. AllByRecursion P (cond b (change x ∷ xs)
      (x ∷ changed_first test change xs))) [
        | true ↦ (keeps x all.0, all.1)
        | false ↦ (all.0, first_changed test change keeps xs all.1)
      ]
