-- The rest of a life, input by input.
use Rattle.std.proofs.Common.{◌≡◌, List, [], ◌∷◌, ◌++◌, refl, ap}
use Rattle.std.specs.Prelude.{Option, None, IsSome}
use Rattle.keyed_machine.specs.Machine.{LifeIn, Machine, state_from}

module _ {K S I O : Type 0} where
  -- there is a state before each of the inputs
  abbrev pub IsWithinLife : Machine K S I O → K → Option S → List I → Type 0
  IsWithinLife machine key state [] = Unit {0}
  IsWithinLife machine key state (input ∷ inputs) =
      IsSome state × IsWithinLife machine key (machine.step key state input).0 inputs

  by_parts : (machine : Machine K S I O) (key : K) (state : Option S) (inputs : List I)
      → ((part more : List I) (input : I) → inputs ≡ part ++ (input ∷ more)
      → IsSome (state_from machine key state part))
      → IsWithinLife machine key state inputs
  by_parts machine key state [] each = tt
  by_parts machine key state (first ∷ inputs) each = (
    each [] inputs first refl,
    by_parts machine key (machine.step key state first).0 inputs (λ part more input is.
        each (first ∷ part) more input (ap (λ rest. first ∷ rest) is)),
  )

  pub is_within : (machine : Machine K S I O) (key : K) (inputs : List I)
      (life : LifeIn machine key inputs)
      → IsWithinLife machine key (machine.step key None life.first).0 life.rest
  is_within machine key inputs life =
      by_parts machine key (machine.step key None life.first).0 life.rest life.within
