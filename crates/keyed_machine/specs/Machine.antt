-- A machine for each key, and its fold over the key's own inputs.
use Rattle.std.specs.Prelude.{◌≡◌, ℕ, false, List, [], ◌∷◌, ◌++◌, Option, None, Some, IsSome}
use Rattle.sip_timers.specs.Queue.{is_due}

-- an input at a moment in ms; without an input, time alone goes on
pub record Timed (I : Type 0) : Type 0 where
  pub moment : ℕ
  pub input : Option I

-- an input at a moment
abbrev pub given_at : {I : Type 0} → ℕ → I → Timed I
given_at now input = record { moment = now; input = Some input }

-- a tick: time goes on to a moment
abbrev pub tick_at : {I : Type 0} → ℕ → Timed I
tick_at now = record { moment = now; input = None }

-- a step of a key, from a state or none: the state after it, and the outputs that it adds
pub record Machine (K S I O : Type 0) : Type 0 where
  pub step : K → Option S → I → Option S × List O

-- the moment in ms at which a key in this state is due; a key without a state is never due
abbrev pub due_of : {S : Type 0} → (S → Option ℕ) → Option S → Option ℕ
due_of due None = None
due_of due (Some state) = due state

module _ {K S I O : Type 0} where
  -- the state after an input
  abbrev pub next : Machine K S I O → K → Option S → I → Option S
  next machine key state input = (machine.step key state input).0

  -- the outputs to an input
  abbrev pub adds : Machine K S I O → K → Option S → I → List O
  adds machine key state input = (machine.step key state input).1

  -- the state of a key after a list of inputs, from a state
  abbrev pub state_from : Machine K S I O → K → Option S → List I → Option S
  state_from machine key state [] = state
  state_from machine key state (input ∷ inputs) =
      state_from machine key (machine.step key state input).0 inputs

  -- the state of a key after all its inputs, oldest first; before them it has none
  abbrev pub state_after : Machine K S I O → K → List I → Option S
  state_after machine key inputs = state_from machine key None inputs

  -- an input that changes nothing and says nothing, if the key isn't due at the moment
  abbrev pub IsIdle : Machine K S I O → (S → Option ℕ) → ℕ → I → Type 0
  IsIdle machine due now input =
      (key : K) (state : Option S) → is_due now (due_of due state) ≡ false
      → machine.step key state input ≡ (state, [])

  -- the outputs to a list of inputs, in order, from a state
  abbrev pub outputs_from : Machine K S I O → K → Option S → List I → List O
  outputs_from machine key state [] = []
  outputs_from machine key state (input ∷ inputs) =
      let after = machine.step key state input in after.1 ++ outputs_from machine key after.0 inputs

  -- A life among the inputs of a key. There is no state after the inputs before it. There is one
  -- after its first input, and before each of the rest; then come the inputs after it.
  pub record LifeIn (machine : Machine K S I O) (key : K) (inputs : List I) : Type 0 where
    pub before : List I
    pub first : I
    pub rest : List I
    pub after : List I
    pub are : inputs ≡ before ++ (first ∷ (rest ++ after))
    pub none_before : state_from machine key None before ≡ None
    pub begins : IsSome (machine.step key None first).0
    pub within : (part more : List I) (input : I) → rest ≡ part ++ (input ∷ more)
        → IsSome (state_from machine key None (first ∷ part))

module _ {K S I O : Type 0} {machine : Machine K S I O} {key : K} {inputs : List I} where
  -- the state at the end of a life; `None` if it has ended
  abbrev pub state_left : LifeIn machine key inputs → Option S
  state_left life = state_from machine key None (life.first ∷ life.rest)

  -- the outputs to the first input of a life
  abbrev pub said_at_first : LifeIn machine key inputs → List O
  said_at_first life = (machine.step key None life.first).1

  -- the outputs to the rest of its inputs
  abbrev pub said_in_rest : LifeIn machine key inputs → List O
  said_in_rest life = outputs_from machine key (machine.step key None life.first).0 life.rest

  -- the outputs to the inputs after it
  abbrev pub said_after : LifeIn machine key inputs → List O
  said_after life = outputs_from machine key (state_left life) life.after
