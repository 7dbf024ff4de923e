-- Histories: for each key, the list of its own inputs, oldest first.
use Rattle.std.specs.Prelude.{◌≡◌, List, [], ◌∷◌, ◌++◌, Option, IsSome, cond}
use Rattle.std.specs.declared.cmp.Ordering.{Ordering}
use Rattle.std.specs.BTreeMap.{is_at}
use Rattle.std.specs.List.{flat_map}
use Rattle.keyed_machine.specs.Machine.{Machine, adds, state_after}
use Rattle.keyed_machine.specs.Table.{Held, state_at, Covers}

-- each key's state is the one after its own inputs
abbrev pub states_after : {K S I O : Type 0} → Machine K S I O → (K → List I) → K → Option S
states_after machine histories key = state_after machine key (histories key)

-- every history, with one more input for every key
abbrev pub all_longer : {K I : Type 0} → (K → List I) → I → K → List I
all_longer histories input q = histories q ++ input ∷ []

module _ {K S I O : Type 0} (cmp : K → K → Ordering) (machine : Machine K S I O) where
  -- the histories, with one more input for one key
  abbrev pub longer : (K → List I) → K → I → K → List I
  longer histories key input q = cond (is_at (cmp key) q) (histories q ++ input ∷ []) (histories q)

  -- the table isn't broken, and holds for each key the state after its own inputs, and nothing else
  pub record StandsFor (table : Held K S) (histories : K → List I) : Type 0 where
    pub sound : IsSome table
    pub states : (q : K) → state_at cmp table q ≡ states_after machine histories q

  -- whatever histories the table stood for, it now stands for them with this input added, and the
  -- outputs are those that the input adds
  pub record AddsInput (old new : Held K S) (key : K) (input : I) (outputs : List O) : Type 0 where
    pub stands : (histories : K → List I) → StandsFor old histories
        → StandsFor new (longer histories key input)
    pub added : (histories : K → List I) → StandsFor old histories
        → outputs ≡ adds machine key (states_after machine histories key) input

  -- the same with one more input for every key; the outputs follow the order of the keys
  pub record AddsInputs (old new : Held K S) (input : I) (outputs : List O) : Type 0 where
    pub stands : (histories : K → List I) → StandsFor old histories
        → StandsFor new (all_longer histories input)
    pub added : (histories : K → List I) → StandsFor old histories → (keys : List K)
        → Covers cmp keys (states_after machine histories)
        → outputs ≡ flat_map (λ key. adds machine key (states_after machine histories key) input)
        keys
