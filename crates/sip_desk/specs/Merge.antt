-- A merge of parts: the events of several lines in one order, in which those of each line keep
-- their own order.
use Rattle.std.specs.Prelude.{◌≡◌, ℕ, ◌==◌, List, map, filter}
use Rattle.std.specs.List.{flat_map}

module _ {E : Type 0} where
  -- the events of one line, of events that are marked with the numbers of their lines
  abbrev pub part_of : ℕ → List (ℕ × E) → List E
  part_of line marked = map (λ event. event.1) (filter (λ event. event.0 == line) marked)

  -- without their marks
  abbrev pub unmarked : List (ℕ × E) → List E
  unmarked marked = map (λ event. event.1) marked

  -- the events can be marked with lines so that those of each line are its part, whole and in order
  abbrev pub IsMerge : (ℕ → List E) → List E → Type 0
  IsMerge parts events = (marked : List (ℕ × E)) × (unmarked marked ≡ events)
      × ((line : ℕ) → part_of line marked ≡ parts line)

  -- the events of the rounds can be marked with lines so that those of each line, one round after
  -- another, are its part, whole and in order
  abbrev pub HoldsParts : (ℕ → List E) → List (List E) → Type 0
  HoldsParts parts rounds = (marked : List (List (ℕ × E))) × (map unmarked marked ≡ rounds)
      × ((line : ℕ) → flat_map (part_of line) marked ≡ parts line)
