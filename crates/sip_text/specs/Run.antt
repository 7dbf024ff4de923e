-- The bytes of one class that a text begins with.
use Rattle.std.specs.Prelude.{ℕ, Bool, ◌==◌, List, [], ◌∷◌, drop, Option, Some, None, if◌then◌else◌}
use Rattle.std.specs.List.{prefix_len, take_while}

-- a text that isn't empty, if the rest begins with this byte, and what follows the byte
abbrev pub before_byte : ℕ → List ℕ → List ℕ → Option (List ℕ × List ℕ)
before_byte end [] rest = None
before_byte end (b ∷ bs) [] = None
before_byte end (b ∷ bs) (c ∷ cs) = if c == end then Some (b ∷ bs, cs) else None

-- the first bytes that pass the test, at least one, if this byte follows them, and what stands
-- behind it
unfoldable pub run_before : (ℕ → Bool) → ℕ → List ℕ → Option (List ℕ × List ℕ)
run_before test end text =
    before_byte end (take_while test text) (drop (prefix_len test text) text)
