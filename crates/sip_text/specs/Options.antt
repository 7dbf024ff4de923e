-- Steps that may each give nothing.
use Rattle.std.specs.Prelude.{Option, option_and_then}

-- the second step, on the value that the first one gave
infixl 10 ◌>>=◌
abbrev pub ◌>>=◌ : {A B : Type 0} → Option A → (A → Option B) → Option B
o >>= f = option_and_then f o
