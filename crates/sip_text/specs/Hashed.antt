-- What a text writes to a hasher: how long it is, and then its bytes, whole.
use Rattle.std.specs.Prelude.{ℕ, List, [], ◌∷◌, ◌++◌, length}
use Rattle.std.specs.Hash as fed
use Rattle.std.specs.Hash.{HashWrites}

abbrev pub text_writes : List ℕ → HashWrites
text_writes text = fed.usize (length text) ++ text ∷ []
