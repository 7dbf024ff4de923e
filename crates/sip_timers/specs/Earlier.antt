-- The earlier of two moments, either of which may be missing.
use Rattle.std.specs.Prelude.{ℕ, min, Option, None, Some}

abbrev pub earlier : Option ℕ → Option ℕ → Option ℕ
earlier None other = other
earlier (Some moment) None = Some moment
earlier (Some moment) (Some other) = Some (min moment other)
