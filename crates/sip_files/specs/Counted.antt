-- How often a reader was read, and how often a stream failed, if it tells.
use Rattle.std.specs.Prelude.{◌≡◌, ℕ, zero, suc, ◌+◌, ◌≤◌, Option, Some, None, Result, Ok, Err}

-- so many more; a stream that tells afterwards told before, too
abbrev pub Counts : Option ℕ → Option ℕ → ℕ → Type 0
Counts old None more = Unit
Counts None (Some after) more = ⊥
Counts (Some before) (Some after) more = after ≡ before + more

abbrev pub CountsAtMost : Option ℕ → Option ℕ → ℕ → Type 0
CountsAtMost old new most = (more : ℕ) × (more ≤ most) × Counts old new more

-- a read or a flush that failed
abbrev pub failures_of : {T E : Type 0} → Result T E → ℕ
failures_of (Ok value) = 0
failures_of (Err error) = 1

-- a write that failed or took nothing
abbrev pub failures_of_write : {E : Type 0} → Result ℕ E → ℕ
failures_of_write (Ok zero) = 1
failures_of_write (Ok (suc count)) = 0
failures_of_write (Err error) = 1
