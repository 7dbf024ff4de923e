-- A timer queue is a finite map from keys to the moments at which they are due, in milliseconds.
-- A contract sees it as the list of its entries, in the order of the keys.
use Rattle.std.specs.Prelude.{◌≡◌, ℕ, Bool, false, List, Option, None, Some, filter, nat_le, nat_lt, if◌then◌else◌}
use Rattle.std.specs.BTreeMap.{is_at}
use Rattle.std.specs.Map.{lookup, keys_of}
use Rattle.std.specs.declared.cmp.Ordering.{Ordering}

-- the moment at which the key is due, or `None` if it isn't armed
abbrev pub moment : {K : Type 0} → (K → K → Ordering) → List (K × ℕ) → K → Option ℕ
moment cmp entries key = lookup (is_at (cmp key)) entries

-- whether an armed key is due at `now` or before
abbrev pub is_due : ℕ → Option ℕ → Bool
is_due now None = false
is_due now (Some due) = nat_le due now

-- the moment, if it is after `now`
abbrev pub if_later : ℕ → Option ℕ → Option ℕ
if_later now None = None
if_later now (Some due) = if nat_lt now due then Some due else None

-- the keys that are due at `now` or before, in the order of the entries
abbrev pub due_keys : {K : Type 0} → ℕ → List (K × ℕ) → List K
due_keys now entries = keys_of (filter (λ e. nat_le e.1 now) entries)

-- the entries that are due after `now`
abbrev pub later : {K : Type 0} → ℕ → List (K × ℕ) → List (K × ℕ)
later now entries = filter (λ e. nat_lt now e.1) entries

-- a clone of the key equals it
abbrev pub IsClonedAlike : {K : Type 0} → (K → K → Type 0) → K → Type 0
IsClonedAlike {K} is_clone key = (copy : K) → is_clone key copy → copy ≡ key
