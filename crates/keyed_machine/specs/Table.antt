-- A table of held keys as a contract sees it: its entries, each key once, in any order; or `None`
-- if it is broken.
use Rattle.std.specs.Prelude.{◌≡◌, ℕ, true, false, List, [], Option, None, Some, IsSome, cond}
use Rattle.std.specs.declared.cmp.Ordering.{Ordering}
use Rattle.std.specs.BTreeMap.{is_at}
use Rattle.std.specs.Map.{lookup}
use Rattle.std.specs.List.{flat_map, list_any}
use Rattle.std.specs.List.Sorted.{IsStrictlySortedBy}
use Rattle.sip_timers.specs.Queue.{is_due}
use Rattle.sip_timers.specs.Index.{IsIndexOf}
use Rattle.keyed_machine.specs.Machine.{Machine, next, adds, due_of}

-- the value of a table with keys `K` and states `S`
abbrev pub Held : Type 0 → Type 0 → Type 0
Held K S = Option (List (K × S))

-- the held keys with their states; a broken table holds none
abbrev pub entries_of : {K S : Type 0} → Held K S → List (K × S)
entries_of None = []
entries_of (Some entries) = entries

-- no key is due at the moment
abbrev pub IsCalm : {K S : Type 0} → (S → Option ℕ) → (K → Option S) → ℕ → Type 0
IsCalm {K} due states now = (key : K) → is_due now (due_of due (states key)) ≡ false

module _ {K S : Type 0} (cmp : K → K → Ordering) where
  -- the state of a key among entries
  abbrev pub state_in : List (K × S) → K → Option S
  state_in entries key = lookup (is_at (cmp key)) entries

  -- the state that is held for a key
  abbrev pub state_at : Held K S → K → Option S
  state_at table key = state_in (entries_of table) key

  -- a schedule has each key at the moment at which its state is due, and no other key
  abbrev pub AreDues : (S → Option ℕ) → (K → Option S) → List (ℕ × K) → Type 0
  AreDues due states dues = IsIndexOf cmp (λ q. due_of due (states q)) dues

  -- a list of keys in order that has each key with a state
  pub record Covers (keys : List K) (states : K → Option S) : Type 0 where
    pub ordered : IsStrictlySortedBy cmp keys
    pub each : (key : K) → IsSome (states key) → list_any (is_at (cmp key)) keys ≡ true

  -- the table after one input of one key: that key's state is the machine's next one, and all
  -- others stay
  pub record StepsKey {I O : Type 0} (machine : Machine K S I O) (old new : Held K S) (key : K)
      (input : I) (outputs : List O) : Type 0 where
    pub sound : IsSome new
    pub states : (q : K) → state_at new q
        ≡ cond (is_at (cmp key) q) (next machine key (state_at old key) input) (state_at old q)
    pub added : outputs ≡ adds machine key (state_at old key) input

  -- the table after one input of every key: each state is the machine's next one, and the outputs
  -- follow the order of the keys
  pub record StepsAll {I O : Type 0} (machine : Machine K S I O) (old new : Held K S) (input : I)
      (outputs : List O) : Type 0 where
    pub sound : IsSome new
    pub states : (q : K) → state_at new q ≡ next machine q (state_at old q) input
    pub added : (keys : List K) → Covers keys (state_at old)
        → outputs ≡ flat_map (λ key. adds machine key (state_at old key) input) keys
