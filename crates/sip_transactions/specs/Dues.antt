-- The due moments of a transaction, as its timers keep them.
use Rattle.std.specs.Prelude.{ℕ, zero, suc, ◌+◌, ◌*◌, ◌^◌, min, Bool, true, false, nat_le, Option, None, Some}
use Rattle.sip_timers.specs.declared.estimate.TheConstants.{T1}
use Rattle.sip_transactions.specs.declared.timers.TheConstants.{T2}

-- at most one moment at which to send again, how often it has fired since it was first set, and at
-- most one moment at which to end
pub record Dues : Type 0 where
  pub repeat : Option ℕ
  pub fired : ℕ
  pub ending : Option ℕ

-- ---- for steps and laws: `run` needs nothing of what follows

-- the time in ms that so many firings take after the first, if each comes as soon as it is due
unfoldable pub spent : ℕ → ℕ
spent zero = 0
spent (suc fired) = spent fired + min (T1 * 2 ^ suc fired) T2

-- if there is a repeat, there is an end, and the firings so far took at least their time
abbrev pub is_paced : Option ℕ → ℕ → Option ℕ → Bool
is_paced None fired ending = true
is_paced (Some due) fired None = false
is_paced (Some due) fired (Some ending) = nat_le (ending + spent fired) (due + 63 * T1)
