-- The earlier of two moments is due if one of them is.
use Rattle.std.proofs.Common.{◌≡◌, ℕ, Bool, true, false, ◌||◌, min, nat_le, refl, sym, arith}
use Rattle.std.specs.Prelude.{Option, None, Some}
use Rattle.std.proofs.lemmas.Grind.{common_steps}
use Rattle.sip_timers.specs.Queue.{is_due}
use Rattle.sip_timers.specs.Earlier.{earlier}

pub or_false : (x : Bool) → (x || false) ≡ x
or_false true = refl
or_false false = refl

pub or_assoc : (x y z : Bool) → ((x || y) || z) ≡ (x || (y || z))
or_assoc true y z = refl
or_assoc false y z = refl

pub earliest : (now a b : ℕ) → nat_le (min a b) now ≡ (nat_le a now || nat_le b now)
earliest now a b = grind (arith, common_steps)

pub earlier_due : (now : ℕ) (a b : Option ℕ)
    → is_due now (earlier a b) ≡ (is_due now a || is_due now b)
earlier_due now None b = refl
earlier_due now (Some a) None = sym (or_false (nat_le a now))
earlier_due now (Some a) (Some b) = earliest now a b
