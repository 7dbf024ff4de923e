-- If the earlier of two moments isn't due, neither of them is.
use Rattle.std.proofs.Common.{◌≡◌, ℕ, Bool, true, false, ◌||◌, nat_le, refl, sym, ◌∙◌, arith}
use Rattle.std.specs.Prelude.{Option, None, Some}
use Rattle.std.proofs.lemmas.Grind.{common_steps}
use Rattle.sip_timers.specs.Queue.{is_due}
use Rattle.sip_timers.specs.Earlier.{earlier}

earlier_is_due : (now : ℕ) (a b : Option ℕ)
    → is_due now (earlier a b) ≡ (is_due now a || is_due now b)
earlier_is_due now None b = refl
earlier_is_due now (Some a) None = sym (or_false (nat_le a now))
  where
    or_false : (x : Bool) → (x || false) ≡ x
    or_false true = refl
    or_false false = refl
earlier_is_due now (Some a) (Some b) = grind (arith, common_steps)

-- if the earlier isn't due, neither is
pub neither_due : (now : ℕ) (a b : Option ℕ) → is_due now (earlier a b) ≡ false
    → (is_due now a ≡ false) × (is_due now b ≡ false)
neither_due now a b calm = parts (is_due now a) (is_due now b) (sym (earlier_is_due now a b) ∙ calm)
  where
    parts : (x y : Bool) → (x || y) ≡ false → (x ≡ false) × (y ≡ false)
    parts true y e = absurd cc
    parts false y e = (refl, e)
