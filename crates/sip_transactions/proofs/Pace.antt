-- A repeat fires at most ten times before the end.
use Rattle.std.proofs.Common.{◌≡◌, ℕ, zero, suc, ◌+◌, ◌*◌, ◌^◌, ◌<◌, ◌≤◌, min, true, false, Option, None, Some, arith, refl, subst, ◌-◌, ◌⊎◌, inl, inr}
use Rattle.std.specs.Prelude.{IsTrue}
use Rattle.std.proofs.lemmas.Bool.{leb-true, leb-false, le-leb, false≢true}
use Rattle.std.proofs.Math.Pow.{pow_mono}
use native.Mathlib.Decide.{dec_le}
use Rattle.sip_transactions.specs.declared.step.Pace.{Pace}
use Rattle.sip_transactions.specs.declared.step.Pace.TheVariants.{Doubled, Capped, Even}
use Rattle.sip_transactions.specs.Dues.{spent, is_paced}
use Rattle.sip_timers.specs.Queue.{is_due}
use Rattle.sip_transactions.specs.Timers.{interval}

pub doubled_bound : (j : ℕ) → j ≤ 10 → 500 * 2 ^ j ≤ 512000
doubled_bound j h = let p : 2 ^ j ≤ 2 ^ 10 = pow_mono h in omega arith

-- firings take time
spent_step : (j : ℕ) → spent (suc j) ≡ spent j + min (500 * 2 ^ suc j) 4000
unfolding spent
spent_step j = refl

spent-ten : spent 10 ≡ 35000
unfolding spent
spent-ten = refl

spent-more : (j k : ℕ) → spent j ≤ spent (k + j)
spent-more j zero = let e : zero + j ≡ j = omega arith in rw e (omega arith)
spent-more j (suc k) = let e : suc k + j ≡ suc (k + j) = omega arith in
    rw (e, spent_step (k + j)) (omega (arith, spent-more j k))

ten_or_less : (j : ℕ) → (j ≤ 9) ⊎ (10 ≤ j)
ten_or_less j = elim (dec_le 10 j) [ yes above ↦ inr above | no below ↦ inl (omega arith) ]

not_ten : (j : ℕ) → spent j < 31500 → 10 ≤ j → ⊥
not_ten j few above =
    let e : (j - 10) + 10 ≡ j = omega arith in
    let grown : spent 10 ≤ spent j = subst (λ n. spent 10 ≤ spent n) e (spent-more 10 (j - 10)) in
    omega (arith, spent-ten)

pub fired_below : (j : ℕ) → spent j < 31500 → j ≤ 9
fired_below j few =
    elim (ten_or_less j) [ inl below ↦ below | inr above ↦ absurd (not_ten j few above) ]

-- what is known when a repeat fires
pub fired_bound : (now fired : ℕ) (repeat ending : Option ℕ) → is_due now repeat ≡ true
    → is_due now ending ≡ false → IsTrue (is_paced repeat fired ending) → fired ≤ 9
fired_bound now fired None ending due before paced = absurd (false≢true due)
fired_bound now fired (Some d) None due before paced = absurd (false≢true paced)
fired_bound now fired (Some d) (Some e) due before paced =
    let d_now : d ≤ now = leb-true d now due in
    let now_e : now < e = leb-false e now before in
    let pace : e + spent fired ≤ d + 31500 = leb-true _ _ paced in
    fired_below fired (omega arith)

pub interval_least : (pace : Pace) (j : ℕ) → min (500 * 2 ^ j) 4000 ≤ interval pace j
interval_least Doubled j = omega arith
interval_least Capped j = omega arith
interval_least Even j = omega arith

-- the next repeat is paced too
pub paced_again : (now fired next : ℕ) (repeat ending : Option ℕ) → is_due now repeat ≡ true
    → is_due now ending ≡ false → IsTrue (is_paced repeat fired ending)
    → min (500 * 2 ^ (fired + 1)) 4000 ≤ next
    → IsTrue (is_paced (Some (now + next)) (fired + 1) ending)
paced_again now fired next None ending due before paced least = absurd (false≢true due)
paced_again now fired next (Some d) None due before paced least = absurd (false≢true paced)
paced_again now fired next (Some d) (Some e) due before paced least =
    let d_now : d ≤ now = leb-true d now due in
    let pace : e + spent fired ≤ d + 31500 = leb-true _ _ paced in
    let one : suc fired ≡ fired + 1 = omega arith in
    let step : spent (fired + 1) ≡ spent fired + min (500 * 2 ^ (fired + 1)) 4000 =
    subst (λ n. spent n ≡ spent fired + min (500 * 2 ^ n) 4000) one (spent_step fired) in
    le-leb (e + spent (fired + 1)) (now + next + 31500) (omega arith)

pub paced_at_first : (now : ℕ) → IsTrue (is_paced (Some (now + 500)) 0 (Some (now + 32000)))
unfolding spent
paced_at_first now = le-leb (now + 32000 + 0) (now + 500 + 31500) (omega arith)
