-- The repeats of a client take time, so they are few.
use Rattle.std.proofs.Common.{◌≡◌, ℕ, zero, suc, ◌+◌, ◌*◌, ◌-◌, ◌^◌, ◌<◌, ◌≤◌, min, Bool, true, false, refl, subst, arith, lit≤}
use Rattle.std.specs.Prelude.{Option, None, Some}
use Rattle.std.proofs.lemmas.Bool.{false≢true, leb-true, leb-false}
use native.Mathlib.Decide.{dec_le}
use Rattle.sip_timers.specs.Queue.{is_due}
use Rattle.sip_transactions.specs.declared.state.Role.{Role}
use Rattle.sip_transactions.specs.declared.state.Role.TheVariants.{InviteClient, Client, InviteServer, Server}
use Rattle.sip_transactions.specs.declared.step.Due.{Due}
use Rattle.sip_transactions.specs.declared.step.Due.TheVariants.{Keep, Clear, Ending, Both, Again}
use Rattle.sip_transactions.specs.declared.step.Pace.{Pace}
use Rattle.sip_transactions.specs.declared.step.Pace.TheVariants.{Doubled, Capped, Even}
use Rattle.sip_transactions.specs.Dues.{Dues}
use Rattle.sip_transactions.specs.Laws.{most_repeats}
use Rattle.sip_transactions.specs.Timers.{interval, rearmed}

-- the least interval of a client's repeats, and the least time that so many firings take after the
-- first
abbrev least : Role → ℕ → ℕ
least InviteClient j = 500 * 2 ^ j
least Client j = min (500 * 2 ^ j) 4000
least InviteServer j = 0
least Server j = 0

pub taken : Role → ℕ → ℕ
taken role zero = 0
taken role (suc j) = taken role j + least role (suc j)

taken-suc : (role : Role) (j : ℕ) → taken role (suc j) ≡ taken role j + least role (suc j)
unfolding taken
taken-suc role j = refl

pub taken-zero : (role : Role) → taken role 0 ≡ 0
unfolding taken
taken-zero role = refl

taken-more : (role : Role) (j k : ℕ) → taken role j ≤ taken role (k + j)
taken-more role j zero = let e : zero + j ≡ j = omega arith in rw e (omega arith)
taken-more role j (suc k) = let e : suc k + j ≡ suc (k + j) = omega arith in
    rw (e, taken-suc role (k + j)) (omega (arith, taken-more role j k))

-- a client's role
abbrev pub is_client : Role → Bool
is_client InviteClient = true
is_client Client = true
is_client InviteServer = false
is_client Server = false

taken-most : (role : Role) → is_client role ≡ true → 31500 ≤ taken role (most_repeats role)
unfolding taken
taken-most InviteClient client = lit≤ tt
taken-most Client client = lit≤ tt
taken-most InviteServer client = absurd (false≢true client)
taken-most Server client = absurd (false≢true client)

few_fired : (role : Role) → is_client role ≡ true → (j : ℕ) → taken role j < 31500
    → j < most_repeats role
few_fired role client j few = elim
    (dec_le (most_repeats role) j) [ yes above ↦ absurd (too_many above) | no below ↦ omega arith ]
  where
    too_many : most_repeats role ≤ j → ⊥
    too_many above =
        let e : (j - most_repeats role) + most_repeats role ≡ j = omega arith in
        let grown : taken role (most_repeats role) ≤ taken role j =
        subst (λ n. taken role (most_repeats role) ≤ taken role n) e
        (taken-more role (most_repeats role) (j - most_repeats role)) in
        omega (arith, taken-most role client)

-- if there is a repeat, there is an end, and the firings so far took at least their time
unfoldable pub Paced : Role → Option ℕ → ℕ → Option ℕ → Type 0
Paced role None fired ending = Unit {0}
Paced role (Some due) fired None = ⊥
Paced role (Some due) fired (Some ending) = ending + taken role fired ≤ due + 31500

-- how often the repeat may still fire
abbrev pub left : Role → Option ℕ → ℕ → ℕ
left role None fired = 0
left role (Some due) fired = most_repeats role - fired

-- the pace of a role's repeats
abbrev pub paces : Role → Due → Bool
paces InviteClient (Again Doubled) = true
paces InviteClient (Again Capped) = false
paces InviteClient (Again Even) = false
paces Client (Again Doubled) = false
paces Client (Again Capped) = true
paces Client (Again Even) = true
paces role due = false

-- after a firing
pub record Fired (role : Role) (dues : Dues) (due : Due) (now : ℕ) : Type 0 where
  pub fewer : 1 + left role (rearmed due now dues).repeat (rearmed due now dues).fired
      ≤ left role dues.repeat dues.fired
  pub paced : Paced role (rearmed due now dues).repeat (rearmed due now dues).fired
      (rearmed due now dues).ending

pub fired_at : (role : Role) → is_client role ≡ true
    → (pace : Pace) (now fired : ℕ) (repeat ending : Option ℕ)
    → least role (fired + 1) ≤ interval pace (fired + 1)
    → is_due now repeat ≡ true → is_due now ending ≡ false → Paced role repeat fired ending
    → Fired role (record { repeat = repeat; fired = fired; ending = ending }) (Again pace) now
unfolding Paced
fired_at role client pace now fired None ending enough due before paced = absurd (false≢true due)
fired_at role client pace now fired (Some d) None enough due before paced = absurd paced
fired_at role client pace now fired (Some d) (Some e) enough due before paced =
    let d_now : d ≤ now = leb-true d now due in
    let now_e : now < e = leb-false e now before in
    let few : fired < most_repeats role = few_fired role client fired (omega arith) in
    let one : suc fired ≡ fired + 1 = omega arith in
    let more : taken role (fired + 1) ≡ taken role fired + least role (fired + 1) =
    subst (λ n. taken role n ≡ taken role fired + least role n) one (taken-suc role fired) in
    record { fewer = omega arith; paced = omega arith }

pub least_interval : (role : Role) (pace : Pace) (j : ℕ) → paces role (Again pace) ≡ true
    → least role j ≤ interval pace j
least_interval InviteClient Doubled j fit = omega arith
least_interval InviteClient Capped j fit = absurd (false≢true fit)
least_interval InviteClient Even j fit = absurd (false≢true fit)
least_interval Client Doubled j fit = absurd (false≢true fit)
least_interval Client Capped j fit = omega arith
least_interval Client Even j fit = omega arith
least_interval InviteServer pace j fit = absurd (false≢true fit)
least_interval Server pace j fit = absurd (false≢true fit)

-- after another row
abbrev pub is_plain : Due → Bool
is_plain Keep = true
is_plain Clear = true
is_plain (Ending after) = true
is_plain Both = false
is_plain (Again pace) = false

pub record Left (role : Role) (dues after : Dues) : Type 0 where
  pub fewer : left role after.repeat after.fired ≤ left role dues.repeat dues.fired
  pub paced : Paced role after.repeat after.fired after.ending

pub plain_left : (role : Role) (due : Due) (now : ℕ) (dues : Dues) → is_plain due ≡ true
    → Paced role dues.repeat dues.fired dues.ending → Left role dues (rearmed due now dues)
unfolding Paced
plain_left role Keep now dues plain paced = record { fewer = omega arith; paced = paced }
plain_left role Clear now dues plain paced = record { fewer = omega arith; paced = tt }
plain_left role (Ending after) now dues plain paced = record { fewer = omega arith; paced = tt }
plain_left role Both now dues plain paced = absurd (false≢true plain)
plain_left role (Again pace) now dues plain paced = absurd (false≢true plain)

-- ---- the text of an ACK isn't that of an INVITE
