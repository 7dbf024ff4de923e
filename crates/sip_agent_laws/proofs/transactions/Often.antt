-- What goes out again by a timer that is set anew each time goes out at each of its moments.
use Rattle.std.proofs.Common.{◌≡◌, ℕ, zero, suc, ◌+◌, ◌<◌, ◌≤◌, Bool, true, false, cond, ◌&&◌, ◌||◌, ◌==◌, List, [], ◌∷◌, ◌++◌, refl, sym, ◌∙◌, ap, subst, arith, ◌-◌}
use Rattle.std.specs.Prelude.{Option, None, Some, IfSome, nat_le, min}
use Rattle.std.specs.List.{list_any}
use Rattle.std.specs.Str.{bytes_eq}
use Rattle.std.proofs.lemmas.Bool.{false≢true}
use Rattle.std.proofs.lemmas.Bool.Decides.{Decides-eqb}
use Rattle.std.proofs.lemmas.List.Sums.{sum_by-append}
use Rattle.std.proofs.lemmas.Slice.Eq.{bytes_eq-Decides}
use native.Mathlib.Decide.{dec_le}
use Rattle.sip_message.specs.declared.addr.Addr.{Addr}
use Rattle.sip_message.specs.declared.key.Key.{Key}
use Rattle.keyed_machine.specs.Machine.{Timed, given_at, outputs_from, tick_at}
use Rattle.sip_transactions.specs.declared.input.Input.{Input}
use Rattle.sip_transactions.specs.declared.life.Life.{Life}
use Rattle.sip_transactions.specs.declared.output.Out.{Out}
use Rattle.sip_transactions.specs.declared.output.Out.TheVariants.{Send}
use Rattle.sip_transactions.specs.declared.step.Pace.{Pace}
use Rattle.sip_transactions.specs.Machine.{life_due}
use Rattle.sip_transactions.specs.Rules.Timers.{interval}
use Rattle.sip_transactions.specs.Steps.Life.{step_machine, stepped}
use Rattle.sip_agent_laws.specs.Transactions.Copies.{TicksInTime, copies, is_address, is_copy, latest_repeat}

-- ---- how often

more_later : (pace : Pace) (lag j k : ℕ) → latest_repeat pace lag j ≤ latest_repeat pace lag (k + j)
more_later pace lag j zero = let e : zero + j ≡ j = omega arith in rw e (omega arith)
more_later pace lag j (suc k) = let e : suc k + j ≡ suc (k + j) = omega arith in
    rw e (omega (arith, more_later pace lag j k))

pub as_often : (pace : Pace) (lag repeats fired : ℕ)
    → latest_repeat pace lag repeats < latest_repeat pace lag (suc fired) → repeats ≤ fired
as_often pace lag repeats fired earlier =
    elim (dec_le repeats fired) [
      | yes fine ↦ fine
      | no fewer ↦
          let whole : (repeats - suc fired) + suc fired ≡ repeats = omega arith in
          let more : latest_repeat pace lag (suc fired) ≤ latest_repeat pace lag repeats =
          subst (λ n. latest_repeat pace lag (suc fired) ≤ latest_repeat pace lag n) whole
          (more_later pace lag (suc fired) (repeats - suc fired)) in
          absurd (no_room (latest_repeat pace lag repeats) (latest_repeat pace lag (suc fired))
          earlier more)
    ]
  where
    no_room : (a b : ℕ) → a < b → b ≤ a → ⊥
    no_room a b less more = omega arith

itself : (text : List ℕ) → bytes_eq text text ≡ true
itself text = (bytes_eq-Decides text text).1 refl

same_address : (to : Addr) → is_address to to ≡ true
same_address to = ap (λ b. b && (to.port == to.port)) (itself to.ip)
    ∙ (Decides-eqb to.port to.port).1 refl

pub one_copy : (key : Key) (to : Addr) (text : List ℕ)
    → copies to text (Send key to text ∷ []) ≡ 1
one_copy key to text =
    ap (λ b. 0 + cond {A = ℕ} (b && bytes_eq text text) 1 0) (same_address to)
    ∙ ap (λ b. 0 + cond {A = ℕ} b 1 0) (itself text)

pub or_false : (a b : Bool) → (a || b) ≡ false → (a ≡ false) × (b ≡ false)
or_false true b is = absurd (false≢true (sym is))
or_false false b is = (refl, is)

-- ---- a transaction that repeats

-- A life for each moment of its next repeat and each count of those that were. A tick before its
-- end sends the text again, if the repeat is due, and does nothing otherwise; what doesn't end it
-- leaves it as it is.
pub record Repeats : Type 0 where
  pub key : Key
  pub to : Addr
  pub text : List ℕ
  pub pace : Pace
  pub end : ℕ
  pub life : ℕ → ℕ → Life
  pub ends : Timed Input → Bool
  pub due : (repeat fired : ℕ) → life_due (life repeat fired) ≡ Some (min end repeat)
  pub ticked : (repeat fired now : ℕ) → ends (tick_at now) ≡ false → (due : Bool)
      → nat_le repeat now ≡ due
      → stepped key (Some (life repeat fired)) (tick_at now)
      ≡ cond due (Some (life (now + interval pace (fired + 1)) (fired + 1)), Send key to text ∷ [])
      (Some (life repeat fired), [])
  pub calm : (repeat fired now : ℕ) (input : Input) → ends (given_at now input) ≡ false
      → (stepped key (Some (life repeat fired)) (given_at now input)).0 ≡ Some (life repeat fired)

module _ (r : Repeats) (lag start repeats last : ℕ)
    (late : start + latest_repeat r.pace lag repeats < last) where
  abbrev pub Often : ℕ → List (Timed Input) → Option Life × List Out → Type 0
  Often sent inputs after =
      TicksInTime step_machine lag r.key after.0 (inputs ++ tick_at last ∷ [])
      → suc repeats ≤ sent + copies r.to r.text
      (after.1 ++ outputs_from step_machine r.key after.0 inputs)

  -- so often it has fired by then
  abbrev pub Fired : ℕ → ℕ → Type 0
  Fired repeat fired =
      repeat ≤ start + latest_repeat r.pace lag fired + interval r.pace fired

  module _ (inputs : List (Timed Input)) (repeat fired sent now : ℕ)
      (rest : (repeat fired sent : ℕ) → Fired repeat fired → suc fired ≤ sent
      → Often sent inputs (Some (r.life repeat fired), []))
      (by : Fired repeat fired) (enough : suc fired ≤ sent) where
    stays : (after : Option Life × List Out) → after.0 ≡ Some (r.life repeat fired)
        → Often sent inputs after
    stays after is in_time =
        let next = rest repeat fired sent by enough
        (subst (λ held. TicksInTime step_machine lag r.key held (inputs ++ tick_at last ∷ [])) is
        in_time) in
        let later = outputs_from step_machine r.key (Some (r.life repeat fired)) inputs in
        let all = sum_by-append (λ o. cond (is_copy r.to r.text o) 1 0) after.1 later in
        subst (λ held. suc repeats ≤ sent + copies r.to r.text
        (after.1 ++ outputs_from step_machine r.key held inputs)) (sym is)
        (omega (arith, next, all))

    goes : now ≤ repeat + lag → Often sent inputs
        (Some (r.life (now + interval r.pace (fired + 1)) (fired + 1)), Send r.key r.to r.text ∷ [])
    goes soon more =
        let one : suc fired ≡ fired + 1 = omega arith in
        let by_then : now + interval r.pace (fired + 1)
        ≤ start + latest_repeat r.pace lag (fired + 1) + interval r.pace (fired + 1) =
        subst (λ n. now + interval r.pace n
        ≤ start + latest_repeat r.pace lag n + interval r.pace n) one
        (omega arith) in
        let next = rest (now + interval r.pace (fired + 1)) (fired + 1)
        (sent + 1) by_then (omega arith) more in
        let later = outputs_from step_machine r.key
        (Some (r.life (now + interval r.pace (fired + 1)) (fired + 1))) inputs in
        let copy = one_copy r.key r.to r.text in
        let all = sum_by-append (λ o. cond (is_copy r.to r.text o) 1 0)
        (Send r.key r.to r.text ∷ []) later in
        omega (arith, next, copy, all)

    by_due : (due : Bool) → now ≤ repeat + lag → Often sent inputs (cond due
        (Some (r.life (now + interval r.pace (fired + 1)) (fired + 1)), Send r.key r.to r.text ∷ [])
        (Some (r.life repeat fired), []))
    by_due true soon = goes soon
    by_due false soon = rest repeat fired sent by enough

    by_input : (input : Option Input) → r.ends (record { moment = now; input = input }) ≡ false
        → (input ≡ None → now ≤ min r.end repeat + lag)
        → Often sent inputs
        (stepped r.key (Some (r.life repeat fired)) (record { moment = now; input = input }))
    by_input None before soon =
        subst (Often sent inputs) (sym (r.ticked repeat fired now before (nat_le repeat now) refl))
        (by_due (nat_le repeat now) (omega (arith, soon refl)))
    by_input (Some input) before soon =
        stays (stepped r.key (Some (r.life repeat fired)) (given_at now input))
        (r.calm repeat fired now input before)

  in_time_of : (repeat fired : ℕ) (timed : Timed Input)
      → (timed.input ≡ None
      → IfSome (life_due (r.life repeat fired)) (λ moment. timed.moment ≤ moment + lag))
      → timed.input ≡ None → timed.moment ≤ min r.end repeat + lag
  in_time_of repeat fired timed in_time is =
      subst (λ due. IfSome due (λ moment. timed.moment ≤ moment + lag)) (r.due repeat fired)
      (in_time is)

  pub often : (inputs : List (Timed Input)) → list_any r.ends inputs ≡ false
      → (repeat fired sent : ℕ) → Fired repeat fired → suc fired ≤ sent
      → Often sent inputs (Some (r.life repeat fired), [])
  often [] none repeat fired sent by enough in_time =
      let at : last ≤ min r.end repeat + lag =
      in_time_of repeat fired (tick_at last) in_time.0 refl in
      let fewer : repeats ≤ fired = as_often r.pace lag repeats fired (omega arith) in
      omega arith
  often (timed ∷ inputs) none repeat fired sent by enough in_time =
      let ends = or_false (r.ends timed) (list_any r.ends inputs) none in
      by_input inputs repeat fired sent timed.moment (often inputs ends.1) by enough timed.input
      ends.0 (in_time_of repeat fired timed in_time.0) in_time.1

  -- from the moment at which the text went out first
  pub from_first : (inputs : List (Timed Input)) → list_any r.ends inputs ≡ false → (repeat : ℕ)
      → repeat ≤ start + interval r.pace 0
      → Often 0 inputs (Some (r.life repeat 0), Send r.key r.to r.text ∷ [])
  from_first inputs none repeat first in_time =
      let next = often inputs none repeat 0 1 (omega arith) (omega arith) in_time in
      let rest = outputs_from step_machine r.key (Some (r.life repeat 0)) inputs in
      let copy = one_copy r.key r.to r.text in
      let all = sum_by-append (λ o. cond (is_copy r.to r.text o) 1 0)
      (Send r.key r.to r.text ∷ []) rest in
      omega (arith, next, copy, all)
