-- Facts about the tables, shown by tests of all their rows.
use Rattle.std.proofs.Common.{◌≡◌, ℕ, ◌+◌, ◌≤◌, Bool, true, false, cond, ◌&&◌, ◌||◌, List, [], ◌∷◌, ◌⊎◌, inl, inr, refl, sym, ◌∙◌, ap, subst, arith, zero, suc, zero-add}
use Rattle.std.specs.Prelude.{◌==◌, not, Option, None, Some, count_by}
use Rattle.std.specs.List.{list_any, list_all, slice_get}
use Rattle.std.proofs.lemmas.List.Sums.{sum_by-cons}
use Rattle.std.proofs.lemmas.Bool.{false≢true}
use borrow.Author.Tests.{eqb-true}
use Rattle.sip_transactions.specs.declared.state.State.{State}
use Rattle.sip_transactions.specs.declared.state.State.TheVariants.{Calling, Trying, Proceeding, Completed, Accepted, Confirmed}
use Rattle.sip_transactions.specs.declared.trigger.Class.TheVariants as class
use Rattle.sip_transactions.specs.declared.trigger.Trigger.TheVariants as on
use Rattle.sip_transactions.specs.declared.state.Role.{Role}
use Rattle.sip_transactions.specs.declared.state.Role.TheVariants.{InviteClient, Client, InviteServer, Server}
use Rattle.sip_transactions.specs.declared.step.Step.{Step}
use Rattle.sip_transactions.specs.declared.trigger.Trigger.{Trigger}
use Rattle.sip_transactions.specs.Rows.{Row, fits, row_of, rows_of, state_place, trigger_place}
use Rattle.sip_transactions.specs.Laws.{AtMostOneRow}

pub and-left : (a b : Bool) → (a && b) ≡ true → a ≡ true
and-left true b e = refl
and-left false b e = e

pub and-right : (a b : Bool) → (a && b) ≡ true → b ≡ true
and-right true b e = e
and-right false b e = absurd (false≢true e)

pub or_cases : (a b : Bool) → (a || b) ≡ true → (a ≡ true) ⊎ (b ≡ true)
or_cases true b e = inl refl
or_cases false b e = inr e

or-left : (a b : Bool) → a ≡ true → (a || b) ≡ true
or-left true b e = refl
or-left false b e = absurd (false≢true e)

or-right : (a b : Bool) → b ≡ true → (a || b) ≡ true
or-right true b e = refl
or-right false b e = e

pub by_test : {G : Type 0} (b : Bool) → (b ≡ true → G) → (b ≡ false → G) → G
by_test true then' else' = then' refl
by_test false then' else' = else' refl

pub not_both : (b : Bool) → b ≡ true → b ≡ false → ⊥
not_both b on_true on_false = false≢true (sym on_false ∙ on_true)

-- ---- a test of each state, trigger and step of a table
abbrev all_states : List (Option State)
all_states = None ∷ Some Calling ∷ Some Trying ∷ Some Proceeding ∷ Some Completed ∷ Some Accepted
    ∷ Some Confirmed ∷ []

abbrev all_triggers : List Trigger
all_triggers =
    on.Start ∷ on.RetransmitDue ∷ on.TimeoutDue ∷ on.Failed ∷ on.Request ∷ on.Ack
    ∷ on.Response class.Trying ∷ on.Response class.Provisional ∷ on.Response class.Success
    ∷ on.Response class.Failure
    ∷ on.Answer class.Trying ∷ on.Answer class.Provisional ∷ on.Answer class.Success
    ∷ on.Answer class.Failure ∷ []

state_listed : (s : Option State) → slice_get all_states (state_place s) ≡ Some s
state_listed None = refl
state_listed (Some Calling) = refl
state_listed (Some Trying) = refl
state_listed (Some Proceeding) = refl
state_listed (Some Completed) = refl
state_listed (Some Accepted) = refl
state_listed (Some Confirmed) = refl

trigger_listed : (t : Trigger) → slice_get all_triggers (trigger_place t) ≡ Some t
trigger_listed on.Start = refl
trigger_listed on.RetransmitDue = refl
trigger_listed on.TimeoutDue = refl
trigger_listed on.Failed = refl
trigger_listed on.Request = refl
trigger_listed on.Ack = refl
trigger_listed (on.Response class.Trying) = refl
trigger_listed (on.Response class.Provisional) = refl
trigger_listed (on.Response class.Success) = refl
trigger_listed (on.Response class.Failure) = refl
trigger_listed (on.Answer class.Trying) = refl
trigger_listed (on.Answer class.Provisional) = refl
trigger_listed (on.Answer class.Success) = refl
trigger_listed (on.Answer class.Failure) = refl

passes_at : {X : Type 0} (test : X → Bool) (xs : List X) (i : ℕ) (x : X) → list_all test xs ≡ true
    → slice_get xs i ≡ Some x → test x ≡ true
passes_at test [] i x all at = cc
passes_at test (y ∷ ys) zero x all at =
    let same : y ≡ x = cc in
    subst (λ z. test z ≡ true) same (and-left (test y) (list_all test ys) all)
passes_at test (y ∷ ys) (suc i) x all at =
    passes_at test ys i x (and-right (test y) (list_all test ys) all) at

abbrev step_passes : (Step → Bool) → Option Step → Bool
step_passes test None = true
step_passes test (Some step) = test step

-- each row of a table passes the test
abbrev pub table_passes : (Option State → Trigger → Step → Bool) → List Row → Bool
table_passes test rows =
    list_all (λ s. list_all (λ t. step_passes (test s t) (row_of rows s t)) all_triggers) all_states

pub row_passes : (test : Option State → Trigger → Step → Bool) (rows : List Row)
    → table_passes test rows ≡ true → (s : Option State) (t : Trigger) (step : Step)
    → row_of rows s t ≡ Some step → test s t step ≡ true
row_passes test rows all s t step found =
    let at_state : list_all (λ u. step_passes (test s u) (row_of rows s u)) all_triggers ≡ true =
    passes_at (λ r. list_all (λ u. step_passes (test r u) (row_of rows r u)) all_triggers)
    all_states (state_place s) s all (state_listed s) in
    let at_trigger : step_passes (test s t) (row_of rows s t) ≡ true =
    passes_at (λ u. step_passes (test s u) (row_of rows s u)) all_triggers
    (trigger_place t) t at_state (trigger_listed t) in
    sym (ap (step_passes (test s t)) found) ∙ at_trigger

-- ---- lists by places
module _ {X : Type 0} (place : X → ℕ) where
  -- an element of both lists
  abbrev pub share : List X → List X → Bool
  share xs ys = list_any (λ x. list_any (λ y. place y == place x) ys) xs

  pub shared : (n : ℕ) (xs ys : List X) → list_any (λ x. place x == n) xs ≡ true
      → list_any (λ y. place y == n) ys ≡ true → share xs ys ≡ true
  shared n [] ys one other = absurd (false≢true one)
  shared n (x ∷ xs) ys one other =
      elim (or_cases (place x == n) (list_any (λ x. place x == n) xs) one) [
        | inl here ↦ or-left _ (share xs ys)
            (subst (λ m. list_any (λ y. place y == m) ys ≡ true)
            (sym (eqb-true (place x) n here)) other)
        | inr later ↦ or-right (list_any (λ y. place y == place x) ys) (share xs ys)
            (shared n xs ys later other)
      ]

-- two rows that fit no state and trigger together
abbrev pub apart : Row → Row → Bool
apart r s = not (share state_place r.from s.from && share trigger_place r.on s.on)

abbrev pub all_apart : List Row → Bool
all_apart [] = true
all_apart (r ∷ rs) = list_all (apart r) rs && all_apart rs

not_true : (b : Bool) → not b ≡ true → b ≡ true → ⊥
not_true true e on_true = false≢true e
not_true false e on_true = false≢true on_true

both_true : (a b : Bool) → a ≡ true → b ≡ true → (a && b) ≡ true
both_true true b on_a on_b = on_b
both_true false b on_a on_b = on_a

count-cons : (p : Row → Bool) (r : Row) (rows : List Row)
    → count_by p (r ∷ rows) ≡ cond (p r) 1 0 + count_by p rows
count-cons p r rows = sum_by-cons (λ x. cond (p x) 1 0) r rows

none_fits : (state : Option State) (trigger : Trigger) (r : Row) (rows : List Row)
    → fits r state trigger ≡ true → list_all (apart r) rows ≡ true
    → count_by (λ row. fits row state trigger) rows ≡ 0
none_fits state trigger r [] here all = refl
none_fits state trigger r (s ∷ rows) here all =
    by_test (fits s state trigger)
    (λ hit. absurd (not_true (share state_place r.from s.from && share trigger_place r.on s.on)
    (and-left (apart r s) (list_all (apart r) rows) all)
    (both_true _ _
    (shared state_place (state_place state) r.from s.from
    (and-left _ (list_any (λ on. trigger_place on == trigger_place trigger) r.on) here)
    (and-left _ (list_any (λ on. trigger_place on == trigger_place trigger) s.on) hit))
    (shared trigger_place (trigger_place trigger) r.on s.on
    (and-right (list_any (λ from. state_place from == state_place state) r.from) _ here)
    (and-right (list_any (λ from. state_place from == state_place state) s.from) _ hit)))))
    (λ miss. count-cons (λ row. fits row state trigger) s rows
    ∙ ap (λ b. cond b 1 0 + count_by (λ row. fits row state trigger) rows) miss ∙ zero-add _
    ∙ none_fits state trigger r rows here (and-right (apart r s) (list_all (apart r) rows) all))

at_most_one_of : (state : Option State) (trigger : Trigger) (rows : List Row)
    → all_apart rows ≡ true → count_by (λ row. fits row state trigger) rows ≤ 1
at_most_one_of state trigger [] all = omega arith
at_most_one_of state trigger (r ∷ rows) all =
    let parts : count_by (λ row. fits row state trigger) (r ∷ rows)
    ≡ cond (fits r state trigger) 1 0 + count_by (λ row. fits row state trigger) rows =
    count-cons (λ row. fits row state trigger) r rows in
    by_test (fits r state trigger)
    (λ hit. let none : count_by (λ row. fits row state trigger) rows
    ≡ 0 = none_fits state trigger r rows hit
    (and-left (list_all (apart r) rows) (all_apart rows) all) in
    let here : cond {A = ℕ} (fits r state trigger) 1 0 ≡ 1 = ap (λ b. cond {A = ℕ} b 1 0) hit in
    omega arith)
    (λ miss. let more : count_by (λ row. fits row state trigger) rows
    ≤ 1 = at_most_one_of state trigger rows
    (and-right (list_all (apart r) rows) (all_apart rows) all) in
    let here : cond {A = ℕ} (fits r state trigger) 1 0 ≡ 0 = ap (λ b. cond {A = ℕ} b 1 0) miss in
    omega arith)

tables_apart : (role : Role) → all_apart (rows_of role) ≡ true
tables_apart InviteClient = refl
tables_apart Client = refl
tables_apart InviteServer = refl
tables_apart Server = refl

pub at_most_one_row : AtMostOneRow
at_most_one_row role state trigger = at_most_one_of state trigger (rows_of role) (tables_apart role)
