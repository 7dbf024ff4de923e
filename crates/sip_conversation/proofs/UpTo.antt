-- Turns and inputs up to a moment, and those after it.
use Rattle.std.proofs.Common.{◌≡◌, ℕ, ◌<◌, ◌≤◌, Bool, true, false, cond, ◌||◌, List, [], ◌∷◌, ◌++◌, map, refl, sym, ap, ◌∙◌, subst, arith, ⊎_elim}
use Rattle.std.specs.Prelude.{Contains, Option, filter}
use Rattle.std.specs.List.{AllByRecursion, list_any}
use Rattle.std.proofs.lemmas.Bool.{false≢true}
use native.Mathlib.Decide.{dec_le}
use Rattle.sip_message.specs.declared.key.Key.{Key}
use Rattle.keyed_machine.specs.Machine.{Timed, next, state_from}
use Rattle.keyed_machine.proofs.Ordered.{by_bool}
use Rattle.sip_transactions.specs.declared.input.Input.{Input}
use Rattle.sip_transactions.specs.declared.life.Life.{Life}
use Rattle.sip_transactions.specs.Machine.{transaction_machine}
use Rattle.sip_round.specs.declared.round.Round.{Round}
use Rattle.sip_conversation.specs.Conversation.{Side, Turn, is_side, rounds_of}
use Rattle.sip_agent_laws.specs.Transactions.Copies.{TicksInTime}
use Rattle.sip_conversation.specs.Delivery.{ShareAClock}
use Rattle.sip_conversation.proofs.Fronts.{own_side}
use Rattle.sip_agent_laws.proofs.transactions.Often.{or_false}
use Rattle.sip_conversation.proofs.Among.{all_go, among_first, among_kept, among_later, among_mapped, first_or_later, kept_among, mapped_among, none_among}

-- ---- turns

abbrev pub IsBy : ℕ → Turn → Type 0
IsBy moment turn = (turn.round).moment ≤ moment

abbrev pub IsLater : ℕ → Turn → Type 0
IsLater moment turn = moment < (turn.round).moment

pub record Parted (moment : ℕ) (turns : List Turn) : Type 0 where
  pub front : List Turn
  pub rest : List Turn
  pub are : turns ≡ front ++ rest
  pub early : AllByRecursion (IsBy moment) front
  pub late : AllByRecursion (IsLater moment) rest

pub parted : (moment : ℕ) (turns : List Turn) → ShareAClock turns → Parted moment turns
parted moment [] clock =
    record { front = []; rest = []; are = refl; early = tt; late = tt }
parted moment (turn ∷ turns) clock =
    elim (dec_le (turn.round).moment moment) [
      | yes by ↦
          let others = parted moment turns clock.1 in
          record {
            front = turn ∷ others.front;
            rest = others.rest;
            are = ap (λ ts. turn ∷ ts) others.are;
            early = (by, others.early);
            late = others.late;
          }
      | no after ↦ record {
        front = [];
        rest = turn ∷ turns;
        are = refl;
        early = tt;
        late = (
          omega arith,
          all_go {P = λ later. (turn.round).moment ≤ (later.round).moment} {Q = IsLater moment}
              (λ later from. omega arith) turns clock.0,
        );
      }
    ]

-- ---- the rounds of a side

module _ (P : ℕ → Type 0) (s : Side) where
  kept_at : (own : Bool) (turn : Turn) (kept : List Turn) → P (turn.round).moment
      → AllByRecursion (λ (round : Round). P round.moment) (map (λ (t : Turn). t.round) kept)
      → AllByRecursion (λ (round : Round). P round.moment)
      (map (λ (t : Turn). t.round) (cond own (turn ∷ kept) kept))
  kept_at true turn kept here rest = (here, rest)
  kept_at false turn kept here rest = rest

  pub rounds_at : (turns : List Turn) → AllByRecursion (λ turn. P (turn.round).moment) turns
      → AllByRecursion (λ round. P round.moment) (rounds_of s turns)
  rounds_at [] at = tt
  rounds_at (turn ∷ turns) at =
      kept_at (is_side s turn.side) turn (filter (λ t. is_side s t.side) turns) at.0
      (rounds_at turns at.1)

pub own_round : (s : Side) (turns : List Turn) (turn : Turn) → Contains turns turn
    → turn.side ≡ s → Contains (rounds_of s turns) turn.round
own_round s turns turn among of =
    mapped_among (λ (t : Turn). t.round) (filter (λ t. is_side s t.side) turns) turn
    (among_kept (λ (t : Turn). is_side s t.side) turns turn among
    (ap (is_side s) of ∙ own_side s))

-- a round of a side is that of one of its turns
pub round_of : (s : Side) (turns : List Turn) (round : Round) → Contains (rounds_of s turns) round
    → (turn : Turn) × Contains turns turn × (turn.round ≡ round)
round_of s turns round among =
    let found = among_mapped (λ (t : Turn). t.round) (filter (λ t. is_side s t.side) turns) round
    among in (
      found.0,
      (kept_among (λ (t : Turn). is_side s t.side) turns found.0 found.1).0,
      found.2,
    )

-- ---- lists

pub record IsFirst {X : Type 0} (xs : List X) : Type 0 where
  pub first : X
  pub more : List X
  pub are : xs ≡ first ∷ more

pub has_first : {X : Type 0} (xs : List X) (x : X) → Contains xs x → IsFirst xs
has_first [] x among = absurd (none_among x among)
has_first (y ∷ ys) x among = record { first = y; more = ys; are = refl }

-- an element stands between others
pub record StandsAt {X : Type 0} (xs : List X) (x : X) : Type 0 where
  pub before : List X
  pub after : List X
  pub are : xs ≡ before ++ x ∷ after

pub stands_at : {X : Type 0} (xs : List X) (x : X) → Contains xs x → StandsAt xs x
stands_at [] x among = absurd (none_among x among)
stands_at (y ∷ ys) x among =
    ⊎_elim (λ same. record { before = []; after = ys; are = ap (λ z. z ∷ ys) same })
    (λ later. let rest = stands_at ys x later in record {
      before = y ∷ rest.before;
      after = rest.after;
      are = ap (λ zs. y ∷ zs) rest.are;
    })
    (first_or_later y ys x among)

pub any_later : {X : Type 0} (p : X → Bool) (before : List X) (x : X) (after : List X)
    → list_any p (before ++ x ∷ after) ≡ false → list_any p after ≡ false
any_later p [] x after none = (or_false (p x) (list_any p after) none).1
any_later p (y ∷ before) x after none =
    any_later p before x after (or_false (p y) (list_any p (before ++ x ∷ after)) none).1

pub record IsAny {X : Type 0} (p : X → Bool) (xs : List X) : Type 0 where
  pub one : X
  pub among : Contains xs one
  pub passes : p one ≡ true

pub some_one : {X : Type 0} (p : X → Bool) (xs : List X) → list_any p xs ≡ true → IsAny p xs
some_one p [] any = absurd (false≢true any)
some_one p (x ∷ xs) any =
    by_bool (p x)
    (λ here. record { one = x; among = among_first x xs; passes = here })
    (λ not_here.
    let later = some_one p xs (sym (ap (λ b. b || list_any p xs) not_here) ∙ any) in
    record { one = later.one; among = among_later x xs later.one later.among; passes = later.passes })

-- none of them passes
pub each_not : {X : Type 0} (p : X → Bool) (xs : List X) → list_any p xs ≡ false → (x : X)
    → Contains xs x → p x ≡ false
each_not p [] none x among = absurd (none_among x among)
each_not p (y ∷ ys) none x among =
    let parts = or_false (p y) (list_any p ys) none in
    ⊎_elim (λ same. sym (ap p same) ∙ parts.0) (λ later. each_not p ys parts.1 x later)
    (first_or_later y ys x among)

-- ---- inputs

module _ (moment : ℕ) where
  abbrev pub InputBy : Timed Input → Type 0
  InputBy timed = timed.moment ≤ moment

  abbrev pub InputLater : Timed Input → Type 0
  InputLater timed = moment < timed.moment

  -- an input that came by the moment is one of the first ones
  pub record StandsEarly (before : List (Timed Input)) (start : Timed Input)
      (after first later : List (Timed Input)) : Type 0 where
    pub waiting : List (Timed Input)
    pub first_are : first ≡ before ++ start ∷ waiting
    pub after_are : after ≡ waiting ++ later

  not_later : (before : List (Timed Input)) (start : Timed Input) (after later : List (Timed Input))
      → later ≡ before ++ start ∷ after → AllByRecursion InputLater later
      → InputBy start → ⊥
  not_later before start after later same late by =
      in_order before (subst (AllByRecursion InputLater) same late)
    where
      in_order : (before : List (Timed Input))
          → AllByRecursion InputLater (before ++ start ∷ after) → ⊥
      in_order [] all = let so : moment < start.moment = all.0 in omega arith
      in_order (one ∷ before) all = in_order before all.1

  pub stands_early : (before : List (Timed Input)) (start : Timed Input)
      (after first later : List (Timed Input)) → first ++ later ≡ before ++ start ∷ after
      → AllByRecursion InputLater later → InputBy start
      → StandsEarly before start after first later
  stands_early before start after [] later same late by =
      absurd (not_later before start after later same late by)
  stands_early [] start after (one ∷ first) later same late by =
      let head : one ≡ start = cc in
      let tail : first ++ later ≡ after = cc in
      record {
        waiting = first;
        first_are = ap (λ t. t ∷ first) head;
        after_are = sym tail;
      }
  stands_early (other ∷ before) start after (one ∷ first) later same late by =
      let head : one ≡ other = cc in
      let tail : first ++ later ≡ before ++ start ∷ after = cc in
      let rest = stands_early before start after first later tail late by in
      record {
        waiting = rest.waiting;
        first_are = ap (λ t. t ∷ first) head ∙ ap (λ ts. other ∷ ts) rest.first_are;
        after_are = rest.after_are;
      }

-- ---- ticks in time

module _ (lag : ℕ) (key : Key) where
  abbrev InTime : Option Life → List (Timed Input) → Type 0
  InTime = TicksInTime transaction_machine lag key

  pub in_time_after : (held : Option Life) (before rest : List (Timed Input))
      → InTime held (before ++ rest)
      → InTime (state_from transaction_machine key held before) rest
  in_time_after held [] rest in_time = in_time
  in_time_after held (timed ∷ before) rest in_time =
      in_time_after (next transaction_machine key held timed) before rest in_time.1

  pub in_time_first : (held : Option Life) (front rest : List (Timed Input))
      → InTime held (front ++ rest) → InTime held front
  in_time_first held [] rest in_time = tt
  in_time_first held (timed ∷ front) rest in_time =
      (in_time.0, in_time_first (next transaction_machine key held timed) front rest in_time.1)
