-- Each call keeps what is always true of the responses that wait.
use Rattle.std.proofs.Common.{◌≡◌, ℕ, suc, ◌+◌, ◌≤◌, ◌==◌, nat_lt, not, ◌||◌, Bool, true, false, cond, List, [], ◌∷◌, ◌++◌, length, map, filter, take, drop, Option, Some, None, Ok, refl, sym, ap, subst, ◌∙◌, arith, length-append}
use Rattle.std.specs.List.{list_any, refill}
use Rattle.std.specs.List.Retain.{RetainsInTurn}
use Rattle.std.proofs.lemmas.Bool.{eqb-false, eqb-true, ltb-false, true≢false}
use Rattle.std.proofs.Math.Seq.{take-append_seam}
use Rattle.std.proofs.lemmas.List.{length-map}
use Rattle.std.proofs.lemmas.List.Folds.{list_any-append}
use Rattle.sip_reliable.specs.declared.provisional.TheConstants.{MOST_WAITING}
use Rattle.sip_reliable.specs.declared.send_fault.SendFault.{SendFault}
use Rattle.sip_reliable.specs.declared.send_fault.SendFault.TheVariants as fault
use Rattle.sip_reliable.specs.Provisional.{Provisional, after_repeat, given_up, is_given_up, is_repeated, sent_again}
use Rattle.sip_reliable.specs.Ledger.{Ledger, FewWait, must_wait, ok_unless, send_answer, send_fault}
use Rattle.sip_reliable.specs.Sound.{Rise, IsSound}

-- ---- the numbers rise

lower : (low low' next : ℕ) (ps : List Provisional) → low' ≤ low → Rise low next ps
    → Rise low' next ps
lower low low' next [] below rise = omega arith
lower low low' next (p ∷ ps) below rise = (omega (arith, rise.0), rise.1)

rise_next : (low next : ℕ) (ps : List Provisional) (p : Provisional) → p.number ≡ next
    → Rise low next ps → Rise low (next + 1) (ps ++ p ∷ [])
rise_next low next [] p is rise = (omega arith, omega arith)
rise_next low next (q ∷ ps) p is rise = (rise.0, rise_next (q.number + 1) next ps p is rise.1)

rise_step : (low next : ℕ) (p : Provisional) (rest : List Provisional) (b : Bool)
    → low ≤ p.number → Rise (p.number + 1) next rest → Rise low next (cond b (p ∷ rest) rest)
rise_step low next p rest true first rise = (first, rise)
rise_step low next p rest false first rise = lower (p.number + 1) low next rest (omega arith) rise

pub rise_kept : (test : Provisional → Bool) (low next : ℕ) (ps : List Provisional)
    → Rise low next ps → Rise low next (filter test ps)
rise_kept test low next [] rise = rise
rise_kept test low next (p ∷ ps) rise =
    rise_step low next p (filter test ps) (test p) rise.0
    (rise_kept test (p.number + 1) next ps rise.1)

rise_mapped : (f : Provisional → Provisional) → ((p : Provisional) → (f p).number ≡ p.number)
    → (low next : ℕ) (ps : List Provisional) → Rise low next ps → Rise low next (map f ps)
rise_mapped f same low next [] rise = rise
rise_mapped f same low next (p ∷ ps) rise =
    let rest = rise_mapped f same (p.number + 1) next ps rise.1 in
    rw (same p) (rise.0, rest)

-- the next number is above theirs
pub rise_up : (low next : ℕ) (ps : List Provisional) → Rise low next ps → low ≤ next
rise_up low next [] rise = rise
rise_up low next (p ∷ ps) rise = omega (arith, rise.0, rise_up (p.number + 1) next ps rise.1)

-- if no number was used, no response waits
none_used : (first next : ℕ) (ps : List Provisional) → next ≤ first → Rise first next ps → ps ≡ []
none_used first next [] used rise = refl
none_used first next (p ∷ ps) used rise =
    absurd (omega (arith, used, rise.0, rise_up (p.number + 1) next ps rise.1))

-- ---- each call

free_by : (c n w u : Bool)
    → cond c (Some fault.Closed) (cond n (Some fault.NotSupported)
    (cond w (Some fault.Unacknowledged) (cond u (Some fault.NumbersUsedUp) None))) ≡ None
    → (w ≡ false) × (u ≡ false)
free_by true n w u e = absurd cc
free_by false true w u e = absurd cc
free_by false false true u e = absurd cc
free_by false false false true e = absurd cc
free_by false false false false e = (refl, refl)

-- if a response may be sent, no PRACK has to come before it, and a number is left
pub free : (l : Ledger) → send_fault l ≡ None
    → (must_wait l ≡ false) × (nat_lt 4294967295 l.next ≡ false)
free l e = free_by l.closed (not l.supported) (must_wait l) (nat_lt 4294967295 l.next) e

neither : (x y z : Bool) → (x || y || z) ≡ false → (x ≡ false) × (y ≡ false)
neither true y z e = absurd cc
neither false true z e = absurd cc
neither false false z e = (refl, refl)

pub sound_new : (first : ℕ) → IsSound first first []
sound_new first = record { rise = omega arith; room = omega arith; alone = λ _. omega arith }

pub sound_sent : (first next : ℕ) (ps : List Provisional) (p : Provisional) → p.number ≡ next
    → (list_any (λ p. p.number == first) ps || (length ps == MOST_WAITING)
    || list_any is_given_up ps) ≡ false
    → IsSound first next ps → IsSound first (next + 1) (ps ++ p ∷ [])
sound_sent first next ps p is free sound = record {
  rise = rise_next first next ps p is sound.rise;
  room = omega (
    arith,
    sound.room,
    length-append ps (p ∷ []),
    eqb-false (length ps) MOST_WAITING (parts.1),
  );
  alone = λ waits. only (p.number == first) refl (sym others ∙ waits);
}
  where
    parts : (list_any (λ p. p.number == first) ps ≡ false) × ((length ps == MOST_WAITING) ≡ false)
    parts = neither (list_any (λ p. p.number == first) ps) (length ps == MOST_WAITING)
        (list_any is_given_up ps) free

    others : list_any (λ p. p.number == first) (ps ++ p ∷ []) ≡ ((p.number == first) || false)
    others = list_any-append (λ p. p.number == first) ps (p ∷ [])
        ∙ ap (λ b. b || ((p.number == first) || false)) parts.0

    only : (b : Bool) → (p.number == first) ≡ b → ((p.number == first) || false) ≡ true
        → length (ps ++ p ∷ []) ≤ 1
    only true same waits =
        let none = none_used first next ps (omega (arith, is, eqb-true p.number first same))
        sound.rise in
        rw none (omega arith)
    only false other waits = absurd (true≢false (sym waits ∙ ap (λ b. b || false) other))

any_of_step : (q : Provisional → Bool) (p : Provisional) (kept ps : List Provisional) (b c : Bool)
    → q p ≡ c → (list_any q kept ≡ true → list_any q ps ≡ true)
    → list_any q (cond b (p ∷ kept) kept) ≡ true → (q p || list_any q ps) ≡ true
any_of_step q p kept ps b true is later e = ap (λ c. c || list_any q ps) is
any_of_step q p kept ps true false is later e =
    ap (λ c. c || list_any q ps) is ∙ later (sym (ap (λ c. c || list_any q kept) is) ∙ e)
any_of_step q p kept ps false false is later e =
    ap (λ c. c || list_any q ps) is ∙ later e

any_of_kept : (q test : Provisional → Bool) (ps : List Provisional)
    → list_any q (filter test ps) ≡ true → list_any q ps ≡ true
any_of_kept q test [] e = e
any_of_kept q test (p ∷ ps) e =
    any_of_step q p (filter test ps) ps (test p) (q p) refl (any_of_kept q test ps) e

longer_step : {X : Type 0} (b : Bool) (x : X) (kept xs : List X) → length kept ≤ length xs
    → length (cond b (x ∷ kept) kept) ≤ suc (length xs)
longer_step true x kept xs less = omega (arith, less)
longer_step false x kept xs less = omega (arith, less)

pub not_longer : {X : Type 0} (test : X → Bool) (xs : List X) → length (filter test xs) ≤ length xs
not_longer test [] = omega arith
not_longer test (x ∷ xs) = longer_step (test x) x (filter test xs) xs (not_longer test xs)

pub sound_kept : (first next : ℕ) (test : Provisional → Bool) (ps : List Provisional)
    → IsSound first next ps → IsSound first next (filter test ps)
sound_kept first next test ps sound = record {
  rise = rise_kept test first next ps sound.rise;
  room = omega (arith, sound.room, not_longer test ps);
  alone = λ waits. omega (
    arith,
    not_longer test ps,
    sound.alone (any_of_kept (λ p. p.number == first) test ps waits),
  );
}

any_mapped : (f : Provisional → Provisional) → ((p : Provisional) → (f p).number ≡ p.number)
    → (n : ℕ) (ps : List Provisional)
    → list_any (λ p. p.number == n) (map f ps) ≡ list_any (λ p. p.number == n) ps
any_mapped f same n [] = refl
any_mapped f same n (p ∷ ps) = λ i. (same p i == n) || any_mapped f same n ps i

sound_mapped : (first next : ℕ) (f : Provisional → Provisional)
    → ((p : Provisional) → (f p).number ≡ p.number) → (ps : List Provisional)
    → IsSound first next ps → IsSound first next (map f ps)
sound_mapped first next f same ps sound = record {
  rise = rise_mapped f same first next ps sound.rise;
  room = omega (arith, sound.room, length-map ps f);
  alone = λ waits. omega (
    arith,
    length-map ps f,
    sound.alone
        (sym (any_mapped f same first ps) ∙ waits),
  );
}

pub repeat_keeps : (now : ℕ) (p : Provisional) → (after_repeat now p).number ≡ p.number
repeat_keeps now p = keeps (is_repeated now p)
  where
    keeps : (b : Bool) → (cond b (sent_again now p) p).number ≡ p.number
    keeps true = refl
    keeps false = refl

pub sound_repeated : (first next now : ℕ) (ps : List Provisional) → IsSound first next ps
    → IsSound first next (map (after_repeat now) ps)
sound_repeated first next now ps sound =
    sound_mapped first next (after_repeat now) (repeat_keeps now) ps sound

pub sound_given_up : (first next : ℕ) (ps : List Provisional) → IsSound first next ps
    → IsSound first next (map given_up ps)
sound_given_up first next ps sound = sound_mapped first next given_up (λ p. refl) ps sound

pub few_wait : (l : Ledger) → IsSound l.first l.next l.waiting → FewWait l
few_wait l sound = (sound.room, sound.alone)

none_by : (o : Option SendFault) (next number : ℕ) → Ok number ≡ ok_unless o next
    → (o ≡ None) × (number ≡ next)
none_by None next number e = (refl, cc)
none_by (Some fault) next number e = absurd cc

-- a ledger after one more response was sent
abbrev Sent : ℕ → ℕ → List Provisional → Type 0
Sent first next ps = (next ≤ 4294967296) × IsSound first next ps

pub sent_sound : (first next : ℕ) (supported closed : Bool) (ps : List Provisional) (old : Ledger)
    (number : ℕ) (p : Provisional)
    → record {
      first = first;
      next = next;
      supported = supported;
      closed = closed;
      waiting = ps;
    } ≡ old
    → Ok number ≡ send_answer old → p.number ≡ number → IsSound first next ps
    → Sent first (next + 1) (ps ++ p ∷ [])
sent_sound first next supported closed ps old number p is sent its sound =
    let l : Ledger = record {
      first = first;
      next = next;
      supported = supported;
      closed = closed;
      waiting = ps;
    } in
    let given = none_by (send_fault l) next number (sent ∙ ap send_answer (sym is)) in
    let parts = free l given.0 in (
      omega (arith, ltb-false 4294967295 next parts.1),
      sound_sent first next ps p (its ∙ given.1) parts.0 sound,
    )

-- what a closure that only tests leaves of a list
pub retained : {S X : Type 0} (R : S → X → Bool → S → X → Type 0) (test : X → Bool) (s : S)
    → ((x : X) (b : Bool) (t : S) (y : X) → R s x b t y → (b ≡ test x) × (t ≡ s) × (y ≡ x))
    → (xs ys : List X) → RetainsInTurn R s xs ys → ys ≡ filter test xs
retained R test s tests [] ys done = done
retained {X = X} R test s tests (x ∷ xs) ys (b, t, y, call, zs, rest, is) =
    let same = tests x b t y call in
    let later : zs ≡ filter test xs = retained R test s tests xs zs
    (subst (λ u. RetainsInTurn R u xs zs) same.1 rest) in
    is ∙ (λ i. cond (same.0 i) (same.2 i ∷ later i) (later i))

-- a list that was written over one of the same length stands in its place
pub refilled : (f : Provisional → Provisional) (ps qs : List Provisional) → qs ≡ map f ps
    → refill (length ps) ps qs ≡ map f ps
refilled f ps qs is =
    let same : length qs ≡ length ps = ap length is ∙ length-map ps f in
    ap (λ n. take n (qs ++ drop (length qs) ps)) (sym same)
    ∙ take-append_seam qs (drop (length qs) ps) ∙ is
