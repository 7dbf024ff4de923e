-- What each call does to the ledger, as it is read from all that happened.
use Rattle.std.proofs.Common.{◌≡◌, ℕ, ◌+◌, ◌==◌, not, Bool, true, false, cond, List, [], ◌∷◌, ◌++◌, map, filter, Result, Ok, Err, IfOk, OnOk, refl, sym, ap, subst, ◌∙◌, append-nil, arith}
use Rattle.std.specs.List.{list_any}
use Rattle.arrayvec.specs.ArrayVec.{ArrayVec}
use Rattle.sip_reliable.specs.declared.tick.Tick.{Tick}
use Rattle.sip_reliable.specs.declared.tick.Tick.TheVariants.{Nothing, Again, GivenUp}
use Rattle.sip_reliable.specs.declared.send_fault.SendFault.{SendFault}
use Rattle.sip_reliable.specs.Happening.{Happening, Sends, Repeats, GivesUp, Acknowledges, Closes, is_sending, is_closing}
use Rattle.sip_reliable.specs.Provisional.{Provisional, after_repeat, given_up, is_late, is_repeated, sent_before}
use Rattle.sip_reliable.specs.Ledger.{Ledger, acknowledged, closed_now, due_numbers, happenings_of, ledger_after, tick_answer, ticked, with_sent}
use Rattle.sip_reliable.specs.Sound.{Rise}
use Rattle.sip_reliable.proofs.Life.{any_kept, any_more, count_kept, count_more, became, waiting_after-more}
use Rattle.sip_reliable.proofs.Repeats.{again}

map_same : (ps : List Provisional) → map (λ p. p) ps ≡ ps
map_same [] = refl
map_same (p ∷ ps) = ap (λ qs. p ∷ qs) (map_same ps)

filter_same : (ps : List Provisional) → filter (λ _. true) ps ≡ ps
filter_same [] = refl
filter_same (p ∷ ps) = ap (λ qs. p ∷ qs) (filter_same ps)

abbrev ledger_of : ℕ → Bool → ℕ → Bool → List Provisional → Ledger
ledger_of first supported next closed waiting = record {
  first = first;
  next = next;
  supported = supported;
  closed = closed;
  waiting = waiting;
}

same_ledger : (first : ℕ) (supported : Bool) (next next' : ℕ) (closed closed' : Bool)
    (waiting waiting' : List Provisional) → next' ≡ next → closed' ≡ closed → waiting' ≡ waiting
    → ledger_of first supported next' closed' waiting'
    ≡ ledger_of first supported next closed waiting
same_ledger first supported next next' closed closed' waiting waiting' p q r = cc

module _ (first : ℕ) (supported : Bool) (life : List Happening) where
  abbrev before : Ledger
  before = ledger_after first supported life

  pub sends_more : (has_body : Bool) (now : ℕ)
      → ledger_after first supported (life ++ Sends before.next has_body now ∷ [])
      ≡ with_sent has_body now before
  sends_more has_body now =
      let h = Sends before.next has_body now in
      same_ledger first supported (before.next + 1) _ before.closed _
      (before.waiting ++ sent_before before.next has_body now [] ∷ []) _
      (let c = count_more is_sending life h refl in omega arith)
      (any_kept is_closing life h refl)
      (waiting_after-more life h ∙ ap (λ ps. ps ++ sent_before before.next has_body now [] ∷ [])
      (map_same (filter (λ _. true) before.waiting) ∙ filter_same before.waiting))

  pub acknowledges_more : (number : ℕ)
      → ledger_after first supported (life ++ Acknowledges number ∷ []) ≡ acknowledged number before
  acknowledges_more number =
      let h = Acknowledges number in
      same_ledger first supported before.next _ before.closed _
      (filter (λ p. not (p.number == number)) before.waiting) _
      (ap (λ n. first + n) (count_kept is_sending life h refl))
      (any_kept is_closing life h refl)
      (waiting_after-more life h ∙ append-nil
      (map (λ p. p) (filter (λ p. not (p.number == number)) before.waiting))
      ∙ map_same (filter (λ p. not (p.number == number)) before.waiting))

  pub closes_more : ledger_after first supported (life ++ Closes ∷ []) ≡ closed_now before
  closes_more =
      same_ledger first supported before.next _ true _ before.waiting _
      (ap (λ n. first + n) (count_kept is_sending life Closes refl))
      (any_more is_closing life Closes refl)
      (waiting_after-more life Closes
      ∙ append-nil (map (λ p. p) (filter (λ _. true) before.waiting))
      ∙ map_same (filter (λ _. true) before.waiting) ∙ filter_same before.waiting)

  gives_up_more : ledger_after first supported (life ++ GivesUp ∷ [])
      ≡ record before { waiting = map given_up before.waiting }
  gives_up_more =
      same_ledger first supported before.next _ before.closed _ (map given_up before.waiting) _
      (ap (λ n. first + n) (count_kept is_sending life GivesUp refl))
      (any_kept is_closing life GivesUp refl)
      (waiting_after-more life GivesUp
      ∙ append-nil (map given_up (filter (λ _. true) before.waiting))
      ∙ ap (map given_up) (filter_same before.waiting))

  repeats_more : (low next now : ℕ) → Rise low next before.waiting
      → ledger_after first supported
      (life ++ Repeats (due_numbers now before.waiting) now ∷ [])
      ≡ record before { waiting = map (after_repeat now) before.waiting }
  repeats_more low next now rise =
      let h = Repeats (due_numbers now before.waiting) now in
      same_ledger first supported before.next _ before.closed _
      (map (after_repeat now) before.waiting) _
      (ap (λ n. first + n) (count_kept is_sending life h refl))
      (any_kept is_closing life h refl)
      (waiting_after-more life h ∙ append-nil (map (became h) (filter (λ _. true) before.waiting))
      ∙ ap (map (became h)) (filter_same before.waiting)
      ∙ again low next now before.waiting rise)

  ticks_more : (answer : Tick) (low next now : ℕ) → Rise low next before.waiting
      → ((numbers : ArrayVec ℕ) → answer ≡ Again numbers
      → numbers.items ≡ due_numbers now before.waiting)
      → ledger_after first supported (life ++ happenings_of answer now)
      ≡ ticked answer before now
  ticks_more Nothing low next now rise due = ap (ledger_after first supported) (append-nil life)
  ticks_more (Again numbers) low next now rise due =
      ap (λ ns. ledger_after first supported (life ++ Repeats ns now ∷ [])) (due numbers refl)
      ∙ repeats_more low next now rise
  ticks_more GivenUp low next now rise due = gives_up_more

-- ---- over all that happened, if the old ledger stands for it

pub send_stands : (old new : Ledger) (answer : Result ℕ SendFault) (has_body : Bool) (now : ℕ)
    → IfOk answer (λ number. number ≡ old.next) → OnOk answer (new ≡ with_sent has_body now old)
    → (first : ℕ) (supported : Bool) (life : List Happening)
    → old ≡ ledger_after first supported life
    → IfOk answer (λ number. new ≡ ledger_after first supported
    (life ++ Sends number has_body now ∷ []))
send_stands old new (Ok number) has_body now next after first supported life stands =
    let more = sends_more first supported life has_body now in
    let is_next : number ≡ (ledger_after first supported life).next =
    next ∙ ap (λ l. l.next) stands in
    after ∙ ap (with_sent has_body now) stands ∙ sym more
    ∙ ap (λ n. ledger_after first supported (life ++ Sends n has_body now ∷ [])) (sym is_next)
send_stands old new (Err fault) has_body now next after first supported life stands = tt

due_by : (closed late repeated : Bool) (due : List ℕ) (numbers : ArrayVec ℕ)
    → Again numbers ≡ cond closed Nothing (cond late GivenUp
    (cond repeated (Again record { items = due }) Nothing)) → numbers.items ≡ due
due_by true late repeated due numbers e = absurd cc
due_by false true repeated due numbers e = absurd cc
due_by false false true due numbers e = cc
due_by false false false due numbers e = absurd cc

-- the numbers in the answer are those of the responses that are due
pub numbers_due : (l : Ledger) (now : ℕ) (answer : Tick) → answer ≡ tick_answer l now
    → (numbers : ArrayVec ℕ) → answer ≡ Again numbers → numbers.items ≡ due_numbers now l.waiting
numbers_due l now answer is numbers same =
    due_by l.closed (list_any (is_late now) l.waiting) (list_any (is_repeated now) l.waiting)
    (due_numbers now l.waiting) numbers (sym same ∙ is)

pub tick_stands : (old new : Ledger) (answer : Tick) (low next now : ℕ)
    → Rise low next old.waiting → answer ≡ tick_answer old now → new ≡ ticked answer old now
    → (first : ℕ) (supported : Bool) (life : List Happening)
    → old ≡ ledger_after first supported life
    → new ≡ ledger_after first supported (life ++ happenings_of answer now)
tick_stands old new answer low next now rise is after first supported life stands =
    after ∙ ap (λ l. ticked answer l now) stands
    ∙ sym (ticks_more first supported life answer low next now
    (subst (λ (l : Ledger). Rise low next l.waiting) stands rise)
    (λ numbers same. numbers_due old now answer is numbers same
    ∙ ap (λ l. due_numbers now l.waiting) stands))

pub acknowledge_stands : {E : Type 0} (old new : Ledger) (answer : Result (Unit {0}) E) (number : ℕ)
    → OnOk answer (new ≡ acknowledged number old)
    → (first : ℕ) (supported : Bool) (life : List Happening)
    → old ≡ ledger_after first supported life
    → OnOk answer (new ≡ ledger_after first supported (life ++ Acknowledges number ∷ []))
acknowledge_stands old new (Ok u) number after first supported life stands =
    after ∙ ap (acknowledged number) stands ∙ sym (acknowledges_more first supported life number)
acknowledge_stands old new (Err e) number after first supported life stands = tt

pub close_stands : (old new : Ledger) → new ≡ closed_now old
    → (first : ℕ) (supported : Bool) (life : List Happening)
    → old ≡ ledger_after first supported life
    → new ≡ ledger_after first supported (life ++ Closes ∷ [])
close_stands old new after first supported life stands =
    after ∙ ap closed_now stands ∙ sym (closes_more first supported life)
