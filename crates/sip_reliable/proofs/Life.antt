-- What one more happening does to the ledger that is read from all that happened.
use Rattle.std.proofs.Common.{◌≡◌, ℕ, ◌+◌, not, ◌||◌, Bool, true, false, cond, List, [], ◌∷◌, ◌++◌, map, filter, count_by, fold, Option, Some, None, refl, sym, ap, ◌∙◌, add-zero}
use Rattle.std.specs.List.{list_any}
use Rattle.std.specs.Option.{option_map}
use Rattle.std.proofs.Math.Bool.{or-false}
use Rattle.sip_reliable.specs.Happening.{Happening, Sends, Repeats, GivesUp, Acknowledges, Closes, is_among, is_repeat_of, is_acknowledgment_of, is_giving_up}
use Rattle.sip_reliable.specs.declared.provisional.Retransmission.{Retransmission}
use Rattle.sip_reliable.specs.Provisional.{Provisional, interval_after, last_moment, retransmission_after, sent_before, given_up, sent_again}
use Rattle.sip_reliable.specs.Ledger.{waiting_after}

any_push : {X : Type 0} (p : X → Bool) (xs : List X) (x : X)
    → list_any p (xs ++ x ∷ []) ≡ (list_any p xs || p x)
any_push p [] x = or-false (p x)
any_push p (y ∷ ys) x = elim (p y) as (λ b. (b || list_any p (ys ++ x ∷ []))
    ≡ ((b || list_any p ys) || p x)) [ true ↦ refl | false ↦ any_push p ys x ]

pub any_kept : {X : Type 0} (p : X → Bool) (xs : List X) (x : X) → p x ≡ false
    → list_any p (xs ++ x ∷ []) ≡ list_any p xs
any_kept p xs x fails =
    any_push p xs x ∙ ap (λ b. list_any p xs || b) fails ∙ or-false (list_any p xs)

pub any_more : {X : Type 0} (p : X → Bool) (xs : List X) (x : X) → p x ≡ true
    → list_any p (xs ++ x ∷ []) ≡ true
any_more p xs x passes = any_push p xs x ∙ ap (λ b. list_any p xs || b) passes
    ∙ elim (list_any p xs) as (λ b. (b || true) ≡ true) [ true ↦ refl | false ↦ refl ]

fold_push : {A B : Type 0} (f : B → A → B) (b : B) (xs : List A) (x : A)
    → fold f b (xs ++ x ∷ []) ≡ f (fold f b xs) x
fold_push f b [] x = refl
fold_push f b (y ∷ ys) x = fold_push f (f b y) ys x

count_push : {X : Type 0} (p : X → Bool) (xs : List X) (x : X)
    → count_by p (xs ++ x ∷ []) ≡ count_by p xs + cond (p x) 1 0
count_push p xs x = fold_push (λ a y. a + cond (p y) 1 0) 0 xs x

pub count_kept : {X : Type 0} (p : X → Bool) (xs : List X) (x : X) → p x ≡ false
    → count_by p (xs ++ x ∷ []) ≡ count_by p xs
count_kept p xs x fails =
    count_push p xs x ∙ ap (λ b. count_by p xs + cond b 1 0) fails ∙ add-zero (count_by p xs)

pub count_more : {X : Type 0} (p : X → Bool) (xs : List X) (x : X) → p x ≡ true
    → count_by p (xs ++ x ∷ []) ≡ count_by p xs + 1
count_more p xs x passes = count_push p xs x ∙ ap (λ b. count_by p xs + cond b 1 0) passes

-- ---- one response

-- its retransmission, by whether it was given up, how often it was sent again, and when last
abbrev timed : Bool → ℕ → ℕ → Option Retransmission
timed gone repeats last = cond gone None
    (Some record { due = last + interval_after repeats; repeats = repeats })

same_times : (gone gone' : Bool) (repeats repeats' last last' : ℕ) → gone' ≡ gone
    → repeats' ≡ repeats → last' ≡ last → timed gone' repeats' last' ≡ timed gone repeats last
same_times gone gone' repeats repeats' last last' p q r = cc

-- the moment and the count after one more repeat
abbrev next_of : ℕ → Option Retransmission → Option Retransmission
next_of now o =
    option_map (λ r. record { due = now + interval_after (r.repeats + 1); repeats = r.repeats + 1 })
    o

counted : (gone : Bool) (repeats last now : ℕ)
    → timed gone (repeats + 1) now ≡ next_of now (timed gone repeats last)
counted true repeats last now = refl
counted false repeats last now = refl

-- what a happening changes in a response that waits
abbrev pub became : Happening → Provisional → Provisional
became (Sends number has_body now) p = p
became (Repeats numbers now) p = cond (is_among numbers p.number) (sent_again now p) p
became GivesUp p = given_up p
became (Acknowledges number) p = p
became Closes p = p

repeats_more : (number sent : ℕ) (later : List Happening) (ns : List ℕ) (t : ℕ) (b : Bool)
    → is_among ns number ≡ b → retransmission_after number sent (later ++ Repeats ns t ∷ [])
    ≡ cond b (next_of t (retransmission_after number sent later))
    (retransmission_after number sent later)
repeats_more number sent later ns t true same =
    same_times (list_any is_giving_up later) _ (count_by (is_repeat_of number) later + 1) _ t _
    (any_kept is_giving_up later (Repeats ns t) refl)
    (count_more (is_repeat_of number) later (Repeats ns t) same)
    (fold_push (last_moment number) sent later (Repeats ns t)
    ∙ ap (λ b. cond b t (fold (last_moment number) sent later)) same)
    ∙ counted (list_any is_giving_up later) (count_by (is_repeat_of number) later)
    (fold (last_moment number) sent later) t
repeats_more number sent later ns t false same =
    same_times (list_any is_giving_up later) _ (count_by (is_repeat_of number) later) _
    (fold (last_moment number) sent later) _
    (any_kept is_giving_up later (Repeats ns t) refl)
    (count_kept (is_repeat_of number) later (Repeats ns t) same)
    (fold_push (last_moment number) sent later (Repeats ns t)
    ∙ ap (λ b. cond b t (fold (last_moment number) sent later)) same)

abbrev with_times : ℕ → Bool → ℕ → Option Retransmission → Provisional
with_times number has_body sent times =
    record { number = number; has_body = has_body; sent = sent; retransmission = times }

waits : (number : ℕ) (has_body : Bool) (sent : ℕ) {r r' : Option Retransmission} → r' ≡ r
    → with_times number has_body sent r' ≡ with_times number has_body sent r
waits number has_body sent same = ap (with_times number has_body sent) same

repeated : (number : ℕ) (has_body : Bool) (sent : ℕ) (later : List Happening) (ns : List ℕ) (t : ℕ)
    (b : Bool) → is_among ns number ≡ b
    → sent_before number has_body sent (later ++ Repeats ns t ∷ [])
    ≡ cond b (sent_again t (sent_before number has_body sent later))
    (sent_before number has_body sent later)
repeated number has_body sent later ns t true same =
    waits number has_body sent (repeats_more number sent later ns t true same)
repeated number has_body sent later ns t false same =
    waits number has_body sent (repeats_more number sent later ns t false same)

sent_before-more : (number : ℕ) (has_body : Bool) (sent : ℕ) (later : List Happening)
    (h : Happening) → sent_before number has_body sent (later ++ h ∷ [])
    ≡ became h (sent_before number has_body sent later)
sent_before-more number has_body sent later (Sends n b t) =
    waits number has_body sent (same_times _ _ _ _ _ _
    (any_kept is_giving_up later (Sends n b t) refl)
    (count_kept (is_repeat_of number) later (Sends n b t) refl)
    (fold_push (last_moment number) sent later (Sends n b t)))
sent_before-more number has_body sent later (Repeats ns t) =
    repeated number has_body sent later ns t (is_among ns number) refl
sent_before-more number has_body sent later GivesUp =
    waits number has_body sent (ap
    (λ b. timed b (count_by (is_repeat_of number) (later ++ GivesUp ∷ []))
    (fold (last_moment number) sent (later ++ GivesUp ∷ [])))
    (any_more is_giving_up later GivesUp refl))
sent_before-more number has_body sent later (Acknowledges n) =
    waits number has_body sent (same_times _ _ _ _ _ _
    (any_kept is_giving_up later (Acknowledges n) refl)
    (count_kept (is_repeat_of number) later (Acknowledges n) refl)
    (fold_push (last_moment number) sent later (Acknowledges n)))
sent_before-more number has_body sent later Closes =
    waits number has_body sent (same_times _ _ _ _ _ _ (any_kept is_giving_up later Closes refl)
    (count_kept (is_repeat_of number) later Closes refl)
    (fold_push (last_moment number) sent later Closes))

-- ---- all that wait

sending : (n : ℕ) (b : Bool) (t : ℕ) (later : List Happening) (h : Happening) (before now : Bool)
    (rest others added : List Provisional)
    → (is_acknowledgment_of n h) ≡ now
    → rest ≡ map (became h) (filter (λ p. not (is_acknowledgment_of p.number h)) others) ++ added
    → list_any (is_acknowledgment_of n) (later ++ h ∷ []) ≡ (before || now)
    → cond (list_any (is_acknowledgment_of n) (later ++ h ∷ [])) rest
    (sent_before n b t (later ++ h ∷ []) ∷ rest)
    ≡ map (became h) (filter (λ p. not (is_acknowledgment_of p.number h))
    (cond before others (sent_before n b t later ∷ others))) ++ added
sending n b t later h true now rest others added this stands answers =
    ap (λ c. cond c rest (sent_before n b t (later ++ h ∷ []) ∷ rest)) answers ∙ stands
sending n b t later h false true rest others added this stands answers =
    ap (λ c. cond c rest (sent_before n b t (later ++ h ∷ []) ∷ rest)) answers ∙ stands
    ∙ ap (λ c. map (became h) (cond (not c)
    (sent_before n b t later ∷ filter (λ p. not (is_acknowledgment_of p.number h)) others)
    (filter (λ p. not (is_acknowledgment_of p.number h)) others)) ++ added) (sym this)
sending n b t later h false false rest others added this stands answers =
    ap (λ c. cond c rest (sent_before n b t (later ++ h ∷ []) ∷ rest)) answers
    ∙ ap (λ p. p ∷ rest) (sent_before-more n b t later h)
    ∙ ap (λ ps. became h (sent_before n b t later) ∷ ps) stands
    ∙ ap (λ c. map (became h) (cond (not c)
    (sent_before n b t later ∷ filter (λ p. not (is_acknowledgment_of p.number h)) others)
    (filter (λ p. not (is_acknowledgment_of p.number h)) others)) ++ added) (sym this)

-- those that still wait after one more happening, and those that it adds
pub waiting_after-more : (life : List Happening) (h : Happening)
    → waiting_after (life ++ h ∷ [])
    ≡ map (became h) (filter (λ p. not (is_acknowledgment_of p.number h)) (waiting_after life))
    ++ waiting_after (h ∷ [])
waiting_after-more [] h = refl
waiting_after-more (Sends n b t ∷ later) h =
    sending n b t later h (list_any (is_acknowledgment_of n) later) (is_acknowledgment_of n h)
    (waiting_after (later ++ h ∷ [])) (waiting_after later) (waiting_after (h ∷ [])) refl
    (waiting_after-more later h) (any_push (is_acknowledgment_of n) later h)
waiting_after-more (Repeats ns t ∷ later) h = waiting_after-more later h
waiting_after-more (GivesUp ∷ later) h = waiting_after-more later h
waiting_after-more (Acknowledges n ∷ later) h = waiting_after-more later h
waiting_after-more (Closes ∷ later) h = waiting_after-more later h
