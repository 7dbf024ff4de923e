-- One more byte of the first round of a text.
use Rattle.std.proofs.Common.{◌≡◌, ◌≢◌, ℕ, ◌+◌, ◌<◌, ◌≤◌, Bool, true, false, List, [], ◌∷◌, ◌++◌, length, get_or, take, drop, refl, sym, ap, ◌∙◌, append_assoc, append-nil, add-one, drop-cons, eq-eqb, ne_eqb}
use Rattle.std.specs.Prelude.{◌&&◌, ◌==◌, if◌then◌else◌}
use Rattle.std.proofs.lemmas.List.{take_more, take_all, drop_all}
use Rattle.sip_files.specs.Rounds.{begins_round, first_round}

if_true : {A : Type 0} (test : Bool) (a c : A) → test ≡ true → (if test then a else c) ≡ a
if_true true a c is = refl
if_true false a c is = absurd cc

if_false : {A : Type 0} (test : Bool) (a c : A) → test ≡ false → (if test then a else c) ≡ c
if_false true a c is = absurd cc
if_false false a c is = refl

both_true : (s t : Bool) → s ≡ true → t ≡ true → (s && t) ≡ true
both_true true true p q = refl
both_true true false p q = absurd cc
both_true false t p q = absurd cc

ends_here : (b : ℕ) (bytes : List ℕ) → b ≡ 10 → begins_round bytes ≡ true
    → first_round (b ∷ bytes) ≡ b ∷ []
unfolding first_round
ends_here b bytes is begins =
    ap (λ (rest : List ℕ). b ∷ rest) (if_true ((b == 10) && begins_round bytes) []
    (first_round bytes) (both_true (b == 10) (begins_round bytes) (eq-eqb b 10 is) begins))

goes_on : (b : ℕ) (bytes : List ℕ) → ((b == 10) && begins_round bytes) ≡ false
    → first_round (b ∷ bytes) ≡ b ∷ first_round bytes
unfolding first_round
goes_on b bytes not =
    ap (λ (rest : List ℕ). b ∷ rest) (if_false ((b == 10) && begins_round bytes) []
    (first_round bytes) not)

front : (text : List ℕ) (i : ℕ) → i < length text
    → drop i text ≡ get_or text i 0 ∷ drop (i + 1) text
front text i lt = rw (add-one, drop-cons text i 0) refl

-- the byte with this index ends the first round
pub ends_at : (text after : List ℕ) (i : ℕ) → i < length text → get_or text i 0 ≡ 10
    → after ≡ drop (i + 1) text → begins_round after ≡ true
    → first_round text ≡ take i text ++ first_round (drop i text)
    → take (i + 1) text ≡ first_round text
ends_at text after i lt is behind begins before =
    let first = ends_here (get_or text i 0) (drop (i + 1) text) is (rw behind at begins) in
    take_more text i 0 lt ∙ sym (before ∙ ap (λ (rest : List ℕ). take i text ++ rest)
    (ap first_round (front text i lt) ∙ first))

past : (text : List ℕ) (i : ℕ) → i < length text
    → ((get_or text i 0 == 10) && begins_round (drop (i + 1) text)) ≡ false
    → first_round text ≡ take i text ++ first_round (drop i text)
    → first_round text ≡ take (i + 1) text ++ first_round (drop (i + 1) text)
past text i lt not before =
    let first = goes_on (get_or text i 0) (drop (i + 1) text) not in
    before ∙ ap (λ (rest : List ℕ). take i text ++ rest)
    (ap first_round (front text i lt) ∙ first)
    ∙ sym (append_assoc (take i text) (get_or text i 0 ∷ []) (first_round (drop (i + 1) text)))
    ∙ ap (λ (so_far : List ℕ). so_far ++ first_round (drop (i + 1) text))
    (sym (take_more text i 0 lt))

either_false : (s t : Bool) → t ≡ false → (s && t) ≡ false
either_false true false is = refl
either_false false t is = refl
either_false true true is = absurd cc

-- it is no line feed, or no round begins behind it
pub past_other : (text : List ℕ) (i : ℕ) → i < length text → get_or text i 0 ≢ 10
    → first_round text ≡ take i text ++ first_round (drop i text)
    → first_round text ≡ take (i + 1) text ++ first_round (drop (i + 1) text)
past_other text i lt other before =
    past text i lt (ap (λ (t : Bool). t && begins_round (drop (i + 1) text))
    (ne_eqb (get_or text i 0) 10 other)) before

pub past_end : (text after : List ℕ) (i : ℕ) → i < length text
    → after ≡ drop (i + 1) text → begins_round after ≡ false
    → first_round text ≡ take i text ++ first_round (drop i text)
    → first_round text ≡ take (i + 1) text ++ first_round (drop (i + 1) text)
past_end text after i lt behind begins before =
    past text i lt (either_false (get_or text i 0 == 10) (begins_round (drop (i + 1) text))
    (rw behind at begins)) before

first_of_nothing : first_round [] ≡ []
unfolding first_round
first_of_nothing = refl

-- no byte is left
pub ends_last : (text : List ℕ) (i : ℕ) → length text ≤ i
    → first_round text ≡ take i text ++ first_round (drop i text) → text ≡ first_round text
ends_last text i over before =
    sym (before ∙ ap (λ (rest : List ℕ). take i text ++ first_round rest) (drop_all i text over)
    ∙ ap (λ (rest : List ℕ). take i text ++ rest) first_of_nothing
    ∙ append-nil (take i text) ∙ take_all i text over)
