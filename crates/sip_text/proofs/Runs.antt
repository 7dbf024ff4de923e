-- Runs of bytes that pass a test.
use Rattle.std.proofs.Common.{◌≡◌, ℕ, ◌≤◌, Bool, true, false, cond, eqb, List, [], ◌∷◌, ◌++◌, length, get_or, take, drop, Some, None, refl, sym, ap, subst, ◌∙◌, ◌+◌, ◌<◌, ◌&&◌, suc, arith, inl, inr}
use Rattle.std.specs.List.{list_all, prefix_len, take_while}
use Rattle.std.proofs.lemmas.Bool.{cases_eq, eq-eqb, ne_eqb, eqb-true}
use Rattle.std.proofs.lemmas.List.{take-append-drop}
use Rattle.std.proofs.lemmas.List.Sums.{prefix_len_is}
use Rattle.std.proofs.lemmas.Option.{same_Some}
use Rattle.sip_text.specs.Run.{before_byte, run_before}
use Rattle.sip_text.specs.Token.{is_run}

-- the first n bytes pass
pub record PassesTo (test : ℕ → Bool) (text : List ℕ) (n : ℕ) : Type 0 where
  pub within : n ≤ length text
  pub each : (k : ℕ) → k < n → test (get_or text k 0) ≡ true

-- and so does the next byte
pub one_further : (test : ℕ → Bool) (text : List ℕ) (n : ℕ) → n < length text → PassesTo test text n
    → test (get_or text n 0) ≡ true → PassesTo test text (n + 1)
one_further test text n room before is = record {
  within = omega arith;
  each = λ k l. elim (cases_eq k n) [
    | inl same ↦ ap (λ j. test (get_or text j 0)) same ∙ is
    | inr other ↦ before.each k (omega arith)
  ];
}

pub two_further : (test : ℕ → Bool) (text : List ℕ) (n : ℕ) → n + 1 < length text
    → PassesTo test text n → test (get_or text n 0) ≡ true → test (get_or text (n + 1) 0) ≡ true
    → PassesTo test text (n + 2)
two_further test text n room before first second =
    let two : n + 2 ≡ n + 1 + 1 = omega arith in
    rw two (one_further test text (n + 1) room
    (one_further test text n (omega arith) before first) second)

pub three_further : (test : ℕ → Bool) (text : List ℕ) (n : ℕ) → n + 2 < length text
    → PassesTo test text n → test (get_or text n 0) ≡ true → test (get_or text (n + 1) 0) ≡ true
    → test (get_or text (n + 2) 0) ≡ true → PassesTo test text (n + 3)
three_further test text n room before first second third =
    let three : n + 3 ≡ n + 2 + 1 = omega arith in
    rw three (one_further test text (n + 2) room
    (two_further test text n (omega arith) before first second) third)

pub four_further : (test : ℕ → Bool) (text : List ℕ) (n : ℕ) → n + 3 < length text
    → PassesTo test text n → test (get_or text n 0) ≡ true → test (get_or text (n + 1) 0) ≡ true
    → test (get_or text (n + 2) 0) ≡ true → test (get_or text (n + 3) 0) ≡ true
    → PassesTo test text (n + 4)
four_further test text n room before first second third fourth =
    let four : n + 4 ≡ n + 3 + 1 = omega arith in
    rw four (one_further test text (n + 3) room
    (three_further test text n (omega arith) before first second third) fourth)

-- the next byte doesn't pass, so the run ends there
pub run_ends_at : (test : ℕ → Bool) (text : List ℕ) (n : ℕ) → PassesTo test text n
    → test (get_or text n 0) ≡ false → n ≡ prefix_len test text
run_ends_at test text n before stops =
    sym (prefix_len_is test text n 0 before.within before.each (λ _. stops))

pub run_is_all : (test : ℕ → Bool) (text : List ℕ) (n : ℕ) → PassesTo test text n → length text ≤ n
    → n ≡ prefix_len test text
run_is_all test text n before end =
    sym (prefix_len_is test text n 0 before.within before.each (λ more. absurd (omega arith)))

ends_alike : (passes : Bool) (run all : ℕ) (rest : Bool) → eqb run all ≡ rest
    → eqb (cond passes (1 + run) 0) (suc all) ≡ (passes && rest)
ends_alike true run all rest e =
    elim (cases_eq run all) [
      | inl same ↦ eq-eqb _ _ (omega arith) ∙ sym (eq-eqb run all same) ∙ e
      | inr other ↦ ne_eqb _ _ (λ s. other (omega arith)) ∙ sym (ne_eqb run all other) ∙ e
    ]
ends_alike false run all rest e = ne_eqb 0 (suc all) (λ s. omega arith)

-- each byte passes exactly if the run is the whole text
pub run_is_text : (test : ℕ → Bool) (text : List ℕ)
    → eqb (prefix_len test text) (length text) ≡ list_all test text
run_is_text test [] = refl
run_is_text test (b ∷ bs) =
    ends_alike (test b) (prefix_len test bs) (length bs) (list_all test bs) (run_is_text test bs)

passes_by : (test : ℕ → Bool) (b : ℕ) (bs : List ℕ) (r : Bool) → test b ≡ r
    → list_all test (take (prefix_len test bs) bs) ≡ true
    → list_all test (take (cond r (1 + prefix_len test bs) 0) (b ∷ bs)) ≡ true
passes_by test b bs true is rest =
    let one : 1 + prefix_len test bs ≡ suc (prefix_len test bs) = omega arith in
    rw one (rw is rest)
passes_by test b bs false is rest = refl

-- bytes that all pass, at least one
pub run_from_all : (test : ℕ → Bool) (text : List ℕ) → 0 < length text → list_all test text ≡ true
    → is_run test text ≡ true
run_from_all test [] some all = absurd (omega arith)
run_from_all test (b ∷ bs) some all = all

-- each byte of the run passes
pub run_passes : (test : ℕ → Bool) (text : List ℕ)
    → list_all test (take (prefix_len test text) text) ≡ true
run_passes test [] = refl
run_passes test (b ∷ bs) = passes_by test b bs (test b) refl (run_passes test bs)

pub run_whole : (test : ℕ → Bool) (text : List ℕ)
    → text ≡ take (prefix_len test text) text ++ drop (prefix_len test text) text
run_whole test text = sym (take-append-drop (prefix_len test text) text)

-- a text in three parts: its run, this byte, and what follows
pub record IsRunBefore (test : ℕ → Bool) (end : ℕ) (text run after : List ℕ) : Type 0 where
  pub parts : text ≡ run ++ (end ∷ after)
  pub run_is : is_run test run ≡ true

found : (test : ℕ → Bool) (end : ℕ) (text front rest : List ℕ) (p : List ℕ × List ℕ)
    → text ≡ front ++ rest → list_all test front ≡ true → before_byte end front rest ≡ Some p
    → IsRunBefore test end text p.0 p.1
found test end text [] rest p whole all e = absurd cc
found test end text (b ∷ bs) [] p whole all e = absurd cc
found test end text (b ∷ bs) (c ∷ cs) p whole all e = by (eqb c end) refl e
  where
    by : (r : Bool) → eqb c end ≡ r → cond r (Some (b ∷ bs, cs)) None ≡ Some p
        → IsRunBefore test end text p.0 p.1
    by true is e =
        let same = same_Some (b ∷ bs, cs) p e in
        let P : List ℕ × List ℕ → Type 0 = λ q. IsRunBefore test end text q.0 q.1 in
        subst P same (record {
          parts = whole ∙ ap (λ (x : ℕ). (b ∷ bs) ++ (x ∷ cs)) (eqb-true c end is);
          run_is = all;
        })
    by false is e = absurd cc

pub run_found : (test : ℕ → Bool) (end : ℕ) (text : List ℕ) (p : List ℕ × List ℕ)
    → run_before test end text ≡ Some p → IsRunBefore test end text p.0 p.1
unfolding run_before
run_found test end text p e =
    found test end text (take_while test text) (drop (prefix_len test text) text) p
    (run_whole test text) (run_passes test text) e
