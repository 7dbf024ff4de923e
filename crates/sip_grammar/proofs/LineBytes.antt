-- Whether a text has a byte that passes a test.
use Rattle.std.proofs.Common.{◌≡◌, ℕ, zero, suc, ◌<◌, Bool, true, false, not, List, [], ◌∷◌, length, Option, Some, None, refl, sym, arith}
use Rattle.std.specs.List.{list_all}
use Rattle.std.specs.Prelude.{is_some}
use Rattle.std.proofs.Math.Bool.{and-false}
use Rattle.std.proofs.lemmas.Bool.{true≢false, false_from_ne_true}
use Rattle.memchr.specs.Find.{IsFirstByte, Nowhere, Passes}

pub none_passes : (test : ℕ → Bool) (text : List ℕ) → Nowhere (Passes test text) 0 (length text)
    → list_all (λ b. not (test b)) text ≡ true
none_passes test [] none = refl
none_passes test (b ∷ bs) none =
    let here : test b ≡ false = false_from_ne_true (test b) (none 0 (omega arith) (omega arith)) in
    let rest = none_passes test bs (λ k low high. none (suc k) (omega arith) (omega arith)) in
    rw (here, rest) refl

pub one_passes : (test : ℕ → Bool) (text : List ℕ) (k : ℕ) → k < length text → Passes test text k
    → list_all (λ b. not (test b)) text ≡ false
one_passes test [] k lt is = absurd (omega arith)
one_passes test (b ∷ bs) zero lt is = rw is refl
one_passes test (b ∷ bs) (suc k) lt is =
    let rest : list_all (λ b. not (test b)) bs ≡ false = one_passes test bs k (omega arith) is in
    rw rest (and-false (not (test b)))

-- no byte passes the test exactly if none is found
pub none_found : (test : ℕ → Bool) (text : List ℕ) (found : Option ℕ) (answer : Bool)
    → not answer ≡ is_some found → IsFirstByte test text found
    → answer ≡ list_all (λ b. not (test b)) text
none_found test text None true is none = sym (none_passes test text none)
none_found test text None false is none = absurd (true≢false is)
none_found test text (Some k) true is first = absurd (true≢false (sym is))
none_found test text (Some k) false is first =
    sym (one_passes test text k first.0.high first.1)
