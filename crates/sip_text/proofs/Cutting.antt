-- A text is cut at the first place of a byte.
use Rattle.std.proofs.Common.{◌≡◌, ℕ, zero, suc, ◌<◌, Bool, true, false, List, [], ◌∷◌, length, take, drop, get_or, Some, None, refl, arith}
use Rattle.std.proofs.lemmas.Bool.{false_from_ne_true}
use Rattle.memchr.specs.Find.{Nowhere}
use Rattle.sip_text.specs.Cut.{cut_where}

pub cut_where-none : (test : ℕ → Bool) (text : List ℕ)
    → Nowhere (λ k. test (get_or text k 0) ≡ true) 0 (length text) → cut_where test text ≡ None
cut_where-none test [] none = refl
cut_where-none test (b ∷ bs) none =
    let here : test b ≡ false = false_from_ne_true (test b) (none 0 (omega arith) (omega arith)) in
    let rest = cut_where-none test bs (λ k low high. none (suc k) (omega arith) (omega arith)) in
    rw (here, rest) refl

pub cut_where-some : (test : ℕ → Bool) (text : List ℕ) (k : ℕ) → k < length text
    → Nowhere (λ i. test (get_or text i 0) ≡ true) 0 k → test (get_or text k 0) ≡ true
    → cut_where test text ≡ Some (take k text, drop (suc k) text)
cut_where-some test [] k lt none is = absurd (omega arith)
cut_where-some test (b ∷ bs) zero lt none is = rw is refl
cut_where-some test (b ∷ bs) (suc k) lt none is =
    let here : test b ≡ false = false_from_ne_true (test b) (none 0 (omega arith) (omega arith)) in
    let rest = cut_where-some test bs k (omega arith)
    (λ i low high. none (suc i) (omega arith) (omega arith)) is in
    rw (here, rest) refl
