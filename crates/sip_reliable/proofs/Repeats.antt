-- Sending the due responses again: what that changes in all that wait.
use Rattle.std.proofs.Common.{◌≡◌, ℕ, zero, suc, ◌+◌, ◌<◌, ◌==◌, ◌||◌, Bool, true, false, cond, List, [], ◌∷◌, length, map, filter, slice_index, refl, sym, ap, ◌∙◌, arith, add-one, eq-eqb}
use Rattle.std.specs.List.Sorted.{IsStrictlyIncreasing}
use Rattle.std.proofs.lemmas.Bool.{eqb-true}
use Rattle.sip_reliable.specs.Happening.{Repeats, is_among}
use Rattle.sip_reliable.specs.Provisional.{Provisional, after_repeat, is_repeated, sent_again}
use Rattle.sip_reliable.specs.Ledger.{due_numbers}
use Rattle.sip_reliable.specs.Sound.{Rise}
use Rattle.sip_reliable.proofs.Life.{became}
use Rattle.sip_reliable.proofs.Sounds.{rise_kept}

differs : (n m : ℕ) → n < m → (b : Bool) → (m == n) ≡ b → b ≡ false
differs n m below true e = absurd (omega (arith, eqb-true m n e, below))
differs n m below false e = refl

differs' : (n m : ℕ) → n < m → (b : Bool) → (n == m) ≡ b → b ≡ false
differs' n m below true e = absurd (omega (arith, eqb-true n m e, below))
differs' n m below false e = refl

among_step : (n : ℕ) (p : Provisional) (due : List Provisional) (b : Bool)
    → (n == p.number) ≡ false → is_among (map (λ p. p.number) due) n ≡ false
    → is_among (map (λ p. p.number) (cond b (p ∷ due) due)) n ≡ false
among_step n p due true here rest = λ i. here i || rest i
among_step n p due false here rest = rest

-- a lower number isn't the number of a due response
not_among : (n low next now : ℕ) (ps : List Provisional) → n < low → Rise low next ps
    → is_among (due_numbers now ps) n ≡ false
not_among n low next now [] below rise = refl
not_among n low next now (p ∷ ps) below rise =
    let above : n < p.number = omega (arith, below, rise.0) in
    among_step n p (filter (is_repeated now) ps) (is_repeated now p)
    (differs' n p.number above (n == p.number) refl)
    (not_among n (p.number + 1) next now ps (omega (arith, above)) rise.1)

abbrev repeated : List ℕ → ℕ → List Provisional → List Provisional
repeated numbers now ps = map (became (Repeats numbers now)) ps

-- a lower number is the number of none of them
without : (n low next now : ℕ) (numbers : List ℕ) (ps : List Provisional) → n < low
    → Rise low next ps → repeated (n ∷ numbers) now ps ≡ repeated numbers now ps
without n low next now numbers [] below rise = refl
without n low next now numbers (p ∷ ps) below rise =
    let above : n < p.number = omega (arith, below, rise.0) in
    let here = differs n p.number above (p.number == n) refl in
    let rest = without n (p.number + 1) next now numbers ps (omega (arith, above)) rise.1 in
    λ i. cond (here i || is_among numbers p.number) (sent_again now p) p ∷ rest i

again_step : (now : ℕ) (p : Provisional) (rest due : List Provisional) (b : Bool)
    → is_among (map (λ p. p.number) due) p.number ≡ false
    → repeated (p.number ∷ map (λ p. p.number) due) now rest
    ≡ repeated (map (λ p. p.number) due) now rest
    → repeated (map (λ p. p.number) due) now rest ≡ map (after_repeat now) rest
    → repeated (map (λ p. p.number) (cond b (p ∷ due) due)) now (p ∷ rest)
    ≡ cond b (sent_again now p) p ∷ map (after_repeat now) rest
again_step now p rest due true none strip later =
    λ i. cond (eq-eqb p.number p.number refl i || is_among (map (λ p. p.number) due) p.number)
    (sent_again now p) p ∷ (strip ∙ later) i
again_step now p rest due false none strip later =
    λ i. cond (none i) (sent_again now p) p ∷ later i

-- the due responses are sent again, and the others stay as they are
pub again : (low next now : ℕ) (ps : List Provisional) → Rise low next ps
    → repeated (due_numbers now ps) now ps ≡ map (after_repeat now) ps
again low next now [] rise = refl
again low next now (p ∷ ps) rise =
    again_step now p ps (filter (is_repeated now) ps) (is_repeated now p)
    (not_among p.number (p.number + 1) next now ps (omega arith) rise.1)
    (without p.number (p.number + 1) next now (due_numbers now ps) ps (omega arith) rise.1)
    (again (p.number + 1) next now ps rise.1)

abbrev numbers_of : List Provisional → List ℕ
numbers_of ps = map (λ p. p.number) ps

rising : (low next : ℕ) (ps : List Provisional) → Rise low next ps
    → IsStrictlyIncreasing (numbers_of ps)
rising low next [] rise = λ k h. absurd (omega arith)
rising low next (p ∷ []) rise = λ k h. absurd (omega arith)
rising low next (p ∷ q ∷ ps) rise =
    λ k h. elim k as (λ j. j + 1 < length (numbers_of (p ∷ q ∷ ps))
    → slice_index (numbers_of (p ∷ q ∷ ps)) j < slice_index (numbers_of (p ∷ q ∷ ps)) (j + 1)) [
      | zero ↦ λ _. let first = (rise.1).0 in omega (arith, first)
      | suc j ↦ λ below.
          let next_one : slice_index (numbers_of (p ∷ q ∷ ps)) (suc j + 1)
          ≡ slice_index (numbers_of (q ∷ ps)) (j + 1) =
          ap (slice_index (numbers_of (p ∷ q ∷ ps))) (add-one (suc j))
          ∙ ap (slice_index (numbers_of (q ∷ ps))) (sym (add-one j)) in
          omega (
            arith,
            next_one,
            rising (p.number + 1) next (q ∷ ps) rise.1 j (omega (arith, below)),
          )
    ] h

-- the numbers of the due responses rise
pub due_rise : (low next now : ℕ) (ps : List Provisional) → Rise low next ps
    → IsStrictlyIncreasing (due_numbers now ps)
due_rise low next now ps rise =
    rising low next (filter (is_repeated now) ps) (rise_kept (is_repeated now) low next ps rise)
