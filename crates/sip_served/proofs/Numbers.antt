-- An acknowledged RSeq for which no response waits changes nothing.
use Rattle.std.proofs.Common.{◌≡◌, ◌==◌, ℕ, Bool, true, false, not, cond, ◌||◌, List, [], ◌∷◌, refl, sym, ap, ◌∙◌}
use Rattle.std.specs.Prelude.{Result, Ok, Err, IsOk, OnOk, OnErr, IsTrue, ◌↔◌, filter}
use Rattle.std.specs.List.{list_any}
use Rattle.std.proofs.lemmas.Bool.{false≢true}
use Rattle.sip_reliable.specs.declared.no_match.NoMatch.{NoMatch}
use Rattle.sip_reliable.specs.Ledger.{Ledger, acknowledged, waits_for}

module _ {X : Type 0} (p : X → Bool) where
  kept_step : (x : X) (xs rest : List X) (b : Bool) (any : Bool) → (b || any) ≡ false
      → (any ≡ false → rest ≡ xs) → cond (not b) (x ∷ rest) rest ≡ x ∷ xs
  kept_step x xs rest true any e later = absurd cc
  kept_step x xs rest false any e later = ap (λ ys. x ∷ ys) (later e)

  kept : (xs : List X) → list_any p xs ≡ false → filter (λ x. not (p x)) xs ≡ xs
  kept [] e = refl
  kept (x ∷ xs) e = kept_step x xs (filter (λ x. not (p x)) xs) (p x) (list_any p xs) e (kept xs)

same_ledger : (number : ℕ) (ledger : Ledger) → waits_for number ledger ≡ false
    → ledger ≡ acknowledged number ledger
same_ledger number ledger e =
    ap (λ waiting. record ledger { waiting = waiting })
    (sym (kept (λ p. p.number == number) ledger.waiting e))

not_waiting : (b : Bool) → (IsTrue b → ⊥) → b ≡ false
not_waiting true no_way = absurd (no_way refl)
not_waiting false no_way = refl

pub acknowledged_by : (number : ℕ) (old new : Ledger) (answer : Result (Unit {0}) NoMatch)
    → (IsOk answer ↔ IsTrue (waits_for number old)) → OnOk answer (new ≡ acknowledged number old)
    → OnErr answer (new ≡ old) → new ≡ acknowledged number old
acknowledged_by number old new (Ok u) matches ok err = ok
acknowledged_by number old new (Err e) matches ok err =
    err ∙ same_ledger number old (not_waiting (waits_for number old)
    (λ waits. false≢true (matches.1 waits)))
