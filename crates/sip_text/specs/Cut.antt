-- A text cut in two at the first of a given byte.
use Rattle.std.specs.Prelude.{ℕ, Bool, List, [], ◌∷◌, Option, Some, None, ◌==◌, if◌then◌else◌}
use Rattle.std.specs.Option.{option_map}
use Rattle.std.specs.Borrow.{Bor}
use Rattle.sip_text.specs.Options.{◌>>=◌}

-- the parts before and after the first byte that passes the test; nothing if none does
abbrev pub cut_where : (ℕ → Bool) → List ℕ → Option (List ℕ × List ℕ)
cut_where test [] = None
cut_where test (b ∷ bs) =
    if test b then Some ([], bs) else option_map (λ p. (b ∷ p.0, p.1)) (cut_where test bs)

-- the parts before and after the first such byte
abbrev pub cut_at : ℕ → List ℕ → Option (List ℕ × List ℕ)
cut_at at text = cut_where (λ b. b == at) text

-- the value read from the part before the first such byte, and the part after it
abbrev pub field_at : {A : Type 0} → ℕ → (List ℕ → Option A) → List ℕ → Option (A × List ℕ)
field_at at read text = cut_at at text >>= λ p. read p.0 >>= λ x. Some (x, p.1)

-- what two references point to
abbrev pub both_now : Option (Bor (List ℕ) × Bor (List ℕ)) → Option (List ℕ × List ℕ)
both_now parts = option_map (λ p. (p.0.now, p.1.now)) parts
