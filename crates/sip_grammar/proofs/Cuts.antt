-- A text is cut at a byte exactly where the byte first occurs.
use Rattle.std.proofs.Common.{◌≡◌, ℕ, Bool, true, false, List, [], ◌∷◌, ◌++◌, Some}
use Rattle.std.specs.List.{list_all}
use Rattle.sip_text.specs.Cut.{cut_at}
use Rattle.sip_text.specs.Lines.{has_no}
use Rattle.sip_text.specs.Token.{is_run}
use Rattle.sip_text.proofs.Cuts.{cut_took, none_passing}
pub use Rattle.sip_text.proofs.Cuts.{cut_again as at_again}
pub use Rattle.sip_grammar.proofs.Bytes.{all_weaker as all_imply}

pub at_takes : (at : ℕ) (text : List ℕ) (p : List ℕ × List ℕ) → cut_at at text ≡ Some p
    → (text ≡ p.0 ++ (at ∷ p.1)) × (has_no at p.0 ≡ true)
at_takes at text p e = let parts = cut_took at text p e in (parts.whole, parts.none)

-- ---- texts whose bytes pass a test

pub run_all : (test : ℕ → Bool) (text : List ℕ) → is_run test text ≡ true
    → list_all test text ≡ true
run_all test [] run = absurd cc
run_all test (b ∷ bs) run = run

-- a byte that doesn't pass isn't in such a text
pub none_of : (test : ℕ → Bool) (at : ℕ) → test at ≡ false → (text : List ℕ)
    → list_all test text ≡ true → has_no at text ≡ true
none_of test at fails text all = none_passing test at text fails all
