-- The run of bytes that a text begins with, as a text of its own.
use Rattle.std.proofs.Common.{◌≡◌, ℕ, Bool, true, false, eqb, List, [], ◌∷◌, ◌++◌, length, take, drop, sym, ap, ◌∙◌}
use Rattle.std.specs.List.{list_all, prefix_len}
use Rattle.std.proofs.lemmas.Bool.{true≢false}
use Rattle.sip_text.specs.Parameter.{is_value_byte, is_value_word}
use Rattle.sip_text.specs.Token.{is_run, is_token, is_token_byte}
use Rattle.sip_text.proofs.Runs.{run_passes, run_whole}

-- a text split after its run, which isn't empty
pub record IsFront (test : ℕ → Bool) (text front rest : List ℕ) : Type 0 where
  pub parts : text ≡ front ++ rest
  pub run : is_run test front ≡ true

some_run : (test : ℕ → Bool) (text : List ℕ) → list_all test text ≡ true
    → eqb (length text) 0 ≡ false → is_run test text ≡ true
some_run test [] all some = absurd (true≢false some)
some_run test (b ∷ bs) all some = all

pub front_is : (test : ℕ → Bool) (text front rest : List ℕ) (n : ℕ) → n ≡ prefix_len test text
    → front ≡ take n text → rest ≡ drop n text → eqb (length front) 0 ≡ false
    → IsFront test text front rest
front_is test text front rest n size taken dropped some =
    let front_run : front ≡ take (prefix_len test text) text =
    taken ∙ ap (λ (k : ℕ). take k text) size in
    let rest_run : rest ≡ drop (prefix_len test text) text =
    dropped ∙ ap (λ (k : ℕ). drop k text) size in
    record {
      parts = run_whole test text
          ∙ ap (λ (t : List ℕ). t ++ drop (prefix_len test text) text) (sym front_run)
          ∙ ap (λ (t : List ℕ). front ++ t) (sym rest_run);
      run = some_run test front
          (ap (list_all test) front_run ∙ run_passes test text) some;
    }

pub token_is : (text : List ℕ) → is_run is_token_byte text ≡ true → is_token text ≡ true
unfolding is_token
token_is text run = run

pub word_is : (text : List ℕ) → is_run is_value_byte text ≡ true → is_value_word text ≡ true
unfolding is_value_word
word_is text run = run
