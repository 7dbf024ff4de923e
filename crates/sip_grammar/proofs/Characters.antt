-- Which bytes don't occur in a token, a word, a URI, a host and so on.
use Rattle.std.proofs.Common.{◌≡◌, ℕ, ◌≤◌, ◌<◌, ◌+◌, Bool, true, false, cond, not, eqb, ltb, List, [], ◌∷◌, refl, sym, ap, ◌∙◌, arith}
use Rattle.std.specs.Char.{to_ascii_lowercase}
use Rattle.std.specs.List.{list_all}
use Rattle.std.specs.Str.{str_to_ascii_lowercase, str_eq_ignore_ascii_case}
use Rattle.std.proofs.lemmas.Bool.{eqb-true, ne_eqb, ltb-false, true≢false}
use Rattle.std.proofs.lemmas.Slice.Eq.{bytes_eq-Decides}
use Rattle.sip_text.specs.Character.{is_blank, is_token_byte}
use Rattle.sip_text.specs.Token.{is_run, is_token}
use Rattle.sip_grammar.specs.Word.{is_word_byte, is_word}
use Rattle.sip_text.specs.Lines.{has_no}
use Rattle.sip_grammar.proofs.Cuts.{run_all, none_of}
use Rattle.sip_grammar.proofs.Pieces.{by_bool}

pub full_at : (test : ℕ → Bool) (b at : ℕ) → test at ≡ false → test b ≡ true → eqb b at ≡ false
full_at test b at fails passes =
    by_bool (eqb b at) (λ r. r ≡ false)
    (λ e. absurd (true≢false (sym passes ∙ ap test (eqb-true b at e) ∙ fails))) (λ e. refl)

-- ---- tokens

pub token_run : (text : List ℕ) → is_token text ≡ true → is_run is_token_byte text ≡ true
unfolding is_token
token_run text token = token

pub token_bytes : (text : List ℕ) → is_token text ≡ true → list_all is_token_byte text ≡ true
token_bytes text token = run_all is_token_byte text (token_run text token)

pub token_full : (b : ℕ) → is_token_byte b ≡ true → is_blank b ≡ false
unfolding is_token_byte
token_full b passes =
    rw (full_at is_token_byte b 32 refl passes, full_at is_token_byte b 9 refl passes) refl

pub token_without : (at : ℕ) → is_token_byte at ≡ false → (text : List ℕ) → is_token text ≡ true
    → has_no at text ≡ true
token_without at fails text token = none_of is_token_byte at fails text (token_bytes text token)

pub no_colon : is_token_byte 58 ≡ false
unfolding is_token_byte
no_colon = refl

pub no_equals : is_token_byte 61 ≡ false
unfolding is_token_byte
no_equals = refl

pub no_space : is_token_byte 32 ≡ false
unfolding is_token_byte
no_space = refl

pub no_slash : is_token_byte 47 ≡ false
unfolding is_token_byte
no_slash = refl

-- ---- words, URIs, values, ports

pub word_bytes : (text : List ℕ) → is_word text ≡ true → list_all is_word_byte text ≡ true
unfolding is_word
word_bytes text word = run_all is_word_byte text word

pub word_without_space : (text : List ℕ) → is_word text ≡ true → has_no 32 text ≡ true
unfolding is_word_byte
word_without_space text word = none_of is_word_byte 32 refl text (word_bytes text word)

-- ---- without case

pub same_lower : (one other : List ℕ) → str_eq_ignore_ascii_case one other ≡ true
    → str_to_ascii_lowercase one ≡ str_to_ascii_lowercase other
same_lower one other same =
    (bytes_eq-Decides (str_to_ascii_lowercase one) (str_to_ascii_lowercase other)).0 same

upper_blank : (b : ℕ) → 65 ≤ b → is_blank (b + 32) ≡ is_blank b
upper_blank b low =
    rw (
      ne_eqb (b + 32) 32 (λ e. omega arith),
      ne_eqb (b + 32) 9 (λ e. omega arith),
      ne_eqb b 32 (λ e. omega arith),
      ne_eqb b 9 (λ e. omega arith),
    ) refl

lower_blank : (b : ℕ) → is_blank (to_ascii_lowercase b) ≡ is_blank b
lower_blank b =
    by_bool (ltb b 65) (λ r. is_blank (cond r b (cond (ltb b 91) (b + 32) b)) ≡ is_blank b)
    (λ e. refl)
    (λ e. by_bool (ltb b 91) (λ r. is_blank (cond r (b + 32) b) ≡ is_blank b)
    (λ f. upper_blank b (ltb-false b 65 e)) (λ f. refl))

pub lower_not_blank : (text : List ℕ)
    → list_all (λ b. not (is_blank b)) (str_to_ascii_lowercase text)
    ≡ list_all (λ b. not (is_blank b)) text
lower_not_blank [] = refl
lower_not_blank (b ∷ bs) = rw (lower_blank b, lower_not_blank bs) refl

upper_other : (b at : ℕ) → 65 ≤ b → at < 65 → eqb (b + 32) at ≡ eqb b at
upper_other b at low lt =
    ne_eqb (b + 32) at (λ e. omega arith) ∙ sym (ne_eqb b at (λ e. omega arith))

lower_other : (at : ℕ) → at < 65 → (b : ℕ) → eqb (to_ascii_lowercase b) at ≡ eqb b at
lower_other at lt b =
    by_bool (ltb b 65) (λ r. eqb (cond r b (cond (ltb b 91) (b + 32) b)) at ≡ eqb b at) (λ e. refl)
    (λ e. by_bool (ltb b 91) (λ r. eqb (cond r (b + 32) b) at ≡ eqb b at)
    (λ f. upper_other b at (ltb-false b 65 e) lt) (λ f. refl))

-- a byte below the letters occurs in a text exactly if it occurs in the text in lower case
pub lower_without : (at : ℕ) → at < 65 → (text : List ℕ)
    → has_no at (str_to_ascii_lowercase text) ≡ has_no at text
lower_without at lt [] = refl
lower_without at lt (b ∷ bs) = rw (lower_other at lt b, lower_without at lt bs) refl
