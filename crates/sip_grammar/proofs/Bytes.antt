-- Tests of each byte of a text.
use Rattle.std.proofs.Common.{◌≡◌, ℕ, Bool, true, false, ◌||◌, not, eqb, List, [], ◌∷◌, refl, sym, ap, ◌∙◌, IsTrue, codes}
use Rattle.std.specs.List.{list_all}
use Rattle.std.proofs.lemmas.Bool.{eqb-true, true≢false, and_parts, or_right}
pub use Rattle.std.proofs.lemmas.Bool.{and_from as both_true}
use Rattle.sip_text.specs.Character.{is_among, is_token_byte}
use Rattle.sip_text.specs.Token.{is_token}
use Rattle.sip_grammar.specs.Word.{is_word_byte, is_word}
use Rattle.sip_grammar.specs.Uri.{is_uri_byte, is_uri}
use Rattle.sip_text.specs.Parameter.{is_value_byte, is_value_word, is_parameter_value}
use Rattle.sip_text.specs.Quoted.{is_quoted}

step : (test : ℕ → Bool) (c : ℕ) (cs : List ℕ) (b : ℕ) (r : Bool) → eqb c b ≡ r
    → not (test c) ≡ true → test b ≡ true → is_among cs b ≡ false → is_among (c ∷ cs) b ≡ false
step test c cs b true e fail h rest =
    absurd (true≢false (sym (ap (λ x. not (test x)) (sym (eqb-true c b e)) ∙ fail) ∙ ap not h))
step test c cs b false e fail h rest = ap (λ r. r || is_among cs b) e ∙ rest

-- a byte that passes a test is none of the bytes that fail it
pub none_of : (test : ℕ → Bool) (bytes : List ℕ) (b : ℕ) → list_all (λ c. not (test c)) bytes ≡ true
    → test b ≡ true → is_among bytes b ≡ false
none_of test [] b fail h = refl
none_of test (c ∷ cs) b fail h =
    let parts = and_parts (not (test c)) (list_all (λ c. not (test c)) cs) fail in
    step test c cs b (eqb c b) refl parts.0 h (none_of test cs b parts.1 h)

-- if each byte that passes one test passes the other, so do texts
pub all_weaker : (p q : ℕ → Bool) → ((b : ℕ) → p b ≡ true → q b ≡ true) → (text : List ℕ)
    → list_all p text ≡ true → list_all q text ≡ true
all_weaker p q weaker [] h = refl
all_weaker p q weaker (b ∷ bs) h =
    let parts = and_parts (p b) (list_all p bs) h in
    both_true (q b) (list_all q bs) (weaker b parts.0) (all_weaker p q weaker bs parts.1)

uri_byte : (b : ℕ) → is_uri_byte b ≡ true → is_word_byte b ≡ true
unfolding is_uri_byte is_word_byte
uri_byte b h = ap not (none_of is_uri_byte (codes " \t\r\n") b refl h)

-- a URI is a Request-URI
pub uri_is_word : (text : List ℕ) → IsTrue (is_uri text) → IsTrue (is_word text)
unfolding is_uri is_word
uri_is_word [] h = h
uri_is_word (b ∷ bs) h = all_weaker is_uri_byte is_word_byte uri_byte (b ∷ bs) h

token_byte : (b : ℕ) → is_token_byte b ≡ true → is_value_byte b ≡ true
unfolding is_token_byte is_value_byte
token_byte b h = ap not (none_of is_token_byte (codes " \t\r\n;,<>\"") b refl h)

token_word : (text : List ℕ) → IsTrue (is_token text) → is_value_word text ≡ true
unfolding is_token is_value_word
token_word [] h = h
token_word (b ∷ bs) h = all_weaker is_token_byte is_value_byte token_byte (b ∷ bs) h

-- a token is a parameter's value
pub token_is_value : (text : List ℕ) → IsTrue (is_token text) → IsTrue (is_parameter_value text)
unfolding is_parameter_value
token_is_value text h = or_right (is_quoted text) (is_value_word text) (token_word text h)
