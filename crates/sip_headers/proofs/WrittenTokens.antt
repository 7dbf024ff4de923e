-- What is written for a list of tokens is read as that list.
use Rattle.std.proofs.Common.{◌≡◌, ℕ, true, List, [], ◌∷◌, ◌++◌, codes, Some, refl, sym, ap, subst, ◌∙◌, append_assoc}
use Rattle.std.specs.Prelude.{option_and_then, IsTrue}
use Rattle.std.specs.List.{AllByRecursion, flat_map}
use Rattle.std.proofs.lemmas.List.{append-nil}
use Rattle.sip_text.specs.Forms.{each, split}
use Rattle.sip_text.specs.Token.{is_token}
use Rattle.sip_text.specs.Trimmed.{trimmed_end}
use Rattle.sip_text.specs.declared.separator.Separator.TheVariants.{Byte}
use Rattle.sip_text.specs.declared.separator.Place.TheVariants.{Plain}
use Rattle.sip_text.proofs.Splits.{split_some}
use Rattle.sip_grammar.specs.HeaderValue.{has_no_line_byte}
use Rattle.sip_message.specs.Written.{joined}
use Rattle.sip_header_values.specs.Sequence as sequence
use Rattle.sip_grammar.proofs.Blanks.{End}
use Rattle.sip_grammar.proofs.Passing.{Passes, both_pass, cut_here, comma_marks, token_passes}
use Rattle.sip_grammar.proofs.WrittenBytes.{token_solid, solid_line, solid_end}
use Rattle.sip_grammar.proofs.TextEnds.{Full, full_cons, end_behind, kept_behind, plain_both, token_is_full, full_front, Again}
use Rattle.sip_headers.proofs.WrittenAddresses.{one_of_list}
use Rattle.sip_headers.proofs.WrittenNumbers.{token_read}

abbrev more_tokens : List (List ℕ) → List ℕ
more_tokens tokens = flat_map (λ token. codes ", " ++ token) tokens

pub token_passes_comma : (token : List ℕ) → is_token token ≡ true → Passes (Byte 44) token
token_passes_comma token is = token_passes 44 comma_marks.token token is

-- a token after a space, or none
spaced_read : (token : List ℕ) → is_token token ≡ true
    → sequence.token_from (32 ∷ token) ≡ Some token
spaced_read token is = token_read token is

tokens_split : (text first : List ℕ) (tokens : List (List ℕ)) → Passes (Byte 44) text
    → sequence.token_from text ≡ Some first
    → AllByRecursion (λ token. IsTrue (is_token token)) tokens
    → split (Byte 44) sequence.token_from (text ++ more_tokens tokens) ≡ Some (first ∷ tokens)
tokens_split text first [] passes e all =
    ap (split (Byte 44) sequence.token_from) (append-nil text)
    ∙ one_of_list sequence.token_from first text passes e
tokens_split text first (token ∷ tokens) passes e all =
    ap (each sequence.token_from) (split_some (Byte 44) Plain
    (text ++ (44 ∷ ((32 ∷ token) ++ more_tokens tokens))) text
    ((32 ∷ token) ++ more_tokens tokens)
    (cut_here (Byte 44) text 44 ((32 ∷ token) ++ more_tokens tokens) passes refl))
    ∙ ap (λ o. option_and_then (λ x.
    option_and_then (λ xs. Some (x ∷ xs))
    (split (Byte 44) sequence.token_from ((32 ∷ token) ++ more_tokens tokens))) o) e
    ∙ ap (λ o. option_and_then (λ xs. Some (first ∷ xs)) o)
    (tokens_split (32 ∷ token) token tokens
    (both_pass (Byte 44) (32 ∷ []) token refl (token_passes_comma token all.0))
    (spaced_read token all.0) all.1)

tokens_end : (front : List ℕ) (tokens : List (List ℕ))
    → AllByRecursion (λ token. IsTrue (is_token token)) tokens → End front
    → End (front ++ more_tokens tokens)
tokens_end front [] all e = ap trimmed_end (append-nil front) ∙ e ∙ sym (append-nil front)
tokens_end front (token ∷ tokens) all e =
    let one : End (44 ∷ (32 ∷ token)) =
    end_behind (44 ∷ (32 ∷ [])) token (token_is_full token all.0)
    (solid_end token (token_solid token all.0)) in
    let more = tokens_end (front ++ (44 ∷ (32 ∷ token))) tokens all.1
    (end_behind front (44 ∷ (32 ∷ token)) (full_cons 44 (32 ∷ token)) one) in
    subst (λ (xs : List ℕ). End xs)
    (append_assoc front (44 ∷ (32 ∷ token)) (more_tokens tokens)) more

tokens_plain : (tokens : List (List ℕ)) → AllByRecursion (λ token. IsTrue (is_token token)) tokens
    → has_no_line_byte (more_tokens tokens) ≡ true
tokens_plain [] all = refl
tokens_plain (token ∷ tokens) all =
    plain_both token (more_tokens tokens) (solid_line token (token_solid token all.0))
    (tokens_plain tokens all.1)

or_empty_read : (text : List ℕ) (tokens : List (List ℕ)) → Full text
    → split (Byte 44) sequence.token_from text ≡ Some tokens
    → sequence.tokens_from text ≡ Some tokens
or_empty_read [] tokens full e = absurd (full refl)
or_empty_read (b ∷ bs) tokens full e = e

pub tokens_again : (token : List ℕ) (tokens : List (List ℕ)) → is_token token ≡ true
    → AllByRecursion (λ t. IsTrue (is_token t)) tokens
    → Again sequence.tokens_from (token ∷ tokens) (joined token tokens)
tokens_again token tokens is all = record {
  read = or_empty_read (joined token tokens) (token ∷ tokens)
      (full_front token (more_tokens tokens) (token_is_full token is))
      (tokens_split token token tokens (token_passes_comma token is) (token_read token is) all);
  good = record {
    kept = kept_behind token (more_tokens tokens) (token_is_full token is) (token_solid token is)
        (tokens_end token tokens all (solid_end token (token_solid token is)));
    plain = plain_both token (more_tokens tokens) (solid_line token (token_solid token is))
        (tokens_plain tokens all);
  };
}
