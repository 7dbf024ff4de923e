-- The start line that is written for a message spells that start line.
use Rattle.std.proofs.Common.{◌≡◌, inl, ℕ, ◌≤◌, true, List, [], ◌∷◌, ◌++◌, length, codes, decimal, refl, sym, ap, ◌∙◌, append_assoc, arith}
use Rattle.std.proofs.lemmas.Bool.{and_from}
use Rattle.std.proofs.lemmas.Fmt.{length-decimal-le}
use Rattle.std.proofs.lemmas.List.{length-append}
use Rattle.std.proofs.lemmas.List.Folds.{list_all-append}
use Rattle.sip_text.specs.Lines.{has_no}
use Rattle.sip_text.specs.Token.{is_token}
use Rattle.sip_message.specs.declared.start_line.StartLine.{StartLine}
use Rattle.sip_message.specs.declared.start_line.StartLine.TheVariants as start
use Rattle.sip_message.specs.Written.{start_text}
use Rattle.sip_reader.proofs.Layouts.{IsFull}
use Rattle.sip_message.specs.Rules.{IsStartLine}
use Rattle.sip_reader.specs.StartLine.{SpellsStart, IsStatusCode}
use Rattle.sip_reader.proofs.StartLines.{is_three}
use Rattle.sip_grammar.proofs.WrittenBytes.{solid, token_solid, word_solid, digits_solid, solid_line, no_lf, decimal_digits, decimal_value}

abbrev NoLf : List ℕ → Type 0
NoLf line = has_no 10 line ≡ true

abbrev pub start_of : StartLine → List ℕ → List ℕ
start_of (start.Request uri) method = method ++ (32 ∷ (uri ++ (32 ∷ codes "SIP/2.0")))
start_of (start.Response status reason) method =
    codes "SIP/2.0" ++ (32 ∷ (decimal status ++ (32 ∷ reason)))

request_parts : (m u w e : List ℕ)
    → ((m ++ (32 ∷ [])) ++ u) ++ (32 ∷ (w ++ e)) ≡ (m ++ (32 ∷ (u ++ (32 ∷ w)))) ++ e
request_parts m u w e =
    append_assoc (m ++ (32 ∷ [])) u (32 ∷ (w ++ e))
    ∙ append_assoc m (32 ∷ []) (u ++ (32 ∷ (w ++ e)))
    ∙ ap (λ (xs : List ℕ). m ++ (32 ∷ xs)) (sym (append_assoc u (32 ∷ w) e))
    ∙ sym (append_assoc m (32 ∷ (u ++ (32 ∷ w))) e)

response_parts : (w d r e : List ℕ)
    → (((w ++ (32 ∷ d)) ++ (32 ∷ [])) ++ r) ++ e ≡ (w ++ (32 ∷ (d ++ (32 ∷ r)))) ++ e
response_parts w d r e =
    ap (λ (xs : List ℕ). xs ++ e) (append_assoc (w ++ (32 ∷ d)) (32 ∷ []) r
    ∙ append_assoc w (32 ∷ d) (32 ∷ r))

pub start_with_end : (says : StartLine) (method : List ℕ)
    → start_text says method ≡ start_of says method ++ codes "\r\n"
unfolding start_text
start_with_end (start.Request uri) method =
    request_parts method uri (codes "SIP/2.0") (codes "\r\n")
start_with_end (start.Response status reason) method =
    response_parts (codes "SIP/2.0") (decimal status) reason (codes "\r\n")

status_code : (status : ℕ) → 100 ≤ status → status ≤ 699 → IsStatusCode status (decimal status)
status_code status least most =
    let digits = decimal_digits status (omega arith) in
    let value = decimal_value status (omega arith) in
    let short : length (decimal status) ≤ 3 =
    length-decimal-le 3 status (omega arith) (omega arith) (omega arith) in
    record {
      three = is_three (decimal status) digits short (omega (arith, value, least));
      digits = digits;
      value = value;
      least = least;
      most = most;
    }

pub start_spelled : (says : StartLine) (method : List ℕ) → IsStartLine says → is_token method ≡ true
    → SpellsStart says method (start_of says method)
start_spelled (start.Request uri) method is token =
    record {
      version = codes "SIP/2.0";
      parts = refl;
      method_is = token;
      uri_is = is;
      version_is = refl;
    }
start_spelled (start.Response status reason) method is token =
    record {
      version = codes "SIP/2.0";
      code = decimal status;
      end = 32 ∷ reason;
      parts = refl;
      version_is = refl;
      code_is =
          status_code status is.0 is.1;
      end_is = inl refl;
      reason_is = is.2;
    }

pub start_full : (says : StartLine) (method : List ℕ) → IsFull (start_of says method)
start_full (start.Request uri) method none =
    omega (arith, ap length none, length-append method (32 ∷ (uri ++ (32 ∷ codes "SIP/2.0"))))
start_full (start.Response status reason) method none = absurd cc

both_free : (one other : List ℕ) → NoLf one → NoLf other → NoLf (one ++ other)
both_free one other p q = list_all-append _ one other ∙ and_from _ _ p q

solid_free : (text : List ℕ) → solid text ≡ true → NoLf text
solid_free text s = no_lf text (solid_line text s)

pub start_free : (says : StartLine) (method : List ℕ) → IsStartLine says → is_token method ≡ true
    → NoLf (start_of says method)
start_free (start.Request uri) method is token =
    both_free method (32 ∷ (uri ++ (32 ∷ codes "SIP/2.0")))
    (solid_free method (token_solid method token))
    (both_free uri (32 ∷ codes "SIP/2.0") (solid_free uri (word_solid uri is)) refl)
start_free (start.Response status reason) method is token =
    both_free (decimal status) (32 ∷ reason)
    (solid_free (decimal status) (digits_solid (decimal status)
    (decimal_digits status (omega (arith, is.1))))) (no_lf reason is.2)
