-- What is written for numbers, Call-IDs, CSeq and RAck values is read as these.
use Rattle.std.proofs.Common.{◌≡◌, ◌^◌, ◌<◌, ℕ, true, ltb, List, [], ◌∷◌, ◌++◌, decimal, Some, None, refl, ap, subst, ◌∙◌, append_assoc, arith}
use Rattle.std.specs.Prelude.{option_and_then}
use Rattle.std.specs.Char.{is_ascii_digit}
use Rattle.std.specs.Option.{option_map}
use Rattle.std.specs.Str.Parse.{digits_value}
use Rattle.std.proofs.lemmas.Bool.{lt-ltb}
use Rattle.sip_text.specs.Forms.{by_cut, both, told}
use Rattle.sip_text.specs.Number.{number_of}
use Rattle.sip_text.specs.Token.{is_token}
use Rattle.sip_text.specs.Trimmed.{trimmed}
use Rattle.sip_text.specs.declared.separator.Separator.TheVariants.{Blank}
use Rattle.sip_grammar.specs.Word.{is_word}
use Rattle.sip_message.specs.declared.cseq.CSeq.{CSeq}
use Rattle.sip_message.specs.declared.rack.RAck.{RAck}
use Rattle.sip_message.specs.Written.{cseq_text, rack_text}
use Rattle.sip_header_values.specs.declared.numeral.Numeral.TheVariants.{Number}
use Rattle.sip_header_values.specs.Numeral.{numeral_from}
use Rattle.sip_header_values.specs.Sequence as sequence
use Rattle.sip_headers.specs.Numbers.{rack_draft}
use Rattle.sip_message.specs.Rules.{IsRAck}
use Rattle.sip_grammar.proofs.Blanks.{End}
use Rattle.sip_grammar.proofs.Cuts.{run_all}
use Rattle.sip_grammar.proofs.Passing.{Passes, cut_here, class_passes_blank}
use Rattle.sip_grammar.proofs.WrittenBytes.{solid, token_solid, word_solid, digits_solid, solid_line, solid_end, decimal_digits, decimal_value, digits_word}
use Rattle.sip_grammar.proofs.TextEnds.{Good, Full, end_behind, kept_behind, solid_good, plain_both, token_is_full, digits_full, passing_some, trimmed_some, token_kept, Again, moved}

pub decimal_read : (n : ℕ) → n < 2 ^ 32 → numeral_from (decimal n) ≡ Some (Number n)
unfolding number_of
decimal_read n lt =
    let digits = decimal_digits n (omega arith) in
    let value = decimal_value n (omega arith) in
    let below : ltb (digits_value 10 (decimal n)) (2 ^ 32) ≡ true =
    lt-ltb (digits_value 10 (decimal n)) (2 ^ 32) (omega (arith, value)) in
    rw (digits_word (decimal n) digits, digits, below, value) refl

pub decimal_solid : (n : ℕ) → n < 2 ^ 64 → solid (decimal n) ≡ true
decimal_solid n lt = digits_solid (decimal n) (decimal_digits n lt)

pub number_again : (n : ℕ) → n < 2 ^ 32 → Again numeral_from (Number n) (decimal n)
number_again n lt = record {
  read = decimal_read n lt;
  good = solid_good (decimal n) (decimal_solid n (omega arith));
}

pub call_id_again : (word : List ℕ) → is_word word ≡ true → Again sequence.call_id_from word word
call_id_again word is = record {
  read = passing_some (is_word word) word is;
  good = solid_good word (word_solid word is);
}

digits_pass : (n : ℕ) → n < 2 ^ 64 → Passes Blank (decimal n)
digits_pass n lt = class_passes_blank is_ascii_digit refl refl (decimal n)
    (run_all is_ascii_digit (decimal n) (decimal_digits n lt))

pub token_read : (token : List ℕ) → is_token token ≡ true → sequence.token_from token ≡ Some token
token_read token is = trimmed_some is_token token (token_kept token is) is

abbrev cseq_shown : ℕ → List ℕ → List ℕ
cseq_shown n method = decimal n ++ (32 ∷ method)

cseq_read : (n : ℕ) (method : List ℕ) → n < 2 ^ 32 → is_token method ≡ true
    → sequence.cseq_from (cseq_shown n method)
    ≡ Some (record { number = Number n; method = method })
cseq_read n method lt is =
    ap (λ o. by_cut o (told sequence.cseq_of (both numeral_from sequence.token_from))
    None) (cut_here Blank (decimal n) 32 method (digits_pass n (omega arith)) refl)
    ∙ ap (λ o. option_map sequence.cseq_of
    (option_and_then (λ x. option_and_then (λ y. Some (x, y)) (sequence.token_from method)) o))
    (decimal_read n lt)
    ∙ ap (λ o. option_map sequence.cseq_of (option_and_then (λ y. Some (Number n, y)) o))
    (token_read method is)

cseq_end : (n : ℕ) (method : List ℕ) → is_token method ≡ true → End (cseq_shown n method)
cseq_end n method is =
    subst (λ (xs : List ℕ). End xs) (append_assoc (decimal n) (32 ∷ []) method)
    (end_behind (decimal n ++ (32 ∷ [])) method (token_is_full method is)
    (solid_end method (token_solid method is)))

cseq_good : (n : ℕ) (method : List ℕ) → n < 2 ^ 32 → is_token method ≡ true
    → Good (cseq_shown n method)
cseq_good n method lt is = record {
  kept = kept_behind (decimal n) (32 ∷ method)
      (digits_full (decimal n) (decimal_digits n (omega arith))) (decimal_solid n (omega arith))
      (cseq_end n method is);
  plain = plain_both (decimal n) (32 ∷ method)
      (solid_line (decimal n) (decimal_solid n (omega arith)))
      (solid_line method (token_solid method is));
}

pub cseq_again : (c : CSeq) → c.number < 2 ^ 32 → is_token c.method ≡ true
    → Again sequence.cseq_from (record { number = Number c.number; method = c.method })
    (cseq_text c)
unfolding cseq_text
cseq_again c lt is =
    moved (append_assoc (decimal c.number) (32 ∷ []) c.method)
    (record {
      read = cseq_read c.number c.method lt is;
      good = cseq_good c.number c.method lt is;
    })

rack_regroup : (a b m : List ℕ)
    → (((a ++ (32 ∷ [])) ++ b) ++ (32 ∷ [])) ++ m ≡ a ++ (32 ∷ (b ++ (32 ∷ m)))
rack_regroup a b m =
    append_assoc ((a ++ (32 ∷ [])) ++ b) (32 ∷ []) m ∙ append_assoc (a ++ (32 ∷ [])) b (32 ∷ m)
    ∙ append_assoc a (32 ∷ []) (b ++ (32 ∷ m))

pub rack_again : (r : RAck) → IsRAck r → Again sequence.rack_from (rack_draft r) (rack_text r)
unfolding rack_text
rack_again r is =
    let rest = cseq_shown r.cseq r.method in
    let inner = cseq_good r.cseq r.method is.cseq is.method in
    let full : Full rest = λ (e : rest ≡ []). no_text (decimal r.cseq) 32 r.method e in
    moved (rack_regroup (decimal r.rseq) (decimal r.cseq) r.method) (record {
      read = ap (λ o. by_cut o (told sequence.rack_of
          (both numeral_from (λ text. sequence.cseq_from (trimmed text)))) None)
          (cut_here Blank (decimal r.rseq) 32 rest
          (digits_pass r.rseq (omega (arith, is.rseq))) refl)
          ∙ ap (λ o. option_map sequence.rack_of
          (option_and_then (λ x. option_and_then (λ y. Some (x, y))
          (sequence.cseq_from (trimmed rest))) o))
          (decimal_read r.rseq is.rseq)
          ∙ ap (λ (xs : List ℕ). option_map sequence.rack_of
          (option_and_then (λ y. Some (Number r.rseq, y)) (sequence.cseq_from xs))) inner.kept
          ∙ ap (λ o. option_map sequence.rack_of (option_and_then (λ y. Some (Number r.rseq, y)) o))
          (cseq_read r.cseq r.method is.cseq is.method);
      good = record {
        kept = kept_behind (decimal r.rseq) (32 ∷ rest)
            (digits_full (decimal r.rseq) (decimal_digits r.rseq (omega (arith, is.rseq))))
            (decimal_solid r.rseq (omega (arith, is.rseq)))
            (subst (λ (xs : List ℕ). End xs) (append_assoc (decimal r.rseq) (32 ∷ []) rest)
            (end_behind (decimal r.rseq ++ (32 ∷ [])) rest full
            (cseq_end r.cseq r.method is.method)));
        plain = plain_both (decimal r.rseq) (32 ∷ rest)
            (solid_line (decimal r.rseq) (decimal_solid r.rseq (omega (arith, is.rseq))))
            inner.plain;
      };
    })
  where
    no_text : (xs : List ℕ) (y : ℕ) (ys : List ℕ) → xs ++ (y ∷ ys) ≡ [] → ⊥
    no_text [] y ys e = absurd cc
    no_text (x ∷ xs) y ys e = absurd cc
