-- Start lines are read as they are spelled.
use Rattle.std.proofs.Common.{◌≡◌, ◌⊎◌, inl, inr, ℕ, ◌^◌, ◌<◌, ◌≤◌, Bool, true, false, cond, eqb, ltb, ◌&&◌, ◌||◌, List, [], ◌∷◌, ◌++◌, length, take, drop, codes, Some, None, Result, Ok, Err, refl, sym, ap, subst, ◌∙◌, arith, Option}
use Rattle.std.specs.Char.{is_ascii_digit}
use Rattle.std.specs.Str.{all_ascii_digits}
use Rattle.std.specs.Str.Parse.{digits_value}
use Rattle.std.proofs.lemmas.Bool.{eqb-true, and_parts, and_from, or_parts, ltb-false, le-ltb, lt-ltb, true≢false, cases_lt}
use Rattle.std.proofs.lemmas.List.{length-take, take_at, drop_at, take-append-drop}
use Rattle.std.proofs.lemmas.Option.{same_Some}
use Rattle.std.proofs.lemmas.Str.Parse.{digits_value_short, numerals_by_value, tells_all_ascii_digits}
use Rattle.sip_text.specs.Cut.{cut_at}
use Rattle.sip_text.specs.Number.{is_digits, number_of}
use Rattle.sip_text.specs.Token.{is_token}
use Rattle.sip_text.specs.declared.fault.TextFault.{TextFault}
use Rattle.sip_grammar.specs.Reason.{is_reason}
use Rattle.sip_grammar.specs.Word.{is_word}
use Rattle.sip_reader.specs.declared.first_line.FirstLine.{FirstLine}
use Rattle.sip_reader.specs.declared.first_line.FirstLine.TheVariants as first
use Rattle.sip_text.specs.Lines.{has_no}
use Rattle.sip_text.proofs.ReadForms.{Reads}
use Rattle.sip_text.specs.Options.{◌>>=◌}
use Rattle.sip_reader.specs.ReadStart.{request_at, code_in, code_at, reason_at, status_at, start_at}
use Rattle.sip_reader.specs.Head.{SpellsFirst}
use Rattle.sip_reader.specs.StartLine.{is_version, IsStatusCode}
use Rattle.sip_grammar.proofs.Characters.{same_lower, lower_without, token_without, no_space, no_slash, word_without_space}
use Rattle.sip_grammar.proofs.Cuts.{at_takes, at_again, run_all}
use Rattle.sip_header_values.proofs.Digits.{is_number, all_digits, number_is, number_again}
use Rattle.sip_grammar.proofs.Pieces.{guard_some, by_bool}

-- a space and the reason, or nothing
abbrev IsReasonPart : List ℕ → List ℕ → Type 0
IsReasonPart reason text = (text ≡ 32 ∷ reason) ⊎ ((text ≡ []) × (reason ≡ []))

-- a step that gave a value
bind_some : {A B : Type 0} (o : Option A) (f : A → Option B) (y : B) → (o >>= f) ≡ Some y
    → (x : A) × (o ≡ Some x) × (f x ≡ Some y)
bind_some None f y e = absurd cc
bind_some (Some x) f y e = (x, refl, e)

-- ---- the status code

from_number : (number status : ℕ) (r : Bool) → (ltb number 100 || ltb 699 number) ≡ r
    → cond r None (Some number) ≡ Some status → (number ≡ status) × (100 ≤ number) × (number ≤ 699)
from_number number status true is e = absurd cc
from_number number status false is e =
    let both = or_parts (ltb number 100) (ltb 699 number) is in
    (same_Some number status e, ltb-false number 100 both.0, ltb-false 699 number both.1)

below_hundred : (text : List ℕ) → is_digits text ≡ true → length text ≤ 2
    → digits_value 10 text < 100
below_hundred text digits short =
    digits_value_short (numerals_by_value (λ ds. all_ascii_digits ds ≡ true) tells_all_ascii_digits)
    text 2 (all_digits text ∙ run_all is_ascii_digit text digits) short

pub is_three : (text : List ℕ) → is_digits text ≡ true → length text ≤ 3
    → 100 ≤ digits_value 10 text → length text ≡ 3
is_three text digits short least =
    elim (cases_lt (length text) 3) [
      | inl lt ↦ absurd (omega (arith, below_hundred text digits (omega arith)))
      | inr le ↦ omega arith
    ]

code_result : (text : List ℕ) (status : ℕ) (r : Result ℕ TextFault) → number_of text ≡ r
    → length text ≤ 3 → code_in r ≡ Some status → IsStatusCode status text
code_result text status (Ok number) is short e =
    let made = number_is text number is in
    let digits = (and_parts (is_digits text) (ltb (digits_value 10 text) (2 ^ 32)) made.is).0 in
    let from = from_number number status (ltb number 100 || ltb 699 number) refl e in
    record {
      three = is_three text digits short (omega (arith, from.1, made.value));
      digits = digits;
      value = made.value ∙ from.0;
      least = omega (arith, from.0, from.1);
      most = omega (arith, from.0, from.2);
    }
code_result text status (Err fault) is short e = absurd cc

code_takes : (text : List ℕ) (status : ℕ) → length text ≤ 3 → code_at text ≡ Some status
    → IsStatusCode status text
unfolding code_at
code_takes text status short e = code_result text status (number_of text) refl short e

code_again : (text : List ℕ) (status : ℕ) → IsStatusCode status text → code_at text ≡ Some status
unfolding code_at
code_again text status code =
    let small : is_number (2 ^ 32) text ≡ true =
    and_from _ _ code.digits (lt-ltb (digits_value 10 text) (2 ^ 32)
    (omega (arith, code.value, code.most))) in
    let least : ltb status 100 ≡ false = le-ltb status 100 code.least in
    let most : ltb 699 status ≡ false = le-ltb 699 status code.most in
    ap code_in (number_again text status (record { is = small; value = code.value }))
    ∙ rw (least, most) refl

-- ---- the reason

reason_from : (b : ℕ) (bs reason : List ℕ) (r : Bool) → eqb b 32 ≡ r
    → cond (r && is_reason bs) (Some bs) None ≡ Some reason
    → IsReasonPart reason (b ∷ bs) × (is_reason reason ≡ true)
reason_from b bs reason true is e =
    let g = guard_some (is_reason bs) bs reason e in (
      inl (ap (λ (c : ℕ). c ∷ bs) (eqb-true b 32 is) ∙ ap (λ (xs : List ℕ). 32 ∷ xs) g.1),
      subst (λ (xs : List ℕ). is_reason xs ≡ true) g.1 g.0,
    )
reason_from b bs reason false is e = absurd cc

reason_takes : (text reason : List ℕ) → reason_at text ≡ Some reason
    → IsReasonPart reason text × (is_reason reason ≡ true)
unfolding reason_at
reason_takes [] reason e =
    subst (λ (xs : List ℕ). IsReasonPart xs [] × (is_reason xs ≡ true)) (same_Some [] reason e)
    (inr (refl, refl), refl)
reason_takes (b ∷ bs) reason e = reason_from b bs reason (eqb b 32) refl e

reason_again : (text reason : List ℕ) → IsReasonPart reason text → is_reason reason ≡ true
    → reason_at text ≡ Some reason
unfolding reason_at
reason_again text reason (inl e) is = rw (e, is) refl
reason_again text reason (inr e) is = rw (e.0, e.1) refl

-- ---- the two kinds of start line

status_takes : (version text : List ℕ) (says : FirstLine (List ℕ)) → is_version version ≡ true
    → status_at text ≡ Some says → SpellsFirst says (version ++ (32 ∷ text))
unfolding status_at
status_takes version text says is e =
    let a = bind_some (code_at (take 3 text))
    (λ status. reason_at (drop 3 text) >>= λ reason. Some (first.Response status reason)) says
    e in
    let b = bind_some (reason_at (drop 3 text))
    (λ reason. Some (first.Response a.0 reason)) says a.2 in
    let code = code_takes (take 3 text) a.0 (omega (arith, length-take 3 text)) a.1 in
    let reason = reason_takes (drop 3 text) b.0 b.1 in
    subst (λ (s : FirstLine (List ℕ)). SpellsFirst s (version ++ (32 ∷ text)))
    (same_Some (first.Response a.0 b.0) says b.2)
    (record {
      version = version;
      code = take 3 text;
      end = drop 3 text;
      parts = ap (λ (xs : List ℕ). version ++ (32 ∷ xs)) (sym (take-append-drop 3 text));
      version_is = is;
      code_is = code;
      end_is = reason.0;
      reason_is = reason.1;
    })

request_takes : (method text : List ℕ) (says : FirstLine (List ℕ))
    → request_at method text ≡ Some says → SpellsFirst says (method ++ (32 ∷ text))
unfolding request_at
request_takes method text says e =
    let a = bind_some (cut_at 32 text)
    (λ p. cond (is_version p.1 && (is_token method && is_word p.0))
    (Some (first.Request method p.0)) None) says e in
    let g = guard_some (is_version a.0.1 && (is_token method && is_word a.0.0))
    (first.Request method a.0.0) says a.2 in
    let both = and_parts (is_version a.0.1) (is_token method && is_word a.0.0) g.0 in
    let words = and_parts (is_token method) (is_word a.0.0) both.1 in
    subst (λ (s : FirstLine (List ℕ)). SpellsFirst s (method ++ (32 ∷ text))) g.1
    (record {
      version = a.0.1;
      parts = ap (λ (xs : List ℕ). method ++ (32 ∷ xs))
          (at_takes 32 text a.0 a.1).0;
      method_is = words.0;
      uri_is = words.1;
      version_is = both.0;
    })

line_from : (front text : List ℕ) (says : FirstLine (List ℕ)) (r : Bool) → is_version front ≡ r
    → cond r (status_at text) (request_at front text) ≡ Some says
    → SpellsFirst says (front ++ (32 ∷ text))
line_from front text says true is e = status_takes front text says is e
line_from front text says false is e = request_takes front text says e

start_takes : (line : List ℕ) (says : FirstLine (List ℕ)) → start_at line ≡ Some says
    → SpellsFirst says line
unfolding start_at
start_takes line says e =
    let a = bind_some (cut_at 32 line)
    (λ p. cond (is_version p.0) (status_at p.1) (request_at p.0 p.1)) says e in
    subst (λ (xs : List ℕ). SpellsFirst says xs) (sym (at_takes 32 line a.0 a.1).0)
    (line_from a.0.0 a.0.1 says (is_version a.0.0) refl a.2)

version_without : (text : List ℕ) → is_version text ≡ true → has_no 32 text ≡ true
version_without text is =
    sym (lower_without 32 (omega arith) text)
    ∙ ap (has_no 32) (same_lower text (codes "SIP/2.0") is)

method_no_version : (method : List ℕ) → is_token method ≡ true → is_version method ≡ false
method_no_version method token =
    by_bool (is_version method) (λ r. r ≡ false)
    (λ e. absurd (true≢false (sym (token_without 47 no_slash method token)
    ∙ sym (lower_without 47 (omega arith) method)
    ∙ ap (has_no 47) (same_lower method (codes "SIP/2.0") e))))
    (λ e. refl)

request_again : (method uri version : List ℕ) → is_token method ≡ true → is_word uri ≡ true
    → is_version version ≡ true → start_at (method ++ (32 ∷ (uri ++ (32 ∷ version))))
    ≡ Some (first.Request method uri)
unfolding start_at request_at
request_again method uri version token word is =
    rw (
      at_again 32 method (uri ++ (32 ∷ version)) (token_without 32 no_space method token),
      method_no_version method token,
      at_again 32 uri version (word_without_space uri word),
      is,
      token,
      word,
    ) refl

status_again : (status : ℕ) (reason version code end : List ℕ) → is_version version ≡ true
    → IsStatusCode status code → IsReasonPart reason end → is_reason reason ≡ true
    → start_at (version ++ (32 ∷ (code ++ end))) ≡ Some (first.Response status reason)
unfolding start_at status_at
status_again status reason version code end is code_is end_is reason_is =
    rw (
      at_again 32 version (code ++ end) (version_without version is),
      is,
      take_at code end 3 code_is.three,
      drop_at code end 3 code_is.three,
      code_again code status code_is,
      reason_again end reason end_is reason_is,
    ) refl

start_again : (line : List ℕ) (says : FirstLine (List ℕ)) → SpellsFirst says line
    → start_at line ≡ Some says
start_again line (first.Request method uri) spelled =
    rw spelled.parts (request_again method uri spelled.version spelled.method_is spelled.uri_is
    spelled.version_is)
start_again line (first.Response status reason) spelled =
    rw spelled.parts (status_again status reason spelled.version spelled.code spelled.end
    spelled.version_is spelled.code_is spelled.end_is spelled.reason_is)

pub start_reads : Reads (List ℕ) (FirstLine (List ℕ)) start_at SpellsFirst
start_reads = record { takes = start_takes; again = start_again }
