-- Header lines without folds.
use Rattle.std.proofs.Common.{◌≡◌, ◌⊎◌, inl, inr, ◌<◌, ◌-◌, ℕ, zero, suc, Bool, true, false, not, cond, eqb, List, [], ◌∷◌, ◌++◌, length, take, drop, Some, None, refl, sym, ap, ◌∙◌, append_assoc, slice_index, arith}
use Rattle.std.specs.List.{list_all}
use Rattle.std.specs.Option.{option_map}
use Rattle.std.specs.Str.Lines.{strip_carriage_return}
use Rattle.std.proofs.lemmas.Bool.{and_from, and_parts, eqb-true, not-true, or_parts}
use Rattle.std.proofs.lemmas.Option.{none-some, same_Some}
use Rattle.std.proofs.lemmas.List.{length-append, get_or_at, take_at, take-append-drop}
use Rattle.std.proofs.lemmas.List.Folds.{list_all-append}
use Rattle.memchr.specs.Find.{Nowhere, Passes}
use Rattle.sip_text.specs.Character.{is_line_byte, is_token_byte}
use Rattle.sip_text.specs.Line.{line_at}
use Rattle.sip_text.specs.Lines.{has_no}
use Rattle.sip_text.specs.Run.{run_before}
use Rattle.sip_text.specs.Token.{is_token}
use Rattle.sip_text.specs.Trimmed.{trimmed}
use Rattle.sip_text.specs.Unfolded.{begins_blank}
use Rattle.sip_text.specs.declared.separator.Separator.TheVariants.{Byte}
use Rattle.sip_text.proofs.LineParts.{line_takes}
use Rattle.sip_text.proofs.Runs.{run_found}
use Rattle.sip_grammar.specs.HeaderEntry.{header_named}
use Rattle.sip_grammar.specs.HeaderValue.{has_no_line_byte}
use Rattle.sip_grammar.proofs.Characters.{no_colon}
use Rattle.sip_grammar.proofs.Cuts.{at_again}
use Rattle.sip_grammar.proofs.Passing.{cut_here, token_passes}
use Rattle.sip_grammar.proofs.PlainRuns.{token_is}
use Rattle.sip_grammar.proofs.WrittenBytes.{no_lf, solid_end, solid_line, token_solid}
use Rattle.sip_headers.specs.HeaderFields.{with_class}
use Rattle.sip_headers.specs.Steps.Drafted.{drafted_at}
use Rattle.sip_headers.specs.HeaderLine.{Class, class_by_name, class_from}
use Rattle.sip_headers.specs.Steps.PlainLine.{IsPlainEnd, IsPlainLine, behind_feed, behind_line_end}
use Rattle.sip_headers.specs.declared.header_fields.HeaderFields.{HeaderFields}
use Rattle.sip_headers.proofs.Folds.{ends_plain, section_goes_on}

-- ---- the bytes before the first one that passes a test

not_true : (b : Bool) → (b ≡ true → ⊥) → b ≡ false
not_true true h = absurd (h refl)
not_true false h = refl

none_before : (test : ℕ → Bool) (text : List ℕ) (k : ℕ) → k < length text
    → Nowhere (Passes test text) 0 k → list_all (λ b. not (test b)) (take k text) ≡ true
none_before test text zero lt none = refl
none_before test [] (suc k) lt none = refl
none_before test (b ∷ bs) (suc k) lt none =
    let here : test b ≡ false = not_true (test b) (none 0 (omega arith) (omega arith)) in
    let rest = none_before test bs k (omega arith)
    (λ i low high. none (suc i) (omega arith) (omega arith)) in
    rw (here, rest) refl

-- ---- a line with its end

-- the last byte, or 0 if there is none
abbrev last_byte : List ℕ → ℕ
last_byte text = slice_index text (length text - 1)

one_less : (n : ℕ) → suc n - 1 ≡ n
one_less n = omega arith

last_plain : (text : List ℕ) → has_no_line_byte text ≡ true → eqb (last_byte text) 13 ≡ false
last_plain [] plain = refl
last_plain (b ∷ []) plain =
    let here = (and_parts (not (is_line_byte b)) true plain).0 in
    (or_parts (eqb b 13) (eqb b 10) (not-true (is_line_byte b) here)).0
last_plain (b ∷ (c ∷ cs)) plain =
    ap (λ n. eqb (slice_index (b ∷ (c ∷ cs)) n) 13) (one_less (suc (length cs)))
    ∙ ap (λ n. eqb (slice_index (c ∷ cs) n) 13) (sym (one_less (length cs)))
    ∙ last_plain (c ∷ cs)
    (and_parts (not (is_line_byte b)) (has_no_line_byte (c ∷ cs)) plain).1

plain_stays : (line : List ℕ) → has_no_line_byte line ≡ true → strip_carriage_return line ≡ line
plain_stays line plain = rw (last_plain line plain) refl

return_goes : (line : List ℕ) → strip_carriage_return (line ++ (13 ∷ [])) ≡ line
return_goes line =
    let long : length (line ++ (13 ∷ [])) - 1 ≡ length line =
    omega (arith, length-append line (13 ∷ [])) in
    rw (long, get_or_at line 13 [] 0 (length line) refl, take_at line (13 ∷ []) (length line) refl)
    refl

cut_line : (part after line : List ℕ) → has_no 10 part ≡ true → strip_carriage_return part ≡ line
    → line_at (part ++ (10 ∷ after)) ≡ Some (line, after)
unfolding line_at
cut_line part after line free stripped =
    ap (option_map (λ (p : List ℕ × List ℕ). (strip_carriage_return p.0, p.1)))
    (at_again 10 part after free)
    ∙ ap (λ (l : List ℕ). Some (l, after)) stripped

feed_is : (rest after : List ℕ) → behind_feed rest ≡ Some after → rest ≡ 10 ∷ after
feed_is [] after e = absurd (none-some after e)
feed_is (b ∷ bs) after e = by (eqb b 10) refl e
  where
    by : (r : Bool) → eqb b 10 ≡ r → cond r (Some bs) None ≡ Some after → b ∷ bs ≡ 10 ∷ after
    by true is e =
        ap (λ (c : ℕ). c ∷ bs) (eqb-true b 10 is)
        ∙ ap (λ (t : List ℕ). 10 ∷ t) (same_Some bs after e)
    by false is e = absurd (none-some after e)

end_is : (rest after : List ℕ) → behind_line_end rest ≡ Some after
    → (rest ≡ 10 ∷ after) ⊎ (rest ≡ 13 ∷ (10 ∷ after))
end_is [] after e = absurd (none-some after e)
end_is (b ∷ bs) after e = by (eqb b 13) refl e
  where
    by : (r : Bool) → eqb b 13 ≡ r → cond r (behind_feed bs) (behind_feed (b ∷ bs)) ≡ Some after
        → (b ∷ bs ≡ 10 ∷ after) ⊎ (b ∷ bs ≡ 13 ∷ (10 ∷ after))
    by true is e = inr (ap (λ (c : ℕ). c ∷ bs) (eqb-true b 13 is)
        ∙ ap (λ (t : List ℕ). 13 ∷ t) (feed_is bs after e))
    by false is e = inl (feed_is (b ∷ bs) after e)

ended_by : (line rest after : List ℕ) → has_no_line_byte line ≡ true
    → (rest ≡ 10 ∷ after) ⊎ (rest ≡ 13 ∷ (10 ∷ after))
    → line_at (line ++ rest) ≡ Some (line, after)
ended_by line rest after plain (inl is) =
    ap (λ (r : List ℕ). line_at (line ++ r)) is
    ∙ cut_line line after line (no_lf line plain) (plain_stays line plain)
ended_by line rest after plain (inr is) =
    ap (λ (r : List ℕ). line_at (line ++ r)) is
    ∙ ap line_at (sym (append_assoc line (13 ∷ []) (10 ∷ after)))
    ∙ cut_line (line ++ (13 ∷ [])) after line
    (list_all-append _ line (13 ∷ []) ∙ and_from _ _ (no_lf line plain) refl) (return_goes line)

pub plain_end : (text line rest after : List ℕ) (k : ℕ) → k < length text
    → Nowhere (Passes is_line_byte text) 0 k → line ≡ take k text → rest ≡ drop k text
    → behind_line_end rest ≡ Some after → IsPlainEnd text line after
plain_end text line rest after k lt none front back e =
    record {
      rest = rest;
      parts = sym (take-append-drop k text)
          ∙ ap (λ (t : List ℕ). t ++ drop k text) (sym front)
          ∙ ap (λ (t : List ℕ). line ++ t) (sym back);
      plain = ap has_no_line_byte front ∙ none_before is_line_byte text k lt none;
      end_is = e;
    }

-- ---- a name, a colon and a value

class_is : (name value : List ℕ) → is_token name ≡ true → has_no_line_byte value ≡ true
    → class_from (name ++ (58 ∷ value)) ≡ class_by_name name (trimmed value) (header_named name)
class_is name value token plain =
    rw (
      cut_here (Byte 58) name 58 value (token_passes 58 no_colon name token) refl,
      solid_end name (token_solid name token),
      token,
      plain,
    ) refl

some_line : (name value : List ℕ) → name ++ (58 ∷ value) ≡ [] → ⊥
some_line [] value e = absurd cc
some_line (b ∷ bs) value e = absurd cc

pub plain_line_is : (text : List ℕ) (p : List ℕ × List ℕ) (value after : List ℕ) (class : Class)
    → run_before is_token_byte 58 text ≡ Some p → IsPlainEnd p.1 value after
    → begins_blank after ≡ false
    → class ≡ class_by_name p.0 (trimmed value) (header_named p.0) → IsPlainLine text class after
plain_line_is text p value after class e end anew is =
    let run = run_found is_token_byte 58 text p e in
    let token = token_is p.0 run.run_is in
    let line = p.0 ++ (58 ∷ value) in
    let plain : has_no_line_byte line ≡ true =
    list_all-append _ p.0 (58 ∷ value)
    ∙ and_from _ _ (solid_line p.0 (token_solid p.0 token)) end.plain in
    record {
      line = line;
      line_is = ap line_at (run.parts ∙ ap (λ (r : List ℕ). p.0 ++ (58 ∷ r)) end.parts
          ∙ sym (append_assoc p.0 (58 ∷ value) end.rest))
          ∙ ended_by line end.rest after plain (end_is end.rest after end.end_is);
      full = some_line p.0 value;
      class_is = class_is p.0 value token end.plain ∙ sym is;
      anew = anew;
    }

-- ---- the lines of a text, one after the other

pub adds_line : (draft : HeaderFields) (text after : List ℕ) (class : Class)
    → IsPlainLine text class after
    → drafted_at (with_class draft class) after ≡ drafted_at draft text
adds_line draft text after class plain =
    ap (λ (c : Class). drafted_at (with_class draft c) after) (sym plain.class_is)
    ∙ section_goes_on draft text plain.line after plain.line after (drafted_at draft text)
    plain.line_is plain.full (ends_plain plain.line after plain.anew) refl

pub line_shorter : (text after : List ℕ) (class : Class) → IsPlainLine text class after
    → length after < length text
line_shorter text after class plain =
    let parts = (line_takes text plain.line after plain.line_is).parts in
    omega (arith, simp (length-append) at (ap length parts))
