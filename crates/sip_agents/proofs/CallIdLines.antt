-- The first Call-ID is found line by line, though lines that begin otherwise are passed over.
use Rattle.std.proofs.Common.{◌≡◌, ◌&&◌, ◌||◌, ℕ, Bool, true, false, cond, eqb, List, [], ◌∷◌, ◌++◌, length, drop, Option, Some, None, inl, inr, refl, sym, ap, ◌∙◌, append_assoc, arith}
use Rattle.std.specs.Prelude.{codes}
use Rattle.std.specs.Char.{to_ascii_lowercase}
use Rattle.std.specs.List.{cons_option, list_all, slice_get}
use Rattle.std.specs.Option.{option_map_or}
use Rattle.std.specs.Str.{str_eq_ignore_ascii_case}
use Rattle.std.proofs.lemmas.Bool.{and_parts, eqb-true, or_cases, true≢false, false_from_ne_true}
use Rattle.std.proofs.lemmas.Bool.Decides.{nat_tests}
use Rattle.std.proofs.lemmas.List.{take-append-drop}
use Rattle.sip_text.specs.Character.{is_blank}
use Rattle.sip_text.specs.Line.{line_at}
use Rattle.sip_text.specs.Trimmed.{trimmed_end, trimmed_start}
use Rattle.sip_text.specs.Unfolded.{begins_blank, joined}
use Rattle.sip_text.proofs.LineParts.{line_takes, no_line}
use Rattle.sip_grammar.specs.HeaderEntry.{header_named, is_named}
use Rattle.sip_grammar.specs.declared.header_name.HeaderName.{HeaderName}
use Rattle.sip_grammar.specs.declared.header_name.HeaderName.TheVariants.{CallId}
use Rattle.sip_grammar.proofs.HeaderNames.{long_names}
use Rattle.sip_headers.specs.HeaderFields.{long_name}
use Rattle.sip_headers.specs.Folding.{folded_onto, whole_lines}
use Rattle.sip_headers.specs.HeaderLine.{class_by_name, class_by_parts, class_from, line_from}
use Rattle.sip_headers.specs.Named.{is_same}
use Rattle.sip_headers.specs.Steps.Drafted.{lines_at, onto_lines}
use Rattle.sip_headers.proofs.Folds.{kept_front, line_onto, none_onto}
use Rattle.sip_headers.proofs.NamedLines.{line_reads}
use Rattle.sip_headers.proofs.NamesApart.{named_by_table}
use Rattle.sip_reader.specs.Head.{is_same_entry, is_same_header, value_under}
use Rattle.sip_reader.specs.Steps.ReadHead.{head_at, values_at}
use Rattle.sip_reader.proofs.Heads.{is_head, one_head, whole_onto}
use Rattle.sip_reader.proofs.Layouts.{IsFull, kept, no_end}
use Rattle.sip_agents.specs.Steps.HeaderScan.{begins_a, behind_folds, call_id_of, lines_behind, may_have_call_id}

-- the value of a line without folds, if its header is Call-ID
abbrev pub value_of : List ℕ → Option (List ℕ)
value_of line = value_under (codes "Call-ID") (line_from line)

-- the first value of a header Call-ID in these lines
abbrev pub first_value : List (List ℕ) → Option (List ℕ)
first_value lines = slice_get (values_at (codes "Call-ID") lines) 0

-- ---- a line with the lines that continue it

abbrev with_folds : List ℕ → List (List ℕ) → List ℕ
with_folds line [] = line
with_folds line (next ∷ lines) =
    cond (begins_blank next) (with_folds (joined line next) lines) line

folded_by : (line next : List ℕ) (lines : List (List ℕ)) (r : Bool)
    → folded_onto (joined line next) lines
    ≡ with_folds (joined line next) lines ∷ whole_lines (behind_folds lines)
    → cond r (folded_onto (joined line next) lines) (line ∷ folded_onto next lines)
    ≡ cond r (with_folds (joined line next) lines) line
    ∷ whole_lines (cond r (behind_folds lines) (next ∷ lines))
folded_by line next lines true more = more
folded_by line next lines false more = refl

folded : (lines : List (List ℕ)) (line : List ℕ)
    → folded_onto line lines ≡ with_folds line lines ∷ whole_lines (behind_folds lines)
folded [] line = refl
folded (next ∷ lines) line =
    folded_by line next lines (begins_blank next) (folded lines (joined line next))

-- ---- a line that begins otherwise, with the lines that continue it

second_by : (b : ℕ) (bs more : List ℕ) (r : Bool) → begins_a (b ∷ bs) ≡ false
    → begins_a (cond r [] (b ∷ trimmed_end bs) ++ (32 ∷ more)) ≡ false
second_by b bs more true other = refl
second_by b bs more false other = other

second_other : (bs more : List ℕ) → begins_a bs ≡ false
    → begins_a (trimmed_end bs ++ (32 ∷ more)) ≡ false
second_other [] more other = refl
second_other (b ∷ bs) more other =
    second_by b bs more (is_blank b && list_all is_blank bs) other

neither : (i c one other : Bool) → (i || (c && one)) ≡ false → (one ≡ false → other ≡ false)
    → (i || (c && other)) ≡ false
neither true c one other e more = absurd cc
neither false true one other e more = more e
neither false false one other e more = refl

first_by : (b : ℕ) (bs more : List ℕ) (r : Bool) → may_have_call_id (b ∷ bs) ≡ false
    → may_have_call_id (cond r [] (b ∷ trimmed_end bs) ++ (32 ∷ more)) ≡ false
first_by b bs more true other = refl
first_by b bs more false other =
    neither (eqb b 73 || eqb b 105) (eqb b 67 || eqb b 99) (begins_a bs)
    (begins_a (trimmed_end bs ++ (32 ∷ more))) other (second_other bs more)

joined_other : (line more : List ℕ) → may_have_call_id line ≡ false
    → may_have_call_id (joined line more) ≡ false
joined_other [] more other = refl
joined_other (b ∷ bs) more other =
    first_by b bs (trimmed_start more) (is_blank b && list_all is_blank bs) other

folds_by : (line folds : List ℕ) (r : Bool) → may_have_call_id line ≡ false
    → may_have_call_id folds ≡ false → may_have_call_id (cond r folds line) ≡ false
folds_by line folds true other more = more
folds_by line folds false other more = other

folds_other : (lines : List (List ℕ)) (line : List ℕ) → may_have_call_id line ≡ false
    → may_have_call_id (with_folds line lines) ≡ false
folds_other [] line other = other
folds_other (next ∷ lines) line other =
    folds_by line (with_folds (joined line next) lines) (begins_blank next) other
    (folds_other lines (joined line next) (joined_other line next other))

-- ---- a line with a Call-ID

c_is : (b : ℕ) → eqb (to_ascii_lowercase b) 99 ≡ true → (eqb b 67 || eqb b 99) ≡ true
c_is b e = grind (arith, nat_tests)

a_is : (b : ℕ) → eqb (to_ascii_lowercase b) 97 ≡ true → (eqb b 65 || eqb b 97) ≡ true
a_is b e = grind (arith, nat_tests)

i_is : (b : ℕ) → eqb (to_ascii_lowercase b) 105 ≡ true → (eqb b 73 || eqb b 105) ≡ true
i_is b e = grind (arith, nat_tests)

either : (i c a : Bool) → c ≡ true → a ≡ true → (i || (c && a)) ≡ true
either true c a is also = refl
either false true true is also = refl
either false false a is also = absurd cc
either false true false is also = absurd cc

long_begins : (name rest : List ℕ) → str_eq_ignore_ascii_case name (codes "Call-ID") ≡ true
    → may_have_call_id (name ++ rest) ≡ true
long_begins [] rest e = absurd cc
long_begins (b ∷ []) rest e = absurd (true≢false (sym (and_parts _ _ e).1))
long_begins (b ∷ (c ∷ bs)) rest e =
    let first = and_parts _ _ e in
    let second = and_parts _ _ first.1 in
    either (eqb b 73 || eqb b 105) (eqb b 67 || eqb b 99) (eqb c 65 || eqb c 97) (c_is b first.0)
    (a_is c second.0)

compact_begins : (name rest : List ℕ) → str_eq_ignore_ascii_case name (codes "i") ≡ true
    → may_have_call_id (name ++ rest) ≡ true
compact_begins [] rest e = absurd cc
compact_begins (b ∷ bs) rest e = rw (i_is b (and_parts _ _ e).0) refl

begins : (name rest : List ℕ) → is_named CallId name ≡ true → may_have_call_id (name ++ rest) ≡ true
unfolding is_named
begins name rest e =
    elim (or_cases _ _ e) [
      | inl long ↦ long_begins name rest long
      | inr compact ↦ compact_begins name rest compact
    ]

by_entry : (o : Option HeaderName) (same : Bool)
    → is_same_entry (Some CallId) o same ≡ option_map_or (is_same CallId) o false
by_entry None same = refl
by_entry (Some header) same = refl

same_name : (name : List ℕ) → is_same_header (codes "Call-ID") name ≡ is_named CallId name
same_name name =
    let same = str_eq_ignore_ascii_case (long_name name) (long_name (codes "Call-ID")) in
    ap (λ o. is_same_entry o (header_named name) same) (long_names CallId)
    ∙ by_entry (header_named name) same
    ∙ named_by_table CallId name

pub no_call_id : (line : List ℕ) → may_have_call_id line ≡ false → value_of line ≡ None
no_call_id line other = by (line_from line) refl
  where
    by : (o : Option (List ℕ × List ℕ)) → line_from line ≡ o
        → value_under (codes "Call-ID") o ≡ None
    by None e = refl
    by (Some parts) e =
        elim (line_reads.takes line parts e) [
          | inl (cut, is, both) ↦
              let k = length (trimmed_end cut.0) in
              let rest = drop k cut.0 ++ (is.byte ∷ cut.1) in
              let line_is : line ≡ parts.0 ++ rest =
              is.together
              ∙ ap (λ (front : List ℕ). front ++ (is.byte ∷ cut.1))
              (sym (take-append-drop k cut.0)
              ∙ ap (λ (front : List ℕ). front ++ drop k cut.0)
              (kept_front cut.0 ∙ sym both.0.0))
              ∙ append_assoc parts.0 (drop k cut.0) (is.byte ∷ cut.1) in
              let unlike : is_named CallId parts.0 ≡ false =
              false_from_ne_true _ (λ named.
              true≢false (sym (begins parts.0 rest named) ∙ ap may_have_call_id (sym line_is)
              ∙ other)) in
              ap (λ b. cond b (Some parts.1) None) (same_name parts.0 ∙ unlike)
          | inr (_, never) ↦ absurd never
        ]

-- ---- the value of one line

named_by : (name value : List ℕ) (same : Bool) (o : Option HeaderName)
    → call_id_of (class_by_name name value o)
    ≡ cond (is_same_entry (Some CallId) o same) (Some value) None
named_by name value same None = refl
named_by name value same (Some CallId) = refl
named_by name value same (Some header) = refl

by_class : (line : List ℕ) → call_id_of (class_from line) ≡ value_of line
by_class line = by (line_from line)
  where
    by : (o : Option (List ℕ × List ℕ))
        → call_id_of (class_by_parts o) ≡ value_under (codes "Call-ID") o
    by None = refl
    by (Some parts) =
        let same = str_eq_ignore_ascii_case (long_name parts.0) (long_name (codes "Call-ID")) in
        named_by parts.0 parts.1 same (header_named parts.0)
        ∙ ap (λ o. cond (is_same_entry o (header_named parts.0) same) (Some parts.1) None)
        (sym (long_names CallId))

-- ---- one line after the other

not_first : (line : List ℕ) (lines : List (List ℕ)) → value_of line ≡ None
    → first_value (line ∷ lines) ≡ first_value lines
not_first line lines e =
    ap (λ o. slice_get (cons_option o (values_at (codes "Call-ID") lines)) 0) e

pub none_left : (text : List ℕ) → line_at text ≡ None → first_value (lines_behind text) ≡ None
none_left text e = ap (λ ls. first_value (whole_lines (behind_folds ls))) (none_onto text e)

pub head_ends : (text line after : List ℕ) → line_at text ≡ Some (line, after) → line ≡ []
    → first_value (lines_behind text) ≡ None
head_ends text line after e empty =
    ap (λ ls. first_value (whole_lines (behind_folds ls)))
    (line_onto text line after e ∙ ap (λ l. onto_lines l (lines_at after)) empty)

onto_next : (line : List ℕ) (lines : List (List ℕ)) (r : Bool) → begins_blank line ≡ r
    → IsFull line
    → first_value (whole_lines (behind_folds (onto_lines line lines)))
    ≡ first_value (cond r (whole_lines (behind_folds lines)) (folded_onto line lines))
onto_next [] lines r e full = absurd (full refl)
onto_next (b ∷ bs) lines true e full = rw e refl
onto_next (b ∷ bs) lines false e full = rw e refl

next_line : (text line after : List ℕ) (r : Bool) → line_at text ≡ Some (line, after)
    → begins_blank line ≡ r → IsFull line
    → first_value (lines_behind text)
    ≡ first_value (cond r (lines_behind after) (folded_onto line (lines_at after)))
next_line text line after r e blank full =
    ap (λ ls. first_value (whole_lines (behind_folds ls))) (line_onto text line after e)
    ∙ onto_next line (lines_at after) r blank full

pub passed_over : (text line after : List ℕ) → line_at text ≡ Some (line, after) → IsFull line
    → may_have_call_id line ≡ false
    → first_value (lines_behind text) ≡ first_value (lines_behind after)
passed_over text line after e full other = by (begins_blank line) refl
  where
    by : (r : Bool) → begins_blank line ≡ r
        → first_value (lines_behind text) ≡ first_value (lines_behind after)
    by true blank = next_line text line after true e blank full
    by false blank =
        next_line text line after false e blank full
        ∙ ap first_value (folded (lines_at after) line)
        ∙ not_first (with_folds line (lines_at after)) (lines_behind after)
        (no_call_id (with_folds line (lines_at after)) (folds_other (lines_at after) line other))

not_blank : (line : List ℕ) → may_have_call_id line ≡ true → begins_blank line ≡ false
not_blank [] is = refl
not_blank (b ∷ bs) is =
    false_from_ne_true _ (λ blank.
    elim (or_cases _ _ blank) [
      | inl space ↦
          absurd (true≢false (sym is
          ∙ ap (λ x. may_have_call_id (x ∷ bs)) (eqb-true b 32 space)))
      | inr tab ↦
          absurd (true≢false (sym is ∙ ap (λ x. may_have_call_id (x ∷ bs)) (eqb-true b 9 tab)))
    ])

pub looked_at : (text line after whole : List ℕ) (others : List (List ℕ)) (value : Option (List ℕ))
    → line_at text ≡ Some (line, after) → IsFull line → may_have_call_id line ≡ true
    → folded_onto line (lines_at after) ≡ whole ∷ others
    → value ≡ call_id_of (class_from whole)
    → first_value (lines_behind text)
    ≡ slice_get (cons_option value (values_at (codes "Call-ID") (lines_behind after))) 0
looked_at text line after whole others value e full is folds has =
    let same : with_folds line (lines_at after) ≡ whole =
    let parts = sym (folded (lines_at after) line) ∙ folds in cc in
    next_line text line after false e (not_blank line is) full
    ∙ ap first_value (folded (lines_at after) line)
    ∙ ap (λ l. first_value (l ∷ lines_behind after)) same
    ∙ ap (λ o. slice_get (cons_option o (values_at (codes "Call-ID") (lines_behind after))) 0)
    (sym (has ∙ by_class whole))

-- ---- the first line

pub no_head : (text : List ℕ) → line_at text ≡ None → [] ≡ head_at text
no_head text e =
    one_head text [] (head_at text)
    (record { all = []; parts = record { rest = text; parts = refl; no_more = no_line text e }; whole = refl })
    (is_head text)

pub empty_first : (text line after : List ℕ) → line_at text ≡ Some (line, after) → line ≡ []
    → head_at after ≡ head_at text
empty_first text line after e empty =
    let head = is_head after in
    let begins = line_takes text [] after
    (e ∙ ap (λ (l : List ℕ). Some (l, after)) empty) in
    one_head text (head_at after) (head_at text)
    (record {
      all = [] ∷ head.all;
      parts = record {
        rest = head.parts.rest;
        parts = (after, begins, head.parts.parts);
        no_more = head.parts.no_more;
      };
      whole = head.whole;
    })
    (is_head text)

pub full_first : (text line after : List ℕ) → line_at text ≡ Some (line, after) → IsFull line
    → lines_behind after ≡ drop 1 (head_at text)
full_first text line after e full =
    let begins = no_end text line after (line_takes text line after e) full in
    sym (ap (λ t. drop 1 (whole_lines (lines_at t))) (kept text begins)
    ∙ ap (λ ls. drop 1 (whole_lines ls)) (line_onto text line after e)
    ∙ ap (drop 1) (whole_onto line (lines_at after) full ∙ folded (lines_at after) line))
