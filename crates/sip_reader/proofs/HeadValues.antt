-- The values of a header, and the header lines, found line by line.
use Rattle.std.proofs.Common.{◌≡◌, ℕ, Bool, true, false, cond, List, [], ◌∷◌, ◌++◌, drop, map, Option, Some, None, refl, sym, ap, subst, ◌∙◌}
use Rattle.std.specs.Prelude.{is_some}
use Rattle.std.specs.List.{AllZip, filter_map}
use Rattle.std.specs.Option.{option_map}
use Rattle.std.specs.Str.{str_eq_ignore_ascii_case}
use Rattle.sip_text.specs.Line.{line_at}
use Rattle.sip_grammar.specs.HeaderEntry.{header_named}
use Rattle.sip_grammar.specs.declared.header_name.HeaderName.{HeaderName}
use Rattle.sip_headers.specs.HeaderFields.{long_name}
use Rattle.sip_headers.specs.Folding.{folded_onto, whole_lines}
use Rattle.sip_headers.specs.HeaderLine.{IsHeaderLine, known, other, class_by_name, class_by_parts, line_from}
use Rattle.sip_headers.specs.Steps.Drafted.{lines_at, onto_lines}
use Rattle.sip_headers.proofs.Folds.{line_onto, none_onto}
use Rattle.sip_headers.proofs.NamedLines.{line_reads}
use Rattle.sip_reader.specs.Head.{HasHeaderLines, HasParts, HasValues, OrNone, header_line, is_same_entry, value_under}
use Rattle.sip_reader.proofs.Layouts.{IsFull}
use Rattle.sip_reader.specs.Steps.ReadHead.{found_at, head_at, header_lines_at, is_known, values_at, whole_lines_at}
use Rattle.sip_reader.specs.declared.untyped_line.HeaderLine.{HeaderLine}
use Rattle.sip_reader.proofs.Heads.{is_head, one_head, one_or_none, read_or_none, whole_onto}

-- ---- one line, by its class

one_known : (wanted : Option HeaderName) (header : HeaderName) (same : Bool)
    → is_same_entry wanted (Some header) same ≡ is_known wanted header
one_known None header same = refl
one_known (Some wanted) header same = refl

known_by : (name : List ℕ) (wanted : Option HeaderName) (header : HeaderName) (value : List ℕ)
    (parts : List ℕ × List ℕ) (o : Option HeaderName) (same : Bool)
    → known header value ≡ class_by_name parts.0 parts.1 o
    → cond (is_known wanted header) (Some value) None
    ≡ cond (is_same_entry wanted o same) (Some parts.1) None
known_by name wanted header value parts None same e = absurd cc
known_by name wanted header value parts (Some found) same e =
    let header_is : header ≡ found = cc in
    let value_is : value ≡ parts.1 = cc in
    ap (λ (v : List ℕ). cond (is_known wanted header) (Some v) None) value_is
    ∙ ap (λ (h : HeaderName). cond (is_known wanted h) (Some parts.1) None) header_is
    ∙ ap (λ (b : Bool). cond b (Some parts.1) None) (sym (one_known wanted found same))

pub known_value : (name : List ℕ) (wanted : Option HeaderName) (header : HeaderName)
    (value : List ℕ) (o : Option (List ℕ × List ℕ)) → wanted ≡ header_named name
    → known header value ≡ class_by_parts o
    → cond (is_known wanted header) (Some value) None ≡ value_under name o
known_value name wanted header value None w e = absurd cc
known_value name wanted header value (Some parts) w e =
    let same = str_eq_ignore_ascii_case (long_name parts.0) (long_name name) in
    known_by name wanted header value parts (header_named parts.0) same e
    ∙ ap (λ (o : Option HeaderName).
    cond (is_same_entry o (header_named parts.0) same) (Some parts.1) None) w

-- no header of the table is looked for, and the names are the same
abbrev pub is_unknown : Option HeaderName → Bool → Bool
is_unknown None same = same
is_unknown (Some wanted) same = false

one_unknown : (wanted : Option HeaderName) (same : Bool)
    → is_same_entry wanted None same ≡ is_unknown wanted same
one_unknown None same = refl
one_unknown (Some wanted) same = refl

other_by : (wanted : Option HeaderName) (own value : List ℕ) (parts : List ℕ × List ℕ)
    (o : Option HeaderName) (same : List ℕ → Bool)
    → other own value ≡ class_by_name parts.0 parts.1 o
    → cond (is_unknown wanted (same own)) (Some value) None
    ≡ cond (is_same_entry wanted o (same parts.0)) (Some parts.1) None
other_by wanted own value parts (Some found) same e = absurd cc
other_by wanted own value parts None same e =
    let own_is : own ≡ parts.0 = cc in
    let value_is : value ≡ parts.1 = cc in
    ap (λ (v : List ℕ). cond (is_unknown wanted (same own)) (Some v) None) value_is
    ∙ ap (λ (n : List ℕ). cond (is_unknown wanted (same n)) (Some parts.1) None) own_is
    ∙ ap (λ (b : Bool). cond b (Some parts.1) None) (sym (one_unknown wanted (same parts.0)))

pub other_value : (name : List ℕ) (wanted : Option HeaderName) (own value : List ℕ)
    (o : Option (List ℕ × List ℕ)) → wanted ≡ header_named name
    → other own value ≡ class_by_parts o
    → cond (is_unknown wanted (str_eq_ignore_ascii_case (long_name own) (long_name name)))
    (Some value) None ≡ value_under name o
other_value name wanted own value None w e = absurd cc
other_value name wanted own value (Some parts) w e =
    let same = λ (n : List ℕ). str_eq_ignore_ascii_case (long_name n) (long_name name) in
    other_by wanted own value parts (header_named parts.0) same e
    ∙ ap (λ (o : Option HeaderName).
    cond (is_same_entry o (header_named parts.0) (same parts.0)) (Some parts.1) None) w

pub not_same : (wanted : Option HeaderName) (same : Bool) → same ≡ false
    → is_unknown wanted same ≡ false
not_same None same e = e
not_same (Some header) same e = refl

pub not_unknown : (wanted : Option HeaderName) (same : Bool) → is_some wanted ≡ true
    → is_unknown wanted same ≡ false
not_unknown None same e = absurd cc
not_unknown (Some header) same e = refl

-- ---- the next line

pub none_whole : (text : List ℕ) → line_at text ≡ None → [] ≡ whole_lines_at text
none_whole text e = sym (ap whole_lines (none_onto text e))

pub empty_whole : (text line after : List ℕ) → line_at text ≡ Some (line, after) → line ≡ []
    → [] ≡ whole_lines_at text
empty_whole text line after e empty =
    sym (ap whole_lines (line_onto text line after e
    ∙ ap (λ (l : List ℕ). onto_lines l (lines_at after)) empty))

pub next_whole : (text line after whole rest : List ℕ) → line_at text ≡ Some (line, after)
    → IsFull line → folded_onto line (lines_at after) ≡ whole ∷ whole_lines_at rest
    → whole ∷ whole_lines_at rest ≡ whole_lines_at text
next_whole text line after whole rest e full whole_is =
    sym (ap whole_lines (line_onto text line after e) ∙ whole_onto line (lines_at after) full
    ∙ whole_is)

-- ---- one line after the other

-- what was found so far, and what is found in the lines that are left
abbrev pub AreWith : {X : Type 0} → (Option (List ℕ × List ℕ) → Option X) → List ℕ → List X
    → List X → Type 0
AreWith read text found total = found ++ found_at read (whole_lines_at text) ≡ total

-- ---- all lines

all_read : (lines : List (List ℕ)) → AllZip (OrNone IsHeaderLine) (map line_from lines) lines
all_read [] = tt
all_read (line ∷ lines) =
    (read_or_none line_reads line (line_from line) refl, all_read lines)

has_parts : (text : List ℕ) → HasParts (map line_from (drop 1 (head_at text))) text
has_parts text =
    record {
      lines = head_at text;
      head_is = is_head text;
      parts_are = all_read (drop 1 (head_at text));
    }

pub has_values : (name text : List ℕ) (values : List (List ℕ))
    → values ≡ values_at name (drop 1 (head_at text)) → HasValues name values text
has_values name text values e =
    (map line_from (drop 1 (head_at text)), has_parts text, e)

pub has_header_lines : (text : List ℕ) (headers : List HeaderLine)
    → headers ≡ header_lines_at (drop 1 (head_at text)) → HasHeaderLines headers text
has_header_lines text headers e =
    (map line_from (drop 1 (head_at text)), has_parts text, e)

-- ---- one list of values, and one of header lines

same_parts : (parts others : List (Option (List ℕ × List ℕ))) (lines : List (List ℕ))
    → AllZip (OrNone IsHeaderLine) parts lines → AllZip (OrNone IsHeaderLine) others lines
    → parts ≡ others
same_parts [] [] [] is also = refl
same_parts [] (q ∷ others) [] is also = absurd also
same_parts (p ∷ parts) others [] is also = absurd is
same_parts [] others (line ∷ lines) is also = absurd is
same_parts (p ∷ parts) [] (line ∷ lines) is also = absurd also
same_parts (p ∷ parts) (q ∷ others) (line ∷ lines) is also =
    ap (λ o. o ∷ parts) (one_or_none line_reads line p q is.0 also.0)
    ∙ ap (λ os. q ∷ os) (same_parts parts others lines is.1 also.1)

one_parts : (text : List ℕ) (parts others : List (Option (List ℕ × List ℕ)))
    → HasParts parts text → HasParts others text → parts ≡ others
one_parts text parts others is also =
    same_parts parts others (drop 1 is.lines) is.parts_are
    (subst (λ (lines : List (List ℕ)). AllZip (OrNone IsHeaderLine) others (drop 1 lines))
    (one_head text also.lines is.lines also.head_is is.head_is) also.parts_are)

pub one_list : (text name : List ℕ) (values others : List (List ℕ)) → HasValues name values text
    → HasValues name others text → values ≡ others
one_list text name values others is also =
    is.2 ∙ ap (filter_map (value_under name)) (one_parts text is.0 also.0 is.1 also.1)
    ∙ sym also.2

pub one_list_of_lines : (text : List ℕ) (headers others : List HeaderLine)
    → HasHeaderLines headers text → HasHeaderLines others text → headers ≡ others
one_list_of_lines text headers others is also =
    is.2 ∙ ap (filter_map (option_map header_line)) (one_parts text is.0 also.0 is.1 also.1)
    ∙ sym also.2
