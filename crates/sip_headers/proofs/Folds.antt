-- Lines are read in order, each with those that continue it.
use Rattle.std.proofs.Common.{◌≡◌, ℕ, zero, suc, Bool, true, false, cond, eqb, ◌&&◌, List, [], ◌∷◌, ◌++◌, length, take, Option, Some, None, refl, sym, subst, ap, ◌∙◌, ◌-◌, slice_index, arith}
use Rattle.std.specs.List.{list_all, slice_split, onto_first, join_with_byte}
use Rattle.std.specs.Option.{option_map}
use Rattle.std.specs.Str.Lines.{strip_carriage_return}
use Rattle.std.proofs.lemmas.Bool.{eqb-true}
use Rattle.std.proofs.lemmas.List.Splits.{join_with_byte-slice_split}
use Rattle.std.proofs.Math.Seq.{take-append_seam}
use Rattle.sip_text.specs.Character.{is_blank}
use Rattle.sip_text.specs.Cut.{cut_at}
use Rattle.sip_text.specs.Line.{line_at}
use Rattle.sip_text.specs.Trimmed.{trimmed_end}
use Rattle.sip_text.specs.Unfolded.{begins_blank, joined}
use Rattle.sip_text.proofs.LineParts.{at_lf, longer, split_at, slice_split-cut_at}
use Rattle.sip_text.proofs.Separators.{mapped}
use Rattle.sip_headers.specs.HeaderFields.{with_line}
use Rattle.sip_headers.specs.Folding.{Section, with_line_of, section_from, section_at, folded_onto, whole_lines, whole_section}
use Rattle.sip_headers.specs.Steps.Drafted.{onto_section, behind_line, drafted_on, onto_lines, lines_from, lines_at}
use Rattle.sip_headers.specs.declared.header_fields.HeaderFields.{HeaderFields}

-- ---- the lines of a text

not_mapped : {A B : Type 0} (f : A → B) (o : Option A) → option_map f o ≡ None → o ≡ None
not_mapped f None e = refl
not_mapped f (Some x) e = absurd cc

section_behind : (part : List ℕ) (parts : List (List ℕ))
    → ((q : List ℕ) × (qs : List (List ℕ)) × (parts ≡ q ∷ qs))
    → section_from (part ∷ parts) ≡ with_line_of (strip_carriage_return part)
    (join_with_byte 10 parts) (section_from parts)
section_behind part parts some = rw some.2 refl

abbrev HasFirst : List (List ℕ) → Type 0
HasFirst parts = (q : List ℕ) × (qs : List (List ℕ)) × (parts ≡ q ∷ qs)

onto_some : (b : ℕ) (parts : List (List ℕ)) → HasFirst parts → HasFirst (onto_first b parts)
onto_some b [] some = absurd cc
onto_some b (part ∷ parts) some = (b ∷ part, parts, refl)

split_first_by : (b : ℕ) (bs : List ℕ) (r : Bool) → HasFirst (slice_split at_lf bs)
    → HasFirst (cond r ([] ∷ slice_split at_lf bs) (onto_first b (slice_split at_lf bs)))
split_first_by b bs true rest = ([], slice_split at_lf bs, refl)
split_first_by b bs false rest = onto_some b (slice_split at_lf bs) rest

split_first : (text : List ℕ) → HasFirst (slice_split at_lf text)
split_first [] = ([], [], refl)
split_first (b ∷ bs) = split_first_by b bs (eqb b 10) (split_first bs)

pub one_line : (text line after : List ℕ) → line_at text ≡ Some (line, after)
    → section_at text ≡ with_line_of line after (section_at after)
unfolding line_at
one_line text line after e =
    let m = mapped (λ (p : List ℕ × List ℕ). (strip_carriage_return p.0, p.1)) (cut_at 10 text)
    (line, after) e in
    let after_is : m.0.1 ≡ after = ap (λ (p : List ℕ × List ℕ). p.1) m.2 in
    let line_is : strip_carriage_return m.0.0 ≡ line = ap (λ (p : List ℕ × List ℕ). p.0) m.2 in
    let parts : slice_split at_lf text ≡ m.0.0 ∷ slice_split at_lf m.0.1 =
    slice_split-cut_at text ∙ ap (split_at text) m.1 in
    ap section_from parts
    ∙ section_behind m.0.0 (slice_split at_lf m.0.1) (split_first m.0.1)
    ∙ ap (λ (rest : List ℕ). with_line_of (strip_carriage_return m.0.0) rest (section_at m.0.1))
    (join_with_byte-slice_split 10 m.0.1)
    ∙ ap (λ (l : List ℕ). with_line_of l m.0.1 (section_at m.0.1)) line_is
    ∙ ap (λ (rest : List ℕ). with_line_of line rest (section_at rest)) after_is

pub no_line : (text : List ℕ) → line_at text ≡ None → section_at text ≡ None
unfolding line_at
no_line text e =
    let none = not_mapped (λ (p : List ℕ × List ℕ). (strip_carriage_return p.0, p.1))
    (cut_at 10 text) e in
    ap section_from (slice_split-cut_at text ∙ ap (split_at text) none)

-- ---- folds

onto_blank : (line more rest : List ℕ) (section : Option Section) → begins_blank more ≡ true
    → onto_section line (with_line_of more rest section) ≡ onto_section (joined line more) section
onto_blank line [] rest section e = absurd cc
onto_blank line (b ∷ bs) rest None e = refl
onto_blank line (b ∷ bs) rest (Some s) e = rw e refl

-- the next line continues the line
pub goes_on : (line text more after : List ℕ) (total : Option Section)
    → line_at text ≡ Some (more, after) → begins_blank more ≡ true
    → onto_section line (section_at text) ≡ total
    → onto_section (joined line more) (section_at after) ≡ total
goes_on line text more after total e blank so_far =
    sym (ap (onto_section line) (one_line text more after e)
    ∙ onto_blank line more after (section_at after) blank) ∙ so_far

onto_other : (line more rest : List ℕ) (section : Option Section) → begins_blank more ≡ false
    → onto_section line (with_line_of more rest section)
    ≡ behind_line line (whole_section (with_line_of more rest section))
onto_other line [] rest section e = refl
onto_other line (b ∷ bs) rest None e = refl
onto_other line (b ∷ bs) rest (Some s) e = rw e refl

-- another line begins, or none
pub ends_here : (line text more after : List ℕ) → line_at text ≡ Some (more, after)
    → begins_blank more ≡ false → onto_section line (section_at text)
    ≡ behind_line line (whole_section (section_at text))
ends_here line text more after e other =
    rw (one_line text more after e) (onto_other line more after (section_at after) other)

pub ends_unended : (line text : List ℕ) → line_at text ≡ None
    → onto_section line (section_at text) ≡ behind_line line (whole_section (section_at text))
ends_unended line text e = rw (no_line text e) refl

-- ---- the header lines

pub section_ends : (draft : HeaderFields) (text line after : List ℕ)
    (total : Option (HeaderFields × List ℕ))
    → line_at text ≡ Some (line, after) → line ≡ []
    → drafted_on draft (whole_section (section_at text)) ≡ total → Some (draft, after) ≡ total
section_ends draft text line after total e empty so_far =
    sym (ap (λ s. drafted_on draft (whole_section s)) (one_line text line after e)
    ∙ ap (λ (l : List ℕ). drafted_on draft
    (whole_section (with_line_of l after (section_at after)))) empty) ∙ so_far

pub whole_behind : (line rest : List ℕ) (section : Option Section) → (line ≡ [] → ⊥)
    → whole_section (with_line_of line rest section) ≡ onto_section line section
whole_behind [] rest section full = absurd (full refl)
whole_behind (b ∷ bs) rest None full = refl
whole_behind (b ∷ bs) rest (Some s) full = refl

drafted_behind : (draft : HeaderFields) (line : List ℕ) (section : Option Section)
    → drafted_on draft (behind_line line section) ≡ drafted_on (with_line draft line) section
drafted_behind draft line None = refl
drafted_behind draft line (Some s) = refl

pub section_goes_on : (draft : HeaderFields) (text line after whole rest : List ℕ)
    (total : Option (HeaderFields × List ℕ)) → line_at text ≡ Some (line, after) → (line ≡ [] → ⊥)
    → onto_section line (section_at after) ≡ behind_line whole (whole_section (section_at rest))
    → drafted_on draft (whole_section (section_at text)) ≡ total
    → drafted_on (with_line draft whole) (whole_section (section_at rest)) ≡ total
section_goes_on draft text line after whole rest total e full whole_is so_far =
    sym (drafted_behind draft whole (whole_section (section_at rest)))
    ∙ sym (ap (drafted_on draft) (ap whole_section (one_line text line after e)
    ∙ whole_behind line after (section_at after) full ∙ whole_is))
    ∙ so_far

pub section_stops : (draft : HeaderFields) (text : List ℕ) (total : Option (HeaderFields × List ℕ))
    → line_at text ≡ None → drafted_on draft (whole_section (section_at text)) ≡ total
    → None ≡ total
section_stops draft text total e so_far =
    sym (ap (λ s. drafted_on draft (whole_section s)) (no_line text e)) ∙ so_far

-- ---- what is taken off the end of a line

cut_off_by : (b : ℕ) (bs : List ℕ) (r : Bool) → (rest : List ℕ) × (bs ≡ trimmed_end bs ++ rest)
    → (rest : List ℕ) × (b ∷ bs ≡ cond r [] (b ∷ trimmed_end bs) ++ rest)
cut_off_by b bs true more = (b ∷ bs, refl)
cut_off_by b bs false more = (more.0, ap (λ (xs : List ℕ). b ∷ xs) more.1)

cut_off : (text : List ℕ) → (rest : List ℕ) × (text ≡ trimmed_end text ++ rest)
cut_off [] = ([], refl)
cut_off (b ∷ bs) = cut_off_by b bs (is_blank b && list_all is_blank bs) (cut_off bs)

pub kept_front : (text : List ℕ) → take (length (trimmed_end text)) text ≡ trimmed_end text
kept_front text =
    let off = cut_off text in
    ap (take (length (trimmed_end text))) off.1 ∙ take-append_seam (trimmed_end text) off.0

pub is_empty_text : (text : List ℕ) → eqb (length text) 0 ≡ true → text ≡ []
is_empty_text [] e = refl
is_empty_text (b ∷ bs) e = absurd (omega (arith, eqb-true (length (b ∷ bs)) 0 e))

pub is_full_text : (text : List ℕ) → eqb (length text) 0 ≡ false → text ≡ [] → ⊥
is_full_text [] e is = absurd cc
is_full_text (b ∷ bs) e is = absurd cc

-- ---- a text that doesn't begin with white space continues no line

abbrev unsome : Option (List ℕ × List ℕ) → List ℕ × List ℕ
unsome None = ([], [])
unsome (Some p) = p

first_by : (b : ℕ) (bs : List ℕ) (r : Bool) (o : Option (List ℕ × List ℕ)) (p : List ℕ × List ℕ)
    → cond r (Some ([], bs)) (option_map (longer b) o) ≡ Some p → is_blank b ≡ false
    → begins_blank p.0 ≡ false
first_by b bs true o p e plain =
    subst (λ (q : List ℕ × List ℕ). begins_blank q.0 ≡ false)
    (ap unsome e) refl
first_by b bs false None p e plain = absurd cc
first_by b bs false (Some q) p e plain =
    subst (λ (q : List ℕ × List ℕ). begins_blank q.0 ≡ false) (ap unsome e) plain

first_part : (text : List ℕ) (p : List ℕ × List ℕ) → cut_at 10 text ≡ Some p
    → begins_blank text ≡ false → begins_blank p.0 ≡ false
first_part [] p e plain = absurd cc
first_part (b ∷ bs) p e plain = first_by b bs (eqb b 10) (cut_at 10 bs) p e plain

taken : (n : ℕ) (line : List ℕ) → begins_blank line ≡ false → begins_blank (take n line) ≡ false
taken zero line plain = refl
taken (suc n) [] plain = refl
taken (suc n) (b ∷ bs) plain = plain

stripped_by : (r : Bool) (line : List ℕ) → begins_blank line ≡ false
    → begins_blank (cond r (take (length line - 1) line) line) ≡ false
stripped_by false line plain = plain
stripped_by true line plain = taken (length line - 1) line plain

stripped : (line : List ℕ) → begins_blank line ≡ false
    → begins_blank (strip_carriage_return line) ≡ false
stripped line plain = stripped_by (eqb (slice_index line (length line - 1)) 13) line plain

plain_first : (text line after : List ℕ) → line_at text ≡ Some (line, after)
    → begins_blank text ≡ false → begins_blank line ≡ false
unfolding line_at
plain_first text line after e plain =
    let m = mapped (λ (p : List ℕ × List ℕ). (strip_carriage_return p.0, p.1)) (cut_at 10 text)
    (line, after) e in
    subst (λ l. begins_blank l ≡ false) (ap (λ (p : List ℕ × List ℕ). p.0) m.2)
    (stripped m.0.0 (first_part text m.0 m.1 plain))

plain_by : (whole text : List ℕ) (first : Option (List ℕ × List ℕ)) → line_at text ≡ first
    → begins_blank text ≡ false
    → onto_section whole (section_at text) ≡ behind_line whole (whole_section (section_at text))
plain_by whole text None e plain = ends_unended whole text e
plain_by whole text (Some (more, after)) e plain =
    ends_here whole text more after e (plain_first text more after e plain)

pub ends_plain : (whole text : List ℕ) → begins_blank text ≡ false
    → onto_section whole (section_at text) ≡ behind_line whole (whole_section (section_at text))
ends_plain whole text plain = plain_by whole text (line_at text) refl plain

-- ---- the same for the lines, if no empty one has to end them

lines_behind : (part : List ℕ) (parts : List (List ℕ)) → HasFirst parts
    → lines_from (part ∷ parts) ≡ onto_lines (strip_carriage_return part) (lines_from parts)
lines_behind part parts some = rw some.2 refl

pub line_onto : (text line after : List ℕ) → line_at text ≡ Some (line, after)
    → lines_at text ≡ onto_lines line (lines_at after)
unfolding line_at
line_onto text line after e =
    let m = mapped (λ (p : List ℕ × List ℕ). (strip_carriage_return p.0, p.1)) (cut_at 10 text)
    (line, after) e in
    let after_is : m.0.1 ≡ after = ap (λ (p : List ℕ × List ℕ). p.1) m.2 in
    let line_is : strip_carriage_return m.0.0 ≡ line = ap (λ (p : List ℕ × List ℕ). p.0) m.2 in
    ap lines_from (slice_split-cut_at text ∙ ap (split_at text) m.1)
    ∙ lines_behind m.0.0 (slice_split at_lf m.0.1) (split_first m.0.1)
    ∙ ap (λ (l : List ℕ). onto_lines l (lines_at m.0.1)) line_is
    ∙ ap (λ (rest : List ℕ). onto_lines line (lines_at rest)) after_is

pub none_onto : (text : List ℕ) → line_at text ≡ None → lines_at text ≡ []
unfolding line_at
none_onto text e =
    let none = not_mapped (λ (p : List ℕ × List ℕ). (strip_carriage_return p.0, p.1))
    (cut_at 10 text) e in
    ap lines_from (slice_split-cut_at text ∙ ap (split_at text) none)

folds_blank : (line more : List ℕ) (lines : List (List ℕ)) → begins_blank more ≡ true
    → folded_onto line (onto_lines more lines) ≡ folded_onto (joined line more) lines
folds_blank line [] lines e = absurd cc
folds_blank line (b ∷ bs) lines e = rw e refl

pub lines_go_on : (line text more after : List ℕ) (total : List (List ℕ))
    → line_at text ≡ Some (more, after) → begins_blank more ≡ true
    → folded_onto line (lines_at text) ≡ total
    → folded_onto (joined line more) (lines_at after) ≡ total
lines_go_on line text more after total e blank so_far =
    sym (ap (folded_onto line) (line_onto text more after e)
    ∙ folds_blank line more (lines_at after) blank) ∙ so_far

folds_other : (line more : List ℕ) (lines : List (List ℕ)) → begins_blank more ≡ false
    → folded_onto line (onto_lines more lines) ≡ line ∷ whole_lines (onto_lines more lines)
folds_other line [] lines e = refl
folds_other line (b ∷ bs) lines e = rw e refl

pub lines_end_here : (line text more after : List ℕ) → line_at text ≡ Some (more, after)
    → begins_blank more ≡ false
    → folded_onto line (lines_at text) ≡ line ∷ whole_lines (lines_at text)
lines_end_here line text more after e other =
    rw (line_onto text more after e) (folds_other line more (lines_at after) other)

pub lines_unended : (line text : List ℕ) → line_at text ≡ None
    → folded_onto line (lines_at text) ≡ line ∷ whole_lines (lines_at text)
lines_unended line text e = rw (none_onto text e) refl

lines_by : (line text : List ℕ) (first : Option (List ℕ × List ℕ)) → line_at text ≡ first
    → begins_blank text ≡ false
    → folded_onto line (lines_at text) ≡ line ∷ whole_lines (lines_at text)
lines_by line text None e plain = lines_unended line text e
lines_by line text (Some (more, after)) e plain =
    lines_end_here line text more after e (plain_first text more after e plain)

pub lines_plain : (line text : List ℕ) → begins_blank text ≡ false
    → folded_onto line (lines_at text) ≡ line ∷ whole_lines (lines_at text)
lines_plain line text plain = lines_by line text (line_at text) refl plain
