-- The head of a text, as it is read and as it is laid out in the text.
use Rattle.std.proofs.Common.{◌≡◌, ℕ, zero, suc, ◌<◌, ◌≤◌, IsTrue, true, List, [], ◌∷◌, ◌++◌, length, replicate, Option, Some, None, refl, sym, subst, ap, ◌∙◌, append_assoc, arith}
use Rattle.std.specs.List.{AllByRecursion, take_while}
use Rattle.std.proofs.lemmas.List.{append-nil}
use Rattle.std.proofs.lemmas.List.Sums.{take_while-cons}
use Rattle.sip_text.specs.Line.{line_at}
use Rattle.sip_text.specs.Lines.{AreLines, IsLines, has_no}
use Rattle.sip_text.proofs.LineParts.{line_takes, no_line}
use Rattle.sip_text.proofs.ReadForms.{Reads, not_read, only_one}
use Rattle.sip_headers.specs.Folding.{folded_onto, whole_lines}
use Rattle.sip_headers.specs.Steps.Drafted.{lines_at, onto_lines}
use Rattle.sip_headers.proofs.Folds.{line_onto, none_onto}
use Rattle.sip_reader.specs.Head.{BeginsWith, OrNone, IsFirst, IsHead, from_full, is_full}
use Rattle.sip_reader.specs.Layout.{Lays}
use Rattle.sip_reader.specs.Steps.ReadHead.{first_at, head_at}
use Rattle.sip_reader.specs.ReadStart.{start_at}
use Rattle.sip_reader.specs.SkippedEnds.{without_line_ends}
use Rattle.sip_reader.specs.declared.first_line.FirstLine.{FirstLine}
use Rattle.sip_reader.proofs.Layouts.{IsFull, NoEnd, after_shorter, empty_line, skips}
use Rattle.sip_reader.proofs.StartLines.{start_reads}
use Rattle.sip_reader.proofs.Unfolding.{found_first, not_ended}

-- ---- all lines of a text

record AreAll (text : List ℕ) : Type 0 where
  all : List (List ℕ)
  parts : AreLines all text
  upto : lines_at text ≡ take_while is_full all

onto_full : (line : List ℕ) (lines all : List (List ℕ)) → lines ≡ take_while is_full all
    → onto_lines line lines ≡ take_while is_full (line ∷ all)
onto_full [] lines all e = sym (take_while-cons is_full [] all)
onto_full (b ∷ bs) lines all e =
    ap (λ (ls : List (List ℕ)). (b ∷ bs) ∷ ls) e ∙ sym (take_while-cons is_full (b ∷ bs) all)

all_by : (text : List ℕ) (o : Option (List ℕ × List ℕ)) → line_at text ≡ o
    → ((after : List ℕ) → length after < length text → AreAll after) → AreAll text
all_by text None e more =
    record {
      all = [];
      parts = record { rest = text; parts = refl; no_more = no_line text e };
      upto = none_onto text e;
    }
all_by text (Some (line, after)) e more =
    let is = line_takes text line after e in
    let rest = more after (after_shorter text line after is) in
    record {
      all = line ∷ rest.all;
      parts = record {
        rest = rest.parts.rest;
        parts = (after, is, rest.parts.parts);
        no_more = rest.parts.no_more;
      };
      upto = line_onto text line after e ∙ onto_full line (lines_at after) rest.all rest.upto;
    }

all_within : (n : ℕ) (text : List ℕ) → length text ≤ n → AreAll text
all_within zero text short =
    all_by text (line_at text) refl (λ after lt. absurd (omega arith))
all_within (suc n) text short =
    all_by text (line_at text) refl (λ after lt. all_within n after (omega arith))

all_lines : (text : List ℕ) → AreAll text
all_lines text = all_within (length text) text (omega arith)

-- ---- empty lines at the start

behind_skipped : (n : ℕ) (lines : List (List ℕ))
    → from_full (replicate n [] ++ lines) ≡ from_full lines
behind_skipped zero lines = refl
behind_skipped (suc n) lines = behind_skipped n lines

behind_none : (text : List ℕ) (lines : List (List ℕ)) (rest : List ℕ) → NoEnd text
    → IsLines text lines rest → from_full lines ≡ lines
behind_none text [] rest none is = refl
behind_none text ([] ∷ lines) rest none is = absurd (none is.0 (empty_line text is.0 is.1))
behind_none text ((b ∷ bs) ∷ lines) rest none is = refl

pub is_head : (text : List ℕ) → IsHead (head_at text) text
is_head text =
    let front = without_line_ends text in
    let skipped = skips text in
    let lines = all_lines front in
    record {
      all = replicate skipped.skipped [] ++ lines.all;
      parts = record {
        rest = lines.parts.rest;
        parts = skipped.before lines.all lines.parts.rest lines.parts.parts;
        no_more = lines.parts.no_more;
      };
      whole = ap whole_lines (lines.upto
          ∙ ap (take_while is_full) (sym (behind_skipped skipped.skipped lines.all
          ∙ behind_none front lines.all lines.parts.rest skipped.done lines.parts.parts)));
    }

-- ---- the lines of a message

behind_full : (first : List ℕ) (lines : List (List ℕ)) → IsFull first
    → from_full (first ∷ lines) ≡ first ∷ lines
behind_full [] lines full = absurd (full refl)
behind_full (b ∷ bs) lines full = refl

full_is : (line : List ℕ) → IsFull line → is_full line ≡ true
full_is [] full = absurd (full refl)
full_is (b ∷ bs) full = refl

upto_empty : (lines after : List (List ℕ)) → AllByRecursion IsFull lines
    → take_while is_full ((lines ++ ([] ∷ [])) ++ after) ≡ lines
upto_empty [] after all = take_while-cons is_full [] after
upto_empty (line ∷ lines) after all =
    take_while-cons is_full line ((lines ++ ([] ∷ [])) ++ after)
    ∙ rw (full_is line all.0)
    (ap (λ (ls : List (List ℕ)). line ∷ ls) (upto_empty lines after all.1))

pub head_laid : (text start : List ℕ) (lines : List (List ℕ)) (rest : List ℕ)
    → Lays text start lines rest → (head : List (List ℕ)) → IsHead head text
    → head ≡ start ∷ lines
head_laid text start lines rest lays head is =
    let full = lays.first ∷ lays.more in
    let laid = replicate lays.skipped [] ++ (full ++ ([] ∷ [])) in
    let found = found_first text laid rest lays.parts is.all is.parts in
    is.whole
    ∙ ap (λ (all : List (List ℕ)). whole_lines (take_while is_full (from_full all)))
    (found.1 ∙ append_assoc (replicate lays.skipped []) (full ++ ([] ∷ [])) found.0)
    ∙ ap (λ (all : List (List ℕ)). whole_lines (take_while is_full all))
    (behind_skipped lays.skipped ((full ++ ([] ∷ [])) ++ found.0)
    ∙ behind_full lays.first ((lays.more ++ ([] ∷ [])) ++ found.0) lays.first_is)
    ∙ ap whole_lines (upto_empty full found.0 (lays.first_is, lays.more_are))
    ∙ sym lays.whole

-- ---- one head

no_further : (lines : List (List ℕ)) (rest : List ℕ) → AreLines lines rest
    → IsTrue (has_no 10 rest) → lines ≡ []
no_further [] rest is none = refl
no_further (line ∷ lines) rest is none =
    absurd (not_ended is.parts.1.part is.parts.0
    (subst (λ t. has_no 10 t ≡ true) is.parts.1.parts none))

pub one_head : (text : List ℕ) (head other : List (List ℕ)) → IsHead head text
    → IsHead other text → head ≡ other
one_head text head other is also =
    let found = found_first text is.all is.parts.rest is.parts.parts also.all also.parts in
    let all_are : also.all ≡ is.all =
    found.1 ∙ ap (λ (ls : List (List ℕ)). is.all ++ ls)
    (no_further found.0 is.parts.rest found.2 is.parts.no_more)
    ∙ append-nil is.all in
    is.whole
    ∙ ap (λ (all : List (List ℕ)). whole_lines (take_while is_full (from_full all))) (sym all_are)
    ∙ sym also.whole

-- ---- the first line

pub whole_onto : (line : List ℕ) (lines : List (List ℕ)) → IsFull line
    → whole_lines (onto_lines line lines) ≡ folded_onto line lines
whole_onto [] lines full = absurd (full refl)
whole_onto (b ∷ bs) lines full = refl

pub read_or_none : {A X : Type 0} {f : A → Option X} {P : X → A → Type 0} → Reads A X f P
    → (a : A) (o : Option X) → f a ≡ o → OrNone P o a
read_or_none reads a None e = λ x is. not_read reads a e x is
read_or_none reads a (Some x) e = reads.takes a x e

pub one_or_none : {A X : Type 0} {f : A → Option X} {P : X → A → Type 0} → Reads A X f P
    → (a : A) (o p : Option X) → OrNone P o a → OrNone P p a → o ≡ p
one_or_none reads a None None is also = refl
one_or_none reads a None (Some x) is also = absurd (is x also)
one_or_none reads a (Some x) None is also = absurd (also x is)
one_or_none reads a (Some x) (Some y) is also =
    ap (λ z. Some z) (only_one reads a x y is also)

pub is_first : (lines : List (List ℕ)) → IsFirst (first_at lines) lines
is_first [] = refl
is_first (line ∷ lines) = read_or_none start_reads line (start_at line) refl

pub begins_with : (text : List ℕ) (first : Option (FirstLine (List ℕ)))
    → first ≡ first_at (head_at text) → BeginsWith first text
begins_with text first e = (
  head_at text,
  is_head text,
  subst (λ f. IsFirst f (head_at text)) (sym e) (is_first (head_at text)),
)

pub one_start : (text : List ℕ) (says also : Option (FirstLine (List ℕ))) → BeginsWith says text
    → BeginsWith also text → says ≡ also
one_start text says also is others =
    by_lines is.0 is.2 (subst (IsFirst also) (one_head text others.0 is.0 others.1 is.1) others.2)
  where
    by_lines : (lines : List (List ℕ)) → IsFirst says lines → IsFirst also lines → says ≡ also
    by_lines [] e f = e ∙ sym f
    by_lines (line ∷ lines) e f = one_or_none start_reads line says also e f
