-- Lines, one after another.
use Rattle.std.proofs.Common.{◌≡◌, ℕ, Bool, true, false, cond, not, eqb, IsTrue, List, [], ◌∷◌, ◌++◌, Option, Some, None, refl, sym, ap, subst, ◌∙◌, append_assoc, ◌&&◌, ◌-◌, ◌≤◌, length, take, drop, get_or, arith}
use Rattle.std.specs.List.{list_all, slice_split, onto_first}
use Rattle.std.specs.Option.{option_map}
use Rattle.std.specs.Str.Lines.{strip_carriage_return}
use Rattle.std.proofs.lemmas.Bool.{eqb-true, and_from}
use Rattle.std.proofs.lemmas.List.{append-nil, take-append-drop}
use Rattle.std.proofs.Math.Seq.{take-append_seam}
use Rattle.sip_text.specs.Character.{is_blank}
use Rattle.sip_text.specs.Cut.{cut_at}
use Rattle.sip_text.specs.Line.{line_at}
use Rattle.sip_text.specs.Lines.{has_no, IsLine, IsLines}
use Rattle.sip_text.specs.Trimmed.{trimmed_start, trimmed_end}
use Rattle.sip_text.specs.Unfolded.{begins_blank, joined, unfolded_from, unfolded_behind}
use Rattle.sip_text.proofs.Cuts.{cut_took}
use Rattle.sip_text.proofs.Separators.{mapped, not_mapped}

-- ---- one line

abbrev pub longer : ℕ → List ℕ × List ℕ → List ℕ × List ℕ
longer c p = (c ∷ p.0, p.1)

no_end_by : (c : ℕ) (cs : List ℕ) (r : Bool) → eqb c 10 ≡ r
    → (cut_at 10 cs ≡ None → IsTrue (has_no 10 cs))
    → cond r (Some ([], cs)) (option_map (longer c) (cut_at 10 cs)) ≡ None
    → IsTrue (has_no 10 (c ∷ cs))
no_end_by c cs true t more e = absurd cc
no_end_by c cs false t more e =
    and_from _ _ (ap not t) (more (not_mapped (longer c) (cut_at 10 cs) e))

no_end : (text : List ℕ) → cut_at 10 text ≡ None → IsTrue (has_no 10 text)
no_end [] e = refl
no_end (c ∷ cs) e = no_end_by c cs (eqb c 10) refl (no_end cs) e

pub line_takes : (text line after : List ℕ) → line_at text ≡ Some (line, after)
    → IsLine text line after
unfolding line_at
line_takes text line after e =
    let m = mapped (λ (p : List ℕ × List ℕ). (strip_carriage_return p.0, p.1)) (cut_at 10 text)
    (line, after) e in
    let end = cut_took 10 text m.0 m.1 in
    let after_is : m.0.1 ≡ after = ap (λ (p : List ℕ × List ℕ). p.1) m.2 in
    record {
      part = m.0.0;
      parts = subst (λ (xs : List ℕ). text ≡ m.0.0 ++ (10 ∷ xs)) after_is end.whole;
      one = end.none;
      stripped = sym (ap (λ (p : List ℕ × List ℕ). p.0) m.2);
    }

pub no_line : (text : List ℕ) → line_at text ≡ None → IsTrue (has_no 10 text)
unfolding line_at
no_line text e = no_end text (not_mapped (λ (p : List ℕ × List ℕ). (strip_carriage_return p.0, p.1))
    (cut_at 10 text) e)

-- ---- the loop over lines

-- the lines found so far are those that the text begins with
abbrev pub HasBefore : List ℕ → List (List ℕ) → List ℕ → Type 0
HasBefore text front rest =
    (more : List (List ℕ)) (end : List ℕ) → IsLines rest more end → IsLines text (front ++ more) end

pub one_line_more : (text : List ℕ) (front : List (List ℕ)) (rest line after : List ℕ)
    → HasBefore text front rest → line_at rest ≡ Some (line, after)
    → HasBefore text (front ++ line ∷ []) after
one_line_more text front rest line after before e more end lines =
    subst (λ (ls : List (List ℕ)). IsLines text ls end) (sym (append_assoc front (line ∷ []) more))
    (before (line ∷ more) end (after, line_takes rest line after e, lines))

-- ---- folds

abbrev pub at_lf : ℕ → Bool
at_lf b = eqb b 10

-- a text is split into the part before the first LF, and the split of what follows
abbrev pub split_at : List ℕ → Option (List ℕ × List ℕ) → List (List ℕ)
split_at text None = text ∷ []
split_at text (Some p) = p.0 ∷ slice_split at_lf p.1

onto_first-split_at : (b : ℕ) (bs : List ℕ) (o : Option (List ℕ × List ℕ))
    → onto_first b (split_at bs o) ≡ split_at (b ∷ bs) (option_map (longer b) o)
onto_first-split_at b bs None = refl
onto_first-split_at b bs (Some p) = refl

split_at_by : (b : ℕ) (bs : List ℕ) (r : Bool) → slice_split at_lf bs ≡ split_at bs (cut_at 10 bs)
    → cond r ([] ∷ slice_split at_lf bs) (onto_first b (slice_split at_lf bs))
    ≡ split_at (b ∷ bs) (cond r (Some ([], bs)) (option_map (longer b) (cut_at 10 bs)))
split_at_by b bs true rest = refl
split_at_by b bs false rest = ap (onto_first b) rest ∙ onto_first-split_at b bs (cut_at 10 bs)

pub slice_split-cut_at : (text : List ℕ) → slice_split at_lf text ≡ split_at text (cut_at 10 text)
slice_split-cut_at [] = refl
slice_split-cut_at (b ∷ bs) = split_at_by b bs (eqb b 10) (slice_split-cut_at bs)

-- the first line of a text begins as the text does
record Begins (text : List ℕ) : Type 0 where
  pub line : List ℕ
  pub lines : List (List ℕ)
  pub split_is : slice_split at_lf text ≡ line ∷ lines
  pub blank_is : begins_blank line ≡ begins_blank text
  pub trimmed_is : slice_split at_lf (trimmed_start text) ≡ trimmed_start line ∷ lines

begins_by : (b : ℕ) (bs : List ℕ) (lf blank : Bool) → eqb b 10 ≡ lf → is_blank b ≡ blank → Begins bs
    → Begins (b ∷ bs)
begins_by b bs true blank l k rest =
    let not_blank : is_blank b ≡ false = ap is_blank (eqb-true b 10 l) in
    record {
      line = [];
      lines = slice_split at_lf bs;
      split_is = rw l refl;
      blank_is = sym not_blank;
      trimmed_is = rw (not_blank, l) refl;
    }
begins_by b bs false true l k rest =
    record {
      line = b ∷ rest.line;
      lines = rest.lines;
      split_is = rw l (ap (onto_first b) rest.split_is);
      blank_is = refl;
      trimmed_is = rw k rest.trimmed_is;
    }
begins_by b bs false false l k rest =
    record {
      line = b ∷ rest.line;
      lines = rest.lines;
      split_is = rw l (ap (onto_first b) rest.split_is);
      blank_is = refl;
      trimmed_is = rw (k, l) (ap (onto_first b) rest.split_is);
    }

begins : (text : List ℕ) → Begins text
begins [] = record { line = []; lines = []; split_is = refl; blank_is = refl; trimmed_is = refl }
begins (b ∷ bs) = begins_by b bs (eqb b 10) (is_blank b) refl refl (begins bs)

abbrev pub folded_behind : List ℕ → List ℕ → List ℕ
folded_behind whole rest = unfolded_behind whole (slice_split at_lf rest)

at_break : (whole rest line after : List ℕ) → cut_at 10 rest ≡ Some (line, after)
    → folded_behind whole rest ≡ unfolded_from (whole ++ line) (slice_split at_lf after)
at_break whole rest line after e =
    ap (unfolded_behind whole) (slice_split-cut_at rest ∙ ap (split_at rest) e)

-- the next line continues this one
pub goes_on : (whole rest line after : List ℕ) → cut_at 10 rest ≡ Some (line, after)
    → begins_blank after ≡ true → folded_behind
    (trimmed_end (strip_carriage_return (whole ++ line)) ++ 32 ∷ []) (trimmed_start after)
    ≡ folded_behind whole rest
goes_on whole rest line after e blank =
    let first = begins after in
    let here : begins_blank first.line ≡ true = first.blank_is ∙ blank in
    let kept = trimmed_end (strip_carriage_return (whole ++ line)) in
    ap (unfolded_behind (kept ++ 32 ∷ [])) first.trimmed_is
    ∙ ap (λ (text : List ℕ). unfolded_from text first.lines)
    (append_assoc kept (32 ∷ []) (trimmed_start first.line))
    ∙ sym (at_break whole rest line after e ∙ ap (unfolded_from (whole ++ line)) first.split_is
    ∙ ap (λ b. cond b (unfolded_from
    (joined (strip_carriage_return (whole ++ line)) first.line) first.lines)
    (unfolded_from ((whole ++ line) ++ (10 ∷ first.line)) first.lines)) here)

-- the next line is another line
pub begins_anew : (whole rest line after : List ℕ) → cut_at 10 rest ≡ Some (line, after)
    → begins_blank after ≡ false → folded_behind ((whole ++ line) ++ 10 ∷ []) after
    ≡ folded_behind whole rest
begins_anew whole rest line after e blank =
    let first = begins after in
    let here : begins_blank first.line ≡ false = first.blank_is ∙ blank in
    ap (unfolded_behind ((whole ++ line) ++ 10 ∷ [])) first.split_is
    ∙ ap (λ (text : List ℕ). unfolded_from text first.lines)
    (append_assoc (whole ++ line) (10 ∷ []) first.line)
    ∙ sym (at_break whole rest line after e ∙ ap (unfolded_from (whole ++ line)) first.split_is
    ∙ ap (λ b. cond b (unfolded_from
    (joined (strip_carriage_return (whole ++ line)) first.line) first.lines)
    (unfolded_from ((whole ++ line) ++ (10 ∷ first.line)) first.lines)) here)

pub last_line : (whole rest : List ℕ) → cut_at 10 rest ≡ None
    → whole ++ rest ≡ folded_behind whole rest
last_line whole rest e =
    sym (ap (unfolded_behind whole) (slice_split-cut_at rest ∙ ap (split_at rest) e))

-- ---- what is cut off the end of a line

cut_off_by : (b : ℕ) (bs : List ℕ) (r : Bool) → (rest : List ℕ) × (bs ≡ trimmed_end bs ++ rest)
    → (rest : List ℕ) × (b ∷ bs ≡ cond r [] (b ∷ trimmed_end bs) ++ rest)
cut_off_by b bs true more = (b ∷ bs, refl)
cut_off_by b bs false more = (more.0, ap (λ (xs : List ℕ). b ∷ xs) more.1)

cut_off : (text : List ℕ) → (rest : List ℕ) × (text ≡ trimmed_end text ++ rest)
cut_off [] = ([], refl)
cut_off (b ∷ bs) = cut_off_by b bs (is_blank b && list_all is_blank bs) (cut_off bs)

stripped_by : (r : Bool) (n : ℕ) (text : List ℕ)
    → (rest : List ℕ) × (text ≡ cond r (take n text) text ++ rest)
stripped_by true n text = (drop n text, sym (take-append-drop n text))
stripped_by false n text = ([], sym (append-nil text))

pub kept_front : (text : List ℕ)
    → take (length (trimmed_end (strip_carriage_return text))) text
    ≡ trimmed_end (strip_carriage_return text)
kept_front text =
    let stripped = stripped_by (eqb (get_or text (length text - 1) 0) 13) (length text - 1) text in
    let kept = cut_off (strip_carriage_return text) in
    let short = trimmed_end (strip_carriage_return text) in
    let whole : text ≡ short ++ (kept.0 ++ stripped.0) =
    stripped.1 ∙ ap (λ (xs : List ℕ). xs ++ stripped.0) kept.1
    ∙ append_assoc short kept.0 stripped.0 in
    ap (take (length short)) whole ∙ take-append_seam short (kept.0 ++ stripped.0)

shorter_by : (b : ℕ) (bs : List ℕ) (r : Bool) → length (trimmed_start bs) ≤ length bs
    → length (cond r (trimmed_start bs) (b ∷ bs)) ≤ length (b ∷ bs)
shorter_by b bs true le = omega arith
shorter_by b bs false le = omega arith

pub length-trimmed_start-le : (text : List ℕ) → length (trimmed_start text) ≤ length text
length-trimmed_start-le [] = omega arith
length-trimmed_start-le (b ∷ bs) = shorter_by b bs (is_blank b) (length-trimmed_start-le bs)
