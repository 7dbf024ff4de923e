-- The lines of a message are read as they are laid out in its text.
use Rattle.std.proofs.Common.{◌≡◌, ◌⊎◌, inl, inr, ℕ, zero, suc, ◌-◌, ◌<◌, ◌≤◌, Bool, true, false, cond, eqb, ◌&&◌, List, [], ◌∷◌, ◌++◌, length, take, slice_index, replicate, Option, Some, None, refl, sym, ap, subst, ◌∙◌, arith}
use Rattle.std.specs.List.{AllByRecursion}
use Rattle.std.specs.Option.{option_map}
use Rattle.std.specs.Str.Lines.{strip_carriage_return}
use Rattle.std.proofs.lemmas.Bool.{eqb-true, eqb-false, and_parts, true≢false}
use Rattle.std.proofs.lemmas.List.{length-append}
use Rattle.std.proofs.lemmas.Option.{same_Some}
use Rattle.sip_text.specs.Cut.{cut_at}
use Rattle.sip_text.specs.Line.{line_at}
use Rattle.sip_text.specs.Lines.{IsLine, IsLines}
use Rattle.sip_text.proofs.LineParts.{line_takes}
use Rattle.sip_headers.specs.Folding.{Section, with_line_of, section_at, folded_onto, whole_section}
use Rattle.sip_headers.specs.Steps.Drafted.{onto_section}
use Rattle.sip_headers.proofs.Folds.{one_line, no_line, whole_behind}
use Rattle.sip_reader.specs.Layout.{Lays}
use Rattle.sip_reader.specs.SkippedEnds.{without_line_ends}
use Rattle.sip_grammar.proofs.Cuts.{at_again}
use Rattle.sip_grammar.proofs.Pieces.{by_bool, map_some}

-- a line that isn't empty
abbrev pub IsFull : List ℕ → Type 0
IsFull line = line ≡ [] → ⊥

-- ---- one line

abbrev stripped : List ℕ × List ℕ → List ℕ × List ℕ
stripped p = (strip_carriage_return p.0, p.1)

pub line_again : (text line after : List ℕ) → IsLine text line after
    → line_at text ≡ Some (line, after)
unfolding line_at
line_again text line after is =
    ap (λ (xs : List ℕ). option_map stripped (cut_at 10 xs)) is.parts
    ∙ ap (option_map stripped) (at_again 10 is.part after is.one)
    ∙ ap (λ (xs : List ℕ). Some (xs, after)) (sym is.stripped)

pub after_shorter : (text line after : List ℕ) → IsLine text line after → length after < length text
after_shorter text line after is =
    omega (arith, ap length is.parts, length-append is.part (10 ∷ after))

-- ---- the lines up to the empty one

abbrev after_line : Option (List ℕ × List ℕ) → Option Section
after_line None = None
after_line (Some p) = with_line_of p.0 p.1 (section_at p.1)

section_by : (text : List ℕ) (o : Option (List ℕ × List ℕ)) → line_at text ≡ o
    → section_at text ≡ after_line o
section_by text None e = no_line text e
section_by text (Some p) e = one_line text p.0 p.1 e

section_at-line : (text : List ℕ) → section_at text ≡ after_line (line_at text)
section_at-line text = section_by text (line_at text) refl

abbrev Found : List ℕ → Section → Type 0
Found text h = IsLines text (h.0 ++ ([] ∷ [])) h.1 × AllByRecursion IsFull h.0

abbrev Finds : List ℕ → Type 0
Finds text = (h : Section) → section_at text ≡ Some h → Found text h

full : (b : ℕ) (bs : List ℕ) → IsFull (b ∷ bs)
full b bs e = absurd cc

abbrev with_line : List ℕ → Section → Section
with_line line h = (line ∷ h.0, h.1)

from_line : (text : List ℕ) (o : Option (List ℕ × List ℕ)) → line_at text ≡ o
    → ((after : List ℕ) → length after < length text → Finds after) → (h : Section)
    → after_line o ≡ Some h → Found text h
from_line text None is more h e = absurd cc
from_line text (Some ([], after)) is more h e =
    subst (λ (k : Section). Found text k) (same_Some ([], after) h e)
    ((after, line_takes text [] after is, refl), tt)
from_line text (Some (b ∷ bs, after)) is more h e =
    let line = line_takes text (b ∷ bs) after is in
    let m = map_some (with_line (b ∷ bs)) (section_at after) h e in
    let rest = more after (after_shorter text (b ∷ bs) after line) m.0 m.1 in
    subst (λ (k : Section). Found text k) m.2 ((after, line, rest.0), (full b bs, rest.1))

section_within : (n : ℕ) (text : List ℕ) → length text ≤ n → Finds text
section_within zero text short h e =
    from_line text (line_at text) refl (λ after lt. absurd (omega arith)) h
    (sym (section_at-line text) ∙ e)
section_within (suc n) text short h e =
    from_line text (line_at text) refl (λ after lt. section_within n after (omega arith)) h
    (sym (section_at-line text) ∙ e)

section_takes : (text : List ℕ) → Finds text
section_takes text = section_within (length text) text (omega arith)

one_more : (line after : List ℕ) (lines : List (List ℕ)) (rest : List ℕ) → IsFull line
    → section_at after ≡ Some (lines, rest)
    → with_line_of line after (section_at after) ≡ Some (line ∷ lines, rest)
one_more [] after lines rest is more = absurd (is refl)
one_more (b ∷ bs) after lines rest is more = ap (option_map (with_line (b ∷ bs))) more

section_again : (lines : List (List ℕ)) (text rest : List ℕ) → AllByRecursion IsFull lines
    → IsLines text (lines ++ ([] ∷ [])) rest → section_at text ≡ Some (lines, rest)
section_again [] text rest all is =
    section_at-line text ∙ ap after_line (line_again text [] is.0 is.1)
    ∙ ap (λ (xs : List ℕ). Some ([], xs)) is.2
section_again (line ∷ lines) text rest all is =
    section_at-line text ∙ ap after_line (line_again text line is.0 is.1)
    ∙ one_more line is.0 lines rest all.0 (section_again lines is.0 rest all.1 is.2)

-- ---- empty lines at the start

-- the text begins with a line end
abbrev pub HasEnd : List ℕ → List ℕ → Type 0
HasEnd text after = (text ≡ 10 ∷ after) ⊎ (text ≡ 13 ∷ (10 ∷ after))

-- the text doesn't begin with a line end
abbrev pub NoEnd : List ℕ → Type 0
NoEnd text = (after : List ℕ) → HasEnd text after → ⊥

pub strips_later : (b c : ℕ) (cs : List ℕ)
    → strip_carriage_return (b ∷ c ∷ cs) ≡ b ∷ strip_carriage_return (c ∷ cs)
strips_later b c cs =
    let long : length (b ∷ c ∷ cs) - 1 ≡ suc (length cs) = omega arith in
    let less : length (c ∷ cs) - 1 ≡ length cs = omega arith in
    rw (long, less) (elim (eqb (slice_index (c ∷ cs) (length cs)) 13) as (λ r.
    cond r (b ∷ take (length cs) (c ∷ cs)) (b ∷ c ∷ cs)
    ≡ b ∷ cond r (take (length cs) (c ∷ cs)) (c ∷ cs)) [ true ↦ refl | false ↦ refl ])

strip_one : (b : ℕ) (r : Bool) → eqb b 13 ≡ r → [] ≡ cond r [] (b ∷ []) → b ≡ 13
strip_one b true is e = eqb-true b 13 is
strip_one b false is e = absurd cc

-- an empty line is LF or CR LF
empty_part : (part after : List ℕ) → [] ≡ strip_carriage_return part
    → HasEnd (part ++ (10 ∷ after)) after
empty_part [] after e = inl refl
empty_part (b ∷ []) after e = inr (ap (λ (c : ℕ). c ∷ (10 ∷ after)) (strip_one b (eqb b 13) refl e))
empty_part (b ∷ (c ∷ bs)) after e =
    let none : [] ≡ b ∷ strip_carriage_return (c ∷ bs) = e ∙ strips_later b c bs in absurd cc

pub empty_line : (text after : List ℕ) → IsLine text [] after → HasEnd text after
empty_line text after is =
    subst (λ (xs : List ℕ). HasEnd xs after) (sym is.parts) (empty_part is.part after is.stripped)

an_empty_line : (text after : List ℕ) → HasEnd text after → IsLine text [] after
an_empty_line text after (inl e) = record { part = []; parts = e; one = refl; stripped = refl }
an_empty_line text after (inr e) = record { part = 13 ∷ []; parts = e; one = refl; stripped = refl }

-- ---- they are skipped

ends_one : (b : ℕ) → eqb b 10 ≡ false → NoEnd (b ∷ [])
ends_one b other after (inl e) =
    let same : b ≡ 10 = cc in
    eqb-false b 10 other same
ends_one b other after (inr e) = absurd cc

ends_more : (b c : ℕ) (bs : List ℕ) → eqb b 10 ≡ false → (eqb b 13 && eqb c 10) ≡ false
    → NoEnd (b ∷ (c ∷ bs))
ends_more b c bs other not_both after (inl e) =
    let same : b ≡ 10 = cc in
    eqb-false b 10 other same
ends_more b c bs other not_both after (inr e) =
    let first : b ≡ 13 = cc in
    let second : c ≡ 10 = cc in
    true≢false (sym (ap (λ (x : ℕ). eqb x 13 && eqb 10 10) first ∙ refl)
    ∙ ap (λ (x : ℕ). eqb b 13 && eqb x 10) (sym second) ∙ not_both)

ends_none : NoEnd []
ends_none after (inl e) = absurd cc
ends_none after (inr e) = absurd cc

-- a text begins with a line end, or nothing is skipped
abbrev BeginsOrStays : List ℕ → Type 0
BeginsOrStays text = ((after : List ℕ) × HasEnd text after)
    ⊎ (NoEnd text × (without_line_ends text ≡ text))

begins_or_stays : (text : List ℕ) → BeginsOrStays text
begins_or_stays [] = inr (ends_none, refl)
begins_or_stays (b ∷ []) =
    by_bool (eqb b 10) (λ _. BeginsOrStays (b ∷ []))
    (λ lf. inl ([], inl (ap (λ (x : ℕ). x ∷ []) (eqb-true b 10 lf))))
    (λ other. inr (ends_one b other, rw other refl))
begins_or_stays (b ∷ (c ∷ bs)) =
    by_bool (eqb b 10) (λ _. BeginsOrStays (b ∷ (c ∷ bs)))
    (λ lf. inl (c ∷ bs, inl (ap (λ (x : ℕ). x ∷ (c ∷ bs)) (eqb-true b 10 lf))))
    (λ other. by_bool (eqb b 13 && eqb c 10) (λ _. BeginsOrStays (b ∷ (c ∷ bs)))
    (λ is.
    let both = and_parts (eqb b 13) (eqb c 10) is in
    inl (
      bs,
      inr (ap (λ (x : ℕ). x ∷ (c ∷ bs)) (eqb-true b 13 both.0)
          ∙ ap (λ (x : ℕ). 13 ∷ (x ∷ bs)) (eqb-true c 10 both.1)),
    ))
    (λ not_both. inr (ends_more b c bs other not_both, rw (other, not_both) refl)))

pub kept : (text : List ℕ) → NoEnd text → without_line_ends text ≡ text
kept text none =
    elim (begins_or_stays text) as (λ _. without_line_ends text ≡ text) [
      | inl (after, begins) ↦ absurd (none after begins)
      | inr (_, same) ↦ same
    ]

skip_lf : (after : List ℕ) → without_line_ends (10 ∷ after) ≡ without_line_ends after
skip_lf [] = refl
skip_lf (c ∷ cs) = refl

skip_line : (text after : List ℕ) → HasEnd text after
    → without_line_ends text ≡ without_line_ends after
skip_line text after (inl e) = ap without_line_ends e ∙ skip_lf after
skip_line text after (inr e) = ap without_line_ends e

-- the empty lines that are skipped; no further one follows
pub record Skips (text : List ℕ) : Type 0 where
  pub skipped : ℕ
  pub before : (lines : List (List ℕ)) (rest : List ℕ) → IsLines (without_line_ends text) lines rest
      → IsLines text (replicate skipped [] ++ lines) rest
  pub done : NoEnd (without_line_ends text)

skips_by : (text : List ℕ) → ((after : List ℕ) → length after < length text → Skips after)
    → Skips text
skips_by text further =
    elim (begins_or_stays text) as (λ _. Skips text) [
      | inl (after, begins) ↦
          let line = an_empty_line text after begins in
          let more = further after (after_shorter text [] after line) in
          let same = skip_line text after begins in
          record {
            skipped = suc more.skipped;
            before = λ lines rest is. (
              after,
              line,
              more.before lines rest
                  (subst (λ t. IsLines t lines rest) same is),
            );
            done = subst NoEnd (sym same) more.done;
          }
      | inr (none, same) ↦ record {
        skipped = 0;
        before = λ lines rest is. subst (λ t. IsLines t lines rest) same is;
        done = subst NoEnd (sym same) none;
      }
    ]

skips_within : (n : ℕ) (text : List ℕ) → length text ≤ n → Skips text
skips_within zero text short = skips_by text (λ after lt. absurd (omega arith))
skips_within (suc n) text short = skips_by text (λ after lt. skips_within n after (omega arith))

pub skips : (text : List ℕ) → Skips text
skips text = skips_within (length text) text (omega arith)

-- a line that isn't empty doesn't begin with its end
pub no_end : (text line after : List ℕ) → IsLine text line after → IsFull line → NoEnd text
no_end text line after is some_line other ends =
    let empty = line_again text [] other (an_empty_line text other ends) in
    let both : Some ([], other) ≡ Some (line, after) = sym empty ∙ line_again text line after is in
    some_line (ap (λ (p : List ℕ × List ℕ). p.0) (sym (same_Some _ _ both)))

pub skip_again : (n : ℕ) (text start : List ℕ) (lines : List (List ℕ)) (rest : List ℕ)
    → IsFull start
    → IsLines text (replicate n [] ++ (start ∷ lines)) rest
    → IsLines (without_line_ends text) (start ∷ lines) rest
skip_again zero text start lines rest some_line is =
    subst (λ (xs : List ℕ). IsLines xs (start ∷ lines) rest)
    (sym (kept text (no_end text start is.0 is.1 some_line))) is
skip_again (suc n) text start lines rest some_line is =
    subst (λ (xs : List ℕ). IsLines xs (start ∷ lines) rest)
    (sym (skip_line text is.0 (empty_line text is.0 is.1)))
    (skip_again n is.0 start lines rest some_line is.2)

-- ---- the whole

-- the first line after the line ends that are skipped
pub begins_full : (text first after : List ℕ)
    → line_at (without_line_ends text) ≡ Some (first, after) → IsFull first
begins_full text first after e none =
    (skips text).done after (empty_line (without_line_ends text) after
    (subst (λ (xs : List ℕ). IsLine (without_line_ends text) xs after) none
    (line_takes (without_line_ends text) first after e)))

-- the lines of a text are its first line and those after it
pub first_onto : (text first after : List ℕ)
    → line_at (without_line_ends text) ≡ Some (first, after)
    → whole_section (section_at (without_line_ends text)) ≡ onto_section first (section_at after)
first_onto text first after e =
    ap whole_section (one_line (without_line_ends text) first after e)
    ∙ whole_behind first after (section_at after) (begins_full text first after e)

pub laid_takes : (text first after start : List ℕ) (lines : List (List ℕ)) (rest : List ℕ)
    → line_at (without_line_ends text) ≡ Some (first, after)
    → onto_section first (section_at after) ≡ Some (start ∷ lines, rest)
    → Lays text start lines rest
laid_takes text first after start lines rest e f =
    let line = line_takes (without_line_ends text) first after e in
    let m = map_some (λ (s : Section). (folded_onto first s.0, s.1)) (section_at after)
    (start ∷ lines, rest) f in
    let found = section_takes after m.0 m.1 in
    let laid = first ∷ (m.0.0 ++ ([] ∷ [])) in
    let skipped = skips text in
    record {
      skipped = skipped.skipped;
      first = first;
      more = m.0.0;
      parts = subst (λ (xs : List ℕ). IsLines text (replicate skipped.skipped [] ++ laid) xs)
          (ap (λ (s : Section). s.1) m.2) (skipped.before laid m.0.1 (after, line, found.0));
      first_is = begins_full text first after e;
      more_are = found.1;
      whole = sym (ap (λ (s : Section). s.0) m.2);
    }

pub record Laid (text start : List ℕ) (lines : List (List ℕ)) (rest : List ℕ) : Type 0 where
  pub first : List ℕ
  pub after : List ℕ
  pub line_is : line_at (without_line_ends text) ≡ Some (first, after)
  pub section_is : onto_section first (section_at after) ≡ Some (start ∷ lines, rest)

pub laid_again : (text start : List ℕ) (lines : List (List ℕ)) (rest : List ℕ)
    → Lays text start lines rest → Laid text start lines rest
laid_again text start lines rest lays =
    let is = skip_again lays.skipped text lays.first
    (lays.more ++ ([] ∷ [])) rest lays.first_is lays.parts in
    record {
      first = lays.first;
      after = is.0;
      line_is = line_again (without_line_ends text) lays.first is.0 is.1;
      section_is = ap (onto_section lays.first)
          (section_again lays.more is.0 rest lays.more_are is.2)
          ∙ ap (λ (ls : List (List ℕ)). Some (ls, rest)) (sym lays.whole);
    }
