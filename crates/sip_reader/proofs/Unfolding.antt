-- The lines of a text, and the text without its folds, agree with the lines that are read.
use Rattle.std.proofs.Common.{◌≡◌, ℕ, true, false, cond, not, eqb, ◌&&◌, List, [], ◌∷◌, ◌++◌, length, take, drop, refl, sym, ap, subst, ◌∙◌, append_assoc}
use Rattle.std.specs.List.{list_all, slice_split}
use Rattle.std.specs.Str.Lines.{strip_carriage_return}
use Rattle.std.proofs.lemmas.Bool.{eqb-true, and_from, and_parts, false≢true}
use Rattle.std.proofs.lemmas.List.{take-append-drop}
use Rattle.std.proofs.lemmas.List.Folds.{list_all-append}
use Rattle.std.proofs.lemmas.Option.{same_Some}
use Rattle.sip_text.specs.Character.{is_blank}
use Rattle.sip_text.specs.Lines.{has_no, IsLine, IsLines, AreLines}
use Rattle.sip_text.specs.Trimmed.{trimmed_start, trimmed_end}
use Rattle.sip_text.specs.Unfolded.{begins_blank, joined, unfolded_from, unfolded_behind, unfolded}
use Rattle.sip_text.proofs.LineParts.{at_lf, split_at, slice_split-cut_at, kept_front}
use Rattle.sip_headers.specs.Folding.{folded_onto}
use Rattle.sip_reader.specs.Layout.{Lays}
use Rattle.sip_reader.specs.SkippedEnds.{without_line_ends}
use Rattle.sip_reader.proofs.Layouts.{line_again, skip_again, strips_later}
use Rattle.sip_grammar.proofs.Cuts.{at_again}
use Rattle.sip_grammar.proofs.Pieces.{by_bool}

-- ---- the lines that are found

-- a text that ends in a line has no other line end
pub not_ended : (front after : List ℕ) → has_no 10 (front ++ (10 ∷ after)) ≡ true → ⊥
not_ended front after free =
    false≢true (and_parts (has_no 10 front) (has_no 10 (10 ∷ after))
    (sym (list_all-append (λ b. not (eqb b 10)) front (10 ∷ after)) ∙ free)).1

-- the lines at the start of a text are its first lines
pub found_first : (text : List ℕ) (lines : List (List ℕ)) (rest : List ℕ) → IsLines text lines rest
    → (found : List (List ℕ)) → AreLines found text
    → (after : List (List ℕ)) × (found ≡ lines ++ after) × AreLines after rest
found_first text [] rest is found all = (found, refl, subst (AreLines found) is all)
found_first text (line ∷ lines) rest (after, is, more) [] all =
    absurd (not_ended is.part after
    (subst (λ t. has_no 10 t ≡ true) (sym all.parts ∙ is.parts) all.no_more))
found_first text (line ∷ lines) rest (after, is, more) (first ∷ found) all =
    let same : (first, all.parts.0) ≡ (line, after) =
    same_Some _ _ (sym (line_again text first all.parts.0 all.parts.1)
    ∙ line_again text line after is) in
    let begins = found_first after lines rest more found (record {
      rest = all.rest;
      parts = subst (λ t. IsLines t found all.rest) (ap (λ p. p.1) same) all.parts.2;
      no_more = all.no_more;
    }) in (
      begins.0,
      ap (λ p. p.0 ∷ found) same ∙ ap (λ ls. line ∷ ls) begins.1,
      begins.2,
    )

-- ---- the carriage return at the end of a line

strips_behind : (front : List ℕ) (b : ℕ) (bs : List ℕ) → eqb b 13 ≡ false
    → strip_carriage_return (front ++ (b ∷ bs)) ≡ front ++ (b ∷ strip_carriage_return bs)
strips_behind [] b [] other = rw other refl
strips_behind [] b (c ∷ cs) other = strips_later b c cs
strips_behind (f ∷ []) b bs other =
    strips_later f b bs ∙ ap (λ xs. f ∷ xs) (strips_behind [] b bs other)
strips_behind (f ∷ g ∷ front) b bs other =
    strips_later f g (front ++ (b ∷ bs))
    ∙ ap (λ xs. f ∷ xs) (strips_behind (g ∷ front) b bs other)

-- ---- blanks

blank_not : (b : ℕ) → is_blank b ≡ true → eqb b 13 ≡ false
blank_not b blank =
    by_bool (eqb b 13) (λ r. r ≡ false)
    (λ e. absurd (false≢true (sym (ap is_blank (eqb-true b 13 e)) ∙ blank))) (λ e. refl)

begins_same : (part : List ℕ) → begins_blank (strip_carriage_return part) ≡ begins_blank part
begins_same [] = refl
begins_same (b ∷ []) =
    by_bool (eqb b 13) (λ r. begins_blank (cond r [] (b ∷ [])) ≡ is_blank b)
    (λ e. sym (ap is_blank (eqb-true b 13 e))) (λ e. refl)
begins_same (b ∷ c ∷ cs) = ap begins_blank (strips_later b c cs)

start_kept : (text : List ℕ) → begins_blank text ≡ false → trimmed_start text ≡ text
start_kept [] plain = refl
start_kept (b ∷ bs) plain = rw plain refl

strips_start : (part : List ℕ)
    → strip_carriage_return (trimmed_start part) ≡ trimmed_start (strip_carriage_return part)
strips_start [] = refl
strips_start (b ∷ bs) =
    by_bool (is_blank b) (λ r. strip_carriage_return (cond r (trimmed_start bs) (b ∷ bs))
    ≡ trimmed_start (strip_carriage_return (b ∷ bs)))
    (λ blank.
    strips_start bs ∙ sym (ap trimmed_start (strips_behind [] b bs (blank_not b blank))
    ∙ rw blank refl))
    (λ plain. sym (start_kept (strip_carriage_return (b ∷ bs)) (begins_same (b ∷ bs) ∙ plain)))

not_all : (front : List ℕ) (b : ℕ) (bs : List ℕ) → is_blank b ≡ false
    → list_all is_blank (front ++ (b ∷ bs)) ≡ false
not_all [] b bs plain = rw plain refl
not_all (f ∷ front) b bs plain =
    ap (λ r. is_blank f && r) (not_all front b bs plain) ∙ elim (is_blank f) as (λ r.
    (r && false) ≡ false) [ true ↦ refl | false ↦ refl ]

end_behind : (front : List ℕ) (b : ℕ) (bs : List ℕ) → is_blank b ≡ false
    → trimmed_end (front ++ (b ∷ bs)) ≡ front ++ (b ∷ trimmed_end bs)
end_behind [] b bs plain = rw plain refl
end_behind (f ∷ front) b bs plain =
    ap (λ r. cond r [] (f ∷ trimmed_end (front ++ (b ∷ bs)))) (not_all (f ∷ front) b bs plain)
    ∙ ap (λ xs. f ∷ xs) (end_behind front b bs plain)

-- ---- folds

-- a line that has a line end isn't changed
behind_end : (front line : List ℕ) (lines : List (List ℕ))
    → unfolded_from (front ++ (10 ∷ line)) lines ≡ front ++ (10 ∷ unfolded_from line lines)
behind_end front line [] = refl
behind_end front line (next ∷ lines) =
    elim (begins_blank next) as (λ r.
    cond r (unfolded_from (joined (strip_carriage_return (front ++ (10 ∷ line))) next) lines)
    (unfolded_from ((front ++ (10 ∷ line)) ++ (10 ∷ next)) lines)
    ≡ front ++ (10 ∷ cond r (unfolded_from (joined (strip_carriage_return line) next) lines)
    (unfolded_from (line ++ (10 ∷ next)) lines))) [
      | true ↦
          ap (λ xs. unfolded_from (trimmed_end xs ++ (32 ∷ trimmed_start next)) lines)
          (strips_behind front 10 line refl)
          ∙ ap (λ xs. unfolded_from (xs ++ (32 ∷ trimmed_start next)) lines)
          (end_behind front 10 (strip_carriage_return line) refl)
          ∙ ap (λ xs. unfolded_from xs lines) (append_assoc front
          (10 ∷ trimmed_end (strip_carriage_return line)) (32 ∷ trimmed_start next))
          ∙ behind_end front (joined (strip_carriage_return line) next) lines
      | false ↦
          ap (λ xs. unfolded_from xs lines) (append_assoc front (10 ∷ line) (10 ∷ next))
          ∙ behind_end front (line ++ (10 ∷ next)) lines
    ]

strips_joined : (line part : List ℕ)
    → strip_carriage_return (joined line part) ≡ joined line (strip_carriage_return part)
strips_joined line part =
    strips_behind (trimmed_end line) 32 (trimmed_start part) refl
    ∙ ap (λ xs. trimmed_end line ++ (32 ∷ xs)) (strips_start part)

start_free : (text : List ℕ) → has_no 10 text ≡ true → has_no 10 (trimmed_start text) ≡ true
start_free [] free = refl
start_free (b ∷ bs) free =
    by_bool (is_blank b) (λ r. has_no 10 (cond r (trimmed_start bs) (b ∷ bs)) ≡ true)
    (λ _. start_free bs (and_parts (not (eqb b 10)) (has_no 10 bs) free).1) (λ _. free)

joined_free : (line part : List ℕ) → has_no 10 line ≡ true → has_no 10 part ≡ true
    → has_no 10 (joined (strip_carriage_return line) part) ≡ true
joined_free line part free free_too =
    let kept = trimmed_end (strip_carriage_return line) in
    let front : has_no 10 kept ≡ true =
    subst (λ xs. has_no 10 xs ≡ true) (kept_front line)
    (and_parts (has_no 10 (take (length kept) line)) (has_no 10 (drop (length kept) line))
    (sym (list_all-append (λ b. not (eqb b 10)) (take (length kept) line)
    (drop (length kept) line))
    ∙ ap (has_no 10) (take-append-drop (length kept) line) ∙ free)).0 in
    list_all-append (λ b. not (eqb b 10)) kept (32 ∷ trimmed_start part)
    ∙ and_from (has_no 10 kept) (has_no 10 (32 ∷ trimmed_start part)) front
    (start_free part free_too)

parts_of : (text line after : List ℕ) → (is : IsLine text line after)
    → slice_split at_lf text ≡ is.part ∷ slice_split at_lf after
parts_of text line after is =
    ap (slice_split at_lf) is.parts ∙ slice_split-cut_at (is.part ++ (10 ∷ after))
    ∙ ap (split_at (is.part ++ (10 ∷ after))) (at_again 10 is.part after is.one)

first_blank : (text line after : List ℕ) → (is : IsLine text line after)
    → begins_blank is.part ≡ begins_blank line
first_blank text line after is =
    sym (begins_same is.part) ∙ ap begins_blank (sym is.stripped)

-- a line that no other continues
ends_line : (line : List ℕ) → has_no 10 line ≡ true → (text next after : List ℕ)
    → (is : IsLine text next after) → begins_blank next ≡ false
    → IsLine (unfolded_from line (slice_split at_lf text)) (strip_carriage_return line)
    (unfolded_from is.part (slice_split at_lf after))
ends_line line free text next after is plain =
    let lines = slice_split at_lf after in
    record {
      part = line;
      parts = ap (unfolded_from line) (parts_of text next after is)
          ∙ ap (λ r. cond r (unfolded_from (joined (strip_carriage_return line) is.part) lines)
          (unfolded_from (line ++ (10 ∷ is.part)) lines)) (first_blank text next after is ∙ plain)
          ∙ behind_end line is.part lines;
      one = free;
      stripped = refl;
    }

-- a line and those that follow it, without their folds
without_folds : (line : List ℕ) → has_no 10 line ≡ true → (text : List ℕ)
    → (lines : List (List ℕ)) → IsLines text (lines ++ ([] ∷ [])) []
    → IsLines (unfolded_from line (slice_split at_lf text))
    (folded_onto (strip_carriage_return line) lines ++ ([] ∷ [])) []
without_folds line free text [] (after, is, end) = (
  unfolded_from is.part (slice_split at_lf after),
  ends_line line free text [] after is refl,
  (
    [],
    record {
      part = is.part;
      parts = ap (λ t. unfolded_from is.part (slice_split at_lf t)) end;
      one = is.one;
      stripped = is.stripped;
    },
    refl,
  ),
)
without_folds line free text (next ∷ lines) (after, is, more) =
    let own = strip_carriage_return line in
    let rest = slice_split at_lf after in
    by_bool (begins_blank next) (λ r. IsLines (unfolded_from line (slice_split at_lf text))
    (cond r (folded_onto (joined own next) lines) (own ∷ folded_onto next lines) ++ ([] ∷ [])) [])
    (λ blank.
    subst (λ t. IsLines t (folded_onto (joined own next) lines ++ ([] ∷ [])) [])
    (sym (ap (unfolded_from line) (parts_of text next after is)
    ∙ ap (λ r. cond r (unfolded_from (joined own is.part) rest)
    (unfolded_from (line ++ (10 ∷ is.part)) rest)) (first_blank text next after is ∙ blank)))
    (subst (λ l. IsLines (unfolded_from (joined own is.part) rest)
    (folded_onto l lines ++ ([] ∷ [])) [])
    (strips_joined own is.part ∙ ap (joined own) (sym is.stripped))
    (without_folds (joined own is.part) (joined_free line is.part free is.one) after lines
    more)))
    (λ plain. (
      unfolded_from is.part rest,
      ends_line line free text next after is plain,
      subst (λ l. IsLines (unfolded_from is.part rest) (folded_onto l lines ++ ([] ∷ [])) [])
          (sym is.stripped) (without_folds is.part is.one after lines more),
    ))

-- the head of a message
pub head_unfolds : (text start : List ℕ) (lines : List (List ℕ)) → Lays text start lines []
    → AreLines (start ∷ (lines ++ ([] ∷ []))) (unfolded (without_line_ends text))
unfolding unfolded
head_unfolds text start lines lays =
    let head = without_line_ends text in
    let (after, is, more) = skip_again lays.skipped text lays.first (lays.more ++ ([] ∷ [])) []
    lays.first_is lays.parts in
    record {
      rest = [];
      parts = subst (λ t. IsLines t (start ∷ (lines ++ ([] ∷ []))) [])
          (sym (ap (unfolded_behind []) (parts_of head lays.first after is)))
          (subst (λ ls. IsLines (unfolded_from is.part (slice_split at_lf after))
          (ls ++ ([] ∷ [])) [])
          (ap (λ l. folded_onto l lays.more) (sym is.stripped) ∙ sym lays.whole)
          (without_folds is.part is.one after lays.more more));
      no_more = refl;
    }
