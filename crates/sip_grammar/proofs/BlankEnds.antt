-- White space at the ends of a text.
use Rattle.std.proofs.Common.{◌≡◌, ℕ, suc, ◌-◌, Bool, true, false, not, cond, ◌&&◌, List, [], ◌∷◌, length, refl, sym, ap, subst, ◌∙◌, arith}
use Rattle.std.specs.Prelude.{slice_index}
use Rattle.std.specs.List.{list_all}
use Rattle.std.specs.Cmp.Derive.{one_truth}
use Rattle.std.proofs.lemmas.Bool.{and_parts, and_from, not-true}
use Rattle.std.proofs.lemmas.Slice.Eq.{bytes_eq-Decides}
use Rattle.sip_text.specs.Character.{is_blank}
use Rattle.sip_text.specs.Trimmed.{trimmed, trimmed_end, trimmed_start}
use Rattle.sip_text.proofs.Ends.{other_last}
use Rattle.sip_grammar.specs.HeaderValue.{has_no_blank_ends}

-- neither the first nor the last byte is blank
abbrev pub full_ends : List ℕ → Bool
full_ends text =
    not (is_blank (slice_index text 0)) && not (is_blank (slice_index text (length text - 1)))

-- ---- a text without the blanks at its ends

start_by : (b : ℕ) (bs : List ℕ) (blank : Bool) → is_blank b ≡ blank
    → is_blank (slice_index (trimmed_start bs) 0) ≡ false
    → is_blank (slice_index (cond blank (trimmed_start bs) (b ∷ bs)) 0) ≡ false
start_by b bs true e more = more
start_by b bs false e more = e

starts_full : (text : List ℕ) → is_blank (slice_index (trimmed_start text) 0) ≡ false
starts_full [] = refl
starts_full (b ∷ bs) = start_by b bs (is_blank b) refl (starts_full bs)

start_stays : (text : List ℕ) → is_blank (slice_index text 0) ≡ false
    → is_blank (slice_index (trimmed_end text) 0) ≡ false
start_stays [] e = e
start_stays (b ∷ bs) e =
    subst (λ (text : List ℕ). is_blank (slice_index text 0) ≡ false)
    (sym (ap (λ blank. cond (blank && list_all is_blank bs) [] (b ∷ trimmed_end bs)) e)) e

abbrev ends_blank : List ℕ → Bool
ends_blank [] = false
ends_blank (b ∷ []) = is_blank b
ends_blank (b ∷ (c ∷ cs)) = ends_blank (c ∷ cs)

one_less : (n : ℕ) → suc n - 1 ≡ n
one_less n = omega arith

last_is : (text : List ℕ) → is_blank (slice_index text (length text - 1)) ≡ ends_blank text
last_is [] = refl
last_is (b ∷ []) = refl
last_is (b ∷ (c ∷ cs)) =
    ap (λ n. is_blank (slice_index (b ∷ (c ∷ cs)) n)) (one_less (suc (length cs)))
    ∙ ap (λ n. is_blank (slice_index (c ∷ cs) n)) (sym (one_less (length cs)))
    ∙ last_is (c ∷ cs)

nothing_by : (b : ℕ) (blank all : Bool) (more : List ℕ)
    → ◌≡◌ {A = List ℕ} (cond (blank && all) [] (b ∷ more)) [] → (blank && all) ≡ true
nothing_by b true true more e = refl
nothing_by b true false more e = absurd cc
nothing_by b false all more e = absurd cc

nothing_left : (text : List ℕ) → trimmed_end text ≡ [] → list_all is_blank text ≡ true
nothing_left [] e = refl
nothing_left (b ∷ bs) e = nothing_by b (is_blank b) (list_all is_blank bs) (trimmed_end bs) e

end_by : (b : ℕ) (blank all : Bool) (more : List ℕ) → is_blank b ≡ blank
    → (more ≡ [] → all ≡ true) → ends_blank more ≡ false
    → ends_blank (cond (blank && all) [] (b ∷ more)) ≡ false
end_by b true true more e none last = refl
end_by b true false [] e none last = let f : false ≡ true = none refl in absurd cc
end_by b true false (c ∷ cs) e none last = last
end_by b false all [] e none last = e
end_by b false all (c ∷ cs) e none last = last

ends_full : (text : List ℕ) → ends_blank (trimmed_end text) ≡ false
ends_full [] = refl
ends_full (b ∷ bs) =
    end_by b (is_blank b) (list_all is_blank bs) (trimmed_end bs) refl (nothing_left bs)
    (ends_full bs)

trimmed_full : (text : List ℕ) → full_ends (trimmed text) ≡ true
trimmed_full text =
    and_from (not (is_blank (slice_index (trimmed text) 0)))
    (not (is_blank (slice_index (trimmed text) (length (trimmed text) - 1))))
    (ap not (start_stays (trimmed_start text) (starts_full text)))
    (ap not (last_is (trimmed text) ∙ ends_full (trimmed_start text)))

full_kept : (text : List ℕ) → full_ends text ≡ true → trimmed text ≡ text
full_kept [] full = refl
full_kept (b ∷ bs) full =
    let ends = and_parts (not (is_blank b))
    (not (is_blank (slice_index (b ∷ bs) (length (b ∷ bs) - 1)))) full in
    ap trimmed_end (start_kept b bs (not-true (is_blank b) ends.0))
    ∙ other_last (b ∷ bs) (omega arith)
    (not-true (is_blank (slice_index (b ∷ bs) (length (b ∷ bs) - 1))) ends.1)
  where
    start_kept : (c : ℕ) (cs : List ℕ) → is_blank c ≡ false → trimmed_start (c ∷ cs) ≡ c ∷ cs
    start_kept c cs e = rw e refl

-- ---- a text without blank ends

pub trims_to_itself : (text : List ℕ) → has_no_blank_ends text ≡ true → trimmed text ≡ text
trims_to_itself text is = (bytes_eq-Decides (trimmed text) text).0 is

pub has_full_ends : (text : List ℕ) → has_no_blank_ends text ≡ true → full_ends text ≡ true
has_full_ends text is =
    subst (λ (t : List ℕ). full_ends t ≡ true) (trims_to_itself text is) (trimmed_full text)

pub full_has_none : (text : List ℕ) → full_ends text ≡ true → has_no_blank_ends text ≡ true
full_has_none text full = (bytes_eq-Decides (trimmed text) text).1 (full_kept text full)

pub trimmed_has_none : (text : List ℕ) → has_no_blank_ends (trimmed text) ≡ true
trimmed_has_none text = full_has_none (trimmed text) (trimmed_full text)

-- such a text doesn't begin or end with a blank
pub ends_kept : (b : ℕ) (bs : List ℕ) → has_no_blank_ends (b ∷ bs) ≡ true
    → (is_blank b ≡ false) × (trimmed_end (b ∷ bs) ≡ b ∷ bs)
ends_kept b bs is =
    let ends = and_parts (not (is_blank b))
    (not (is_blank (slice_index (b ∷ bs) (length (b ∷ bs) - 1)))) (has_full_ends (b ∷ bs) is) in (
      not-true (is_blank b) ends.0,
      other_last (b ∷ bs) (omega arith)
          (not-true (is_blank (slice_index (b ∷ bs) (length (b ∷ bs) - 1))) ends.1),
    )

pub ends_agree : (text : List ℕ) → full_ends text ≡ has_no_blank_ends text
ends_agree text =
    one_truth (full_ends text) (has_no_blank_ends text) (full_has_none text) (has_full_ends text)

-- ---- a test of the first byte and then of the last

pub first_decides : (text : List ℕ) (first : Bool) → first ≡ is_blank (slice_index text 0)
    → first ≡ true → not first ≡ has_no_blank_ends text
first_decides text first is blank =
    let at_start : full_ends text ≡ false = rw (sym is ∙ blank) refl in
    ap not blank ∙ sym at_start ∙ ends_agree text

pub last_decides : (text : List ℕ) (first last : Bool) → first ≡ is_blank (slice_index text 0)
    → first ≡ false → last ≡ is_blank (slice_index text (length text - 1))
    → not last ≡ has_no_blank_ends text
last_decides text first last is full at_end =
    let ends : full_ends text ≡ not (is_blank (slice_index text (length text - 1))) =
    rw (sym is ∙ full) refl in
    ap not at_end ∙ sym ends ∙ ends_agree text
