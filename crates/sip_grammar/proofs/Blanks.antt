-- White space at the ends of a text.
use Rattle.std.proofs.Common.{◌≡◌, ℕ, Bool, true, false, cond, not, ◌&&◌, List, [], ◌∷◌, ◌++◌, refl, ap, subst, ◌∙◌}
use Rattle.std.specs.List.{list_all}
use Rattle.std.proofs.lemmas.Bool.{and_parts, and_from, and_left, not-true}
use Rattle.sip_text.specs.Character.{is_blank}
use Rattle.sip_text.specs.Token.{is_run}
use Rattle.sip_text.specs.Trimmed.{trimmed, trimmed_start, trimmed_end}
use Rattle.sip_grammar.specs.HeaderValue.{has_no_blank_ends}
use Rattle.sip_grammar.proofs.BlankEnds.{ends_kept, trimmed_has_none}

-- ---- at the start

pub record HasGap (text rest : List ℕ) : Type 0 where
  pub gap : List ℕ
  pub parts : text ≡ gap ++ rest
  pub gap_is : list_all is_blank gap ≡ true

start_step : (b : ℕ) (bs : List ℕ) (r : Bool) → is_blank b ≡ r → HasGap bs (trimmed_start bs)
    → HasGap (b ∷ bs) (cond r (trimmed_start bs) (b ∷ bs))
start_step b bs true blank more =
    record {
      gap = b ∷ more.gap;
      parts = ap (λ (xs : List ℕ). b ∷ xs) more.parts;
      gap_is = and_from _ _ blank more.gap_is;
    }
start_step b bs false blank more = record { gap = []; parts = refl; gap_is = refl }

pub start_gap : (text : List ℕ) → HasGap text (trimmed_start text)
start_gap [] = record { gap = []; parts = refl; gap_is = refl }
start_gap (b ∷ bs) = start_step b bs (is_blank b) refl (start_gap bs)

pub start_past : (gap rest : List ℕ) → list_all is_blank gap ≡ true
    → trimmed_start (gap ++ rest) ≡ trimmed_start rest
start_past [] rest blank = refl
start_past (b ∷ bs) rest blank =
    let both = and_parts (is_blank b) (list_all is_blank bs) blank in
    rw both.0 (start_past bs rest both.1)

-- a text that begins with another byte
pub starts_full : (b : ℕ) (bs : List ℕ) → is_blank b ≡ false → trimmed_start (b ∷ bs) ≡ b ∷ bs
starts_full b bs full = rw full refl

-- ---- at the end

pub record EndsInGap (text front : List ℕ) : Type 0 where
  pub gap : List ℕ
  pub parts : text ≡ front ++ gap
  pub gap_is : list_all is_blank gap ≡ true

end_step : (b : ℕ) (bs : List ℕ) (r : Bool) → (is_blank b && list_all is_blank bs) ≡ r
    → EndsInGap bs (trimmed_end bs) → EndsInGap (b ∷ bs) (cond r [] (b ∷ trimmed_end bs))
end_step b bs true blank more = record { gap = b ∷ bs; parts = refl; gap_is = blank }
end_step b bs false blank more =
    record { gap = more.gap; parts = ap (λ (xs : List ℕ). b ∷ xs) more.parts; gap_is = more.gap_is }

pub end_gap : (text : List ℕ) → EndsInGap text (trimmed_end text)
end_gap [] = record { gap = []; parts = refl; gap_is = refl }
end_gap (b ∷ bs) = end_step b bs (is_blank b && list_all is_blank bs) refl (end_gap bs)

all_blank : (gap : List ℕ) → list_all is_blank gap ≡ true → trimmed_end gap ≡ []
all_blank [] blank = refl
all_blank (b ∷ bs) blank = rw blank refl

pub end_is : (front gap : List ℕ) → list_all (λ b. not (is_blank b)) front ≡ true
    → list_all is_blank gap ≡ true → trimmed_end (front ++ gap) ≡ front
end_is [] gap full blank = all_blank gap blank
end_is (c ∷ cs) gap full blank =
    let both = and_parts (not (is_blank c)) (list_all (λ b. not (is_blank b)) cs) full in
    let here : is_blank c ≡ false = not-true (is_blank c) both.0 in
    rw (and_left (is_blank c) (list_all is_blank (cs ++ gap)) here, end_is cs gap both.1 blank) refl

-- ---- a text whose end is no white space

abbrev pub End : List ℕ → Type 0
End text = trimmed_end text ≡ text

kept_start : (text : List ℕ) → has_no_blank_ends text ≡ true → trimmed_start text ≡ text
kept_start [] is = refl
kept_start (b ∷ bs) is = starts_full b bs (ends_kept b bs is).0

pub trimmed_starts : (text : List ℕ) → trimmed_start (trimmed text) ≡ trimmed text
trimmed_starts text = kept_start (trimmed text) (trimmed_has_none text)

kept_end : (text : List ℕ) → has_no_blank_ends text ≡ true → End text
kept_end [] is = refl
kept_end (b ∷ bs) is = (ends_kept b bs is).1

pub trimmed_stays : (text : List ℕ) → End (trimmed text)
trimmed_stays text = kept_end (trimmed text) (trimmed_has_none text)

tail_end : (b : ℕ) (xs ys : List ℕ) (r : Bool) → cond r [] (b ∷ xs) ≡ b ∷ ys → xs ≡ ys
tail_end b xs ys true e = absurd cc
tail_end b xs ys false e = cc

pub end_tail : (front rest : List ℕ) → End (front ++ rest) → End rest
end_tail [] rest e = e
end_tail (b ∷ bs) rest e =
    end_tail bs rest
    (tail_end b (trimmed_end (bs ++ rest)) (bs ++ rest)
    (is_blank b && list_all is_blank (bs ++ rest)) e)

-- one more byte in the middle
pub end_behind_byte : (front : List ℕ) (b : ℕ) (rest : List ℕ) → End (front ++ (b ∷ rest))
    → End rest
end_behind_byte front b rest e = end_tail (b ∷ []) rest (end_tail front (b ∷ rest) e)

pub start_stays : (text : List ℕ) → End text → End (trimmed_start text)
start_stays text e =
    let start = start_gap text in
    end_tail start.gap (trimmed_start text) (subst (λ (xs : List ℕ). End xs) start.parts e)

-- ---- more blanks

blanks_behind : (text gap : List ℕ) → list_all is_blank gap ≡ true
    → list_all is_blank (text ++ gap) ≡ list_all is_blank text
blanks_behind [] gap blank = blank
blanks_behind (b ∷ bs) gap blank = ap (λ r. is_blank b && r) (blanks_behind bs gap blank)

end_past : (text gap : List ℕ) → list_all is_blank gap ≡ true
    → trimmed_end (text ++ gap) ≡ trimmed_end text
end_past [] gap blank = all_blank gap blank
end_past (b ∷ bs) gap blank = rw (blanks_behind bs gap blank, end_past bs gap blank) refl

nothing_starts : (gap : List ℕ) → list_all is_blank gap ≡ true → trimmed_start gap ≡ []
nothing_starts [] blank = refl
nothing_starts (b ∷ bs) blank =
    let both = and_parts (is_blank b) (list_all is_blank bs) blank in
    rw both.0 (nothing_starts bs both.1)

trimmed_by : (b : ℕ) (bs gap : List ℕ) (r : Bool) → list_all is_blank gap ≡ true
    → trimmed (bs ++ gap) ≡ trimmed bs
    → trimmed_end (cond r (trimmed_start (bs ++ gap)) (b ∷ (bs ++ gap)))
    ≡ trimmed_end (cond r (trimmed_start bs) (b ∷ bs))
trimmed_by b bs gap true blank more = more
trimmed_by b bs gap false blank more = end_past (b ∷ bs) gap blank

pub trimmed_past : (text gap : List ℕ) → list_all is_blank gap ≡ true
    → trimmed (text ++ gap) ≡ trimmed text
trimmed_past [] gap blank = ap trimmed_end (nothing_starts gap blank)
trimmed_past (b ∷ bs) gap blank =
    trimmed_by b bs gap (is_blank b) blank (trimmed_past bs gap blank)

-- ---- blanks around a word

pub record Around (text word : List ℕ) : Type 0 where
  pub front : List ℕ
  pub back : List ℕ
  pub parts : text ≡ front ++ (word ++ back)
  pub front_is : list_all is_blank front ≡ true
  pub back_is : list_all is_blank back ≡ true

pub around : (text : List ℕ) → Around text (trimmed text)
around text =
    let start = start_gap text in
    let end = end_gap (trimmed_start text) in
    record {
      front = start.gap;
      back = end.gap;
      parts = start.parts ∙ ap (λ (xs : List ℕ). start.gap ++ xs) end.parts;
      front_is = start.gap_is;
      back_is = end.gap_is;
    }

pub around_trimmed : (front word back : List ℕ) → list_all is_blank front ≡ true
    → list_all is_blank back ≡ true → trimmed word ≡ word
    → trimmed (front ++ (word ++ back)) ≡ word
around_trimmed front word back front_is back_is kept =
    ap trimmed_end (start_past front (word ++ back) front_is)
    ∙ trimmed_past word back back_is ∙ kept

-- a text of other bytes, and what follows it
pub full_starts : (word rest : List ℕ) → is_run (λ b. not (is_blank b)) word ≡ true
    → trimmed_start (word ++ rest) ≡ word ++ rest
full_starts [] rest full = absurd cc
full_starts (b ∷ bs) rest full =
    starts_full b (bs ++ rest)
    (not-true (is_blank b)
    (and_parts (not (is_blank b)) (list_all (λ c. not (is_blank c)) bs) full).0)
