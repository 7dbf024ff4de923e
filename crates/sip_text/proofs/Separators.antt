-- Cutting a text from left to right gives the cut that the definition says.
use Rattle.std.proofs.Common.{◌≡◌, ℕ, zero, suc, ◌+◌, ◌<◌, Bool, true, false, eqb, List, [], ◌∷◌, ◌++◌, length, take, drop, get_or, Option, Some, None, refl, sym, ap, subst, ◌∙◌, arith}
use Rattle.memchr.specs.Find.{Nowhere}
use Rattle.std.specs.Prelude.{option_and_then}
use Rattle.std.specs.Option.{option_map}
use Rattle.std.proofs.lemmas.Option.{same_Some}
use Rattle.std.proofs.lemmas.Bool.{or_parts, false_from_ne_true}
use Rattle.std.proofs.lemmas.List.{take_more, get_or-take, length-take-le}
use Rattle.sip_text.specs.Separator.{separates, opens, step, next_place, place_after, by_place, cut_from, IsCutFrom, IsWholeFrom}
use Rattle.sip_text.specs.declared.separator.Separator.{Separator}
use Rattle.sip_text.specs.declared.separator.Separator.TheVariants.{Byte, Anywhere, Blank, Colon}
use Rattle.sip_text.specs.declared.separator.Place.{Place}
use Rattle.sip_text.specs.declared.separator.Place.TheVariants.{Plain, Quoted, Escaped, Bracketed}

pub by_option : {A : Type 0} (o : Option A) (P : Option A → Type 0) → (o ≡ None → P None)
    → ((x : A) → o ≡ Some x → P (Some x)) → P o
by_option None P nothing some = nothing refl
by_option (Some x) P nothing some = some x refl

pub and_then_some : {A B : Type 0} (f : A → Option B) (o : Option A) (y : B)
    → option_and_then f o ≡ Some y → (x : A) × (o ≡ Some x) × (f x ≡ Some y)
and_then_some f None y e = absurd cc
and_then_some f (Some x) y e = (x, refl, e)

pub mapped : {A B : Type 0} (f : A → B) (o : Option A) (y : B) → option_map f o ≡ Some y
    → (x : A) × (o ≡ Some x) × (f x ≡ y)
mapped f None y e = absurd cc
mapped f (Some x) y e = (x, refl, same_Some _ _ e)

pub not_mapped : {A B : Type 0} (f : A → B) (o : Option A) → option_map f o ≡ None → o ≡ None
not_mapped f None e = refl
not_mapped f (Some x) e = absurd cc

-- ---- takes and again

by_next : (at : Separator) (b : ℕ) (bs : List ℕ) (place : Place) (parts : List ℕ × List ℕ)
    (next : Option Place) → next_place at place b ≡ next
    → ((p : Place) (q : List ℕ × List ℕ) → cut_from at p bs ≡ Some q → IsCutFrom at p q bs)
    → by_place b bs next (λ p. cut_from at p bs) ≡ Some parts → IsCutFrom at place parts (b ∷ bs)
by_next at b bs place parts None is more e =
    subst (λ (q : List ℕ × List ℕ). IsCutFrom at place q (b ∷ bs)) (same_Some _ _ e)
    (record { byte = b; last = place; together = refl; none = refl; stops = is })
by_next at b bs place parts (Some p) is more e =
    let m = mapped (λ (q : List ℕ × List ℕ). (b ∷ q.0, q.1)) (cut_from at p bs) parts e in
    let cut = more p m.0 m.1 in
    subst (λ (q : List ℕ × List ℕ). IsCutFrom at place q (b ∷ bs)) m.2 (record {
      byte = cut.byte;
      last = cut.last;
      together = ap (λ (xs : List ℕ). b ∷ xs) cut.together;
      none = ap (option_and_then (λ r. place_after at r m.0.0)) is ∙ cut.none;
      stops = cut.stops;
    })

pub cut_takes : (at : Separator) (place : Place) (text : List ℕ) (parts : List ℕ × List ℕ)
    → cut_from at place text ≡ Some parts → IsCutFrom at place parts text
cut_takes at place [] parts e = absurd cc
cut_takes at place (b ∷ bs) parts e =
    by_next at b bs place parts (next_place at place b) refl (λ p q f. cut_takes at p bs q f) e

cut_at_place : (at : Separator) (place last : Place) (front : List ℕ) (byte : ℕ) (rest : List ℕ)
    → place_after at place front ≡ Some last → next_place at last byte ≡ None
    → cut_from at place (front ++ (byte ∷ rest)) ≡ Some (front, rest)
cut_at_place at place last [] byte rest none stops =
    let here : next_place at place byte ≡ None =
    ap (λ p. next_place at p byte) (same_Some place last none) ∙ stops in
    ap (λ o. by_place byte rest o (λ p. cut_from at p rest)) here
cut_at_place at place last (b ∷ bs) byte rest none stops =
    let s = and_then_some (λ p. place_after at p bs) (next_place at place b) last none in
    let more = cut_at_place at s.0 last bs byte rest s.2 stops in
    ap (λ o. by_place b (bs ++ (byte ∷ rest)) o (λ p. cut_from at p (bs ++ (byte ∷ rest)))) s.1
    ∙ ap (option_map (λ (q : List ℕ × List ℕ). (b ∷ q.0, q.1))) more

pub cut_again : (at : Separator) (place : Place) (text : List ℕ) (parts : List ℕ × List ℕ)
    → IsCutFrom at place parts text → cut_from at place text ≡ Some parts
cut_again at place text parts cut =
    ap (cut_from at place) cut.together
    ∙ cut_at_place at place cut.last parts.0 cut.byte parts.1 cut.none cut.stops

whole_by : (at : Separator) (b : ℕ) (bs : List ℕ) (place : Place) (next : Option Place)
    → next_place at place b ≡ next → ((p : Place) → cut_from at p bs ≡ None → IsWholeFrom at p bs)
    → by_place b bs next (λ p. cut_from at p bs) ≡ None → IsWholeFrom at place (b ∷ bs)
whole_by at b bs place None is more e = absurd cc
whole_by at b bs place (Some p) is more e =
    let rest = more p (not_mapped _ _ e) in
    record {
      last = rest.last;
      none = ap (option_and_then (λ r. place_after at r bs)) is
          ∙ rest.none;
    }

pub whole_takes : (at : Separator) (place : Place) (text : List ℕ) → cut_from at place text ≡ None
    → IsWholeFrom at place text
whole_takes at place [] e = record { last = place; none = refl }
whole_takes at place (b ∷ bs) e =
    whole_by at b bs place (next_place at place b) refl (λ p f. whole_takes at p bs f) e

never : (at : Separator) (place last : Place) (text : List ℕ)
    → place_after at place text ≡ Some last → cut_from at place text ≡ None
never at place last [] none = refl
never at place last (b ∷ bs) none =
    let s = and_then_some (λ p. place_after at p bs) (next_place at place b) last none in
    ap (λ o. by_place b bs o (λ p. cut_from at p bs)) s.1
    ∙ ap (option_map (λ (q : List ℕ × List ℕ). (b ∷ q.0, q.1))) (never at s.0 last bs s.2)

pub whole_again : (at : Separator) (place : Place) (text : List ℕ) → IsWholeFrom at place text
    → cut_from at place text ≡ None
whole_again at place text whole = never at place whole.last text whole.none

-- ---- places in a text

pub place_append : (at : Separator) (place middle : Place) (front back : List ℕ)
    → place_after at place front ≡ Some middle
    → place_after at place (front ++ back) ≡ place_after at middle back
place_append at place middle [] back e = ap (λ p. place_after at p back) (same_Some place middle e)
place_append at place middle (b ∷ bs) back e =
    let s = and_then_some (λ p. place_after at p bs) (next_place at place b) middle e in
    ap (option_and_then (λ p. place_after at p (bs ++ back))) s.1
    ∙ place_append at s.0 middle bs back s.2

pub cut_at_index : (at : Separator) (place last : Place) (text : List ℕ) (k : ℕ) → k < length text
    → place_after at place (take k text) ≡ Some last → next_place at last (get_or text k 0) ≡ None
    → cut_from at place text ≡ Some (take k text, drop (suc k) text)
cut_at_index at place last [] k lt none stops = absurd (omega arith)
cut_at_index at place last (b ∷ bs) zero lt none stops =
    let here : next_place at place b ≡ None =
    ap (λ p. next_place at p b) (same_Some place last none) ∙ stops in
    ap (λ o. by_place b bs o (λ p. cut_from at p bs)) here
cut_at_index at place last (b ∷ bs) (suc k) lt none stops =
    let s = and_then_some (λ p. place_after at p (take k bs)) (next_place at place b) last none in
    let more = cut_at_index at s.0 last bs k (omega arith) s.2 stops in
    ap (λ o. by_place b bs o (λ p. cut_from at p bs)) s.1
    ∙ ap (option_map (λ (q : List ℕ × List ℕ). (b ∷ q.0, q.1))) more

-- ---- cutting without steps

quiet_step : (at : Separator) (b : ℕ) → separates at b ≡ false → opens at b ≡ false
    → next_place at Plain b ≡ Some Plain
quiet_step (Byte at) b s o =
    let parts = or_parts (eqb b 34) (eqb b 60) o in rw (s, parts.0, parts.1) refl
quiet_step (Anywhere at) b s o = rw s refl
quiet_step Blank b s o = rw s refl
quiet_step Colon b s o = rw (s, o) refl

-- if no byte separates or opens anything, the reader is still outside of quotes and brackets
pub quiet : (at : Separator) (text : List ℕ)
    → Nowhere (λ k. separates at (get_or text k 0) ≡ true) 0 (length text)
    → Nowhere (λ k. opens at (get_or text k 0) ≡ true) 0 (length text)
    → place_after at Plain text ≡ Some Plain
quiet at [] s o = refl
quiet at (b ∷ bs) s o =
    let here = quiet_step at b (false_from_ne_true _ (s 0 (omega arith) (omega arith)))
    (false_from_ne_true _ (o 0 (omega arith) (omega arith))) in
    ap (option_and_then (λ p. place_after at p bs)) here
    ∙ quiet at bs (λ k low high. s (suc k) (omega arith) (omega arith))
    (λ k low high. o (suc k) (omega arith) (omega arith))

-- a byte that doesn't separate doesn't cut
at_rest : (at : Separator) (place : Place) (b : ℕ) → separates at b ≡ false
    → (next : Place) × (next_place at place b ≡ Some next)
at_rest at Plain b s = (step at Plain b, rw s refl)
at_rest at Quoted b s = (step at Quoted b, refl)
at_rest at Escaped b s = (step at Escaped b, refl)
at_rest at Bracketed b s = (step at Bracketed b, refl)

pub nothing_separates : (at : Separator) (place : Place) (text : List ℕ)
    → Nowhere (λ k. separates at (get_or text k 0) ≡ true) 0 (length text)
    → cut_from at place text ≡ None
nothing_separates at place [] s = refl
nothing_separates at place (b ∷ bs) s =
    let here = at_rest at place b (false_from_ne_true _ (s 0 (omega arith) (omega arith))) in
    ap (λ o. by_place b bs o (λ p. cut_from at p bs)) here.1
    ∙ ap (option_map (λ (q : List ℕ × List ℕ). (b ∷ q.0, q.1)))
    (nothing_separates at here.0 bs (λ k low high. s (suc k) (omega arith) (omega arith)))

-- one more byte
pub place_more : (at : Separator) (place next : Place) (text : List ℕ) (i : ℕ) → i < length text
    → place_after at Plain (take i text) ≡ Some place
    → next_place at place (get_or text i 0) ≡ Some next
    → place_after at Plain (take (i + 1) text) ≡ Some next
place_more at place next text i lt so_far e =
    ap (place_after at Plain) (take_more text i 0 lt)
    ∙ place_append at Plain place (take i text) (get_or text i 0 ∷ []) so_far
    ∙ ap (option_and_then (λ p. Some p)) e

in_front : (P : ℕ → Bool) (text : List ℕ) (k i : ℕ) → i < k
    → P (get_or (take k text) i 0) ≡ P (get_or text i 0)
in_front P text k i lt = ap P (get_or-take k text i 0 lt)

-- the first byte that may separate does, if nothing was opened before it
pub cut_at_first : (at : Separator) (text : List ℕ) (k : ℕ) → k < length text
    → Nowhere (λ i. separates at (get_or text i 0) ≡ true) 0 k
    → separates at (get_or text k 0) ≡ true
    → Nowhere (λ i. opens at (get_or (take k text) i 0) ≡ true) 0 (length (take k text))
    → cut_from at Plain text ≡ Some (take k text, drop (suc k) text)
cut_at_first at text k lt before here closed =
    let size : length (take k text) ≡ k = length-take-le k text (omega arith) in
    let plain = quiet at (take k text)
    (λ i low high e. before i low (omega (arith, size))
    (sym (in_front (separates at) text k i (omega (arith, size))) ∙ e)) closed in
    let stops : next_place at Plain (get_or text k 0) ≡ None = rw here refl in
    cut_at_index at Plain Plain text k lt plain stops
