-- Where a text is cut at one byte, and marks with blanks around them.
use Rattle.std.proofs.Common.{◌≡◌, ℕ, Bool, true, false, cond, not, eqb, List, [], ◌∷◌, ◌++◌, Some, None, refl, sym, ap, subst, ◌∙◌, append_assoc}
use Rattle.std.specs.Prelude.{option_and_then}
use Rattle.std.specs.List.{list_all}
use Rattle.std.proofs.lemmas.Bool.{not-true}
use Rattle.sip_text.specs.Character.{is_blank}
use Rattle.sip_text.specs.Lines.{has_no}
use Rattle.sip_text.specs.Separator.{separates, step, next_place, place_after, IsCut}
use Rattle.sip_text.specs.Trimmed.{trimmed}
use Rattle.sip_text.specs.declared.separator.Separator.{Separator}
use Rattle.sip_text.specs.declared.separator.Separator.TheVariants.{Byte, Anywhere, Colon}
use Rattle.sip_text.specs.declared.separator.Place.{Place}
use Rattle.sip_text.specs.declared.separator.Place.TheVariants.{Plain, Quoted, Escaped, Bracketed}
use Rattle.sip_header_values.specs.ViaValue.{IsMark}
use Rattle.sip_grammar.proofs.Blanks.{Around, around, around_trimmed}
use Rattle.sip_grammar.proofs.Characters.{full_at}
use Rattle.sip_grammar.proofs.Cuts.{all_imply}
use Rattle.sip_grammar.proofs.Passing.{Passes, all_pass, anywhere_clear, both_pass, byte_clear, clear}
use Rattle.sip_grammar.proofs.Pieces.{by_bool}

-- ---- what cuts

pub stops_here : (at : Separator) (place : Place) (b : ℕ) → next_place at place b ≡ None
    → separates at b ≡ true
stops_here at Plain b e = by_class (separates at b) e
  where
    by_class : (r : Bool) → cond r None (Some (step at Plain b)) ≡ None → r ≡ true
    by_class true f = refl
    by_class false f = absurd cc
stops_here at Quoted b e = absurd cc
stops_here at Escaped b e = absurd cc
stops_here at Bracketed b e = absurd cc

-- the text is its parts, with this byte between them
pub cut_parts : (at : Separator) (c : ℕ) → ((b : ℕ) → separates at b ≡ true → b ≡ c)
    → (parts : List ℕ × List ℕ) (text : List ℕ) → IsCut at parts text
    → text ≡ parts.0 ++ (c ∷ parts.1)
cut_parts at c is parts text cut =
    cut.together ∙ ap (λ (b : ℕ). parts.0 ++ (b ∷ parts.1))
    (is cut.byte (stops_here at cut.last cut.byte cut.stops))

pub cut_at : (at : Separator) (front : List ℕ) (b : ℕ) (rest text : List ℕ)
    → text ≡ front ++ (b ∷ rest) → Passes at front → separates at b ≡ true
    → IsCut at (front, rest) text
cut_at at front b rest text parts passes is = record {
  byte = b;
  last = Plain;
  together = parts;
  none = passes;
  stops = ap (λ r. cond r None (Some (step at Plain b))) is;
}

-- a separator that counts anywhere doesn't come before the cut
pub none_before : (c : ℕ) (last : Place) (text : List ℕ)
    → place_after (Anywhere c) Plain text ≡ Some last → has_no c text ≡ true
none_before c last [] e = refl
none_before c last (b ∷ bs) e =
    by_bool (eqb b c) (λ r. option_and_then (λ p. place_after (Anywhere c) p bs)
    (cond r None (Some Plain)) ≡ Some last → list_all (λ x. not (eqb x c)) (b ∷ bs) ≡ true)
    (λ is f. absurd cc) (λ is f. rw is (none_before c last bs f)) e

pub none_passes : (c : ℕ) (text : List ℕ) → has_no c text ≡ true → Passes (Anywhere c) text
none_passes c text none =
    all_pass (Anywhere c) text (all_imply (λ b. not (eqb b c)) (clear (Anywhere c))
    (λ b p. rw (not-true (eqb b c) p) refl) text none)

-- ---- blanks around a text

abbrev pub BlanksClear : Separator → Type 0
BlanksClear at = (b : ℕ) → is_blank b ≡ true → clear at b ≡ true

pub slash_clear : BlanksClear (Byte 47)
slash_clear b e = byte_clear is_blank 47 refl refl refl b e

pub comma_clear : BlanksClear (Byte 44)
comma_clear b e = byte_clear is_blank 44 refl refl refl b e

pub parameter_clear : BlanksClear (Byte 59)
parameter_clear b e = byte_clear is_blank 59 refl refl refl b e

pub semicolon_clear : BlanksClear (Anywhere 59)
semicolon_clear b e = anywhere_clear is_blank 59 refl b e

pub colon_clear : BlanksClear Colon
colon_clear b e = rw (full_at is_blank b 58 refl e, full_at is_blank b 91 refl e) refl

pub blanks_pass : (at : Separator) → BlanksClear at → (gap : List ℕ) → list_all is_blank gap ≡ true
    → Passes at gap
blanks_pass at clears gap blank = all_pass at gap (all_imply is_blank (clear at) clears gap blank)

pub around_passes : (at : Separator) → BlanksClear at → (text : List ℕ) → Passes at (trimmed text)
    → Passes at text
around_passes at clears text passes =
    let word = around text in
    subst (λ (xs : List ℕ). Passes at xs) (sym word.parts)
    (both_pass at word.front (trimmed text ++ word.back)
    (blanks_pass at clears word.front word.front_is)
    (both_pass at (trimmed text) word.back passes
    (blanks_pass at clears word.back word.back_is)))

-- ---- marks, and what comes before and after them

pub mark_text : (mark : ℕ) (text : List ℕ) → IsMark mark text → Around text (mark ∷ [])
mark_text mark text is = subst (λ (xs : List ℕ). Around text xs) is (around text)

pub mark_is : (front : List ℕ) (mark : ℕ) (back : List ℕ) → list_all is_blank front ≡ true
    → list_all is_blank back ≡ true → trimmed (mark ∷ []) ≡ mark ∷ []
    → IsMark mark (front ++ (mark ∷ back))
mark_is front mark back front_is back_is kept =
    around_trimmed front (mark ∷ []) back front_is back_is kept

pub mark_passes : (at : Separator) → BlanksClear at → (mark : ℕ) → Passes at (mark ∷ [])
    → (text : List ℕ) → IsMark mark text → Passes at text
mark_passes at clears mark passes text is =
    around_passes at clears text (subst (λ (xs : List ℕ). Passes at xs) (sym is) passes)

-- the blanks before and after a mark are counted to the mark
pub mark_regroup : (front word back : List ℕ) (mark : ℕ) (gap rest : List ℕ)
    → (front ++ (word ++ back)) ++ (mark ∷ (gap ++ rest))
    ≡ front ++ (word ++ ((back ++ (mark ∷ gap)) ++ rest))
mark_regroup front word back mark gap rest =
    append_assoc front (word ++ back) (mark ∷ (gap ++ rest))
    ∙ ap (λ (xs : List ℕ). front ++ xs) (append_assoc word back (mark ∷ (gap ++ rest))
    ∙ ap (λ (xs : List ℕ). word ++ xs) (sym (append_assoc back (mark ∷ gap) rest)))
