-- The first of several values, and the lists that begin with it.
use Rattle.std.proofs.Common.{◌≡◌, ◌<◌, ℕ, Bool, true, false, cond, eqb, List, [], ◌∷◌, ◌++◌, length, Option, Some, None, refl, sym, ap, subst, ◌∙◌, length-append, arith}
use Rattle.std.specs.Prelude.{option_and_then}
use Rattle.std.specs.Option.{option_map}
use Rattle.std.proofs.lemmas.Bool.{eqb-true}
use Rattle.std.proofs.lemmas.Option.{none-some, same_Some}
use Rattle.sip_text.specs.Forms.{both, by_cut, split, told}
use Rattle.sip_text.specs.Separator.{cut_from, separates}
use Rattle.sip_text.specs.declared.separator.Separator.{Separator}
use Rattle.sip_text.specs.declared.separator.Place.TheVariants.{Plain}
use Rattle.sip_text.proofs.Loops.{onto, piece_fails, piece_read, last_fails, last_read}
use Rattle.sip_text.proofs.Separators.{cut_takes}
use Rattle.sip_grammar.specs.Steps.First.{behind, ends, first, goes_on}
use Rattle.sip_grammar.proofs.Passing.{Passes, cut_here, none_here}

-- ---- no separator counts before it

pub first_ends : {X : Type 0} (at : Separator) (f : List ℕ → Option X) (text : List ℕ) (x : X)
    → Passes at text → f text ≡ Some x → first at f text ≡ Some (x, None)
first_ends at f text x passes is = rw (none_here at text passes, is) refl

pub first_goes_on : {X : Type 0} (at : Separator) (f : List ℕ → Option X) (front : List ℕ)
    (byte : ℕ) (after : List ℕ) (x : X) → Passes at front → separates at byte ≡ true
    → f front ≡ Some x → first at f (front ++ (byte ∷ after)) ≡ Some (x, Some after)
first_goes_on at f front byte after x passes separates is =
    rw (cut_here at front byte after passes separates, is) refl

-- ---- a list, read value by value

abbrev after_first : {X : Type 0} → Separator → (List ℕ → Option X) → List X
    → Option (X × Option (List ℕ)) → Option (List X)
after_first at f front None = None
after_first at f front (Some (x, None)) = Some (front ++ x ∷ [])
after_first at f front (Some (x, Some after)) = onto (front ++ x ∷ []) (split at f after)

abbrev with_after : {X : Type 0} → List ℕ → Option X → Option (X × Option (List ℕ))
with_after after o = option_and_then (λ x. option_and_then (λ y. Some (x, y)) (goes_on after)) o

by_piece : {X : Type 0} (at : Separator) (f : List ℕ → Option X) (front : List X)
    (rest piece after : List ℕ) → cut_from at Plain rest ≡ Some (piece, after) → (o : Option X)
    → f piece ≡ o → onto front (split at f rest) ≡ after_first at f front (with_after after o)
by_piece at f front rest piece after cut None is =
    sym (piece_fails at f front rest piece after _ cut is refl)
by_piece at f front rest piece after cut (Some x) is =
    sym (piece_read at f front rest piece after x _ cut is refl)

by_last : {X : Type 0} (at : Separator) (f : List ℕ → Option X) (front : List X) (rest : List ℕ)
    → cut_from at Plain rest ≡ None → (o : Option X) → f rest ≡ o
    → onto front (split at f rest) ≡ after_first at f front (option_map ends o)
by_last at f front rest cut None is = sym (last_fails at f front rest _ cut is refl)
by_last at f front rest cut (Some x) is = sym (last_read at f front rest x _ cut is refl)

pub list_by_first : {X : Type 0} (at : Separator) (f : List ℕ → Option X) (front : List X)
    (rest : List ℕ) → onto front (split at f rest) ≡ after_first at f front (first at f rest)
list_by_first at f front rest = by (cut_from at Plain rest) refl
  where
    by : (o : Option (List ℕ × List ℕ)) → cut_from at Plain rest ≡ o → onto front (split at f rest)
        ≡ after_first at f front (by_cut o (both f goes_on) (told ends f rest))
    by None cut = by_last at f front rest cut (f rest) refl
    by (Some parts) cut = by_piece at f front rest parts.0 parts.1 cut (f parts.0) refl

-- ---- the three ways in which a loop goes on

pub first_fails : {X : Type 0} (at : Separator) (f : List ℕ → Option X) (front : List X)
    (rest : List ℕ) (total : Option (List X)) → first at f rest ≡ None
    → onto front (split at f rest) ≡ total → None ≡ total
first_fails at f front rest total is so_far =
    sym (ap (after_first at f front) is) ∙ sym (list_by_first at f front rest) ∙ so_far

pub first_is_last : {X : Type 0} (at : Separator) (f : List ℕ → Option X) (front : List X)
    (rest : List ℕ) (x : X) (total : Option (List X)) → first at f rest ≡ Some (x, None)
    → onto front (split at f rest) ≡ total → Some (front ++ x ∷ []) ≡ total
first_is_last at f front rest x total is so_far =
    sym (ap (after_first at f front) is) ∙ sym (list_by_first at f front rest) ∙ so_far

pub first_is_read : {X : Type 0} (at : Separator) (f : List ℕ → Option X) (front : List X)
    (rest after : List ℕ) (x : X) (total : Option (List X))
    → first at f rest ≡ Some (x, Some after) → onto front (split at f rest) ≡ total
    → onto (front ++ x ∷ []) (split at f after) ≡ total
first_is_read at f front rest after x total is so_far =
    sym (ap (after_first at f front) is) ∙ sym (list_by_first at f front rest) ∙ so_far

-- ---- a value made of the first one

abbrev pub told_first : {X Y : Type 0} → (X → Y) → X × Option (List ℕ) → Y × Option (List ℕ)
told_first to found = (to found.0, found.1)

told_after : {X Y : Type 0} (to : X → Y) (after : List ℕ) (o : Option X)
    → with_after after (option_map to o) ≡ option_map (told_first to) (with_after after o)
told_after to after None = refl
told_after to after (Some x) = refl

told_last : {X Y : Type 0} (to : X → Y) (o : Option X)
    → option_map (ends {A = List ℕ}) (option_map to o)
    ≡ option_map (told_first to) (option_map ends o)
told_last to None = refl
told_last to (Some x) = refl

pub first_told : {X Y : Type 0} (at : Separator) (to : X → Y) (f : List ℕ → Option X)
    (text : List ℕ) → first at (told to f) text ≡ option_map (told_first to) (first at f text)
first_told at to f text = by (cut_from at Plain text)
  where
    by : (o : Option (List ℕ × List ℕ)) → by_cut o (both (told to f) goes_on)
        (told ends (told to f) text)
        ≡ option_map (told_first to) (by_cut o (both f goes_on) (told ends f text))
    by None = told_last to (f text)
    by (Some parts) = told_after to parts.1 (f parts.0)

-- ---- what follows is shorter

shorter_by : {X : Type 0} (at : Separator) (text piece after : List ℕ)
    → cut_from at Plain text ≡ Some (piece, after) → (o : Option X) (x : X) (rest : List ℕ)
    → with_after after o ≡ Some (x, Some rest) → length rest < length text
shorter_by at text piece after cut None x rest e = absurd cc
shorter_by {X = X} at text piece after cut (Some y) x rest e =
    let same : after ≡ rest = same_Some after rest
    (ap (λ (p : X × Option (List ℕ)). p.1) (same_Some (y, Some after) (x, Some rest) e)) in
    let parts = (cut_takes at Plain text (piece, after) cut).together in
    omega (arith, ap (λ (t : List ℕ). length t) same, simp (length-append) at (ap length parts))

not_ended : {X : Type 0} (o : Option X) (x : X) (rest : List ℕ)
    → option_map ends o ≡ Some (x, Some rest) → ⊥
not_ended None x rest e = absurd (none-some (x, Some rest) e)
not_ended {X = X} (Some y) x rest e = absurd (none-some rest
    (ap (λ (p : X × Option (List ℕ)). p.1) (same_Some (y, None) (x, Some rest) e)))

pub first_shorter : {X : Type 0} (at : Separator) (f : List ℕ → Option X) (text : List ℕ) (x : X)
    (rest : List ℕ) → first at f text ≡ Some (x, Some rest) → length rest < length text
first_shorter at f text x rest e = by (cut_from at Plain text) refl e
  where
    by : (o : Option (List ℕ × List ℕ)) → cut_from at Plain text ≡ o
        → by_cut o (both f goes_on) (told ends f text) ≡ Some (x, Some rest)
        → length rest < length text
    by None cut e = absurd (not_ended (f text) x rest e)
    by (Some parts) cut e =
        shorter_by at text parts.0 parts.1 cut (f parts.0) x rest e

-- ---- by what follows it

pub follows : (P : List ℕ → Option (List ℕ) → Type 0) (rest : List ℕ)
    (next : Option (List ℕ)) → behind 59 rest ≡ Some next → P [] None
    → ((after : List ℕ) → P (59 ∷ after) (Some after)) → P rest next
follows P [] next e ended goes_on =
    subst (P []) (same_Some None next e) ended
follows P (b ∷ bs) next e ended goes_on = by (eqb b 59) refl e
  where
    by : (r : Bool) → eqb b 59 ≡ r → cond r (Some (Some bs)) None ≡ Some next → P (b ∷ bs) next
    by true is e =
        subst (λ (c : ℕ). P (c ∷ bs) next) (sym (eqb-true b 59 is))
        (subst (P (59 ∷ bs)) (same_Some (Some bs) next e) (goes_on bs))
    by false is e = absurd (none-some next e)
