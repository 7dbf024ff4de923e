-- Whether a quoted string is open at the end of a text.
use Rattle.std.proofs.Common.{◌≡◌, ℕ, Bool, true, false, cond, eqb, List, [], ◌∷◌, ◌++◌, Some, None, refl, ap, ◌∙◌}
use Rattle.std.specs.Prelude.{fold}
use Rattle.std.specs.List.{list_all}
use Rattle.std.proofs.lemmas.Bool.{and_parts}
use Rattle.std.proofs.lemmas.List.Sums.{fold-append}
use Rattle.sip_text.specs.Character.{is_blank}
use Rattle.sip_text.specs.OpenQuote.{has_open_quote, is_in_quotes}
use Rattle.sip_text.specs.Separator.{after, next_place, place_after}
use Rattle.sip_text.specs.Trimmed.{trimmed, trimmed_start}
use Rattle.sip_text.specs.declared.separator.Separator.TheVariants.{Byte}
use Rattle.sip_text.specs.declared.separator.Place.{Place}
use Rattle.sip_text.specs.declared.separator.Place.TheVariants.{Plain, Quoted, Escaped, Bracketed}
use Rattle.sip_text.proofs.Separators.{and_then_some}
use Rattle.sip_grammar.proofs.Blanks.{start_gap, end_gap}
use Rattle.sip_grammar.proofs.Characters.{full_at}
use Rattle.sip_grammar.proofs.Passing.{Passes, class_passes}

-- a text without a separator outside quotes and brackets ends outside of these
pub place_is : (c : ℕ) (place last : Place) (text : List ℕ)
    → place_after (Byte c) place text ≡ Some last → fold after place text ≡ last
place_is c place last [] e = cc
place_is c place last (b ∷ bs) e =
    let m = and_then_some (λ p. place_after (Byte c) p bs) (next_place (Byte c) place b) last e in
    ap (λ p. fold after p bs) (stepped place m.0 m.1) ∙ place_is c m.0 last bs m.2
  where
    by_class : (r : Bool) (p q : Place) → cond r None (Some p) ≡ Some q → p ≡ q
    by_class true p q is = absurd cc
    by_class false p q is = cc

    stepped : (p q : Place) → next_place (Byte c) p b ≡ Some q → after p b ≡ q
    stepped Plain q is = by_class (eqb b c) (after Plain b) q is
    stepped Quoted q is = cc
    stepped Escaped q is = cc
    stepped Bracketed q is = cc

-- what follows such a text
pub open_behind : (c : ℕ) (front rest : List ℕ) → Passes (Byte c) front
    → has_open_quote (front ++ rest) ≡ has_open_quote rest
unfolding has_open_quote
open_behind c front rest passes =
    ap is_in_quotes (fold-append after Plain front rest
    ∙ ap (λ (p : Place). fold after p rest) (place_is c Plain Plain front passes))

-- ---- blanks open and close nothing

blank_keeps : (place : Place) (b : ℕ) → is_blank b ≡ true
    → is_in_quotes (after place b) ≡ is_in_quotes place
blank_keeps Plain b e = rw (full_at is_blank b 34 refl e, full_at is_blank b 60 refl e) refl
blank_keeps Quoted b e = rw (full_at is_blank b 34 refl e, full_at is_blank b 92 refl e) refl
blank_keeps Escaped b e = refl
blank_keeps Bracketed b e = rw (full_at is_blank b 62 refl e) refl

blanks_keep : (place : Place) (gap : List ℕ) → list_all is_blank gap ≡ true
    → is_in_quotes (fold after place gap) ≡ is_in_quotes place
blanks_keep place [] blank = refl
blanks_keep place (b ∷ bs) blank =
    let both = and_parts (is_blank b) (list_all is_blank bs) blank in
    blanks_keep (after place b) bs both.1 ∙ blank_keeps place b both.0

open_past : (text gap : List ℕ) → list_all is_blank gap ≡ true
    → has_open_quote (text ++ gap) ≡ has_open_quote text
unfolding has_open_quote
open_past text gap blank =
    ap is_in_quotes (fold-append after Plain text gap)
    ∙ blanks_keep (fold after Plain text) gap blank

pub open_trimmed : (text : List ℕ) → has_open_quote text ≡ has_open_quote (trimmed text)
open_trimmed text =
    let start = start_gap text in
    let end = end_gap (trimmed_start text) in
    ap has_open_quote start.parts
    ∙ open_behind 44 start.gap (trimmed_start text)
    (class_passes is_blank 44 refl refl refl start.gap start.gap_is)
    ∙ ap has_open_quote end.parts
    ∙ open_past (trimmed text) end.gap end.gap_is
