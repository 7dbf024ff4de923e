-- A text without quotes ends outside of quotes.
use Rattle.std.proofs.Common.{◌≡◌, ℕ, suc, Bool, true, false, eqb, List, [], ◌∷◌, length, get_or, refl, arith}
use Rattle.std.specs.Prelude.{fold, Option, None, Some, is_some}
use Rattle.std.proofs.lemmas.Bool.{false_from_ne_true}
use Rattle.memchr.specs.Find.{IsFirstByte, Nowhere, is_byte}
use Rattle.sip_text.specs.OpenQuote.{is_in_quotes, has_open_quote}
use Rattle.sip_text.specs.Separator.{after}
use Rattle.sip_text.specs.declared.separator.Place.{Place}
use Rattle.sip_text.specs.declared.separator.Place.TheVariants.{Plain, Quoted, Escaped, Bracketed}

by_bool : {G : Type 0} (b : Bool) → (b ≡ true → G) → (b ≡ false → G) → G
by_bool true t f = t refl
by_bool false t f = f refl

outside : (place : Place) (b : ℕ) → is_in_quotes place ≡ false → eqb b 34 ≡ false
    → is_in_quotes (after place b) ≡ false
outside Plain b out other =
    by_bool (eqb b 60) (λ opens. rw (other, opens) refl) (λ no. rw (other, no) refl)
outside Quoted b out other = absurd cc
outside Escaped b out other = absurd cc
outside Bracketed b out other =
    by_bool (eqb b 62) (λ closes. rw closes refl) (λ no. rw no refl)

stays_outside : (place : Place) (text : List ℕ) → is_in_quotes place ≡ false
    → Nowhere (λ k. eqb (get_or text k 0) 34 ≡ true) 0 (length text)
    → is_in_quotes (fold after place text) ≡ false
stays_outside place [] out none = out
stays_outside place (b ∷ bs) out none =
    stays_outside (after place b) bs
    (outside place b out (false_from_ne_true _ (none 0 (omega arith) (omega arith))))
    (λ k low high. none (suc k) (omega arith) (omega arith))

none_open : (text : List ℕ) → Nowhere (λ k. eqb (get_or text k 0) 34 ≡ true) 0 (length text)
    → has_open_quote text ≡ false
unfolding has_open_quote
none_open text none = stays_outside Plain text refl none

-- a search for a quote finds none
pub no_quote : (text : List ℕ) (found : Option ℕ) → is_some found ≡ false
    → IsFirstByte (is_byte 34) text found → has_open_quote text ≡ false
no_quote text None none first = none_open text first
no_quote text (Some k) none first = absurd cc
