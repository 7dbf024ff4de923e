-- Texts in which no separator counts.
use Rattle.std.proofs.Common.{◌≡◌, ℕ, Bool, true, false, cond, not, eqb, ◌||◌, List, [], ◌∷◌, ◌++◌, Some, None, refl, sym, ap, subst, ◌∙◌}
use Rattle.std.specs.Prelude.{option_and_then}
use Rattle.std.specs.List.{list_all}
use Rattle.std.proofs.lemmas.Bool.{and_parts, and_from, or_parts, not-true, eqb-true}
use Rattle.sip_text.specs.Character.{is_line_byte, is_token_byte}
use Rattle.sip_text.specs.Quoted.{ends_in_quote, is_nothing, is_quoted}
use Rattle.sip_text.specs.Separator.{separates, opens, step, next_place, place_after, cut_from}
use Rattle.sip_text.specs.Token.{is_token}
use Rattle.sip_text.specs.Parameter.{is_value_byte, is_value_word, is_parameter_value}
use Rattle.sip_text.specs.declared.separator.Separator.{Separator}
use Rattle.sip_text.specs.declared.separator.Separator.TheVariants.{Byte, Anywhere, Blank, Colon}
use Rattle.sip_text.specs.declared.separator.Place.{Place}
use Rattle.sip_text.specs.declared.separator.Place.TheVariants.{Plain, Quoted, Escaped}
use Rattle.sip_text.proofs.QuotedStrings.{nothing_more}
use Rattle.sip_text.proofs.Separators.{cut_again, whole_again, and_then_some}
use Rattle.sip_grammar.proofs.Characters.{full_at, token_bytes}
use Rattle.sip_grammar.proofs.Cuts.{all_imply, run_all}
use Rattle.sip_grammar.proofs.Pieces.{by_bool}

abbrev pub Passes : Separator → List ℕ → Type 0
Passes at text = place_after at Plain text ≡ Some Plain

-- neither the separator nor a byte that hides it
abbrev pub clear : Separator → ℕ → Bool
clear at b = not (separates at b || opens at b)

step_clear : (at : Separator) (b : ℕ) → opens at b ≡ false → step at Plain b ≡ Plain
step_clear (Byte c) b e =
    let both = or_parts (eqb b 34) (eqb b 60) e in
    rw (both.0, both.1) refl
step_clear (Anywhere c) b e = refl
step_clear Blank b e = refl
step_clear Colon b e = rw e refl

pub byte_passes : (at : Separator) (b : ℕ) → clear at b ≡ true → next_place at Plain b ≡ Some Plain
byte_passes at b e =
    let both = or_parts (separates at b) (opens at b) (not-true (separates at b || opens at b) e) in
    ap (λ r. cond r None (Some (step at Plain b))) both.0
    ∙ ap (λ (p : Place). Some p) (step_clear at b both.1)

pub all_pass : (at : Separator) (text : List ℕ) → list_all (clear at) text ≡ true → Passes at text
all_pass at [] all = refl
all_pass at (b ∷ bs) all =
    let both = and_parts (clear at b) (list_all (clear at) bs) all in
    ap (option_and_then (λ p. place_after at p bs)) (byte_passes at b both.0)
    ∙ all_pass at bs both.1

pub place_append : (at : Separator) (p q r : Place) (xs ys : List ℕ) → place_after at p xs ≡ Some q
    → place_after at q ys ≡ Some r → place_after at p (xs ++ ys) ≡ Some r
place_append at p q r [] ys e f =
    let same : p ≡ q = cc in
    subst (λ (x : Place). place_after at x ys ≡ Some r) (sym same) f
place_append at p q r (b ∷ bs) ys e f =
    let m = and_then_some (λ x. place_after at x bs) (next_place at p b) q e in
    ap (option_and_then (λ x. place_after at x (bs ++ ys))) m.1
    ∙ place_append at m.0 q r bs ys m.2 f

pub both_pass : (at : Separator) (xs ys : List ℕ) → Passes at xs → Passes at ys
    → Passes at (xs ++ ys)
both_pass at xs ys e f = place_append at Plain Plain Plain xs ys e f

-- ---- cuts

pub cut_here : (at : Separator) (front : List ℕ) (byte : ℕ) (rest : List ℕ) → Passes at front
    → separates at byte ≡ true → cut_from at Plain (front ++ (byte ∷ rest)) ≡ Some (front, rest)
cut_here at front byte rest passes is =
    cut_again at Plain (front ++ (byte ∷ rest)) (front, rest)
    (record {
      byte = byte;
      last = Plain;
      together = refl;
      none = passes;
      stops = ap (λ r. cond r None (Some (step at Plain byte))) is;
    })

pub none_here : (at : Separator) (text : List ℕ) → Passes at text → cut_from at Plain text ≡ None
none_here at text passes = whole_again at Plain text (record { last = Plain; none = passes })

-- ---- classes of bytes

pub byte_clear : (test : ℕ → Bool) (c : ℕ) → test c ≡ false → test 34 ≡ false → test 60 ≡ false
    → (b : ℕ) → test b ≡ true → clear (Byte c) b ≡ true
byte_clear test c own quote bracket b passes =
    rw (
      full_at test b c own passes,
      full_at test b 34 quote passes,
      full_at test b 60 bracket passes,
    ) refl

pub class_passes : (test : ℕ → Bool) (c : ℕ) → test c ≡ false → test 34 ≡ false → test 60 ≡ false
    → (text : List ℕ) → list_all test text ≡ true → Passes (Byte c) text
class_passes test c own quote bracket text all =
    all_pass (Byte c) text (all_imply test (clear (Byte c))
    (byte_clear test c own quote bracket) text all)

-- the same for a byte that separates wherever it occurs
pub anywhere_clear : (test : ℕ → Bool) (c : ℕ) → test c ≡ false → (b : ℕ) → test b ≡ true
    → clear (Anywhere c) b ≡ true
anywhere_clear test c own b passes = rw (full_at test b c own passes) refl

pub class_passes_blank : (test : ℕ → Bool) → test 32 ≡ false → test 9 ≡ false → (text : List ℕ)
    → list_all test text ≡ true → Passes Blank text
class_passes_blank test space tab text all =
    all_pass Blank text (all_imply test (clear Blank)
    (λ b passes. rw (full_at test b 32 space passes, full_at test b 9 tab passes) refl) text
    all)

-- a byte that occurs neither in a token nor in a value, and is no quote
pub record Marks (c : ℕ) : Type 0 where
  pub token : is_token_byte c ≡ false
  pub value : is_value_byte c ≡ false
  pub quote : eqb 34 c ≡ false
  pub equals : eqb 61 c ≡ false

pub semicolon_marks : Marks 59
unfolding is_token_byte is_value_byte
semicolon_marks = record { token = refl; value = refl; quote = refl; equals = refl }

pub comma_marks : Marks 44
unfolding is_token_byte is_value_byte
comma_marks = record { token = refl; value = refl; quote = refl; equals = refl }

pub token_passes : (c : ℕ) → is_token_byte c ≡ false → (text : List ℕ) → is_token text ≡ true
    → Passes (Byte c) text
unfolding is_token_byte
token_passes c own text token =
    class_passes is_token_byte c own refl refl text (token_bytes text token)

pub token_passes_blank : (text : List ℕ) → is_token text ≡ true → Passes Blank text
unfolding is_token_byte
token_passes_blank text token =
    class_passes_blank is_token_byte refl refl text (token_bytes text token)

word_passes : (c : ℕ) → is_value_byte c ≡ false → (text : List ℕ) → is_value_word text ≡ true
    → Passes (Byte c) text
unfolding is_value_byte is_value_word
word_passes c own text word =
    class_passes is_value_byte c own refl refl text (run_all is_value_byte text word)

-- ---- quoted strings

abbrev inside : Bool → Place
inside escaped = cond escaped Escaped Quoted

not_both : (b : ℕ) → eqb b 92 ≡ true → eqb b 34 ≡ false
not_both b e = ap (λ (c : ℕ). eqb c 34) (eqb-true b 92 e)

record Ends (escaped : Bool) (b : ℕ) (bs : List ℕ) : Type 0 where
  pub plain : is_line_byte b ≡ false
  pub rest : cond escaped (ends_in_quote false bs)
      (cond (eqb b 92) (ends_in_quote true bs)
      (cond (eqb b 34) (is_nothing bs) (ends_in_quote false bs))) ≡ true

ends_by : (escaped : Bool) (b : ℕ) (bs : List ℕ) (r : Bool) → is_line_byte b ≡ r
    → cond r false (cond escaped (ends_in_quote false bs)
    (cond (eqb b 92) (ends_in_quote true bs)
    (cond (eqb b 34) (is_nothing bs) (ends_in_quote false bs)))) ≡ true → Ends escaped b bs
ends_by escaped b bs true is e = absurd cc
ends_by escaped b bs false is e = record { plain = is; rest = e }

quote_passes : (c : ℕ) (escaped : Bool) (text : List ℕ) → ends_in_quote escaped text ≡ true
    → place_after (Byte c) (inside escaped) text ≡ Some Plain
quote_passes c escaped [] e = absurd cc
quote_passes c true (b ∷ bs) e =
    let ends = ends_by true b bs (is_line_byte b) refl e in
    quote_passes c false bs ends.rest
quote_passes c false (b ∷ bs) e =
    by_byte (λ x f. quote_passes c x bs f) (eqb b 92) (eqb b 34) refl refl
    (ends_by false b bs (is_line_byte b) refl e).rest
  where
    by_byte : ((x : Bool) → ends_in_quote x bs ≡ true
        → place_after (Byte c) (inside x) bs ≡ Some Plain) → (x y : Bool) → eqb b 92 ≡ x
        → eqb b 34 ≡ y → cond x (ends_in_quote true bs)
        (cond y (is_nothing bs) (ends_in_quote false bs)) ≡ true
        → place_after (Byte c) Quoted (b ∷ bs) ≡ Some Plain
    by_byte more true y f g h = ap
        (λ r. place_after (Byte c) (cond r Plain (cond (eqb b 92) Escaped Quoted)) bs)
        (not_both b f) ∙ ap (λ r. place_after (Byte c) (cond r Escaped Quoted) bs) f ∙ more true h
    by_byte more false true f g h =
        ap (λ r. place_after (Byte c) (cond r Plain (cond (eqb b 92) Escaped Quoted)) bs) g
        ∙ ap (place_after (Byte c) Plain) (nothing_more bs h)
    by_byte more false false f g h =
        ap (λ r. place_after (Byte c) (cond r Plain (cond (eqb b 92) Escaped Quoted)) bs) g
        ∙ ap (λ r. place_after (Byte c) (cond r Escaped Quoted) bs) f ∙ more false h

begin_by : (b : ℕ) (bs : List ℕ) (r : Bool) → eqb b 34 ≡ r
    → cond r (ends_in_quote false bs) false ≡ true → (b ≡ 34) × (ends_in_quote false bs ≡ true)
begin_by b bs true is e = (eqb-true b 34 is, e)
begin_by b bs false is e = absurd cc

-- a quote, and what ends in a quote
pub quoted_begins : (text : List ℕ) → is_quoted text ≡ true
    → (bs : List ℕ) × (text ≡ 34 ∷ bs) × (ends_in_quote false bs ≡ true)
unfolding is_quoted
quoted_begins [] e = absurd cc
quoted_begins (b ∷ bs) e =
    let begins = begin_by b bs (eqb b 34) refl e in
    (bs, ap (λ (x : ℕ). x ∷ bs) begins.0, begins.1)

pub quoted_passes : (c : ℕ) → eqb 34 c ≡ false → (text : List ℕ) → is_quoted text ≡ true
    → Passes (Byte c) text
quoted_passes c other text is =
    let begins = quoted_begins text is in
    ap (place_after (Byte c) Plain) begins.1
    ∙ ap (λ r. option_and_then (λ p. place_after (Byte c) p begins.0) (cond r None (Some Quoted)))
    other
    ∙ quote_passes c false begins.0 begins.2

quote_ends : (escaped : Bool) (text : List ℕ) → ends_in_quote escaped text ≡ true
    → (front : List ℕ) × (text ≡ front ++ (34 ∷ []))
quote_ends escaped [] e = absurd cc
quote_ends true (b ∷ bs) e =
    let more = quote_ends false bs (ends_by true b bs (is_line_byte b) refl e).rest in
    (b ∷ more.0, ap (λ (xs : List ℕ). b ∷ xs) more.1)
quote_ends false (b ∷ bs) e =
    by_byte (λ x f. quote_ends x bs f) (eqb b 92) (eqb b 34) refl refl
    (ends_by false b bs (is_line_byte b) refl e).rest
  where
    by_byte : ((x : Bool) → ends_in_quote x bs ≡ true
        → (front : List ℕ) × (bs ≡ front ++ (34 ∷ []))) → (x y : Bool) → eqb b 92 ≡ x → eqb b 34 ≡ y
        → cond x (ends_in_quote true bs) (cond y (is_nothing bs) (ends_in_quote false bs)) ≡ true
        → (front : List ℕ) × (b ∷ bs ≡ front ++ (34 ∷ []))
    by_byte further true y f g h =
        let more = further true h in (b ∷ more.0, ap (λ (xs : List ℕ). b ∷ xs) more.1)
    by_byte further false true f g h = (
      [],
      ap (λ (c : ℕ). c ∷ bs) (eqb-true b 34 g)
          ∙ ap (λ (xs : List ℕ). 34 ∷ xs) (nothing_more bs h),
    )
    by_byte further false false f g h =
        let more = further false h in (b ∷ more.0, ap (λ (xs : List ℕ). b ∷ xs) more.1)

-- the last byte of a quoted string is a quote
pub quoted_ends : (text : List ℕ) → is_quoted text ≡ true
    → (front : List ℕ) × (text ≡ front ++ (34 ∷ []))
quoted_ends text is =
    let begins = quoted_begins text is in
    let more = quote_ends false begins.0 begins.2 in
    (34 ∷ more.0, begins.1 ∙ ap (λ (xs : List ℕ). 34 ∷ xs) more.1)

quote_plain : (escaped : Bool) (text : List ℕ) → ends_in_quote escaped text ≡ true
    → list_all (λ b. not (is_line_byte b)) text ≡ true
quote_plain escaped [] e = absurd cc
quote_plain true (b ∷ bs) e =
    let ends = ends_by true b bs (is_line_byte b) refl e in
    and_from _ _ (ap not ends.plain) (quote_plain false bs ends.rest)
quote_plain false (b ∷ bs) e =
    let ends = ends_by false b bs (is_line_byte b) refl e in
    and_from _ _ (ap not ends.plain)
    (by_byte (λ x f. quote_plain x bs f) (eqb b 92) (eqb b 34) ends.rest)
  where
    by_byte : ((x : Bool) → ends_in_quote x bs ≡ true
        → list_all (λ c. not (is_line_byte c)) bs ≡ true) → (x y : Bool)
        → cond x (ends_in_quote true bs) (cond y (is_nothing bs) (ends_in_quote false bs)) ≡ true
        → list_all (λ c. not (is_line_byte c)) bs ≡ true
    by_byte more true y h = more true h
    by_byte more false true h = ap (list_all (λ c. not (is_line_byte c))) (nothing_more bs h)
    by_byte more false false h = more false h

pub quoted_plain : (text : List ℕ) → is_quoted text ≡ true
    → list_all (λ b. not (is_line_byte b)) text ≡ true
quoted_plain text is =
    let begins = quoted_begins text is in
    ap (list_all (λ b. not (is_line_byte b))) begins.1 ∙ quote_plain false begins.0 begins.2

-- ---- parameter values

pub value_passes : (c : ℕ) → Marks c → (text : List ℕ) → is_parameter_value text ≡ true
    → Passes (Byte c) text
unfolding is_parameter_value
value_passes c marks text value =
    by_bool (is_quoted text) (λ r. is_quoted text ≡ r → (r || is_value_word text) ≡ true
    → Passes (Byte c) text)
    (λ t e f. quoted_passes c marks.quote text e)
    (λ t e f. word_passes c marks.value text f) refl value
