-- The ends of written texts, and what it means that a value is read as it was written.
use Rattle.std.proofs.Common.{◌≡◌, ℕ, Bool, true, false, cond, ◌&&◌, List, [], ◌∷◌, ◌++◌, Option, Some, None, refl, sym, ap, subst, ◌∙◌}
use Rattle.std.specs.Char.{is_ascii_digit}
use Rattle.std.specs.List.{list_all}
use Rattle.std.proofs.lemmas.Bool.{and_parts, and_from, not-true}
use Rattle.std.proofs.lemmas.List.Folds.{list_all-append}
use Rattle.sip_text.specs.Character.{is_blank, is_token_byte}
use Rattle.sip_text.specs.Number.{is_digits}
use Rattle.sip_text.specs.Token.{is_run, is_token}
use Rattle.sip_text.specs.Trimmed.{trimmed, trimmed_end}
use Rattle.sip_grammar.specs.HeaderValue.{has_no_line_byte}
use Rattle.sip_grammar.proofs.Blanks.{End, starts_full}
use Rattle.sip_grammar.proofs.WrittenBytes.{is_solid, solid, token_solid, solid_full, solid_line, solid_kept, longer_end}

-- ---- the ends of a text

-- a text without white space at its ends, and without line ends
pub record Good (text : List ℕ) : Type 0 where
  pub kept : trimmed text ≡ text
  pub plain : has_no_line_byte text ≡ true

abbrev pub Full : List ℕ → Type 0
Full text = text ≡ [] → ⊥

pub full_cons : (b : ℕ) (bs : List ℕ) → Full (b ∷ bs)
full_cons b bs e = absurd cc

-- the end of what follows
pub end_behind : (front text : List ℕ) → Full text → End text → End (front ++ text)
end_behind front [] full e = absurd (full refl)
end_behind front (b ∷ bs) full e = longer_end front b bs e

pub kept_by : (b : ℕ) (bs : List ℕ) → is_blank b ≡ false → End (b ∷ bs) → trimmed (b ∷ bs) ≡ b ∷ bs
kept_by b bs e f = ap trimmed_end (starts_full b bs e) ∙ f

-- a text of solid bytes, and what follows it
pub kept_behind : (front text : List ℕ) → Full front → solid front ≡ true → End (front ++ text)
    → trimmed (front ++ text) ≡ front ++ text
kept_behind [] text full s e = absurd (full refl)
kept_behind (b ∷ bs) text full s e =
    kept_by b (bs ++ text) (not-true (is_blank b)
    (solid_full b (and_parts (is_solid b) (list_all is_solid bs) s).0)) e

pub solid_good : (text : List ℕ) → solid text ≡ true → Good text
solid_good text s = record { kept = solid_kept text s; plain = solid_line text s }

pub plain_both : (xs ys : List ℕ) → has_no_line_byte xs ≡ true → has_no_line_byte ys ≡ true
    → has_no_line_byte (xs ++ ys) ≡ true
plain_both xs ys p q = list_all-append _ xs ys ∙ and_from _ _ p q

-- only solid bytes before the end
pub end_after : (front text : List ℕ) → solid front ≡ true → End text → End (front ++ text)
end_after [] text s e = e
end_after (b ∷ bs) text s e =
    let parts = and_parts (is_solid b) (list_all is_solid bs) s in
    let here : is_blank b ≡ false = not-true (is_blank b) (solid_full b parts.0) in
    ap (λ r. cond (r && list_all is_blank (bs ++ text)) [] (b ∷ trimmed_end (bs ++ text))) here
    ∙ ap (λ (xs : List ℕ). b ∷ xs) (end_after bs text parts.1 e)

-- ---- classes of texts

run_full : (test : ℕ → Bool) (text : List ℕ) → is_run test text ≡ true → Full text
run_full test [] run e = absurd cc
run_full test (b ∷ bs) run e = absurd cc

pub token_is_full : (text : List ℕ) → is_token text ≡ true → Full text
unfolding is_token
token_is_full text token e = run_full is_token_byte text token e

pub digits_full : (text : List ℕ) → is_digits text ≡ true → Full text
digits_full text digits e = run_full is_ascii_digit text digits e

pub passing_some : (test : Bool) (text : List ℕ) → test ≡ true
    → cond test (Some text) None ≡ Some text
passing_some test text e = ap (λ r. cond r (Some text) None) e

pub trimmed_some : (test : List ℕ → Bool) (text : List ℕ) → trimmed text ≡ text → test text ≡ true
    → cond (test (trimmed text)) (Some (trimmed text)) None ≡ Some text
trimmed_some test text kept is =
    ap (λ (xs : List ℕ). cond (test xs) (Some xs) None) kept ∙ passing_some (test text) text is

pub token_kept : (text : List ℕ) → is_token text ≡ true → trimmed text ≡ text
token_kept text token = solid_kept text (token_solid text token)

pub full_front : (front text : List ℕ) → Full front → Full (front ++ text)
full_front [] text full e = full refl
full_front (b ∷ bs) text full e = absurd cc

-- a value that is read as it was written
pub record Again {X : Type 0} (f : List ℕ → Option X) (x : X) (text : List ℕ) : Type 0 where
  pub read : f text ≡ Some x
  pub good : Good text

pub moved : {X : Type 0} {f : List ℕ → Option X} {x : X} {text other : List ℕ} → text ≡ other
    → Again f x other → Again f x text
moved {f = f} {x = x} e again = subst (λ (xs : List ℕ). Again f x xs) (sym e) again
