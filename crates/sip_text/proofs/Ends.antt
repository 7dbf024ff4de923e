-- White space at the end of a text.
use Rattle.std.proofs.Common.{◌≡◌, ℕ, ◌+◌, ◌-◌, ◌≤◌, true, false, cond, ◌&&◌, List, [], ◌∷◌, ◌++◌, length, get_or, take, refl, sym, ap, ◌∙◌, arith}
use Rattle.std.specs.List.{list_all}
use Rattle.std.proofs.Math.Bool.{and-true, and-false}
use Rattle.std.proofs.lemmas.List.{take_more, take_all}
use Rattle.std.proofs.lemmas.List.Folds.{list_all-append}
use Rattle.sip_text.specs.Character.{is_blank}
use Rattle.sip_text.specs.Trimmed.{trimmed_end}

all_push : (xs : List ℕ) (b : ℕ)
    → list_all is_blank (xs ++ b ∷ []) ≡ (list_all is_blank xs && is_blank b)
all_push xs b = list_all-append is_blank xs (b ∷ [])
    ∙ ap (λ t. list_all is_blank xs && t) (and-true (is_blank b))

-- a blank at the end is cut off
pub trimmed_end-blank : (xs : List ℕ) (b : ℕ) → is_blank b ≡ true
    → trimmed_end (xs ++ b ∷ []) ≡ trimmed_end xs
trimmed_end-blank [] b h = ap (λ t. cond (t && true) [] (b ∷ [])) h
trimmed_end-blank (x ∷ xs) b h =
    let all : list_all is_blank (xs ++ b ∷ []) ≡ list_all is_blank xs =
    all_push xs b ∙ ap (λ t. list_all is_blank xs && t) h ∙ and-true _ in
    rw (all, trimmed_end-blank xs b h) refl

-- any other byte stays, and so does all that stands before it
pub trimmed_end-other : (xs : List ℕ) (b : ℕ) → is_blank b ≡ false
    → trimmed_end (xs ++ b ∷ []) ≡ xs ++ b ∷ []
trimmed_end-other [] b h = ap (λ t. cond (t && true) [] (b ∷ [])) h
trimmed_end-other (x ∷ xs) b h =
    let all : list_all is_blank (xs ++ b ∷ []) ≡ false =
    all_push xs b ∙ ap (λ t. list_all is_blank xs && t) h ∙ and-false _ in
    rw (all, and-false (is_blank x), trimmed_end-other xs b h) refl

pub front_last : (text : List ℕ) → 1 ≤ length text
    → text ≡ take (length text - 1) text ++ get_or text (length text - 1) 0 ∷ []
front_last text some =
    let more = take_more text (length text - 1) 0 (omega arith) in
    let whole : take ((length text - 1) + 1) text ≡ text = take_all _ _ (omega arith) in
    sym whole ∙ more

-- one step of a walk from the end
pub blank_last : (text : List ℕ) → 1 ≤ length text
    → is_blank (get_or text (length text - 1) 0) ≡ true
    → trimmed_end (take (length text - 1) text) ≡ trimmed_end text
blank_last text some h =
    sym (trimmed_end-blank (take (length text - 1) text) (get_or text (length text - 1) 0) h)
    ∙ ap trimmed_end (sym (front_last text some))

pub other_last : (text : List ℕ) → 1 ≤ length text
    → is_blank (get_or text (length text - 1) 0) ≡ false → trimmed_end text ≡ text
other_last text some h = ap trimmed_end (front_last text some)
    ∙ trimmed_end-other (take (length text - 1) text) (get_or text (length text - 1) 0) h
    ∙ sym (front_last text some)
