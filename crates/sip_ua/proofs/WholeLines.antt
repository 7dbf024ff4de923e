-- A text up to its last LF.
use Rattle.std.proofs.Common.{◌≡◌, ℕ, ◌-◌, ◌≤◌, true, false, cond, ◌&&◌, List, [], ◌∷◌, ◌++◌, length, get_or, take, refl, sym, ap, ◌∙◌}
use Rattle.std.specs.List.{list_all}
use Rattle.std.proofs.Math.Bool.{and-true, and-false}
use Rattle.std.proofs.lemmas.List.Folds.{list_all-append}
use Rattle.sip_text.proofs.Ends.{front_last}
use Rattle.sip_ua.specs.Repair.{is_in_line, whole_lines}

all_push : (xs : List ℕ) (b : ℕ)
    → list_all is_in_line (xs ++ b ∷ []) ≡ (list_all is_in_line xs && is_in_line b)
all_push xs b = list_all-append is_in_line xs (b ∷ [])
    ∙ ap (λ t. list_all is_in_line xs && t) (and-true (is_in_line b))

-- a byte behind the last LF is cut off
cut_off : (xs : List ℕ) (b : ℕ) → is_in_line b ≡ true
    → whole_lines (xs ++ b ∷ []) ≡ whole_lines xs
cut_off [] b h = ap (λ t. cond (t && true) [] (b ∷ [])) h
cut_off (x ∷ xs) b h =
    let all : list_all is_in_line (xs ++ b ∷ []) ≡ list_all is_in_line xs =
    all_push xs b ∙ ap (λ t. list_all is_in_line xs && t) h ∙ and-true _ in
    rw (all, cut_off xs b h) refl

-- an LF stays, and so does all that stands before it
kept : (xs : List ℕ) (b : ℕ) → is_in_line b ≡ false → whole_lines (xs ++ b ∷ []) ≡ xs ++ b ∷ []
kept [] b h = ap (λ t. cond (t && true) [] (b ∷ [])) h
kept (x ∷ xs) b h =
    let all : list_all is_in_line (xs ++ b ∷ []) ≡ false =
    all_push xs b ∙ ap (λ t. list_all is_in_line xs && t) h ∙ and-false _ in
    rw (all, and-false (is_in_line x), kept xs b h) refl

-- one step of a walk from the end
pub last_cut_off : (text : List ℕ) → 1 ≤ length text
    → is_in_line (get_or text (length text - 1) 0) ≡ true
    → whole_lines (take (length text - 1) text) ≡ whole_lines text
last_cut_off text some h =
    sym (cut_off (take (length text - 1) text) (get_or text (length text - 1) 0) h)
    ∙ ap whole_lines (sym (front_last text some))

pub last_kept : (text : List ℕ) → 1 ≤ length text
    → is_in_line (get_or text (length text - 1) 0) ≡ false → whole_lines text ≡ text
last_kept text some h = ap whole_lines (front_last text some)
    ∙ kept (take (length text - 1) text) (get_or text (length text - 1) 0) h
    ∙ sym (front_last text some)
