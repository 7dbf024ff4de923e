-- The header lines at the end of a text.
use Rattle.std.proofs.Common.{◌≡◌, ℕ, Bool, true, false, not, cond, ◌&&◌, ◌||◌, List, [], ◌∷◌, ◌++◌, length, ◌≤◌, ◌+◌, append_assoc, arith, eqb, drop, refl, sym, ap, ◌∙◌}
use Rattle.std.specs.Prelude.{◌==◌}
use Rattle.std.specs.List.{list_all}
use Rattle.std.proofs.Math.Bool.{and-true, and-false}
use Rattle.std.proofs.lemmas.Bool.{true≢false, and_parts, eqb-true}
use Rattle.sip_ua.specs.Repair.{are_header_lines, is_header_line, is_in_line, whole_lines, without_last_headers}

-- whether a line begins after these bytes
abbrev pub after : Bool → List ℕ → Bool
after begins [] = begins
after begins (x ∷ xs) = after (x == 10) xs

not_false : (b : Bool) → not b ≡ true → b ≡ false
not_false true h = absurd (true≢false (sym h))
not_false false h = refl

not_true : (b : Bool) → not b ≡ false → b ≡ true
not_true true h = refl
not_true false h = absurd (true≢false h)

-- ---- a header line at the end

inside : (s : List ℕ) → list_all is_in_line s ≡ true
    → are_header_lines false (s ++ 10 ∷ []) ≡ true
inside [] h = refl
inside (x ∷ s) h =
    ap (λ b. are_header_lines b (s ++ 10 ∷ [])) (not_false (x == 10) (and_parts _ _ h).0)
    ∙ inside s (and_parts _ _ h).1

more : (begins : Bool) (xs s : List ℕ) → list_all is_in_line s ≡ true → after begins xs ≡ true
    → are_header_lines begins (xs ++ (32 ∷ (s ++ 10 ∷ []))) ≡ are_header_lines begins xs
more begins [] s h at =
    ap (λ b. (not b || true) && are_header_lines false (s ++ 10 ∷ [])) at ∙ inside s h ∙ sym at
more begins (x ∷ xs) s h at =
    ap (λ t. (not begins || x == 32) && t) (more (x == 10) xs s h at)

pub cut : (begins : Bool) (xs s : List ℕ) → list_all is_in_line s ≡ true → after begins xs ≡ true
    → without_last_headers begins (xs ++ (32 ∷ (s ++ 10 ∷ []))) ≡ without_last_headers begins xs
cut begins [] s h at =
    ap (λ b. cond (b && are_header_lines false (s ++ 10 ∷ [])) []
    (32 ∷ without_last_headers false (s ++ 10 ∷ []))) at
    ∙ ap (λ b. cond b [] (32 ∷ without_last_headers false (s ++ 10 ∷ []))) (inside s h)
cut begins (x ∷ xs) s h at =
    ap (λ b. cond (begins && b) []
    (x ∷ without_last_headers (x == 10) (xs ++ (32 ∷ (s ++ 10 ∷ [])))))
    (more true (x ∷ xs) s h at)
    ∙ ap (λ t. cond (begins && are_header_lines true (x ∷ xs)) [] (x ∷ t))
    (cut (x == 10) xs s h at)

-- ---- another line at the end

unended : (begins : Bool) (xs : List ℕ) (b : ℕ) → is_in_line b ≡ true
    → are_header_lines begins (xs ++ b ∷ []) ≡ false
unended begins [] b h =
    ap (λ t. (not begins || b == 32) && t) (not_false (b == 10) h) ∙ and-false _
unended begins (x ∷ xs) b h =
    ap (λ t. (not begins || x == 32) && t) (unended (x == 10) xs b h) ∙ and-false _

pub unended_kept : (begins : Bool) (xs : List ℕ) (b : ℕ) → is_in_line b ≡ true
    → without_last_headers begins (xs ++ b ∷ []) ≡ xs ++ b ∷ []
unended_kept begins [] b h =
    ap (λ t. cond (begins && t) [] (b ∷ [])) (unended true [] b h)
    ∙ ap (λ t. cond t [] (b ∷ [])) (and-false begins)
unended_kept begins (x ∷ xs) b h =
    ap (λ t. cond (begins && t) [] (x ∷ without_last_headers (x == 10) (xs ++ b ∷ [])))
    (unended true (x ∷ xs) b h)
    ∙ ap (λ t. cond t [] (x ∷ without_last_headers (x == 10) (xs ++ b ∷ []))) (and-false begins)
    ∙ ap (λ t. x ∷ t) (unended_kept (x == 10) xs b h)

rest_kept : (s : List ℕ) → list_all is_in_line s ≡ true
    → without_last_headers false (s ++ 10 ∷ []) ≡ s ++ 10 ∷ []
rest_kept [] h = refl
rest_kept (x ∷ s) h =
    ap (λ b. x ∷ without_last_headers b (s ++ 10 ∷ [])) (not_false (x == 10) (and_parts _ _ h).0)
    ∙ ap (λ t. x ∷ t) (rest_kept s (and_parts _ _ h).1)

other : (begins : Bool) (xs s : List ℕ) → list_all is_in_line s ≡ true
    → is_header_line s ≡ false → after begins xs ≡ true
    → are_header_lines begins (xs ++ (s ++ 10 ∷ [])) ≡ false
other begins [] [] h plain at = ap (λ b. (not b || false) && true) at
other begins [] (c ∷ s) h plain at =
    ap (λ b. (not b || c == 32) && are_header_lines (c == 10) (s ++ 10 ∷ [])) at
    ∙ ap (λ b. b && are_header_lines (c == 10) (s ++ 10 ∷ [])) plain
other begins (x ∷ xs) s h plain at =
    ap (λ t. (not begins || x == 32) && t) (other (x == 10) xs s h plain at) ∙ and-false _

pub other_kept : (begins : Bool) (xs s : List ℕ) → list_all is_in_line s ≡ true
    → is_header_line s ≡ false → after begins xs ≡ true
    → without_last_headers begins (xs ++ (s ++ 10 ∷ [])) ≡ xs ++ (s ++ 10 ∷ [])
other_kept begins [] [] h plain at = ap (λ t. cond t [] (10 ∷ [])) (and-false begins)
other_kept begins [] (c ∷ s) h plain at =
    ap (λ t. cond (begins && t) [] (c ∷ without_last_headers (c == 10) (s ++ 10 ∷ [])))
    (other true [] (c ∷ s) h plain refl)
    ∙ ap (λ t. cond t [] (c ∷ without_last_headers (c == 10) (s ++ 10 ∷ []))) (and-false begins)
    ∙ ap (λ b. c ∷ without_last_headers b (s ++ 10 ∷ []))
    (not_false (c == 10) (and_parts _ _ h).0)
    ∙ ap (λ t. c ∷ t) (rest_kept s (and_parts _ _ h).1)
other_kept begins (x ∷ xs) s h plain at =
    ap (λ t. cond (begins && t) [] (x ∷ without_last_headers (x == 10) (xs ++ (s ++ 10 ∷ []))))
    (other true (x ∷ xs) s h plain at)
    ∙ ap (λ t. cond t [] (x ∷ without_last_headers (x == 10) (xs ++ (s ++ 10 ∷ []))))
    (and-false begins)
    ∙ ap (λ t. x ∷ t) (other_kept (x == 10) xs s h plain at)

-- ---- the last line of a text begins after its whole lines

no_whole : (text : List ℕ) → list_all is_in_line text ≡ true → whole_lines text ≡ []
no_whole [] h = refl
no_whole (x ∷ xs) h = ap (λ b. cond b [] (x ∷ whole_lines xs)) h

rest_by : (x : ℕ) (xs : List ℕ) (all : Bool) → (is_in_line x && list_all is_in_line xs) ≡ all
    → list_all is_in_line (drop (length (whole_lines xs)) xs) ≡ true
    → list_all is_in_line (drop (length (cond all [] (x ∷ whole_lines xs))) (x ∷ xs)) ≡ true
rest_by x xs true is later = is
rest_by x xs false is later = later

pub rest_in_line : (text : List ℕ)
    → list_all is_in_line (drop (length (whole_lines text)) text) ≡ true
rest_in_line [] = refl
rest_in_line (x ∷ xs) = rest_by x xs (is_in_line x && list_all is_in_line xs) refl (rest_in_line xs)

-- a byte that isn't in a line ends one
ends_line : (x : ℕ) → is_in_line x ≡ false → (x == 10) ≡ true
ends_line x h = not_true (x == 10) h

begins_by : (begins : Bool) (x : ℕ) (xs : List ℕ) (all rest : Bool)
    → (is_in_line x && list_all is_in_line xs) ≡ all → list_all is_in_line xs ≡ rest
    → ((begins : Bool) → list_all is_in_line xs ≡ false → after begins (whole_lines xs) ≡ true)
    → all ≡ false → after begins (cond all [] (x ∷ whole_lines xs)) ≡ true
begins_by begins x xs true rest is of later plain = absurd (true≢false plain)
begins_by begins x xs false true is of later plain =
    ap (after (x == 10)) (no_whole xs of)
    ∙ ends_line x (sym (ap (λ t. is_in_line x && t) of ∙ and-true _) ∙ is)
begins_by begins x xs false false is of later plain = later (x == 10) of

begins_after : (text : List ℕ) (begins : Bool) → list_all is_in_line text ≡ false
    → after begins (whole_lines text) ≡ true
begins_after [] begins plain = absurd (true≢false plain)
begins_after (x ∷ xs) begins plain =
    begins_by begins x xs (is_in_line x && list_all is_in_line xs) (list_all is_in_line xs) refl refl
    (begins_after xs) plain

line_by : (text : List ℕ) (all : Bool) → list_all is_in_line text ≡ all
    → after true (whole_lines text) ≡ true
line_by text true is = ap (after true) (no_whole text is)
line_by text false is = begins_after text true is

pub line_begins : (text : List ℕ) → after true (whole_lines text) ≡ true
line_begins text = line_by text (list_all is_in_line text) refl

-- ---- the last line with its end

shorter_by : (x : ℕ) (xs : List ℕ) (all : Bool) → length (whole_lines xs) ≤ length xs
    → length (cond all [] (x ∷ whole_lines xs)) ≤ length (x ∷ xs)
shorter_by x xs true less = omega arith
shorter_by x xs false less = omega (arith, less)

pub whole_shorter : (text : List ℕ) → length (whole_lines text) ≤ length text
whole_shorter [] = omega arith
whole_shorter (x ∷ xs) =
    shorter_by x xs (is_in_line x && list_all is_in_line xs) (whole_shorter xs)

front_by : (x : ℕ) (xs : List ℕ) (all : Bool)
    → xs ≡ whole_lines xs ++ drop (length (whole_lines xs)) xs
    → x ∷ xs ≡ cond all [] (x ∷ whole_lines xs)
    ++ drop (length (cond all [] (x ∷ whole_lines xs))) (x ∷ xs)
front_by x xs true parts = refl
front_by x xs false parts = ap (λ t. x ∷ t) parts

whole_front : (text : List ℕ)
    → text ≡ whole_lines text ++ drop (length (whole_lines text)) text
whole_front [] = refl
whole_front (x ∷ xs) =
    front_by x xs (is_in_line x && list_all is_in_line xs) (whole_front xs)

cut_by : (front line : List ℕ) → list_all is_in_line line ≡ true → is_header_line line ≡ true
    → after true front ≡ true
    → without_last_headers true (front ++ (line ++ 10 ∷ [])) ≡ without_last_headers true front
cut_by front [] all header at = absurd (true≢false (sym header))
cut_by front (c ∷ s) all header at =
    ap (λ d. without_last_headers true (front ++ (d ∷ (s ++ 10 ∷ [])))) (eqb-true c 32 header)
    ∙ cut true front s (and_parts _ _ all).1 at

-- a text that ends with LF: the lines before the last one, the last one, and LF
parts_of : (text lines : List ℕ) (last : ℕ) → text ≡ lines ++ last ∷ [] → is_in_line last ≡ false
    → text ≡ whole_lines lines ++ (drop (length (whole_lines lines)) lines ++ 10 ∷ [])
parts_of text lines last parts ended =
    parts ∙ ap (λ b. lines ++ b ∷ []) (eqb-true last 10 (ends_line last ended))
    ∙ ap (λ t. t ++ 10 ∷ []) (whole_front lines)
    ∙ append_assoc (whole_lines lines) (drop (length (whole_lines lines)) lines) (10 ∷ [])

pub last_cut : (text lines : List ℕ) (last : ℕ) → text ≡ lines ++ last ∷ []
    → is_in_line last ≡ false
    → is_header_line (drop (length (whole_lines lines)) lines) ≡ true
    → without_last_headers true (whole_lines lines) ≡ without_last_headers true text
last_cut text lines last parts ended header =
    sym (ap (without_last_headers true) (parts_of text lines last parts ended)
    ∙ cut_by (whole_lines lines) (drop (length (whole_lines lines)) lines) (rest_in_line lines)
    header (line_begins lines))

pub last_kept : (text lines : List ℕ) (last : ℕ) → text ≡ lines ++ last ∷ []
    → is_in_line last ≡ false
    → is_header_line (drop (length (whole_lines lines)) lines) ≡ false
    → without_last_headers true text ≡ text
last_kept text lines last parts ended other =
    ap (without_last_headers true) (parts_of text lines last parts ended)
    ∙ other_kept true (whole_lines lines) (drop (length (whole_lines lines)) lines)
    (rest_in_line lines) other (line_begins lines)
    ∙ sym (parts_of text lines last parts ended)
