-- Tokens with a comma and a space between them are the value of a header.
use Rattle.std.proofs.Common.{◌≡◌, ℕ, ◌+◌, ◌-◌, ◌<◌, ◌==◌, subst, Bool, true, false, not, cond, ◌&&◌, List, [], ◌∷◌, ◌++◌, length, get_or, refl, sym, ap, ◌∙◌, arith, length-append, append_assoc, codes}
use Rattle.std.specs.Prelude.{if◌then◌else◌, IsTrue, slice_index}
use Rattle.std.specs.List.{flat_map, join_by, list_all}
use Rattle.std.proofs.lemmas.Grind.{common_steps, flat_map-append}
use Rattle.std.proofs.lemmas.Bool.{true≢false}
use Rattle.std.proofs.lemmas.List.{append-nil, get_or-append-add}
use Rattle.std.proofs.lemmas.List.Folds.{list_all_at, list_all-append}
use Rattle.keyed_machine.proofs.Ordered.{by_bool}
use Rattle.sip_text.specs.Character.{is_blank, is_line_byte, is_token_byte}
use Rattle.sip_text.specs.Token.{is_token}
use Rattle.sip_grammar.proofs.BlankEnds.{full_has_none, has_full_ends}
use Rattle.sip_grammar.specs.HeaderValue.{has_no_blank_ends, has_no_line_byte, is_header_value}

abbrev pub joined : List (List ℕ) → List ℕ
joined options = join_by (λ option. option) (codes ", ") options

-- a text with one more
abbrev pub with_one_more : List ℕ → List ℕ → List ℕ
with_one_more text option = if length text == 0 then option else text ++ codes ", " ++ option

some_are : {X : Type 0} (x : X) (xs : List X) → (length (x ∷ xs) == 0) ≡ false
some_are x xs = grind (arith, common_steps)

pub joined_more : (xs : List (List ℕ)) (x : List ℕ)
    → joined (xs ++ x ∷ []) ≡ (if length xs == 0 then x else joined xs ++ codes ", " ++ x)
joined_more [] x = append-nil x
joined_more (y ∷ ys) x =
    let each : List ℕ → List ℕ = λ (option : List ℕ). codes ", " ++ option in
    let whole =
    ap (λ rest. y ++ rest) (flat_map-append each ys (x ∷ []))
    ∙ ap (λ rest. y ++ (flat_map each ys ++ rest)) (append-nil (codes ", " ++ x)) in
    let apart =
    append_assoc (y ++ flat_map each ys) (codes ", ") x
    ∙ append_assoc y (flat_map each ys) (codes ", " ++ x) in
    rw (some_are y ys) (whole ∙ sym apart)

-- ---- bytes

same_number : (b k : ℕ) → (b == k) ≡ true → b ≡ k
same_number b k e = grind (arith, common_steps, e)

not_byte : (k b : ℕ) → is_token_byte k ≡ false → is_token_byte b ≡ true → (b == k) ≡ false
not_byte k b other token =
    by_bool (b == k) (λ e. absurd (true≢false (sym token ∙ ap is_token_byte (same_number b k e)
    ∙ other))) (λ e. e)

not_blank : (b : ℕ) → is_token_byte b ≡ true → not (is_blank b) ≡ true
unfolding is_token_byte
not_blank b token = rw (not_byte 32 b refl token, not_byte 9 b refl token) refl

not_line : (b : ℕ) → is_token_byte b ≡ true → not (is_line_byte b) ≡ true
unfolding is_token_byte
not_line b token = rw (not_byte 13 b refl token, not_byte 10 b refl token) refl

both : (x y : Bool) → (x && y) ≡ true → (x ≡ true) × (y ≡ true)
both true y e = (refl, e)
both false y e = absurd (true≢false (sym e))

and_both : (x y : Bool) → x ≡ true → y ≡ true → (x && y) ≡ true
and_both x y e f = rw (e, f) refl

no_lines : (text : List ℕ) → list_all is_token_byte text ≡ true → has_no_line_byte text ≡ true
no_lines [] all = refl
no_lines (b ∷ bs) all =
    let parts = both (is_token_byte b) (list_all is_token_byte bs) all in
    and_both (not (is_line_byte b)) (has_no_line_byte bs) (not_line b parts.0) (no_lines bs parts.1)

byte_at : (text : List ℕ) (i : ℕ) → i < length text → list_all is_token_byte text ≡ true
    → is_token_byte (get_or text i 0) ≡ true
byte_at text i within all =
    by_bool (is_token_byte (get_or text i 0)) (λ e. e)
    (λ e. absurd (true≢false (sym all ∙ list_all_at is_token_byte text i 0 within e)))

-- ---- header values

last_within : (b : ℕ) (bs : List ℕ) → length (b ∷ bs) - 1 < length (b ∷ bs)
last_within b bs = omega arith

token_value : (b : ℕ) (bs : List ℕ) → list_all is_token_byte (b ∷ bs) ≡ true
    → is_header_value (b ∷ bs) ≡ true
unfolding is_header_value
token_value b bs all =
    let first = (both (is_token_byte b) (list_all is_token_byte bs) all).0 in
    let last = byte_at (b ∷ bs) (length (b ∷ bs) - 1) (last_within b bs) all in
    and_both (has_no_blank_ends (b ∷ bs)) (has_no_line_byte (b ∷ bs))
    (full_has_none (b ∷ bs)
    (and_both (not (is_blank b)) (not (is_blank (get_or (b ∷ bs) (length (b ∷ bs) - 1) 0)))
    (not_blank b first) (not_blank (get_or (b ∷ bs) (length (b ∷ bs) - 1) 0) last)))
    (no_lines (b ∷ bs) all)

last_moves : (ts : List ℕ) (b : ℕ) (bs : List ℕ)
    → slice_index (ts ++ codes ", " ++ b ∷ bs) (length (ts ++ codes ", " ++ b ∷ bs) - 1)
    ≡ slice_index (b ∷ bs) (length (b ∷ bs) - 1)
last_moves ts b bs =
    let long : length (ts ++ codes ", " ++ b ∷ bs) - 1
    ≡ length (ts ++ codes ", ") + (length (b ∷ bs) - 1) =
    omega (arith, length-append (ts ++ codes ", ") (b ∷ bs)) in
    ap (λ i. get_or (ts ++ codes ", " ++ b ∷ bs) i 0) long
    ∙ get_or-append-add (ts ++ codes ", ") (b ∷ bs) (length (b ∷ bs) - 1) 0

joined_value : (t : ℕ) (ts : List ℕ) (b : ℕ) (bs : List ℕ) → is_header_value (t ∷ ts) ≡ true
    → list_all is_token_byte (b ∷ bs) ≡ true
    → is_header_value ((t ∷ ts) ++ codes ", " ++ b ∷ bs) ≡ true
unfolding is_header_value
joined_value t ts b bs value all =
    let parts = both (has_no_blank_ends (t ∷ ts)) (has_no_line_byte (t ∷ ts)) value in
    let first =
    (both (not (is_blank t)) (not (is_blank (get_or (t ∷ ts) (length (t ∷ ts) - 1) 0)))
    (has_full_ends (t ∷ ts) parts.0)).0 in
    let whole : List ℕ = (t ∷ ts) ++ codes ", " ++ b ∷ bs in
    let last : not (is_blank (get_or whole (length whole - 1) 0)) ≡ true =
    ap (λ k. not (is_blank k)) (last_moves (t ∷ ts) b bs)
    ∙ not_blank (get_or (b ∷ bs) (length (b ∷ bs) - 1) 0)
    (byte_at (b ∷ bs) (length (b ∷ bs) - 1) (last_within b bs) all) in
    let ends : has_no_blank_ends whole ≡ true =
    full_has_none whole
    (and_both (not (is_blank t)) (not (is_blank (get_or whole (length whole - 1) 0))) first last)
    in
    let front : has_no_line_byte ((t ∷ ts) ++ codes ", ") ≡ true =
    list_all-append (λ c. not (is_line_byte c)) (t ∷ ts) (codes ", ")
    ∙ and_both (has_no_line_byte (t ∷ ts)) true parts.1 refl in
    let lines : has_no_line_byte whole ≡ true =
    list_all-append (λ c. not (is_line_byte c)) ((t ∷ ts) ++ codes ", ") (b ∷ bs)
    ∙ and_both (has_no_line_byte ((t ∷ ts) ++ codes ", ")) (has_no_line_byte (b ∷ bs)) front
    (no_lines (b ∷ bs) all) in
    and_both (has_no_blank_ends whole) (has_no_line_byte whole) ends lines

pub more_value : (text option : List ℕ) → IsTrue (is_header_value text) → IsTrue (is_token option)
    → IsTrue (is_header_value (with_one_more text option))
unfolding is_token
more_value text [] value token = absurd (true≢false (sym token))
more_value [] (b ∷ bs) value token = token_value b bs token
more_value (t ∷ ts) (b ∷ bs) value token =
    ap (λ empty. is_header_value (if empty then b ∷ bs else (t ∷ ts) ++ codes ", " ++ b ∷ bs))
    (some_are t ts) ∙ joined_value t ts b bs value token

pub nothing_value : IsTrue (is_header_value [])
unfolding is_header_value
nothing_value = refl

-- ---- one step of the loop

pub record SoFar (text : List ℕ) (options : List (List ℕ)) : Type 0 where
  pub text_is : text ≡ joined options
  pub filled : (length text == 0) ≡ (length options == 0)
  pub rule : IsTrue (is_header_value text)

never_empty : (text option : List ℕ) → IsTrue (is_token option)
    → (length (with_one_more text option) == 0) ≡ false
unfolding is_token
never_empty text [] token = absurd (true≢false (sym token))
never_empty [] (b ∷ bs) token = some_are b bs
never_empty (t ∷ ts) (b ∷ bs) token =
    ap (λ empty. length (if empty then b ∷ bs else (t ∷ ts) ++ codes ", " ++ b ∷ bs) == 0)
    (some_are t ts) ∙ some_are t (ts ++ codes ", " ++ b ∷ bs)

one_at_least : (xs : List (List ℕ)) (x : List ℕ) → (length (xs ++ x ∷ []) == 0) ≡ false
one_at_least [] x = some_are x []
one_at_least (y ∷ ys) x = some_are y (ys ++ x ∷ [])

so_far_more : (text : List ℕ) (options : List (List ℕ)) (option : List ℕ) → IsTrue (is_token option)
    → SoFar text options → SoFar (with_one_more text option) (options ++ option ∷ [])
so_far_more text options option token so_far = record {
  text_is =
      (λ i. if so_far.filled i then option else so_far.text_is i ++ codes ", " ++ option)
      ∙ sym (joined_more options option);
  filled = never_empty text option token ∙ sym (one_at_least options option);
  rule = more_value text option so_far.rule token;
}

-- an option is added if it is unknown
pub added : (unknown : Bool) (text : List ℕ) (options : List (List ℕ)) (option : List ℕ)
    → IsTrue (is_token option) → SoFar text options
    → SoFar (cond unknown (with_one_more text option) text) (options
    ++ cond unknown (option ∷ []) [])
added true text options option token so_far = so_far_more text options option token so_far
added false text options option token so_far =
    subst (λ xs. SoFar text xs) (sym (append-nil options)) so_far

pub begun : SoFar [] []
begun = record { text_is = refl; filled = refl; rule = nothing_value }
