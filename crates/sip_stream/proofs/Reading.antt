-- What was read and what is left to read, where that is known.
use Rattle.std.proofs.Common.{◌≡◌, ℕ, ◌+◌, ◌-◌, ◌<◌, ◌≤◌, ◌^◌, Bool, false, List, [], ◌∷◌, ◌++◌, length, take, drop, refl, sym, ap, subst, ◌∙◌, append_assoc, append-nil, take-append-drop, length-take-le, length-append, zero-add, arith, inl, inr}
use Rattle.std.specs.Prelude.{IfSome, Option, None, Some, Result, ◌⊎◌}
use Rattle.std.specs.Io.KnownBytes.{Consumes, IsAtEnd, Keeps, prepend_known}
use Rattle.std.proofs.lemmas.Bool.Decides.{leb_tells}
use Rattle.std.proofs.lemmas.List.{drop-append-le, drop_all, take-append-le, take_all, take_rest}
use Rattle.sip_files.specs.Counted.{Counts, failures_of}
use Rattle.sip_files.proofs.Streams.{counts_both}
use Rattle.sip_files.specs.Rounds.{first_round}
use Rattle.sip_stream.specs.Streams.{IsNext}
use Rattle.sip_stream.proofs.Chunks.{front_of, is_front, no_longer, same_first}

-- ---- one more read

pub counts_read : {T E : Type 0} (before now after : Option ℕ) (result end : Result T E)
    → result ≡ end → Counts before now 0 → Counts now after (failures_of result)
    → Counts before after (failures_of end)
counts_read before now after result end is so_far one =
    subst (Counts before after) (zero-add (failures_of end))
    (counts_both before now after 0 (failures_of end) so_far
    (subst (λ r. Counts now after (failures_of r)) is one))

pub read_on : (all left after : Option (List ℕ)) (text more longer : List ℕ)
    → Keeps all (prepend_known text left) → Consumes left after more → longer ≡ text ++ more
    → Keeps all (prepend_known longer after)
read_on None left after text more longer kept consumed is = tt
read_on (Some xs) None after text more longer kept consumed is = elim kept [ ]
read_on (Some xs) (Some ys) None text more longer kept consumed is = elim consumed [ ]
read_on (Some xs) (Some ys) (Some zs) text more longer kept consumed is =
    ap (λ (t : List ℕ). t ++ zs) is ∙ append_assoc text more zs
    ∙ ap (λ (t : List ℕ). text ++ t) (sym consumed) ∙ kept

-- the first bytes are given
pub given : (all left : Option (List ℕ)) (text first rest : List ℕ) (len : ℕ)
    → Keeps all (prepend_known text left) → first ≡ take len text → rest ≡ drop len text
    → Consumes all (prepend_known rest left) first
given None left text first rest len kept is others = tt
given (Some xs) None text first rest len kept is others = elim kept [ ]
given (Some xs) (Some ys) text first rest len kept is others =
    sym kept ∙ ap (λ (t : List ℕ). t ++ ys) (sym (take-append-drop len text))
    ∙ append_assoc (take len text) (drop len text) ys
    ∙ ap (λ (t : List ℕ). t ++ (drop len text ++ ys)) (sym is)
    ∙ ap (λ (t : List ℕ). first ++ (t ++ ys)) (sym others)

-- ---- how far it was searched

-- no round begins in the first bytes
abbrev pub IsSearched : ℕ → List ℕ → Type 0
IsSearched count text = (count ≤ length text)
    × (first_round text ≡ take count text ++ first_round (drop count text))

-- the first round is the whole text
is_whole : (text : List ℕ) → length text ≤ length (first_round text) → first_round text ≡ text
is_whole text all = sym (is_front text) ∙ take_all (length (first_round text)) text all

module _ (count : ℕ) (text whole first : List ℕ) (searched : IsSearched count text)
    (same : whole ≡ text)
    (is : first ≡ first_round (take (length whole - count) (drop count whole))) where
  -- the length of the first round
  pub found_length : count + length first ≡ length (first_round text)
  found_length =
      let behind : first ≡ first_round (drop count text) =
      is ∙ ap (λ (t : List ℕ). first_round (take (length t - count) (drop count t))) same
      ∙ ap first_round (take_rest text count) in
      omega (
        arith,
        ap length behind,
        ap length searched.1,
        length-append (take count text) (first_round (drop count text)),
        length-take-le count text searched.0,
      )

  pub found_fits : count + length first ≤ length text
  found_fits = omega (arith, found_length, no_longer text)

-- with more bytes, all but the last ones were searched
pub searched_on : (text more longer : List ℕ) → length text ≤ length (first_round text)
    → longer ≡ text ++ more → IsSearched (length text - 6) longer
searched_on text more longer all is =
    subst (IsSearched (length text - 6)) (sym is) (elim (leb_tells 6 (length text)) [
      | inl w ↦ long w.1
      | inr w ↦ short w.1
    ])
  where
    long : 6 ≤ length text → IsSearched (length text - 6) (text ++ more)
    long some =
        let count = length text - 6 in
        let within : count ≤ length text = omega arith in (
          omega (arith, length-append text more),
          front_of count text more (omega (arith, some)) (is_whole text all)
              ∙ ap (λ (t : List ℕ). t ++ first_round (drop count text ++ more))
              (sym (take-append-le count text more within))
              ∙ ap (λ (t : List ℕ). take count (text ++ more) ++ first_round t)
              (sym (drop-append-le count text more within)),
        )

    short : length text < 6 → IsSearched (length text - 6) (text ++ more)
    short few =
        let none : 0 ≡ length text - 6 = omega (arith, few) in
        subst (λ (n : ℕ). IsSearched n (text ++ more)) none (omega arith, refl)

-- ---- the lines that are given

-- the first round ends in the text, or nothing follows the text
abbrev pub MayBeGiven : ℕ → List ℕ → Bool → Type 0
MayBeGiven len text has_more = (len < length text) ⊎ (has_more ≡ false)

module _ (text first rest : List ℕ) (len : ℕ) (is_len : len ≡ length (first_round text))
    (is_first : first ≡ take len text) (is_rest : rest ≡ drop len text) where
  same_lines : first ≡ first_round text
  same_lines = is_first ∙ ap (λ (n : ℕ). take n text) is_len ∙ is_front text

  whole : first ++ rest ≡ text
  whole = ap (λ (t : List ℕ). t ++ rest) is_first ∙ ap (λ (t : List ℕ). take len text ++ t) is_rest
      ∙ take-append-drop len text

  whole_with : (left : List ℕ) → first ++ (rest ++ left) ≡ text ++ left
  whole_with left = sym (append_assoc first rest left) ∙ ap (λ (t : List ℕ). t ++ left) whole

  is_first_by : (left : List ℕ) (has_more : Bool) → MayBeGiven len text has_more
      → (has_more ≡ false → left ≡ []) → first_round (first ++ (rest ++ left)) ≡ first
  is_first_by left has_more (inl ends) over =
      let shorter : length (first_round text) < length text = omega (arith, ends, is_len) in
      ap first_round (whole_with left) ∙ same_first text left shorter ∙ sym same_lines
  is_first_by left has_more (inr none) over =
      ap first_round (whole_with left ∙ ap (λ (t : List ℕ). text ++ t) (over none)
      ∙ append-nil text) ∙ sym same_lines

  pub is_next : (left : Option (List ℕ)) (has_more : Bool) → MayBeGiven len text has_more
      → (has_more ≡ false → IsAtEnd left) → IfSome (prepend_known rest left) (IsNext first)
  is_next None has_more may over = tt
  is_next (Some left) has_more may over = record {
    more = [];
    front = is_first_by left has_more may over ∙ sym (append-nil first);
    whole = inl refl;
  }

  -- no lines at the end alone
  nothing_there : (t : List ℕ) → first_round t ≡ [] → t ≡ []
  unfolding first_round
  nothing_there [] is = refl
  nothing_there (b ∷ bytes) is = absurd cc

  at_end_by : (left : Option (List ℕ)) (others : List ℕ) → others ≡ [] → IsAtEnd left
      → IsAtEnd (prepend_known others left)
  at_end_by None others none over = tt
  at_end_by (Some left) others none over =
      ap (λ (t : List ℕ). t ++ left) none ∙ over

  pub at_end : (left : Option (List ℕ)) (has_more : Bool) → MayBeGiven len text has_more
      → (has_more ≡ false → IsAtEnd left) → first ≡ [] → IsAtEnd (prepend_known rest left)
  at_end left has_more may over none =
      let empty : text ≡ [] = nothing_there text (sym same_lines ∙ none) in
      let none_left : length text ≤ len = omega (arith, ap length empty) in
      at_end_by left rest (is_rest ∙ drop_all len text none_left) (by_cause may empty)
    where
      short : (t : List ℕ) → t ≡ [] → length t ≡ 0
      short t is = ap length is

      by_cause : MayBeGiven len text has_more → text ≡ [] → IsAtEnd left
      by_cause (inl ends) empty = absurd (omega (arith, ends, short text empty))
      by_cause (inr none) empty = over none

-- ---- a front of lines that are too long

module _ (text first rest : List ℕ) (len count : ℕ) (is_len : len ≡ length (first_round text))
    (all : length text ≤ len) (fits : count + 6 ≤ length text) (is_first : first ≡ take count text)
    (is_rest : rest ≡ drop count text) where
  counted : length first ≡ count
  counted = ap length is_first ∙ length-take-le count text (omega (arith, fits))

  pub is_long : 2 ^ 26 < count → (left : Option (List ℕ))
      → IfSome (prepend_known rest left) (IsNext first)
  is_long long None = tt
  is_long long (Some left) =
      let more = first_round (drop count text ++ left) in
      record {
        more = more;
        front =
            ap first_round (sym (append_assoc first rest left)
            ∙ ap (λ (t : List ℕ). t ++ left) (ap (λ (t : List ℕ). t ++ rest) is_first
            ∙ ap (λ (t : List ℕ). take count text ++ t) is_rest ∙ take-append-drop count text))
            ∙ front_of count text left fits (is_whole text (omega (arith, all, is_len)))
            ∙ ap (λ (t : List ℕ). t ++ more) (sym is_first);
        whole = inr (omega (arith, long, counted));
      }

  pub not_none : 0 < count → first ≡ [] → ⊥
  not_none some none = absurd (omega (arith, some, counted, ap length none))
