-- The first place of a byte among several that are looked at together.
use Rattle.std.proofs.Common.{◌≡◌, ℕ, ◌+◌, ◌*◌, ◌%◌, ◌^◌, ◌<◌, ◌≤◌, ◌||◌, eqb, Bool, true, false, cond, not, List, [], ◌∷◌, suc, map, length, replicate, bit_or, refl, sym, ap, ◌∙◌, arith, inl, inr}
use Rattle.std.specs.Prelude.{Option, None, Some}
use Rattle.std.proofs.lemmas.Bool.{true≢false, cases_lt}
use Rattle.std.proofs.lemmas.Simd.{map-map, mask_l-mod, zip2_splat, zip2_of_maps, trailing_mask_l, none_from_empty_mask, run_in_chunk_fails, run_in_chunk_stops, length-chunk}
use Rattle.std.proofs.lemmas.List.{length-map}
use Rattle.memchr.specs.Find.{IsFirst, NoneBefore, Nowhere, Passes, is_byte2}
use Rattle.std.specs.List.{prefix_len}
use lib.Count.{count_trailing_zeros}
use lib.Lanes.{chunk, zip2, mask_l, top}

-- one lane of a comparison
abbrev lane : Bool → ℕ
lane b = cond b 255 0

top_of_either : (a b : Bool) → top 7 (bit_or (lane a) (lane b)) ≡ (a || b)
top_of_either true true = refl
top_of_either true false = refl
top_of_either false true = refl
top_of_either false false = refl

-- the bits of a load that is compared with two bytes
abbrev pub marks_of_two : ℕ → ℕ → List ℕ → ℕ
marks_of_two one other v =
    mask_l (map (top 7) (zip2 bit_or (zip2 (λ a b. lane (eqb a b)) v (replicate 16 one))
    (zip2 (λ a b. lane (eqb a b)) v (replicate 16 other)))) % 2 ^ 64

pub marks_are : (one other : ℕ) (v : List ℕ) → length v ≡ 16
    → marks_of_two one other v ≡ mask_l (map (is_byte2 one other) v)
marks_are one other v long =
    let of = λ (y x : ℕ). lane (eqb x y) in
    let lanes = zip2_of_maps bit_or (of one) (of other) v (zip2_splat _ v 16 one long)
    (zip2_splat _ v 16 other long) in
    ap (λ l. mask_l (map (top 7) l) % 2 ^ 64) lanes
    ∙ ap (λ l. mask_l l % 2 ^ 64) (map-map (top 7) _ v
    ∙ (λ i. map (λ x. top_of_either (eqb x one) (eqb x other) i) v))
    ∙ mask_l-mod (map (is_byte2 one other) v) 64 (omega (arith, length-map v (is_byte2 one other)))

-- if no bit is set, there is no such byte
pub none_marked : (test : ℕ → Bool) (text : List ℕ) (i n : ℕ) → i + n ≤ length text
    → mask_l (map test (chunk i n text)) ≡ 0 → Nowhere (Passes test text) i (i + n)
none_marked test text i n room none k from to is =
    true≢false (sym is ∙ none_from_empty_mask test text i n 0 room none k from to)

one_more : (b : Bool) (n p l : ℕ) → 0 < cond b 1 0 + 2 * n → (0 < n → p < l)
    → cond (not b) (1 + p) 0 < suc l
one_more true n p l some more = omega arith
one_more false n p l some more = omega (arith, more (omega arith))

run_ends : (test : ℕ → Bool) (v : List ℕ) → 0 < mask_l (map test v)
    → prefix_len (λ x. not (test x)) v < length v
run_ends test [] some = absurd (omega arith)
run_ends test (x ∷ xs) some =
    one_more (test x) (mask_l (map test xs)) _ (length xs) some (run_ends test xs)

-- the lowest bit stands for the first such byte
pub first_marked : (test : ℕ → Bool) (text : List ℕ) (i n m : ℕ) → i + n ≤ length text → n ≤ 64
    → m ≡ mask_l (map test (chunk i n text)) → ¬ (m ≡ 0)
    → IsFirst (Passes test text) i (i + n) (Some (i + count_trailing_zeros 64 m))
first_marked test text i n m room few is some =
    let v = chunk i n text in
    let r = count_trailing_zeros 64 m in
    let long = length-chunk i n text room in
    let set : 0 < mask_l (map test v) = omega (arith, is, some) in
    let counted : r ≡ prefix_len (λ x. not (test x)) v =
    ap (count_trailing_zeros 64) is ∙ trailing_mask_l test 64 v (omega (arith, long)) set in
    let short : r < n = omega (arith, counted, run_ends test v set, long) in (
      record {
        low = omega arith;
        high = omega arith;
        before = λ k from to h.
            true≢false (sym h ∙ run_in_chunk_fails test text i n r 0 room counted k from to);
      },
      run_in_chunk_stops test text i n r 0 room counted short,
    )

-- there is none in what was seen, so the first among others is the first of all
pub found_later : (P : ℕ → Type 0) (from seen to end r : ℕ) → from ≤ seen → to ≤ end
    → Nowhere P 0 seen → NoneBefore P from to r × P r → NoneBefore P 0 end r × P r
found_later P from seen to end r le within before first = (
  record {
    low = omega arith;
    high = omega (arith, first.0.high);
    before = λ k low high. elim (cases_lt k seen) [
      | inl early ↦ before k low early
      | inr late ↦ first.0.before k (omega arith) high
    ];
  },
  first.1,
)

-- there is none in what was seen, so the first of the rest is the first of all
pub first_of_all : (P : ℕ → Type 0) (from seen end : ℕ) (found : Option ℕ) → from ≤ seen
    → Nowhere P 0 seen → IsFirst P from end found → IsFirst P 0 end found
first_of_all P from seen end None le before none = λ k low high.
    elim (cases_lt k seen) [ inl early ↦ before k low early | inr late ↦ none k (omega arith) high ]
first_of_all P from seen end (Some r) le before first =
    found_later P from seen end end r le (omega arith) before first

-- there is none in what was seen, and none in the bytes that follow
pub none_further : (P : ℕ → Type 0) (seen n : ℕ) → Nowhere P 0 seen → Nowhere P seen (seen + n)
    → Nowhere P 0 (seen + n)
none_further P seen n before none k low high =
    elim (cases_lt k seen) [ inl early ↦ before k low early | inr late ↦ none k late high ]
