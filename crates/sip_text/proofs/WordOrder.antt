-- The order of two texts, found by comparing words of eight bytes.
use Rattle.std.proofs.Common.{◌≡◌, ◌≢◌, ℕ, zero, suc, ◌+◌, ◌-◌, ◌*◌, ◌^◌, ◌<◌, ◌≤◌, min, List, [], ◌∷◌, ◌++◌, length, get_or, take, drop, refl, sym, ap, ◌∙◌, subst, arith, w8, Fits}
use Rattle.std.proofs.Math.Nat.{mul-le-mul_right, pow-suc}
use Rattle.std.proofs.Math.Seq.{drop-cons, take-add}
use Rattle.std.proofs.lemmas.Cmp.{by_ranked, ranked}
use Rattle.std.proofs.lemmas.List.{length-drop, length-take-le, take-append-drop}
use Rattle.std.proofs.lemmas.List.Elements.{All-drop, All-from_get_or, All-head, All-tail, All-take}
use Rattle.std.specs.Cmp.{nat_cmp_is}
use Rattle.std.specs.Cmp.Lexicographic.{slice_cmp}
use Rattle.std.specs.Int.{from_be_bytes, w64}
use Rattle.std.specs.List.{All}
use Rattle.std.specs.Ordering.{MatchOrdering, nat_cmp, ordering_then}
use Rattle.std.specs.declared.cmp.Ordering.{Ordering}
use Rattle.std.specs.declared.cmp.Ordering.TheVariants.{Less, Equal, Greater}

-- ---- one order after another

then_then : (p q r : Ordering)
    → ordering_then (ordering_then p q) r ≡ ordering_then p (ordering_then q r)
then_then Less q r = refl
then_then Equal q r = refl
then_then Greater q r = refl

first_equal : (p q : Ordering) → ordering_then p q ≡ Equal → p ≡ Equal
first_equal Less q e = e
first_equal Equal q e = refl
first_equal Greater q e = e

second_equal : (p q : Ordering) → ordering_then p q ≡ Equal → q ≡ Equal
second_equal Less q e = absurd cc
second_equal Equal q e = e
second_equal Greater q e = absurd cc

decided : (x y : ℕ) (rest : Ordering) → x ≢ y
    → ordering_then (nat_cmp x y) rest ≡ nat_cmp x y
decided x y rest differ =
    by_ranked (x < y) (x ≡ y) (y < x) (nat_cmp x y) (ranked x y (nat_cmp x y) refl)
    (λ is below. ap (λ o. ordering_then o rest) is ∙ sym is)
    (λ is same. absurd (differ same))
    (λ is above. ap (λ o. ordering_then o rest) is ∙ sym is)

equal_at : (x y : ℕ) → x ≡ y → nat_cmp x y ≡ Equal
equal_at x y same = sym (nat_cmp_is x y Equal same)

-- ---- texts in two parts

texts_in_parts : (xs ys us vs : List ℕ) → length xs ≡ length ys
    → slice_cmp nat_cmp (xs ++ us) (ys ++ vs)
    ≡ ordering_then (slice_cmp nat_cmp xs ys) (slice_cmp nat_cmp us vs)
texts_in_parts [] [] us vs e = refl
texts_in_parts [] (y ∷ ys) us vs e = absurd (omega (arith, e))
texts_in_parts (x ∷ xs) [] us vs e = absurd (omega (arith, e))
texts_in_parts (x ∷ xs) (y ∷ ys) us vs e =
    ap (ordering_then (nat_cmp x y)) (texts_in_parts xs ys us vs (omega (arith, e)))
    ∙ sym (then_then (nat_cmp x y) (slice_cmp nat_cmp xs ys) (slice_cmp nat_cmp us vs))

-- the order of the first bytes of two texts
abbrev pub order_to : List ℕ → List ℕ → ℕ → Ordering
order_to a b place = slice_cmp nat_cmp (take place a) (take place b)

-- the order of the bytes that follow a place
abbrev order_at : List ℕ → List ℕ → ℕ → ℕ → Ordering
order_at a b place count =
    slice_cmp nat_cmp (take count (drop place a)) (take count (drop place b))

module _ (a b : List ℕ) where
  at_place : (place : ℕ) → place ≤ length a → place ≤ length b
      → slice_cmp nat_cmp a b
      ≡ ordering_then (order_to a b place) (slice_cmp nat_cmp (drop place a) (drop place b))
  at_place place in_a in_b =
      let parts = texts_in_parts (take place a) (take place b) (drop place a) (drop place b)
      (length-take-le place a in_a ∙ sym (length-take-le place b in_b)) in
      sym (λ i. slice_cmp nat_cmp (take-append-drop place a i) (take-append-drop place b i)) ∙ parts

  further : (place count : ℕ) → place + count ≤ length a → place + count ≤ length b
      → order_to a b (place + count)
      ≡ ordering_then (order_to a b place) (order_at a b place count)
  further place count in_a in_b =
      let parts = texts_in_parts (take place a) (take place b)
      (take count (drop place a)) (take count (drop place b))
      (length-take-le place a (omega arith) ∙ sym (length-take-le place b (omega arith))) in
      (λ i. slice_cmp nat_cmp (take-add place count a i) (take-add place count b i)) ∙ parts

  -- texts that agree up to a place agree up to each place before it
  pub equal_before : (place before : ℕ) → before ≤ place → place ≤ length a → place ≤ length b
      → order_to a b place ≡ Equal → order_to a b before ≡ Equal
  equal_before place before below in_a in_b equal =
      let same : place ≡ before + (place - before) = omega arith in
      let parts = further before (place - before) (omega arith) (omega arith) in
      first_equal (order_to a b before) (order_at a b before (place - before))
      (sym parts ∙ ap (order_to a b) (sym same) ∙ equal)

  module _ (place count x y : ℕ) (in_a : place + count ≤ length a) (in_b : place + count ≤ length b)
      (equal : order_to a b place ≡ Equal) (numbers : order_at a b place count ≡ nat_cmp x y) where
    to_end : order_to a b (place + count) ≡ nat_cmp x y
    to_end =
        further place count in_a in_b
        ∙ ap (λ o. ordering_then o (order_at a b place count)) equal ∙ numbers

    differ : x ≢ y → nat_cmp x y ≡ slice_cmp nat_cmp a b
    differ different =
        let rest = slice_cmp nat_cmp (drop (place + count) a) (drop (place + count) b) in
        sym (at_place (place + count) in_a in_b ∙ ap (λ o. ordering_then o rest) to_end
        ∙ decided x y rest different)

    agree : x ≡ y → order_to a b (place + count) ≡ Equal
    agree same = to_end ∙ equal_at x y same

-- ---- texts of which one begins with the other

longer : (o : Ordering) (m n : ℕ) → MatchOrdering o (m < n) (m ≡ n) (n < m)
    → MatchOrdering o (suc m < suc n) (suc m ≡ suc n) (suc n < suc m)
longer Less m n h = omega (arith, h)
longer Equal m n h = omega (arith, h)
longer Greater m n h = omega (arith, h)

by_length : (a b : List ℕ) (both : ℕ) → both ≡ min (length a) (length b)
    → order_to a b both ≡ Equal
    → MatchOrdering (slice_cmp nat_cmp a b) (length a < length b) (length a ≡ length b)
    (length b < length a)
by_length [] [] both is equal = refl
by_length [] (y ∷ ys) both is equal = omega arith
by_length (x ∷ xs) [] both is equal = omega arith
by_length (x ∷ xs) (y ∷ ys) zero is equal = absurd (omega (arith, is))
by_length (x ∷ xs) (y ∷ ys) (suc both) is equal =
    let first = first_equal (nat_cmp x y) (order_to xs ys both) equal in
    let rest = second_equal (nat_cmp x y) (order_to xs ys both) equal in
    let known = longer (slice_cmp nat_cmp xs ys) (length xs) (length ys)
    (by_length xs ys both (omega (arith, is)) rest) in
    subst (λ (o : Ordering). MatchOrdering (ordering_then o (slice_cmp nat_cmp xs ys))
    (suc (length xs) < suc (length ys)) (suc (length xs) ≡ suc (length ys))
    (suc (length ys) < suc (length xs))) (sym first) known

pub lengths_decide : (a b : List ℕ) (both : ℕ) → both ≡ min (length a) (length b)
    → order_to a b both ≡ Equal → nat_cmp (length a) (length b) ≡ slice_cmp nat_cmp a b
lengths_decide a b both is equal =
    sym (nat_cmp_is (length a) (length b) (slice_cmp nat_cmp a b) (by_length a b both is equal))

-- ---- bytes as one number, the first byte being the highest

abbrev Byte : ℕ → Type 0
Byte b = b < 256

worth : List ℕ → ℕ
worth [] = 0
worth (b ∷ bs) = b * 256 ^ length bs + worth bs

worth_fits : (bs : List ℕ) → All Byte bs → worth bs < 256 ^ length bs
unfolding worth
worth_fits [] all = omega arith
worth_fits (b ∷ bs) all =
    let below : b < 256 = All-head Byte b bs all in
    let rest = worth_fits bs (All-tail Byte b bs all) in
    let first : suc b * 256 ^ length bs ≤ 256 * 256 ^ length bs =
    mul-le-mul_right (256 ^ length bs) below in
    omega (arith, rest, first, pow-suc 256 (length bs))

-- numbers in two parts are ordered by their higher parts first
ranked_parts : (x y p q size : ℕ) (first rest : Ordering) → p < size → q < size
    → MatchOrdering first (x < y) (x ≡ y) (y < x) → MatchOrdering rest (p < q) (p ≡ q) (q < p)
    → MatchOrdering (ordering_then first rest) (x * size + p < y * size + q)
    (x * size + p ≡ y * size + q) (y * size + q < x * size + p)
ranked_parts x y p q size Less rest in_p in_q f r =
    let k : suc x * size ≤ y * size = mul-le-mul_right size f in omega (arith, k)
ranked_parts x y p q size Greater rest in_p in_q f r =
    let k : suc y * size ≤ x * size = mul-le-mul_right size f in omega (arith, k)
ranked_parts x y p q size Equal Less in_p in_q f r = omega (arith, ap (λ n. n * size) f, r)
ranked_parts x y p q size Equal Equal in_p in_q f r = omega (arith, ap (λ n. n * size) f, r)
ranked_parts x y p q size Equal Greater in_p in_q f r = omega (arith, ap (λ n. n * size) f, r)

ranked_worth : (xs ys : List ℕ) → length xs ≡ length ys → All Byte xs → All Byte ys
    → MatchOrdering (slice_cmp nat_cmp xs ys) (worth xs < worth ys) (worth xs ≡ worth ys)
    (worth ys < worth xs)
unfolding worth
ranked_worth [] [] e in_x in_y = refl
ranked_worth [] (y ∷ ys) e in_x in_y = absurd (omega (arith, e))
ranked_worth (x ∷ xs) [] e in_x in_y = absurd (omega (arith, e))
ranked_worth (x ∷ xs) (y ∷ ys) e in_x in_y =
    let same : length xs ≡ length ys = omega (arith, e) in
    let all_xs = All-tail Byte x xs in_x in
    let all_ys = All-tail Byte y ys in_y in
    let in_ys : worth ys < 256 ^ length xs =
    subst (λ n. worth ys < 256 ^ n) (sym same) (worth_fits ys all_ys) in
    let known = ranked_parts x y (worth xs) (worth ys) (256 ^ length xs) (nat_cmp x y)
    (slice_cmp nat_cmp xs ys) (worth_fits xs all_xs) in_ys (ranked x y (nat_cmp x y) refl)
    (ranked_worth xs ys same all_xs all_ys) in
    subst (λ n. MatchOrdering (ordering_then (nat_cmp x y) (slice_cmp nat_cmp xs ys))
    (x * 256 ^ length xs + worth xs < y * 256 ^ n + worth ys)
    (x * 256 ^ length xs + worth xs ≡ y * 256 ^ n + worth ys)
    (y * 256 ^ n + worth ys < x * 256 ^ length xs + worth xs)) same known

word_worth : (bs : List ℕ) → length bs ≡ 8 → from_be_bytes w64 bs ≡ worth bs
unfolding worth
word_worth (b ∷ c ∷ d ∷ e ∷ f ∷ g ∷ h ∷ i ∷ []) eight = omega arith
word_worth bs eight = absurd (omega (arith, eight))

words_order : (xs ys : List ℕ) → length xs ≡ 8 → length ys ≡ 8 → All Byte xs → All Byte ys
    → slice_cmp nat_cmp xs ys ≡ nat_cmp (from_be_bytes w64 xs) (from_be_bytes w64 ys)
words_order xs ys x8 y8 in_x in_y =
    nat_cmp_is (worth xs) (worth ys) (slice_cmp nat_cmp xs ys)
    (ranked_worth xs ys (x8 ∙ sym y8) in_x in_y)
    ∙ sym (λ i. nat_cmp (word_worth xs x8 i) (word_worth ys y8 i))

-- ---- the words at a place

all_bytes : (bs : List ℕ) → ((i : ℕ) → Fits w8 (get_or bs i 0)) → All Byte bs
all_bytes bs fits = All-from_get_or Byte bs 0 (λ i _. omega (arith, fits i))

length_at : (bs : List ℕ) (place count : ℕ) → place + count ≤ length bs
    → length (take count (drop place bs)) ≡ count
length_at bs place count in_bs =
    length-take-le count (drop place bs) (omega (arith, length-drop place bs))

module _ (a b : List ℕ) (in_a : (i : ℕ) → Fits w8 (get_or a i 0))
    (in_b : (i : ℕ) → Fits w8 (get_or b i 0)) (place x y : ℕ) (end_a : place + 8 ≤ length a)
    (end_b : place + 8 ≤ length b) (equal : order_to a b place ≡ Equal)
    (is_x : x ≡ from_be_bytes w64 (take 8 (drop place a)))
    (is_y : y ≡ from_be_bytes w64 (take 8 (drop place b))) where
  words_at : order_at a b place 8 ≡ nat_cmp x y
  words_at =
      words_order (take 8 (drop place a)) (take 8 (drop place b)) (length_at a place 8 end_a)
      (length_at b place 8 end_b) (All-take Byte 8 (drop place a) (All-drop Byte place a
      (all_bytes a in_a))) (All-take Byte 8 (drop place b) (All-drop Byte place b
      (all_bytes b in_b))) ∙ sym (λ i. nat_cmp (is_x i) (is_y i))

  pub words_differ : x ≢ y → nat_cmp x y ≡ slice_cmp nat_cmp a b
  words_differ = differ a b place 8 x y end_a end_b equal words_at

  pub words_agree : x ≡ y → order_to a b (place + 8) ≡ Equal
  words_agree = agree a b place 8 x y end_a end_b equal words_at

-- ---- the bytes at a place

then_equal : (o : Ordering) → ordering_then o Equal ≡ o
then_equal Less = refl
then_equal Equal = refl
then_equal Greater = refl

module _ (a b : List ℕ) (place : ℕ) (end_a : place < length a) (end_b : place < length b)
    (equal : order_to a b place ≡ Equal) where
  bytes_at : order_at a b place 1 ≡ nat_cmp (get_or a place 0) (get_or b place 0)
  bytes_at =
      (λ i. slice_cmp nat_cmp (take 1 (drop-cons a place 0 end_a i))
      (take 1 (drop-cons b place 0 end_b i)))
      ∙ then_equal (nat_cmp (get_or a place 0) (get_or b place 0))

  pub bytes_differ : get_or a place 0 ≢ get_or b place 0
      → nat_cmp (get_or a place 0) (get_or b place 0) ≡ slice_cmp nat_cmp a b
  bytes_differ = differ a b place 1 (get_or a place 0) (get_or b place 0) (omega arith)
      (omega arith) equal bytes_at

  pub bytes_agree : get_or a place 0 ≡ get_or b place 0 → order_to a b (place + 1) ≡ Equal
  bytes_agree = agree a b place 1 (get_or a place 0) (get_or b place 0) (omega arith)
      (omega arith) equal bytes_at
