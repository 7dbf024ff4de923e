-- A made name determines its round, its place and its index.
use Rattle.std.proofs.Common.{◌≡◌, ℕ, zero, suc, ◌/◌, ◌%◌, ◌<◌, ◌^◌, List, [], ◌∷◌, ◌++◌, length, take, drop, sym, ap, ◌∙◌, arith, length-append}
use Rattle.std.proofs.lemmas.Bool.Decides.{nat_tests}
use Rattle.std.proofs.Math.Seq.{take-append_seam, drop-append_seam}
use Rattle.sip_clients.proofs.Hex.{length-hex}
use Rattle.sip_text.specs.Number.{hex_digit}
use Rattle.sip_clients.specs.Name.{hex, NamesDiffer}

-- two texts of two parts each; the first parts have the same length
module _ (xs ys zs ws : List ℕ) (long : length xs ≡ length ys) (same : xs ++ zs ≡ ys ++ ws) where
  first_parts : xs ≡ ys
  first_parts = sym (take-append_seam xs zs) ∙ ap (take (length xs)) same
      ∙ ap (λ n. take n (ys ++ ws)) long ∙ take-append_seam ys ws

  last_parts : zs ≡ ws
  last_parts = sym (drop-append_seam xs zs) ∙ ap (drop (length xs)) same
      ∙ ap (λ n. drop n (ys ++ ws)) long ∙ drop-append_seam ys ws

-- a digit determines its value
digit-injective : (a b : ℕ) → hex_digit a ≡ hex_digit b → a ≡ b
digit-injective a b e = grind (arith, nat_tests)

abbrev head_of : List ℕ → ℕ
head_of [] = 0
head_of (x ∷ xs) = x

joined_again : (m n c : ℕ) → m / 16 ≡ n / 16 → m % 16 ≡ n % 16 → m ≡ n
joined_again m n c e f = omega (arith, e, f)

smaller : (count m : ℕ) → m < 16 ^ suc count → m / 16 < 16 ^ count
smaller count m lt = omega (arith, lt)

-- so many digits determine a number that has so many
hex-injective : (count m n : ℕ) → m < 16 ^ count → n < 16 ^ count → hex count m ≡ hex count n
    → m ≡ n
unfolding hex
hex-injective zero m n small other e = omega (arith, small, other)
hex-injective (suc count) m n small other e =
    let long : length (hex count (m / 16)) ≡ length (hex count (n / 16)) =
    length-hex count (m / 16) ∙ sym (length-hex count (n / 16)) in
    let fronts : hex count (m / 16) ≡ hex count (n / 16) =
    first_parts _ _ (hex_digit (m % 16) ∷ []) (hex_digit (n % 16) ∷ []) long e in
    let lasts : hex_digit (m % 16) ≡ hex_digit (n % 16) =
    ap head_of (last_parts (hex count (m / 16)) (hex count (n / 16)) _ _ long e) in
    joined_again m n count (hex-injective count (m / 16) (n / 16) (smaller count m small)
    (smaller count n other) fronts) (digit-injective (m % 16) (n % 16) lasts)

alike : (count m n : ℕ) → length (hex count m) ≡ length (hex count n)
alike count m n = length-hex count m ∙ sym (length-hex count n)

both : (xs ys zs ws : List ℕ) → length xs ≡ length ys → length zs ≡ length ws
    → length (xs ++ zs) ≡ length (ys ++ ws)
both xs ys zs ws e f = omega (arith, length-append xs zs, length-append ys ws, e, f)

pub names_differ : NamesDiffer
names_differ seed other_seed id other index other_index r1 r2 p1 p2 i1 i2 same =
    let a = hex 16 id.round in let b = hex 16 id.place in let c = hex 1 index in
    let x = hex 16 other.round in let y = hex 16 other.place in let z = hex 1 other_index in
    let ax : length a ≡ length x = alike 16 id.round other.round in
    let by : length b ≡ length y = alike 16 id.place other.place in
    let cz : length c ≡ length z = alike 1 index other_index in
    let three : (a ++ b) ++ c ≡ (x ++ y) ++ z =
    first_parts ((a ++ b) ++ c) ((x ++ y) ++ z) _ _
    (both (a ++ b) (x ++ y) c z (both a x b y ax by) cz) same in
    let two : a ++ b ≡ x ++ y = first_parts (a ++ b) (x ++ y) c z (both a x b y ax by) three in
    let round : id.round ≡ other.round =
    hex-injective 16 id.round other.round r1 r2 (first_parts a x b y ax two) in
    let place : id.place ≡ other.place =
    hex-injective 16 id.place other.place p1 p2 (last_parts a x b y ax two) in
    let at : index ≡ other_index =
    hex-injective 1 index other_index i1 i2
    (last_parts (a ++ b) (x ++ y) c z (both a x b y ax by) three) in
    (λ i. record { round = round i; place = place i }, at)
