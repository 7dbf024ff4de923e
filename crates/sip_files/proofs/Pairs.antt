-- The bytes of a seed, one after another: what is read is spelled that way, and that spelling is
-- read.
use Rattle.std.proofs.Common.{◌≡◌, ℕ, zero, suc, ◌+◌, ◌-◌, ◌<◌, ◌≤◌, Bool, true, cond, eqb, List, [], ◌∷◌, ◌++◌, length, take, set, Option, Some, None, refl, sym, ap, subst, ◌∙◌, append_assoc, arith}
use Rattle.std.specs.List.{flat_map}
use Rattle.std.proofs.lemmas.Bool.{and_parts, and_from, ltb-true, lt-ltb, ne_eqb}
use Rattle.std.proofs.lemmas.List.{append-nil, take_more_set, take_all}
use Rattle.sip_text.proofs.Options.{bind_some, same_some}
use Rattle.sip_text.specs.Options.{◌>>=◌}
use Rattle.sip_files.specs.Word.{hex_pair, are_bytes}
use Rattle.sip_files.specs.Steps.Reading.{hex_byte, pair_at, pairs_at}
use Rattle.sip_files.proofs.Hex.{pair_takes, pair_again}
use Rattle.sip_files.proofs.Escapes.{onto}

regroup : (front : List ℕ) (b : ℕ) (read : Option (List ℕ))
    → onto front (read >>= λ more. Some (b ∷ more)) ≡ onto (front ++ b ∷ []) read
regroup front b None = refl
regroup front b (Some more) = ap (λ (bs : List ℕ). Some bs) (sym (append_assoc front (b ∷ []) more))

-- ---- a loop over the bytes of a seed

pub seed_goes_on : (n i : ℕ) (seed left : List ℕ) (b : ℕ) (after : List ℕ) (total : Option (List ℕ))
    → i < n → length seed ≡ n → Some (b, after) ≡ pair_at left
    → onto (take i seed) (pairs_at (n - i) left) ≡ total
    → onto (take (i + 1) (set seed i b)) (pairs_at (n - (i + 1)) after) ≡ total
unfolding pairs_at
seed_goes_on n i seed left b after total lt len is so_far =
    let k : n - i ≡ suc (n - (i + 1)) = omega arith in
    let one : pairs_at (n - i) left ≡ (pairs_at (n - (i + 1)) after >>= λ more. Some (b ∷ more)) =
    ap (λ m. pairs_at m left) k ∙ ap
    (λ o. o >>= λ p. pairs_at (n - (i + 1)) p.1 >>= λ more. Some (p.0 ∷ more)) (sym is) in
    let front : take (i + 1) (set seed i b) ≡ take i seed ++ b ∷ [] =
    take_more_set seed i b (omega arith) in
    ap (λ f. onto f (pairs_at (n - (i + 1)) after)) front
    ∙ sym (ap (onto (take i seed)) one ∙ regroup (take i seed) b (pairs_at (n - (i + 1)) after))
    ∙ so_far

pub seed_stops : (n i : ℕ) (front left : List ℕ) (total : Option (List ℕ)) → i < n
    → None ≡ pair_at left → onto front (pairs_at (n - i) left) ≡ total → None ≡ total
unfolding pairs_at
seed_stops n i front left total lt none so_far =
    let k : n - i ≡ suc (n - (i + 1)) = omega arith in
    let one : pairs_at (n - i) left ≡ None =
    ap (λ m. pairs_at m left) k ∙ ap
    (λ o. o >>= λ p. pairs_at (n - (i + 1)) p.1 >>= λ more. Some (p.0 ∷ more)) (sym none) in
    sym (ap (onto front) one) ∙ so_far

at_end : (front left : List ℕ)
    → onto front (pairs_at 0 left) ≡ cond (eqb (length left) 0) (Some front) None
unfolding pairs_at
at_end front [] = ap (λ (bs : List ℕ). Some bs) (append-nil front)
at_end front (b ∷ bs) =
    sym (ap (λ r. cond r (Some front) None) (ne_eqb (length (b ∷ bs)) 0 (λ e. omega (arith, e))))

pub seed_ends : (n i : ℕ) (seed left : List ℕ) (total : Option (List ℕ)) (r : Bool) → n ≤ i
    → length seed ≡ n → eqb (length left) 0 ≡ r → onto (take i seed) (pairs_at (n - i) left) ≡ total
    → cond r (Some seed) None ≡ total
seed_ends n i seed left total r le len is so_far =
    let k : n - i ≡ 0 = omega arith in
    let all : take i seed ≡ seed = take_all i seed (omega arith) in
    sym (ap (λ f. onto f (pairs_at (n - i) left)) all ∙ ap (λ m. onto seed (pairs_at m left)) k
    ∙ at_end seed left ∙ ap (λ r. cond r (Some seed) None) is) ∙ so_far

-- ---- what is read is spelled that way, and that spelling is read

-- the one spelling of bytes by their hexadecimal digits
abbrev pub spelled_pairs : List ℕ → List ℕ
spelled_pairs bytes = flat_map hex_pair bytes

pair_took : (text : List ℕ) (b : ℕ) (rest : List ℕ) → pair_at text ≡ Some (b, rest)
    → (text ≡ hex_pair b ++ rest) × (b < 256)
unfolding pair_at
pair_took [] b rest e = absurd cc
pair_took (high ∷ []) b rest e = absurd cc
pair_took (high ∷ low ∷ after) b rest e =
    let x = bind_some (hex_byte high low) (λ b. Some (b, after)) (b, rest) e in
    let p = pair_takes high low x.0 x.1 in
    let whole : high ∷ low ∷ after ≡ hex_pair x.0 ++ after = ap (λ (d : List ℕ). d ++ after) p.0 in
    let P : ℕ × List ℕ → Type 0 = λ y. (high ∷ low ∷ after ≡ hex_pair y.0 ++ y.1) × (y.0 < 256) in
    subst P (same_some (x.0, after) (b, rest) x.2) (whole, p.1)

pair_again_at : (b : ℕ) (rest : List ℕ) → b < 256 → pair_at (hex_pair b ++ rest) ≡ Some (b, rest)
unfolding pair_at
pair_again_at b rest lt = ap (λ o. o >>= λ b. Some (b, rest)) (pair_again b lt)

pub pairs_took : (n : ℕ) (text bytes : List ℕ) → pairs_at n text ≡ Some bytes
    → (text ≡ spelled_pairs bytes) × (length bytes ≡ n) × (are_bytes bytes ≡ true)
unfolding pairs_at
pairs_took zero [] bytes e =
    let P : List ℕ → Type 0 = λ y. ([] ≡ spelled_pairs y) × (length y ≡ 0) × (are_bytes y ≡ true) in
    subst P (same_some [] bytes e) (refl, refl, refl)
pairs_took zero (b ∷ bs) bytes e = absurd cc
pairs_took (suc n) text bytes e =
    let x = bind_some (pair_at text) (λ p. pairs_at n p.1 >>= λ more. Some (p.0 ∷ more)) bytes e in
    let y = bind_some (pairs_at n x.0.1) (λ more. Some (x.0.0 ∷ more)) bytes x.2 in
    let first = pair_took text x.0.0 x.0.1 x.1 in
    let others = pairs_took n x.0.1 y.0 y.1 in
    let P : List ℕ → Type 0 =
    λ z. (text ≡ spelled_pairs z) × (length z ≡ suc n) × (are_bytes z ≡ true) in
    subst P (same_some (x.0.0 ∷ y.0) bytes y.2) (
      first.0 ∙ ap (λ (r : List ℕ). hex_pair x.0.0 ++ r) others.0,
      omega (arith, others.1),
      and_from _ _ (lt-ltb x.0.0 256 first.1) others.2,
    )

pub pairs_again : (bytes : List ℕ) → are_bytes bytes ≡ true
    → pairs_at (length bytes) (spelled_pairs bytes) ≡ Some bytes
unfolding pairs_at
pairs_again [] fits = refl
pairs_again (b ∷ bs) fits =
    let parts = and_parts _ _ fits in
    ap (λ o. o >>= λ p. pairs_at (length bs) p.1 >>= λ more. Some (p.0 ∷ more))
    (pair_again_at b (spelled_pairs bs) (ltb-true b 256 parts.0))
    ∙ ap (λ o. o >>= λ more. Some (b ∷ more)) (pairs_again bs parts.1)
