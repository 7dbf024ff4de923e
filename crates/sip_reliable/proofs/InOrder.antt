-- The numbers taken in order, with one more number; they are consecutive.
use Rattle.std.proofs.Common.{◌≡◌, ◌≢◌, ℕ, zero, suc, ◌+◌, ◌<◌, ◌==◌, nat_le, Bool, true, false, cond, List, [], ◌∷◌, ◌++◌, length, Option, Some, refl, sym, ap, ◌∙◌, append-nil, arith, add-one, slice_index, AllPairs}
use Rattle.std.specs.List.{last_or}
use Rattle.std.proofs.lemmas.Bool.{eqb-true}
use Rattle.std.proofs.lemmas.List.Kept.{AllPairs-from_increasing}
use Rattle.sip_reliable.specs.declared.offer.Offer.{Offer}
use Rattle.sip_reliable.specs.declared.offer.Offer.TheVariants.{Taken, Repeat, Gap}
use Rattle.sip_reliable.specs.Inbound.{following, in_order, latest, offered, taken, latest_after, IsConsecutive}

following-append : (last : ℕ) (ns : List ℕ) (r : ℕ)
    → following last (ns ++ r ∷ []) ≡ following last ns
    ++ taken (offered (last_or (Some last) (following last ns)) r) r
following-append last [] r =
    elim (r == last + 1) as (λ b. cond b (r ∷ []) []
    ≡ taken (cond b Taken (cond (nat_le r last) Repeat Gap)) r) [
      | true ↦ refl
      | false ↦ elim (nat_le r last) as (λ b. []
          ≡ taken (cond b Repeat Gap) r) [ true ↦ refl | false ↦ refl ]
    ]
following-append last (n ∷ ns) r =
    elim (n == last + 1) as (λ b. cond b (n ∷ following n (ns ++ r ∷ []))
    (following last (ns ++ r ∷ [])) ≡ cond b (n ∷ following n ns) (following last ns)
    ++ taken (offered (last_or (Some last) (cond b (n ∷ following n ns) (following last ns))) r)
    r) [
      | true ↦ ap (λ xs. n ∷ xs) (following-append n ns r)
      | false ↦ following-append last ns r
    ]

-- one more number
in_order-append : (came : List ℕ) (r : ℕ)
    → in_order (came ++ r ∷ []) ≡ in_order came ++ taken (offered (latest came) r) r
in_order-append [] r = refl
in_order-append (n ∷ ns) r = ap (λ xs. n ∷ xs) (following-append n ns r)

last_or_push : (o : Option ℕ) (xs : List ℕ) (r : ℕ) → last_or o (xs ++ r ∷ []) ≡ Some r
last_or_push o [] r = refl
last_or_push o (x ∷ xs) r = last_or_push (Some x) xs r

last_or_taken : (offer : Offer) (o : Option ℕ) (xs : List ℕ) (r : ℕ)
    → last_or o (xs ++ taken offer r) ≡ latest_after offer (last_or o xs) r
last_or_taken Taken o xs r = last_or_push o xs r
last_or_taken Repeat o xs r = ap (last_or o) (append-nil xs)
last_or_taken Gap o xs r = ap (last_or o) (append-nil xs)

latest-append : (came : List ℕ) (r : ℕ)
    → latest (came ++ r ∷ []) ≡ latest_after (offered (latest came) r) (latest came) r
latest-append came r = ap (last_or _) (in_order-append came r)
    ∙ last_or_taken (offered (latest came) r) _ (in_order came) r

-- what a call did, said over all that came
pub stays : (old new : Option ℕ) (offer : Offer) (came : List ℕ) (r : ℕ) → offer ≡ offered old r
    → new ≡ latest_after offer old r → old ≡ latest came → new ≡ latest (came ++ r ∷ [])
stays old new offer came r answer after stands = let e = latest-append came r in cc

pub takes : (old : Option ℕ) (offer : Offer) (came : List ℕ) (r : ℕ) → offer ≡ offered old r
    → old ≡ latest came → in_order (came ++ r ∷ []) ≡ in_order came ++ taken offer r
takes old offer came r answer stands = let e = in_order-append came r in cc

-- ---- they are consecutive

abbrev Follows : ℕ → List ℕ → Type 0
Follows last [] = Unit {0}
Follows last (x ∷ xs) = (x ≡ last + 1) × Follows x xs

follows_one : (last n : ℕ) (next others : List ℕ) (b : Bool) → (n == last + 1) ≡ b → Follows n next
    → Follows last others → Follows last (cond b (n ∷ next) others)
follows_one last n next others true same f g = (eqb-true n (last + 1) same, f)
follows_one last n next others false same f g = g

follows : (last : ℕ) (ns : List ℕ) → Follows last (following last ns)
follows last [] = tt
follows last (n ∷ ns) = follows_one last n (following n ns) (following last ns) (n == last + 1) refl
    (follows n ns) (follows last ns)

consecutive_from : (last : ℕ) (xs : List ℕ) → Follows last xs → IsConsecutive (last ∷ xs)
consecutive_from last [] f = λ k h. absurd (omega arith)
consecutive_from last (x ∷ xs) f =
    λ k h. elim k as (λ j. j + 1 < length (last ∷ x ∷ xs)
    → slice_index (last ∷ x ∷ xs) (j + 1) ≡ slice_index (last ∷ x ∷ xs) j + 1) [
      | zero ↦ λ _. f.0
      | suc j ↦ λ below.
          ap (slice_index (last ∷ x ∷ xs)) (add-one (suc j))
          ∙ ap (slice_index (x ∷ xs)) (sym (add-one j))
          ∙ consecutive_from x xs f.1 j (omega (arith, below))
    ] h

pub consecutive : (came : List ℕ) → IsConsecutive (in_order came)
consecutive [] = λ k h. absurd (omega arith)
consecutive (n ∷ ns) = consecutive_from n (following n ns) (follows n ns)

-- no number is taken twice
pub once : (came : List ℕ) → AllPairs (λ x y. x ≢ y) (in_order came)
once came = λ i j d before within same.
    let less = AllPairs-from_increasing (in_order came)
    (λ k h. omega (arith, consecutive came k h)) i j d before within in
    omega (arith, less, same)
