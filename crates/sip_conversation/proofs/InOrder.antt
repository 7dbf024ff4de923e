-- Of what is given in order, what is told in order and without a gap is a run.
use Rattle.std.proofs.Common.{◌≡◌, ◌≤◌, ◌<◌, ℕ, suc, ◌+◌, ◌==◌, Bool, true, false, List, [], ◌∷◌, ◌++◌, refl, sym, ap, ◌∙◌, subst, ⊎_elim, arith}
use Rattle.std.specs.Prelude.{Contains, map}
use Rattle.std.specs.List.{AllByRecursion, AllZip, slice_index}
use Rattle.std.proofs.lemmas.Grind.{common_steps}
use Rattle.sip_reliable.specs.Inbound.{IsConsecutive}
use Rattle.sip_conversation.proofs.Among.{first_or_later, none_among}

one_more : (n : ℕ) → n + 1 ≡ suc n
one_more n = omega arith

-- consecutive numbers after a first one
tail_follows : (first : ℕ) (numbers : List ℕ) → IsConsecutive (first ∷ numbers)
    → IsConsecutive numbers
tail_follows first numbers consecutive k below =
    ap (slice_index numbers) (one_more k)
    ∙ (sym (ap (slice_index (first ∷ numbers)) (one_more (suc k)))
    ∙ consecutive (suc k) (omega (arith, below)))

module _ {X : Type 0} where
  -- their numbers are this one, the next one, and so on
  abbrev pub Follow : ℕ → List (ℕ × X) → Type 0
  Follow number [] = Unit {0}
  Follow number (x ∷ xs) = (x.0 ≡ number) × Follow (suc number) xs

  pub next_follow : (first : ℕ) (xs : List (ℕ × X))
      → IsConsecutive (first ∷ map (λ x. x.0) xs) → Follow (suc first) xs
  next_follow first [] consecutive = tt
  next_follow first (x ∷ xs) consecutive =
      let next : x.0 ≡ suc first = consecutive 0 (omega arith) ∙ one_more first in (
        next,
        subst (λ n. Follow (suc n) xs) next
            (next_follow x.0 xs (tail_follows first (x.0 ∷ map (λ x. x.0) xs) consecutive)),
      )

  -- a later number is greater
  none_of_it : (number later : ℕ) (xs : List (ℕ × X)) → number < later → Follow later xs
      → (x : ℕ × X) → Contains xs x → x.0 ≡ number → ⊥
  none_of_it number later [] less follow x among is = none_among x among
  none_of_it number later (y ∷ ys) less follow x among is =
      ⊎_elim
      (λ same. absurd (omega (arith, less, follow.0, ap (λ (z : ℕ × X). z.0) same, is)))
      (λ rest. none_of_it number (suc later) ys (omega (arith, less)) follow.1 x rest is)
      (first_or_later y ys x among)

module _ {X Y : Type 0} (Tells : ℕ × X → ℕ × Y → Type 0)
    (numbers : (x : ℕ × X) (y : ℕ × Y) → Tells x y → x.0 ≡ y.0) where
  -- it tells of one of these
  abbrev pub TellsOfOne : List (ℕ × Y) → ℕ × X → Type 0
  TellsOfOne ys x = (y : ℕ × Y) × Contains ys y × Tells x y

  equal : (one two : ℕ) → (one == two) ≡ true → one ≡ two
  equal one two is = grind (arith, common_steps, is)

  above : (one two : ℕ) → one ≤ two → (two == one) ≡ false → one < two
  above one two most isnt = grind (arith, common_steps, most, isnt)

  -- consecutive ones of those that are given, and those before them
  pub record Run (told : List (ℕ × X)) (given : List (ℕ × Y)) : Type 0 where
    pub earlier : List (ℕ × Y)
    pub run : List (ℕ × Y)
    pub later : List (ℕ × Y)
    pub given_is : given ≡ earlier ++ (run ++ later)
    pub tell : AllZip Tells told run

  -- the first one has a smaller number
  not_first : (number : ℕ) (y : ℕ × Y) (ys : List (ℕ × Y)) (least : ℕ) (xs : List (ℕ × X))
      → y.0 < least → Follow least xs → AllByRecursion (TellsOfOne (y ∷ ys)) xs
      → AllByRecursion (TellsOfOne ys) xs
  not_first number y ys least [] less follow all = tt
  not_first number y ys least (x ∷ xs) less follow all =
      let one = all.0 in (
        ⊎_elim
            (λ same. absurd (omega (
              arith,
              less,
              follow.0,
              numbers x one.0 one.2,
              ap (λ (z : ℕ × Y). z.0) same,
            )))
            (λ rest. (one.0, rest, one.2))
            (first_or_later y ys one.0 one.1),
        not_first number y ys (suc least) xs (omega (arith, less)) follow.1 all.1,
      )

  -- those with the next numbers come next
  record Front (told : List (ℕ × X)) (given : List (ℕ × Y)) : Type 0 where
    pub run : List (ℕ × Y)
    pub later : List (ℕ × Y)
    pub given_is : given ≡ run ++ later
    pub tell : AllZip Tells told run

  front : (number : ℕ) (xs : List (ℕ × X)) (ys : List (ℕ × Y)) → Follow number xs
      → Follow number ys → AllByRecursion (TellsOfOne ys) xs → Front xs ys
  front number [] ys told given all = record { run = []; later = ys; given_is = refl; tell = tt }
  front number (x ∷ xs) [] told given all = absurd (none_among all.0.0 all.0.1)
  front number (x ∷ xs) (y ∷ ys) told given all =
      let one = all.0 in
      let rest = front (suc number) xs ys told.1 given.1
      (not_first number y ys (suc number) xs (omega (arith, given.0)) told.1 all.1) in
      ⊎_elim
      (λ same. record {
        run = y ∷ rest.run;
        later = rest.later;
        given_is = ap (λ zs. y ∷ zs) rest.given_is;
        tell = (subst (Tells x) (sym same) one.2, rest.tell);
      })
      (λ later. absurd (none_of_it number (suc number) ys (omega arith) given.1 one.0 later
      (sym (numbers x one.0 one.2) ∙ told.0)))
      (first_or_later y ys one.0 one.1)

  -- what is told is a run; if it begins with the number of the first that is given, it is a front
  pub run_of : (first : ℕ) (ys : List (ℕ × Y)) (least : ℕ) (xs : List (ℕ × X)) → first ≤ least
      → Follow least xs → Follow first ys → AllByRecursion (TellsOfOne ys) xs
      → (run : Run xs ys) × (least ≡ first → run.earlier ≡ [])
  run_of first [] least [] more told given all = (
    record { earlier = []; run = []; later = []; given_is = refl; tell = tt },
    λ is. refl,
  )
  run_of first [] least (x ∷ xs) more told given all = absurd (none_among all.0.0 all.0.1)
  run_of first (y ∷ ys) least xs more told given all =
      by_first (least == first) refl (λ less.
      run_of (suc first) ys least xs (omega (arith, less)) told given.1
      (not_first first y ys least xs (omega (arith, less, given.0)) told all))
    where
      Result : Type 0
      Result = (run : Run xs (y ∷ ys)) × (least ≡ first → run.earlier ≡ [])

      by_first : (b : Bool) → (least == first) ≡ b
          → (first < least → (run : Run xs ys) × (least ≡ suc first → run.earlier ≡ []))
          → Result
      by_first true is later =
          let same : least ≡ first = equal least first is in
          let whole = front least xs (y ∷ ys) told (subst (λ n. Follow n (y ∷ ys)) (sym same) given)
          all in (
            record {
              earlier = [];
              run = whole.run;
              later = whole.later;
              given_is = whole.given_is;
              tell = whole.tell;
            },
            λ is. refl,
          )
      by_first false is later =
          let less : first < least = above first least more is in
          let rest = later less in (
            record {
              earlier = y ∷ (rest.0).earlier;
              run = (rest.0).run;
              later = (rest.0).later;
              given_is = ap (λ zs. y ∷ zs) (rest.0).given_is;
              tell = (rest.0).tell;
            },
            λ same. absurd (omega (arith, less, same)),
          )
