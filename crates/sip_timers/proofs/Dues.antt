-- Lemmas on the index of a schedule: what each change means for a key, and what is first in it.
use Rattle.std.proofs.Common.{◌≡◌, ℕ, zero, suc, ◌≤◌, ◌<◌, Bool, true, false, cond, ◌&&◌, List, [], ◌∷◌, Option, Some, None, refl, sym, ap, ◌∙◌, arith, length, take, drop, filter}
use Rattle.std.specs.Prelude.{nat_lt, nat_le, ◌==◌}
use Rattle.std.specs.List.{list_any, take_while, AllByRecursion}
use Rattle.std.specs.List.Sorted.{IsStrictlySortedBy}
use Rattle.std.specs.Ordering.{is_eq, is_gt, ordering_then, nat_cmp}
use Rattle.std.specs.Cmp.{IsTotalOrder, Equal-is}
use Rattle.std.specs.BTreeMap.{is_at}
use Rattle.std.specs.declared.cmp.Ordering.{Ordering}
use Rattle.std.specs.declared.cmp.Ordering.TheVariants.{Less, Equal, Greater}
use Rattle.std.proofs.lemmas.Bool.{false≢true, ltb-true, leb-true, leb-false, eqb-true, eq-eqb, ne_eqb, lt-leb, lt-ltb, le-ltb}
use Rattle.std.proofs.lemmas.List.Sums.{take_while-cons}
use Rattle.std.proofs.lemmas.Map.Keys.{sorted_head, sorted_tail}
use Rattle.sip_timers.specs.Index.{due_cmp, is_due_at, is_moment, IsIndexOf, with_moment}

pub by_bool : {G : Type 0} (b : Bool) → (b ≡ true → G) → (b ≡ false → G) → G
by_bool true on_true on_false = on_true refl
by_bool false on_true on_false = on_false refl

-- two pairs are tied if their moments and their keys are
pub tied_pair : (a b : ℕ) (o : Ordering) → is_eq (ordering_then (nat_cmp a b) o)
    ≡ ((a == b) && is_eq o)
tied_pair a b o =
    by_bool (nat_lt a b)
    (λ lt.
    let apart : (a == b) ≡ false = ne_eqb a b (λ same. omega (arith, ltb-true a b lt, same)) in
    rw (lt, apart))
    (λ ge. by_bool (a == b) (λ same. rw (ge, same)) (λ apart. rw (ge, apart)))

pub by_ordering : {G : Type 0} (o : Ordering) → (o ≡ Less → G) → (o ≡ Equal → G) → (o ≡ Greater → G)
    → G
by_ordering Less less equal greater = less refl
by_ordering Equal less equal greater = equal refl
by_ordering Greater less equal greater = greater refl

pub moment_from : (at : ℕ) (o : Option ℕ) → is_moment at o ≡ true → o ≡ Some at
moment_from at None e = absurd (false≢true e)
moment_from at (Some due) e = ap (λ (m : ℕ). Some m) (sym (eqb-true at due e))

-- ---- what a change of the index means for a key

-- the index after a pair is put in or taken out
abbrev pub Puts : {K : Type 0} → (K → K → Ordering) → List (ℕ × K) → List (ℕ × K) → ℕ → K → Bool
    → Type 0
Puts {K} cmp dues rest due key put =
    (p : ℕ × K) → is_due_at cmp rest p.0 p.1
    ≡ cond (is_eq (due_cmp cmp (due, key) p)) put (is_due_at cmp dues p.0 p.1)

-- the index after a change of the moments of one key
abbrev pub Changes : {K : Type 0} → (K → K → Ordering) → List (ℕ × K) → List (ℕ × K) → K
    → (ℕ → Bool → Bool) → Type 0
Changes {K} cmp dues rest key change =
    (at : ℕ) (q : K) → is_due_at cmp rest at q
    ≡ cond (is_at (cmp key) q) (change at (is_due_at cmp dues at q)) (is_due_at cmp dues at q)

by_both : (a b x y : Bool) → cond (a && b) x y ≡ cond b (cond a x y) y
by_both true b x y = refl
by_both false true x y = refl
by_both false false x y = refl

twice : (f g : Bool → Bool) (here x y z : Bool) → y ≡ cond here (f x) x → z ≡ cond here (g y) y
    → z ≡ cond here (g (f x)) x
twice f g true x y z first second = second ∙ ap g first
twice f g false x y z first second = second ∙ first

module _ {K : Type 0} (cmp : K → K → Ordering) (key : K) where
  pub put_changes : (dues rest : List (ℕ × K)) (due : ℕ) (put : Bool)
      → Puts cmp dues rest due key put
      → Changes cmp dues rest key (λ at had. cond (due == at) put had)
  put_changes dues rest due put puts at q =
      puts (at, q) ∙ ap (λ b. cond b put (is_due_at cmp dues at q)) (tied_pair due at (cmp key q))
      ∙ by_both (due == at) (is_at (cmp key) q) put (is_due_at cmp dues at q)

  pub changes_twice : (dues between rest : List (ℕ × K)) (f g : ℕ → Bool → Bool)
      → Changes cmp dues between key f → Changes cmp between rest key g
      → Changes cmp dues rest key (λ at had. g at (f at had))
  changes_twice dues between rest f g first second at q =
      twice (f at) (g at) (is_at (cmp key) q) (is_due_at cmp dues at q)
      (is_due_at cmp between at q) (is_due_at cmp rest at q) (first at q) (second at q)

-- two optional moments are equal if they agree at each moment
pub same_moment : (a b : Option ℕ) → ((at : ℕ) → is_moment at a ≡ is_moment at b) → a ≡ b
same_moment None None same = refl
same_moment None (Some due) same = absurd (false≢true (same due ∙ eq-eqb due due refl))
same_moment (Some due) None same = absurd (false≢true (sym (same due) ∙ eq-eqb due due refl))
same_moment (Some due) (Some other) same =
    ap (λ (m : ℕ). Some m) (eqb-true due other (sym (same due) ∙ eq-eqb due due refl))

module _ {K : Type 0} {cmp : K → K → Ordering} (total : IsTotalOrder cmp) where
  -- equal keys have the same moment
  pub moment_tied : (moments : K → Option ℕ) (dues : List (ℕ × K)) → IsIndexOf cmp moments dues
      → (key q : K) → is_at (cmp key) q ≡ true → moments q ≡ moments key
  moment_tied moments dues index key q tied =
      let equal : cmp key q ≡ Equal = (Equal-is (cmp key q)).0 tied in
      same_moment (moments q) (moments key) (λ at.
      let there : is_due_at cmp dues at key ≡ is_due_at cmp dues at q =
      λ i. list_any (λ due. is_eq (ordering_then (nat_cmp at due.0)
      (total.congr key q due.1 equal i))) dues in
      sym (index at q) ∙ sym there ∙ index at key)

  -- the changed index is that of the moments with that key's changed
  pub index_changed : (moments : K → Option ℕ) (dues rest : List (ℕ × K)) (key : K)
      (change : ℕ → Bool → Bool) (moment : Option ℕ) → IsIndexOf cmp moments dues
      → Changes cmp dues rest key change
      → ((at : ℕ) → change at (is_moment at (moments key)) ≡ is_moment at moment)
      → IsIndexOf cmp (with_moment cmp moments key moment) rest
  index_changed moments dues rest key change moment index changes becomes = λ at q.
      let had = is_due_at cmp dues at q in
      by_bool (is_at (cmp key) q)
      (λ tied.
      changes at q ∙ ap (λ b. cond b (change at had) had) tied
      ∙ ap (change at) (index at q ∙ ap (is_moment at) (moment_tied moments dues index key q tied))
      ∙ becomes at ∙ sym (ap (λ b. is_moment at (cond b moment (moments q))) tied))
      (λ apart.
      changes at q ∙ ap (λ b. cond b (change at had) had) apart ∙ index at q
      ∙ sym (ap (λ b. is_moment at (cond b moment (moments q))) apart))

  -- ---- the first of the index
  module _ (moments : K → Option ℕ) (dues : List (ℕ × K))
      (index : IsIndexOf cmp moments dues) where
    -- a pair in the index is an armed key at its moment
    pub armed_at : (due : ℕ) (key : K) → is_due_at cmp dues due key ≡ true
        → moments key ≡ Some due
    armed_at due key there = moment_from due (moments key) (sym (index due key) ∙ there)

    pub there_at : (due : ℕ) (key : K) → moments key ≡ Some due
        → is_due_at cmp dues due key ≡ true
    there_at due key armed = index due key ∙ ap (is_moment due) armed ∙ eq-eqb due due refl

-- ---- the order of the index

pub at_most : (a b : ℕ) (o : Ordering) → is_gt (ordering_then (nat_cmp a b) o) ≡ false → a ≤ b
at_most a b o below =
    by_bool (nat_lt a b)
    (λ lt. omega (arith, ltb-true a b lt))
    (λ ge. by_bool (a == b) (λ same. omega (arith, eqb-true a b same)) (λ apart.
    let above : is_gt (ordering_then (nat_cmp a b) o) ≡ true = rw (ge, apart) in
    absurd (false≢true (sym below ∙ above))))

-- ---- due pairs stand in front

-- how many pairs at the front of the index are due
abbrev pub due_count : {K : Type 0} → ℕ → List (ℕ × K) → ℕ
due_count now dues = length (take_while (λ due. nat_le due.0 now) dues)

module _ {K : Type 0} (cmp : K → K → Ordering) (now : ℕ) where
  count_cons : (d : ℕ × K) (ds : List (ℕ × K)) → due_count now (d ∷ ds)
      ≡ length (cond (nat_le d.0 now) (d ∷ take_while (λ due. nat_le due.0 now) ds) [])
  count_cons d ds = ap length (take_while-cons (λ due. nat_le due.0 now) d ds)

  above_first : (d : ℕ × K) → now < d.0 → (ds : List (ℕ × K))
      → AllByRecursion (λ y. due_cmp cmp d y ≡ Less) ds → AllByRecursion (λ y. now < y.0) ds
  above_first d after [] above = tt
  above_first d after (y ∷ ys) above =
      let more : d.0 ≤ y.0 = at_most d.0 y.0 (cmp d.1 y.1) (ap is_gt above.0) in
      (omega arith, above_first d after ys above.1)

  all_wait : (ds : List (ℕ × K)) → AllByRecursion (λ d. now < d.0) ds
      → (filter (λ d. nat_le d.0 now) ds ≡ []) × (filter (λ d. nat_lt now d.0) ds ≡ ds)
  all_wait [] every = (refl, refl)
  all_wait (d ∷ ds) every =
      let rest = all_wait ds every.1 in (
        rw (lt-leb d.0 now every.0) rest.0,
        rw (lt-ltb now d.0 every.0) (ap (λ left. d ∷ left) rest.1),
      )

  pub due_in_front : (ds : List (ℕ × K)) → IsStrictlySortedBy (due_cmp cmp) ds
      → (take (due_count now ds) ds ≡ filter (λ d. nat_le d.0 now) ds)
      × (drop (due_count now ds) ds ≡ filter (λ d. nat_lt now d.0) ds)
  due_in_front [] sorted = (refl, refl)
  due_in_front (d ∷ ds) sorted =
      by_bool (nat_le d.0 now)
      (λ due.
      let rest = due_in_front ds (sorted_tail (due_cmp cmp) d ds sorted) in
      let one_more : due_count now (d ∷ ds) ≡ suc (due_count now ds) =
      count_cons d ds
      ∙ ap (λ b. length (cond b (d ∷ take_while (λ due. nat_le due.0 now) ds) [])) due in
      let past : nat_lt now d.0 ≡ false = le-ltb now d.0 (leb-true d.0 now due) in
      (rw (one_more, due) (ap (λ front. d ∷ front) rest.0), rw (one_more, past) rest.1))
      (λ waits.
      let after : now < d.0 = leb-false d.0 now waits in
      let none : due_count now (d ∷ ds) ≡ 0 =
      count_cons d ds
      ∙ ap (λ b. length (cond b (d ∷ take_while (λ due. nat_le due.0 now) ds) [])) waits in
      let rest = all_wait (d ∷ ds) (
        after,
        above_first d after ds (sorted_head (due_cmp cmp) d ds sorted),
      ) in
      (rw none (sym rest.0), rw none (sym rest.1)))

pub empty_from_none : (count : ℕ) → (0 < count → false ≡ true) → count ≡ 0
empty_from_none zero some = refl
empty_from_none (suc n) some = let more : 0 < suc n = omega arith in absurd (false≢true (some more))
