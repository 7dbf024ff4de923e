-- Lemmas on an index: whose index it is after a change, and what is first and last in it.
use Rattle.std.proofs.Common.{◌≡◌, ℕ, ◌≤◌, ◌<◌, Bool, true, false, cond, ◌&&◌, List, Option, Some, None, refl, sym, ap, ◌∙◌, arith}
use Rattle.std.specs.Prelude.{nat_lt, ◌==◌, Result, Ok, Err, OnOk}
use Rattle.std.specs.Option.{option_and_then}
use Rattle.std.specs.Ordering.{is_eq, is_gt, is_lt, ordering_then, ordering_reverse, nat_cmp}
use Rattle.std.specs.Cmp.{IsTotalOrder, Equal-is, eq_by_cmp_equiv}
use Rattle.std.specs.declared.cmp.Ordering.{Ordering}
use Rattle.std.specs.declared.cmp.Ordering.TheVariants.{Less, Equal, Greater}
use Rattle.std.proofs.lemmas.Bool.{false≢true, eq-eqb, eqb-true, ne_eqb, ltb-true}
use Rattle.std.proofs.lemmas.Cmp.{by_ranked, ranked, tied_itself}
use Rattle.std.proofs.lemmas.Map.Keys.{ge_from_not_lt}
use Rattle.sip_served.specs.Steps.Index.{pair_cmp, is_under, is_key_of, IsIndexOf, with_key}

pub by_bool : {G : Type 0} (b : Bool) → (b ≡ true → G) → (b ≡ false → G) → G
by_bool true on_true on_false = on_true refl
by_bool false on_true on_false = on_false refl

pub on_ok_mapped : {A E : Type 0} (P Q : Type 0) (answer : Result A E) → (P → Q) → OnOk answer P
    → OnOk answer Q
on_ok_mapped P Q (Ok value) step holds = step holds
on_ok_mapped P Q (Err error) step holds = tt

-- two pairs are tied if their keys and their numbers are
tied_pair : (o : Ordering) (a b : ℕ) → is_eq (ordering_then o (nat_cmp a b))
    ≡ (is_eq o && (a == b))
tied_pair Less a b = refl
tied_pair Equal a b =
    by_bool (nat_lt a b)
    (λ lt.
    let apart : (a == b) ≡ false = ne_eqb a b (λ same. omega (arith, ltb-true a b lt, same)) in
    rw (lt, apart))
    (λ ge. by_bool (a == b) (λ same. rw (ge, same)) (λ apart. rw (ge, apart)))
tied_pair Greater a b = refl

at_most : (a b : ℕ) → is_gt (nat_cmp a b) ≡ false → a ≤ b
at_most a b e =
    by_ranked (a < b) (a ≡ b) (b < a) (nat_cmp a b) (ranked a b (nat_cmp a b) refl)
    (λ o lt. omega (arith, lt)) (λ o same. omega (arith, same))
    (λ o gt. absurd (false≢true (sym e ∙ ap is_gt o)))

not_above : (a b : ℕ) → a ≤ b → is_gt (nat_cmp a b) ≡ false
not_above a b le =
    by_ranked (a < b) (a ≡ b) (b < a) (nat_cmp a b) (ranked a b (nat_cmp a b) refl)
    (λ o lt. ap is_gt o) (λ o same. ap is_gt o) (λ o gt. absurd (omega (arith, gt, le)))

-- the key of the first of two pairs that are in order isn't above the key of the second
key_first : (o p : Ordering) → is_gt (ordering_then o p) ≡ false → is_gt o ≡ false
key_first Less p e = refl
key_first Equal p e = refl
key_first Greater p e = e

key_last : (o p : Ordering) → is_lt (ordering_then o p) ≡ false → is_lt o ≡ false
key_last Less p e = e
key_last Equal p e = refl
key_last Greater p e = refl

-- two keys neither of which is above the other are equal
both_ways : (o p : Ordering) → o ≡ ordering_reverse p → is_gt o ≡ false → is_gt p ≡ false
    → is_eq o ≡ true
both_ways o Less e up down = absurd (false≢true (sym up ∙ ap is_gt e))
both_ways o Equal e up down = ap is_eq e
both_ways o Greater e up down = absurd (false≢true (sym down))

between : (o : Ordering) → is_gt o ≡ false → is_lt o ≡ false → is_eq o ≡ true
between Less up down = absurd (false≢true (sym down))
between Equal up down = refl
between Greater up down = absurd (false≢true (sym up))

module _ {K : Type 0} {cmp : K → K → Ordering} (total : IsTotalOrder cmp) where
  -- a key of a number is equal to what is equal to it
  key_tied : (key q : K) (own : Option K) → is_eq (cmp key q) ≡ true
      → is_key_of cmp q own ≡ is_key_of cmp key own
  key_tied key q None tied = refl
  key_tied key q (Some own) tied = sym ((eq_by_cmp_equiv total).congr key q own tied)

  -- ---- a change

  abbrev Puts : List (K × ℕ) → List (K × ℕ) → K → ℕ → Bool → Type 0
  Puts pairs rest key number put =
      (q : K × ℕ) → is_under cmp rest q.0 q.1
      ≡ cond (is_eq (pair_cmp cmp (key, number) q)) put (is_under cmp pairs q.0 q.1)

  module _ (keys : ℕ → Option K) (pairs rest : List (K × ℕ)) (key : K) (number : ℕ)
      (index : IsIndexOf cmp keys pairs) where
    by_number : (put : Bool) (new : Option K) → Puts pairs rest key number put
        → ((q : K) → cond (is_eq (cmp key q)) put (is_key_of cmp q (keys number))
        ≡ is_key_of cmp q new)
        → IsIndexOf cmp (with_key keys number new) rest
    by_number put new puts here q n =
        puts (q, n)
        ∙ ap (λ b. cond b put (is_under cmp pairs q n)) (tied_pair (cmp key q) number n)
        ∙ ap (cond (is_eq (cmp key q) && (number == n)) put) (index q n)
        ∙ by_bool (number == n)
        (λ same.
        let is : number ≡ n = eqb-true number n same in
        ap (λ b. cond (is_eq (cmp key q) && b) put (is_key_of cmp q (keys n))) same
        ∙ both (is_eq (cmp key q)) put (is_key_of cmp q (keys n))
        ∙ ap (λ m. cond (is_eq (cmp key q)) put (is_key_of cmp q (keys m))) (sym is)
        ∙ here q ∙ sym (ap (λ b. is_key_of cmp q (cond b new (keys n))) same))
        (λ apart.
        ap (λ b. cond (is_eq (cmp key q) && b) put (is_key_of cmp q (keys n))) apart
        ∙ neither (is_eq (cmp key q)) put (is_key_of cmp q (keys n))
        ∙ sym (ap (λ b. is_key_of cmp q (cond b new (keys n))) apart))
      where
        both : (b x y : Bool) → cond (b && true) x y ≡ cond b x y
        both true x y = refl
        both false x y = refl

        neither : (b x y : Bool) → cond (b && false) x y ≡ y
        neither true x y = refl
        neither false x y = refl

    pub put_in : keys number ≡ None → Puts pairs rest key number true
        → IsIndexOf cmp (with_key keys number (Some key)) rest
    put_in absent puts =
        by_number true (Some key) puts (λ q.
        ap (λ own. cond (is_eq (cmp key q)) true (is_key_of cmp q own)) absent
        ∙ only (is_eq (cmp key q)) ∙ (eq_by_cmp_equiv total).symm key q)
      where
        only : (b : Bool) → cond b true false ≡ b
        only true = refl
        only false = refl

    pub taken_out : keys number ≡ Some key → Puts pairs rest key number false
        → IsIndexOf cmp (with_key keys number None) rest
    taken_out there puts =
        by_number false None puts (λ q.
        ap (λ own. cond (is_eq (cmp key q)) false (is_key_of cmp q own)) there
        ∙ ap (cond (is_eq (cmp key q)) false) ((eq_by_cmp_equiv total).symm q key)
        ∙ never (is_eq (cmp key q)))
      where
        never : (b : Bool) → cond b false b ≡ false
        never true = refl
        never false = refl

  -- ---- the first from a pair on

  module _ (keys : ℕ → Option K) (pairs : List (K × ℕ)) (index : IsIndexOf cmp keys pairs)
      (least : K × ℕ) where
    -- a number of the key that isn't below the least
    in_range : (m : ℕ) → least.1 ≤ m → is_gt (pair_cmp cmp least (least.0, m)) ≡ false
    in_range m from =
        ap (λ o. is_gt (ordering_then o (nat_cmp least.1 m))) (tied_itself total least.0)
        ∙ not_above least.1 m from

    pub none_from : ((q : K × ℕ) → is_gt (pair_cmp cmp least q) ≡ false
        → is_under cmp pairs q.0 q.1 ≡ false)
        → (m : ℕ) → least.1 ≤ m → is_key_of cmp least.0 (keys m) ≡ false
    none_from empty m from = sym (index least.0 m) ∙ empty (least.0, m) (in_range m from)

    module _ (first : K × ℕ) (from : is_gt (pair_cmp cmp least first) ≡ false)
        (lowest : (q : K × ℕ) → is_gt (pair_cmp cmp least q) ≡ false
        → is_under cmp pairs q.0 q.1 ≡ true → is_gt (pair_cmp cmp first q) ≡ false) where
      pub first_of_key : is_under cmp pairs first.0 first.1 ≡ true
          → is_eq (cmp first.0 least.0) ≡ true
          → (is_key_of cmp least.0 (keys first.1) ≡ true) × (least.1 ≤ first.1)
      first_of_key member tied = (
        key_tied first.0 least.0 (keys first.1) tied ∙ sym (index first.0 first.1) ∙ member,
        at_most least.1 first.1
            (sym (ap (λ o. is_gt (ordering_then o (nat_cmp least.1 first.1)))
            ((Equal-is (cmp least.0 first.0)).0
            ((eq_by_cmp_equiv total).symm least.0 first.0 ∙ tied))) ∙ from),
      )

      pub none_before : is_eq (cmp first.0 least.0) ≡ true → (m : ℕ)
          → is_key_of cmp least.0 (keys m) ≡ true → least.1 ≤ m → first.1 ≤ m
      none_before tied m has above =
          at_most first.1 m
          (sym (ap (λ o. is_gt (ordering_then o (nat_cmp first.1 m)))
          ((Equal-is (cmp first.0 least.0)).0 tied))
          ∙ lowest (least.0, m) (in_range m above) (index least.0 m ∙ has))

      pub past_key : is_eq (cmp first.0 least.0) ≡ false → (m : ℕ) → least.1 ≤ m
          → is_key_of cmp least.0 (keys m) ≡ false
      past_key apart m above =
          by_bool (is_key_of cmp least.0 (keys m))
          (λ has.
          absurd (false≢true (sym apart
          ∙ both_ways (cmp first.0 least.0) (cmp least.0 first.0)
          (total.antisymm first.0 least.0)
          (key_first (cmp first.0 least.0) (nat_cmp first.1 m)
          (lowest (least.0, m) (in_range m above) (index least.0 m ∙ has)))
          (key_first (cmp least.0 first.0) (nat_cmp least.1 first.1) from))))
          (λ none. none)

  -- ---- the last up to a pair

  module _ (keys : ℕ → Option K) (pairs : List (K × ℕ)) (index : IsIndexOf cmp keys pairs)
      (most : K × ℕ) where
    -- a number of the key that isn't above the greatest
    in_range_back : (m : ℕ) → m ≤ most.1 → is_gt (pair_cmp cmp (most.0, m) most) ≡ false
    in_range_back m upto =
        ap (λ o. is_gt (ordering_then o (nat_cmp m most.1))) (tied_itself total most.0)
        ∙ not_above m most.1 upto

    pub none_up_to : ((q : K × ℕ) → is_gt (pair_cmp cmp q most) ≡ false
        → is_under cmp pairs q.0 q.1 ≡ false)
        → (m : ℕ) → m ≤ most.1 → is_key_of cmp most.0 (keys m) ≡ false
    none_up_to empty m upto =
        sym (index most.0 m) ∙ empty (most.0, m) (in_range_back m upto)

    module _ (last : K × ℕ) (upto : is_gt (pair_cmp cmp last most) ≡ false)
        (highest : (q : K × ℕ) → is_gt (pair_cmp cmp q most) ≡ false
        → is_under cmp pairs q.0 q.1 ≡ true → is_lt (pair_cmp cmp last q) ≡ false) where
      pub last_of_key : is_under cmp pairs last.0 last.1 ≡ true
          → is_eq (cmp last.0 most.0) ≡ true
          → (is_key_of cmp most.0 (keys last.1) ≡ true) × (last.1 ≤ most.1)
      last_of_key member tied = (
        key_tied last.0 most.0 (keys last.1) tied ∙ sym (index last.0 last.1) ∙ member,
        at_most last.1 most.1
            (sym (ap (λ o. is_gt (ordering_then o (nat_cmp last.1 most.1)))
            ((Equal-is (cmp last.0 most.0)).0 tied)) ∙ upto),
      )

      pub none_after : is_eq (cmp last.0 most.0) ≡ true → (m : ℕ)
          → is_key_of cmp most.0 (keys m) ≡ true → m ≤ most.1 → m ≤ last.1
      none_after tied m has below =
          ge_from_not_lt last.1 m
          (sym (ap (λ o. is_lt (ordering_then o (nat_cmp last.1 m)))
          ((Equal-is (cmp last.0 most.0)).0 tied))
          ∙ highest (most.0, m) (in_range_back m below) (index most.0 m ∙ has))

      pub before_key : is_eq (cmp last.0 most.0) ≡ false → (m : ℕ) → m ≤ most.1
          → is_key_of cmp most.0 (keys m) ≡ false
      before_key apart m below =
          by_bool (is_key_of cmp most.0 (keys m))
          (λ has.
          absurd (false≢true (sym apart
          ∙ between (cmp last.0 most.0)
          (key_first (cmp last.0 most.0) (nat_cmp last.1 most.1) upto)
          (key_last (cmp last.0 most.0) (nat_cmp last.1 m)
          (highest (most.0, m) (in_range_back m below) (index most.0 m ∙ has))))))
          (λ none. none)

-- ---- equal keys

pub index_same : {K : Type 0} (cmp : K → K → Ordering) (pairs : List (K × ℕ))
    (keys others : ℕ → Option K) → ((n : ℕ) → keys n ≡ others n) → IsIndexOf cmp keys pairs
    → IsIndexOf cmp others pairs
index_same cmp pairs keys others same index key n = index key n ∙ ap (is_key_of cmp key) (same n)

-- a number is given the key that it has
pub same_at : {K : Type 0} (keys : ℕ → Option K) (number : ℕ) (key : Option K) → keys number ≡ key
    → (n : ℕ) → keys n ≡ with_key keys number key n
same_at keys number key is n =
    by_bool (number == n)
    (λ here.
    ap keys (sym (eqb-true number n here)) ∙ is ∙ sym (ap (λ b. cond b key (keys n)) here))
    (λ apart. sym (ap (λ b. cond b key (keys n)) apart))

-- a number's key is taken away, and the number is given a key
pub no_key : {K : Type 0} (keys : ℕ → Option K) (number : ℕ)
    → with_key keys number None number ≡ None
no_key keys number = ap (λ b. cond b None (keys number)) (eq-eqb number number refl)

pub given_again : {K : Type 0} (keys : ℕ → Option K) (number : ℕ) (key : Option K) (n : ℕ)
    → with_key (with_key keys number None) number key n ≡ with_key keys number key n
given_again keys number key n = once (number == n) (keys n)
  where
    once : (b : Bool) (own : Option _) → cond b key (cond b None own) ≡ cond b key own
    once true own = refl
    once false own = refl

-- the keys of things, with another thing at a number
pub thing_moved : {K X : Type 0} (cmp : K → K → Ordering) (key_of : X → Option K)
    (at : ℕ → Option X) (number : ℕ) (pairs : List (K × ℕ)) (new : Option X) (key : Option K)
    → key ≡ option_and_then key_of new
    → IsIndexOf cmp (with_key (λ n. option_and_then key_of (at n)) number key) pairs
    → IsIndexOf cmp (λ n. option_and_then key_of (with_key at number new n)) pairs
thing_moved cmp key_of at number pairs new key is =
    index_same cmp pairs (with_key (λ n. option_and_then key_of (at n)) number key)
    (λ n. option_and_then key_of (with_key at number new n)) (λ n.
    elim (number == n) as (λ b. cond b key (option_and_then key_of (at n))
    ≡ option_and_then key_of (cond b new (at n))) [
      | true ↦ is
      | false ↦ refl
    ])
