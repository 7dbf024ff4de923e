-- The first, the last and a change of the things of a key, by an index.
use Rattle.std.proofs.Common.{◌≡◌, ℕ, ◌+◌, ◌≤◌, ◌<◌, Bool, true, false, cond, List, [], ◌∷◌, Option, Some, None, refl, sym, ap, ◌∙◌, arith}
use Rattle.std.specs.Prelude.{find, reverse, is_some, nat_le, IfNone, IfSome}
use Rattle.std.specs.List.{list_any}
use Rattle.std.specs.BTreeMap.{is_at}
use Rattle.std.specs.Map.{values_of, set_value}
use Rattle.std.specs.Option.{option_and_then}
use Rattle.std.specs.Ordering.{nat_cmp}
use Rattle.std.specs.declared.cmp.Ordering.{Ordering}
use Rattle.std.proofs.lemmas.Bool.{false≢true, leb-true, leb-false}
use Rattle.sip_served.specs.Steps.Index.{is_key_of}
use Rattle.sip_served.specs.State.{changed_first}
use Rattle.sip_served.proofs.Indexes.{by_bool}
use Rattle.sip_served.proofs.Numbered.{InOrder, any_found, NonePass, first_changed, first_found, get, last_found, none_changed, none_found, none_found_back}

module _ {K X : Type 0} (cmp : K → K → Ordering) (key : K) (key_of : X → Option K) (test : X → Bool)
    (same : (x : X) → test x ≡ is_key_of cmp key (key_of x))
    (es : List (ℕ × X)) (in_order : InOrder es) where
  -- whether the thing of a number has the key
  abbrev pub has_key : Option X → Bool
  has_key o = is_key_of cmp key (option_and_then key_of o)

  none_pass : ((m : ℕ) → has_key (get m es) ≡ false) → NonePass test es
  none_pass none m y there = same y ∙ sym (ap has_key there) ∙ none m

  pub none_of_key : ((m : ℕ) → has_key (get m es) ≡ false) → find test (values_of es) ≡ None
  none_of_key none = none_found test es in_order (none_pass none)

  pub none_of_key_back : ((m : ℕ) → has_key (get m es) ≡ false)
      → find test (reverse (values_of es)) ≡ None
  none_of_key_back none = none_found_back test es in_order (none_pass none)

  pub first_of_key : (n : ℕ) → has_key (get n es) ≡ true
      → ((m : ℕ) → has_key (get m es) ≡ true → n ≤ m) → get n es ≡ find test (values_of es)
  first_of_key n has least = by_thing (get n es) refl has
    where
      by_thing : (o : Option X) → get n es ≡ o → has_key o ≡ true → o ≡ find test (values_of es)
      by_thing None is has = absurd (false≢true has)
      by_thing (Some x) is has =
          sym (first_found test es in_order n x is (same x ∙ has)
          (λ m y there ok. least m (ap has_key there ∙ sym (same y) ∙ ok)))

  pub last_of_key : (n : ℕ) → has_key (get n es) ≡ true
      → ((m : ℕ) → has_key (get m es) ≡ true → m ≤ n)
      → get n es ≡ find test (reverse (values_of es))
  last_of_key n has greatest = by_thing (get n es) refl has
    where
      by_thing : (o : Option X) → get n es ≡ o → has_key o ≡ true
          → o ≡ find test (reverse (values_of es))
      by_thing None is has = absurd (false≢true has)
      by_thing (Some x) is has =
          sym (last_found test es in_order n x is (same x ∙ has)
          (λ m y there ok. greatest m (ap has_key there ∙ sym (same y) ∙ ok)))

  pub unchanged : (change : X → X) → ((m : ℕ) → has_key (get m es) ≡ false)
      → changed_first test change (values_of es) ≡ values_of es
  unchanged change none = none_changed test change es in_order (none_pass none)

  pub changed_of_key : (change : X → X) (n : ℕ) → has_key (get n es) ≡ true
      → ((m : ℕ) → has_key (get m es) ≡ true → n ≤ m)
      → (x w : X) → get n es ≡ Some x → w ≡ change x
      → values_of (set_value (is_at (nat_cmp n)) es w) ≡ changed_first test change (values_of es)
  changed_of_key change n has least x w is changes =
      first_changed test change es in_order n x is (same x ∙ sym (ap has_key is) ∙ has)
      (λ m y there ok. least m (ap has_key there ∙ sym (same y) ∙ ok)) w changes

  has_some : (o : Option X) → has_key o ≡ true → is_some o ≡ true
  has_some None has = absurd (false≢true has)
  has_some (Some x) has = refl

  -- whether any thing has the key
  pub any_of_key : (o : Option ℕ) → IfSome o (λ n. (has_key (get n es) ≡ true) × (0 ≤ n))
      → IfSome o (λ n. (m : ℕ) → has_key (get m es) ≡ true → 0 ≤ m → n ≤ m)
      → IfNone o ((m : ℕ) → 0 ≤ m → has_key (get m es) ≡ false)
      → is_some o ≡ list_any test (values_of es)
  any_of_key None number least none =
      sym (any_found test (values_of es) ∙ ap is_some (none_of_key (λ m. none m (omega arith))))
  any_of_key (Some n) number least none =
      sym (any_found test (values_of es)
      ∙ ap is_some (sym (first_of_key n number.0 (λ m has. least m has (omega arith))))
      ∙ has_some (get n es) number.0)

  -- a thing that has a key has a number below the next
  pub below_next : (next : ℕ) → ((n : ℕ) → next ≤ n → get n es ≡ None) → (m : ℕ)
      → has_key (get m es) ≡ true → m ≤ next
  below_next next none m has =
      by_bool (nat_le next m)
      (λ le. absurd (false≢true (sym (ap has_key (none m (leb-true next m le))) ∙ has)))
      (λ gt. let lt : m < next = leb-false next m gt in omega (arith, lt))

  -- no thing has the key, if none up to the next has
  pub none_to_next : (next : ℕ) → ((n : ℕ) → next ≤ n → get n es ≡ None)
      → ((m : ℕ) → m ≤ next → has_key (get m es) ≡ false)
      → (m : ℕ) → has_key (get m es) ≡ false
  none_to_next next none empty m =
      by_bool (nat_le next m)
      (λ le. ap has_key (none m (leb-true next m le)))
      (λ gt. let lt : m < next = leb-false next m gt in empty m (omega (arith, lt)))

-- nothing is found by a test that nothing passes
pub never_found : {X : Type 0} (test : X → Bool) → ((x : X) → test x ≡ false) → (xs : List X)
    → find test xs ≡ None
never_found test fails [] = refl
never_found test fails (x ∷ xs) =
    ap (λ b. cond b (Some x) (find test xs)) (fails x) ∙ never_found test fails xs

-- ---- the first of some things that passes a test: those of a key, from a number on

-- no thing of a number below this passes
abbrev pub NoneBelow : {X : Type 0} → (X → Bool) → List (ℕ × X) → ℕ → Type 0
NoneBelow {X} test es least = (m : ℕ) (y : X) → m < least → get m es ≡ Some y → test y ≡ false

-- a number that has a key is below the next
pub key_below : {K X : Type 0} (cmp : K → K → Ordering) (key : K) (key_of : X → Option K)
    (es : List (ℕ × X)) (next : ℕ) → ((n : ℕ) → next ≤ n → get n es ≡ None) → (m : ℕ)
    → is_key_of cmp key (option_and_then key_of (get m es)) ≡ true → m < next
key_below cmp key key_of es next none m has =
    by_bool (nat_le next m)
    (λ le.
    absurd (false≢true (sym (ap (λ o. is_key_of cmp key (option_and_then key_of o))
    (none m (leb-true next m le))) ∙ has)))
    (λ gt. leb-false next m gt)

module _ {X : Type 0} (test : X → Bool) (es : List (ℕ × X)) (in_order : InOrder es) where
  -- no number is as high as the next
  pub none_at_all : (next least : ℕ) → ((n : ℕ) → next ≤ n → get n es ≡ None) → next ≤ least
      → NoneBelow test es least → find test (values_of es) ≡ None
  none_at_all next least none reached below =
      none_found test es in_order (λ m y there.
      by_bool (nat_le next m)
      (λ le. absurd (never y (sym there ∙ none m (leb-true next m le))))
      (λ gt.
      let lt : m < next = leb-false next m gt in below m y (omega (arith, lt, reached)) there))
    where
      never : (y : X) → Some y ≡ None → ⊥
      never y same = absurd cc

  module _ {K : Type 0} (cmp : K → K → Ordering) (key : K) (key_of : X → Option K)
      (has : (x : X) → test x ≡ true → is_key_of cmp key (key_of x) ≡ true) where
    no_key : (y : X) → is_key_of cmp key (key_of y) ≡ false → test y ≡ false
    no_key y none =
        by_bool (test y) (λ passes. absurd (false≢true (sym none ∙ has y passes))) (λ fails. fails)

    -- no number from the least on has the key
    pub none_passes : (least : ℕ) → NoneBelow test es least
        → ((m : ℕ) → least ≤ m → is_key_of cmp key (option_and_then key_of (get m es)) ≡ false)
        → find test (values_of es) ≡ None
    none_passes least below none =
        none_found test es in_order (λ m y there.
        by_bool (nat_le least m)
        (λ le. no_key y (sym (ap (λ o. is_key_of cmp key (option_and_then key_of o)) there)
        ∙ none m (leb-true least m le)))
        (λ gt. below m y (leb-false least m gt) there))

    -- the first number of the key from the least on passes
    pub first_passes : (least : ℕ) → NoneBelow test es least → (n : ℕ) (x : X) → get n es ≡ Some x
        → test x ≡ true
        → ((m : ℕ) → is_key_of cmp key (option_and_then key_of (get m es)) ≡ true → least ≤ m
        → n ≤ m)
        → find test (values_of es) ≡ Some x
    first_passes least below n x there passes before =
        first_found test es in_order n x there passes (λ m y is ok.
        by_bool (nat_le least m)
        (λ le. before m (ap (λ o. is_key_of cmp key (option_and_then key_of o)) is ∙ has y ok)
        (leb-true least m le))
        (λ gt. absurd (false≢true (sym (below m y (leb-false least m gt) is) ∙ ok))))

    -- it doesn't pass: so none up to it does
    pub none_up_to : (least : ℕ) → NoneBelow test es least → (n : ℕ)
        → ((x : X) → get n es ≡ Some x → test x ≡ false)
        → ((m : ℕ) → is_key_of cmp key (option_and_then key_of (get m es)) ≡ true → least ≤ m
        → n ≤ m)
        → NoneBelow test es (n + 1)
    none_up_to least below n fails before m y lt there =
        by_bool (nat_le least m)
        (λ le. by_bool (test y)
        (λ ok.
        let from : n ≤ m =
        before m (ap (λ o. is_key_of cmp key (option_and_then key_of o)) there ∙ has y ok)
        (leb-true least m le) in
        let same : m ≡ n = omega (arith, lt, from) in
        fails y (ap (λ k. get k es) (sym same) ∙ there))
        (λ no. no))
        (λ gt. below m y (leb-false least m gt) there)
