-- Lists of keys in order, and look-ups among entries whose keys are in order.
use Rattle.std.proofs.Common.{◌≡◌, Bool, true, false, cond, ◌||◌, List, [], ◌∷◌, ◌++◌, refl, sym, ◌∙◌, ap, subst}
use Rattle.std.specs.Prelude.{filter}
use Rattle.std.specs.declared.cmp.Ordering.{Ordering}
use Rattle.std.specs.declared.cmp.Ordering.TheVariants.{Less, Equal, Greater}
use Rattle.std.specs.Ordering.{is_eq, ordering_reverse}
use Rattle.std.specs.Cmp.{IsTotalOrder}
use Rattle.std.specs.BTreeMap.{is_at}
use Rattle.std.specs.List.{flat_map, list_any, AllByRecursion}
use Rattle.std.specs.List.Sorted.{IsStrictlySortedBy}
use Rattle.std.proofs.lemmas.Map.Keys.{sorted_head, sorted_tail}
use Rattle.std.proofs.lemmas.Map.Lookups.{CmpEqualImpliesEq}
use Rattle.std.proofs.lemmas.Cmp.{tied_itself}
use Rattle.std.proofs.lemmas.Bool.{false≢true}

pub ordered_nil : {K : Type 0} (cmp : K → K → Ordering) → IsStrictlySortedBy cmp []
unfolding IsStrictlySortedBy
ordered_nil cmp = tt

-- the three cases of a comparison
pub by_ordering : {G : Type 0} (o : Ordering) → (o ≡ Less → G) → (o ≡ Equal → G) → (o ≡ Greater → G)
    → G
by_ordering Less less equal greater = less refl
by_ordering Equal less equal greater = equal refl
by_ordering Greater less equal greater = greater refl

pub by_bool : {G : Type 0} (b : Bool) → (b ≡ true → G) → (b ≡ false → G) → G
by_bool true on_true on_false = on_true refl
by_bool false on_true on_false = on_false refl

equal_from_is_eq : (o : Ordering) → is_eq o ≡ true → o ≡ Equal
equal_from_is_eq Less e = absurd (false≢true e)
equal_from_is_eq Equal e = refl
equal_from_is_eq Greater e = absurd (false≢true e)

-- two facts on each element give a third one
all_both : {X : Type 0} {P Q R : X → Type 0} → ((x : X) → P x → Q x → R x) → (xs : List X)
    → AllByRecursion P xs → AllByRecursion Q xs → AllByRecursion R xs
all_both f [] p q = p
all_both f (x ∷ xs) p q = (f x p.0 q.0, all_both f xs p.1 q.1)

-- elements without outputs may be left out
pub flat_map-filter : {X O : Type 0} (f : X → List O) (p : X → Bool)
    → ((x : X) → p x ≡ false → f x ≡ []) → (xs : List X) → flat_map f (filter p xs) ≡ flat_map f xs
flat_map-filter f p silent [] = refl
flat_map-filter f p silent (x ∷ xs) =
    by_bool (p x)
    (λ e. rw e (ap (λ rest. f x ++ rest) (flat_map-filter f p silent xs)))
    (λ e. rw e (rw (silent x e) (flat_map-filter f p silent xs)))

module _ {K : Type 0} {cmp : K → K → Ordering} (total : IsTotalOrder cmp) where
  pub is_at_back : (x y : K) (b : Bool) → is_at (cmp x) y ≡ b → is_at (cmp y) x ≡ b
  is_at_back x y b h = by_ordering (cmp x y)
      (λ e. ap is_eq (total.antisymm y x ∙ ap ordering_reverse e) ∙ sym (ap is_eq e) ∙ h)
      (λ e. ap is_eq (total.antisymm y x ∙ ap ordering_reverse e) ∙ sym (ap is_eq e) ∙ h)
      (λ e. ap is_eq (total.antisymm y x ∙ ap ordering_reverse e) ∙ sym (ap is_eq e) ∙ h)

  pub exact_at : CmpEqualImpliesEq cmp → (x y : K) → is_at (cmp x) y ≡ true → x ≡ y
  exact_at exact x y hit = exact x y (equal_from_is_eq (cmp x y) hit)

  pub is_at_itself : (x : K) → is_at (cmp x) x ≡ true
  is_at_itself x = ap is_eq (tied_itself total x)

  -- a key below all of a list isn't among them
  pub none_below : (k : K) (ks : List K) → AllByRecursion (λ y. cmp k y ≡ Less) ks
      → list_any (is_at (cmp k)) ks ≡ false
  none_below k [] below = refl
  none_below k (y ∷ ys) below = rw below.0 (none_below k ys below.1)

  -- a key that is found isn't the one below all others
  below_all : (x : K) (k : K) (ks : List K) → cmp x k ≡ Less
      → AllByRecursion (λ y. cmp k y ≡ Less) ks → AllByRecursion (λ y. cmp x y ≡ Less) (k ∷ ks)
  below_all x k ks less below = (less, all_both (λ y p q. total.trans x k y less p) ks below below)

-- ---- two lists of keys in order

right_of : (a b : Bool) → false ≡ (a || b) → false ≡ b
right_of true b e = absurd (false≢true e)
right_of false b e = e

module _ {K : Type 0} {cmp : K → K → Ordering} (total : IsTotalOrder cmp) where
  none_pass : (p : K → Bool) (ys : List K)
      → ((q : K) → p q ≡ true → false ≡ list_any (is_at (cmp q)) ys) → filter p ys ≡ []
  none_pass p [] h = refl
  none_pass p (y ∷ ys) h =
      let off : p y ≡ false = by_bool (p y)
      (λ passes. absurd (false≢true (h y passes
      ∙ ap (λ b. b || list_any (is_at (cmp y)) ys) (is_at_itself total y)))) (λ no. no) in
      rw off (none_pass p ys (λ q passes.
      right_of (is_at (cmp q) y) (list_any (is_at (cmp q)) ys) (h q passes)))

module _ {K : Type 0} {cmp : K → K → Ordering} (total : IsTotalOrder cmp)
    (exact : CmpEqualImpliesEq cmp) where
  abbrev among : K → List K → Bool
  among q ks = list_any (is_at (cmp q)) ks

  -- a key that doesn't pass may be left out
  without_first : (p : K → Bool) (k : K) (ks ys : List K) → p k ≡ false
      → ((q : K) → p q ≡ true → among q (k ∷ ks) ≡ among q ys) → (q : K) → p q ≡ true
      → among q ks ≡ among q ys
  without_first p k ks ys off same q passes =
      by_bool (is_at (cmp q) k)
      (λ hit. absurd (false≢true (sym off ∙ ap p (sym (exact_at total exact q k hit)) ∙ passes)))
      (λ miss. sym (ap (λ b. b || among q ks) miss) ∙ same q passes)

  -- so may a key that both lists have first
  without_both : (p : K → Bool) (k : K) (ks hs : List K) → among k ks ≡ false → among k hs ≡ false
      → ((q : K) → p q ≡ true → among q (k ∷ ks) ≡ among q (k ∷ hs)) → (q : K) → p q ≡ true
      → among q ks ≡ among q hs
  without_both p k ks hs gone lost same q passes =
      by_bool (is_at (cmp q) k)
      (λ hit. let is : q ≡ k = exact_at total exact q k hit in
      ap (λ x. among x ks) is ∙ gone ∙ sym (ap (λ x. among x hs) is ∙ lost))
      (λ miss. sym (ap (λ b. b || among q ks) miss) ∙ same q passes
      ∙ ap (λ b. b || among q hs) miss)

  off_below : (p : K → Bool) (k : K) (ks ys : List K) → AllByRecursion (λ y. cmp k y ≡ Less) ys
      → ((q : K) → p q ≡ true → among q (k ∷ ks) ≡ among q ys) → p k ≡ false
  off_below p k ks ys below same =
      by_bool (p k)
      (λ passes. absurd (false≢true (sym (none_below total k ys below) ∙ sym (same k passes)
      ∙ ap (λ b. b || among k ks) (is_at_itself total k))))
      (λ no. no)

  -- two lists in order whose keys agree among those that pass have these in the same order
  pub same_filtered : (p : K → Bool) (xs ys : List K) → IsStrictlySortedBy cmp xs
      → IsStrictlySortedBy cmp ys → ((q : K) → p q ≡ true → among q xs ≡ among q ys)
      → filter p xs ≡ filter p ys
  same_filtered p [] [] sx sy same = refl
  same_filtered p [] (y ∷ ys) sx sy same = sym (none_pass total p (y ∷ ys) same)
  same_filtered p (x ∷ xs) [] sx sy same =
      none_pass total p (x ∷ xs) (λ q passes. sym (same q passes))
  same_filtered p (k ∷ ks) (h ∷ hs) sx sy same =
      let above_k : AllByRecursion (λ y. cmp k y ≡ Less) ks = sorted_head cmp k ks sx in
      let above_h : AllByRecursion (λ y. cmp h y ≡ Less) hs = sorted_head cmp h hs sy in
      let ks_ordered : IsStrictlySortedBy cmp ks = sorted_tail cmp k ks sx in
      let hs_ordered : IsStrictlySortedBy cmp hs = sorted_tail cmp h hs sy in
      by_ordering (cmp k h)
      (λ less.
      let off : p k ≡ false =
      off_below p k ks (h ∷ hs) (below_all total k h hs less above_h) same in
      rw off (same_filtered p ks (h ∷ hs) ks_ordered sy (without_first p k ks (h ∷ hs) off same)))
      (λ equal.
      let is : h ≡ k = sym (exact k h equal) in
      let below : AllByRecursion (λ y. cmp k y ≡ Less) hs =
      subst (λ x. AllByRecursion (λ y. cmp x y ≡ Less) hs) is above_h in
      let rest : filter p ks ≡ filter p hs =
      same_filtered p ks hs ks_ordered hs_ordered
      (without_both p k ks hs (none_below total k ks above_k) (none_below total k hs below)
      (λ q passes. same q passes ∙ ap (λ x. is_at (cmp q) x || among q hs) is)) in
      both_first ks hs is rest)
      (λ greater.
      let less : cmp h k ≡ Less = total.antisymm h k ∙ ap ordering_reverse greater in
      let off : p h ≡ false = off_below p h hs (k ∷ ks) (below_all total h k ks less above_k)
      (λ q passes. sym (same q passes)) in
      rw off (same_filtered p (k ∷ ks) hs sx hs_ordered
      (λ q passes. sym (without_first p h hs (k ∷ ks) off (λ x y. sym (same x y)) q passes))))
    where
      both_first : {k h : K} (ks hs : List K) → h ≡ k → filter p ks ≡ filter p hs
          → filter p (k ∷ ks) ≡ filter p (h ∷ hs)
      both_first {k} {h} ks hs is rest =
          ap (λ rest. cond (p k) (k ∷ rest) rest) rest
          ∙ ap (λ x. cond (p x) (x ∷ filter p hs) (filter p hs)) (sym is)
