-- Lists with the same elements in another order.
use Rattle.std.proofs.Common.{◌≡◌, List, ◌++◌, sym, subst, append_assoc}
use Rattle.std.specs.List.Sorted.{IsPermutation}
use Rattle.std.proofs.lemmas.List.Sorted.{IsPermutation-refl, IsPermutation-trans, IsPermutation-append_left, IsPermutation-append_right, IsPermutation-append_comm}

module _ {X : Type 0} where
  pub same_order : (a b : List X) → a ≡ b → IsPermutation a b
  same_order a b e = subst (λ (x : List X). IsPermutation a x) e (IsPermutation-refl a)

  pub joined : (a b c : List X) → IsPermutation a b → IsPermutation b c → IsPermutation a c
  joined a b c p q = IsPermutation-trans a b c p q

  -- the first two of three parts change places
  pub exchange : (a b c : List X) → IsPermutation (a ++ (b ++ c)) (b ++ (a ++ c))
  exchange a b c =
      joined _ _ _ (same_order _ ((a ++ b) ++ c) (sym (append_assoc a b c)))
      (joined _ _ _ (IsPermutation-append_left c (a ++ b) (b ++ a) (IsPermutation-append_comm a b))
      (same_order ((b ++ a) ++ c) _ (append_assoc b a c)))

  -- more is put at the end of one part, which others follow
  pub put_more : (put xs puts items taken takens : List X)
      → IsPermutation (put ++ puts) (items ++ (taken ++ takens))
      → IsPermutation ((put ++ xs) ++ puts) ((items ++ xs) ++ (taken ++ takens))
  put_more put xs puts items taken takens p =
      joined _ (xs ++ (put ++ puts)) _
      (joined _ (put ++ (xs ++ puts)) _ (same_order _ _ (append_assoc put xs puts))
      (exchange put xs puts))
      (joined _ (xs ++ (items ++ (taken ++ takens))) _
      (IsPermutation-append_right xs (put ++ puts) (items ++ (taken ++ takens)) p)
      (joined _ (items ++ (xs ++ (taken ++ takens))) _ (exchange xs items (taken ++ takens))
      (same_order _ _ (sym (append_assoc items xs (taken ++ takens))))))

  -- what leaves at the front is put at the end of what one pass took
  pub take_front : (all xs items taken takens : List X)
      → IsPermutation all ((xs ++ items) ++ (taken ++ takens))
      → IsPermutation all (items ++ ((taken ++ xs) ++ takens))
  take_front all xs items taken takens p =
      joined _ _ _ p
      (joined _ (xs ++ (items ++ (taken ++ takens))) _
      (same_order _ _ (append_assoc xs items (taken ++ takens)))
      (joined _ (items ++ (xs ++ (taken ++ takens))) _ (exchange xs items (taken ++ takens))
      (IsPermutation-append_right items (xs ++ (taken ++ takens)) ((taken ++ xs) ++ takens)
      (joined _ (taken ++ (xs ++ takens)) _ (exchange xs taken takens)
      (same_order _ _ (sym (append_assoc taken xs takens)))))))

  -- the same, leaving at the back
  pub take_back : (all xs items taken takens : List X)
      → IsPermutation all ((items ++ xs) ++ (taken ++ takens))
      → IsPermutation all (items ++ ((taken ++ xs) ++ takens))
  take_back all xs items taken takens p =
      take_front all xs items taken takens
      (joined _ _ _ p (IsPermutation-append_left (taken ++ takens) (items ++ xs) (xs ++ items)
      (IsPermutation-append_comm items xs)))
