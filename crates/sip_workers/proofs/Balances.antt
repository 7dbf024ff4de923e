-- Each step keeps the rule of the deque.
use Rattle.std.proofs.Common.{◌≡◌, ℕ, zero, suc, ◌+◌, ◌-◌, ◌<◌, ◌≤◌, List, [], ◌∷◌, ◌++◌, length, set, sym, refl, ap, ◌∙◌, subst, ⊎_elim, append-nil, append_assoc, arith, length-append}
use mathlib.Core.Option.{some, some-ne-none}
use lib.ListN.{get_elem?}
use Rattle.std.specs.List.{flat_map, AllByRecursion}
use Rattle.std.specs.List.Sorted.{IsPermutation}
use Rattle.std.proofs.lemmas.List.Sorted.{IsPermutation-refl, IsPermutation-sym, IsPermutation-append_right, length_permutation}
use Rattle.crossbeam_deque.specs.Tasks.{Pushes, Takes, Pops, Finds, Forks, Merges}
use Rattle.crossbeam_deque.proofs.Lists.{at_set}
use Rattle.sip_workers.specs.declared.piece.Piece.{Piece}
use Rattle.sip_workers.specs.declared.deque.Log.{Log}
use Rattle.sip_workers.specs.Balance.{log, all_parts, all_put, all_taken, IsIdle, Balanced}
use Rattle.sip_workers.proofs.Permutations.{same_order, joined, exchange, put_more, take_front, take_back}

module _ {J : Type 0} where
  -- ---- one pass's view and the others

  abbrev others : List (Log J) → ℕ → List (Log J)
  others [] port = []
  others (v ∷ vs) zero = vs
  others (v ∷ vs) (suc port) = v ∷ others vs port

  parts_at : (views : List (Log J)) (port : ℕ) (v : Log J) → get_elem? views port ≡ some v
      → all_parts views ≡ v.parts + all_parts (others views port)
  parts_at [] port v e = absurd (some-ne-none v (sym e))
  parts_at (x ∷ xs) zero v e =
      let same : x ≡ v = cc in ap (λ (y : Log J). y.parts + all_parts xs) same
  parts_at (x ∷ xs) (suc port) v e = omega (arith, parts_at xs port v e)

  parts_set : (views : List (Log J)) (port : ℕ) (v w : Log J) → get_elem? views port ≡ some v
      → all_parts (set views port w) ≡ w.parts + all_parts (others views port)
  parts_set [] port v w e = absurd (some-ne-none v (sym e))
  parts_set (x ∷ xs) zero v w e = refl
  parts_set (x ∷ xs) (suc port) v w e = omega (arith, parts_set xs port v w e)

  lists_at : (f : Log J → List (Piece J)) (views : List (Log J)) (port : ℕ) (v : Log J)
      → get_elem? views port ≡ some v
      → IsPermutation (flat_map f views) (f v ++ flat_map f (others views port))
  lists_at f [] port v e = absurd (some-ne-none v (sym e))
  lists_at f (x ∷ xs) zero v e =
      let same : x ≡ v = cc in same_order _ _ (ap (λ (y : Log J). f y ++ flat_map f xs) same)
  lists_at f (x ∷ xs) (suc port) v e =
      joined _ (f x ++ (f v ++ flat_map f (others xs port))) _
      (IsPermutation-append_right (f x) (flat_map f xs) (f v ++ flat_map f (others xs port))
      (lists_at f xs port v e))
      (exchange (f x) (f v) (flat_map f (others xs port)))

  lists_set : (f : Log J → List (Piece J)) (views : List (Log J)) (port : ℕ) (v w : Log J)
      → get_elem? views port ≡ some v
      → IsPermutation (flat_map f (set views port w)) (f w ++ flat_map f (others views port))
  lists_set f [] port v w e = absurd (some-ne-none v (sym e))
  lists_set f (x ∷ xs) zero v w e = IsPermutation-refl (f w ++ flat_map f xs)
  lists_set f (x ∷ xs) (suc port) v w e =
      joined _ (f x ++ (f w ++ flat_map f (others xs port))) _
      (IsPermutation-append_right (f x) (flat_map f (set xs port w))
      (f w ++ flat_map f (others xs port)) (lists_set f xs port v w e))
      (exchange (f x) (f w) (flat_map f (others xs port)))

  all_at : (P : Log J → Type 0) (views : List (Log J)) (port : ℕ) (v : Log J)
      → get_elem? views port ≡ some v → AllByRecursion P views
      → P v × AllByRecursion P (others views port)
  all_at P [] port v e all = absurd (some-ne-none v (sym e))
  all_at P (x ∷ xs) zero v e all = let same : x ≡ v = cc in (subst P same all.0, all.1)
  all_at P (x ∷ xs) (suc port) v e all =
      let rest = all_at P xs port v e all.1 in (rest.0, (all.0, rest.1))

  all_set : (P : Log J → Type 0) (views : List (Log J)) (port : ℕ) (w : Log J) → P w
      → AllByRecursion P views → AllByRecursion P (set views port w)
  all_set P [] port w mine all = tt
  all_set P (x ∷ xs) zero w mine all = (mine, all.1)
  all_set P (x ∷ xs) (suc port) w mine all = (all.0, all_set P xs port w mine all.1)

  -- ---- the rule, seen from one view beside the others

  abbrev Beside : List (Piece J) → Log J → List (Log J) → Type 0
  Beside items v vs = (v.parts + all_parts vs ≡ 64)
      × IsPermutation (v.put ++ all_put vs) (items ++ (v.taken ++ all_taken vs))

  beside : (items : List (Piece J)) (views : List (Log J)) (port : ℕ) (v : Log J)
      → get_elem? views port ≡ some v → Balanced items views → Beside items v (others views port)
  beside items views port v e b = (
    sym (parts_at views port v e) ∙ b.parts,
    joined _ (all_put views) _ (IsPermutation-sym _ _ (lists_at (λ u. u.put) views port v e))
        (joined _ (items ++ all_taken views) _ b.balance
        (IsPermutation-append_right items (all_taken views)
        (v.taken ++ all_taken (others views port)) (lists_at (λ u. u.taken) views port v e))),
  )

  balanced : (items new : List (Piece J)) (views : List (Log J)) (port : ℕ) (v w : Log J)
      → get_elem? views port ≡ some v → Balanced items views → IsIdle w
      → Beside new w (others views port) → Balanced new (set views port w)
  balanced items new views port v w e b idle s = record {
    parts = parts_set views port v w e ∙ s.0;
    balance =
        joined _ (w.put ++ all_put (others views port)) _ (lists_set (λ u. u.put) views port v w e)
        (joined _ (new ++ (w.taken ++ all_taken (others views port))) _ s.1
        (IsPermutation-append_right new (w.taken ++ all_taken (others views port))
        (all_taken (set views port w))
        (IsPermutation-sym _ _ (lists_set (λ u. u.taken) views port v w e))));
    idle = all_set IsIdle views port w idle b.idle;
  }

  nothing_beside : (vs : List (Log J)) → all_parts vs ≡ 0 → AllByRecursion IsIdle vs
      → (all_put vs ≡ []) × (all_taken vs ≡ [])
  nothing_beside [] none idle = (refl, refl)
  nothing_beside (v ∷ vs) none idle =
      let mine = idle.0 (omega arith) in let rest = nothing_beside vs (omega arith) idle.1 in (
        ap (λ (xs : List (Piece J)). xs ++ all_put vs) mine.0 ∙ rest.0,
        ap (λ (xs : List (Piece J)). xs ++ all_taken vs) mine.1 ∙ rest.1,
      )

  -- whoever has every part knows the whole
  whole : (items : List (Piece J)) (views : List (Log J)) (port : ℕ) (v : Log J) → v.parts ≡ 64
      → get_elem? views port ≡ some v → Balanced items views
      → IsPermutation v.put (items ++ v.taken)
  whole items views port v every e b =
      let s = beside items views port v e b in
      let none = nothing_beside (others views port) (omega (arith, s.0))
      (all_at IsIdle views port v e b.idle).1 in
      joined _ (v.put ++ all_put (others views port)) _
      (same_order _ _ (sym (append-nil v.put)
      ∙ ap (λ (xs : List (Piece J)). v.put ++ xs) (sym none.0)))
      (joined _ _ _ s.1 (same_order _ _
      (ap (λ (xs : List (Piece J)). items ++ (v.taken ++ xs)) none.1
      ∙ ap (λ (xs : List (Piece J)). items ++ xs) (append-nil v.taken))))

  -- ---- the steps

  pub begins : Balanced {J = J} [] (log 64 [] [] ∷ [])
  begins = record {
    parts = refl;
    balance = IsPermutation-refl [];
    idle = ((λ none. absurd (omega (arith, none))), tt);
  }

  pub puts : (port : ℕ) (v : Log J) (xs : List (Piece J)) → 0 < v.parts
      → Pushes Balanced port v xs (λ w. w ≡ log v.parts (v.put ++ xs) v.taken)
  puts port v xs some_part items views b e =
      let s = beside items views port v e b in
      let w = log v.parts (v.put ++ xs) v.taken in (
        w,
        balanced items (items ++ xs) views port v w e b (λ none. absurd (omega arith)) (
          s.0,
          put_more v.put xs (all_put (others views port)) items v.taken
              (all_taken (others views port)) s.1,
        ),
        refl,
      )

  -- if one more was taken, no more were taken than put in
  counted : (v : Log J) (xs items : List (Piece J)) → IsPermutation v.put ((xs ++ items) ++ v.taken)
      → length (v.taken ++ xs) ≤ length v.put
  counted v xs items p = omega (
    arith,
    length_permutation _ _ p,
    length-append v.taken xs,
    length-append (xs ++ items) v.taken,
    length-append xs items,
  )

  pub takes : (port : ℕ) (v : Log J) → 0 < v.parts
      → Takes Balanced port v 1 (λ xs w. (w ≡ log v.parts v.put (v.taken ++ xs))
      × (v.parts ≡ 64 → length (v.taken ++ xs) ≤ length v.put))
  takes port v some_part xs items views some_one at_most_one b e =
      let s = beside (xs ++ items) views port v e b in
      let w = log v.parts v.put (v.taken ++ xs) in (
        w,
        balanced (xs ++ items) items views port v w e b (λ none. absurd (omega arith)) (
          s.0,
          take_front (v.put ++ all_put (others views port)) xs items v.taken
              (all_taken (others views port)) s.1,
        ),
        (refl, λ every. counted v xs items (whole (xs ++ items) views port v every e b)),
      )

  pub steals : (port : ℕ) (v : Log J) → 0 < v.parts
      → Takes Balanced port v 1 (λ xs w. w ≡ log v.parts v.put (v.taken ++ xs))
  steals port v some_part xs items views some_one at_most_one b e =
      let taken = takes port v some_part xs items views some_one at_most_one b e in
      (taken.0, taken.1, taken.2.0)

  pub pops : (port : ℕ) (v : Log J) → 0 < v.parts
      → Pops Balanced port v (λ xs w. (w ≡ log v.parts v.put (v.taken ++ xs))
      × (v.parts ≡ 64 → length (v.taken ++ xs) ≤ length v.put))
  pops port v some_part x items views b e =
      let xs : List (Piece J) = x ∷ [] in
      let s = beside (items ++ xs) views port v e b in
      let w = log v.parts v.put (v.taken ++ xs) in (
        w,
        balanced (items ++ xs) items views port v w e b (λ none. absurd (omega arith)) (
          s.0,
          take_back (v.put ++ all_put (others views port)) xs items v.taken
              (all_taken (others views port)) s.1,
        ),
        (
          refl,
          λ every.
              let p = whole (items ++ xs) views port v every e b in
              omega (
                arith,
                length_permutation _ _ p,
                length-append v.taken xs,
                length-append (items ++ xs) v.taken,
                length-append items xs,
              ),
        ),
      )

  pub drained : (port : ℕ) (v : Log J)
      → Finds Balanced port v (v.parts ≡ 64 → IsPermutation v.put v.taken)
  drained port v views b e = λ every. whole [] views port v every e b

  -- ---- passes

  parts_push : (views : List (Log J)) (v : Log J)
      → all_parts (views ++ v ∷ []) ≡ all_parts views + v.parts
  parts_push [] v = omega arith
  parts_push (x ∷ xs) v = omega (arith, parts_push xs v)

  lists_push : (f : Log J → List (Piece J)) (views : List (Log J)) (v : Log J) → f v ≡ []
      → flat_map f (views ++ v ∷ []) ≡ flat_map f views
  lists_push f [] v none = ap (λ (xs : List (Piece J)). xs ++ []) none
  lists_push f (x ∷ xs) v none = ap (λ (ys : List (Piece J)). f x ++ ys) (lists_push f xs v none)

  all_push : (P : Log J → Type 0) (views : List (Log J)) (v : Log J) → P v → AllByRecursion P views
      → AllByRecursion P (views ++ v ∷ [])
  all_push P [] v mine all = (mine, tt)
  all_push P (x ∷ xs) v mine all = (all.0, all_push P xs v mine all.1)

  pub forks : (port : ℕ) (v : Log J) → 1 < v.parts
      → Forks Balanced port v (log (v.parts - 1) v.put v.taken) (log 1 [] [])
  forks port v some_parts items views b e =
      let left = log (v.parts - 1) v.put v.taken in let right : Log J = log 1 [] [] in
      let s = beside items views port v e b in
      record {
        parts = omega (
          arith,
          parts_push (set views port left) right,
          parts_set views port v left e,
          s.0,
        );
        balance =
            joined _ _ _ (same_order _ _ (lists_push (λ u. u.put) (set views port left) right refl))
            (joined _ _ _ (lists_set (λ u. u.put) views port v left e)
            (joined _ _ _ s.1 (IsPermutation-append_right items
            (v.taken ++ all_taken (others views port))
            (all_taken (set views port left ++ right ∷ []))
            (joined _ _ _ (IsPermutation-sym _ _ (lists_set (λ u. u.taken) views port v left e))
            (same_order _ _ (sym (lists_push (λ u. u.taken)
            (set views port left) right refl)))))));
        idle = all_push IsIdle (set views port left) right (λ none. absurd (omega (arith, none)))
            (all_set IsIdle views port left (λ none. absurd (omega arith)) b.idle);
      }

  merged_parts : (views : List (Log J)) (port other : ℕ) (v w both spent : Log J)
      → get_elem? views port ≡ some v → (other ≡ port → ⊥)
      → get_elem? (set views port both) other ≡ some w
      → both.parts ≡ v.parts + w.parts → spent.parts ≡ 0
      → all_parts (set (set views port both) other spent) ≡ all_parts views
  merged_parts [] port other v w both spent e apart e' sum none = absurd (some-ne-none v (sym e))
  merged_parts (x ∷ xs) zero zero v w both spent e apart e' sum none = absurd (apart refl)
  merged_parts (x ∷ xs) zero (suc other) v w both spent e apart e' sum none =
      let same : x ≡ v = cc in let p = ap (λ (y : Log J). y.parts) same in
      omega (arith, parts_at xs other w e', parts_set xs other w spent e')
  merged_parts (x ∷ xs) (suc port) zero v w both spent e apart e' sum none =
      let same : x ≡ w = cc in let p = ap (λ (y : Log J). y.parts) same in
      omega (arith, parts_at xs port v e, parts_set xs port v both e)
  merged_parts (x ∷ xs) (suc port) (suc other) v w both spent e apart e' sum none =
      omega (
        arith,
        merged_parts xs port other v w both spent e
            (λ (same : other ≡ port). apart (ap suc same)) e' sum none,
      )

  merged_lists : (f : Log J → List (Piece J)) (views : List (Log J)) (port other : ℕ)
      (v w both spent : Log J) → get_elem? views port ≡ some v → (other ≡ port → ⊥)
      → get_elem? (set views port both) other ≡ some w
      → f both ≡ f v ++ f w → f spent ≡ []
      → IsPermutation (flat_map f (set (set views port both) other spent)) (flat_map f views)
  merged_lists f [] port other v w both spent e apart e' sum none = absurd (some-ne-none v (sym e))
  merged_lists f (x ∷ xs) zero zero v w both spent e apart e' sum none = absurd (apart refl)
  merged_lists f (x ∷ xs) zero (suc other) v w both spent e apart e' sum none =
      let same : x ≡ v = cc in
      let rest = flat_map f (others xs other) in
      joined _ (f both ++ (f spent ++ rest)) _
      (IsPermutation-append_right (f both) _ _ (lists_set f xs other w spent e'))
      (joined _ (f v ++ (f w ++ rest)) _
      (same_order _ _ (ap (λ (ys : List (Piece J)). ys ++ (f spent ++ rest)) sum
      ∙ ap (λ (ys : List (Piece J)). (f v ++ f w) ++ (ys ++ rest)) none
      ∙ append_assoc (f v) (f w) rest))
      (joined _ (f v ++ flat_map f xs) _
      (IsPermutation-append_right (f v) _ _ (IsPermutation-sym _ _ (lists_at f xs other w e')))
      (same_order _ _ (ap (λ (y : Log J). f y ++ flat_map f xs) (sym same)))))
  merged_lists f (x ∷ xs) (suc port) zero v w both spent e apart e' sum none =
      let same : x ≡ w = cc in
      let rest = flat_map f (others xs port) in
      joined _ (flat_map f (set xs port both)) _
      (same_order _ _ (ap (λ (ys : List (Piece J)). ys ++ flat_map f (set xs port both)) none))
      (joined _ (f both ++ rest) _ (lists_set f xs port v both e)
      (joined _ (f v ++ (f w ++ rest)) _
      (same_order _ _ (ap (λ (ys : List (Piece J)). ys ++ rest) sum
      ∙ append_assoc (f v) (f w) rest))
      (joined _ (f w ++ (f v ++ rest)) _ (exchange (f v) (f w) rest)
      (joined _ (f w ++ flat_map f xs) _
      (IsPermutation-append_right (f w) _ _ (IsPermutation-sym _ _ (lists_at f xs port v e)))
      (same_order _ _ (ap (λ (y : Log J). f y ++ flat_map f xs) (sym same)))))))
  merged_lists f (x ∷ xs) (suc port) (suc other) v w both spent e apart e' sum none =
      IsPermutation-append_right (f x) _ _
      (merged_lists f xs port other v w both spent e
      (λ (same : other ≡ port). apart (ap suc same)) e' sum none)

  both_idle : (v w : Log J) → IsIdle v → IsIdle w
      → IsIdle (log (v.parts + w.parts) (v.put ++ w.put) (v.taken ++ w.taken))
  both_idle v w p q = λ none.
      let a = p (omega arith) in let b = q (omega arith) in (
        ap (λ (xs : List (Piece J)). xs ++ w.put) a.0 ∙ b.0,
        ap (λ (xs : List (Piece J)). xs ++ w.taken) a.1 ∙ b.1,
      )

  pub merges : (port : ℕ) (v : Log J) (other : ℕ) (w : Log J)
      → Merges Balanced port v other w
      (log (v.parts + w.parts) (v.put ++ w.put) (v.taken ++ w.taken)) (log 0 [] [])
  merges port v other w items views b e apart e' =
      let both = log (v.parts + w.parts) (v.put ++ w.put) (v.taken ++ w.taken) in
      let spent : Log J = log 0 [] [] in
      let was : get_elem? views other ≡ some w =
      ⊎_elim (λ x. absurd (apart x.0)) (λ x. x.1) (at_set views port other both w e') in
      record {
        parts = merged_parts views port other v w both spent e apart e' refl refl ∙ b.parts;
        balance =
            joined _ (all_put views) _ (merged_lists
            (λ u. u.put) views port other v w both spent e apart e' refl refl)
            (joined _ (items ++ all_taken views) _ b.balance
            (IsPermutation-append_right items _ _
            (IsPermutation-sym _ _ (merged_lists
            (λ u. u.taken) views port other v w both spent e apart e' refl refl))));
        idle =
            all_set IsIdle (set views port both) other spent (λ _. (refl, refl))
            (all_set IsIdle views port both
            (both_idle v w (all_at IsIdle views port v e b.idle).0
            (all_at IsIdle views other w was b.idle).0) b.idle);
      }
