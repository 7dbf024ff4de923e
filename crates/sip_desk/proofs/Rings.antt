-- Lemmas on the list of a desk's lines: a change of one line leaves the others as they are.
use Rattle.std.proofs.Common.{◌≡◌, ℕ, zero, suc, ◌+◌, ◌<◌, ◌≤◌, true, false, List, [], ◌∷◌, ◌++◌, ◌⊎◌, inl, inr, Some, None, refl, sym, ap, subst, ◌∙◌, arith, length, get_or, set, IfSome, IfOk, OnErr}
use Rattle.std.specs.Prelude.{◌==◌, IfNone, IsSomeAnd, slice_get, Result, Ok, Err, IsOk}
use Rattle.std.specs.Option.{option_map_or}
use Rattle.std.specs.Result.{result_ok}
use Rattle.std.proofs.lemmas.Bool.{cases_eq, eq-eqb, ne_eqb, false≢true}
use Rattle.std.proofs.lemmas.Option.{same_Some, slice_get-get_or, slice_get_past}
use Rattle.std.proofs.lemmas.List.{append-nil, length-set, length-append, nil_from_length}
use mathlib.Core.List.{IsPrefix}
use Rattle.rtrb.specs.Ends.{SameRing}
use Rattle.std.specs.declared.alloc.Global.{Global}
use Rattle.rtrb.specs.declared.AnyItems.{AnyItems}
use Rattle.rtrb.specs.Ring.{received, sent, producer_capacity, IsPair, IsFinishedOf, SameConsumer}
use Rattle.rtrb.specs.declared.end.End.{End}
use Rattle.rtrb.specs.declared.consumer.Consumer.{Consumer}
use Rattle.sip_desk.specs.declared.poster.Poster.{Poster}
use Rattle.sip_desk.specs.declared.desk.Desk.{Desk}
use Rattle.sip_desk.specs.Merge.{part_of}
use Rattle.sip_desk.specs.Lines.{posted, capacity_of, IsPosterOf, KeepsLines, IsOpened}

none_some : {X : Type 0} (x : X) → None ≡ Some x → ⊥
none_some x same = cc

-- ---- an option made from a result

pub ok_part : {T F : Type 0} {P Q : T → Type 0} → ((x : T) → P x → Q x) → (r : Result T F)
    → IfOk r P → IfSome (result_ok r) Q
ok_part f (Ok x) holds = f x holds
ok_part f (Err e) holds = tt

pub err_part : {T F : Type 0} {P Q : Type 0} → (P → Q) → (r : Result T F) → OnErr r P
    → IfNone (result_ok r) Q
err_part f (Ok x) holds = tt
err_part f (Err e) holds = f holds

pub err_both : {T F : Type 0} {P Q R : Type 0} → (P → Q → R) → (r : Result T F) → OnErr r P
    → OnErr r Q → IfNone (result_ok r) R
err_both f (Ok x) holds also = tt
err_both f (Err e) holds also = f holds also

pub prefix_of_none : {X : Type 0} (xs ys : List X) → xs ≡ [] → IsPrefix xs ys
prefix_of_none xs ys none = (ys, ap (λ front. front ++ ys) none)

-- ---- writing one element of a list

pub map_or_set : {X Y : Type 0} (f : X → Y) (d : Y) (xs : List X) (i : ℕ) (y : X) → i < length xs
    → option_map_or f (slice_get (set xs i y) i) d ≡ f y
map_or_set f d [] i y below = absurd (omega arith)
map_or_set f d (x ∷ xs) zero y below = refl
map_or_set f d (x ∷ xs) (suc i) y below = map_or_set f d xs i y (omega arith)

pub map_or_set_other : {X Y : Type 0} (f : X → Y) (d : Y) (xs : List X) (i j : ℕ) (y : X)
    → (i ≡ j → ⊥) → option_map_or f (slice_get (set xs i y) j) d
    ≡ option_map_or f (slice_get xs j) d
map_or_set_other f d [] i j y apart = refl
map_or_set_other f d (x ∷ xs) zero zero y apart = absurd (apart refl)
map_or_set_other f d (x ∷ xs) zero (suc j) y apart = refl
map_or_set_other f d (x ∷ xs) (suc i) zero y apart = refl
map_or_set_other f d (x ∷ xs) (suc i) (suc j) y apart =
    map_or_set_other f d xs i j y (λ same. apart (ap suc same))

holds_set : {X : Type 0} (P : X → Type 0) (xs : List X) (i j : ℕ) (old new : X)
    → slice_get xs i ≡ Some old → (P old → P new) → IsSomeAnd (slice_get xs j) P
    → IsSomeAnd (slice_get (set xs i new) j) P
holds_set P [] i j old new here step holds = holds
holds_set P (x ∷ xs) zero zero old new here step holds = step (subst P (same_Some x old here) holds)
holds_set P (x ∷ xs) zero (suc j) old new here step holds = holds
holds_set P (x ∷ xs) (suc i) zero old new here step holds = holds
holds_set P (x ∷ xs) (suc i) (suc j) old new here step holds =
    holds_set P xs i j old new here step holds

pub element_at : {X : Type 0} (xs : List X) (i : ℕ) (x : X) → i < length xs → x ≡ get_or xs i x
    → slice_get xs i ≡ Some x
element_at xs i x below is = slice_get-get_or xs i x below ∙ ap (λ y. Some y) (sym is)

module _ {X E : Type 0} (f : X → List E) (xs : List X) (i : ℕ) (old new : X) (below : i < length xs)
    (is : old ≡ get_or xs i old) where
  at_old : option_map_or f (slice_get xs i) [] ≡ f old
  at_old = ap (λ o. option_map_or f o []) (element_at xs i old below is)

  map_or_same : f new ≡ f old → (other : ℕ)
      → option_map_or f (slice_get (set xs i new) other) []
      ≡ option_map_or f (slice_get xs other) []
  map_or_same same other =
      elim (cases_eq i other) as (λ _. option_map_or f (slice_get (set xs i new) other) []
      ≡ option_map_or f (slice_get xs other) []) [
        | inl here ↦ subst (λ j. option_map_or f (slice_get (set xs i new) j) []
            ≡ option_map_or f (slice_get xs j) []) here
            (map_or_set f [] xs i new below ∙ same ∙ sym at_old)
        | inr apart ↦ map_or_set_other f [] xs i other new apart
      ]

-- ---- what a step changes in the lines: `f` is what was taken, `h` what was seen

module _ {X E : Type 0} (f h : X → List E) (xs : List X) (i : ℕ) (old new : X)
    (below : i < length xs) (is : old ≡ get_or xs i old) where
  pub nothing_more : f new ≡ f old → IsPrefix (h old) (h new) → (other : ℕ)
      → (option_map_or f (slice_get (set xs i new) other) []
      ≡ option_map_or f (slice_get xs other) [])
      × IsPrefix (option_map_or h (slice_get xs other) [])
      (option_map_or h (slice_get (set xs i new) other) [])
  nothing_more same grows other = (
    map_or_same f xs i old new below is same other,
    elim (cases_eq i other) as (λ _.
        IsPrefix (option_map_or h (slice_get xs other) [])
        (option_map_or h (slice_get (set xs i new) other) [])) [
          | inl here ↦ subst (λ j. IsPrefix (option_map_or h (slice_get xs j) [])
              (option_map_or h (slice_get (set xs i new) j) [])) here
              (subst (λ ys. IsPrefix ys (option_map_or h (slice_get (set xs i new) i) []))
              (sym (at_old h xs i old new below is))
              (subst (IsPrefix (h old)) (sym (map_or_set h [] xs i new below)) grows))
          | inr apart ↦ subst (IsPrefix (option_map_or h (slice_get xs other) []))
              (sym (map_or_set_other h [] xs i other new apart))
              ([], append-nil (option_map_or h (slice_get xs other) []))
        ],
  )

  pub one_more : (event : E) → f new ≡ f old ++ event ∷ [] → IsPrefix (h old) (event ∷ h new)
      → (other : ℕ)
      → (option_map_or f (slice_get (set xs i new) other) []
      ≡ option_map_or f (slice_get xs other) [] ++ part_of other ((i, event) ∷ []))
      × IsPrefix (option_map_or h (slice_get xs other) [])
      (part_of other ((i, event) ∷ []) ++ option_map_or h (slice_get (set xs i new) other) [])
  one_more event longer first other =
      elim (cases_eq i other) as (λ _.
      (option_map_or f (slice_get (set xs i new) other) []
      ≡ option_map_or f (slice_get xs other) [] ++ part_of other ((i, event) ∷ []))
      × IsPrefix (option_map_or h (slice_get xs other) [])
      (part_of other ((i, event) ∷ []) ++ option_map_or h (slice_get (set xs i new) other) [])) [
        | inl here ↦
            let same : (i == i) ≡ true = eq-eqb i i refl in
            subst (λ j. (option_map_or f (slice_get (set xs i new) j) []
            ≡ option_map_or f (slice_get xs j) [] ++ part_of j ((i, event) ∷ []))
            × IsPrefix (option_map_or h (slice_get xs j) [])
            (part_of j ((i, event) ∷ []) ++ option_map_or h (slice_get (set xs i new) j) [])) here
            (rw same (
              map_or_set f [] xs i new below ∙ longer
                  ∙ ap (λ front. front ++ event ∷ []) (sym (at_old f xs i old new below is)),
              subst (λ ys. IsPrefix ys (event ∷ option_map_or h (slice_get (set xs i new) i) []))
                  (sym (at_old h xs i old new below is))
                  (subst (λ ys. IsPrefix (h old) (event ∷ ys))
                  (sym (map_or_set h [] xs i new below)) first),
            ))
        | inr apart ↦
            let differ : (i == other) ≡ false = ne_eqb i other apart in
            rw differ (
              map_or_set_other f [] xs i other new apart
                  ∙ sym (append-nil (option_map_or f (slice_get xs other) [])),
              subst (IsPrefix (option_map_or h (slice_get xs other) []))
                  (sym (map_or_set_other h [] xs i other new apart))
                  ([], append-nil (option_map_or h (slice_get xs other) [])),
            )
      ]

-- where an end that has seen an item may not come back with none, one without an item had seen none
pub none_seen : {T F X : Type 0} (items : List X) (r : Result T F) → (0 < length items → IsOk r)
    → OnErr r (items ≡ [])
none_seen items (Ok x) sure = tt
none_seen [] (Err e) sure = refl
none_seen (y ∷ ys) (Err e) sure =
    let some : 0 < length (y ∷ ys) = omega arith in absurd (false≢true (sure some))

-- ---- the ends of one ring

ring_then : {T A P : Type 0} (a b c : End T A P) → SameRing a b → SameRing b c → SameRing a c
ring_then a b c first then =
    (then.0 ∙ first.0, then.1 ∙ first.1, then.2 ∙ first.2, then.3 ∙ first.3)

-- a line that is still the same end of its ring keeps its posters and ends
pub keeps_lines : {E : Type 0} (old new : Desk E) (line : ℕ) (was is : Consumer E Global AnyItems)
    → slice_get old.lines.items line ≡ Some was → SameConsumer was is
    → new.lines.items ≡ set old.lines.items line is → KeepsLines old new
keeps_lines {E} old new line was is here same items = record {
  count = ap length items ∙ length-set old.lines.items line is;
  posters = λ poster of.
      subst (λ (lines : List (Consumer E Global AnyItems)).
      IsSomeAnd (slice_get lines poster.line) (λ end. IsPair poster.ring end)) (sym items)
      (holds_set (λ (end : Consumer E Global AnyItems). IsPair poster.ring end) old.lines.items line
      poster.line was is here (λ pair. ring_then poster.ring.end was.end is.end pair same.0)
      of);
  ends = λ ended of.
      subst (λ (lines : List (Consumer E Global AnyItems)).
      IsSomeAnd (slice_get lines ended.line) (λ end. IsFinishedOf ended.ring end)) (sym items)
      (holds_set (λ (end : Consumer E Global AnyItems). IsFinishedOf ended.ring end) old.lines.items
      line ended.line was is here (λ pair. ring_then ended.ring.end was.end is.end pair same.0)
      of);
}

-- ---- one more line

get_push : {X : Type 0} (xs : List X) (y : X) (i : ℕ) (x : X) → slice_get (xs ++ y ∷ []) i ≡ Some x
    → (slice_get xs i ≡ Some x) ⊎ ((i ≡ length xs) × (x ≡ y))
get_push [] y zero x at = inr (refl, sym (same_Some y x at))
get_push [] y (suc i) x at = absurd (none_some x at)
get_push (z ∷ zs) y zero x at = inl at
get_push {X} (z ∷ zs) y (suc i) x at =
    elim (get_push zs y i x at) as (λ _. (slice_get zs i ≡ Some x)
    ⊎ ((suc i ≡ length (z ∷ zs)) × (x ≡ y))) [
      | inl before ↦ inl before
      | inr (here, same) ↦ inr (ap suc here, same)
    ]

map_or_push : {X E : Type 0} (f : X → List E) (xs : List X) (y : X) → f y ≡ []
    → ((i : ℕ) → option_map_or f (slice_get xs i) [] ≡ []) → (i : ℕ)
    → option_map_or f (slice_get (xs ++ y ∷ []) i) [] ≡ []
map_or_push f [] y none nothing zero = none
map_or_push f [] y none nothing (suc i) = refl
map_or_push f (x ∷ xs) y none nothing zero = nothing zero
map_or_push f (x ∷ xs) y none nothing (suc i) = map_or_push f xs y none (λ j. nothing (suc j)) i

holds_push : {X : Type 0} (P : X → Type 0) (xs : List X) (y : X) (j : ℕ)
    → IsSomeAnd (slice_get xs j) P → IsSomeAnd (slice_get (xs ++ y ∷ []) j) P
holds_push P [] y j holds = absurd holds
holds_push P (x ∷ xs) y zero holds = holds
holds_push P (x ∷ xs) y (suc j) holds = holds_push P xs y j holds

holds_last : {X : Type 0} (P : X → Type 0) (xs : List X) (y : X) → P y
    → IsSomeAnd (slice_get (xs ++ y ∷ []) (length xs)) P
holds_last P [] y holds = holds
holds_last P (x ∷ xs) y holds = holds_last P xs y holds

module _ {E : Type 0} (desk more : Desk E) (posters grown : List (Poster E)) (n capacity : ℕ)
    (poster : Poster E) (end : Consumer E Global AnyItems)
    (so_far : IsOpened desk posters n capacity)
    (lines : more.lines.items ≡ desk.lines.items ++ end ∷ [])
    (all : grown ≡ posters ++ poster ∷ []) (numbered : poster.line ≡ n)
    (pair : IsPair poster.ring end) where
  abbrev Of : List (Consumer E Global AnyItems) → Poster E → Type 0
  Of ends p = IsSomeAnd (slice_get ends p.line) (λ line. IsPair p.ring line)

  old_made : (i : ℕ) (p : Poster E) → slice_get posters i ≡ Some p
      → (p.line ≡ i) × IsPosterOf more p × (posted p ≡ []) × (capacity_of p ≡ capacity)
  old_made i p at =
      let before = so_far.made i p at in (
        before.0,
        subst (λ ends. Of ends p) (sym lines)
            (holds_push (λ (line : Consumer E Global AnyItems). IsPair p.ring line) desk.lines.items
            end p.line before.1),
        before.2,
        before.3,
      )

  new_of : IsPosterOf more poster
  new_of =
      let last : IsSomeAnd (slice_get (desk.lines.items ++ end ∷ []) (length desk.lines.items))
      (λ line. IsPair poster.ring line) =
      holds_last (λ (line : Consumer E Global AnyItems). IsPair poster.ring line) desk.lines.items
      end pair in
      let at : length desk.lines.items ≡ poster.line = so_far.count ∙ sym numbered in
      subst (λ ends. Of ends poster) (sym lines)
      (subst (λ (i : ℕ). IsSomeAnd (slice_get (desk.lines.items ++ end ∷ []) i)
      (λ line. IsPair poster.ring line)) at last)

  pub opened_more : sent poster.ring ≡ [] → producer_capacity poster.ring ≡ capacity
      → received end ≡ [] → IsOpened more grown (n + 1) capacity
  opened_more unposted room untaken = record {
    count = ap length lines ∙ length-append desk.lines.items (end ∷ [])
        ∙ ap (λ m. m + 1) so_far.count;
    each = ap length all ∙ length-append posters (poster ∷ []) ∙ ap (λ m. m + 1) so_far.each;
    untaken = λ line. ap (λ (ends : List (Consumer E Global AnyItems)).
        option_map_or received (slice_get ends line) []) lines
        ∙ map_or_push received desk.lines.items end untaken so_far.untaken line;
    made = λ i p at.
        elim (get_push posters poster i p
        (sym (ap (λ (ps : List (Poster E)). slice_get ps i) all) ∙ at)) as (λ _. (p.line ≡ i)
        × IsPosterOf more p × (posted p ≡ []) × (capacity_of p ≡ capacity)) [
          | inl before ↦ old_made i p before
          | inr (here, same) ↦ subst (λ (q : Poster E). (q.line ≡ i) × IsPosterOf more q
              × (posted q ≡ []) × (capacity_of q ≡ capacity)) (sym same)
              (numbered ∙ sym so_far.each ∙ sym here, new_of, unposted, room)
        ];
  }

pub within : {X : Type 0} (P : X → Type 0) (xs : List X) (i : ℕ) → IsSomeAnd (slice_get xs i) P
    → i < length xs
within P [] i holds = absurd holds
within P (x ∷ xs) zero holds = omega arith
within P (x ∷ xs) (suc i) holds = let below : i < length xs = within P xs i holds in omega arith

-- if nothing stands in front, what follows is all
pub nothing_left : {X : Type 0} (front back whole : List X) (count : ℕ) → front ++ back ≡ whole
    → count ≡ length back → count ≤ 0 → front ≡ whole
nothing_left front back whole count is counted none =
    let empty : back ≡ [] = nil_from_length back (omega arith) in
    sym (append-nil front) ∙ sym (ap (λ rest. front ++ rest) empty) ∙ is

-- past the last line there is nothing
pub map_or_past : {X E : Type 0} (f : X → List E) (xs : List X) (i : ℕ) → length xs ≤ i
    → option_map_or f (slice_get xs i) [] ≡ []
map_or_past f xs i past = ap (λ o. option_map_or f o []) (slice_get_past xs i past)
