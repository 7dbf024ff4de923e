-- The first of several faults, also if each is about one of the headers, in their order.
use Rattle.std.proofs.Common.{◌≡◌, inl, inr, Bool, true, false, ◌&&◌, List, [], ◌∷◌, ◌++◌, map, cond, Option, Some, None, Result, Ok, Err, find, refl, sym, ap}
use Rattle.std.specs.List.{AllByRecursion, filter}
use Rattle.std.proofs.lemmas.Option.{same_Some, none-some}
use Rattle.sip_grammar.specs.declared.header_name.HeaderName.{HeaderName}
use Rattle.sip_message.specs.declared.fault.ReadFault.{ReadFault}
use Rattle.sip_headers.specs.Faults.{IsFirst, NoneHolds, Decides}

-- ---- the first of several faults

pub first_more : (C : ReadFault → Type 0) (faults others : List ReadFault) (e : ReadFault)
    → IsFirst C faults e → IsFirst C (faults ++ others) e
first_more C [] others e is = absurd is
first_more C (f ∷ faults) others e (inl here) = inl here
first_more C (f ∷ faults) others e (inr more) = inr (more.0, first_more C faults others e more.1)

pub first_behind : (C : ReadFault → Type 0) (faults others : List ReadFault) (e : ReadFault)
    → NoneHolds C faults → IsFirst C others e → IsFirst C (faults ++ others) e
first_behind C [] others e none is = is
first_behind C (f ∷ faults) others e none is =
    inr (none.0, first_behind C faults others e none.1 is)

pub none_both : (C : ReadFault → Type 0) (faults others : List ReadFault) → NoneHolds C faults
    → NoneHolds C others → NoneHolds C (faults ++ others)
none_both C [] others none more = more
none_both C (f ∷ faults) others none more = (none.0, none_both C faults others none.1 more)

-- ---- conditions that say the same

pub told_first : (C D : ReadFault → Type 0) (es : List ReadFault) (e : ReadFault)
    → AllByRecursion (λ f. (C f → D f) × (D f → C f)) es → IsFirst C es e → IsFirst D es e
told_first C D [] e both is = absurd is
told_first C D (f ∷ es) e both (inl here) = inl (here.0, both.0.0 here.1)
told_first C D (f ∷ es) e both (inr more) =
    inr (λ has. more.0 (both.0.1 has), told_first C D es e both.1 more.1)

pub told_none : (C D : ReadFault → Type 0) (es : List ReadFault)
    → AllByRecursion (λ f. (C f → D f) × (D f → C f)) es → NoneHolds C es → NoneHolds D es
told_none C D [] both none = tt
told_none C D (f ∷ es) both none = (λ has. none.0 (both.0.1 has), told_none C D es both.1 none.1)

pub told_decides : {X : Type 0} (C D : ReadFault → Type 0) (es : List ReadFault)
    (r : Result X ReadFault) → AllByRecursion (λ f. (C f → D f) × (D f → C f)) es → Decides C es r
    → Decides D es r
told_decides C D es (Ok x) both is = told_none C D es both is
told_decides C D es (Err e) both is = told_first C D es e both is

-- ---- a header that is looked for

pub record Tells (C : ReadFault → Type 0) (F : HeaderName → ReadFault)
    (p : HeaderName → Bool) : Type 0 where
  pub holds : (h : HeaderName) → p h ≡ true → C (F h)
  pub fails : (h : HeaderName) → p h ≡ false → C (F h) → ⊥

found_by : (C : ReadFault → Type 0) (F : HeaderName → ReadFault) (x h : HeaderName)
    (fs : List HeaderName) (more : Option HeaderName) (b c : Bool) → (c ≡ true → C (F x))
    → (c ≡ false → C (F x) → ⊥) → (more ≡ Some h → IsFirst C (map F fs) (F h))
    → cond (b && c) (Some x) more ≡ Some h → IsFirst C (map F (cond b (x ∷ fs) fs)) (F h)
found_by C F x h fs more true true is isnt rest e = inl (ap F (sym (same_Some x h e)), is refl)
found_by C F x h fs more true false is isnt rest e = inr (isnt refl, rest e)
found_by C F x h fs more false c is isnt rest e = rest e

pub found_first : (C : ReadFault → Type 0) (F : HeaderName → ReadFault) (q p : HeaderName → Bool)
    → Tells C F p → (xs : List HeaderName) (h : HeaderName) → find (λ x. q x && p x) xs ≡ Some h
    → IsFirst C (map F (filter q xs)) (F h)
found_first C F q p tells [] h e = absurd (none-some h e)
found_first C F q p tells (x ∷ xs) h e =
    found_by C F x h (filter q xs) (find (λ y. q y && p y) xs) (q x) (p x) (tells.holds x)
    (tells.fails x) (found_first C F q p tells xs h) e

nothing_by : (C : ReadFault → Type 0) (F : HeaderName → ReadFault) (x : HeaderName)
    (fs : List HeaderName) (more : Option HeaderName) (b c : Bool) → (c ≡ false → C (F x) → ⊥)
    → (more ≡ None → NoneHolds C (map F fs)) → cond (b && c) (Some x) more ≡ None
    → NoneHolds C (map F (cond b (x ∷ fs) fs))
nothing_by C F x fs more true true isnt rest e = absurd (none-some x (sym e))
nothing_by C F x fs more true false isnt rest e = (isnt refl, rest e)
nothing_by C F x fs more false c isnt rest e = rest e

pub found_nothing : (C : ReadFault → Type 0) (F : HeaderName → ReadFault) (q p : HeaderName → Bool)
    → Tells C F p → (xs : List HeaderName) → find (λ x. q x && p x) xs ≡ None
    → NoneHolds C (map F (filter q xs))
found_nothing C F q p tells [] e = tt
found_nothing C F q p tells (x ∷ xs) e =
    nothing_by C F x (filter q xs) (find (λ y. q y && p y) xs) (q x) (p x) (tells.fails x)
    (found_nothing C F q p tells xs) e
