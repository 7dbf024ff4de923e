-- Texts cut in two, and parts that stand before a separator.
use Rattle.std.proofs.Common.{◌≡◌, ℕ, Bool, true, false, cond, not, eqb, List, [], ◌∷◌, ◌++◌, Option, Some, None, refl, sym, ap, subst, ◌∙◌}
use Rattle.std.specs.Char.{is_ascii_digit}
use Rattle.std.specs.List.{list_all}
use Rattle.std.specs.Option.{option_map}
use Rattle.std.proofs.lemmas.Bool.{eqb-true, eq-eqb, and_parts, and_from, not-true, not_from_false, true≢false}
use Rattle.std.proofs.lemmas.List.Folds.{list_all-append}
use Rattle.sip_text.specs.Cut.{cut_at, field_at}
use Rattle.sip_text.specs.Options.{◌>>=◌}
use Rattle.sip_text.proofs.Options.{bind_some, same_some}

-- no byte of the text is this one
abbrev pub has_no : ℕ → List ℕ → Bool
has_no at text = list_all (λ b. not (eqb b at)) text

-- a text in two parts, of which the first doesn't have this byte
pub record Parts (at : ℕ) (text front rest : List ℕ) : Type 0 where
  pub whole : text ≡ front ++ at ∷ rest
  pub none : has_no at front ≡ true

abbrev cut_by : ℕ → ℕ → List ℕ → Bool → Option (List ℕ × List ℕ) → Option (List ℕ × List ℕ)
cut_by at b bs r o = cond r (Some ([], bs)) (option_map (λ p. (b ∷ p.0, p.1)) o)

parts_by : (at b : ℕ) (bs : List ℕ) (r : Bool) (o : Option (List ℕ × List ℕ)) (p : List ℕ × List ℕ)
    → eqb b at ≡ r → ((q : List ℕ × List ℕ) → o ≡ Some q → Parts at bs q.0 q.1)
    → cut_by at b bs r o ≡ Some p → Parts at (b ∷ bs) p.0 p.1
parts_by at b bs true o p is before e =
    let P : List ℕ × List ℕ → Type 0 = λ y. Parts at (b ∷ bs) y.0 y.1 in
    subst P (same_some ([], bs) p e)
    (record { whole = ap (λ (c : ℕ). c ∷ bs) (eqb-true b at is); none = refl })
parts_by at b bs false None p is before e = absurd cc
parts_by at b bs false (Some q) p is before e =
    let first = before q refl in
    let P : List ℕ × List ℕ → Type 0 = λ y. Parts at (b ∷ bs) y.0 y.1 in
    let none : has_no at (b ∷ q.0) ≡ true =
    and_from (not (eqb b at)) (has_no at q.0) (not_from_false (eqb b at) is) first.none in
    subst P (same_some (b ∷ q.0, q.1) p e)
    (record { whole = ap (λ (t : List ℕ). b ∷ t) first.whole; none = none })

pub cut_took : (at : ℕ) (text : List ℕ) (p : List ℕ × List ℕ) → cut_at at text ≡ Some p
    → Parts at text p.0 p.1
cut_took at [] p e = absurd cc
cut_took at (b ∷ bs) p e =
    parts_by at b bs (eqb b at) (cut_at at bs) p refl (λ q h. cut_took at bs q h) e

pub cut_again : (at : ℕ) (front rest : List ℕ) → has_no at front ≡ true
    → cut_at at (front ++ at ∷ rest) ≡ Some (front, rest)
cut_again at [] rest none = ap (λ r. cut_by at at rest r (cut_at at rest)) (eq-eqb at at refl)
cut_again at (b ∷ bs) rest none =
    let parts = and_parts (not (eqb b at)) (has_no at bs) none in
    ap (λ r. cut_by at b (bs ++ at ∷ rest) r (cut_at at (bs ++ at ∷ rest)))
    (not-true (eqb b at) parts.0) ∙ ap (λ o. option_map (λ p. (b ∷ p.0, p.1)) o)
    (cut_again at bs rest parts.1)

pub uncut : (at : ℕ) (text : List ℕ) → has_no at text ≡ true → cut_at at text ≡ None
uncut at [] none = refl
uncut at (b ∷ bs) none =
    let parts = and_parts (not (eqb b at)) (has_no at bs) none in
    ap (λ r. cut_by at b bs r (cut_at at bs)) (not-true (eqb b at) parts.0)
    ∙ ap (λ o. option_map (λ p. (b ∷ p.0, p.1)) o) (uncut at bs parts.1)

-- ---- bytes that don't occur in a text

pub has_no-append : (at : ℕ) (xs ys : List ℕ) → has_no at xs ≡ true → has_no at ys ≡ true
    → has_no at (xs ++ ys) ≡ true
has_no-append at xs ys p q = list_all-append (λ b. not (eqb b at)) xs ys ∙ and_from _ _ p q

other : (test : ℕ → Bool) (at b : ℕ) (r : Bool) → eqb b at ≡ r → test at ≡ false → test b ≡ true
    → not (eqb b at) ≡ true
other test at b true e fails is = absurd (true≢false (sym is ∙ ap test (eqb-true b at e) ∙ fails))
other test at b false e fails is = ap not e

-- a byte that fails the test isn't among bytes that pass
pub none_passing : (test : ℕ → Bool) (at : ℕ) (text : List ℕ) → test at ≡ false
    → list_all test text ≡ true → has_no at text ≡ true
none_passing test at [] fails all = refl
none_passing test at (b ∷ bs) fails all =
    let parts = and_parts (test b) (list_all test bs) all in
    and_from _ _ (other test at b (eqb b at) refl fails parts.0)
    (none_passing test at bs fails parts.1)

pub digits_have_no : (at : ℕ) (digits : List ℕ) → is_ascii_digit at ≡ false
    → list_all is_ascii_digit digits ≡ true → has_no at digits ≡ true
digits_have_no at digits fails all = none_passing is_ascii_digit at digits fails all

-- ---- fields

-- A reader of fields: what it reads is spelled that way and fits, and what fits is read from its
-- spelling.
pub record Reads {A : Type 0} (Fits : A → Type 0) (spell : A → List ℕ)
    (read : List ℕ → Option A) : Type 0 where
  pub took : (field : List ℕ) (x : A) → read field ≡ Some x → Fits x × (field ≡ spell x)
  pub again : (x : A) → Fits x → read (spell x) ≡ Some x

pub field_took : {A : Type 0} (at : ℕ) (Fits : A → Type 0) (spell : A → List ℕ)
    (read : List ℕ → Option A) → Reads Fits spell read → (text : List ℕ) (p : A × List ℕ)
    → field_at at read text ≡ Some p → Fits p.0 × (text ≡ spell p.0 ++ at ∷ p.1)
field_took {A = A} at Fits spell read reads text p e =
    let cut = bind_some (cut_at at text) (λ q. read q.0 >>= λ x. Some (x, q.1)) p e in
    let x = bind_some (read cut.0.0) (λ x. Some (x, cut.0.1)) p cut.2 in
    let field = reads.took cut.0.0 x.0 x.1 in
    let whole = (cut_took at text cut.0 cut.1).whole
    ∙ ap (λ (f : List ℕ). f ++ at ∷ cut.0.1) field.1 in
    let P : A × List ℕ → Type 0 = λ y. Fits y.0 × (text ≡ spell y.0 ++ at ∷ y.1) in
    subst P (same_some (x.0, cut.0.1) p x.2) (field.0, whole)

pub field_again : {A : Type 0} (at : ℕ) (Fits : A → Type 0) (spell : A → List ℕ)
    (read : List ℕ → Option A) → Reads Fits spell read → (x : A) (rest : List ℕ) → Fits x
    → has_no at (spell x) ≡ true → field_at at read (spell x ++ at ∷ rest) ≡ Some (x, rest)
field_again at Fits spell read reads x rest fits none =
    ap (λ o. o >>= λ p. read p.0 >>= λ y. Some (y, p.1)) (cut_again at (spell x) rest none)
    ∙ ap (λ o. o >>= λ y. Some (y, rest)) (reads.again x fits)
