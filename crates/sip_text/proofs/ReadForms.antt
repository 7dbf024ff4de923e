-- Reading from left to right finds exactly what the form says, for each way to make a form.
use Rattle.std.proofs.Common.{◌≡◌, ℕ, Bool, true, false, cond, List, [], ◌∷◌, inl, inr, Option, Some, None, refl, sym, ap, subst, ◌∙◌}
use Rattle.std.specs.Prelude.{option_and_then}
use Rattle.std.specs.List.{AllZip}
use Rattle.std.specs.Option.{option_map}
use Rattle.std.proofs.lemmas.Option.{same_Some, none-some}
use Rattle.sip_text.specs.Forms.{Passing, passing, Always, always, Never, never, OrEmpty, or_empty, Behind, behind, Of, reading_of, Guarded, guarded, Checked, checked, Told, told, Both, both, OnCut, by_cut, on_cut, Split, each, split}
use Rattle.sip_text.specs.Separator.{cut_from, split_from}
use Rattle.sip_text.specs.declared.separator.Separator.{Separator}
use Rattle.sip_text.specs.declared.separator.Place.TheVariants.{Plain}
use Rattle.sip_text.proofs.Separators.{and_then_some, mapped, cut_takes, cut_again, whole_takes, whole_again}
use Rattle.sip_text.proofs.Splits.{splits, split_again}

-- f finds the one x for which P holds of a, if there is one
pub record Reads (A X : Type 0) (f : A → Option X) (P : X → A → Type 0) : Type 0 where
  pub takes : (a : A) (x : X) → f a ≡ Some x → P x a
  pub again : (a : A) (x : X) → P x a → f a ≡ Some x

pub only_one : {A X : Type 0} {f : A → Option X} {P : X → A → Type 0} → Reads A X f P
    → (a : A) (x y : X) → P x a → P y a → x ≡ y
only_one reads a x y p q = same_Some x y (sym (reads.again a x p) ∙ reads.again a y q)

pub not_read : {A X : Type 0} {f : A → Option X} {P : X → A → Type 0} → Reads A X f P → (a : A)
    → f a ≡ None → (x : X) → P x a → ⊥
not_read reads a none x p = none-some x (sym none ∙ reads.again a x p)

-- ---- one text

if_some : {X : Type 0} (b : Bool) (o : Option X) (x : X) → cond b o None ≡ Some x
    → (b ≡ true) × (o ≡ Some x)
if_some true o x e = (refl, e)
if_some false o x e = absurd cc

pub passing_reads : (test : List ℕ → Bool) → Reads (List ℕ) (List ℕ) (passing test) (Passing test)
passing_reads test = record {
  takes = λ text x e. let parts =
      if_some (test text) (Some text) x e in (sym (same_Some text x parts.1), parts.0);
  again = λ text x p. ap (λ b. cond b (Some text) None) p.1 ∙ ap (λ (y : List ℕ). Some y) (sym p.0);
}

pub always_reads : {A X : Type 0} (value : X) → Reads A X (always value) (Always value)
always_reads value = record {
  takes = λ a x e. sym (same_Some value x e);
  again = λ a x p. ap (λ y. Some y) (sym p);
}

pub never_reads : {A X : Type 0} → Reads A X never Never
never_reads = record { takes = λ a x e. absurd (none-some x e); again = λ a x p. absurd p }

pub or_empty_reads : {X : Type 0} {f : List ℕ → Option (List X)} {P : List X → List ℕ → Type 0}
    → Reads (List ℕ) (List X) f P → Reads (List ℕ) (List X) (or_empty f) (OrEmpty P)
or_empty_reads {X} {f} {P} reads = record { takes = takes; again = again }
  where
    takes : (text : List ℕ) (xs : List X) → or_empty f text ≡ Some xs → OrEmpty P xs text
    takes [] xs e = sym (same_Some [] xs e)
    takes (b ∷ bs) xs e = reads.takes (b ∷ bs) xs e

    again : (text : List ℕ) (xs : List X) → OrEmpty P xs text → or_empty f text ≡ Some xs
    again [] xs p = ap (λ (ys : List X). Some ys) (sym p)
    again (b ∷ bs) xs p = reads.again (b ∷ bs) xs p

pub of_reads : {A B X : Type 0} {g : B → Option X} {P : X → B → Type 0} (f : A → B) → Reads B X g P
    → Reads A X (reading_of g f) (Of P f)
of_reads f reads =
    record { takes = λ a x e. reads.takes (f a) x e; again = λ a x p. reads.again (f a) x p }

pub guarded_reads : {A X : Type 0} {f : A → Option X} {P : X → A → Type 0} (test : A → Bool)
    → Reads A X f P → Reads A X (guarded test f) (Guarded test P)
guarded_reads {f = f} test reads = record {
  takes = λ a x e. let parts = if_some (test a) (f a) x e in (parts.0, reads.takes a x parts.1);
  again = λ a x p. ap (λ b. cond b (f a) None) p.0 ∙ reads.again a x p.1;
}

pub checked_reads : {A X : Type 0} {f : A → Option X} {P : X → A → Type 0} (test : X → Bool)
    → Reads A X f P → Reads A X (checked test f) (Checked test P)
checked_reads {A} {X} {f} {P} test reads = record { takes = takes; again = again }
  where
    found : (a : A) (x y : X) → f a ≡ Some y → cond (test y) (Some y) None ≡ Some x
        → P x a × (test x ≡ true)
    found a x y is e =
        let parts = if_some (test y) (Some y) x e in
        let same = same_Some y x parts.1 in
        (subst (λ z. P z a) same (reads.takes a y is), subst (λ z. test z ≡ true) same parts.0)

    takes : (a : A) (x : X) → checked test f a ≡ Some x → Checked test P x a
    takes a x e = let m =
        and_then_some (λ y. cond (test y) (Some y) None) (f a) x e in found a x m.0 m.1 m.2

    again : (a : A) (x : X) → Checked test P x a → checked test f a ≡ Some x
    again a x p =
        ap (option_and_then (λ y. cond (test y) (Some y) None)) (reads.again a x p.0)
        ∙ ap (λ b. cond b (Some x) None) p.1

pub told_reads : {A X Y : Type 0} {f : A → Option X} {P : X → A → Type 0} (to : X → Y)
    → Reads A X f P → Reads A Y (told to f) (Told to P)
told_reads {f = f} to reads = record {
  takes = λ a y e. let m = mapped to (f a) y e in (m.0, sym m.2, reads.takes a m.0 m.1);
  again = λ a y p. ap (option_map to) (reads.again a p.0 p.2) ∙ ap (λ z. Some z) (sym p.1);
}

-- ---- two texts, and a text that is cut

pub behind_reads : {X : Type 0} {f : List ℕ → Option X} {P : X → List ℕ → Type 0}
    (test : List ℕ → Bool) → Reads (List ℕ) X f P
    → Reads (List ℕ × List ℕ) X (behind test f) (Behind test P)
behind_reads {f = f} test reads = record {
  takes = λ parts x e. let both =
      if_some (test parts.0) (f parts.1) x e in (both.0, reads.takes parts.1 x both.1);
  again = λ parts x p. ap (λ b. cond b (f parts.1) None) p.0 ∙ reads.again parts.1 x p.1;
}

pub both_reads : {A B X Y : Type 0} {f : A → Option X} {P : X → A → Type 0} {g : B → Option Y}
    {Q : Y → B → Type 0} → Reads A X f P → Reads B Y g Q
    → Reads (A × B) (X × Y) (both f g) (Both P Q)
both_reads {A} {B} {X} {Y} {f} {P} {g} {Q} one two = record { takes = takes; again = again }
  where
    takes : (ab : A × B) (xy : X × Y) → both f g ab ≡ Some xy → Both P Q xy ab
    takes ab xy e =
        let m = and_then_some (λ x. option_and_then (λ y. Some (x, y)) (g ab.1)) (f ab.0) xy e in
        let n = and_then_some (λ y. Some (m.0, y)) (g ab.1) xy m.2 in
        let same = same_Some (m.0, n.0) xy n.2 in
        subst (λ (z : X × Y). Both P Q z ab) same (one.takes ab.0 m.0 m.1, two.takes ab.1 n.0 n.1)

    again : (ab : A × B) (xy : X × Y) → Both P Q xy ab → both f g ab ≡ Some xy
    again ab xy p =
        ap (option_and_then (λ x. option_and_then (λ y. Some (x, y)) (g ab.1)))
        (one.again ab.0 xy.0 p.0)
        ∙ ap (option_and_then (λ y. Some (xy.0, y))) (two.again ab.1 xy.1 p.1)

pub cut_reads : {X : Type 0} {f : List ℕ × List ℕ → Option X} {P : X → List ℕ × List ℕ → Type 0}
    {g : List ℕ → Option X} {Q : X → List ℕ → Type 0} (at : Separator)
    → Reads (List ℕ × List ℕ) X f P → Reads (List ℕ) X g Q
    → Reads (List ℕ) X (on_cut at f g) (OnCut at P Q)
cut_reads {X} {f} {P} {g} {Q} at one two = record { takes = takes; again = again }
  where
    by : (text : List ℕ) (x : X) (o : Option (List ℕ × List ℕ)) → cut_from at Plain text ≡ o
        → by_cut o f (g text) ≡ Some x → OnCut at P Q x text
    by text x None is e = inr (whole_takes at Plain text is, two.takes text x e)
    by text x (Some parts) is e = inl (parts, cut_takes at Plain text parts is, one.takes parts x e)

    takes : (text : List ℕ) (x : X) → on_cut at f g text ≡ Some x → OnCut at P Q x text
    takes text x e = by text x (cut_from at Plain text) refl e

    again : (text : List ℕ) (x : X) → OnCut at P Q x text → on_cut at f g text ≡ Some x
    again text x (inl p) =
        ap (λ o. by_cut o f (g text)) (cut_again at Plain text p.0 p.1) ∙ one.again p.0 x p.2
    again text x (inr p) =
        ap (λ o. by_cut o f (g text)) (whole_again at Plain text p.0) ∙ two.again text x p.1

each_takes : {A X : Type 0} (f : A → Option X) (P : X → A → Type 0) → Reads A X f P
    → (texts : List A) (xs : List X) → each f texts ≡ Some xs → AllZip P xs texts
each_takes f P reads [] xs e = subst (λ ys. AllZip P ys []) (same_Some [] xs e) tt
each_takes f P reads (text ∷ texts) xs e =
    let a = and_then_some (λ y. option_and_then (λ ys. Some (y ∷ ys)) (each f texts))
    (f text) xs e in
    let b = and_then_some (λ ys. Some (a.0 ∷ ys)) (each f texts) xs a.2 in
    subst (λ zs. AllZip P zs (text ∷ texts)) (same_Some (a.0 ∷ b.0) xs b.2)
    (reads.takes text a.0 a.1, each_takes f P reads texts b.0 b.1)

each_again : {A X : Type 0} (f : A → Option X) (P : X → A → Type 0) → Reads A X f P
    → (texts : List A) (xs : List X) → AllZip P xs texts → each f texts ≡ Some xs
each_again f P reads [] [] all = refl
each_again f P reads [] (x ∷ xs) all = absurd all
each_again f P reads (text ∷ texts) [] all = absurd all
each_again f P reads (text ∷ texts) (x ∷ xs) all =
    rw (reads.again text x all.0, each_again f P reads texts xs all.1) refl

pub split_reads : {X : Type 0} {f : List ℕ → Option X} {P : X → List ℕ → Type 0} (at : Separator)
    → Reads (List ℕ) X f P → Reads (List ℕ) (List X) (split at f) (Split at P)
split_reads {X} {f} {P} at reads = record {
  takes = λ text xs e. (
    split_from at Plain text,
    splits at Plain text,
    each_takes f P reads (split_from at Plain text) xs e,
  );
  again = λ text xs p. ap (each f) (split_again at Plain text p.0 p.1)
      ∙ each_again f P reads p.0 xs p.2;
}
