-- Parts at the front of a text, each followed by a space.
use Rattle.std.proofs.Common.{◌≡◌, ℕ, true, List, ◌∷◌, ◌++◌, append_assoc, Option, Some, None, refl, sym, ap, subst, ◌∙◌}
use Rattle.std.specs.Option.{option_map}
use Rattle.sip_text.proofs.Cuts.{has_no, Reads, field_took, field_again}
use Rattle.sip_text.proofs.Options.{bind_some, same_some}
use Rattle.sip_text.specs.Options.{◌>>=◌}
use Rattle.sip_text.specs.Cut.{field_at}
use Rattle.sip_files.specs.Steps.Reading.{both_at, ended_by}

-- A reader of the part before a space: what it reads is spelled that way and fits, and what fits is
-- read from its spelling.
pub record ReadsFront {A : Type 0} (Fits : A → Type 0) (spell : A → List ℕ)
    (read : List ℕ → Option (A × List ℕ)) : Type 0 where
  pub took : (text : List ℕ) (p : A × List ℕ) → read text ≡ Some p
      → Fits p.0 × (text ≡ spell p.0 ++ 32 ∷ p.1)
  pub again : (x : A) (rest : List ℕ) → Fits x → read (spell x ++ 32 ∷ rest) ≡ Some (x, rest)

pub field_front : {A : Type 0} (Fits : A → Type 0) (spell : A → List ℕ) (read : List ℕ → Option A)
    → Reads Fits spell read → ((x : A) → Fits x → has_no 32 (spell x) ≡ true)
    → ReadsFront Fits spell (field_at 32 read)
field_front Fits spell read reads none = record {
  took = field_took 32 Fits spell read reads;
  again = λ x rest fits. field_again 32 Fits spell read reads x rest fits (none x fits);
}

module _ {A B : Type 0} {P : A → Type 0} {s : A → List ℕ} {a : List ℕ → Option (A × List ℕ)}
    (first : ReadsFront P s a) where
  pub both_front : {Q : B → Type 0} {t : B → List ℕ} {b : List ℕ → Option (B × List ℕ)}
      → ReadsFront Q t b → ReadsFront (λ (x : A × B). P x.0 × Q x.1) (λ x. s x.0 ++ 32 ∷ t x.1)
      (both_at a b)
  both_front {Q = Q} {t = t} {b = b} second = record {
    took = λ text p e.
        let x = bind_some (a text) (λ x. b x.1 >>= λ y. Some ((x.0, y.0), y.1)) p e in
        let y = bind_some (b x.0.1) (λ y. Some ((x.0.0, y.0), y.1)) p x.2 in
        let f = first.took text x.0 x.1 in
        let g = second.took x.0.1 y.0 y.1 in
        let whole : text ≡ (s x.0.0 ++ 32 ∷ t y.0.0) ++ 32 ∷ y.0.1 =
        f.1 ∙ ap (λ (r : List ℕ). s x.0.0 ++ 32 ∷ r) g.1
        ∙ sym (append_assoc (s x.0.0) (32 ∷ t y.0.0) (32 ∷ y.0.1)) in
        let R : (A × B) × List ℕ → Type 0 =
        λ z. (P (z.0).0 × Q (z.0).1) × (text ≡ (s (z.0).0 ++ 32 ∷ t (z.0).1) ++ 32 ∷ z.1) in
        subst R (same_some ((x.0.0, y.0.0), y.0.1) p y.2) ((f.0, g.0), whole);
    again = λ x rest fits.
        ap (both_at a b) (append_assoc (s x.0) (32 ∷ t x.1) (32 ∷ rest))
        ∙ ap (λ o. o >>= λ x. b x.1 >>= λ y. Some ((x.0, y.0), y.1))
        (first.again x.0 (t x.1 ++ 32 ∷ rest) fits.0)
        ∙ ap (λ o. o >>= λ y. Some ((x.0, y.0), y.1)) (second.again x.1 rest fits.1);
  }

  pub ended_reads : {Q : B → Type 0} {t : B → List ℕ} {b : List ℕ → Option B} → Reads Q t b
      → Reads (λ (x : A × B). P x.0 × Q x.1) (λ x. s x.0 ++ 32 ∷ t x.1) (ended_by a b)
  ended_reads {Q = Q} {t = t} {b = b} last = record {
    took = λ text p e.
        let x = bind_some (a text) (λ x. b x.1 >>= λ y. Some (x.0, y)) p e in
        let y = bind_some (b x.0.1) (λ y. Some (x.0.0, y)) p x.2 in
        let f = first.took text x.0 x.1 in
        let g = last.took x.0.1 y.0 y.1 in
        let R : A × B → Type 0 = λ z. (P z.0 × Q z.1) × (text ≡ s z.0 ++ 32 ∷ t z.1) in
        subst R (same_some (x.0.0, y.0) p y.2)
        ((f.0, g.0), f.1 ∙ ap (λ (r : List ℕ). s x.0.0 ++ 32 ∷ r) g.1);
    again = λ x fits.
        ap (λ o. o >>= λ x. b x.1 >>= λ y. Some (x.0, y)) (first.again x.0 (t x.1) fits.0)
        ∙ ap (λ o. o >>= λ y. Some (x.0, y)) (last.again x.1 fits.1);
  }

-- the same, for a value of another type
module _ {A B : Type 0} (make : A → B) (parts : B → A) (whole : (y : B) → make (parts y) ≡ y)
    (same : (x : A) → parts (make x) ≡ x) where
  pub made_front : {P : A → Type 0} {s : A → List ℕ} {a : List ℕ → Option (A × List ℕ)}
      → ReadsFront P s a
      → ReadsFront (λ y. P (parts y)) (λ y. s (parts y))
      (λ text. a text >>= λ p. Some (make p.0, p.1))
  made_front {P = P} {s = s} {a = a} front = record {
    took = λ text p e.
        let x = bind_some (a text) (λ p. Some (make p.0, p.1)) p e in
        let f = front.took text x.0 x.1 in
        let R : B × List ℕ → Type 0 = λ z. P (parts z.0) × (text ≡ s (parts z.0) ++ 32 ∷ z.1) in
        subst R (same_some (make x.0.0, x.0.1) p x.2) (
          subst P (sym (same x.0.0)) f.0,
          f.1
              ∙ ap (λ (y : A). s y ++ 32 ∷ x.0.1) (sym (same x.0.0)),
        );
    again = λ y rest fits.
        ap (λ o. o >>= λ p. Some (make p.0, p.1)) (front.again (parts y) rest fits)
        ∙ ap (λ (z : B). Some (z, rest)) (whole y);
  }

-- the same for a whole text, if what fits is made of its parts
module _ {A B : Type 0} (make : A → B) (parts : B → A) (same : (x : A) → parts (make x) ≡ x) where
  pub made_reads : {P : A → Type 0} {Q : B → Type 0} {s : A → List ℕ} {a : List ℕ → Option A}
      → ((y : B) → Q y → make (parts y) ≡ y) → ((x : A) → P x → Q (make x))
      → ((y : B) → Q y → P (parts y)) → Reads P s a
      → Reads Q (λ y. s (parts y)) (λ text. option_map make (a text))
  made_reads {P = P} {Q = Q} {s = s} {a = a} whole to from reads = record {
    took = λ text y e.
        let x = made_of (a text) y e in
        let f = reads.took text x.0 x.1 in
        let R : B → Type 0 = λ z. Q z × (text ≡ s (parts z)) in
        subst R x.2 (to x.0 f.0, f.1 ∙ ap s (sym (same x.0)));
    again = λ y fits. ap (option_map make) (reads.again (parts y) (from y fits))
        ∙ ap (λ (z : B). Some z) (whole y fits);
  }
    where
      made_of : (o : Option A) (y : B) → option_map make o ≡ Some y
          → (x : A) × (o ≡ Some x) × (make x ≡ y)
      made_of None y e = absurd cc
      made_of (Some x) y e = (x, refl, same_some (make x) y e)
