-- The lines of a listener: they stay the same while datagrams are posted, and then each ends.
use Rattle.std.proofs.Common.{◌≡◌, ℕ, zero, suc, ◌<◌, arith, List, [], ◌∷◌, ◌++◌, length, take, drop, Option, Some, None, IfSome, Result, Ok, Err, IfOk, ap, sym, subst, refl, ◌∙◌}
use Rattle.std.proofs.lemmas.Grind.{common_steps}
use Rattle.std.specs.Prelude.{slice_get, slice_set, slice_index_or}
use Rattle.std.specs.List.{AllZip}
use Rattle.std.specs.Result.{result_ok}
use Rattle.sip_desk.specs.Lines.{IsEndOfLine, IsFinal, SameLine}
use Rattle.sip_desk.specs.declared.ended.Ended.{Ended}
use Rattle.sip_desk.specs.declared.ended.Unfinished.{Unfinished}
use Rattle.sip_desk.specs.declared.poster.Poster.{Poster}
use Rattle.sip_udp.specs.Hearing.{EndsAsPosted, EndsLine}

module _ {A : Type 0} (R : A → A → Type 0) where
  pub zip_same : ((x : A) → R x x) → (xs : List A) → AllZip R xs xs
  zip_same same [] = tt
  zip_same same (x ∷ xs) = (same x, zip_same same xs)

  -- one element is replaced by another that belongs to it
  pub zip_set : ((x : A) → R x x) → (xs : List A) (k : ℕ) (y : A) → k < length xs
      → ((d : A) → R (slice_index_or xs k d) y) → AllZip R xs (slice_set xs k y)
  zip_set same [] k y within is = absurd (omega (arith, within))
  zip_set same (x ∷ xs) zero y within is = (is y, zip_same same xs)
  zip_set same (x ∷ xs) (suc k) y within is =
      (same x, zip_set same xs k y (omega (arith, within)) is)

  pub zip_trans : ((x y z : A) → R x y → R y z → R x z) → (xs ys zs : List A)
      → AllZip R xs ys → AllZip R ys zs → AllZip R xs zs
  zip_trans trans [] [] [] p q = tt
  zip_trans trans [] [] (z ∷ zs) p q = elim q [ ]
  zip_trans trans [] (y ∷ ys) zs p q = elim p [ ]
  zip_trans trans (x ∷ xs) [] zs p q = elim p [ ]
  zip_trans trans (x ∷ xs) (y ∷ ys) [] p q = elim q [ ]
  zip_trans trans (x ∷ xs) (y ∷ ys) (z ∷ zs) p q =
      (trans x y z p.0 q.0, zip_trans trans xs ys zs p.1 q.1)

-- all others are as they were
pub get_other : {A : Type 0} (xs : List A) (k : ℕ) (y : A) (i : ℕ) → (i ≡ k → ⊥)
    → slice_get (slice_set xs k y) i ≡ slice_get xs i
get_other [] k y i other = refl
get_other (x ∷ xs) zero y zero other = absurd (other refl)
get_other (x ∷ xs) zero y (suc i) other = refl
get_other (x ∷ xs) (suc k) y zero other = refl
get_other (x ∷ xs) (suc k) y (suc i) other = get_other xs k y i (λ e. other (ap suc e))

-- the end of a line, if the desk stands
pub ended_line : {E : Type 0} (line : Poster E) (result : Result (Ended E) Unfinished)
    (end : Option (Ended E)) → end ≡ result_ok result → IfOk result (λ one. IsEndOfLine line one)
    → EndsLine line end
ended_line line (Ok one) end is ends = subst (λ e. EndsLine line e) (sym is) ends
ended_line line (Err fault) end is ends = subst (λ e. EndsLine line e) (sym is) tt

pub posted_line : {E : Type 0} (line : Poster E) (result : Result (Ended E) Unfinished)
    (end : Option (Ended E)) → end ≡ result_ok result → IfOk result (λ one. IsFinal line one)
    → EndsAsPosted line end
posted_line line (Ok one) end is final = subst (λ e. EndsAsPosted line e) (sym is) final
posted_line line (Err fault) end is final = subst (λ e. EndsAsPosted line e) (sym is) tt

pub line_same : {E : Type 0} (line : Poster E) → SameLine line line
line_same line = record { number = refl; capacity = refl; of_desk = λ desk of. of }

pub line_trans : {E : Type 0} (a b c : Poster E) → SameLine a b → SameLine b c → SameLine a c
line_trans a b c p q = record {
  number = q.number ∙ p.number;
  capacity = q.capacity ∙ p.capacity;
  of_desk = λ desk of. q.of_desk desk (p.of_desk desk of);
}

line_before : {E : Type 0} (old new : Poster E) (end : Option (Ended E)) → SameLine old new
    → EndsLine new end → EndsLine old end
line_before old new None same ends = tt
line_before old new (Some one) same ends = record {
  number = ends.number ∙ same.number;
  of_desk = λ desk of. ends.of_desk desk (same.of_desk desk of);
}

-- what ends lines that are the same ends those of before
pub zip_before : {E : Type 0} (olds news : List (Poster E)) (ends : List (Option (Ended E)))
    → AllZip SameLine olds news → AllZip EndsLine news ends → AllZip EndsLine olds ends
zip_before [] [] ends same all = all
zip_before [] (n ∷ news) ends same all = elim same [ ]
zip_before (o ∷ olds) [] ends same all = elim same [ ]
zip_before (o ∷ olds) (n ∷ news) [] same all = all
zip_before (o ∷ olds) (n ∷ news) (end ∷ ends) same all =
    (line_before o n end same.0 all.0, zip_before olds news ends same.1 all.1)

pub some_before : {E X : Type 0} (items : X → List (Option (Ended E))) (olds news : List (Poster E))
    (ends : Option X) → AllZip SameLine olds news
    → IfSome ends (λ es. AllZip EndsLine news (items es))
    → IfSome ends (λ es. AllZip EndsLine olds (items es))
some_before items olds news None same all = tt
some_before items olds news (Some es) same all = zip_before olds news (items es) same all

-- a slice that is lent as long as it was stands for the whole list
pub whole_slice : {A : Type 0} (len : ℕ) (olds news : List A) → len ≡ length olds
    → length olds ≡ length news → take len (news ++ drop (length news) olds) ≡ news
whole_slice len olds news is same = grind (arith, common_steps, is, same)
