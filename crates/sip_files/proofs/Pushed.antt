-- Loops that push the texts of a list's items.
use Rattle.std.proofs.Common.{◌≡◌, ℕ, ◌+◌, ◌<◌, List, [], ◌∷◌, ◌++◌, length, get_or, take, refl, ap, sym, ◌∙◌, append_assoc, Result, Ok, Err}
use Rattle.std.specs.Result.{OnOk}
use Rattle.std.specs.List.{flat_map}
use Rattle.std.proofs.lemmas.List.{flat_map_more, take_more}

pub one_more : {X : Type 0} (f : X → List ℕ) (before now next : List ℕ) (xs more : List X) (x : X)
    → more ≡ xs ++ x ∷ [] → now ≡ before ++ flat_map f xs → next ≡ now ++ f x
    → next ≡ before ++ flat_map f more
one_more f before now next xs more x m e g =
    rw m (g ∙ ap (λ t. t ++ f x) e ∙ flat_map_more f before xs x)

pub taken : {X : Type 0} (xs : List X) (i : ℕ) (x : X) → i < length xs → x ≡ get_or xs i x
    → take (i + 1) xs ≡ take i xs ++ x ∷ []
taken xs i x lt is = take_more xs i x lt ∙ ap (λ y. take i xs ++ y ∷ []) (sym is)

-- two texts are pushed, then two at once, and then one more
pub after_two : {A E : Type 0} (r : Result A E) (old first second third new a b c d e : List ℕ)
    → first ≡ old ++ a → second ≡ first ++ b → third ≡ second ++ (c ++ d)
    → OnOk r (new ≡ third ++ e) → OnOk r (new ≡ old ++ ((((a ++ b) ++ c) ++ d) ++ e))
after_two (Ok x) old first second third new a b c d e p q s t =
    let whole : (((old ++ a) ++ b) ++ (c ++ d)) ++ e ≡ old ++ ((((a ++ b) ++ c) ++ d) ++ e) =
    simp append_assoc refl in
    t ∙ ap (λ u. u ++ e) (s ∙ ap (λ u. u ++ (c ++ d)) (q ∙ ap (λ u. u ++ b) p)) ∙ whole
after_two (Err x) old first second third new a b c d e p q s t = tt
