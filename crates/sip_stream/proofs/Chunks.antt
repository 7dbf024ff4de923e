-- The first lines of what was read, and of all that is left.
use Rattle.std.proofs.Common.{◌≡◌, ℕ, zero, suc, ◌+◌, ◌<◌, ◌≤◌, Bool, true, false, List, [], ◌∷◌, ◌++◌, length, take, drop, refl, sym, ap, ◌∙◌, arith, codes, inl, inr}
use Rattle.std.specs.Prelude.{◌&&◌, ◌==◌, if◌then◌else◌, nat_eq}
use Rattle.std.specs.List.{starts_with}
use Rattle.sip_files.specs.Rounds.{begins_round, first_round}
use Rattle.sip_stream.specs.Streams.{IsRounds}

-- ---- it is a front of the text

abbrev pub after_first : Bool → List ℕ → List ℕ
after_first ends bytes = if ends then [] else first_round bytes

pub no_longer : (text : List ℕ) → length (first_round text) ≤ length text
unfolding first_round
no_longer [] = omega arith
no_longer (b ∷ bytes) = by_end ((b == 10) && begins_round bytes) (no_longer bytes)
  where
    by_end : (ends : Bool) → length (first_round bytes) ≤ length bytes
        → suc (length (after_first ends bytes)) ≤ suc (length bytes)
    by_end true fewer = omega arith
    by_end false fewer = omega (arith, fewer)

pub is_front : (text : List ℕ) → take (length (first_round text)) text ≡ first_round text
unfolding first_round
is_front [] = refl
is_front (b ∷ bytes) = by_end ((b == 10) && begins_round bytes) (is_front bytes)
  where
    by_end : (ends : Bool) → take (length (first_round bytes)) bytes ≡ first_round bytes
        → b ∷ take (length (after_first ends bytes)) bytes ≡ b ∷ after_first ends bytes
    by_end true front = refl
    by_end false front = ap (λ (rest : List ℕ). b ∷ rest) front

-- ---- what follows changes nothing, once it ends before the end of the text

begins_longer : (text prefix after : List ℕ) → length prefix ≤ length text
    → starts_with nat_eq (text ++ after) prefix ≡ starts_with nat_eq text prefix
begins_longer text [] after fits = refl
begins_longer [] (p ∷ prefix) after fits = absurd (omega (arith, fits))
begins_longer (b ∷ text) (p ∷ prefix) after fits =
    let fewer : length prefix ≤ length text = omega (arith, fits) in
    ap (λ (rest : Bool). nat_eq p b && rest) (begins_longer text prefix after fewer)

and_second : (s t : Bool) → (s && t) ≡ true → t ≡ true
and_second true t e = e
and_second false t e = absurd cc

has_prefix : (text prefix : List ℕ) → starts_with nat_eq text prefix ≡ true
    → length prefix ≤ length text
has_prefix text [] is = omega arith
has_prefix [] (p ∷ prefix) is = absurd cc
has_prefix (b ∷ text) (p ∷ prefix) is =
    omega (
      arith,
      has_prefix text prefix
          (and_second (nat_eq p b) (starts_with nat_eq text prefix) is),
    )

-- a round begins behind it, so there is room for that
room : (text : List ℕ) → length (first_round text) < length text → 6 ≤ length text
unfolding first_round
room [] ends = absurd (omega (arith, ends))
room (b ∷ bytes) ends =
    by_end ((b == 10) && begins_round bytes) refl (λ fewer. room bytes fewer) ends
  where
    by_end : (stops : Bool) → stops ≡ ((b == 10) && begins_round bytes)
        → (length (first_round bytes) < length bytes → 6 ≤ length bytes)
        → suc (length (after_first stops bytes)) < suc (length bytes) → 6 ≤ suc (length bytes)
    by_end true is further ends =
        omega (
          arith,
          has_prefix bytes (codes "round ")
              (and_second (b == 10) (begins_round bytes) (sym is)),
        )
    by_end false is further ends =
        let fewer : length (first_round bytes) < length bytes = omega (arith, ends) in
        omega (arith, further fewer)

-- whether the first round ends here
same_begin : (b : ℕ) (bytes after : List ℕ) → length (codes "round ") ≤ length bytes
    → ((b == 10) && begins_round (bytes ++ after)) ≡ ((b == 10) && begins_round bytes)
same_begin b bytes after fits =
    ap (λ (begins : Bool). (b == 10) && begins)
    (begins_longer bytes (codes "round ") after fits)

pub same_first : (text after : List ℕ) → length (first_round text) < length text
    → first_round (text ++ after) ≡ first_round text
unfolding first_round
same_first [] after ends = absurd (omega (arith, ends))
same_first (b ∷ bytes) after ends =
    by_end ((b == 10) && begins_round bytes) refl (λ fewer. same_first bytes after fewer) ends
  where
    by_end : (stops : Bool) → stops ≡ ((b == 10) && begins_round bytes)
        → (length (first_round bytes) < length bytes
        → first_round (bytes ++ after) ≡ first_round bytes)
        → suc (length (after_first stops bytes)) < suc (length bytes)
        → first_round (b ∷ (bytes ++ after)) ≡ b ∷ after_first stops bytes
    by_end true is further ends =
        let fits = has_prefix bytes (codes "round ")
        (and_second (b == 10) (begins_round bytes) (sym is)) in
        ap (λ (stop : Bool). b ∷ after_first stop (bytes ++ after))
        (same_begin b bytes after fits ∙ sym is)
    by_end false is further ends =
        let fewer : length (first_round bytes) < length bytes = omega (arith, ends) in
        let fits : length (codes "round ") ≤ length bytes = omega (arith, room bytes fewer) in
        ap (λ (stop : Bool). b ∷ after_first stop (bytes ++ after))
        (same_begin b bytes after fits ∙ sym is)
        ∙ ap (λ (rest : List ℕ). b ∷ rest) (further fewer)

-- if it doesn't end before the end of the text, only the last bytes may be those of the next one
pub front_of : (count : ℕ) (text after : List ℕ) → count + 6 ≤ length text
    → first_round text ≡ text
    → first_round (text ++ after) ≡ take count text ++ first_round (drop count text ++ after)
unfolding first_round
front_of zero text after fits all = refl
front_of (suc count) [] after fits all = absurd (omega (arith, fits))
front_of (suc count) (b ∷ bytes) after fits all =
    by_end ((b == 10) && begins_round bytes) refl
    (λ more_fits rest. front_of count bytes after more_fits rest) all
  where
    by_end : (stops : Bool) → stops ≡ ((b == 10) && begins_round bytes)
        → (count + 6 ≤ length bytes → first_round bytes ≡ bytes
        → first_round (bytes ++ after)
        ≡ take count bytes ++ first_round (drop count bytes ++ after))
        → b ∷ after_first stops bytes ≡ b ∷ bytes
        → first_round (b ∷ (bytes ++ after))
        ≡ b ∷ (take count bytes ++ first_round (drop count bytes ++ after))
    by_end true is further all =
        let none : [] ≡ bytes = cc in
        absurd (omega (arith, fits, ap length none))
    by_end false is further all =
        let room : count + 6 ≤ length bytes = omega (arith, fits) in
        ap (λ (stop : Bool). b ∷ after_first stop (bytes ++ after))
        (same_begin b bytes after (omega (arith, room)) ∙ sym is)
        ∙ ap (λ (rest : List ℕ). b ∷ rest) (further room cc)

-- behind it stands nothing, or the next one
pub rounds_follow : (lines left : List ℕ) → first_round (lines ++ left) ≡ lines → IsRounds left
unfolding first_round
rounds_follow [] [] is = inl refl
rounds_follow [] (b ∷ left) is = absurd cc
rounds_follow (b ∷ bytes) left is =
    by_end ((b == 10) && begins_round (bytes ++ left)) refl
    (λ rest. rounds_follow bytes left rest) is
  where
    by_end : (stops : Bool) → stops ≡ ((b == 10) && begins_round (bytes ++ left))
        → (first_round (bytes ++ left) ≡ bytes → IsRounds left)
        → b ∷ after_first stops (bytes ++ left) ≡ b ∷ bytes → IsRounds left
    by_end true ends further is =
        let none : bytes ≡ [] = cc in
        inr (ap (λ (t : List ℕ). begins_round (t ++ left)) (sym none)
        ∙ and_second (b == 10) (begins_round (bytes ++ left)) (sym ends))
    by_end false ends further is = further cc
