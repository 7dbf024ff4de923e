-- A name is in the set of names if the set has a name with the same bytes.
use Rattle.std.proofs.Common.{◌≡◌, ℕ, Bool, true, false, not, List, [], ◌∷◌, refl, ap, ◌∙◌, ◌||◌}
use Rattle.std.specs.List.{list_any}
use Rattle.std.specs.Str.{bytes_eq}
use Rattle.std.specs.BTreeMap.{is_at}
use Rattle.std.specs.Cmp.Lexicographic.{slice_cmp}
use Rattle.std.specs.Ordering.{nat_cmp}
use Rattle.std.proofs.lemmas.Map.Text.{is_eq-slice_cmp}
use Rattle.sip_ladder.specs.Shapes.{is_among}

same : (name : List ℕ) (names : List (List ℕ))
    → list_any (is_at (slice_cmp nat_cmp name)) names ≡ is_among names name
same name [] = refl
same name (x ∷ xs) =
    ap (λ b. b || list_any (is_at (slice_cmp nat_cmp name)) xs) (is_eq-slice_cmp name x)
    ∙ ap (λ b. bytes_eq name x || b) (same name xs)

twice : (b : Bool) → not (not b) ≡ b
twice true = refl
twice false = refl

-- then it isn't new
pub known : (name : List ℕ) (names : List (List ℕ)) (added : Bool)
    → added ≡ not (list_any (is_at (slice_cmp nat_cmp name)) names)
    → not added ≡ is_among names name
known name names added is =
    ap not is ∙ twice (list_any (is_at (slice_cmp nat_cmp name)) names) ∙ same name names
