-- A text split at a separator that counts.
use Rattle.std.proofs.Common.{◌≡◌, ℕ, List, [], ◌∷◌, Option, Some, None, refl, ap, ◌∙◌}
use Rattle.std.specs.Prelude.{option_and_then}
use Rattle.std.specs.Option.{option_map}
use Rattle.std.specs.List.{onto_first}
use Rattle.sip_text.specs.Separator.{next_place, place_after, by_place, by_piece, cut_from, split_from, IsSplitFrom}
use Rattle.sip_text.specs.declared.separator.Separator.{Separator}
use Rattle.sip_text.specs.declared.separator.Place.{Place}
use Rattle.sip_text.specs.declared.separator.Place.TheVariants.{Plain}
use Rattle.sip_text.proofs.Separators.{cut_again, whole_again}

-- a text is split into the part before the first separator, and the split of what follows
abbrev pub split_by : List ℕ → Option (List ℕ × List ℕ) → (List ℕ → List (List ℕ)) → List (List ℕ)
split_by text None split = text ∷ []
split_by text (Some p) split = p.0 ∷ split p.1

onto_first-split_by : (split : List ℕ → List (List ℕ)) (b : ℕ) (bs : List ℕ)
    (o : Option (List ℕ × List ℕ))
    → onto_first b (split_by bs o split)
    ≡ split_by (b ∷ bs) (option_map (λ p. (b ∷ p.0, p.1)) o) split
onto_first-split_by split b bs None = refl
onto_first-split_by split b bs (Some p) = refl

by_next : (at : Separator) (b : ℕ) (bs : List ℕ) (next : Option Place)
    → ((p : Place) → split_from at p bs ≡ split_by bs (cut_from at p bs) (split_from at Plain))
    → by_piece b next (λ p. split_from at p bs)
    ≡ split_by (b ∷ bs) (by_place b bs next (λ p. cut_from at p bs)) (split_from at Plain)
by_next at b bs None rest = refl
by_next at b bs (Some p) rest =
    ap (onto_first b) (rest p) ∙ onto_first-split_by (split_from at Plain) b bs (cut_from at p bs)

pub split-cut : (at : Separator) (place : Place) (text : List ℕ)
    → split_from at place text ≡ split_by text (cut_from at place text) (split_from at Plain)
split-cut at place [] = refl
split-cut at place (b ∷ bs) = by_next at b bs (next_place at place b) (λ p. split-cut at p bs)

pub split_some : (at : Separator) (place : Place) (text front rest : List ℕ)
    → cut_from at place text ≡ Some (front, rest)
    → split_from at place text ≡ front ∷ split_from at Plain rest
split_some at place text front rest e =
    split-cut at place text ∙ ap (λ o. split_by text o (split_from at Plain)) e

pub split_none : (at : Separator) (place : Place) (text : List ℕ) → cut_from at place text ≡ None
    → split_from at place text ≡ text ∷ []
split_none at place text e =
    split-cut at place text ∙ ap (λ o. split_by text o (split_from at Plain)) e

-- ---- takes and again

one_more : (at : Separator) (place : Place) (b : ℕ) (bs : List ℕ) (pieces : List (List ℕ))
    → next_place at place b ≡ None → IsSplitFrom at Plain pieces bs
    → IsSplitFrom at place ([] ∷ pieces) (b ∷ bs)
one_more at place b bs [] stops split = absurd split
one_more at place b bs (piece ∷ pieces) stops split =
    (bs, record { byte = b; last = place; together = refl; none = refl; stops = stops }, split)

longer_first : (at : Separator) (place next : Place) (b : ℕ) (bs : List ℕ) (pieces : List (List ℕ))
    → next_place at place b ≡ Some next → IsSplitFrom at next pieces bs
    → IsSplitFrom at place (onto_first b pieces) (b ∷ bs)
longer_first at place next b bs [] is split = absurd split
longer_first at place next b bs (piece ∷ []) is split = (
  ap (λ (xs : List ℕ). b ∷ xs) split.0,
  record {
    last = split.1.last;
    none = ap (option_and_then (λ p. place_after at p piece)) is
        ∙ split.1.none;
  },
)
longer_first at place next b bs (piece ∷ (more ∷ pieces)) is split =
    let cut = split.1 in (
      split.0,
      record {
        byte = cut.byte;
        last = cut.last;
        together = ap (λ (xs : List ℕ). b ∷ xs) cut.together;
        none = ap (option_and_then (λ p. place_after at p piece)) is ∙ cut.none;
        stops = cut.stops;
      },
      split.2,
    )

splits_by : (at : Separator) (place : Place) (b : ℕ) (bs : List ℕ) (next : Option Place)
    → next_place at place b ≡ next → ((p : Place) → IsSplitFrom at p (split_from at p bs) bs)
    → IsSplitFrom at place (by_piece b next (λ p. split_from at p bs)) (b ∷ bs)
splits_by at place b bs None is rest =
    one_more at place b bs (split_from at Plain bs) is (rest Plain)
splits_by at place b bs (Some p) is rest =
    longer_first at place p b bs (split_from at p bs) is (rest p)

pub splits : (at : Separator) (place : Place) (text : List ℕ)
    → IsSplitFrom at place (split_from at place text) text
splits at place [] = (refl, record { last = place; none = refl })
splits at place (b ∷ bs) =
    splits_by at place b bs (next_place at place b) refl (λ p. splits at p bs)

pub split_again : (at : Separator) (place : Place) (text : List ℕ) (pieces : List (List ℕ))
    → IsSplitFrom at place pieces text → split_from at place text ≡ pieces
split_again at place text [] split = absurd split
split_again at place text (piece ∷ []) split =
    ap (split_from at place) split.0
    ∙ split_none at place piece (whole_again at place piece split.1)
split_again at place text (piece ∷ (next ∷ pieces)) split =
    split_some at place text piece split.0 (cut_again at place text (piece, split.0) split.1)
    ∙ ap (λ (ps : List (List ℕ)). piece ∷ ps) (split_again at Plain split.0 (next ∷ pieces) split.2)
