-- The events with which a call is given something in rounds rise, by round and by place.
use Rattle.std.proofs.Common.{◌≡◌, ◌⊎◌, inl, inr, ℕ, suc, ◌<◌, ◌≤◌, false, List, [], ◌∷◌, ◌++◌, refl, sym, subst, ◌∙◌, arith}
use Rattle.std.specs.List.{AllByRecursion, IsDistinct}
use Rattle.std.proofs.lemmas.Grind.{common_steps}
use Rattle.std.proofs.lemmas.Map.Keys.{IsDistinct-cons}
use Rattle.sip_message.specs.declared.id.Id.{Id}
use Rattle.sip_held_dialogs.proofs.Entries.{none_apart}
use Rattle.sip_held_dialogs.specs.Ids.{is_id}

-- each belongs to this round, at this place or later, and above those before it
abbrev pub Places : ℕ → ℕ → List Id → Type 0
Places round place [] = Unit {0}
Places round place (id ∷ ids) =
    (id.round ≡ round) × (place ≤ id.place) × Places round (suc id.place) ids

-- each is above those before it, beginning with this round and this place
abbrev pub Rise : ℕ → ℕ → List Id → Type 0
Rise round place [] = Unit {0}
Rise round place (id ∷ ids) = ((round < id.round) ⊎ ((id.round ≡ round) × (place ≤ id.place)))
    × Rise id.round (suc id.place) ids

pub places_from : (round low high : ℕ) (ids : List Id) → low ≤ high → Places round high ids
    → Places round low ids
places_from round low high [] less places = tt
places_from round low high (id ∷ ids) less places =
    (places.0, omega (arith, less, places.1), places.2)

rise_from : (round place : ℕ) (ids : List Id) → Rise (suc round) 0 ids → Rise round place ids
rise_from round place [] rise = tt
rise_from round place (id ∷ ids) rise = (inl (by_first rise.0), rise.1)
  where
    by_first : ((suc round < id.round) ⊎ ((id.round ≡ suc round) × (0 ≤ id.place)))
        → round < id.round
    by_first (inl above) = omega (arith, above)
    by_first (inr same) = omega (arith, same.0)

-- the events of a round, and those of later rounds
pub rise_after : (round place : ℕ) (ids later : List Id) → Places round place ids
    → Rise (suc round) 0 later → Rise round place (ids ++ later)
rise_after round place [] later places rise = rise_from round place later rise
rise_after round place (id ∷ ids) later places rise = (
  inr (places.0, places.1),
  subst (λ r. Rise r (suc id.place) (ids ++ later)) (sym places.0)
      (rise_after round (suc id.place) ids later places.2 rise),
)

other_round : (x y : Id) → x.round < y.round → is_id x y ≡ false
other_round x y below = grind (arith, common_steps, below)

other_place : (x y : Id) → x.place < y.place → is_id x y ≡ false
other_place x y below = grind (arith, common_steps, below)

-- an event below all others isn't one of them
none_of : (x : Id) (round place : ℕ) (ids : List Id)
    → ((x.round < round) ⊎ ((x.round ≡ round) × (x.place < place))) → Rise round place ids
    → AllByRecursion (λ y. is_id x y ≡ false) ids
none_of x round place [] below rise = tt
none_of x round place (id ∷ ids) below rise =
    (apart below rise.0, none_of x id.round (suc id.place) ids (next below rise.0) rise.1)
  where
    apart : ((x.round < round) ⊎ ((x.round ≡ round) × (x.place < place)))
        → ((round < id.round) ⊎ ((id.round ≡ round) × (place ≤ id.place))) → is_id x id ≡ false
    apart (inl less) (inl above) = other_round x id (omega (arith, less, above))
    apart (inl less) (inr same) = other_round x id (omega (arith, less, same.0))
    apart (inr less) (inl above) = other_round x id (omega (arith, less.0, above))
    apart (inr less) (inr same) = other_place x id (omega (arith, less.1, same.1))

    next : ((x.round < round) ⊎ ((x.round ≡ round) × (x.place < place)))
        → ((round < id.round) ⊎ ((id.round ≡ round) × (place ≤ id.place)))
        → (x.round < id.round) ⊎ ((x.round ≡ id.round) × (x.place < suc id.place))
    next (inl less) (inl above) = inl (omega (arith, less, above))
    next (inl less) (inr same) = inl (omega (arith, less, same.0))
    next (inr less) (inl above) = inl (omega (arith, less.0, above))
    next (inr less) (inr same) = inr (less.0 ∙ sym same.0, omega (arith, less.1, same.1))

pub rise_apart : (round place : ℕ) (ids : List Id) → Rise round place ids → IsDistinct is_id ids
rise_apart round place [] rise = none_apart is_id
rise_apart round place (id ∷ ids) rise =
    IsDistinct-cons is_id id ids (none_of id id.round (suc id.place) ids
    (inr (refl, omega arith)) rise.1) (rise_apart id.round (suc id.place) ids rise.1)
