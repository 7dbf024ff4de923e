-- The loop of `places_of`, for outputs with places: the places of the items so far.
use Rattle.std.proofs.Common.{◌≡◌, map, take}
use Rattle.sip_round.proofs.form.PlacedOutputForm.places_of.Given as goal

abbrev pub invariant-loop-id : goal.invariant-loop-id
invariant-loop-id l = l.places.items ≡ map (λ item. (item.0).place) (take l.id-index l.items)
