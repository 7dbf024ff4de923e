-- Steps of the code that gives outputs in a form.
use Rattle.std.specs.Prelude.{◌≡◌, ℕ, List, map}
use Rattle.sip_message.specs.declared.id.Id.{Id}
use Rattle.sip_transactions.specs.declared.output.Out.{Out}
use Rattle.sip_user.specs.declared.item.CallOut.{CallOut}
use Rattle.sip_user.specs.declared.item.Item.{Item}
use Rattle.sip_round.specs.declared.output.Output.{Output}
use Rattle.sip_round.specs.declared.output.PlacedOutput.{PlacedOutput}
use Rattle.sip_round.specs.Outputs.{place_of, sent_at, call_outputs_at}

-- outputs in the form that is given for the output of the event at a place
abbrev pub in_form : {F : Type 0} → (ℕ → Output → F) → List PlacedOutput → List F
in_form form outputs = map (λ placed. form placed.place placed.output) outputs

-- what a transaction sends or drops because of the event at a place, in the form
abbrev pub sent_as : {F : Type 0} → (ℕ → Output → F) → ℕ → Out → List F
sent_as form place out = in_form form (sent_at place out)

-- what a call shows because of the event at a place, in the form
abbrev pub call_outputs_as : {F : Type 0} → (ℕ → Output → F) → ℕ → CallOut → List F
call_outputs_as form place out = in_form form (call_outputs_at place out)

-- with the kept places, outputs have the same form as with those of these items' events
abbrev pub ArePlacesOf : {F P : Type 0} → (ℕ → Output → F) → (P → ℕ → ℕ) → List (Id × Item) → P
    → Type 0
ArePlacesOf form place_at items places =
    (index : ℕ) → form (place_at places index) ≡ form (place_of items index)
