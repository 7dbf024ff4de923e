-- What doesn't change in a held request, whatever happens to it.
use Rattle.std.proofs.Common.{◌≡◌, ℕ, List, [], ◌∷◌, refl, ap, ◌∙◌}
use Rattle.std.specs.Prelude.{Option, None, Some}
use Rattle.sip_message.specs.declared.id.Id.{Id}
use Rattle.sip_message.specs.declared.message.Message.{Message}
use Rattle.sip_reliable.specs.declared.tick.Tick.{Tick}
use Rattle.sip_reliable.specs.declared.tick.Tick.TheVariants as tick
use Rattle.sip_reliable.specs.Ledger.{ticked}
use Rattle.sip_served.specs.declared.held_request.HeldRequest.{HeldRequest}
use Rattle.sip_served.specs.declared.held_request.Success.{Success}
use Rattle.sip_served.specs.declared.retransmissions.SuccessDue.{SuccessDue}
use Rattle.sip_served.specs.declared.retransmissions.SuccessDue.TheVariants as repeat
use Rattle.sip_served.specs.RequestLife.{RequestHappening, EndsSuccess, Finishes, GivesUpProvisionals, MakesDialog, RepeatsProvisionals, RepeatsSuccess, SendsReliably, TakesPrack, request_happened, went_on}
use Rattle.sip_served.specs.Tick.{provisionals_by, success_answer, success_at_tick, success_goes}

-- ---- its id and its message

abbrev as_it_came : HeldRequest → Id × Message
as_it_came held = (held.id, held.request)

one_came : (h : RequestHappening) (held : HeldRequest)
    → as_it_came (request_happened held h) ≡ as_it_came held
one_came (MakesDialog life) held = refl
one_came (SendsReliably number response now) held = refl
one_came (TakesPrack number) held = refl
one_came (RepeatsProvisionals numbers now) held = refl
one_came (GivesUpProvisionals now) held = refl
one_came (Finishes response status now) held = refl
one_came (RepeatsSuccess now) held = refl
one_came (EndsSuccess end) held = refl

all_came : (life : List RequestHappening) (held : HeldRequest)
    → as_it_came (went_on life held) ≡ as_it_came held
all_came [] held = refl
all_came (h ∷ life) held = all_came life (request_happened held h) ∙ one_came h held

pub lives_id : (life : List RequestHappening) (held : HeldRequest)
    → (went_on life held).id ≡ held.id
lives_id life held = ap (λ came. came.0) (all_came life held)

pub lives_request : (life : List RequestHappening) (held : HeldRequest)
    → (went_on life held).request ≡ held.request
lives_request life held = ap (λ came. came.1) (all_came life held)

-- ---- a tick

-- a tick of the 2xx changes only the 2xx
pub success_alone : (now : ℕ) (held : HeldRequest) (o : Option Success)
    → (success : Option Success)
    × ((success_at_tick now held o).0 ≡ record held { success = success })
success_alone now held None = (held.success, refl)
success_alone now held (Some success) = by_due (success_answer now success)
  where
    by_due : (due : SuccessDue) → (after : Option Success)
        × (went_on (success_goes due now) held ≡ record held { success = after })
    by_due repeat.Nothing = (held.success, refl)
    by_due repeat.Again = (_, refl)
    by_due repeat.GivenUp = (_, refl)

-- a tick of the provisional responses is a tick of their ledger
pub provisionals_alone : (t : Tick) (now : ℕ) (held : HeldRequest)
    → (provisionals_by t now held).0 ≡ record held { ledger = ticked t held.ledger now }
provisionals_alone tick.Nothing now held = refl
provisionals_alone (tick.Again numbers) now held = refl
provisionals_alone tick.GivenUp now held = refl
