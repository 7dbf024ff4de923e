-- What changes a held request, other than a tick.
use Rattle.std.specs.Prelude.{ℕ}
use Rattle.sip_served.specs.Acknowledgment.{success_ended}
use Rattle.sip_served.specs.Arrival.{pracked}
use Rattle.sip_served.specs.Respond.{answered, finished, with_dialog}
use Rattle.sip_served.specs.declared.change.Change.{Change}
use Rattle.sip_served.specs.declared.change.Change.TheVariants.{Ack, Prack, FinalResponse, Answer}
use Rattle.sip_served.specs.declared.held_request.HeldRequest.{HeldRequest}
use Rattle.sip_served.specs.declared.held_request.SuccessEnd.TheVariants.{Acknowledged}

-- the request after it
abbrev pub after_change : Change → HeldRequest → HeldRequest
after_change Ack held = success_ended Acknowledged held
after_change (Prack rseq) held = pracked rseq held
after_change (FinalResponse response status now) held = finished response.now status now held
after_change (Answer event response status reliability now) held =
    answered status reliability response.now now (with_dialog event status held)

-- its moment in ms, or 0 if it doesn't depend on the moment
abbrev pub moment_of : Change → ℕ
moment_of Ack = 0
moment_of (Prack rseq) = 0
moment_of (FinalResponse response status now) = now
moment_of (Answer event response status reliability now) = now
