-- Which INVITE that came up awaits its ACK, for all inputs of a call, by what the call gives (RFC
-- 3261, section 13.3.1.4).
use Rattle.std.specs.Prelude.{◌≡◌, false, None}
use Rattle.sip_served.specs.Acknowledgment.{awaits_ack}
use Rattle.sip_served.specs.Awaiting.{awaits_by}
use Rattle.sip_calls.specs.HeldRequests.{OfEachRequest, read_from}

-- Whatever comes to a call: a held INVITE awaits its ACK if a 2xx to it went out, and since then
-- the user was told neither of its ACK nor that none came.
abbrev pub AwaitsAsTold : Type 0
AwaitsAsTold = OfEachRequest (λ calls inputs invite held.
    awaits_ack held ≡ read_from (awaits_by invite) false calls invite None false inputs)
