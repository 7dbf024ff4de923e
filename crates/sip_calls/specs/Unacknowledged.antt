-- Which reliable provisional responses to an INVITE that came up await their PRACK, and which are
-- still sent again, for all inputs of a call, by what the call gives (RFC 3262, section 3).
use Rattle.std.specs.Prelude.{◌≡◌, [], None}
use Rattle.sip_served.specs.Unacknowledged.{awaited_by, awaited_rseqs, kept_rseqs, repeated_by, repeated_rseqs}
use Rattle.sip_calls.specs.HeldRequests.{OfEachRequest, read_from}

-- Whatever comes to a call: the responses that are kept are those that went out with an RSeq and of
-- whose PRACK the user wasn't told since.
abbrev pub KeptAsTold : Type 0
KeptAsTold = OfEachRequest (λ calls inputs invite held.
    kept_rseqs held ≡ read_from (awaited_by invite) [] calls invite None [] inputs)

-- a PRACK of these, and of no others, gets a 200
abbrev pub AwaitedAsTold : Type 0
AwaitedAsTold = OfEachRequest (λ calls inputs invite held.
    awaited_rseqs held ≡ read_from (awaited_by invite) [] calls invite None [] inputs)

-- A response is sent again until its PRACK comes, a final response goes out, or the user is told
-- that no PRACK came.
abbrev pub RepeatedAsTold : Type 0
RepeatedAsTold = OfEachRequest (λ calls inputs invite held.
    repeated_rseqs held ≡ read_from (repeated_by invite) [] calls invite None [] inputs)
