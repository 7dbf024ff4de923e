-- The reliable provisional responses to an INVITE that wait for their PRACK (RFC 3262, section 3).
use Rattle.std.specs.Prelude.{ℕ, not, ◌==◌, List, filter}
use Rattle.sip_reliable.specs.Happening.{is_among}
use Rattle.sip_served.specs.declared.provisionals.ReliableResponse.{ReliableResponse}

-- all but the response with this number
abbrev pub without_rseq : ℕ → List ReliableResponse → List ReliableResponse
without_rseq number responses = filter (λ one. not (one.number == number)) responses

-- the responses with these numbers
abbrev pub of_numbers : List ℕ → List ReliableResponse → List ReliableResponse
of_numbers numbers responses = filter (λ one. is_among numbers one.number) responses
