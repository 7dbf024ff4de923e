-- The requests that follow another one on its own hop, to the same address: the ACK of a response
-- of 300 to 699 (RFC 3261, section 17.1.1.3) and CANCEL (RFC 3261, section 9.1).
use Rattle.std.specs.Prelude.{ℕ, List, Some, codes, take}
use Rattle.sip_message.specs.declared.message.TheConstants.{MAX_FORWARDS}
use Rattle.sip_message.specs.declared.cseq.CSeq.{CSeq}
use Rattle.sip_message.specs.declared.message.Message.{Message}
use Rattle.sip_message.specs.declared.party.Party.{Party}
use Rattle.sip_message.specs.Message.{bare}

-- the request's CSeq number, with this method
abbrev pub cseq_of : List ℕ → Message → CSeq
cseq_of method request = record { number = (request.cseq).number; method = method }

-- Request-URI, From, Call-ID, CSeq number, Route and only the top Via of the request, with this
-- method and this To
abbrev pub hop_by_hop_of : List ℕ → Message → Party → Message
hop_by_hop_of method request to =
    let via = take 1 request.vias in
    let cseq = cseq_of method request in
    record (bare request.start via request.from to request.call_id cseq) {
      max_forwards = Some MAX_FORWARDS;
      routes = request.routes;
    }

-- an ACK has the To of the response
abbrev pub ack_of : Message → Message → Message
ack_of request response = hop_by_hop_of (codes "ACK") request response.to

-- a CANCEL has the To of the request
abbrev pub cancel_of : Message → Message
cancel_of request = hop_by_hop_of (codes "CANCEL") request request.to
