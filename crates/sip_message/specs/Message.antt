-- Messages (RFC 3261, section 7).
use Rattle.std.specs.Prelude.{ℕ, Bool, true, false, List, [], None}
use Rattle.sip_message.specs.declared.start_line.StartLine.{StartLine}
use Rattle.sip_message.specs.declared.start_line.StartLine.TheVariants.{Request, Response}
use Rattle.sip_message.specs.declared.via.Via.{Via}
use Rattle.sip_message.specs.declared.party.Party.{Party}
use Rattle.sip_message.specs.declared.cseq.CSeq.{CSeq}
use Rattle.sip_message.specs.declared.message.Message.{Message}

-- whether a start line is that of a request
abbrev pub is_request_line : StartLine → Bool
is_request_line (Request uri) = true
is_request_line (Response status reason) = false

-- whether a message is a request
abbrev pub is_request_message : Message → Bool
is_request_message message = is_request_line message.start

-- a message with no header but Via, From, To, Call-ID and CSeq, and without a body
abbrev pub bare : StartLine → List Via → Party → Party → List ℕ → CSeq → Message
bare start vias from to call_id cseq = record {
  start = start;
  vias = vias;
  max_forwards = None;
  from = from;
  to = to;
  call_id = call_id;
  cseq = cseq;
  contacts = [];
  record_routes = [];
  routes = [];
  require = [];
  supported = [];
  rseq = None;
  rack = None;
  others = [];
  body = [];
}
