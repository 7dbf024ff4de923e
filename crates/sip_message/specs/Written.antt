-- The one text that is written for a message (RFC 3261, sections 7 and 20).
use Rattle.std.specs.Prelude.{ℕ, List, [], ◌∷◌, ◌++◌, Option, Some, None, codes, decimal, length, if◌then◌else◌}
use Rattle.std.specs.List.{flat_map}
use Rattle.sip_grammar.specs.declared.parameter.Parameter.{Parameter}
pub use Rattle.sip_grammar.specs.WrittenParameters.{value_text, parameter_text, parameters_text}
use Rattle.sip_message.specs.declared.via.Via.{Via}
use Rattle.sip_message.specs.declared.name_addr.NameAddr.{NameAddr}
use Rattle.sip_message.specs.declared.party.Party.{Party}
use Rattle.sip_message.specs.declared.cseq.CSeq.{CSeq}
use Rattle.sip_message.specs.declared.rack.RAck.{RAck}
use Rattle.sip_message.specs.declared.header.Header.{Header}
use Rattle.sip_message.specs.declared.start_line.StartLine.{StartLine}
use Rattle.sip_message.specs.declared.start_line.StartLine.TheVariants.{Request, Response}
use Rattle.sip_message.specs.declared.message.Message.{Message}
use Rattle.sip_message.specs.Wildcard.{is_wildcard}

-- `Name: value` and a line end
unfoldable pub header_line : List ℕ → List ℕ → List ℕ
header_line name value = name ++ codes ": " ++ value ++ codes "\r\n"

-- `:` and the port, if there is one
abbrev pub port_text : Option ℕ → List ℕ
port_text None = []
port_text (Some port) = codes ":" ++ decimal port

-- `SIP/2.0/` transport, a space, host, port and parameters
unfoldable pub via_text : Via → List ℕ
via_text via = codes "SIP/2.0/" ++ via.transport ++ codes " " ++ via.host ++ port_text via.port
    ++ parameters_text via.parameters

-- the display text and a space, if there is one
abbrev pub display_part : List ℕ → List ℕ
display_part [] = []
display_part (b ∷ bs) = (b ∷ bs) ++ codes " "

-- the display text and a space, if it isn't empty, then `<URI>`, then the parameters
unfoldable pub address_text : List ℕ → List ℕ → List Parameter → List ℕ
address_text display uri parameters =
    display_part display ++ codes "<" ++ uri ++ codes ">" ++ parameters_text parameters

-- a Via line
abbrev pub via_line : Via → List ℕ
via_line via = header_line (codes "Via") (via_text via)

-- a From or a To line
abbrev pub party_line : List ℕ → Party → List ℕ
party_line name party = header_line name (address_text party.display party.uri party.parameters)

-- the value of a Contact: `*` alone without brackets (RFC 3261, section 20.10), or an address
unfoldable pub contact_text : NameAddr → List ℕ
contact_text contact =
    if is_wildcard contact then codes "*"
    else address_text contact.display contact.uri contact.parameters

-- a Contact line
abbrev pub contact_line : NameAddr → List ℕ
contact_line contact = header_line (codes "Contact") (contact_text contact)

-- the line of a route
abbrev pub address_line : List ℕ → NameAddr → List ℕ
address_line name address =
    header_line name (address_text address.display address.uri address.parameters)

-- a number's line, if there is a number
abbrev pub number_line : List ℕ → Option ℕ → List ℕ
number_line name None = []
number_line name (Some number) = header_line name (decimal number)

-- tokens with a comma and a space between them
abbrev pub joined : List ℕ → List (List ℕ) → List ℕ
joined first others = first ++ flat_map (λ token. codes ", " ++ token) others

-- one line of tokens, if there is one
abbrev pub tokens_line : List ℕ → List (List ℕ) → List ℕ
tokens_line name [] = []
tokens_line name (token ∷ tokens) = header_line name (joined token tokens)

-- the value of a CSeq: the number and the method (RFC 3261, section 20.16)
unfoldable pub cseq_text : CSeq → List ℕ
cseq_text cseq = decimal cseq.number ++ codes " " ++ cseq.method

-- the value of a RAck: RSeq, number and method (RFC 3262, section 7.2)
unfoldable pub rack_text : RAck → List ℕ
rack_text rack = decimal rack.rseq ++ codes " " ++ decimal rack.cseq ++ codes " " ++ rack.method

-- the RAck line, if there is a RAck
abbrev pub rack_line : Option RAck → List ℕ
rack_line None = []
rack_line (Some rack) = header_line (codes "RAck") (rack_text rack)

-- the line of a header that stays as it came
abbrev pub other_line : Header → List ℕ
other_line header = header_line header.name header.value

-- `Method SP Request-URI SP SIP/2.0` or `SIP/2.0 SP code SP reason`
unfoldable pub start_text : StartLine → List ℕ → List ℕ
start_text (Request uri) method = method ++ codes " " ++ uri ++ codes " SIP/2.0\r\n"
start_text (Response status reason) method =
    codes "SIP/2.0 " ++ decimal status ++ codes " " ++ reason ++ codes "\r\n"

-- the start line, the Via lines, and Max-Forwards
unfoldable pub head_text : Message → List ℕ
head_text m = start_text m.start m.cseq.method ++ flat_map via_line m.vias
    ++ number_line (codes "Max-Forwards") m.max_forwards

-- From, To, Call-ID and CSeq
unfoldable pub identity_text : Message → List ℕ
identity_text m =
    party_line (codes "From") m.from ++ party_line (codes "To") m.to
    ++ header_line (codes "Call-ID") m.call_id ++ header_line (codes "CSeq") (cseq_text m.cseq)

-- Contact, Record-Route and Route, one line for each value
unfoldable pub routes_text : Message → List ℕ
routes_text m =
    flat_map contact_line m.contacts
    ++ flat_map (address_line (codes "Record-Route")) m.record_routes
    ++ flat_map (address_line (codes "Route")) m.routes

-- Require, Supported, RSeq and RAck
unfoldable pub extensions_text : Message → List ℕ
extensions_text m =
    tokens_line (codes "Require") m.require ++ tokens_line (codes "Supported") m.supported
    ++ number_line (codes "RSeq") m.rseq ++ rack_line m.rack

-- the other headers, Content-Length, an empty line and the body
unfoldable pub content_text : Message → List ℕ
content_text m =
    flat_map other_line m.others ++ header_line (codes "Content-Length") (decimal (length m.body))
    ++ codes "\r\n" ++ m.body

-- the whole text: start line, headers in their order, an empty line, the body
unfoldable pub written : Message → List ℕ
written m = head_text m ++ identity_text m ++ routes_text m ++ extensions_text m ++ content_text m
