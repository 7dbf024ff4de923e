-- The response that is made from a request (RFC 3261, section 8.2.6.2).
use Rattle.std.specs.Prelude.{ℕ, Bool, List, [], ◌∷◌, ◌++◌, Some, codes, ◌==◌, is_some, if◌then◌else◌}
use Rattle.sip_grammar.specs.declared.parameter.Parameter.{Parameter}
use Rattle.sip_message.specs.declared.party.Party.{Party}
use Rattle.sip_message.specs.declared.start_line.StartLine.TheVariants.{Response}
use Rattle.sip_message.specs.declared.message.Message.{Message}
use Rattle.sip_message.specs.Message.{bare}
use Rattle.sip_grammar.specs.Parameters.{parameter_named}

-- the parameter `tag` of this value
abbrev pub tag_parameter : List ℕ → Parameter
tag_parameter tag = record { name = codes "tag"; value = Some tag }

-- the party has a tag
unfoldable pub is_tagged : Party → Bool
is_tagged party = is_some (parameter_named (codes "tag") party.parameters)

-- the party with this tag as its last parameter, if it had none
unfoldable pub tagged : Party → List ℕ → Party
tagged party tag = if is_tagged party then party
    else record party { parameters = party.parameters ++ tag_parameter tag ∷ [] }

-- the To of a response; a 100 gets no tag
abbrev pub answering_to : Party → ℕ → List ℕ → Party
answering_to party status tag = if status == 100 then party else tagged party tag

-- Via, From, To, Call-ID and CSeq of the request, with a tag in To, and nothing else
abbrev pub response_of : Message → ℕ → List ℕ → List ℕ → Message
response_of request status reason tag =
    bare (Response status reason) request.vias request.from
    (answering_to request.to status tag) request.call_id request.cseq
