-- The numbers of a message (RFC 3261, sections 20.14, 20.16, 20.22 and 20.42; RFC 3262, section 7).
use Rattle.std.specs.Prelude.{◌&&◌, ℕ, Bool, List, [], ◌∷◌, ◌++◌, Option, Some, None, is_some, map, nat_lt, if◌then◌else◌}
use Rattle.std.specs.List.{flat_map, list_all}
use Rattle.std.specs.Option.{option_map, option_to_list}
use Rattle.sip_message.specs.declared.message.Message.{Message}
use Rattle.sip_message.specs.declared.rack.RAck.{RAck}
use Rattle.sip_message.specs.declared.start_line.StartLine.{StartLine}
use Rattle.sip_message.specs.declared.via.Via.{Via}
use Rattle.sip_header_values.specs.declared.numeral.Numeral.{Numeral}
use Rattle.sip_header_values.specs.declared.numeral.Numeral.TheVariants.{Number, NotANumber}
use Rattle.sip_header_values.specs.declared.sequence.RAckDraft.{RAckDraft}
use Rattle.sip_header_values.specs.declared.via.ViaDraft.{ViaDraft}
use Rattle.sip_text.specs.Options.{◌>>=◌}
use Rattle.sip_headers.specs.Complete.{once}
use Rattle.sip_headers.specs.Headers.{Headers}
use Rattle.sip_headers.specs.declared.header_fields.HeaderFields.{HeaderFields}
use Rattle.sip_headers.specs.declared.numbers.Numbers.{Numbers}
use Rattle.sip_headers.specs.declared.slot.Slot.{Slot}
use Rattle.sip_headers.specs.declared.slot.Slot.TheVariants.{Absent, Once, Twice, Bad}

-- ---- the headers of a message, with its numbers in their places

-- a Via whose port is known
abbrev pub via_draft : Via → ViaDraft
via_draft via = record {
  transport = via.transport;
  host = via.host;
  port = option_map Number via.port;
  parameters = via.parameters;
}

-- a RAck whose numbers are known
abbrev pub rack_draft : RAck → RAckDraft
rack_draft rack = record { rseq = Number rack.rseq; cseq = Number rack.cseq; method = rack.method }

-- the headers of a message, and this Content-Length
abbrev pub headers_with : Message → Option ℕ → Headers
headers_with m length = record {
  vias = map via_draft m.vias;
  max_forwards = option_map Number m.max_forwards;
  from = m.from;
  to = m.to;
  call_id = m.call_id;
  cseq = record { number = Number m.cseq.number; method = m.cseq.method };
  contacts = m.contacts;
  record_routes = m.record_routes;
  routes = m.routes;
  require = m.require;
  supported = m.supported;
  rseq = option_map Number m.rseq;
  rack = option_map rack_draft m.rack;
  content_length = option_map Number length;
  others = m.others;
}

-- ---- words in the places of numbers

-- the words in the places of numbers, but for those of the Via values
abbrev pub number_words : Headers → List Numeral
number_words h =
    h.cseq.number ∷ (option_to_list h.max_forwards
    ++ (option_to_list h.rseq ++ (flat_map (λ rack. rack.rseq ∷ (rack.cseq ∷ []))
    (option_to_list h.rack)
    ++ option_to_list h.content_length)))

-- the number of a word
abbrev pub known : Numeral → Option ℕ
known (Number n) = Some n
known NotANumber = None

-- the port of a word: a number of at most 65535
abbrev pub port_of : Numeral → Option ℕ
port_of word = known word >>= λ n. if nat_lt 65535 n then None else Some n

-- the word of each port is a port, and each other word a number
abbrev pub are_numbers : Headers → Bool
are_numbers h =
    list_all (λ word. is_some (port_of word)) (flat_map (λ via. option_to_list via.port) h.vias)
    && list_all (λ word. is_some (known word)) (number_words h)

-- ---- the numbers, read

-- the number of a header that may occur once
abbrev pub known_slot : Slot Numeral → Option (Option ℕ)
known_slot Absent = Some None
known_slot (Once word) = known word >>= λ n. Some (Some n)
known_slot Twice = None
known_slot Bad = None

-- two numbers
abbrev pub known_both : Numeral → Numeral → Option (Option (ℕ × ℕ))
known_both one other = known one >>= λ a. known other >>= λ b. Some (Some (a, b))

-- the numbers of a RAck, if there is one
abbrev pub known_rack : Slot RAckDraft → Option (Option (ℕ × ℕ))
known_rack Absent = Some None
known_rack (Once rack) = known_both rack.rseq rack.cseq
known_rack Twice = None
known_rack Bad = None

-- all numbers of a draft, if each word in a number's place is one
unfoldable pub numbers_in : HeaderFields → Option Numbers
numbers_in d = do
  cseq ← once d.cseq
  number ← known cseq.number
  max_forwards ← known_slot d.max_forwards
  rseq ← known_slot d.rseq
  rack ← known_rack d.rack
  content_length ← known_slot d.content_length
  Some (record {
    max_forwards = max_forwards;
    cseq = number;
    rseq = rseq;
    rack = rack;
    content_length = content_length;
  })

-- the port, if there is one
abbrev pub known_port : Option Numeral → Option (Option ℕ)
known_port None = Some None
known_port (Some word) = port_of word >>= λ n. Some (Some n)

-- a Via value with its port
abbrev pub via_with : ViaDraft → Option Via
via_with via = known_port via.port >>= λ port.
    Some (record {
      transport = via.transport;
      host = via.host;
      port = port;
      parameters = via.parameters;
    })

-- ---- the message

-- the RAck of these numbers
abbrev pub rack_with : Slot RAckDraft → Option (ℕ × ℕ) → Option RAck
rack_with (Once rack) (Some numbers) =
    Some (record { rseq = numbers.0; cseq = numbers.1; method = rack.method })
rack_with slot numbers = None

-- a message with the headers of a draft, these Via values and these numbers
abbrev pub message_with : StartLine → List Via → Numbers → HeaderFields → List ℕ → Option Message
message_with start vias numbers d body = do
  from ← once d.from
  to ← once d.to
  call_id ← once d.call_id
  cseq ← once d.cseq
  contacts ← d.contacts
  record_routes ← d.record_routes
  routes ← d.routes
  require ← d.require
  supported ← d.supported
  others ← d.others
  Some (record {
    start = start;
    vias = vias;
    max_forwards = numbers.max_forwards;
    from = from;
    to = to;
    call_id = call_id;
    cseq = record { number = numbers.cseq; method = cseq.method };
    contacts = contacts;
    record_routes = record_routes;
    routes = routes;
    require = require;
    supported = supported;
    rseq = numbers.rseq;
    rack = rack_with d.rack numbers.rack;
    others = others;
    body = body;
  })
