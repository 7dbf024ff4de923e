-- The text beside an arrow, and of an event or output without an arrow.
use Rattle.std.specs.Prelude.{ℕ, ◌-◌, ◌==◌, ◌&&◌, Bool, List, [], ◌∷◌, ◌++◌, length, take, drop, map, Option, Some, None, Result, Ok, Err, codes, decimal, nat_le, if◌then◌else◌}
use Rattle.std.specs.Option.{option_map_or}
use Rattle.std.specs.Str.{bytes_eq}
use Rattle.sip_text.specs.Cut.{cut_at}
use Rattle.sip_message.specs.Message.{is_request_message}
use Rattle.sip_message.specs.Party.{tag_of}
use Rattle.sip_message.specs.Via.{first_branch}
use Rattle.sip_message.specs.declared.fault.ReadFault.{ReadFault}
use Rattle.sip_message.specs.declared.message.Message.{Message}
use Rattle.sip_message.specs.declared.start_line.StartLine.{StartLine}
use Rattle.sip_message.specs.declared.start_line.StartLine.TheVariants.{Request, Response}
use Rattle.sip_reader.specs.ReadMessage.{message_at}

-- ---- words

-- a space, or a visible character of ASCII
abbrev pub is_printable : ℕ → Bool
is_printable byte = nat_le 32 byte && nat_le byte 126

-- the byte, or `?` if it isn't printable
abbrev pub as_visible_byte : ℕ → ℕ
as_visible_byte byte = if is_printable byte then byte else 63

abbrev pub as_visible : List ℕ → List ℕ
as_visible text = map as_visible_byte text

-- a word; two dots and the last nine characters of a long one
unfoldable pub word : List ℕ → List ℕ
word text =
    if nat_le (length text) 21 then as_visible text
    else codes ".." ++ as_visible (drop (length text - 9) text)

-- a blank, a name and a word
unfoldable pub named : List ℕ → List ℕ → List ℕ
named name text = codes " " ++ name ++ word text

-- the same for a number, if there is one
abbrev pub number_named : List ℕ → Option ℕ → List ℕ
number_named name None = []
number_named name (Some number) = named name (decimal number)

-- ---- lines of a file

-- a word for each field, after this much of the first one; a space ends a field
abbrev pub fields_from : List ℕ → List ℕ → List ℕ
fields_from field [] = word field
fields_from field (byte ∷ bytes) =
    if byte == 32 then word field ++ codes " " ++ fields_from [] bytes
    else fields_from (field ++ byte ∷ []) bytes

abbrev pub fields_label : List ℕ → List ℕ
fields_label line = fields_from [] line

-- ---- datagrams

abbrev pub again_text : Bool → List ℕ
again_text is_again = if is_again then codes " again" else []

abbrev pub status_text : StartLine → List ℕ
status_text (Request uri) = []
status_text (Response status reason) = word (decimal status) ++ codes " "

-- the status of a response, the method and number of the CSeq, and whether it is a repeat
unfoldable pub summary : Message → Bool → List ℕ
summary message is_again =
    status_text message.start ++ word message.cseq.method ++ named [] (decimal message.cseq.number)
    ++ again_text is_again

-- the tag of To; for a request without one, the tag of From
unfoldable pub tag_text : Message → List ℕ
tag_text message =
    if length (tag_of message.to) == 0
    then (if is_request_message message then named (codes "from=") (tag_of message.from) else [])
    else named (codes "to=") (tag_of message.to)

-- a branch without the cookie with which it begins (RFC 3261, section 8.1.1.7)
unfoldable pub without_cookie : List ℕ → List ℕ
without_cookie branch =
    if bytes_eq (take 7 branch) (codes "z9hG4bK") then drop 7 branch else branch

-- the numbers of RFC 3262, and what tells the message's transaction and call apart from others
unfoldable pub details : Message → List ℕ
details message =
    number_named (codes "rseq=") message.rseq
    ++ option_map_or (λ rack. named (codes "rack=") (decimal rack.rseq)) message.rack []
    ++ tag_text message ++ named (codes "branch=") (without_cookie (first_branch message.vias))
    ++ named (codes "call=") message.call_id

abbrev pub message_label : Message → Bool → List ℕ
message_label message is_again = summary message is_again ++ details message

-- the first line, without its end
abbrev pub first_line : List ℕ → List ℕ
first_line bytes = option_map_or (λ parts. parts.0) (cut_at 13 bytes) bytes

-- the beginning of the first line of bytes that aren't a message
unfoldable pub unread_label : List ℕ → Bool → List ℕ
unread_label bytes is_again =
    codes "?" ++ again_text is_again ++ codes " "
    ++ as_visible (take 40 (first_line bytes))

abbrev pub label_of_read : Result Message ReadFault → List ℕ → Bool → List ℕ
label_of_read (Ok message) bytes is_again = message_label message is_again
label_of_read (Err fault) bytes is_again = unread_label bytes is_again

-- the label of the message that the bytes spell, or of bytes that spell none
abbrev pub datagram_label : List ℕ → Bool → List ℕ
datagram_label bytes is_again = label_of_read (message_at bytes) bytes is_again
