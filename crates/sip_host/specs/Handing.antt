-- What a host is given for an output.
use Rattle.std.specs.Prelude.{ℕ, List, [], ◌∷◌, ◌++◌, Option, None, Some, length, map, drop, nat_lt, if◌then◌else◌}
use Rattle.sip_message.specs.declared.addr.Addr.{Addr}
use Rattle.sip_message.specs.declared.key.Key.{Key}
use Rattle.sip_reader.specs.declared.first_line.FirstLine.{FirstLine}
use Rattle.sip_reader.specs.declared.first_line.FirstLine.TheVariants as first
use Rattle.sip_reader.specs.declared.untyped_line.HeaderLine.{HeaderLine}
use Rattle.sip_round.specs.declared.output.Output.{Output}
use Rattle.sip_round.specs.declared.output.PlacedOutput.{PlacedOutput}
use Rattle.sip_round.specs.declared.output.Output.TheVariants.{Send, Dropped, Notice}
use Rattle.sip_round.specs.declared.round.Event.{Event}
use Rattle.sip_round.specs.declared.round.Event.TheVariants.{Command, Datagram, Failed}
use Rattle.sip_files.specs.EventFile.{with_ends}
use Rattle.sip_files.specs.Outputs.{output_line}
use Rattle.sip_host.specs.declared.line_length.LineLength.{LineLength}
use Rattle.sip_host.specs.declared.next_output.NextOutput.{NextOutput}
use Rattle.sip_host.specs.declared.start_length.StartLength.{StartLength}
use Rattle.sip_host.specs.declared.start_length.StartLength.TheVariants as start

-- the datagram of a send, or the line of another output
abbrev pub text_of : Output → List ℕ
text_of (Send key to bytes) = bytes
text_of (Dropped place reason) = output_line (Dropped place reason)
text_of (Notice notice) = output_line (Notice notice)

-- where a send goes
abbrev pub target_of : Output → Option Addr
target_of (Send key to bytes) = Some to
target_of (Dropped place reason) = None
target_of (Notice notice) = None

-- what is told of the output with this index
abbrev pub head_of : ℕ → PlacedOutput → NextOutput
head_of index placed = record {
  index = index;
  place = placed.place;
  to = target_of placed.output;
  len = length (text_of placed.output);
}

-- the buffer with the text at its beginning, if it fits
abbrev pub put_in : List ℕ → List ℕ → List ℕ
put_in text buffer = if nat_lt (length buffer) (length text) then buffer
    else text ++ drop (length text) buffer

-- the same for a text, if there is one
abbrev pub put_if : Option (List ℕ) → List ℕ → List ℕ
put_if None buffer = buffer
put_if (Some text) buffer = put_in text buffer

-- the source and the bytes of a datagram, if the event is one that came in
abbrev pub datagram_in : Option Event → Option (Addr × List ℕ)
datagram_in None = None
datagram_in (Some (Datagram from bytes)) = Some (from, bytes)
datagram_in (Some (Failed key)) = None
datagram_in (Some (Command command)) = None

-- the text of a start line: a request's method and then its URI, or a response's reason
abbrev pub start_text : FirstLine (List ℕ) → List ℕ
start_text (first.Request method uri) = method ++ uri
start_text (first.Response status reason) = reason

-- what is told besides its text
abbrev pub start_of : FirstLine (List ℕ) → StartLength
start_of (first.Request method uri) = start.Request (length method) (length uri)
start_of (first.Response status reason) = start.Response status (length reason)

-- a header line as one text: the name and, directly after it, the value
abbrev pub line_text : HeaderLine → List ℕ
line_text line = line.name ++ line.value

abbrev pub length_of_line : HeaderLine → LineLength
length_of_line line = record { name = length line.name; value = length line.value }

-- the values of a header as one text, each with a line end
abbrev pub values_text : List (List ℕ) → List ℕ
values_text values = with_ends values

-- the name and the value, with a colon between them (RFC 3261, section 7.3.1)
abbrev pub named_value : HeaderLine → List ℕ
named_value line = line.name ++ 58 ∷ line.value

-- header lines as one text, each with a line end
abbrev pub lines_text : List HeaderLine → List ℕ
lines_text lines = with_ends (map named_value lines)

-- the key of a send, if the output is one; a send may have none
abbrev pub sent_key : Option Output → Option (Option Key)
sent_key None = None
sent_key (Some (Send key to bytes)) = Some key
sent_key (Some (Dropped place reason)) = None
sent_key (Some (Notice notice)) = None

-- what the agent is told of a send that failed
abbrev pub told_failure : Option Key → List Event
told_failure None = []
told_failure (Some key) = Failed key ∷ []
