-- Reading a message from left to right, with the first fault that is found. Spells defines what a
-- message is.
use Rattle.std.specs.Prelude.{◌≡◌, ℕ, List, [], ◌∷◌, length, take, Option, Some, None, Result, Ok, Err, nat_lt, if◌then◌else◌}
use Rattle.std.specs.Str.{bytes_eq}
use Rattle.sip_text.specs.Forms.{each}
use Rattle.sip_message.specs.Via.{are_vias}
use Rattle.sip_message.specs.declared.fault.ReadFault.{ReadFault}
use Rattle.sip_message.specs.declared.fault.ReadFault.TheVariants as fault
use Rattle.sip_message.specs.declared.message.Message.{Message}
use Rattle.sip_message.specs.declared.start_line.StartLine.{StartLine}
use Rattle.sip_message.specs.declared.start_line.StartLine.TheVariants as start
use Rattle.sip_message.specs.declared.via.Via.{Via}
use Rattle.sip_header_values.specs.declared.via.ViaDraft.{ViaDraft}
use Rattle.sip_headers.specs.Complete.{faultless, method_in}
use Rattle.sip_headers.specs.HeaderFields.{draft_of}
use Rattle.sip_headers.specs.Folding.{Section, section_at, whole_section}
use Rattle.sip_headers.specs.Numbers.{numbers_in, via_with, message_with}
use Rattle.sip_headers.specs.declared.header_fields.HeaderFields.{HeaderFields}
use Rattle.sip_reader.specs.ReadStart.{start_at}
use Rattle.sip_reader.specs.SkippedEnds.{without_line_ends}
use Rattle.sip_reader.specs.declared.first_line.FirstLine.{FirstLine}
use Rattle.sip_reader.specs.declared.first_line.FirstLine.TheVariants as first

infixl 10 ◌>>=◌
abbrev pub ◌>>=◌ : {A B : Type 0} → Result A ReadFault → (A → Result B ReadFault)
    → Result B ReadFault
(Ok x) >>= f = f x
(Err e) >>= f = Err e

-- Reading gives this fault; NoMemory may be returned in place of anything.
abbrev pub Fails : {Y : Type 0} → ReadFault → Result Y ReadFault → Type 0
Fails fault.NoMemory read = Unit {0}
Fails e read = read ≡ Err e

-- What a function returned is what reading gives, unless memory ran out.
abbrev pub Gives : {X : Type 0} → Result X ReadFault → Result X ReadFault → Type 0
Gives (Ok x) read = read ≡ Ok x
Gives (Err e) read = Fails e read

-- the value, or this fault if there is none
abbrev pub or_fault : {A : Type 0} → ReadFault → Option A → Result A ReadFault
or_fault e None = Err e
or_fault e (Some x) = Ok x

-- ---- the message

-- Vias whose first branch has the cookie
abbrev pub good_vias : List Via → Option (List Via)
good_vias vias = if are_vias vias then Some vias else None

-- the Vias, if their ports are numbers and the first branch has the cookie
unfoldable pub vias_of : List ViaDraft → Result (List Via) ReadFault
vias_of drafts = do
  vias ← or_fault fault.BadNumber (each via_with drafts)
  or_fault fault.OldBranch (good_vias vias)

-- the start line; a request's method is that of its CSeq
unfoldable pub start_line_of : FirstLine (List ℕ) → List ℕ → Option StartLine
start_line_of (first.Request method uri) cseq_method =
    if bytes_eq method cseq_method then Some (start.Request uri) else None
start_line_of (first.Response status reason) cseq_method = Some (start.Response status reason)

-- the body: what follows the headers, or its first bytes as Content-Length says
unfoldable pub body_of : List ℕ → Option ℕ → Option (List ℕ)
body_of text None = Some text
body_of text (Some n) = if nat_lt (length text) n then None else Some (take n text)

-- the message of a start line, a draft without a fault, and what follows
unfoldable pub message_of_draft : FirstLine (List ℕ) → HeaderFields → List ℕ
    → Result Message ReadFault
message_of_draft line d text = do
  numbers ← or_fault fault.BadNumber (numbers_in d)
  drafts ← or_fault fault.BadHeader d.vias
  vias ← vias_of drafts
  method ← or_fault fault.BadHeader (method_in d)
  start ← or_fault fault.MethodMismatch (start_line_of line method)
  body ← or_fault fault.Truncated (body_of text numbers.content_length)
  or_fault fault.BadHeader (message_with start vias numbers d body)

-- the message of a start line as text, a draft of the headers, and what follows
unfoldable pub message_of_lines : List ℕ → HeaderFields → List ℕ → Result Message ReadFault
message_of_lines start_line draft text = do
  start ← or_fault fault.BadStartLine (start_at start_line)
  d ← faultless draft
  message_of_draft start d text

-- the message of lines, the first of which is the start line
unfoldable pub message_of_section : Option Section → Result Message ReadFault
message_of_section None = Err fault.NoEmptyLine
message_of_section (Some ([], rest)) = Err fault.NoEmptyLine
message_of_section (Some (start_line ∷ lines, rest)) =
    message_of_lines start_line (draft_of lines) rest

-- the message of a text that doesn't begin with a line end
unfoldable pub message_in : List ℕ → Result Message ReadFault
message_in text = message_of_section (whole_section (section_at text))

-- the message of a text that isn't too long; line ends at its start are skipped
abbrev pub message_at : List ℕ → Result Message ReadFault
message_at text =
    if nat_lt 65535 (length text) then Err fault.TooLong else message_in (without_line_ends text)
