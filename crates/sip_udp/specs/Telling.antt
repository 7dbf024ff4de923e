-- What the user is told about an output: its line and, in a session, the headers of the datagram
-- that a notice is about.
use Rattle.std.specs.Prelude.{◌≡◌, ℕ, List, [], ◌++◌, Option, Some, None, codes, decimal, if◌then◌else◌}
use Rattle.std.specs.List.{AllZip, flat_map}
use Rattle.sip_reader.specs.Head.{HasHeaderLines}
use Rattle.sip_reader.specs.declared.untyped_line.HeaderLine.{HeaderLine}
use Rattle.sip_message.specs.declared.addr.Addr.{Addr}
use Rattle.sip_message.specs.declared.id.Id.{Id}
use Rattle.sip_transactions.specs.declared.output.DropReason.{DropReason}
use Rattle.sip_round.specs.Places.{datagram_at, event_at}
use Rattle.sip_round.specs.declared.output.Output.{Output}
use Rattle.sip_round.specs.declared.output.Output.TheVariants as output
use Rattle.sip_round.specs.declared.output.PlacedOutput.{PlacedOutput}
use Rattle.sip_round.specs.declared.round.Event.{Event}
use Rattle.sip_round.specs.declared.round.Event.TheVariants as event
use Rattle.sip_files.specs.Outputs.{output_line, reason_text}
use Rattle.sip_files.specs.Written.{ended_text, header_line}
use Rattle.sip_files.specs.declared.event_line.EventLine.TheVariants as line
use Rattle.sip_files.specs.declared.version.FileKind.{FileKind}
use Rattle.sip_files.specs.declared.version.FileKind.TheVariants as file_kind
use Rattle.sip_udp.specs.KeepAlive.{is_keep_alive}
use Rattle.sip_udp.specs.LineEnd.{first_line}

-- an id: the round, a dot and the place
abbrev pub told_id : Id → List ℕ
told_id id = (decimal id.round ++ codes ".") ++ decimal id.place

-- the beginning of the line of a drop: its id and its reason
abbrev pub dropped_head : Id → DropReason → List ℕ
dropped_head id reason = ((codes "drop " ++ told_id id) ++ reason_text reason) ++ codes " "

-- the line of a drop: that, and the datagram as in an event file, but with what is shown of its
-- first line alone
abbrev pub dropped_line : Id → DropReason → Addr → List ℕ → List ℕ
dropped_line id reason from bytes =
    dropped_head id reason ++ ended_text (line.Event (event.Datagram from (first_line bytes)))

-- a drop has a line if drops are told, with the number of the round; a keep-alive has none
abbrev pub told_drop : Option ℕ → ℕ → DropReason → Option Event → List ℕ
told_drop None place reason event = []
told_drop (Some round) place reason (Some (event.Datagram from bytes)) =
    if is_keep_alive bytes then []
    else dropped_line (record { round = round; place = place }) reason from bytes
told_drop (Some round) place reason (Some (event.Failed key)) =
    output_line (output.Dropped place reason)
told_drop (Some round) place reason (Some (event.Command command)) =
    output_line (output.Dropped place reason)
told_drop (Some round) place reason None = output_line (output.Dropped place reason)

-- a notice has its line, and a datagram that is sent has none
abbrev pub told_line : Option ℕ → List Event → Output → List ℕ
told_line drops events (output.Send key to bytes) = []
told_line drops events (output.Dropped place reason) =
    told_drop drops place reason (event_at events place)
told_line drops events (output.Notice notice) = output_line (output.Notice notice)

-- the datagram whose headers are told before an output, if it came in at this place
abbrev pub told_datagram : FileKind → List Event → ℕ → Output → Option (List ℕ)
told_datagram kind events place (output.Send key to bytes) = None
told_datagram kind events place (output.Dropped at reason) = None
told_datagram file_kind.Events events place (output.Notice notice) = None
told_datagram file_kind.Session events place (output.Notice notice) = datagram_at events place

-- the header lines of a datagram, if there is one
abbrev pub AreHeadersOf : Option (List ℕ) → List HeaderLine → Type 0
AreHeadersOf None headers = headers ≡ []
AreHeadersOf (Some bytes) headers = HasHeaderLines headers bytes

-- a header line as it stands in a session
abbrev pub spelled_header : HeaderLine → List ℕ
spelled_header header = header_line header.name header.value

-- the header lines of the datagram, and then the line
pub record Tells (kind : FileKind) (drops : Option ℕ) (events : List Event) (placed : PlacedOutput)
    (text : List ℕ) : Type 0 where
  pub headers : List HeaderLine
  pub of_datagram : AreHeadersOf (told_datagram kind events placed.place placed.output) headers
  pub spelled : text ≡ flat_map spelled_header headers ++ told_line drops events placed.output

-- all outputs of a round, in order
pub record TellsAll (kind : FileKind) (drops : Option ℕ) (events : List Event)
    (outputs : List PlacedOutput) (text : List ℕ) : Type 0 where
  pub texts : List (List ℕ)
  pub each : AllZip (Tells kind drops events) outputs texts
  pub joined : text ≡ flat_map (λ one. one) texts
