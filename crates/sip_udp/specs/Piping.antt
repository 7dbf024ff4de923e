-- What the lines of the pipe say, what is posted for them, and what is asked for.
use Rattle.std.specs.Prelude.{◌≡◌, ℕ, ◌+◌, ◌^◌, ◌<◌, nat_le, ◌==◌, Bool, true, false, not, ◌&&◌, List, [], ◌∷◌, ◌++◌, length, Option, Some, None, IsTrue, IsFalse}
use Rattle.std.specs.Option.{option_map}
use Rattle.std.specs.Io.BufRead.{take_through, drop_through}
use Rattle.sip_round.specs.declared.round.Event.{Event}
use Rattle.sip_round.specs.declared.round.Event.TheVariants as event
use Rattle.sip_user.specs.declared.command.UserCommand.{UserCommand}
use Rattle.sip_files.specs.declared.given_header.GivenHeader.{GivenHeader}
use Rattle.sip_files.specs.declared.version.FileKind.{FileKind}
use Rattle.sip_files.specs.declared.version.FileKind.TheVariants as file_kind
use Rattle.sip_files.specs.Events.{SpellsHeader}
use Rattle.sip_files.specs.Given.{with_given}
use Rattle.sip_files.specs.Written.{SpellsCommand}
use Rattle.sip_udp.specs.LineEnd.{without_last}
use Rattle.sip_udp.specs.declared.pipe_input.PipeLine.{PipeLine}
use Rattle.sip_udp.specs.declared.pipe_input.Said.{Said}
use Rattle.sip_udp.specs.declared.pipe_input.Said.TheVariants as said

-- a line without its end, LF or CR LF; the last line may have none
abbrev pub line_of : List ℕ → List ℕ
line_of text = without_last 13 (without_last 10 text)

-- an empty line, or a comment, which begins with `#`
abbrev pub is_comment : List ℕ → Bool
is_comment [] = true
is_comment (b ∷ text) = b == 35

-- in a session, which may have header lines, these begin with a space, and no command does
abbrev pub is_for_header : FileKind → List ℕ → Bool
is_for_header file_kind.Events text = false
is_for_header file_kind.Session [] = false
is_for_header file_kind.Session (b ∷ text) = b == 32

-- the longest line that is looked at has 2^20 bytes
abbrev pub is_looked_at : List ℕ → Bool
is_looked_at text = not (is_comment text) && nat_le (length text) (2 ^ 20)

-- whose line it is: a command's, a header's, or none of these; a comment says nothing
abbrev pub Says : FileKind → List ℕ → Said → Type 0
Says kind text said.Comment = IsTrue (is_comment text)
Says kind text said.TooLong =
    IsFalse (is_comment text) × IsFalse (is_looked_at text)
Says kind text (said.Command command) =
    IsTrue (is_looked_at text) × IsFalse (is_for_header kind text) × SpellsCommand kind text command
Says kind text said.NoCommand =
    IsTrue (is_looked_at text) × IsFalse (is_for_header kind text)
    × ((command : UserCommand) → ¬ SpellsCommand kind text command)
Says kind text (said.Header header) =
    IsTrue (is_looked_at text) × IsTrue (is_for_header kind text) × SpellsHeader text header
Says kind text said.NoHeader =
    IsTrue (is_looked_at text) × IsTrue (is_for_header kind text)
    × ((header : GivenHeader) → ¬ SpellsHeader text header)

-- a line that was read with its end, and its number
abbrev pub SaysRead : FileKind → ℕ → List ℕ → PipeLine → Type 0
SaysRead kind number text line = (line.number ≡ number) × Says kind (line_of text) line.said

-- these are what the lines of a text say, from its front on, each once and in order; the first line
-- has this number, and this much of the text is left
abbrev pub SayLines : FileKind → ℕ → List ℕ → List PipeLine → List ℕ → Type 0
SayLines kind number text [] rest = rest ≡ text
SayLines kind number text (line ∷ lines) rest =
    (0 < length text) × SaysRead kind number (take_through 10 text) line
    × SayLines kind (number + 1) (drop_through 10 text) lines rest

-- the first lines of the text of the pipe were posted, after what was posted before
abbrev pub PostsFront : FileKind → List PipeLine → List PipeLine → List ℕ → Type 0
PostsFront kind before now text =
    (lines : List PipeLine) × (rest : List ℕ) × (now ≡ before ++ lines)
    × SayLines kind 1 text lines rest

-- all its lines were posted
abbrev pub PostsAll : FileKind → List PipeLine → List PipeLine → List ℕ → Type 0
PostsAll kind before now text =
    (lines : List PipeLine) × (now ≡ before ++ lines) × SayLines kind 1 text lines []

-- ---- what is asked for

abbrev pub event_of : Option UserCommand → List Event
event_of (Some command) = event.Command command ∷ []
event_of None = []

-- a command with the header lines right before it, if it takes them; if one of those lines isn't a
-- header line, there is no command
abbrev pub command_with : Option (List GivenHeader) → UserCommand → Option UserCommand
command_with (Some headers) command = with_given headers command
command_with None command = None

-- a command is asked for with its headers
abbrev pub asked_by : Option (List GivenHeader) → Said → List Event
asked_by headers (said.Command command) = event_of (command_with headers command)
asked_by headers said.Comment = []
asked_by headers said.NoCommand = []
asked_by headers (said.Header header) = []
asked_by headers said.NoHeader = []
asked_by headers said.TooLong = []

-- the header lines that stand right before the next line; comments don't count
abbrev pub headers_after : Option (List GivenHeader) → Said → Option (List GivenHeader)
headers_after headers said.Comment = headers
headers_after headers (said.Command command) = Some []
headers_after headers said.NoCommand = Some []
headers_after headers (said.Header header) = option_map (λ given. given ++ header ∷ []) headers
headers_after headers said.NoHeader = None
headers_after headers said.TooLong = Some []

-- the same for several lines, where such header lines stand before the first
abbrev pub all_asked : Option (List GivenHeader) → List PipeLine → List Event
all_asked headers [] = []
all_asked headers (line ∷ lines) =
    asked_by headers line.said ++ all_asked (headers_after headers line.said) lines

abbrev pub headers_at_end : Option (List GivenHeader) → List PipeLine → Option (List GivenHeader)
headers_at_end headers [] = headers
headers_at_end headers (line ∷ lines) = headers_at_end (headers_after headers line.said) lines
