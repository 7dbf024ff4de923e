-- The event file and the session file as they are written: each configuration and list of rounds
-- has one text of either. The event file is of version 2. Both have all lines of the head.
use Rattle.std.specs.Prelude.{◌≡◌, ℕ, ◌≤◌, ◌^◌, ◌-◌, List, [], ◌∷◌, ◌++◌, map, Option, Some, None, IsTrue, codes}
use Rattle.std.specs.List.{flat_map, AllByRecursion}
use Rattle.std.specs.Str.{str_to_ascii_lowercase}
use Rattle.sip_text.specs.Token.{is_token}
use Rattle.sip_message.specs.declared.header.Header.{Header}
use Rattle.sip_message.specs.declared.key.Key.{Key}
use Rattle.sip_message.specs.declared.key.Key.TheVariants.{Client, Server}
use Rattle.sip_message.specs.declared.name_addr.NameAddr.{NameAddr}
use Rattle.sip_message.specs.Addr.{IsAddr}
use Rattle.sip_message.specs.Content.{Content, content_of_body}
use Rattle.sip_message.specs.Rules.{IsNameAddr, IsOtherHeader}
use Rattle.sip_message.specs.Written.{address_text, contact_text}
use Rattle.sip_round.specs.declared.config.Config.{Config}
use Rattle.sip_round.specs.declared.round.Event.{Event}
use Rattle.sip_round.specs.declared.round.Event.TheVariants.{Datagram, Failed, Command}
use Rattle.sip_round.specs.declared.round.Round.{Round}
use Rattle.sip_user.specs.declared.command.UserCommand.{UserCommand}
use Rattle.sip_user.specs.declared.command.UserCommand.TheVariants as command
use Rattle.sip_files.specs.declared.version.Version.{Version}
use Rattle.sip_files.specs.declared.version.Version.TheVariants.{Two, SessionOne}
use Rattle.sip_files.specs.declared.version.FileKind.{FileKind}
use Rattle.sip_files.specs.declared.version.FileKind.TheVariants as file_kind
use Rattle.sip_files.specs.declared.given_header.GivenHeader.{GivenHeader}
use Rattle.sip_files.specs.declared.given_header.GivenHeader.TheVariants as given
use Rattle.sip_files.specs.declared.given_headers.GivenHeaders.{GivenHeaders}
use Rattle.sip_files.specs.declared.event_line.EventLine.{EventLine}
use Rattle.sip_files.specs.declared.event_line.EventLine.TheVariants as line
use Rattle.sip_files.specs.Word.{hex_pair, are_bytes}
use Rattle.sip_files.specs.Field.{plain_field, number_field, address_field, word_field, rest_field}
use Rattle.sip_files.specs.EventFile.{version_line}
use Rattle.sip_files.specs.Given.{gathered}
use Rattle.sip_files.specs.Unregister.{contacts_fit}
use Rattle.sip_files.specs.Events.{IsSeed, IsMethod, IsCommandLine, SpellsLine, command_text}

-- ---- the lines

-- the branch and the host stand as in the key, in lower case
abbrev pub failed_text : Key → List ℕ
failed_text (Client branch method) =
    codes "failed client" ++ word_field branch ++ plain_field method
failed_text (Server branch sent_by method) =
    codes "failed server" ++ word_field branch ++ word_field sent_by.host
    ++ number_field sent_by.port ++ plain_field method

abbrev pub event_text : Event → List ℕ
event_text (Datagram from bytes) = codes "datagram" ++ address_field from ++ rest_field bytes
event_text (Failed key) = failed_text key
event_text (Command command) = command_text command

-- a header: its name, and its value
abbrev pub header_text : List ℕ → List ℕ → List ℕ
header_text name value = name ++ codes ": " ++ value

abbrev pub address_value : NameAddr → List ℕ
address_value address = address_text address.display address.uri address.parameters

-- values with a comma and a space between them
abbrev pub list_text : List (List ℕ) → List ℕ
list_text [] = []
list_text (value ∷ []) = value
list_text (value ∷ next ∷ values) = value ++ codes ", " ++ list_text (next ∷ values)

abbrev pub given_text : GivenHeader → List ℕ
given_text (given.Contact addresses) =
    header_text (codes "Contact") (list_text (map contact_text addresses))
given_text (given.Route addresses) =
    header_text (codes "Route") (list_text (map address_value addresses))
given_text (given.Supported tokens) = header_text (codes "Supported") (list_text tokens)
given_text (given.Require tokens) = header_text (codes "Require") (list_text tokens)
given_text (given.Other header) = header_text header.name header.value

abbrev pub line_text : EventLine → List ℕ
line_text (line.Local address) = codes "local" ++ address_field address
line_text (line.Seed seed) = codes "seed" ++ plain_field (flat_map hex_pair seed)
line_text (line.First number) = codes "first" ++ number_field number
line_text (line.Round moment) = codes "round" ++ number_field moment
line_text (line.Event event) = event_text event
line_text (line.Header header) = rest_field (given_text header)

-- a line with its end
unfoldable pub ended_text : EventLine → List ℕ
ended_text item = line_text item ++ codes "\n"

-- ---- the headers of a command

-- `Name: value` as a header line with its end
unfoldable pub header_line : List ℕ → List ℕ → List ℕ
header_line name value = rest_field (header_text name value) ++ codes "\n"

abbrev pub contact_line : NameAddr → List ℕ
contact_line contact = header_line (codes "Contact") (contact_text contact)

abbrev pub address_line : List ℕ → NameAddr → List ℕ
address_line name address = header_line name (address_value address)

abbrev pub other_line : Header → List ℕ
other_line header = header_line header.name header.value

-- routes and a content: one line for each value, in the order in which a message has them
unfoldable pub content_lines : List NameAddr → Content → List ℕ
content_lines routes content =
    flat_map contact_line content.contacts
    ++ flat_map (address_line (codes "Route")) routes
    ++ flat_map (header_line (codes "Require")) content.require
    ++ flat_map (header_line (codes "Supported")) content.supported
    ++ flat_map other_line content.others

abbrev pub command_headers : UserCommand → List ℕ
command_headers (command.Invite c) = content_lines c.routes c.content
command_headers (command.Plain c) = content_lines c.routes c.content
command_headers (command.Request c) = content_lines [] c.content
command_headers (command.Respond c) = content_lines [] c.content
command_headers (command.Ack c) = content_lines [] c.content
command_headers (command.Prack c) = content_lines [] c.content
command_headers (command.Cancel c) = []
command_headers (command.AbandonRequest c) = []
command_headers (command.AbandonDialog c) = []

abbrev pub event_headers : Event → List ℕ
event_headers (Datagram from bytes) = []
event_headers (Failed key) = []
event_headers (Command c) = command_headers c

-- the lines of an event in a file of the kind: in a session with the headers of a command
abbrev pub event_lines : FileKind → Event → List ℕ
event_lines file_kind.Events event = ended_text (line.Event event)
event_lines file_kind.Session event = event_headers event ++ ended_text (line.Event event)

-- ---- the file

-- the version, and all three lines of a head
unfoldable pub head_in : Version → Config → List ℕ
head_in version config =
    version_line version ++ codes "\n" ++ ended_text (line.Local config.local)
    ++ ended_text (line.Seed config.seed) ++ ended_text (line.First config.first)

-- the version in which files of the kind are written
abbrev pub written_version : FileKind → Version
written_version file_kind.Events = Two
written_version file_kind.Session = SessionOne

abbrev pub file_head : FileKind → Config → List ℕ
file_head kind config = head_in (written_version kind) config

abbrev pub head_text : Config → List ℕ
head_text config = file_head file_kind.Events config

abbrev pub session_head_text : Config → List ℕ
session_head_text config = file_head file_kind.Session config

-- the round's moment, and its events in order
unfoldable pub round_in : FileKind → Round → List ℕ
round_in kind round =
    ended_text (line.Round round.moment) ++ flat_map (event_lines kind) round.events

abbrev pub round_text : Round → List ℕ
round_text round = round_in file_kind.Events round

abbrev pub session_round_text : Round → List ℕ
session_round_text round = round_in file_kind.Session round

unfoldable pub events_text : Config → List Round → List ℕ
events_text config rounds = head_text config ++ flat_map round_text rounds

unfoldable pub session_text : Config → List Round → List ℕ
session_text config rounds = session_head_text config ++ flat_map session_round_text rounds

-- ---- what can be written

abbrev pub IsKey : Key → Type 0
IsKey (Client branch method) =
    (str_to_ascii_lowercase branch ≡ branch) × IsTrue (are_bytes branch) × IsMethod method
IsKey (Server branch sent_by method) =
    (str_to_ascii_lowercase branch ≡ branch) × IsTrue (are_bytes branch) × IsMethod method
    × (str_to_ascii_lowercase sent_by.host ≡ sent_by.host) × IsTrue (are_bytes sent_by.host)
    × (sent_by.port ≤ 65535)

-- an event that has a line, if commands keep this rule
abbrev pub IsEventOf : (UserCommand → Type 0) → Event → Type 0
IsEventOf P (Datagram from bytes) = IsAddr from × IsTrue (are_bytes bytes)
IsEventOf P (Failed key) = IsKey key
IsEventOf P (Command command) = P command

abbrev pub IsEvent : Event → Type 0
IsEvent event = IsEventOf (IsCommandLine Two) event

pub record IsConfig (config : Config) : Type 0 where
  pub local : IsAddr config.local
  pub seed : IsSeed config.seed
  pub first : config.first ≤ 2 ^ 62

pub record IsRoundOf (P : UserCommand → Type 0) (round : Round) : Type 0 where
  pub moment : round.moment ≤ 2 ^ 64 - 1
  pub events : AllByRecursion (IsEventOf P) round.events

abbrev pub IsRound : Round → Type 0
IsRound round = IsRoundOf (IsCommandLine Two) round

-- ---- what can be written in a session

abbrev pub IsAddressValue : NameAddr → Type 0
IsAddressValue address = IsNameAddr address × IsTrue (are_bytes (address_value address))

abbrev pub IsOptionTag : List ℕ → Type 0
IsOptionTag token = IsTrue (is_token token) × IsTrue (are_bytes token)

abbrev pub IsKeptHeader : Header → Type 0
IsKeptHeader header =
    IsOtherHeader header × IsTrue (are_bytes header.name) × IsTrue (are_bytes header.value)

pub record AreHeaders (headers : GivenHeaders) : Type 0 where
  pub contacts : AllByRecursion IsAddressValue headers.contacts
  pub routes : AllByRecursion IsAddressValue headers.routes
  pub require : AllByRecursion IsOptionTag headers.require
  pub supported : AllByRecursion IsOptionTag headers.supported
  pub others : AllByRecursion IsKeptHeader headers.others

-- routes and the headers of a content
abbrev pub by_header : List NameAddr → Content → GivenHeaders
by_header routes content = record {
  contacts = content.contacts;
  routes = routes;
  supported = content.supported;
  require = content.require;
  others = content.others;
}

-- the headers of a command
abbrev pub headers_of : UserCommand → GivenHeaders
headers_of (command.Invite c) = by_header c.routes c.content
headers_of (command.Plain c) = by_header c.routes c.content
headers_of (command.Request c) = by_header [] c.content
headers_of (command.Respond c) = by_header [] c.content
headers_of (command.Ack c) = by_header [] c.content
headers_of (command.Prack c) = by_header [] c.content
headers_of (command.Cancel c) = gathered []
headers_of (command.AbandonRequest c) = gathered []
headers_of (command.AbandonDialog c) = gathered []

-- the headers of a command can be written, and may stand before it
abbrev pub HaveHeaders : UserCommand → Type 0
HaveHeaders c = AreHeaders (headers_of c) × IsTrue (contacts_fit (headers_of c) c)

-- the command without its headers
abbrev pub bare : UserCommand → UserCommand
bare (command.Invite c) =
    command.Invite (record c { routes = []; content = content_of_body c.content.body })
bare (command.Plain c) =
    command.Plain (record c { routes = []; content = content_of_body c.content.body })
bare (command.Request c) = command.Request (record c { content = content_of_body c.content.body })
bare (command.Respond c) = command.Respond (record c { content = content_of_body c.content.body })
bare (command.Ack c) = command.Ack (record c { content = content_of_body c.content.body })
bare (command.Prack c) = command.Prack (record c { content = content_of_body c.content.body })
bare (command.Cancel c) = command.Cancel c
bare (command.AbandonRequest c) = command.AbandonRequest c
bare (command.AbandonDialog c) = command.AbandonDialog c

-- its line can be written, and so can the headers before it
abbrev pub IsSessionCommand : UserCommand → Type 0
IsSessionCommand c = IsCommandLine SessionOne (bare c) × HaveHeaders c

abbrev pub IsSessionRound : Round → Type 0
IsSessionRound round = IsRoundOf IsSessionCommand round

-- ---- what the types of a session's events don't say

-- a status has at most three digits (RFC 3261, section 7.2)
abbrev pub HasStatus : UserCommand → Type 0
HasStatus (command.Respond c) = c.status ≤ 999
HasStatus c = Unit {0}

-- what a session wants of an event beside what its types say
abbrev pub FitsSession : Event → Type 0
FitsSession (Datagram from bytes) = Unit {0}
FitsSession (Failed key) = Unit {0}
FitsSession (Command c) = HasStatus c × IsTrue (contacts_fit (headers_of c) c)

-- ---- an event, a command or a header by itself

-- the event that a line says
abbrev pub event_of_line : EventLine → Option Event
event_of_line (line.Local address) = None
event_of_line (line.Seed seed) = None
event_of_line (line.First number) = None
event_of_line (line.Round moment) = None
event_of_line (line.Event event) = Some event
event_of_line (line.Header header) = None

-- the header that a line says
abbrev pub header_of_line : EventLine → Option GivenHeader
header_of_line (line.Local address) = None
header_of_line (line.Seed seed) = None
header_of_line (line.First number) = None
header_of_line (line.Round moment) = None
header_of_line (line.Event event) = None
header_of_line (line.Header header) = Some header

-- the command that a line says
abbrev pub user_command_of : EventLine → Option UserCommand
user_command_of (line.Event (Command command)) = Some command
user_command_of item = None

-- the text is the line of this event, and an event file may have it
abbrev pub SpellsEventLine : List ℕ → Event → Type 0
SpellsEventLine text event = SpellsLine Two text (line.Event event)

-- the text is the line of this command, and a file of the kind may have it
abbrev pub SpellsCommand : FileKind → List ℕ → UserCommand → Type 0
SpellsCommand kind text command =
    SpellsLine (written_version kind) text (line.Event (Command command))
