-- The header lines of a session file, and the content that they give to the command after them (RFC
-- 3261, section 7.3.1).
use Rattle.std.specs.Prelude.{◌≡◌, ℕ, List, [], ◌∷◌, ◌++◌, Option, Some, None, if◌then◌else◌}
use Rattle.std.specs.List.{flat_map}
use Rattle.std.specs.Option.{option_map}
use Rattle.sip_grammar.specs.HeaderEntry.{header_named}
use Rattle.sip_grammar.specs.declared.header_name.HeaderName.{HeaderName}
use Rattle.sip_grammar.specs.declared.header_name.HeaderName.TheVariants as name
use Rattle.sip_message.specs.Content.{Content}
use Rattle.sip_message.specs.declared.header.Header.{Header}
use Rattle.sip_message.specs.declared.name_addr.NameAddr.{NameAddr}
use Rattle.sip_header_values.specs.Address.{AreNameAddrs, name_addrs_from}
use Rattle.sip_header_values.specs.Sequence.{AreTokens, tokens_from}
use Rattle.sip_headers.specs.HeaderFields.{other_from}
use Rattle.sip_headers.specs.HeaderLine.{Class, bad, known, other, class_from, IsHeaderLine}
use Rattle.sip_headers.specs.Headers.{IsOther}
use Rattle.sip_user.specs.declared.command.DialogBody.{DialogBody}
use Rattle.sip_user.specs.declared.command.DialogRequest.{DialogRequest}
use Rattle.sip_user.specs.declared.command.Invite.{Invite}
use Rattle.sip_user.specs.declared.command.Plain.{Plain}
use Rattle.sip_user.specs.declared.command.Respond.{Respond}
use Rattle.sip_user.specs.declared.command.UserCommand.{UserCommand}
use Rattle.sip_user.specs.declared.command.UserCommand.TheVariants as command
use Rattle.sip_round.specs.declared.round.Event.TheVariants.{Command}
use Rattle.sip_files.specs.declared.given_header.GivenHeader.{GivenHeader}
use Rattle.sip_files.specs.declared.given_header.GivenHeader.TheVariants as given
use Rattle.sip_files.specs.declared.given_headers.GivenHeaders.{GivenHeaders}
use Rattle.sip_files.specs.declared.event_line.EventLine.{EventLine}
use Rattle.sip_files.specs.declared.event_line.EventLine.TheVariants as line
use Rattle.sip_files.specs.Unregister.{contacts_fit}

-- ---- one line

-- a header line for this header, with a value in this form
pub record IsLineOf {X : Type 0} (header : HeaderName) (Form : X → List ℕ → Type 0) (x : X)
    (text : List ℕ) : Type 0 where
  pub parts : List ℕ × List ℕ
  pub is_line : IsHeaderLine parts text
  pub named : header_named parts.0 ≡ Some header
  pub form : Form x parts.1

-- a header line for a header that stays as it stands
pub record IsOtherLine (header : Header) (text : List ℕ) : Type 0 where
  pub parts : List ℕ × List ℕ
  pub is_line : IsHeaderLine parts text
  pub named : header_named parts.0 ≡ None
  pub kept : IsOther header parts

-- the header line of a message says this
abbrev pub IsGiven : GivenHeader → List ℕ → Type 0
IsGiven (given.Contact addresses) text = IsLineOf name.Contact AreNameAddrs addresses text
IsGiven (given.Route addresses) text = IsLineOf name.Route AreNameAddrs addresses text
IsGiven (given.Supported tokens) text = IsLineOf name.Supported AreTokens tokens text
IsGiven (given.Require tokens) text = IsLineOf name.Require AreTokens tokens text
IsGiven (given.Other header) text = IsOtherLine header text

-- ---- what reading it finds

abbrev pub value_given : HeaderName → List ℕ → Option GivenHeader
value_given name.Contact value = option_map given.Contact (name_addrs_from value)
value_given name.Route value = option_map given.Route (name_addrs_from value)
value_given name.Supported value = option_map given.Supported (tokens_from value)
value_given name.Require value = option_map given.Require (tokens_from value)
value_given header value = None

-- the header, if the list has just one
abbrev pub other_given : Option (List Header) → Option GivenHeader
other_given (Some (header ∷ [])) = Some (given.Other header)
other_given headers = None

abbrev pub class_given : Class → Option GivenHeader
class_given bad = None
class_given (known header value) = value_given header value
class_given (other name value) = other_given (other_from name value)

abbrev pub given_at : List ℕ → Option GivenHeader
given_at text = class_given (class_from text)

-- ---- what several lines give

abbrev pub contacts_in : GivenHeader → List NameAddr
contacts_in (given.Contact addresses) = addresses
contacts_in header = []

abbrev pub routes_in : GivenHeader → List NameAddr
routes_in (given.Route addresses) = addresses
routes_in header = []

abbrev pub supported_in : GivenHeader → List (List ℕ)
supported_in (given.Supported tokens) = tokens
supported_in header = []

abbrev pub require_in : GivenHeader → List (List ℕ)
require_in (given.Require tokens) = tokens
require_in header = []

abbrev pub others_in : GivenHeader → List Header
others_in (given.Other header) = header ∷ []
others_in header = []

-- for each header all values, in the order of the lines
abbrev pub gathered : List GivenHeader → GivenHeaders
gathered headers = record {
  contacts = flat_map contacts_in headers;
  routes = flat_map routes_in headers;
  supported = flat_map supported_in headers;
  require = flat_map require_in headers;
  others = flat_map others_in headers;
}

-- with what one more line says
abbrev pub with_one : GivenHeaders → GivenHeader → GivenHeaders
with_one all (given.Contact addresses) = record all { contacts = all.contacts ++ addresses }
with_one all (given.Route addresses) = record all { routes = all.routes ++ addresses }
with_one all (given.Supported tokens) = record all { supported = all.supported ++ tokens }
with_one all (given.Require tokens) = record all { require = all.require ++ tokens }
with_one all (given.Other header) = record all { others = all.others ++ header ∷ [] }

-- a content with these headers and a body
abbrev pub content_with : GivenHeaders → List ℕ → Content
content_with headers body = record {
  contacts = headers.contacts;
  supported = headers.supported;
  require = headers.require;
  others = headers.others;
  body = body;
}

-- ---- the commands, in whose line stands only the body of the content

abbrev pub invite_with : GivenHeaders → Invite → Invite
invite_with headers c = record c {
  routes = headers.routes;
  content = content_with headers c.content.body;
}

abbrev pub plain_with : GivenHeaders → Plain → Plain
plain_with headers c = record c {
  routes = headers.routes;
  content = content_with headers c.content.body;
}

-- The command, if there is no route. A request in a dialog takes the route of the dialog (RFC 3261,
-- section 12.2.1.1), and a response goes the way of its request (section 18.2.2).
abbrev pub unrouted : {A : Type 0} → List NameAddr → A → Option A
unrouted [] asked = Some asked
unrouted (route ∷ routes) asked = None

abbrev pub request_with : GivenHeaders → DialogRequest → Option DialogRequest
request_with headers c =
    unrouted headers.routes (record c { content = content_with headers c.content.body })

abbrev pub respond_with : GivenHeaders → Respond → Option Respond
respond_with headers c =
    unrouted headers.routes (record c { content = content_with headers c.content.body })

abbrev pub body_with : GivenHeaders → DialogBody → Option DialogBody
body_with headers c =
    unrouted headers.routes (record c { content = content_with headers c.content.body })

-- a `cancel` has no content: a CANCEL takes no header of the user (RFC 3261, section 9.1); nor has an
-- `abandon`, which sends nothing
abbrev pub command_with : GivenHeaders → UserCommand → Option UserCommand
command_with headers (command.Invite c) = Some (command.Invite (invite_with headers c))
command_with headers (command.Plain c) = Some (command.Plain (plain_with headers c))
command_with headers (command.Request c) = option_map command.Request (request_with headers c)
command_with headers (command.Respond c) = option_map command.Respond (respond_with headers c)
command_with headers (command.Ack c) = option_map command.Ack (body_with headers c)
command_with headers (command.Prack c) = option_map command.Prack (body_with headers c)
command_with headers (command.Cancel c) = None
command_with headers (command.AbandonRequest c) = None
command_with headers (command.AbandonDialog c) = None

-- the command with the headers that were given before it
abbrev pub with_given : List GivenHeader → UserCommand → Option UserCommand
with_given [] c = Some c
with_given (header ∷ headers) c =
    if contacts_fit (gathered (header ∷ headers)) c
    then command_with (gathered (header ∷ headers)) c else None

-- what a line says with the header lines before it; these may stand only before a command
abbrev pub with_headers : List GivenHeader → EventLine → Option EventLine
with_headers [] item = Some item
with_headers (header ∷ headers) (line.Event (Command c)) =
    option_map (λ c. line.Event (Command c)) (with_given (header ∷ headers) c)
with_headers (header ∷ headers) item = None
