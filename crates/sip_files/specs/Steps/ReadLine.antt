-- Reading a line of a file, by its version, from left to right. What a line means is defined by the
-- lines' texts.
use Rattle.std.specs.Prelude.{ℕ, ◌^◌, ◌-◌, ◌==◌, List, [], length, Option, Some, None, codes, if◌then◌else◌}
use Rattle.std.specs.Option.{option_map, option_or}
use Rattle.std.specs.Str.{bytes_eq}
use Rattle.sip_text.specs.Number.{number_at}
use Rattle.sip_text.specs.Options.{◌>>=◌}
use Rattle.sip_text.specs.Cut.{cut_at, field_at}
use Rattle.sip_text.specs.Token.{is_token}
use Rattle.sip_grammar.specs.Word.{is_word}
use Rattle.sip_grammar.specs.Reason.{is_reason}
use Rattle.sip_grammar.specs.Uri.{is_uri}
use Rattle.sip_message.specs.declared.addr.Addr.{Addr}
use Rattle.sip_message.specs.declared.id.Id.{Id}
use Rattle.sip_message.specs.declared.key.Key.{Key}
use Rattle.sip_message.specs.Content.{content_of_body}
use Rattle.sip_message.specs.Key.{client_key, server_key}
use Rattle.sip_user.specs.declared.command.Reliability.{Reliability}
use Rattle.sip_user.specs.declared.command.Reliability.TheVariants as reliability
use Rattle.sip_user.specs.declared.command.DialogBody.{DialogBody}
use Rattle.sip_user.specs.declared.command.DialogRequest.{DialogRequest}
use Rattle.sip_user.specs.declared.command.Invite.{Invite}
use Rattle.sip_user.specs.declared.command.Plain.{Plain}
use Rattle.sip_user.specs.declared.command.ProvisionalSupport.{ProvisionalSupport}
use Rattle.sip_user.specs.declared.command.ProvisionalSupport.TheVariants as support
use Rattle.sip_user.specs.declared.command.Respond.{Respond}
use Rattle.sip_user.specs.declared.command.AbandonDialog.{AbandonDialog}
use Rattle.sip_user.specs.declared.command.AbandonRequest.{AbandonRequest}
use Rattle.sip_user.specs.declared.command.Cancel.{Cancel}
use Rattle.sip_user.specs.declared.command.UserCommand.{UserCommand}
use Rattle.sip_user.specs.declared.command.UserCommand.TheVariants as command
use Rattle.sip_round.specs.declared.round.Event.{Event}
use Rattle.sip_round.specs.declared.round.Event.TheVariants.{Datagram, Failed, Command}
use Rattle.sip_files.specs.declared.version.Version.{Version}
use Rattle.sip_files.specs.declared.version.Version.TheVariants.{One, Two, SessionOne}
use Rattle.sip_files.specs.declared.given_header.GivenHeader.{GivenHeader}
use Rattle.sip_files.specs.declared.event_line.EventLine.{EventLine}
use Rattle.sip_files.specs.declared.fields.Dialog.{Dialog}
use Rattle.sip_files.specs.declared.fields.Uris.{Uris}
use Rattle.sip_files.specs.declared.event_line.EventLine.TheVariants as line
use Rattle.sip_files.specs.Given.{given_at}
use Rattle.sip_files.specs.Steps.Reading.{word_at, rest_at, id_at, address_at, seed_at, both_at, ended_by}

unfoldable pub call_id_at : List ℕ → Option (List ℕ)
call_id_at field = word_at field >>= λ text. if is_word text then Some text else None

unfoldable pub reason_at : List ℕ → Option (List ℕ)
reason_at field = rest_at field >>= λ text. if is_reason text then Some text else None

unfoldable pub reliability_at : List ℕ → Option Reliability
reliability_at field =
    if bytes_eq field (codes "plain") then Some reliability.Plain
    else if bytes_eq field (codes "reliable") then Some reliability.Reliable
    else None

unfoldable pub datagram_at : List ℕ → Option Event
datagram_at fields = do
  from ← field_at 32 address_at fields
  bytes ← rest_at from.1
  Some (Datagram from.0 bytes)

unfoldable pub uri_at : List ℕ → Option (List ℕ)
uri_at field = word_at field >>= λ text. if is_uri text then Some text else None

-- a method stands for itself
unfoldable pub method_at : List ℕ → Option (List ℕ)
method_at field = if is_token field then Some field else None

abbrev pub tag_of : List ℕ → Option (Option (List ℕ))
tag_of text = if length text == 0 then Some None
    else if is_token text then Some (Some text) else None

unfoldable pub tag_at : List ℕ → Option (Option (List ℕ))
tag_at field = word_at field >>= tag_of

unfoldable pub support_at : List ℕ → Option ProvisionalSupport
support_at field =
    if bytes_eq field (codes "none") then Some support.None
    else if bytes_eq field (codes "supported") then Some support.Supported
    else if bytes_eq field (codes "required") then Some support.Required
    else None

-- ---- several fields

abbrev pub address_of_call_at : List ℕ → Option ((List ℕ × Addr) × List ℕ)
address_of_call_at = both_at (field_at 32 call_id_at) (field_at 32 address_at)

abbrev pub uris_of : (List ℕ × List ℕ) × List ℕ → Uris
uris_of read = record { request_uri = (read.0).0; from = (read.0).1; to = read.1 }

unfoldable pub uris_at : List ℕ → Option (Uris × List ℕ)
uris_at fields =
    both_at (both_at (field_at 32 uri_at) (field_at 32 uri_at))
    (field_at 32 uri_at) fields >>= λ read. Some (uris_of read.0, read.1)

abbrev pub dialog_read : (List ℕ × Option (List ℕ)) × Option (List ℕ) → Dialog
dialog_read read = record { call_id = (read.0).0; local_tag = (read.0).1; remote_tag = read.1 }

unfoldable pub dialog_at : List ℕ → Option (Dialog × List ℕ)
dialog_at fields =
    both_at (both_at (field_at 32 call_id_at) (field_at 32 tag_at))
    (field_at 32 tag_at) fields >>= λ read. Some (dialog_read read.0, read.1)

-- ---- the commands of the user

abbrev pub invite_read : (((List ℕ × Addr) × Uris) × ProvisionalSupport) × List ℕ → Invite
invite_read read = record {
  call_id = (((read.0).0).0).0;
  address = (((read.0).0).0).1;
  request_uri = (((read.0).0).1).request_uri;
  from = (((read.0).0).1).from;
  to = (((read.0).0).1).to;
  routes = [];
  support = (read.0).1;
  content = content_of_body read.1;
}

unfoldable pub invite_at : List ℕ → Option Invite
invite_at fields =
    option_map invite_read (ended_by
    (both_at (both_at address_of_call_at uris_at) (field_at 32 support_at)) word_at fields)

abbrev pub plain_read : (((List ℕ × Addr) × List ℕ) × Uris) × List ℕ → Plain
plain_read read = record {
  call_id = (((read.0).0).0).0;
  address = (((read.0).0).0).1;
  method = ((read.0).0).1;
  request_uri = ((read.0).1).request_uri;
  from = ((read.0).1).from;
  to = ((read.0).1).to;
  routes = [];
  content = content_of_body read.1;
}

unfoldable pub plain_at : List ℕ → Option Plain
plain_at fields =
    option_map plain_read (ended_by (both_at
    (both_at address_of_call_at (field_at 32 method_at)) uris_at) word_at fields)

abbrev pub request_read : (Dialog × List ℕ) × List ℕ → DialogRequest
request_read read = record {
  call_id = ((read.0).0).call_id;
  local_tag = ((read.0).0).local_tag;
  remote_tag = ((read.0).0).remote_tag;
  method = (read.0).1;
  content = content_of_body read.1;
}

unfoldable pub request_at : List ℕ → Option DialogRequest
request_at fields =
    option_map request_read (ended_by (both_at dialog_at (field_at 32 method_at)) word_at fields)

abbrev pub body_of : Dialog × List ℕ → DialogBody
body_of read = record {
  call_id = (read.0).call_id;
  local_tag = (read.0).local_tag;
  remote_tag = (read.0).remote_tag;
  content = content_of_body read.1;
}

unfoldable pub body_at : List ℕ → Option DialogBody
body_at fields = option_map body_of (ended_by dialog_at word_at fields)

abbrev pub respond_of : ((((List ℕ × Id) × ℕ) × Reliability) × List ℕ) × List ℕ → Respond
respond_of read = record {
  call_id = ((((read.0).0).0).0).0;
  id = ((((read.0).0).0).0).1;
  status = (((read.0).0).0).1;
  reliability = ((read.0).0).1;
  content = content_of_body (read.0).1;
  reason = read.1;
}

unfoldable pub respond_at : List ℕ → Option Respond
respond_at fields =
    option_map respond_of
    (ended_by (both_at (both_at (both_at (both_at (field_at 32 call_id_at) (field_at 32 id_at))
    (field_at 32 (number_at 999))) (field_at 32 reliability_at)) (field_at 32 word_at))
    reason_at fields)

abbrev pub cancel_of : List ℕ × Id → Cancel
cancel_of read = record { call_id = read.0; id = read.1 }

unfoldable pub cancel_at : List ℕ → Option Cancel
cancel_at fields = option_map cancel_of (ended_by (field_at 32 call_id_at) id_at fields)

-- only version 1 doesn't have this line
abbrev pub cancel_in : Version → List ℕ → Option Cancel
cancel_in One fields = None
cancel_in Two fields = cancel_at fields
cancel_in SessionOne fields = cancel_at fields

abbrev pub abandon_request_of : List ℕ × Id → AbandonRequest
abandon_request_of read = record { call_id = read.0; id = read.1 }

unfoldable pub abandon_request_at : List ℕ → Option AbandonRequest
abandon_request_at fields =
    option_map abandon_request_of (ended_by (field_at 32 call_id_at) id_at fields)

abbrev pub abandon_dialog_of : (List ℕ × Option (List ℕ)) × Option (List ℕ) → AbandonDialog
abandon_dialog_of read =
    record { call_id = (read.0).0; local_tag = (read.0).1; remote_tag = read.1 }

unfoldable pub abandon_dialog_at : List ℕ → Option AbandonDialog
abandon_dialog_at fields =
    option_map abandon_dialog_of
    (ended_by (both_at (field_at 32 call_id_at) (field_at 32 tag_at)) tag_at fields)

-- a request has one field after the Call-ID, a dialog two
unfoldable pub abandon_at : List ℕ → Option UserCommand
abandon_at fields =
    option_or (option_map command.AbandonRequest (abandon_request_at fields))
    (option_map command.AbandonDialog (abandon_dialog_at fields))

-- only a session has this line
abbrev pub abandon_in : Version → List ℕ → Option UserCommand
abandon_in One fields = None
abandon_in Two fields = None
abandon_in SessionOne fields = abandon_at fields

abbrev pub command_at : Version → List ℕ → List ℕ → Option UserCommand
command_at version keyword fields =
    if bytes_eq keyword (codes "invite") then option_map command.Invite (invite_at fields)
    else if bytes_eq keyword (codes "plain") then option_map command.Plain (plain_at fields)
    else if bytes_eq keyword (codes "request") then option_map command.Request (request_at fields)
    else if bytes_eq keyword (codes "respond") then option_map command.Respond (respond_at fields)
    else if bytes_eq keyword (codes "ack") then option_map command.Ack (body_at fields)
    else if bytes_eq keyword (codes "prack") then option_map command.Prack (body_at fields)
    else if bytes_eq keyword (codes "cancel")
    then option_map command.Cancel (cancel_in version fields)
    else if bytes_eq keyword (codes "abandon") then abandon_in version fields
    else None

-- ---- failed sends

abbrev pub client_key_of : List ℕ × List ℕ → Key
client_key_of read = client_key read.0 read.1

unfoldable pub client_at : List ℕ → Option Key
client_at fields = option_map client_key_of (ended_by (field_at 32 word_at) method_at fields)

abbrev pub server_of : ((List ℕ × List ℕ) × ℕ) × List ℕ → Key
server_of read = server_key ((read.0).0).0 ((read.0).0).1 (read.0).1 read.1

unfoldable pub server_at : List ℕ → Option Key
server_at fields =
    option_map server_of
    (ended_by (both_at (both_at (field_at 32 word_at) (field_at 32 word_at))
    (field_at 32 (number_at 65535))) method_at fields)

abbrev pub key_at : List ℕ → List ℕ → Option Key
key_at side fields =
    if bytes_eq side (codes "client") then client_at fields
    else if bytes_eq side (codes "server") then server_at fields
    else None

unfoldable pub failed_at : List ℕ → Option Key
failed_at fields = cut_at 32 fields >>= λ p. key_at p.0 p.1

-- ---- header lines

unfoldable pub header_at : List ℕ → Option GivenHeader
header_at fields = rest_at fields >>= given_at

-- only sessions have them
abbrev pub header_in : Version → List ℕ → Option GivenHeader
header_in One fields = None
header_in Two fields = None
header_in SessionOne fields = header_at fields

-- ---- a line

unfoldable pub event_at : Version → List ℕ → List ℕ → Option Event
event_at version keyword fields =
    if bytes_eq keyword (codes "datagram") then datagram_at fields
    else if bytes_eq keyword (codes "failed") then option_map Failed (failed_at fields)
    else option_map Command (command_at version keyword fields)

unfoldable pub keyword_line : Version → List ℕ → List ℕ → Option EventLine
keyword_line version keyword fields =
    if bytes_eq keyword (codes "local") then option_map line.Local (address_at fields)
    else if bytes_eq keyword (codes "seed") then option_map line.Seed (seed_at fields)
    else if bytes_eq keyword (codes "first") then option_map line.First (number_at (2 ^ 62) fields)
    else if bytes_eq keyword (codes "round")
    then option_map line.Round (number_at (2 ^ 64 - 1) fields)
    else option_map line.Event (event_at version keyword fields)

-- a header line begins with the space, so it has no keyword
abbrev pub parts_line : Version → List ℕ → List ℕ → Option EventLine
parts_line version keyword fields =
    if length keyword == 0 then option_map line.Header (header_in version fields)
    else keyword_line version keyword fields

unfoldable pub line_at : Version → List ℕ → Option EventLine
line_at version text = cut_at 32 text >>= λ p. parts_line version p.0 p.1
