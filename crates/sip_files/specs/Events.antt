-- The lines of an event file or a session file, by its version, and what may stand in them.
use Rattle.std.specs.Prelude.{◌≡◌, ℕ, ◌≤◌, ◌^◌, ◌-◌, Bool, true, false, List, [], ◌++◌, length, Option, Some, None, IsTrue, codes, unwrap_or, ◌⊎◌}
use Rattle.std.specs.List.{flat_map}
use Rattle.std.specs.Str.{str_to_ascii_lowercase}
use Rattle.sip_grammar.specs.Word.{is_word}
use Rattle.sip_grammar.specs.Reason.{is_reason}
use Rattle.sip_grammar.specs.Uri.{is_uri}
use Rattle.sip_text.specs.Token.{is_token}
use Rattle.sip_message.specs.declared.id.Id.{Id}
use Rattle.sip_message.specs.declared.key.Key.{Key}
use Rattle.sip_message.specs.Addr.{IsAddr}
use Rattle.sip_message.specs.Content.{Content, content_of_body}
use Rattle.sip_message.specs.Key.{client_key, server_key}
use Rattle.sip_user.specs.declared.command.Reliability.{Reliability}
use Rattle.sip_user.specs.declared.command.Reliability.TheVariants as reliability
use Rattle.sip_user.specs.declared.command.ProvisionalSupport.{ProvisionalSupport}
use Rattle.sip_user.specs.declared.command.ProvisionalSupport.TheVariants as support
use Rattle.sip_user.specs.declared.command.DialogBody.{DialogBody}
use Rattle.sip_user.specs.declared.command.DialogRequest.{DialogRequest}
use Rattle.sip_user.specs.declared.command.Invite.{Invite}
use Rattle.sip_user.specs.declared.command.Plain.{Plain}
use Rattle.sip_user.specs.declared.command.Respond.{Respond}
use Rattle.sip_user.specs.declared.command.AbandonDialog.{AbandonDialog}
use Rattle.sip_user.specs.declared.command.AbandonRequest.{AbandonRequest}
use Rattle.sip_user.specs.declared.command.Cancel.{Cancel}
use Rattle.sip_user.specs.declared.command.UserCommand.{UserCommand}
use Rattle.sip_user.specs.declared.command.UserCommand.TheVariants as command
use Rattle.sip_round.specs.declared.round.Event.{Event}
use Rattle.sip_round.specs.declared.round.Event.TheVariants.{Datagram, Failed, Command}
use Rattle.sip_files.specs.declared.version.Version.{Version}
use Rattle.sip_files.specs.declared.version.Version.TheVariants.{One, Two, SessionOne}
use Rattle.sip_files.specs.declared.given_header.GivenHeader.{GivenHeader}
use Rattle.sip_files.specs.declared.event_line.EventLine.{EventLine}
use Rattle.sip_files.specs.declared.event_line.EventLine.TheVariants as line
use Rattle.sip_files.specs.Word.{hex_pair, are_bytes}
use Rattle.sip_files.specs.Given.{IsGiven}
use Rattle.sip_files.specs.Field.{plain_field, number_field, id_field, address_field, word_field, rest_field}

-- ---- what has a spelling

abbrev pub IsId : Id → Type 0
IsId id = (id.round ≤ 2 ^ 64 - 1) × (id.place ≤ 2 ^ 32 - 1)

abbrev pub IsSeed : List ℕ → Type 0
IsSeed seed = (length seed ≡ 32) × IsTrue (are_bytes seed)

abbrev pub IsCallIdWord : List ℕ → Type 0
IsCallIdWord text = IsTrue (are_bytes text) × IsTrue (is_word text)

abbrev pub IsReason : List ℕ → Type 0
IsReason text = IsTrue (are_bytes text) × IsTrue (is_reason text)

abbrev pub IsUri : List ℕ → Type 0
IsUri text = IsTrue (are_bytes text) × IsTrue (is_uri text)

abbrev pub IsMethod : List ℕ → Type 0
IsMethod text = IsTrue (is_token text)

-- an absent tag is the empty one
abbrev pub IsTag : Option (List ℕ) → Type 0
IsTag None = Unit
IsTag (Some text) = IsTrue (are_bytes text) × IsTrue (is_token text)

-- a line says only the body of a content
pub record IsBodyAlone (content : Content) : Type 0 where
  pub alone : content ≡ content_of_body content.body
  pub bytes : IsTrue (are_bytes content.body)

pub record IsInvite (invite : Invite) : Type 0 where
  pub call_id : IsCallIdWord invite.call_id
  pub address : IsAddr invite.address
  pub request_uri : IsUri invite.request_uri
  pub from : IsUri invite.from
  pub to : IsUri invite.to
  pub routes : invite.routes ≡ []
  pub content : IsBodyAlone invite.content

pub record IsPlain (plain : Plain) : Type 0 where
  pub call_id : IsCallIdWord plain.call_id
  pub address : IsAddr plain.address
  pub method : IsMethod plain.method
  pub request_uri : IsUri plain.request_uri
  pub from : IsUri plain.from
  pub to : IsUri plain.to
  pub routes : plain.routes ≡ []
  pub content : IsBodyAlone plain.content

pub record IsRequest (request : DialogRequest) : Type 0 where
  pub call_id : IsCallIdWord request.call_id
  pub local_tag : IsTag request.local_tag
  pub remote_tag : IsTag request.remote_tag
  pub method : IsMethod request.method
  pub content : IsBodyAlone request.content

pub record IsDialogBody (given : DialogBody) : Type 0 where
  pub call_id : IsCallIdWord given.call_id
  pub local_tag : IsTag given.local_tag
  pub remote_tag : IsTag given.remote_tag
  pub content : IsBodyAlone given.content

pub record IsRespond (respond : Respond) : Type 0 where
  pub call_id : IsCallIdWord respond.call_id
  pub id : IsId respond.id
  pub status : respond.status ≤ 999
  pub content : IsBodyAlone respond.content
  pub reason : IsReason respond.reason

pub record IsCancel (cancel : Cancel) : Type 0 where
  pub call_id : IsCallIdWord cancel.call_id
  pub id : IsId cancel.id

pub record IsAbandonRequest (abandon : AbandonRequest) : Type 0 where
  pub call_id : IsCallIdWord abandon.call_id
  pub id : IsId abandon.id

pub record IsAbandonDialog (abandon : AbandonDialog) : Type 0 where
  pub call_id : IsCallIdWord abandon.call_id
  pub local_tag : IsTag abandon.local_tag
  pub remote_tag : IsTag abandon.remote_tag

-- only version 1 doesn't have the line `cancel`
abbrev pub has_cancel : Version → Bool
has_cancel One = false
has_cancel Two = true
has_cancel SessionOne = true

-- only a session has the line `abandon`
abbrev pub has_abandon : Version → Bool
has_abandon One = false
has_abandon Two = false
has_abandon SessionOne = true

-- the commands that a file of the version may have
abbrev pub IsCommandLine : Version → UserCommand → Type 0
IsCommandLine version (command.Invite invite) = IsInvite invite
IsCommandLine version (command.Plain plain) = IsPlain plain
IsCommandLine version (command.Request request) = IsRequest request
IsCommandLine version (command.Respond respond) = IsRespond respond
IsCommandLine version (command.Ack body) = IsDialogBody body
IsCommandLine version (command.Prack body) = IsDialogBody body
IsCommandLine version (command.Cancel cancel) = IsTrue (has_cancel version) × IsCancel cancel
IsCommandLine version (command.AbandonRequest abandon) =
    IsTrue (has_abandon version) × IsAbandonRequest abandon
IsCommandLine version (command.AbandonDialog abandon) =
    IsTrue (has_abandon version) × IsAbandonDialog abandon

-- ---- the lines

-- an absent tag is the empty text
abbrev pub tag_field : Option (List ℕ) → List ℕ
tag_field tag = word_field (unwrap_or tag [])

abbrev pub reliability_text : Reliability → List ℕ
reliability_text reliability.Plain = codes "plain"
reliability_text reliability.Reliable = codes "reliable"

abbrev pub support_text : ProvisionalSupport → List ℕ
support_text support.None = codes "none"
support_text support.Supported = codes "supported"
support_text support.Required = codes "required"

abbrev pub command_text : UserCommand → List ℕ
command_text (command.Invite c) =
    codes "invite" ++ word_field c.call_id ++ address_field c.address ++ word_field c.request_uri
    ++ word_field c.from ++ word_field c.to
    ++ plain_field (support_text c.support) ++ word_field c.content.body
command_text (command.Plain c) =
    codes "plain" ++ word_field c.call_id ++ address_field c.address ++ plain_field c.method
    ++ word_field c.request_uri ++ word_field c.from
    ++ word_field c.to ++ word_field c.content.body
command_text (command.Request c) =
    codes "request" ++ word_field c.call_id ++ tag_field c.local_tag ++ tag_field c.remote_tag
    ++ plain_field c.method ++ word_field c.content.body
command_text (command.Respond c) =
    codes "respond" ++ word_field c.call_id ++ id_field c.id ++ number_field c.status
    ++ plain_field (reliability_text c.reliability)
    ++ word_field c.content.body ++ rest_field c.reason
command_text (command.Ack c) =
    codes "ack" ++ word_field c.call_id ++ tag_field c.local_tag ++ tag_field c.remote_tag
    ++ word_field c.content.body
command_text (command.Prack c) =
    codes "prack" ++ word_field c.call_id ++ tag_field c.local_tag ++ tag_field c.remote_tag
    ++ word_field c.content.body
command_text (command.Cancel c) = codes "cancel" ++ word_field c.call_id ++ id_field c.id
command_text (command.AbandonRequest c) =
    codes "abandon" ++ word_field c.call_id ++ id_field c.id
command_text (command.AbandonDialog c) =
    codes "abandon" ++ word_field c.call_id ++ tag_field c.local_tag ++ tag_field c.remote_tag

-- The line of a failed send spells the branch and the host of its key in any case of letters; in
-- the key they are in lower case.

pub record SpellsClient (text : List ℕ) (key : Key) : Type 0 where
  pub branch : List ℕ
  pub method : List ℕ
  pub bytes : IsTrue (are_bytes branch)
  pub token : IsMethod method
  pub named : key ≡ client_key branch method
  pub spelled : text ≡ codes "failed client" ++ word_field branch ++ plain_field method

pub record SpellsServer (text : List ℕ) (key : Key) : Type 0 where
  pub branch : List ℕ
  pub host : List ℕ
  pub port : ℕ
  pub method : List ℕ
  pub bytes : IsTrue (are_bytes branch)
  pub host_bytes : IsTrue (are_bytes host)
  pub bound : port ≤ 65535
  pub token : IsMethod method
  pub named : key ≡ server_key branch host port method
  pub spelled : text ≡ codes "failed server" ++ word_field branch ++ word_field host
      ++ number_field port ++ plain_field method

abbrev pub SpellsEvent : Version → List ℕ → Event → Type 0
SpellsEvent version text (Datagram from bytes) =
    (IsAddr from × IsTrue (are_bytes bytes))
    × (text ≡ codes "datagram" ++ address_field from ++ rest_field bytes)
SpellsEvent version text (Failed key) = SpellsClient text key ⊎ SpellsServer text key
SpellsEvent version text (Command command) =
    IsCommandLine version command × (text ≡ command_text command)

-- the text is a space, and then, as a rest, the header line of a message that says this
pub record SpellsHeader (text : List ℕ) (header : GivenHeader) : Type 0 where
  pub header_line : List ℕ
  pub bytes : IsTrue (are_bytes header_line)
  pub given : IsGiven header header_line
  pub spelled : text ≡ rest_field header_line

-- only sessions have header lines
abbrev pub SpellsHeaderIn : Version → List ℕ → GivenHeader → Type 0
SpellsHeaderIn One text header = ⊥
SpellsHeaderIn Two text header = ⊥
SpellsHeaderIn SessionOne text header = SpellsHeader text header

-- the text is a line that says this, in a file of the version
abbrev pub SpellsLine : Version → List ℕ → EventLine → Type 0
SpellsLine version text (line.Local address) =
    IsAddr address × (text ≡ codes "local" ++ address_field address)
SpellsLine version text (line.Seed seed) =
    IsSeed seed × (text ≡ codes "seed" ++ plain_field (flat_map hex_pair seed))
SpellsLine version text (line.First number) =
    (number ≤ 2 ^ 62) × (text ≡ codes "first" ++ number_field number)
SpellsLine version text (line.Round moment) =
    (moment ≤ 2 ^ 64 - 1) × (text ≡ codes "round" ++ number_field moment)
SpellsLine version text (line.Event event) = SpellsEvent version text event
SpellsLine version text (line.Header header) = SpellsHeaderIn version text header

-- The texts are the same; for a failed send the case of letters may differ. A header has several
-- texts, and about these nothing is said (RFC 3261, section 7.3.1).
abbrev pub AreAlike : EventLine → List ℕ → List ℕ → Type 0
AreAlike (line.Event (Failed key)) text other =
    str_to_ascii_lowercase text ≡ str_to_ascii_lowercase other
AreAlike (line.Header header) text other = Unit {0}
AreAlike item text other = text ≡ other
