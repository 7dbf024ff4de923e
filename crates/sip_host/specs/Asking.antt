-- Commands that a host makes of fields, and the headers that are given before one.
use Rattle.std.specs.Prelude.{◌≡◌, ◌⊎◌, ◌<◌, ◌≤◌, ℕ, ◌+◌, Bool, ◌&&◌, true, List, [], ◌∷◌, ◌++◌, length, Option, None, Some, IfOk, IfSome, IsSome, IsSomeAnd, IsTrue, OnErr, OnOk, Result, Err, nat_le, if◌then◌else◌}
use Rattle.sip_text.specs.Token.{is_token}
use Rattle.sip_grammar.specs.Reason.{is_reason}
use Rattle.sip_grammar.specs.Word.{is_word}
use Rattle.sip_message.specs.Content.{content_of_body}
use Rattle.sip_message.specs.declared.id.Id.{Id}
use Rattle.sip_user.specs.declared.command.DialogBody.{DialogBody}
use Rattle.sip_user.specs.declared.command.UserCommand.{UserCommand}
use Rattle.sip_user.specs.declared.command.UserCommand.TheVariants as command
use Rattle.sip_round.specs.declared.round.Event.TheVariants.{Command}
use Rattle.sip_files.specs.Given.{IsGiven, with_given}
use Rattle.sip_files.specs.Written.{header_text}
use Rattle.sip_files.specs.declared.given_header.GivenHeader.{GivenHeader}
use Rattle.sip_host.specs.Absolute.{is_absolute}
use Rattle.sip_host.specs.Hosting.{Answer, with_events}
use Rattle.sip_host.specs.declared.fields.AbandonDialogFields.{AbandonDialogFields}
use Rattle.sip_host.specs.declared.fields.AbandonRequestFields.{AbandonRequestFields}
use Rattle.sip_host.specs.declared.fields.BodyFields.{BodyFields}
use Rattle.sip_host.specs.declared.fields.CancelFields.{CancelFields}
use Rattle.sip_host.specs.declared.fields.CommandFields.{CommandFields}
use Rattle.sip_host.specs.declared.fields.CommandFields.TheVariants as given
use Rattle.sip_host.specs.declared.fields.InviteFields.{InviteFields}
use Rattle.sip_host.specs.declared.fields.PlainFields.{PlainFields}
use Rattle.sip_host.specs.declared.fields.RequestFields.{RequestFields}
use Rattle.sip_host.specs.declared.fields.RespondFields.{RespondFields}
use Rattle.sip_host.specs.declared.field.Field.{Field}
use Rattle.sip_host.specs.declared.field.Field.TheVariants as field
use Rattle.sip_host.specs.declared.host.Host.{Host}
use Rattle.sip_host.specs.declared.host_fault.HostFault.{HostFault}
use Rattle.sip_host.specs.declared.host_fault.HostFault.TheVariants as host_fault

-- ---- the command of the fields, before its headers

-- an absent tag is the empty text
abbrev pub tag_of : List ℕ → Option (List ℕ)
tag_of [] = None
tag_of (byte ∷ bytes) = Some (byte ∷ bytes)

abbrev pub invite_of : InviteFields → UserCommand
invite_of fields = command.Invite (record {
  call_id = fields.call_id.now;
  address = fields.address;
  request_uri = fields.request_uri.now;
  from = fields.from.now;
  to = fields.to.now;
  routes = [];
  support = fields.support;
  content = content_of_body fields.body.now;
})

abbrev pub plain_of : PlainFields → UserCommand
plain_of fields = command.Plain (record {
  call_id = fields.call_id.now;
  address = fields.address;
  method = fields.method.now;
  request_uri = fields.request_uri.now;
  from = fields.from.now;
  to = fields.to.now;
  routes = [];
  content = content_of_body fields.body.now;
})

abbrev pub request_of : RequestFields → UserCommand
request_of fields = command.Request (record {
  call_id = fields.call_id.now;
  local_tag = tag_of fields.local_tag.now;
  remote_tag = tag_of fields.remote_tag.now;
  method = fields.method.now;
  content = content_of_body fields.body.now;
})

abbrev pub respond_of : RespondFields → UserCommand
respond_of fields = command.Respond (record {
  call_id = fields.call_id.now;
  id = fields.id;
  status = fields.status;
  reliability = fields.reliability;
  content = content_of_body fields.body.now;
  reason = fields.reason.now;
})

abbrev pub body_of : BodyFields → DialogBody
body_of fields = record {
  call_id = fields.call_id.now;
  local_tag = tag_of fields.local_tag.now;
  remote_tag = tag_of fields.remote_tag.now;
  content = content_of_body fields.body.now;
}

abbrev pub ack_of : BodyFields → UserCommand
ack_of fields = command.Ack (body_of fields)

abbrev pub prack_of : BodyFields → UserCommand
prack_of fields = command.Prack (body_of fields)

abbrev pub cancel_of : CancelFields → UserCommand
cancel_of fields = command.Cancel (record { call_id = fields.call_id.now; id = fields.id })

abbrev pub abandon_request_of : AbandonRequestFields → UserCommand
abandon_request_of fields =
    command.AbandonRequest (record { call_id = fields.call_id.now; id = fields.id })

abbrev pub abandon_dialog_of : AbandonDialogFields → UserCommand
abandon_dialog_of fields = command.AbandonDialog (record {
  call_id = fields.call_id.now;
  local_tag = tag_of fields.local_tag.now;
  remote_tag = tag_of fields.remote_tag.now;
})

abbrev pub command_of : CommandFields → UserCommand
command_of (given.Invite f) = invite_of f
command_of (given.Plain f) = plain_of f
command_of (given.Request f) = request_of f
command_of (given.Respond f) = respond_of f
command_of (given.Ack f) = ack_of f
command_of (given.Prack f) = prack_of f
command_of (given.Cancel f) = cancel_of f
command_of (given.AbandonRequest f) = abandon_request_of f
command_of (given.AbandonDialog f) = abandon_dialog_of f

-- ---- the rules of the fields

-- an absent tag also keeps the rule of a tag (RFC 3261, section 19.3)
abbrev pub is_tag : Option (List ℕ) → Bool
is_tag None = true
is_tag (Some text) = is_token text

-- a status with which a user can answer; 100 is the agent's own (RFC 3261, section 8.2.6.1)
abbrev pub is_status : ℕ → Bool
is_status status = nat_le 101 status && nat_le status 699

abbrev pub dialog_rules : List ℕ → Option (List ℕ) → Option (List ℕ) → List (Field × Bool)
dialog_rules call_id local_tag remote_tag =
    (field.CallId, is_word call_id) ∷ (field.LocalTag, is_tag local_tag)
    ∷ (field.RemoteTag, is_tag remote_tag) ∷ []

-- the fields of a command that have a rule, in order, and whether each keeps it (RFC 3261, section
-- 25.1)
abbrev pub rules_of : UserCommand → List (Field × Bool)
rules_of (command.Invite c) =
    (field.CallId, is_word c.call_id) ∷ (field.RequestUri, is_absolute c.request_uri)
    ∷ (field.From, is_absolute c.from) ∷ (field.To, is_absolute c.to) ∷ []
rules_of (command.Plain c) =
    (field.CallId, is_word c.call_id) ∷ (field.Method, is_token c.method)
    ∷ (field.RequestUri, is_absolute c.request_uri) ∷ (field.From, is_absolute c.from)
    ∷ (field.To, is_absolute c.to) ∷ []
rules_of (command.Request c) =
    dialog_rules c.call_id c.local_tag c.remote_tag ++ (field.Method, is_token c.method) ∷ []
rules_of (command.Respond c) =
    (field.CallId, is_word c.call_id) ∷ (field.Status, is_status c.status)
    ∷ (field.Reason, is_reason c.reason) ∷ []
rules_of (command.Ack c) = dialog_rules c.call_id c.local_tag c.remote_tag
rules_of (command.Prack c) = dialog_rules c.call_id c.local_tag c.remote_tag
rules_of (command.Cancel c) = (field.CallId, is_word c.call_id) ∷ []
rules_of (command.AbandonRequest c) = (field.CallId, is_word c.call_id) ∷ []
rules_of (command.AbandonDialog c) = dialog_rules c.call_id c.local_tag c.remote_tag

-- the first of these fields that doesn't keep its rule
abbrev pub first_bad : List (Field × Bool) → Option Field
first_bad [] = None
first_bad ((name, is_kept) ∷ fields) = if is_kept then first_bad fields else Some name

-- each of these fields keeps its rule
abbrev pub AllKept : List (Field × Bool) → Type 0
AllKept [] = Unit {0}
AllKept ((name, is_kept) ∷ fields) = IsTrue is_kept × AllKept fields

-- the command is made if each field keeps its rule
pub record Makes (wanted : UserCommand) (answer : Result UserCommand HostFault) : Type 0 where
  pub made : IfOk answer (λ made. made ≡ wanted)
  pub bad : IfSome (first_bad (rules_of wanted))
      (λ name. answer ≡ Err (host_fault.BadField name))
  pub fault : first_bad (rules_of wanted) ≡ None → OnErr answer (answer ≡ Err host_fault.NoMemory)

-- ---- what a host does

-- its next command has no headers yet
abbrev pub without_headers : Host → Host
without_headers host = record host { headers = [] }

-- its next command has one more header
abbrev pub with_header : Host → GivenHeader → Host
with_header host header = record host { headers = host.headers ++ header ∷ [] }

-- the line `name: value` says this header, and the name is a token (RFC 3261, section 7.3.1)
pub record SaysHeader (name value : List ℕ) (header : GivenHeader) : Type 0 where
  pub token : IsTrue (is_token name)
  pub given : IsGiven header (header_text name value)

-- a header is kept for the next command; a fault discards all of them
pub record TakesHeader (name value : List ℕ) (old new : Host) (answer : Answer) : Type 0 where
  pub kept : OnOk answer ((header : GivenHeader) × SaysHeader name value header
      × (new ≡ with_header old header))
  pub let_go : OnErr answer (new ≡ without_headers old)
  pub fault : OnErr answer ((answer ≡ Err (host_fault.BadField field.Headers))
      ⊎ (answer ≡ Err host_fault.NoMemory))
  pub bad : answer ≡ Err (host_fault.BadField field.Headers)
      → (header : GivenHeader) → ¬ (SaysHeader name value header)

-- The command, with the headers that are kept for it, is an event of the next round, and has an id.
-- It takes the headers in any case; after a fault nothing else has changed.
pub record TakesCommand (wanted : UserCommand) (old new : Host) (answer : Result Id HostFault) :
    Type 0 where
  pub added : OnOk answer (IsSomeAnd (with_given old.headers wanted)
      (λ whole. new ≡ with_events (without_headers old) (Command whole ∷ [])))
  pub id : IfOk answer (λ id. id
      ≡ record { round = old.agent.next_round; place = length old.events + 1 })
  pub let_go : OnErr answer (new ≡ without_headers old)
  pub full : 65536 ≤ length old.events → answer ≡ Err host_fault.TooManyEvents
  pub bad_field : length old.events < 65536 → IfSome (first_bad (rules_of wanted))
      (λ name. answer ≡ Err (host_fault.BadField name))
  pub bad_headers : length old.events < 65536 → first_bad (rules_of wanted) ≡ None
      → with_given old.headers wanted ≡ None
      → (answer ≡ Err (host_fault.BadField field.Headers)) ⊎ (answer ≡ Err host_fault.NoMemory)
  pub fault : length old.events < 65536 → first_bad (rules_of wanted) ≡ None
      → IsSome (with_given old.headers wanted)
      → OnErr answer (answer ≡ Err host_fault.NoMemory)
