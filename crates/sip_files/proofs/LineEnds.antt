-- No line of an event file has a line end in it.
use Rattle.std.proofs.Common.{◌≡◌, ℕ, ◌≤◌, true, List, ◌∷◌, ◌++◌, refl, ap, ◌∙◌, arith, inl, inr, codes, decimal}
use Rattle.std.specs.List.{flat_map}
use Rattle.sip_text.proofs.Numerals.{number_has_no}
use Rattle.sip_text.proofs.Cuts.{has_no, has_no-append}
use Rattle.sip_text.specs.Character.{is_token_byte}
use Rattle.sip_message.specs.declared.addr.Addr.{Addr}
use Rattle.sip_message.specs.declared.key.Key.{Key}
use Rattle.sip_message.specs.Addr.{addr_text, IsAddr}
use Rattle.sip_user.specs.declared.command.Reliability.{Reliability}
use Rattle.sip_user.specs.declared.command.Reliability.TheVariants as reliability
use Rattle.sip_user.specs.declared.command.DialogBody.{DialogBody}
use Rattle.sip_user.specs.declared.command.ProvisionalSupport.{ProvisionalSupport}
use Rattle.sip_user.specs.declared.command.ProvisionalSupport.TheVariants as support
use Rattle.sip_user.specs.declared.command.UserCommand.{UserCommand}
use Rattle.sip_user.specs.declared.command.UserCommand.TheVariants as command
use Rattle.sip_round.specs.declared.round.Event.TheVariants.{Datagram, Failed, Command}
use Rattle.sip_files.specs.declared.version.Version.{Version}
use Rattle.sip_files.specs.declared.version.Version.TheVariants.{One, Two, SessionOne}
use Rattle.sip_files.specs.declared.given_header.GivenHeader.{GivenHeader}
use Rattle.sip_files.specs.declared.event_line.EventLine.{EventLine}
use Rattle.sip_files.specs.declared.event_line.EventLine.TheVariants as line
use Rattle.sip_files.specs.declared.fields.Dialog.{Dialog}
use Rattle.sip_files.specs.declared.fields.Uris.{Uris}
use Rattle.sip_files.specs.Word.{hex_pair, spelled_word, spelled_rest}
use Rattle.sip_files.specs.Field.{plain_field, number_field, address_field, rest_field}
use Rattle.sip_files.specs.Events.{IsMethod, IsCommandLine, reliability_text, support_text, command_text, SpellsClient, SpellsServer, SpellsHeaderIn, SpellsLine}
use Rattle.sip_files.proofs.CommandLines.{invite_fields, plain_fields, request_fields, body_fields, respond_fields, cancel_fields, invite_text, plain_text, request_text, respond_text, ack_text, prack_text, cancel_text, abandon_fields, abandon_text}
use Rattle.sip_files.proofs.FailedLines.{client_fields, client_text, server_fields, server_text}
use Rattle.sip_files.proofs.Shown.{word_no, rest_no, pairs_no}
use Rattle.sip_files.proofs.NumberLaws.{address_no, id_no}
use Rattle.sip_files.proofs.FieldLaws.{no_method, tag_text, uris_text, dialog_text}

fields_no : (at : ℕ) (xs ys : List ℕ) → has_no at xs ≡ true → has_no at ys ≡ true
    → has_no at (xs ++ ys) ≡ true
fields_no at xs ys p q = has_no-append at xs ys p q

space : has_no 10 (codes " ") ≡ true
space = refl

record NoEnd (text : List ℕ) : Type 0 where
  none : has_no 10 text ≡ true

-- a field behind other fields
behind : {x y : List ℕ} → NoEnd x → NoEnd y → NoEnd (x ++ 32 ∷ y)
behind {x} {y} p q = record { none = fields_no 10 x (32 ∷ y) p.none q.none }

no_word : (text : List ℕ) → NoEnd (spelled_word text)
no_word text = record { none = word_no 10 text (omega arith) refl }

no_uris : (uris : Uris) → NoEnd (uris_text uris)
no_uris uris = behind (behind (no_word uris.request_uri) (no_word uris.from)) (no_word uris.to)

no_dialog : (dialog : Dialog) → NoEnd (dialog_text dialog)
no_dialog dialog = behind (behind (no_word dialog.call_id) (no_word (tag_text dialog.local_tag)))
    (no_word (tag_text dialog.remote_tag))

no_support : (x : ProvisionalSupport) → NoEnd (support_text x)
no_support support.None = record { none = refl }
no_support support.Supported = record { none = refl }
no_support support.Required = record { none = refl }

no_reliability : (x : Reliability) → NoEnd (reliability_text x)
no_reliability reliability.Plain = record { none = refl }
no_reliability reliability.Reliable = record { none = refl }

no_body : (c : DialogBody) → NoEnd (body_fields c)
no_body c = behind (no_dialog (record
    { call_id = c.call_id; local_tag = c.local_tag; remote_tag = c.remote_tag }))
    (no_word c.content.body)

-- a keyword, and the fields behind it
line_none : (text k fields : List ℕ) → text ≡ k ++ 32 ∷ fields → has_no 10 k ≡ true → NoEnd fields
    → has_no 10 text ≡ true
line_none text k fields is none rest =
    ap (has_no 10) is ∙ fields_no 10 k (32 ∷ fields) none rest.none

no_address : (address : Addr) → IsAddr address → NoEnd (addr_text address)
no_address address fits = record { none = address_no 10 address refl refl refl fits }

no_method_end : (text : List ℕ) → IsMethod text → NoEnd text
no_method_end text fits = record { none = no_method 10 text (unfold is_token_byte in refl) fits }

command_no : (version : Version) (c : UserCommand) → IsCommandLine version c
    → has_no 10 (command_text c) ≡ true
command_no version (command.Invite c) fits =
    line_none _ (codes "invite") (invite_fields c) (invite_text c) refl
    (behind (behind (behind (behind (no_word c.call_id) (no_address c.address fits.address))
    (no_uris (record { request_uri = c.request_uri; from = c.from; to = c.to })))
    (no_support c.support)) (no_word c.content.body))
command_no version (command.Plain c) fits =
    line_none _ (codes "plain") (plain_fields c) (plain_text c) refl
    (behind (behind (behind (behind (no_word c.call_id) (no_address c.address fits.address))
    (no_method_end c.method fits.method))
    (no_uris (record { request_uri = c.request_uri; from = c.from; to = c.to })))
    (no_word c.content.body))
command_no version (command.Request c) fits =
    line_none _ (codes "request") (request_fields c) (request_text c) refl
    (behind (behind (no_dialog (record
    { call_id = c.call_id; local_tag = c.local_tag; remote_tag = c.remote_tag }))
    (no_method_end c.method fits.method)) (no_word c.content.body))
command_no version (command.Respond c) fits =
    line_none _ (codes "respond") (respond_fields c) (respond_text c) refl
    (behind (behind (behind (behind
    (behind (no_word c.call_id) (record { none = id_no 10 c.id refl refl fits.id }))
    (record { none = number_has_no 10 c.status refl (omega (arith, fits.status)) }))
    (no_reliability c.reliability)) (no_word c.content.body)) (record {
      none =
          rest_no 10 c.reason (omega arith) refl;
    }))
command_no version (command.Ack c) fits =
    line_none _ (codes "ack") (body_fields c) (ack_text c) refl (no_body c)
command_no version (command.Prack c) fits =
    line_none _ (codes "prack") (body_fields c) (prack_text c) refl (no_body c)
command_no version (command.Cancel c) fits =
    line_none _ (codes "cancel") (cancel_fields c) (cancel_text c) refl
    (behind (no_word c.call_id) (record { none = id_no 10 c.id refl refl fits.1.id }))
command_no version (command.AbandonRequest c) fits =
    line_none _ (codes "abandon") (abandon_fields (command.AbandonRequest c))
    (abandon_text (command.AbandonRequest c) fits.1) refl
    (behind (no_word c.call_id) (record { none = id_no 10 c.id refl refl fits.1.id }))
command_no version (command.AbandonDialog c) fits =
    line_none _ (codes "abandon") (abandon_fields (command.AbandonDialog c))
    (abandon_text (command.AbandonDialog c) fits.1) refl
    (no_dialog (record
    { call_id = c.call_id; local_tag = c.local_tag; remote_tag = c.remote_tag }))

no_number : (number : ℕ) → number ≤ 65535 → NoEnd (decimal number)
no_number number fits = record { none = number_has_no 10 number refl (omega (arith, fits)) }

client_no : (text : List ℕ) (key : Key) → SpellsClient text key → has_no 10 text ≡ true
client_no text key s =
    line_none text (codes "failed client") (client_fields (s.branch, s.method))
    (s.spelled ∙ client_text s.branch s.method) refl
    (behind (no_word s.branch) (no_method_end s.method s.token))

server_no : (text : List ℕ) (key : Key) → SpellsServer text key → has_no 10 text ≡ true
server_no text key s =
    line_none text (codes "failed server") (server_fields (((s.branch, s.host), s.port), s.method))
    (s.spelled ∙ server_text s.branch s.host s.port s.method) refl
    (behind (behind (behind (no_word s.branch) (no_word s.host)) (no_number s.port s.bound))
    (no_method_end s.method s.token))

header_no : (version : Version) (text : List ℕ) (header : GivenHeader)
    → SpellsHeaderIn version text header → has_no 10 text ≡ true
unfolding rest_field
header_no One text header s = elim s [ ]
header_no Two text header s = elim s [ ]
header_no SessionOne text header s =
    ap (has_no 10) s.spelled
    ∙ fields_no 10 (codes " ") (spelled_rest s.header_line) space
    (rest_no 10 s.header_line (omega arith) refl)

pub line_no : (version : Version) (text : List ℕ) (item : EventLine) → SpellsLine version text item
    → has_no 10 text ≡ true
unfolding address_field plain_field number_field rest_field
line_no version text (line.Local address) s =
    ap (has_no 10) s.1 ∙ fields_no 10 (codes "local ") (addr_text address) refl
    (address_no 10 address refl refl refl s.0)
line_no version text (line.Seed seed) s =
    ap (has_no 10) s.1 ∙ fields_no 10 (codes "seed ") (flat_map hex_pair seed) refl
    (pairs_no 10 seed (omega arith))
line_no version text (line.First number) s =
    ap (has_no 10) s.1 ∙ fields_no 10 (codes "first ") (decimal number) refl
    (number_has_no 10 number refl (omega (arith, s.0)))
line_no version text (line.Round moment) s =
    ap (has_no 10) s.1 ∙ fields_no 10 (codes "round ") (decimal moment) refl
    (number_has_no 10 moment refl (omega (arith, s.0)))
line_no version text (line.Event (Datagram from bytes)) s =
    ap (has_no 10) s.1
    ∙ fields_no 10 (codes "datagram " ++ addr_text from) (codes " " ++ spelled_rest bytes)
    (fields_no 10 (codes "datagram ") (addr_text from) refl
    (address_no 10 from refl refl refl s.0.0))
    (fields_no 10 (codes " ") (spelled_rest bytes) space (rest_no 10 bytes (omega arith) refl))
line_no version text (line.Event (Failed key)) s =
    elim s [
      | inl client ↦ client_no text key client
      | inr server ↦ server_no text key server
    ]
line_no version text (line.Event (Command c)) s =
    ap (has_no 10) s.1 ∙ command_no version c s.0
line_no version text (line.Header header) s = header_no version text header s
