-- What a request says (RFC 3261, sections 7.3.1, 8.1.1 and 12; RFC 3262, section 3). Tags and
-- options are compared without case, methods byte by byte.
use Rattle.std.specs.Prelude.{ℕ, Bool, not, ◌&&◌, ◌||◌, ◌==◌, nat_lt, nat_le, List, length, codes, if◌then◌else◌}
use Rattle.std.specs.List.{list_any}
use Rattle.std.specs.Str.{bytes_eq, str_eq_ignore_ascii_case, str_to_ascii_lowercase}
use Rattle.sip_message.specs.declared.message.Message.{Message}
use Rattle.sip_message.specs.Party.{tag_of}
use Rattle.sip_held_dialogs.specs.declared.held_dialog.DialogId.{DialogId}

-- the method, taken from CSeq; a message whose request line has another one isn't read
abbrev pub is_method : List ℕ → Message → Bool
is_method method request = bytes_eq request.cseq.method method

-- an INVITE
abbrev pub is_invite : Message → Bool
is_invite request = is_method (codes "INVITE") request

-- a BYE
abbrev pub is_bye : Message → Bool
is_bye request = is_method (codes "BYE") request

-- a CANCEL
abbrev pub is_cancel : Message → Bool
is_cancel request = is_method (codes "CANCEL") request

-- a PRACK
abbrev pub is_prack : Message → Bool
is_prack request = is_method (codes "PRACK") request

-- a request has a To tag: it was sent inside a dialog
abbrev pub has_to_tag : Message → Bool
has_to_tag request = not (length (tag_of request.to) == 0)

-- the option of reliable provisional responses
abbrev pub is_100rel : List ℕ → Bool
is_100rel option = str_eq_ignore_ascii_case option (codes "100rel")

-- Require has 100rel
abbrev pub requires_100rel : Message → Bool
requires_100rel request = list_any is_100rel request.require

-- Supported or Require has 100rel
abbrev pub supports_100rel : Message → Bool
supports_100rel request = list_any is_100rel request.supported || requires_100rel request

-- an option that the agent doesn't know
abbrev pub is_unknown_option : List ℕ → Bool
is_unknown_option option = not (is_100rel option)

-- the To tag of the answers to a request: its own, or else the made one (RFC 3261, section 8.2.6.2)
abbrev pub local_tag_of : Message → List ℕ → List ℕ
local_tag_of request made = if length (tag_of request.to) == 0 then made else tag_of request.to

-- the dialog ID of these tags, in lower case
abbrev pub dialog_id_of_tags : List ℕ → List ℕ → DialogId
dialog_id_of_tags local remote =
    record { local = str_to_ascii_lowercase local; remote = str_to_ascii_lowercase remote }

-- the ID of the dialog that a request is in, or that its response makes; the To tag is local
abbrev pub dialog_id_of : Message → List ℕ → DialogId
dialog_id_of request made = dialog_id_of_tags (local_tag_of request made) (tag_of request.from)

-- a status below 200: of a user's response 101 to 199, since 0 to 100 are refused before
abbrev pub is_provisional : ℕ → Bool
is_provisional status = nat_lt status 200

-- a 2xx
abbrev pub is_success : ℕ → Bool
is_success status = nat_le 200 status && nat_lt status 300

-- a final response: 200 or above
abbrev pub is_final : ℕ → Bool
is_final status = nat_le 200 status
