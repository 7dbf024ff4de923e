-- What the user puts into a message of his own (RFC 3261, section 7.4.1; section 20.10 for Contact,
-- 20.15 for Content-Type).
use Rattle.std.specs.Prelude.{ℕ, Bool, List, [], ◌∷◌, ◌++◌, Option, Some, None, codes, if◌then◌else◌}
use Rattle.std.specs.List.{list_any}
use Rattle.std.specs.Str.{str_eq_ignore_ascii_case}
use Rattle.sip_message.specs.declared.content.ContentHeaders.{ContentHeaders}
use Rattle.sip_message.specs.declared.header.Header.{Header}
use Rattle.sip_message.specs.declared.message.Message.{Message}
use Rattle.sip_message.specs.declared.name_addr.NameAddr.{NameAddr}

-- headers and a body; each list in order
pub record Content : Type 0 where
  pub contacts : List NameAddr
  pub supported : List (List ℕ)
  pub require : List (List ℕ)
  pub others : List Header
  pub body : List ℕ

-- these headers, and this body
abbrev pub content_with : ContentHeaders → List ℕ → Content
content_with headers body = record {
  contacts = headers.contacts;
  supported = headers.supported;
  require = headers.require;
  others = headers.others;
  body = body;
}

abbrev pub no_headers : ContentHeaders
no_headers = record { contacts = []; supported = []; require = []; others = [] }

-- no header, and this body
abbrev pub content_of_body : List ℕ → Content
content_of_body body = content_with no_headers body

-- a content without headers keeps no list
abbrev pub content_of : Option ContentHeaders → List ℕ → Content
content_of None body = content_of_body body
content_of (Some headers) body = content_with headers body

-- `Content-Type: application/sdp`
abbrev pub content_type : Header
content_type = record { name = codes "Content-Type"; value = codes "application/sdp" }

-- the header is a Content-Type, in any case of the letters; it has no compact name here
abbrev pub is_content_type : Header → Bool
is_content_type header = str_eq_ignore_ascii_case header.name (codes "Content-Type")

-- the headers of a body; if none of them says its type, it is SDP
abbrev pub with_type_of : List ℕ → List Header → List Header
with_type_of [] headers = headers
with_type_of (byte ∷ bytes) headers =
    if list_any is_content_type headers then headers else headers ++ content_type ∷ []

-- the contacts of the content, or the agent's own if it has none
abbrev pub contacts_of_content : List NameAddr → List NameAddr → List NameAddr
contacts_of_content own [] = own
contacts_of_content own (contact ∷ contacts) = contact ∷ contacts

-- the message with the content: its headers after the agent's own, and its body
unfoldable pub with_content_of : Message → Content → Message
with_content_of message content = record message {
  contacts = contacts_of_content message.contacts content.contacts;
  require = message.require ++ content.require;
  supported = message.supported ++ content.supported;
  others = message.others ++ with_type_of content.body content.others;
  body = content.body;
}
