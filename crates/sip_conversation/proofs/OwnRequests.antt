-- Each request that the client side of a call makes keeps the rules of messages.
use Rattle.std.proofs.Common.{ℕ, ◌<◌, ◌^◌, List, [], ◌∷◌, ◌++◌, refl, codes, arith}
use Rattle.std.specs.Prelude.{IsTrue, IfSome, Option, None, Some}
use Rattle.std.specs.List.{AllByRecursion, list_any}
use Rattle.std.proofs.lemmas.Bool.{and_from}
use Rattle.sip_text.specs.Token.{is_token, is_token_byte}
use Rattle.sip_text.specs.Quoted.{is_quoted}
use Rattle.sip_grammar.specs.DisplayText.{is_display_text}
use Rattle.sip_grammar.specs.HeaderEntry.{is_named}
use Rattle.sip_grammar.specs.HeaderValue.{is_header_value}
use Rattle.sip_grammar.specs.OtherName.{is_compact_name, is_other_name}
use Rattle.sip_grammar.specs.PartyDisplay.{is_party_display}
use Rattle.sip_grammar.specs.Tag.{has_good_tag}
use Rattle.sip_grammar.specs.Uri.{is_uri}
use Rattle.sip_grammar.specs.Word.{is_word}
use Rattle.sip_grammar.proofs.Bytes.{token_is_value, uri_is_word}
use Rattle.sip_message.specs.Addr.{IsAddr}
use Rattle.sip_message.specs.Content.{Content, contacts_of_content, content_of_body, content_type, is_content_type, with_content_of, with_type_of}
use Rattle.sip_message.specs.HopByHop.{cancel_of}
use Rattle.sip_message.specs.Party.{party_of}
use Rattle.sip_message.specs.Rules.{IsMessage, IsNameAddr, IsOtherHeader, IsParty, IsRAck, IsVia}
use Rattle.sip_message.specs.Via.{has_cookie}
use Rattle.sip_message.specs.declared.addr.Addr.{Addr}
use Rattle.sip_message.specs.declared.header.Header.{Header}
use Rattle.sip_message.specs.declared.message.Message.{Message}
use Rattle.sip_message.specs.declared.name_addr.NameAddr.{NameAddr}
use Rattle.sip_message.specs.declared.rack.RAck.{RAck}
use Rattle.sip_dialog.specs.Branch.{is_branch}
use Rattle.sip_dialog.specs.Request.{agent_via, bare_request_in, contact_of, contacts_of, is_invite_method, request_in}
use Rattle.sip_dialog.proofs.Requests.{ip_is_host, own_are_vias, own_uri}
use Rattle.sip_held_dialogs.proofs.Each.{both}
use Rattle.sip_user.specs.declared.command.ProvisionalSupport.{ProvisionalSupport}
use Rattle.sip_user.specs.declared.command.ProvisionalSupport.TheVariants as support
use Rattle.sip_served.proofs.Names.{option_100rel}
use Rattle.sip_clients.specs.Event.{branch_of}
use Rattle.sip_clients.specs.Name.{name_of, opening_tag}
use Rattle.sip_clients.specs.Rules.Requests.{request_outside, with_100rel}
use Rattle.sip_clients.specs.declared.event.Event.{Event}
use Rattle.sip_clients.proofs.Hex.{branch_has_cookie, branch_is_token, name_is_token}
use Rattle.sip_user.specs.declared.command.Invite.{Invite}
use Rattle.sip_user.specs.declared.command.Plain.{Plain}
use Rattle.sip_dialog.specs.declared.dialog.Dialog.{Dialog}
use Rattle.sip_conversation.specs.Commands.{IsContent, IsInvite, IsPlain}
use Rattle.sip_conversation.proofs.Addresses.{octet}
use Rattle.sip_conversation.proofs.Branches.{either}
use Rattle.sip_conversation.proofs.Rules.{ack_keeps}

abbrev pub IsTokenText : List ℕ → Type 0
IsTokenText text = IsTrue (is_token text)

-- ---- constant texts

udp_token : IsTokenText (codes "UDP")
unfolding is_token is_token_byte
udp_token = refl

rport_token : IsTokenText (codes "rport")
unfolding is_token is_token_byte
rport_token = refl

branch_token : IsTokenText (codes "branch")
unfolding is_token is_token_byte
branch_token = refl

pub tag_token : IsTokenText (codes "tag")
unfolding is_token is_token_byte
tag_token = refl

pub invite_token : IsTokenText (codes "INVITE")
unfolding is_token is_token_byte
invite_token = refl

pub ack_token : IsTokenText (codes "ACK")
unfolding is_token is_token_byte
ack_token = refl

pub prack_token : IsTokenText (codes "PRACK")
unfolding is_token is_token_byte
prack_token = refl

cancel_token : IsTokenText (codes "CANCEL")
unfolding is_token is_token_byte
cancel_token = refl

no_display : IsTrue (is_display_text [])
unfolding is_display_text is_quoted
no_display = refl

no_party_display : IsTrue (is_party_display [])
unfolding is_party_display is_quoted
no_party_display = refl

sdp_keeps : IsOtherHeader content_type
unfolding is_other_name is_compact_name is_named is_token is_token_byte is_header_value
sdp_keeps = record { name = refl; value = refl }

-- ---- an end of a dialog

-- the URI of a From or a To, and its tag
pub record IsEnd (uri : List ℕ) (tag : Option (List ℕ)) : Type 0 where
  pub uri_is : IsTrue (is_uri uri)
  pub tag_is : IfSome tag IsTokenText

pub party_keeps : (uri : List ℕ) (tag : Option (List ℕ)) → IsEnd uri tag
    → IsParty (party_of uri tag)
unfolding has_good_tag
party_keeps uri None its =
    record { display = no_party_display; uri = its.uri_is; parameters = tt; tag = refl }
party_keeps uri (Some tag) its = record {
  display = no_party_display;
  uri = its.uri_is;
  parameters = (record { name = tag_token; value = token_is_value tag its.tag_is }, tt);
  tag = its.tag_is;
}

-- ---- the headers with the address of the agent

made_token : (event : Event) → IsTokenText (branch_of event)
unfolding branch_of
made_token event = branch_is_token event.seed event.id 0

made_cookie : (event : Event) → IsTrue (has_cookie (branch_of event))
unfolding branch_of
made_cookie event = branch_has_cookie (name_of event.seed event.id 0)

pub made_branch : (event : Event) → IsTrue (is_branch (branch_of event))
made_branch event = and_from _ _ (made_token event) (made_cookie event)

module _ (local : Addr) (address : IsAddr local) where
  via_keeps : (branch : List ℕ) → IsTokenText branch → IsVia (agent_via local branch)
  via_keeps branch token =
      let number : (k : ℕ) → _ = octet local.ip (address.0).1 in
      record {
        transport = udp_token;
        host = ip_is_host local.ip (number 0) (number 1) (number 2) (number 3);
        port = address.1;
        parameters = (
          record { name = rport_token; value = tt },
          (record { name = branch_token; value = token_is_value branch token }, tt),
        );
      }

  pub contact_keeps : IsNameAddr (contact_of local)
  contact_keeps =
      let number : (k : ℕ) → _ = octet local.ip (address.0).1 in
      record {
        display = no_display;
        uri = own_uri local.ip local.port (number 0) (number 1) (number 2) (number 3) address.1;
        parameters = tt;
      }

-- ---- a message with other headers, and another body

-- the headers that differ among requests keep their rules
record HasParts (contacts : List NameAddr) (require supported : List (List ℕ))
    (rack : Option RAck) (others : List Header) : Type 0 where
  pub contacts_are : AllByRecursion IsNameAddr contacts
  pub require_are : AllByRecursion IsTokenText require
  pub supported_are : AllByRecursion IsTokenText supported
  pub rack_is : IfSome rack IsRAck
  pub others_are : AllByRecursion IsOtherHeader others

with_parts : (message : Message) (contacts : List NameAddr) (require supported : List (List ℕ))
    (rack : Option RAck) (others : List Header) (body : List ℕ) → IsMessage message
    → HasParts contacts require supported rack others → IsMessage (record message {
      contacts = contacts;
      require = require;
      supported = supported;
      rack = rack;
      others = others;
      body = body;
    })
with_parts message contacts require supported rack others body rules its = record {
  start = rules.start;
  top = rules.top;
  vias = rules.vias;
  max_forwards = rules.max_forwards;
  from = rules.from;
  to = rules.to;
  call_id = rules.call_id;
  number = rules.number;
  method = rules.method;
  contacts = its.contacts_are;
  record_routes = rules.record_routes;
  routes = rules.routes;
  require = its.require_are;
  supported = its.supported_are;
  rseq = rules.rseq;
  rack = its.rack_is;
  others = its.others_are;
}

pub with_rack : (message : Message) (rack : Option RAck) → IfSome rack IsRAck → IsMessage message
    → IsMessage (record message { rack = rack })
with_rack message rack its rules =
    with_parts message message.contacts message.require message.supported rack message.others
    message.body rules record {
      contacts_are = rules.contacts;
      require_are = rules.require;
      supported_are = rules.supported;
      rack_is = its;
      others_are = rules.others;
    }

with_contacts : (message : Message) (contacts : List NameAddr)
    → AllByRecursion IsNameAddr contacts → IsMessage message
    → IsMessage (record message { contacts = contacts })
with_contacts message contacts all rules =
    with_parts message contacts message.require message.supported message.rack message.others
    message.body rules record {
      contacts_are = all;
      require_are = rules.require;
      supported_are = rules.supported;
      rack_is = rules.rack;
      others_are = rules.others;
    }

support_keeps : (asked_for : ProvisionalSupport) (message : Message) → IsMessage message
    → IsMessage (with_100rel asked_for message)
support_keeps support.None message rules = rules
support_keeps support.Supported message rules =
    with_parts message message.contacts message.require (codes "100rel" ∷ []) message.rack
    message.others message.body rules record {
      contacts_are = rules.contacts;
      require_are = rules.require;
      supported_are = (option_100rel, tt);
      rack_is = rules.rack;
      others_are = rules.others;
    }
support_keeps support.Required message rules =
    with_parts message message.contacts (codes "100rel" ∷ []) message.supported message.rack
    message.others message.body rules record {
      contacts_are = rules.contacts;
      require_are = (option_100rel, tt);
      supported_are = rules.supported;
      rack_is = rules.rack;
      others_are = rules.others;
    }

-- ---- what the user puts into a message

pub contacts_keep : (own contacts : List NameAddr) → AllByRecursion IsNameAddr own
    → AllByRecursion IsNameAddr contacts
    → AllByRecursion IsNameAddr (contacts_of_content own contacts)
contacts_keep own [] its all = its
contacts_keep own (contact ∷ contacts) its all = all

typed_keep : (body : List ℕ) (headers : List Header) → AllByRecursion IsOtherHeader headers
    → AllByRecursion IsOtherHeader (with_type_of body headers)
typed_keep [] headers all = all
typed_keep (byte ∷ bytes) headers all =
    either (AllByRecursion IsOtherHeader) (list_any is_content_type headers) headers _
    (λ typed. all) (λ none. both IsOtherHeader headers (content_type ∷ []) all (sdp_keeps, tt))

pub empty_keeps : IsContent (content_of_body [])
empty_keeps = record { contacts = tt; require = tt; supported = tt; others = tt }

pub content_keeps : (message : Message) (content : Content) → IsMessage message
    → IsContent content → IsMessage (with_content_of message content)
unfolding with_content_of
content_keeps message content rules its =
    with_parts message (contacts_of_content message.contacts content.contacts)
    (message.require ++ content.require) (message.supported ++ content.supported) message.rack
    (message.others ++ with_type_of content.body content.others) content.body rules record {
      contacts_are = contacts_keep message.contacts content.contacts rules.contacts its.contacts;
      require_are = both IsTokenText message.require content.require rules.require its.require;
      supported_are = both IsTokenText message.supported content.supported rules.supported
          its.supported;
      rack_is = rules.rack;
      others_are = both IsOtherHeader message.others (with_type_of content.body content.others)
          rules.others (typed_keep content.body content.others its.others);
    }

-- ---- outside of dialogs

module _ (event : Event) (address : IsAddr event.local) where
  pub outside_keeps : (call_id method uri from to : List ℕ) (routes : List NameAddr)
      → IsTrue (is_word call_id) → IsTokenText method → IsTrue (is_uri uri)
      → IsTrue (is_uri from) → IsTrue (is_uri to) → AllByRecursion IsNameAddr routes
      → IsMessage (request_outside event call_id method uri from to routes)
  outside_keeps call_id method uri from to routes word token uri_is from_is to_is routes_are =
      record {
        start = uri_is_word uri uri_is;
        top = own_are_vias event.local (branch_of event) (made_branch event);
        vias = (via_keeps event.local address (branch_of event) (made_token event), tt);
        max_forwards = omega arith;
        from = party_keeps from (Some (opening_tag event.seed event.id))
            (record { uri_is = from_is; tag_is = name_is_token event.seed event.id 1 });
        to = party_keeps to None (record { uri_is = to_is; tag_is = tt });
        call_id = word;
        number = omega arith;
        method = token;
        contacts = tt;
        record_routes = tt;
        routes = routes_are;
        require = tt;
        supported = tt;
        rseq = tt;
        rack = tt;
        others = tt;
      }

-- the INVITE that begins a call
pub invite_keeps : (event : Event) (invite : Invite) → IsAddr event.local → IsInvite invite
    → IsMessage (with_content_of (with_100rel invite.support
    (record (request_outside event invite.call_id (codes "INVITE") invite.request_uri invite.from
    invite.to invite.routes) { contacts = contact_of event.local ∷ [] })) invite.content)
invite_keeps event invite address its =
    content_keeps _ invite.content (support_keeps invite.support _ (with_contacts _ _
    (contact_keeps event.local address, tt)
    (outside_keeps event address invite.call_id (codes "INVITE") invite.request_uri invite.from
    invite.to invite.routes its.call_id invite_token its.request_uri its.from its.to its.routes)))
    its.content

-- another request
pub plain_keeps : (event : Event) (plain : Plain) → IsAddr event.local → IsPlain plain
    → IsMessage (with_content_of (request_outside event plain.call_id plain.method
    plain.request_uri plain.from plain.to plain.routes) plain.content)
plain_keeps event plain address its =
    content_keeps _ plain.content
    (outside_keeps event address plain.call_id plain.method plain.request_uri plain.from plain.to
    plain.routes its.call_id its.method its.request_uri its.from its.to its.routes) its.content

-- ---- CANCEL

-- it differs from an ACK of the INVITE only in its method
pub cancel_keeps : (invite : Message) → IsMessage invite → IsMessage (cancel_of invite)
cancel_keeps invite rules =
    let ack = ack_keeps invite invite rules rules in
    record {
      start = ack.start;
      top = ack.top;
      vias = ack.vias;
      max_forwards = ack.max_forwards;
      from = ack.from;
      to = ack.to;
      call_id = ack.call_id;
      number = ack.number;
      method = cancel_token;
      contacts = ack.contacts;
      record_routes = ack.record_routes;
      routes = ack.routes;
      require = ack.require;
      supported = ack.supported;
      rseq = ack.rseq;
      rack = ack.rack;
      others = ack.others;
    }

-- ---- in a dialog

-- the parts of a dialog that its requests have keep their rules
pub record IsSoundDialog (dialog : Dialog) : Type 0 where
  pub call_id : IsTrue (is_word dialog.call_id)
  pub local : IsEnd dialog.local.uri dialog.local.tag
  pub remote : IsEnd dialog.remote.uri dialog.remote.tag
  pub target : IsTrue (is_word dialog.target)
  pub route_set : AllByRecursion IsNameAddr dialog.route_set
  pub number : dialog.local_cseq < 2 ^ 32

module _ (event : Event) (address : IsAddr event.local) (dialog : Dialog)
    (sound : IsSoundDialog dialog) where
  own_contacts : (method : List ℕ) → AllByRecursion IsNameAddr (contacts_of method event.local)
  unfolding contacts_of
  own_contacts method =
      either (AllByRecursion IsNameAddr) (is_invite_method method)
      (contact_of event.local ∷ []) [] (λ invite. (contact_keeps event.local address, tt))
      (λ other. tt)

  pub in_dialog_keeps : (method : List ℕ) (number : ℕ) (content : Content) → IsTokenText method
      → number < 2 ^ 32 → IsContent content
      → IsMessage (request_in dialog method number content (branch_of event) event.local)
  in_dialog_keeps method number content token fits its =
      content_keeps (bare_request_in dialog method number (branch_of event) event.local) content
      (record {
        start = sound.target;
        top = own_are_vias event.local (branch_of event) (made_branch event);
        vias = (via_keeps event.local address (branch_of event) (made_token event), tt);
        max_forwards = omega arith;
        from = party_keeps dialog.local.uri dialog.local.tag sound.local;
        to = party_keeps dialog.remote.uri dialog.remote.tag sound.remote;
        call_id = sound.call_id;
        number = fits;
        method = token;
        contacts = own_contacts method;
        record_routes = tt;
        routes = sound.route_set;
        require = tt;
        supported = tt;
        rseq = tt;
        rack = tt;
        others = tt;
      }) its
