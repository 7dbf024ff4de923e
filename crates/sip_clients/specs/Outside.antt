-- The requests that are sent outside of dialogs (RFC 3261, sections 8.1.1 and 13.2.1; RFC 3262,
-- section 4).
use Rattle.std.specs.Prelude.{ℕ, List, [], ◌∷◌, Some, None, codes}
use Rattle.sip_dialog.specs.Request.{contact_of, agent_via}
use Rattle.sip_message.specs.declared.addr.Addr.{Addr}
use Rattle.sip_message.specs.declared.cseq.CSeq.{CSeq}
use Rattle.sip_message.specs.declared.message.Message.{Message}
use Rattle.sip_message.specs.declared.message.TheConstants.{MAX_FORWARDS}
use Rattle.sip_message.specs.declared.name_addr.NameAddr.{NameAddr}
use Rattle.sip_message.specs.declared.start_line.StartLine.TheVariants.{Request}
use Rattle.sip_message.specs.Content.{with_content_of}
use Rattle.sip_message.specs.Message.{bare}
use Rattle.sip_message.specs.Party.{party_of}
use Rattle.sip_user.specs.declared.command.Invite.{Invite}
use Rattle.sip_user.specs.declared.command.Plain.{Plain}
use Rattle.sip_user.specs.declared.command.ProvisionalSupport.{ProvisionalSupport}
use Rattle.sip_user.specs.declared.command.ProvisionalSupport.TheVariants as support
use Rattle.sip_clients.specs.declared.event.Event.{Event}
use Rattle.sip_clients.specs.declared.outside.TheConstants.{FIRST_CSEQ}
use Rattle.sip_clients.specs.Event.{branch_of}
use Rattle.sip_clients.specs.Name.{opening_tag}

-- the request of this method, without its routes and its content
unfoldable pub bare_request : Event → List ℕ → List ℕ → List ℕ → List ℕ → List ℕ → Message
bare_request event call_id method uri from to =
    let via = agent_via event.local (branch_of event) in
    let from = party_of from (Some (opening_tag event.seed event.id)) in
    let cseq : CSeq = record { number = FIRST_CSEQ; method = method } in
    record (bare (Request uri) (via ∷ []) from (party_of to None) call_id cseq) {
      max_forwards = Some MAX_FORWARDS;
    }

-- a request with this agent's address as Contact
abbrev pub with_contact : Addr → Message → Message
with_contact local message = record message { contacts = contact_of local ∷ [] }

-- `100rel` in Supported or in Require, as asked
abbrev pub supporting : ProvisionalSupport → Message → Message
supporting support.None message = message
supporting support.Supported message = record message { supported = codes "100rel" ∷ [] }
supporting support.Required message = record message { require = codes "100rel" ∷ [] }

-- a request with preloaded routes (RFC 3261, section 8.1.2)
abbrev pub through : List NameAddr → Message → Message
through routes message = record message { routes = routes }

-- the INVITE that the user asks for, without routes and content
abbrev pub bare_invite : Event → Invite → Message
bare_invite event invite =
    supporting invite.support (with_contact event.local
    (bare_request event invite.call_id
    (codes "INVITE") invite.request_uri invite.from invite.to))

-- with its routes and its content
abbrev pub invite_of : Event → Invite → Message
invite_of event invite =
    with_content_of (through invite.routes (bare_invite event invite)) invite.content

-- the request of another method that the user asks for, without routes and content
abbrev pub bare_plain : Event → Plain → Message
bare_plain event plain =
    bare_request event plain.call_id plain.method plain.request_uri plain.from plain.to

-- with its routes and its content
abbrev pub plain_of : Event → Plain → Message
plain_of event plain =
    with_content_of (through plain.routes (bare_plain event plain)) plain.content
