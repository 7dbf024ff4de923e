-- The requests that the agent makes in a dialog (RFC 3261, sections 8.1.1 and 12.2.1.1).
use Rattle.std.specs.Prelude.{ℕ, Bool, List, [], ◌∷◌, ◌++◌, Some, None, codes, if◌then◌else◌}
use Rattle.std.specs.Str.{bytes_eq}
use Rattle.sip_grammar.specs.declared.parameter.Parameter.{Parameter}
use Rattle.sip_message.specs.declared.addr.Addr.{Addr}
use Rattle.sip_message.specs.declared.cseq.CSeq.{CSeq}
use Rattle.sip_message.specs.declared.message.Message.{Message}
use Rattle.sip_message.specs.declared.message.TheConstants.{MAX_FORWARDS}
use Rattle.sip_message.specs.declared.name_addr.NameAddr.{NameAddr}
use Rattle.sip_message.specs.declared.start_line.StartLine.TheVariants.{Request}
use Rattle.sip_message.specs.declared.via.Via.{Via}
use Rattle.sip_message.specs.Addr.{addr_text}
use Rattle.sip_message.specs.Content.{Content, with_content_of}
use Rattle.sip_message.specs.Ip.{ip_text}
use Rattle.sip_message.specs.Message.{bare}
use Rattle.sip_message.specs.Party.{party_of}
use Rattle.sip_dialog.specs.declared.dialog.Dialog.{Dialog}

-- `;rport;branch=..`
abbrev pub via_parameters : List ℕ → List Parameter
via_parameters branch =
    (record { name = codes "rport"; value = None })
    ∷ (record { name = codes "branch"; value = Some branch }) ∷ []

-- `SIP/2.0/UDP local;rport;branch=..`
abbrev pub agent_via : Addr → List ℕ → Via
agent_via local branch = record {
  transport = codes "UDP";
  host = ip_text local.ip;
  port = Some local.port;
  parameters = via_parameters branch;
}

-- `<sip:local>`
abbrev pub contact_of : Addr → NameAddr
contact_of local = record { display = []; uri = codes "sip:" ++ addr_text local; parameters = [] }

-- the method is INVITE
abbrev pub is_invite_method : List ℕ → Bool
is_invite_method method = bytes_eq method (codes "INVITE")

-- an INVITE has a Contact with the agent's address; other requests have none
unfoldable pub contacts_of : List ℕ → Addr → List NameAddr
contacts_of method local = if is_invite_method method then contact_of local ∷ [] else []

-- the request with this method and number, without its content
abbrev pub bare_request_in : Dialog → List ℕ → ℕ → List ℕ → Addr → Message
bare_request_in dialog method number branch local =
    let from = party_of dialog.local.uri dialog.local.tag in
    let to = party_of dialog.remote.uri dialog.remote.tag in
    let cseq : CSeq = record { number = number; method = method } in
    record (bare (Request dialog.target) (agent_via local branch ∷ []) from to dialog.call_id
    cseq) {
      max_forwards = Some MAX_FORWARDS;
      contacts = contacts_of method local;
      routes = dialog.route_set;
    }

-- the same with this content
abbrev pub request_in : Dialog → List ℕ → ℕ → Content → List ℕ → Addr → Message
request_in dialog method number content branch local =
    with_content_of (bare_request_in dialog method number branch local) content

-- the ACK of the INVITE with this number
abbrev pub ack_in : Dialog → ℕ → Content → List ℕ → Addr → Message
ack_in dialog number content branch local =
    request_in dialog (codes "ACK") number content branch local
