-- The law `each_request_has_its_branch`: a made request has the branch of its event, a CANCEL the
-- Via of its INVITE.
use Rattle.std.proofs.Common.{◌≡◌, ℕ, ◌+◌, List, [], ◌∷◌, refl, sym, ◌∙◌}
use Rattle.std.specs.Prelude.{Some, codes, take}
use Rattle.sip_dialog.specs.Request.{agent_via, bare_request_in}
use Rattle.sip_message.specs.declared.message.Message.{Message}
use Rattle.sip_message.specs.declared.via.Via.{Via}
use Rattle.sip_message.specs.Content.{Content, with_content_of}
use Rattle.sip_message.specs.TopVia.{top_via}
use Rattle.sip_user.specs.declared.command.ProvisionalSupport.{ProvisionalSupport}
use Rattle.sip_user.specs.declared.command.ProvisionalSupport.TheVariants as support
use Rattle.sip_clients.specs.declared.event.Event.{Event}
use Rattle.sip_clients.specs.Event.{branch_of}
use Rattle.sip_clients.specs.Outside.{bare_invite, bare_plain, bare_request, supporting, through}
use Rattle.sip_clients.proofs.laws.each_request_has_its_branch.Goals as goal

with_content : (message : Message) (content : Content)
    → top_via (with_content_of message content) ≡ top_via message
unfolding with_content_of
with_content message content = refl

supports : (asked_for : ProvisionalSupport) (message : Message)
    → top_via (supporting asked_for message) ≡ top_via message
supports support.None message = refl
supports support.Supported message = refl
supports support.Required message = refl

bare : (event : Event) (call_id method uri from to : List ℕ)
    → top_via (bare_request event call_id method uri from to)
    ≡ Some (agent_via event.local (branch_of event))
unfolding bare_request
bare event call_id method uri from to = refl

top_alone : (request : Message) (vias : List Via)
    → top_via (record request { vias = vias })
    ≡ top_via (record request { vias = take 1 vias })
top_alone request [] = refl
top_alone request (via ∷ vias) = refl

pub returns-clause-invite : goal.returns-clause-invite
returns-clause-invite c event invite =
    with_content (through invite.routes (bare_invite event invite)) invite.content
    ∙ supports invite.support _
    ∙ bare event invite.call_id (codes "INVITE") invite.request_uri invite.from invite.to

pub returns-clause-plain : goal.returns-clause-plain
returns-clause-plain c event plain =
    with_content (through plain.routes (bare_plain event plain)) plain.content
    ∙ bare event plain.call_id plain.method plain.request_uri plain.from plain.to

pub returns-clause-request : goal.returns-clause-request
returns-clause-request c event method rack content held =
    with_content (bare_request_in held.dialog method (held.dialog.local_cseq + 1) (branch_of event)
    event.local) content

pub returns-clause-cancel : goal.returns-clause-cancel
returns-clause-cancel c id invite = sym (top_alone invite.request invite.request.vias)
