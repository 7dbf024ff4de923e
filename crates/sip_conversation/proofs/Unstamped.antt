-- A response comes exactly as it was said.
use Rattle.std.proofs.Common.{◌≡◌, ℕ, Bool, true, refl, sym, ap, ◌∙◌}
use Rattle.std.specs.Prelude.{Some, if◌then◌else◌}
use Rattle.std.proofs.lemmas.Bool.{false≢true}
use Rattle.sip_message.specs.declared.addr.Addr.{Addr}
use Rattle.sip_message.specs.declared.message.Message.{Message}
use Rattle.sip_message.specs.declared.start_line.StartLine.{StartLine}
use Rattle.sip_message.specs.declared.start_line.StartLine.TheVariants as start
use Rattle.sip_message.specs.Message.{is_request_line, is_request_message}
use Rattle.sip_message.specs.Source.{stamped}
use Rattle.keyed_machine.proofs.Ordered.{by_bool}
use Rattle.sip_clients.specs.Clients.{status_of}
use Rattle.sip_conversation.specs.Messages.{come_from}

pub no_status : (line : StartLine) (status : ℕ) → is_request_line line ≡ true
    → status_of line ≡ Some status → ⊥
no_status (start.Request uri) status request is = absurd cc
no_status (start.Response code reason) status request is = false≢true request

stamped_start : (message : Message) (source : Addr) → (stamped message source).start ≡ message.start
unfolding stamped
stamped_start message source = refl

pub same_response : (source : Addr) (response original : Message) (status : ℕ)
    → response ≡ come_from source original → status_of response.start ≡ Some status
    → response ≡ original
same_response source response original status same is =
    let come : Bool → Message = λ b. if b then stamped original source else original in
    by_bool (is_request_message original)
    (λ request. absurd (no_status original.start status request
    (ap status_of (sym (stamped_start original source))
    ∙ ap (λ m. status_of m.start) (sym (same ∙ ap come request)) ∙ is)))
    (λ other. same ∙ ap come other)
