-- The outcome of a request to send in a dialog (RFC 3261, sections 12.2.1 and 13.2.2.4; RFC 3262,
-- section 4).
use Rattle.std.specs.Prelude.{ℕ, ◌+◌, List, [], ◌∷◌, Option, None, Some, codes}
use Rattle.sip_dialog.specs.declared.fault.DialogFault.{DialogFault}
use Rattle.sip_dialog.specs.declared.fault.DialogFault.TheVariants as fault
use Rattle.sip_dialog.specs.Fault.{ack_fault, request_fault}
use Rattle.sip_dialog.specs.Life.{Happening, Requests}
use Rattle.sip_dialog.specs.Request.{ack_in, request_in}
use Rattle.sip_dialog.specs.Route.{hop_of}
use Rattle.sip_message.specs.Content.{Content}
use Rattle.sip_message.specs.declared.message.Message.{Message}
use Rattle.sip_message.specs.declared.rack.RAck.{RAck}
use Rattle.sip_held_dialogs.specs.declared.pending_request.PendingRequest.{PendingRequest}
use Rattle.sip_held_dialogs.specs.declared.pending_request.PendingRequest.TheVariants.{Ack, Prack}
use Rattle.sip_held_dialogs.specs.declared.held_dialog.HeldDialog.{HeldDialog}
use Rattle.sip_held_dialogs.specs.Dialogs.{lived}
use Rattle.sip_user.specs.declared.refusal.Refusal.{Refusal}
use Rattle.sip_user.specs.declared.refusal.Refusal.TheVariants as refusal
use Rattle.sip_clients.specs.declared.event.Event.{Event}
use Rattle.sip_clients.specs.declared.send_outcome.OutgoingRequest.{OutgoingRequest}
use Rattle.sip_clients.specs.declared.send_outcome.SendOutcome.{SendOutcome}
use Rattle.sip_clients.specs.declared.send_outcome.SendOutcome.TheVariants.{Sent, Waits, Refused}
use Rattle.sip_clients.specs.Event.{branch_of}

-- a dialog after a request to send in it, and the outcome
abbrev pub Outcome : Type 0
Outcome = HeldDialog × SendOutcome

-- why a request isn't sent; a held dialog hasn't ended
abbrev pub refusal_for_fault : DialogFault → Refusal
refusal_for_fault fault.NotConfirmed = refusal.BadMethod
refusal_for_fault fault.StrictRoute = refusal.StrictRoute
refusal_for_fault fault.Ended = refusal.DialogEnded
refusal_for_fault fault.SequenceUsedUp = refusal.SequenceUsedUp
refusal_for_fault fault.OutOfOrder = refusal.SequenceUsedUp
refusal_for_fault fault.NoMemory = refusal.SequenceUsedUp

-- sent, or refused for the dialog's reason
abbrev pub outcome_by : Option DialogFault → OutgoingRequest → SendOutcome
outcome_by None sending = Sent sending
outcome_by (Some fault) sending = Refused (refusal_for_fault fault)

-- a message with this RAck
abbrev pub with_rack : Option RAck → Message → Message
with_rack rack message = record message { rack = rack }

-- a request of this method takes the next number, if it is sent
abbrev pub happens_by_sending : List ℕ → Option DialogFault → List Happening
happens_by_sending method None = Requests method ∷ []
happens_by_sending method (Some fault) = []

-- a request of this method as it goes out, with a RAck if it is a PRACK
abbrev pub sending_in : Event → List ℕ → Option RAck → Content → HeldDialog → OutgoingRequest
sending_in event method rack content held = record {
  message = with_rack rack (request_in held.dialog method (held.dialog.local_cseq + 1) content
      (branch_of event) event.local);
  to = hop_of held.dialog held.address;
  created_by = held.created_by;
}

-- a request is sent, or refused for the dialog's reason
abbrev pub requested : Event → List ℕ → Option RAck → Content → HeldDialog → Outcome
requested event method rack content held = (
  lived (happens_by_sending method (request_fault held.dialog method)) held,
  outcome_by (request_fault held.dialog method) (sending_in event method rack content held),
)

-- the PRACK of a response of this RSeq to the INVITE of this number
abbrev pub prack_requested : Event → ℕ → ℕ → Content → HeldDialog → Outcome
prack_requested event rseq number content held =
    requested event (codes "PRACK")
    (Some record { rseq = rseq; cseq = number; method = codes "INVITE" }) content held

-- the ACK of the INVITE of this number
abbrev pub acked : Event → HeldDialog → ℕ → Content → SendOutcome
acked event held number content = outcome_by (ack_fault held.dialog) record {
  message = ack_in held.dialog number content (branch_of event) event.local;
  to = hop_of held.dialog held.address;
  created_by = held.created_by;
}

-- the ACK or the PRACK goes out with this content
abbrev pub discharged_with : Event → PendingRequest → Content → HeldDialog → Outcome
discharged_with event (Ack invite number) content held = (held, acked event held number content)
discharged_with event (Prack rseq number) content held =
    prack_requested event rseq number content held

-- the ACK or PRACK goes out with its content; without one it waits for the user
unfoldable pub discharged : Event → PendingRequest → Option Content → HeldDialog → Outcome
discharged event pending None held = (held, Waits)
discharged event pending (Some content) held = discharged_with event pending content held
