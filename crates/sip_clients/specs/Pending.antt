-- What is owed in a dialog: the ACKs of 2xx responses and the PRACKs of reliable provisional ones,
-- the oldest first (RFC 3261, section 13.2.2.4; RFC 3262, section 4).
use Rattle.std.specs.Prelude.{Bool, true, false, not, ◌&&◌, ◌==◌, [], ◌∷◌, ◌++◌, Option, Some, filter}
use Rattle.sip_message.specs.Content.{Content}
use Rattle.sip_held_dialogs.specs.declared.pending_request.PendingRequest.{PendingRequest}
use Rattle.sip_held_dialogs.specs.declared.pending_request.PendingRequest.TheVariants.{Ack, Prack}
use Rattle.sip_held_dialogs.specs.declared.held_dialog.HeldDialog.{HeldDialog}
use Rattle.sip_held_dialogs.specs.Ids.{is_id}
use Rattle.sip_clients.specs.declared.pending.PendingKind.{PendingKind}
use Rattle.sip_clients.specs.declared.pending.PendingKind.TheVariants as kind
use Rattle.sip_clients.specs.declared.event.Event.{Event}
use Rattle.sip_clients.specs.declared.send_outcome.SendOutcome.{SendOutcome}
use Rattle.sip_clients.specs.declared.send_outcome.SendOutcome.TheVariants.{Sent, Waits, Refused}
use Rattle.sip_clients.specs.SendOutcome.{Outcome, discharged}

-- what is owed is of this kind
abbrev pub is_of : PendingKind → PendingRequest → Bool
is_of kind.Ack (Ack invite number) = true
is_of kind.Ack (Prack rseq number) = false
is_of kind.Prack (Ack invite number) = false
is_of kind.Prack (Prack rseq number) = true

-- the same ACK or PRACK
abbrev pub is_same_pending : PendingRequest → PendingRequest → Bool
is_same_pending (Ack invite number) (Ack other_invite other_number) =
    is_id invite other_invite && (number == other_number)
is_same_pending (Ack invite number) (Prack other_rseq other_number) = false
is_same_pending (Prack rseq number) (Ack other_invite other_number) = false
is_same_pending (Prack rseq number) (Prack other_rseq other_number) =
    (rseq == other_rseq) && (number == other_number)

-- ---- a response asks for it: it stays owed if it isn't sent

-- the dialog with one more that is owed, as the last
abbrev pub with_pending : PendingRequest → HeldDialog → HeldDialog
with_pending pending held =
    record held { pending_requests = held.pending_requests ++ pending ∷ [] }

-- the ACK or PRACK stays owed, unless it was sent
abbrev pub kept_unless_sent : PendingRequest → SendOutcome → HeldDialog → HeldDialog
kept_unless_sent pending (Sent sending) held = held
kept_unless_sent pending Waits held = with_pending pending held
kept_unless_sent pending (Refused refusal) held = with_pending pending held

-- the dialog after a response asked for this, and its outcome
unfoldable pub kept_pending : Event → PendingRequest → Option Content → HeldDialog → Outcome
kept_pending event pending offer held =
    let done = discharged event pending offer held in
    (kept_unless_sent pending done.1 done.0, done.1)

-- ---- the user gives it: it is no longer owed if it is sent

-- the dialog without this one
abbrev pub without_pending : PendingRequest → HeldDialog → HeldDialog
without_pending pending held =
    record held {
      pending_requests = filter (λ other. not (is_same_pending pending other))
          held.pending_requests;
    }

-- the ACK or PRACK is no longer owed, if it was sent
abbrev pub dropped_if_sent : PendingRequest → SendOutcome → HeldDialog → HeldDialog
dropped_if_sent pending (Sent sending) held = without_pending pending held
dropped_if_sent pending Waits held = held
dropped_if_sent pending (Refused refusal) held = held

-- the dialog after the user gave this, and its outcome
unfoldable pub sent_pending : Event → PendingRequest → Content → HeldDialog → Outcome
sent_pending event pending content held =
    let done = discharged event pending (Some content) held in
    (dropped_if_sent pending done.1 done.0, done.1)
