-- The 2xx responses to an INVITE, by the dialog of each (RFC 3261, section 13.2.2.4).
use Rattle.std.specs.Prelude.{Bool, List, Option}
use Rattle.std.specs.Map.{lookup}
use Rattle.std.specs.Option.{is_some, option_and_then}
use Rattle.sip_held_dialogs.specs.declared.held_dialog.DialogId.{DialogId}
use Rattle.sip_held_dialogs.specs.Dialogs.{is_dialog_id}
use Rattle.sip_clients.specs.declared.answers.SentAck.{SentAck}

-- the dialogs, each with its ACK once that was sent
abbrev pub AnswerList : Type 0
AnswerList = List (DialogId × Option SentAck)

-- whether a 2xx of this dialog came
abbrev pub has_answer : DialogId → AnswerList → Bool
has_answer name answers = is_some (lookup (is_dialog_id name) answers)

-- the ACK that was sent for it
abbrev pub ack_of : DialogId → AnswerList → Option SentAck
ack_of name answers = option_and_then (λ ack. ack) (lookup (is_dialog_id name) answers)
