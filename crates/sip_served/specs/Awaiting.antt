-- Which INVITE awaits its ACK, by what a call gives (RFC 3261, section 13.3.1.4).
use Rattle.std.specs.Prelude.{Bool, true, false, ◌&&◌, if◌then◌else◌}
use Rattle.sip_message.specs.declared.id.Id.{Id}
use Rattle.sip_message.specs.declared.start_line.StartLine.{StartLine}
use Rattle.sip_message.specs.declared.start_line.StartLine.TheVariants as start
use Rattle.sip_transactions.specs.declared.input.Command.{Command as Order}
use Rattle.sip_transactions.specs.declared.input.Command.TheVariants as order
use Rattle.sip_user.specs.declared.item.CallOut.{CallOut}
use Rattle.sip_user.specs.declared.item.CallOut.TheVariants as out
use Rattle.sip_user.specs.declared.notice.Notice.{Notice}
use Rattle.sip_user.specs.declared.notice.Notice.TheVariants.{Request, Response, Ack, Prack, Timeout, Failed, NoAck, NoPrack, Cancel, Ended, Refused}
use Rattle.sip_held_dialogs.specs.Ids.{is_id}
use Rattle.sip_held_dialogs.specs.Requests.{is_invite, is_success}

-- a 2xx
abbrev pub has_success : StartLine → Bool
has_success (start.Request uri) = false
has_success (start.Response status reason) = is_success status

-- a 2xx to the INVITE of this id goes out
abbrev pub sends_success : Id → Id → Order → Bool
sends_success invite id (order.Start key call_id request to) = false
sends_success invite id (order.Answer key response) =
    is_id id invite && (is_invite response && has_success response.start)
sends_success invite id (order.Abandon key) = false

-- the user is told of the ACK of the INVITE of this id, or that none came
abbrev pub tells_of_ack : Id → Notice → Bool
tells_of_ack invite (Request call_id id method local_tag remote_tag body) = false
tells_of_ack invite (Response call_id id status local_tag remote_tag body) = false
tells_of_ack invite (Ack call_id id body) = is_id id invite
tells_of_ack invite (Prack call_id id rseq body) = false
tells_of_ack invite (Timeout call_id id) = false
tells_of_ack invite (Failed call_id id) = false
tells_of_ack invite (NoAck call_id id) = is_id id invite
tells_of_ack invite (NoPrack call_id id) = false
tells_of_ack invite (Cancel call_id id) = false
tells_of_ack invite (Ended call_id local_tag remote_tag) = false
tells_of_ack invite (Refused call_id place refusal) = false

-- the INVITE awaits its ACK after an output: from its 2xx on, until the user is told of the ACK, or
-- that none came
abbrev pub awaits_by : Id → Bool → CallOut → Bool
awaits_by invite awaits (out.Notice notice) =
    if tells_of_ack invite notice then false else awaits
awaits_by invite awaits (out.Command id command) =
    if sends_success invite id command then true else awaits
awaits_by invite awaits (out.Direct to bytes) = awaits
