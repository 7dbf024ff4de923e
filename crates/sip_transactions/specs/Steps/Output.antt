-- What a row says: what it hands up or drops, and then what it sends.
use Rattle.std.specs.Prelude.{ℕ, if◌then◌else◌, List, ◌++◌, codes, Option, None, Some, option_map, option_and_then, option_to_list}
use Rattle.sip_message.specs.declared.addr.Addr.{Addr}
use Rattle.sip_message.specs.declared.key.Key.{Key}
use Rattle.sip_message.specs.declared.message.Message.{Message}
use Rattle.sip_message.specs.declared.start_line.StartLine.{StartLine}
use Rattle.sip_message.specs.declared.start_line.StartLine.TheVariants as start
use Rattle.sip_message.specs.HopByHop.{ack_of}
use Rattle.sip_message.specs.Response.{response_of}
use Rattle.sip_message.specs.Written.{written}
use Rattle.sip_transactions.specs.declared.life.Context.{Context}
use Rattle.sip_transactions.specs.declared.output.UpKind.{UpKind}
use Rattle.sip_transactions.specs.declared.output.UpKind.TheVariants as kind
use Rattle.sip_transactions.specs.declared.output.DropReason.TheVariants as reason
use Rattle.sip_transactions.specs.declared.output.Out.{Out}
use Rattle.sip_transactions.specs.declared.output.Out.TheVariants as out
use Rattle.sip_transactions.specs.declared.step.Step.{Step}
use Rattle.sip_transactions.specs.declared.step.UpAction.{UpAction}
use Rattle.sip_transactions.specs.declared.step.UpAction.TheVariants as up
use Rattle.sip_transactions.specs.declared.step.Sent.{Sent}
use Rattle.sip_transactions.specs.declared.step.Sent.TheVariants as send
use Rattle.sip_transactions.specs.Steps.Input.{is_same_method}

-- ---- what a row hands up

-- a message that came, as it is handed up
abbrev pub kind_of : StartLine → Message → Addr → UpKind
kind_of (start.Request uri) message reply_to =
    if is_same_method message.cseq.method (codes "ACK") then kind.Ack message
    else kind.Request message reply_to
kind_of (start.Response status reason) message reply_to = kind.Response message

-- under the id and the Call-ID of the life
abbrev pub up_out : Key → Context → UpKind → Out
up_out key context kind =
    out.Up (record { key = key; id = context.id; call_id = context.call_id; kind = kind })

-- what came goes up
abbrev pub arrived_out : Key → Context → Message × Addr → Out
arrived_out key context arrived = up_out key context (kind_of arrived.0.start arrived.0 arrived.1)

-- what a row hands up: the message that came, or a report; or that it drops the message that came
unfoldable pub handed_out : Key → Context → UpAction → Option (Message × Addr) → Option Out
handed_out key context up.Nothing arrived = None
handed_out key context up.Message arrived = option_map (arrived_out key context) arrived
handed_out key context up.Timeout arrived = Some (up_out key context kind.Timeout)
handed_out key context up.Failed arrived = Some (up_out key context kind.Failed)
handed_out key context up.NoTransaction arrived =
    Some (out.Dropped context.id.place reason.NoTransaction)

-- ---- what a row sends

-- 100 Trying, which gets no tag (RFC 3261, sections 8.2.6.1 and 17.2.1)
abbrev pub trying_of : Message → Message
trying_of request = response_of request 100 (codes "Trying") (codes "")

-- the message that a row makes from a message that came or that the user gave, and from the request
-- that the life keeps
unfoldable pub made_of : Option Message → Sent → Message → Option Message
made_of request send.Nothing message = None
made_of request send.Given message = Some message
made_of request send.Latest message = None
made_of request send.Trying message = Some (trying_of message)
made_of request send.Ack message = option_map (λ request. ack_of request message) request

-- the bytes of that message
abbrev pub made_bytes : Option Message → Sent → Option Message → Option (List ℕ)
made_bytes request sent message =
    option_map written (option_and_then (made_of request sent) message)

-- the bytes that a row sends: what it made, or what was sent last
abbrev pub sent_bytes : Option (List ℕ) → Sent → Option (List ℕ) → Option (List ℕ)
sent_bytes last send.Nothing made = made
sent_bytes last send.Given made = made
sent_bytes last send.Latest made = last
sent_bytes last send.Trying made = made
sent_bytes last send.Ack made = made

-- a datagram goes out
abbrev pub send_out : Key → Addr → List ℕ → Out
send_out key to bytes = out.Send key to bytes

-- ---- both

-- what a row gives: first what it hands up or drops, then what it sends
unfoldable pub outputs_of : Key → Context → Step → Option (List ℕ) → Option (Message × Addr)
    → List Out
outputs_of key context step made arrived =
    option_to_list (handed_out key context step.handed arrived)
    ++ option_to_list (option_map (send_out key context.to)
    (sent_bytes context.last step.sent made))
