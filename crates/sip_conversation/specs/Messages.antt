-- What a message that comes is: one that the other side sent before.
use Rattle.std.specs.Prelude.{◌≡◌, ◌≤◌, ℕ, true, List, [], ◌∷◌, ◌++◌, Contains, Option, None, Some, IfSome, length, if◌then◌else◌}
use Rattle.sip_message.specs.declared.addr.Addr.{Addr}
use Rattle.sip_message.specs.declared.id.Id.{Id}
use Rattle.sip_message.specs.declared.key.Key.{Key}
use Rattle.sip_message.specs.declared.message.Message.{Message}
use Rattle.sip_message.specs.HopByHop.{ack_of}
use Rattle.sip_message.specs.Message.{is_request_message}
use Rattle.sip_message.specs.Rules.{IsMessage}
use Rattle.sip_message.specs.Source.{stamped}
use Rattle.sip_message.specs.Written.{written}
use Rattle.keyed_machine.specs.Machine.{given_at}
use Rattle.sip_transactions.specs.declared.input.Command.{Command}
use Rattle.sip_transactions.specs.declared.input.Command.TheVariants.{Abandon, Answer, Start}
use Rattle.sip_transactions.specs.declared.input.Input.{Input}
use Rattle.sip_transactions.specs.declared.input.Input.TheVariants as input
use Rattle.sip_transactions.specs.declared.output.UpKind.{UpKind}
use Rattle.sip_transactions.specs.declared.output.UpKind.TheVariants as kind
use Rattle.sip_transactions.specs.declared.output.Up.{Up}
use Rattle.sip_transactions.specs.Steps.Output.{trying_of}
use Rattle.sip_user.specs.declared.item.CallOut.{CallOut}
use Rattle.sip_user.specs.declared.item.CallOut.TheVariants as call_out
use Rattle.sip_user.specs.declared.item.Item.TheVariants as item
use Rattle.sip_clients.specs.Clients.{status_of}
use Rattle.sip_round.specs.declared.config.Config.{Config}
use Rattle.sip_round.specs.declared.round.Round.{Round}
use Rattle.sip_round.specs.Laws.{call_inputs_of, inputs_of, said_of_call}
use Rattle.sip_conversation.specs.Conversation.{Side, Turn, WasSent, peer, rounds_of}

-- a command asks a transaction to send this message
abbrev pub Asks : Command → Message → Type 0
Asks (Start key call_id message to) asked = message ≡ asked
Asks (Answer key message) asked = message ≡ asked
Asks (Abandon key) asked = ⊥

-- the message that a command asks a transaction to send keeps the rules of messages
abbrev pub AsksByRules : Command → Type 0
AsksByRules (Start key call_id message to) = IsMessage message
AsksByRules (Answer key message) = IsMessage message
AsksByRules (Abandon key) = Unit {0}

-- it is a response of 300 or above; no message has a status above 699
abbrev pub IsFailure : Message → Type 0
IsFailure message = (status : ℕ) × (status_of message.start ≡ Some status) × (300 ≤ status)

module _ (config : Config) (rounds : List Round) where
  -- in these rounds a transaction was given this input
  abbrev pub IsGiven : Key → Input → Type 0
  IsGiven key input =
      (now : ℕ) × Contains (inputs_of config rounds key) (given_at now input)

  -- in these rounds a call said this
  abbrev pub CallSays : CallOut → Type 0
  CallSays out = (call_id : List ℕ) × Contains (said_of_call config rounds call_id) out

  -- In these rounds an agent said this message. A call asked a transaction to send it, or sent its
  -- text outside of any transaction. Or a transaction made it: the 100 for a request that came to
  -- it (RFC 3261, section 17.2.1), or the ACK for a request that it was to start and a response of
  -- 300 to 699 that came to it (17.1.1.3).
  pub data IsSaid (message : Message) : Type 0 where
    Asked : (id : Id) (command : Command) → CallSays (call_out.Command id command)
        → Asks command message → IsSaid message
    Direct : (to : Addr) → CallSays (call_out.Direct to (written message)) → IsSaid message
    Trying : (key : Key) (id : Id) (request : Message) (reply_to : Addr)
        → IsGiven key (input.Receive id request reply_to) → is_request_message request ≡ true
        → message ≡ trying_of request → IsSaid message
    Acknowledges : (key : Key) (id answered : Id) (call_id : List ℕ) (invite response : Message)
        (to reply_to : Addr) → IsGiven key (input.Start id call_id invite to)
        → IsGiven key (input.Receive answered response reply_to) → IsFailure response
        → message ≡ ack_of invite response → IsSaid message

-- a message that a call asks to send keeps the rules of messages; a text is that of such a message
abbrev pub KeepsRules : CallOut → Type 0
KeepsRules (call_out.Notice notice) = Unit {0}
KeepsRules (call_out.Command id command) = AsksByRules command
KeepsRules (call_out.Direct to bytes) =
    (message : Message) × (bytes ≡ written message) × IsMessage message

-- all calls of both sides do so, in all turns
abbrev pub CallsKeepRules : (Side → Config) → List Turn → Type 0
CallsKeepRules configs turns = (side : Side) (out : CallOut)
    → CallSays (configs side) (rounds_of side turns) out → KeepsRules out

-- a message as it comes from an address: a request gets its stamp (RFC 3261, section 18.2.1)
abbrev pub come_from : Addr → Message → Message
come_from source message =
    if is_request_message message then stamped message source else message

-- The message is one that the other side said in these turns and that keeps the rules, except for
-- the stamp. A datagram with its text went out there; a text of more than 65535 bytes isn't read.
pub record ComesUnchanged (configs : Side → Config) (turns : List Turn) (side : Side)
    (message : Message) : Type 0 where
  pub original : Message
  pub said : IsSaid (configs (peer side)) (rounds_of (peer side) turns) original
  pub sent : WasSent configs turns side (written original)
  pub rules : IsMessage original
  pub short : length (written original) ≤ 65535
  pub same : message ≡ come_from (configs (peer side)).local original

-- so is each message that came to a side's transaction up to a turn, by the turns before it
abbrev pub MessagesComeUnchanged : (Side → Config) → List Turn → Type 0
MessagesComeUnchanged configs turns =
    (before after : List Turn) (turn : Turn) → turns ≡ before ++ turn ∷ after
    → (key : Key) (id : Id) (message : Message) (reply_to : Addr)
    → IsGiven (configs turn.side) (rounds_of turn.side (before ++ turn ∷ [])) key
    (input.Receive id message reply_to)
    → ComesUnchanged configs before turn.side message

-- ---- what comes up to calls

-- the message that comes up from a transaction, if one does
abbrev pub message_up : UpKind → Option Message
message_up (kind.Request message reply_to) = Some message
message_up (kind.Ack message) = Some message
message_up (kind.Response message) = Some message
message_up kind.Timeout = None
message_up kind.Failed = None

-- in these rounds this came up to the call
abbrev pub ComesUp : Config → List Round → List ℕ → Up → Type 0
ComesUp config rounds call_id up = (now : ℕ) × (event : Id)
    × Contains (call_inputs_of config rounds call_id) (given_at now (event, item.Up up))

-- so is each message that came up to a call
abbrev pub CallsHearUnchanged : (Side → Config) → List Turn → Type 0
CallsHearUnchanged configs turns =
    (before after : List Turn) (turn : Turn) → turns ≡ before ++ turn ∷ after
    → (call_id : List ℕ) (up : Up)
    → ComesUp (configs turn.side) (rounds_of turn.side (before ++ turn ∷ [])) call_id up
    → IfSome (message_up up.kind) (ComesUnchanged configs before turn.side)
