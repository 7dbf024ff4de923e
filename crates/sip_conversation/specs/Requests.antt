-- A request that a user is told of is one for which the other side's user asked before.
use Rattle.std.specs.Prelude.{◌≡◌, ◌⊎◌, ℕ, List, [], ◌∷◌, ◌++◌, Contains, Option, None, Some, codes}
use Rattle.sip_message.specs.declared.addr.Addr.{Addr}
use Rattle.sip_message.specs.declared.id.Id.{Id}
use Rattle.sip_message.specs.declared.key.Key.{Key}
use Rattle.sip_message.specs.declared.message.Message.{Message}
use Rattle.sip_message.specs.Party.{tag_of}
use Rattle.sip_message.specs.Rules.{IsMessage}
use Rattle.sip_message.specs.Written.{written}
use Rattle.keyed_machine.specs.Machine.{given_at}
use Rattle.sip_transactions.specs.declared.input.Command.TheVariants.{Start}
use Rattle.sip_user.specs.declared.command.UserCommand.{UserCommand}
use Rattle.sip_user.specs.declared.command.UserCommand.TheVariants as user
use Rattle.sip_user.specs.declared.item.CallOut.TheVariants.{Command}
use Rattle.sip_user.specs.declared.item.Item.TheVariants.{User}
use Rattle.sip_user.specs.declared.notice.Notice.TheVariants.{Request}
use Rattle.sip_round.specs.declared.config.Config.{Config}
use Rattle.sip_round.specs.declared.output.Output.TheVariants.{Notice}
use Rattle.sip_round.specs.declared.round.Round.{Round}
use Rattle.sip_round.specs.Laws.{call_inputs_of}
use Rattle.sip_conversation.specs.Conversation.{Side, Turn, WasSent, given_by, peer, rounds_of}
use Rattle.sip_conversation.specs.Messages.{CallSays}

-- The method and the body of the request for which a command asks (RFC 3261, sections 8.1.1,
-- 12.2.1.1 and 13.2.1). ACK, PRACK and CANCEL have commands of their own.
abbrev pub request_asked_by : UserCommand → Option (List ℕ × List ℕ)
request_asked_by (user.Invite invite) = Some (codes "INVITE", invite.content.body)
request_asked_by (user.Plain plain) = Some (plain.method, plain.content.body)
request_asked_by (user.Request request) = Some (request.method, request.content.body)
request_asked_by _ = None

-- In these rounds the user asked for this request: an event was the user's command under its
-- Call-ID, with its method and its body. Under the id of that event a transaction was to start with
-- the request.
pub record UserAsked (config : Config) (rounds : List Round) (request : Message) : Type 0 where
  pub event : Id
  pub now : ℕ
  pub command : UserCommand
  pub gave : Contains (call_inputs_of config rounds request.call_id)
      (given_at now (event, User command))
  pub asks : request_asked_by command ≡ Some (request.cseq.method, request.body)
  pub key : Key
  pub to : Addr
  pub starts : CallSays config rounds (Command event (Start key request.call_id request to))

-- In these turns the other side sent a request with this Call-ID, method and body, with the remote
-- tag in From, and with the local tag or none in To, because its user asked for it.
pub record SaidRequest (configs : Side → Config) (turns : List Turn) (side : Side)
    (call_id method local_tag remote_tag body : List ℕ) : Type 0 where
  pub original : Message
  pub asked : UserAsked (configs (peer side)) (rounds_of (peer side) turns) original
  pub sent : WasSent configs turns side (written original)
  pub rules : IsMessage original
  pub call_id_is : original.call_id ≡ call_id
  pub method_is : original.cseq.method ≡ method
  pub from : tag_of original.from ≡ remote_tag
  pub to : (tag_of original.to ≡ local_tag) ⊎ (tag_of original.to ≡ [])
  pub body_is : original.body ≡ body

-- so is each request that the user of a turn's side is told of, up to the turn's end
abbrev pub RequestsToldWereAskedFor : (Side → Config) → List Turn → Type 0
RequestsToldWereAskedFor configs turns =
    (before after : List Turn) (turn : Turn) → turns ≡ before ++ turn ∷ after
    → (call_id : List ℕ) (id : Id) (method local_tag remote_tag body : List ℕ)
    → Contains (given_by configs (before ++ turn ∷ []) turn.side)
    (Notice (Request call_id id method local_tag remote_tag body))
    → SaidRequest configs before turn.side call_id method local_tag remote_tag body
