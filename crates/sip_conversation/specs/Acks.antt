-- An ACK that a user is told of is one that the other side sent before: a call of it, whose user
-- was told of the 2xx that it acknowledges, or a transaction of it, for a response of 300 to 699.
-- It fits the INVITE that is told with it, and the 2xx that the user gave to that INVITE.
use Rattle.std.specs.Prelude.{◌≡◌, ◌⊎◌, ℕ, true, List, [], ◌∷◌, ◌++◌, Contains, codes}
use Rattle.sip_message.specs.declared.addr.Addr.{Addr}
use Rattle.sip_message.specs.declared.id.Id.{Id}
use Rattle.sip_message.specs.declared.key.Key.{Key}
use Rattle.sip_message.specs.declared.message.Message.{Message}
use Rattle.sip_message.specs.HopByHop.{ack_of}
use Rattle.sip_message.specs.Message.{is_request_message}
use Rattle.sip_message.specs.Party.{tag_of}
use Rattle.sip_message.specs.Rules.{IsMessage}
use Rattle.sip_message.specs.Written.{written}
use Rattle.sip_transactions.specs.declared.input.Input.TheVariants.{Receive, Start}
use Rattle.sip_transactions.specs.declared.output.Up.{Up}
use Rattle.sip_held_dialogs.specs.Requests.{dialog_id_of_tags, is_invite, is_success}
use Rattle.sip_user.specs.declared.item.CallOut.{CallOut}
use Rattle.sip_user.specs.declared.item.CallOut.TheVariants.{Direct}
use Rattle.sip_user.specs.declared.notice.Notice.TheVariants.{Ack}
use Rattle.sip_round.specs.Laws.{said_of_call}
use Rattle.sip_round.specs.declared.config.Config.{Config}
use Rattle.sip_round.specs.declared.output.Output.TheVariants.{Notice}
use Rattle.sip_round.specs.declared.round.Round.{Round}
use Rattle.sip_conversation.specs.AckedResponses.{FollowsSuccess}
use Rattle.sip_conversation.specs.Answers.{IsHandedUp, IsResponseTo, RespondsTo}
use Rattle.sip_conversation.specs.Conversation.{Side, Turn, WasSent, given_by, peer, rounds_of}
use Rattle.sip_conversation.specs.Messages.{IsFailure, IsGiven, IsSaid}
use Rattle.sip_conversation.specs.Replies.{AreCounted}

-- Up to the end of one of these turns, which is this side's, the call of the ACK's Call-ID sent the
-- ACK as a text. Before that it told its user of the 2xx that the ACK acknowledges (RFC 3261,
-- section 13.2.2.4).
pub record IsSentByCall (configs : Side → Config) (turns : List Turn) (side : Side) (ack : Message)
    : Type 0 where
  pub before : List Turn
  pub turn : Turn
  pub after : List Turn
  pub turns_are : turns ≡ before ++ turn ∷ after
  pub side_is : turn.side ≡ side
  pub earlier : List CallOut
  pub to : Addr
  pub later : List CallOut
  pub sent : said_of_call (configs turn.side) (rounds_of turn.side (before ++ turn ∷ []))
      ack.call_id ≡ earlier ++ Direct to (written ack) ∷ later
  pub follows : FollowsSuccess configs before turn ack.call_id earlier
      (dialog_id_of_tags (tag_of ack.from) (tag_of ack.to)) ack.cseq.number

-- In these rounds a transaction made the ACK for a request that it was to start and a response of
-- 300 to 699 that came to it (RFC 3261, section 17.1.1.3).
pub record IsMadeByTransaction (config : Config) (rounds : List Round) (ack : Message) : Type 0
  where
    pub key : Key
    pub id : Id
    pub answered : Id
    pub call_id : List ℕ
    pub invite : Message
    pub response : Message
    pub to : Addr
    pub reply_to : Addr
    pub started : IsGiven config rounds key (Start id call_id invite to)
    pub came : IsGiven config rounds key (Receive answered response reply_to)
    pub failure : IsFailure response
    pub made : ack ≡ ack_of invite response

-- In these rounds an INVITE came up under this id to the call of this Call-ID, and its user
-- answered it under this id with a 2xx. The ACK has the CSeq number of the INVITE, and is in the
-- dialog of the tags of that 2xx (RFC 3261, sections 13.2.2.4 and 13.3.1.4).
pub record IsForInvite (config : Config) (rounds : List Round) (call_id : List ℕ) (id : Id)
    (ack : Message) : Type 0 where
  pub invite : Message
  pub up : Up
  pub came : IsHandedUp config rounds invite up
  pub id_is : up.id ≡ id
  pub call_id_is : invite.call_id ≡ call_id
  pub is_invite : is_invite invite ≡ true
  pub number : ack.cseq.number ≡ invite.cseq.number
  pub response : Message
  pub copies : IsResponseTo invite response
  pub status : ℕ
  pub success : is_success status ≡ true
  pub answered : RespondsTo config rounds invite status response
  pub names : answered.respond.id ≡ id
  pub dialog : dialog_id_of_tags (tag_of ack.to) (tag_of ack.from)
      ≡ dialog_id_of_tags (tag_of response.to) (tag_of response.from)

-- In the turns before the other side said and sent an ACK with this body. A call sent it for a 2xx,
-- or a transaction made it for a response of 300 to 699. It has this Call-ID, if the rounds of the
-- other side are counted. It is for the INVITE that came up to this side under this Call-ID and
-- this id up to the turn's end.
pub record SaidAck (configs : Side → Config) (before : List Turn) (turn : Turn)
    (call_id : List ℕ) (id : Id) (body : List ℕ) : Type 0 where
  pub original : Message
  pub said : IsSaid (configs (peer turn.side)) (rounds_of (peer turn.side) before) original
  pub sent : WasSent configs before turn.side (written original)
  pub rules : IsMessage original
  pub is_request : is_request_message original ≡ true
  pub method_is : original.cseq.method ≡ codes "ACK"
  pub body_is : original.body ≡ body
  pub call_id_is : AreCounted (configs (peer turn.side)) (rounds_of (peer turn.side) before)
      → original.call_id ≡ call_id
  pub by : IsSentByCall configs before (peer turn.side) original
      ⊎ IsMadeByTransaction (configs (peer turn.side)) (rounds_of (peer turn.side) before)
      original
  pub invite : IsForInvite (configs turn.side) (rounds_of turn.side (before ++ turn ∷ []))
      call_id id original

-- so is each ACK that the user of a turn's side is told of, up to the turn's end
abbrev pub AcksToldWereSaid : (Side → Config) → List Turn → Type 0
AcksToldWereSaid configs turns =
    (before after : List Turn) (turn : Turn) → turns ≡ before ++ turn ∷ after
    → (call_id : List ℕ) (id : Id) (body : List ℕ)
    → Contains (given_by configs (before ++ turn ∷ []) turn.side) (Notice (Ack call_id id body))
    → SaidAck configs before turn call_id id body
