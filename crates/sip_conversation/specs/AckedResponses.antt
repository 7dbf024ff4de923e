-- An ACK that a call sends follows the 2xx that it acknowledges: the user was told of that (RFC
-- 3261, section 13.2.2.4).
use Rattle.std.specs.Prelude.{◌≡◌, ◌≢◌, ◌⊎◌, ℕ, true, false, List, [], ◌∷◌, ◌++◌, Contains, codes}
use Rattle.sip_message.specs.declared.addr.Addr.{Addr}
use Rattle.sip_message.specs.declared.id.Id.{Id}
use Rattle.sip_message.specs.declared.message.Message.{Message}
use Rattle.sip_message.specs.Message.{is_request_message}
use Rattle.sip_message.specs.Party.{tag_of}
use Rattle.sip_message.specs.Rules.{IsMessage}
use Rattle.sip_message.specs.Written.{written}
use Rattle.sip_held_dialogs.specs.Requests.{dialog_id_of_tags, has_to_tag, is_success}
use Rattle.sip_held_dialogs.specs.declared.held_dialog.DialogId.{DialogId}
use Rattle.sip_transactions.specs.declared.input.Command.{Command}
use Rattle.sip_user.specs.declared.item.CallOut.{CallOut}
use Rattle.sip_user.specs.declared.item.CallOut.TheVariants as call_out
use Rattle.sip_user.specs.declared.item.CallOut.TheVariants.{Direct}
use Rattle.sip_user.specs.declared.notice.Notice.TheVariants.{Response}
use Rattle.sip_round.specs.Laws.{said_of_call}
use Rattle.sip_round.specs.declared.config.Config.{Config}
use Rattle.sip_round.specs.declared.output.Output.TheVariants.{Notice}
use Rattle.sip_conversation.specs.Conversation.{Side, Turn, given_by, rounds_of}
use Rattle.sip_conversation.specs.Messages.{Asks, CallSays}
use Rattle.sip_conversation.specs.Replies.{AreCounted, ToldResponse}

-- Up to a turn's end the user of its side was told of a 2xx under this Call-ID, by a notice among
-- these outputs of his call. The other side said the 2xx in the turns before. If the rounds of the
-- turn's side are counted, it answers an INVITE with this CSeq number; and this is the dialog of
-- its tags, or the INVITE was sent in this dialog and has no To tag.
pub record FollowsSuccess (configs : Side → Config) (before : List Turn) (turn : Turn)
    (call_id : List ℕ) (outs : List CallOut) (dialog : DialogId) (number : ℕ) : Type 0
  where
    pub id : Id
    pub status : ℕ
    pub local_tag : List ℕ
    pub remote_tag : List ℕ
    pub body : List ℕ
    pub told : Contains (given_by configs (before ++ turn ∷ []) turn.side)
        (Notice (Response call_id id status local_tag remote_tag body))
    pub by_then : Contains outs
        (call_out.Notice (Response call_id id status local_tag remote_tag body))
    pub success : is_success status ≡ true
    pub said : ToldResponse configs before turn call_id id status local_tag remote_tag body
    pub cseq : AreCounted (configs turn.side) (rounds_of turn.side (before ++ turn ∷ []))
        → said.response.original.cseq ≡ record { number = number; method = codes "INVITE" }
    pub dialog_is : AreCounted (configs turn.side) (rounds_of turn.side (before ++ turn ∷ []))
        → (dialog_id_of_tags local_tag remote_tag ≡ dialog)
        ⊎ ((dialog_id_of_tags (tag_of said.started.request.from)
        (tag_of said.started.request.to) ≡ dialog)
        × (has_to_tag said.started.request ≡ false))

-- the text is that of an ACK of this call that keeps the rules of messages; it follows a 2xx, of
-- which the user was told by one of these outputs
pub record IsAckOfSuccess (configs : Side → Config) (before : List Turn) (turn : Turn)
    (call_id : List ℕ) (outs : List CallOut) (text : List ℕ) : Type 0 where
  pub ack : Message
  pub text_is : text ≡ written ack
  pub rules : IsMessage ack
  pub is_request : is_request_message ack ≡ true
  pub method : ack.cseq.method ≡ codes "ACK"
  pub call_id_is : ack.call_id ≡ call_id
  pub follows : FollowsSuccess configs before turn call_id outs
      (dialog_id_of_tags (tag_of ack.from) (tag_of ack.to)) ack.cseq.number

-- Up to a turn's end: each text that a call of its side sends directly is that of such an ACK, and
-- the user is told of the 2xx by an output of the call that stands before it. And no call asks a
-- transaction to send an ACK.
pub record AcksFollow (configs : Side → Config) (before : List Turn) (turn : Turn) : Type 0 where
  pub direct : (call_id : List ℕ) (earlier later : List CallOut) (to : Addr) (text : List ℕ)
      → said_of_call (configs turn.side) (rounds_of turn.side (before ++ turn ∷ [])) call_id
      ≡ earlier ++ Direct to text ∷ later
      → IsAckOfSuccess configs before turn call_id earlier text
  pub asked : (id : Id) (command : Command)
      → CallSays (configs turn.side) (rounds_of turn.side (before ++ turn ∷ []))
      (call_out.Command id command)
      → (message : Message) → Asks command message → is_request_message message ≡ true
      → message.cseq.method ≢ codes "ACK"

-- in every turn
abbrev pub AcksFollowResponses : (Side → Config) → List Turn → Type 0
AcksFollowResponses configs turns =
    (before after : List Turn) (turn : Turn) → turns ≡ before ++ turn ∷ after
    → AcksFollow configs before turn
