-- A PRACK that a side says follows the reliable provisional response that it acknowledges: the user
-- was told of that response in the dialog of the PRACK (RFC 3262, sections 4 and 7.2).
use Rattle.std.specs.Prelude.{◌≡◌, ◌<◌, ℕ, true, List, [], ◌∷◌, ◌++◌, Contains, Some, codes}
use Rattle.std.specs.List.{AllByRecursion}
use Rattle.sip_message.specs.declared.id.Id.{Id}
use Rattle.sip_message.specs.declared.message.Message.{Message}
use Rattle.sip_message.specs.declared.rack.RAck.{RAck}
use Rattle.sip_message.specs.Message.{is_request_message}
use Rattle.sip_message.specs.Party.{tag_of}
use Rattle.sip_held_dialogs.specs.Requests.{dialog_id_of_tags}
use Rattle.sip_held_dialogs.specs.declared.held_dialog.DialogId.{DialogId}
use Rattle.sip_held_dialogs.specs.declared.held_dialog.DialogReference.{DialogReference}
use Rattle.sip_user.specs.declared.item.CallOut.{CallOut}
use Rattle.sip_user.specs.declared.item.CallOut.TheVariants as call_out
use Rattle.sip_user.specs.declared.notice.Notice.TheVariants.{Response}
use Rattle.sip_clients.specs.Provisionals.{AnInvite}
use Rattle.sip_round.specs.declared.config.Config.{Config}
use Rattle.sip_round.specs.declared.output.Output.TheVariants.{Notice}
use Rattle.sip_message.specs.declared.addr.Addr.{Addr}
use Rattle.sip_message.specs.declared.key.Key.{Key}
use Rattle.sip_transactions.specs.declared.input.Command.TheVariants.{Start}
use Rattle.sip_round.specs.Laws.{said_of_call}
use Rattle.sip_conversation.specs.Conversation.{Side, Turn, given_by, rounds_of}
use Rattle.sip_conversation.specs.Messages.{IsSaid}
use Rattle.sip_conversation.specs.Provisionals.{SaidReliably, told_reliably}
use Rattle.sip_conversation.specs.Replies.{AreCounted}

-- Up to a turn's end the user of its side was told of a response of this call. It is among the
-- reliable provisional ones to an INVITE in a life of this dialog that he was told of, with the
-- RSeq of this RAck. The other side said it in the turns before, as such a response with that RSeq.
-- If the rounds of the turn's side are counted, it has the Call-ID of this call, and its CSeq the
-- number of the RAck. The RAck's method is INVITE.
pub record FollowsResponse (configs : Side → Config) (before : List Turn) (turn : Turn)
    (call_id : List ℕ) (dialog : DialogId) (rack : RAck) : Type 0 where
  pub invite : AnInvite
  pub life : DialogReference
  pub life_is : life.name ≡ dialog
  pub id : Id
  pub status : ℕ
  pub local_tag : List ℕ
  pub remote_tag : List ℕ
  pub body : List ℕ
  pub told : Contains (given_by configs (before ++ turn ∷ []) turn.side)
      (Notice (Response call_id id status local_tag remote_tag body))
  pub in_life : Contains (told_reliably configs before turn call_id invite life)
      (rack.rseq, call_out.Notice (Response call_id id status local_tag remote_tag body))
  pub said : SaidReliably configs before turn call_id rack.rseq status local_tag remote_tag body
  pub cseq : AreCounted (configs turn.side) (rounds_of turn.side (before ++ turn ∷ []))
      → said.response.original.cseq.number ≡ rack.cseq
  pub method : rack.method ≡ codes "INVITE"

-- it does, and that notice is among these outputs of his call
pub record FollowsAt (configs : Side → Config) (before : List Turn) (turn : Turn)
    (call_id : List ℕ) (outs : List CallOut) (dialog : DialogId) (rack : RAck) : Type 0
  where
    pub response : FollowsResponse configs before turn call_id dialog rack
    pub by_then : Contains outs
        (call_out.Notice (Response call_id response.id response.status response.local_tag
        response.remote_tag response.body))

-- So does each PRACK that a turn's side said up to the turn's end, in the dialog of its tags.
-- Whenever a call asks to send one, the user is told by an output of the call that stands before.
pub record PracksFollow (configs : Side → Config) (before : List Turn) (turn : Turn) : Type 0 where
  pub said : (prack : Message)
      → IsSaid (configs turn.side) (rounds_of turn.side (before ++ turn ∷ [])) prack
      → is_request_message prack ≡ true → prack.cseq.method ≡ codes "PRACK"
      → (rack : RAck) → prack.rack ≡ Some rack
      → FollowsResponse configs before turn prack.call_id
      (dialog_id_of_tags (tag_of prack.from) (tag_of prack.to)) rack
  pub asked : (call_id : List ℕ) (earlier later : List CallOut) (id : Id) (key : Key)
      (of : List ℕ) (prack : Message) (to : Addr)
      → said_of_call (configs turn.side) (rounds_of turn.side (before ++ turn ∷ [])) call_id
      ≡ earlier ++ call_out.Command id (Start key of prack to) ∷ later
      → (rack : RAck) → prack.rack ≡ Some rack
      → FollowsAt configs before turn call_id earlier (dialog_id_of_tags (tag_of prack.from)
      (tag_of prack.to)) rack

-- in every turn
abbrev pub PracksFollowResponses : (Side → Config) → List Turn → Type 0
PracksFollowResponses configs turns =
    (before after : List Turn) (turn : Turn) → turns ≡ before ++ turn ∷ after
    → PracksFollow configs before turn

-- ---- the first is told before the others

-- In one of these turns the user of this side was told of a reliable provisional response of RSeq
-- 1, under the Call-ID and in the dialog of this response, and to an INVITE with the number of its
-- CSeq.
pub record WasToldFirst (configs : Side → Config) (turns : List Turn) (side : Side)
    (response : Message) : Type 0 where
  pub before : List Turn
  pub turn : Turn
  pub after : List Turn
  pub turns_are : turns ≡ before ++ turn ∷ after
  pub side_is : turn.side ≡ side
  pub first : FollowsResponse configs before turn response.call_id
      (dialog_id_of_tags (tag_of response.from) (tag_of response.to))
      record { rseq = 1; cseq = response.cseq.number; method = codes "INVITE" }

-- The other side said such a response, with this Call-ID if the rounds are counted. If its RSeq is
-- above 1, the user was told of the first before.
pub record FollowsTheFirst (configs : Side → Config) (before : List Turn) (turn : Turn)
    (call_id : List ℕ) (rseq status : ℕ) (local_tag remote_tag body : List ℕ) : Type 0 where
  pub said : SaidReliably configs before turn call_id rseq status local_tag remote_tag body
  pub first : 1 < rseq → WasToldFirst configs before turn.side said.response.original

-- it is the notice of such a response
abbrev pub IsAfterTheFirst : (Side → Config) → List Turn → Turn → ℕ → CallOut → Type 0
IsAfterTheFirst configs before turn rseq
    (call_out.Notice (Response call_id id status local_tag remote_tag body)) =
    FollowsTheFirst configs before turn call_id rseq status local_tag remote_tag body
IsAfterTheFirst configs before turn rseq _ = ⊥

-- For every turn, call, INVITE and life of a dialog: so is each reliable provisional response that
-- the user is told of, up to the turn's end.
abbrev pub TheFirstIsToldFirst : (Side → Config) → List Turn → Type 0
TheFirstIsToldFirst configs turns =
    (before after : List Turn) (turn : Turn) → turns ≡ before ++ turn ∷ after
    → (call_id : List ℕ) (invite : AnInvite) (life : DialogReference)
    → AllByRecursion (λ told. IsAfterTheFirst configs before turn told.0 told.1)
    (told_reliably configs before turn call_id invite life)
