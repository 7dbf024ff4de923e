-- A response that a user is told of is one that the other side sent before, to a request that came
-- to it.
use Rattle.std.specs.Prelude.{◌≡◌, ◌≢◌, ◌<◌, ◌≤◌, ◌+◌, ◌^◌, ℕ, List, [], ◌∷◌, ◌++◌, Contains, Some, codes, length}
use Rattle.std.specs.List.{AllByRecursion}
use Rattle.sip_message.specs.declared.addr.Addr.{Addr}
use Rattle.sip_message.specs.declared.id.Id.{Id}
use Rattle.sip_message.specs.declared.message.Message.{Message}
use Rattle.sip_message.specs.MessageKey.{key_of_message}
use Rattle.sip_message.specs.Party.{tag_of}
use Rattle.sip_message.specs.Rules.{IsMessage}
use Rattle.sip_message.specs.Written.{written}
use Rattle.sip_transactions.specs.declared.input.Input.TheVariants.{Start}
use Rattle.sip_user.specs.declared.notice.Notice.TheVariants.{Response}
use Rattle.sip_clients.specs.Clients.{status_of}
use Rattle.sip_round.specs.declared.config.Config.{Config}
use Rattle.sip_round.specs.declared.output.Output.TheVariants.{Notice}
use Rattle.sip_round.specs.declared.round.Round.{Round}
use Rattle.sip_conversation.specs.Answers.{AnswersARequest, IsAnswered}
use Rattle.sip_conversation.specs.Conversation.{Side, Turn, WasSent, given_by, peer, rounds_of}
use Rattle.sip_conversation.specs.Messages.{ComesUnchanged, IsGiven, IsSaid, come_from}

-- In these turns the other side said and sent a response with this status, these tags in From and
-- To, and this body. It answers a request that came to it, and that this side said and sent, except
-- for the stamp. Its user answered that request so, or the agent did by itself.
pub record SaidResponse (configs : Side → Config) (turns : List Turn) (side : Side) (status : ℕ)
    (local_tag remote_tag body : List ℕ) : Type 0 where
  pub original : Message
  pub said : IsSaid (configs (peer side)) (rounds_of (peer side) turns) original
  pub sent : WasSent configs turns side (written original)
  pub rules : IsMessage original
  pub status_is : status_of original.start ≡ Some status
  pub from : tag_of original.from ≡ local_tag
  pub to : tag_of original.to ≡ remote_tag
  pub body_is : original.body ≡ body
  pub request : AnswersARequest (ComesUnchanged configs turns (peer side)) original
  pub answered : IsAnswered (configs (peer side)) (rounds_of (peer side) turns) request.request
      status original

-- the rounds have numbers below 2 ^ 64, and fewer than 2 ^ 64 events each; a branch is made of 64
-- bits of each number, so it tells these events apart
pub record AreCounted (config : Config) (rounds : List Round) : Type 0 where
  pub numbers : config.first + length rounds ≤ 2 ^ 64
  pub events : AllByRecursion (λ round. length round.events < 2 ^ 64) rounds

-- in these rounds a transaction with the branch and the method of the response was started under
-- this Call-ID and this id, with this request
pub record IsStartedFor (config : Config) (rounds : List Round) (call_id : List ℕ) (id : Id)
    (response : Message) : Type 0 where
  pub request : Message
  pub to : Addr
  pub given : IsGiven config rounds (key_of_message response) (Start id call_id request to)

-- The other side sent such a response before a turn, and up to its end this side started a
-- transaction for it, under the Call-ID and the id of the notice. If the rounds of this side are
-- counted so, that is the Call-ID of the response; and unless the response is to a CANCEL, the
-- request that it answers came from that transaction: it is the one that the id names.
pub record ToldResponse (configs : Side → Config) (before : List Turn) (turn : Turn)
    (call_id : List ℕ) (id : Id) (status : ℕ) (local_tag remote_tag body : List ℕ) : Type 0 where
  pub response : SaidResponse configs before turn.side status local_tag remote_tag body
  pub started : IsStartedFor (configs turn.side) (rounds_of turn.side (before ++ turn ∷ []))
      call_id id response.original
  pub call_id_is : AreCounted (configs turn.side) (rounds_of turn.side (before ++ turn ∷ []))
      → response.original.call_id ≡ call_id
  pub request_is : AreCounted (configs turn.side) (rounds_of turn.side (before ++ turn ∷ []))
      → response.original.cseq.method ≢ codes "CANCEL"
      → (response.request).request ≡ come_from (configs turn.side).local started.request

-- so is each response that the user of a turn's side is told of, up to the turn's end
abbrev pub ResponsesToldWereSaid : (Side → Config) → List Turn → Type 0
ResponsesToldWereSaid configs turns =
    (before after : List Turn) (turn : Turn) → turns ≡ before ++ turn ∷ after
    → (call_id : List ℕ) (id : Id) (status : ℕ) (local_tag remote_tag body : List ℕ)
    → Contains (given_by configs (before ++ turn ∷ []) turn.side)
    (Notice (Response call_id id status local_tag remote_tag body))
    → ToldResponse configs before turn call_id id status local_tag remote_tag body
