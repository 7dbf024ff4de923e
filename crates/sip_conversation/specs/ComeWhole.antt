-- The reliable provisional responses to the INVITE of a call that a user is told of in one life of
-- a dialog are consecutive ones of those that the other user gave, in order. If he is told of no
-- others in that dialog, they are the first ones (RFC 3262, sections 3 and 4).
use Rattle.std.specs.Prelude.{◌≡◌, ◌≢◌, ℕ, suc, List, [], ◌∷◌, ◌++◌, Option, None, Some, codes, filter_map, if◌then◌else◌}
use Rattle.std.specs.List.{AllByRecursion, AllZip}
use Rattle.std.specs.Option.{option_map}
use Rattle.sip_message.specs.declared.addr.Addr.{Addr}
use Rattle.sip_message.specs.declared.id.Id.{Id}
use Rattle.sip_message.specs.declared.key.Key.{Key}
use Rattle.sip_message.specs.declared.message.Message.{Message}
use Rattle.sip_message.specs.Party.{tag_of}
use Rattle.keyed_machine.specs.Machine.{Timed}
use Rattle.sip_transactions.specs.declared.input.Command.TheVariants.{Answer}
use Rattle.sip_transactions.specs.declared.input.Input.TheVariants.{Start}
use Rattle.sip_transactions.specs.declared.output.Up.{Up as AnUp}
use Rattle.sip_user.specs.declared.command.UserCommand.TheVariants.{Respond}
use Rattle.sip_held_dialogs.specs.declared.held_dialog.DialogReference.{DialogReference}
use Rattle.sip_user.specs.declared.item.CallOut.{CallOut}
use Rattle.sip_user.specs.declared.item.CallOut.TheVariants.{Command, Notice}
use Rattle.sip_user.specs.declared.item.Item.TheVariants.{User}
use Rattle.sip_user.specs.declared.notice.Notice.TheVariants.{Response}
use Rattle.sip_held_dialogs.specs.Ids.{is_id}
use Rattle.sip_clients.specs.Clients.{status_of}
use Rattle.sip_clients.specs.Provisionals.{AnInvite, OfTheCall}
use Rattle.sip_calls.specs.declared.call.Call.{Call}
use Rattle.sip_calls.specs.declared.calls.Calls.{Calls}
use Rattle.sip_calls.specs.Call.{CallItem, call_step}
use Rattle.sip_round.specs.declared.config.Config.{Config}
use Rattle.sip_round.specs.Answers.{calls_of}
use Rattle.sip_round.specs.Laws.{call_inputs_of}
use Rattle.sip_conversation.specs.Answers.{IsHandedUp}
use Rattle.sip_conversation.specs.Conversation.{Side, Turn, peer, rounds_of}
use Rattle.sip_conversation.specs.Messages.{IsGiven, come_from}
use Rattle.sip_conversation.specs.Provisionals.{rseqs_told, told_reliably}
use Rattle.sip_conversation.specs.Replies.{AreCounted}

-- ---- what a user gives

module _ (calls : Calls) (request : Id) where
  -- the reliable response to the request of this id that this output is, with its RSeq
  abbrev pub sent_reliably : CallOut → Option (ℕ × Message)
  sent_reliably (Command id (Answer key response)) =
      if is_id id request then option_map (λ rseq. (rseq, response)) response.rseq else None
  sent_reliably _ = None

  -- those among the outputs of an input, if that is the user's command to respond
  abbrev pub given_in : Option CallItem → List CallOut → List (ℕ × Message)
  given_in (Some (event, User (Respond respond))) outs = filter_map sent_reliably outs
  given_in _ outs = []

  -- those that the user gave by these inputs, in order
  abbrev pub given_from : Option Call → List (Timed CallItem) → List (ℕ × Message)
  given_from call [] = []
  given_from call (timed ∷ inputs) =
      let step = call_step calls call timed.input timed.moment in
      given_in timed.input step.1 ++ given_from step.0 inputs

-- ---- what the other user is told

-- a notice with this status, these tags and this body tells of this response
pub record TellsOf (status : ℕ) (local_tag remote_tag body : List ℕ) (response : Message)
    : Type 0 where
  pub status_is : status_of response.start ≡ Some status
  pub from : tag_of response.from ≡ local_tag
  pub to : tag_of response.to ≡ remote_tag
  pub body_is : response.body ≡ body

-- it is the notice of the response with this RSeq
abbrev pub IsToldOf : ℕ × CallOut → ℕ × Message → Type 0
IsToldOf (rseq, Notice (Response call_id id status local_tag remote_tag body)) (number, response) =
    (rseq ≡ number) × TellsOf status local_tag remote_tag body response
IsToldOf _ _ = ⊥

-- the RSeqs of these responses are this number and those after it
abbrev pub AreNumberedFrom : ℕ → List (ℕ × Message) → Type 0
AreNumberedFrom number [] = Unit {0}
AreNumberedFrom number (given ∷ later) =
    (given.0 ≡ number) × AreNumberedFrom (suc number) later

-- the notices tell of consecutive ones of these responses, each of one, in order
pub record TellRun (told : List (ℕ × CallOut)) (given : List (ℕ × Message)) : Type 0 where
  pub earlier : List (ℕ × Message)
  pub run : List (ℕ × Message)
  pub later : List (ℕ × Message)
  pub given_is : given ≡ earlier ++ (run ++ later)
  pub tell : AllZip IsToldOf told run

module _ (configs : Side → Config) (before : List Turn) (turn : Turn) (call_id : List ℕ) where
  -- up to the turn's end the user was told of reliable provisional responses in no other life of
  -- this dialog, and to no other INVITE in it
  abbrev pub NoOthersTold : AnInvite → DialogReference → Type 0
  NoOthersTold invite life = (other : AnInvite) (later : DialogReference)
      → later.name ≡ life.name
      → rseqs_told configs before turn call_id other later ≢ []
      → (other ≡ invite) × (later ≡ life)

  -- those that the other user gave, in the turns before, to the request that came up under this id
  abbrev pub given_reliably : Id → List (ℕ × Message)
  given_reliably request = given_from (calls_of (configs (peer turn.side))) request None
      (call_inputs_of (configs (peer turn.side)) (rounds_of (peer turn.side) before) call_id)

  -- A notice under this Call-ID and this id is of the request that came up to the other side under
  -- the id `request`: a transaction of this side was started under its id with an INVITE of this
  -- call, and that INVITE came up there, with the stamp of its source.
  pub record IsOfRequest (request : Id) (of : List ℕ) (id : Id) : Type 0 where
    pub call_id_is : of ≡ call_id
    pub invite : Message
    pub method_is : invite.cseq.method ≡ codes "INVITE"
    pub key : Key
    pub to : Addr
    pub started : IsGiven (configs turn.side) (rounds_of turn.side (before ++ turn ∷ [])) key
        (Start id call_id invite to)
    pub up : AnUp
    pub came : IsHandedUp (configs (peer turn.side)) (rounds_of (peer turn.side) before)
        (come_from (configs turn.side).local invite) up
    pub id_is : up.id ≡ request

  abbrev pub IsNoticeFor : Id → CallOut → Type 0
  IsNoticeFor request (Notice (Response of id status local_tag remote_tag body)) =
      IsOfRequest request of id
  IsNoticeFor request _ = ⊥

  -- Those to the INVITE of the call that the user was told of in this life are consecutive ones of
  -- those that the other user gave to one request, which is that INVITE. Those that he gave to it
  -- have the RSeqs 1, 2, 3 and so on. If this side's user was told of no others in that dialog, he
  -- was told of the first ones.
  pub record ToldWhole (life : DialogReference) : Type 0 where
    pub request : Id
    pub of_request : AllByRecursion (λ told. IsNoticeFor request told.1)
        (told_reliably configs before turn call_id OfTheCall life)
    pub numbers : AreNumberedFrom 1 (given_reliably request)
    pub told : TellRun (told_reliably configs before turn call_id OfTheCall life)
        (given_reliably request)
    pub front : NoOthersTold OfTheCall life → told.earlier ≡ []

-- for every turn, call and life of a dialog, if the rounds of both sides are counted
abbrev pub ProvisionalsComeWhole : (Side → Config) → List Turn → Type 0
ProvisionalsComeWhole configs turns =
    (before after : List Turn) (turn : Turn) → turns ≡ before ++ turn ∷ after
    → ((side : Side) → AreCounted (configs side) (rounds_of side turns))
    → (call_id : List ℕ) (life : DialogReference) → ToldWhole configs before turn call_id life
