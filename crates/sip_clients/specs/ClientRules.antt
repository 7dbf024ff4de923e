-- What is true of the life of a client request: when its CANCEL goes out and what it is, and which
-- ACK answers a retransmitted 2xx (RFC 3261, sections 9.1 and 13.2.2.4).
use Rattle.std.specs.Prelude.{◌≡◌, ℕ, true, false, List, [], ◌∷◌, ◌++◌, None, Some}
use Rattle.std.specs.List.{AllByRecursion, list_any}
use Rattle.sip_message.specs.HopByHop.{cancel_of}
use Rattle.sip_message.specs.TopVia.{top_via}
use Rattle.sip_message.specs.declared.id.Id.{Id}
use Rattle.sip_message.specs.declared.message.Message.{Message}
use Rattle.sip_user.specs.declared.item.CallOut.{CallOut}
use Rattle.sip_held_dialogs.specs.Requests.{is_final}
use Rattle.sip_clients.specs.declared.client.Cancelling.TheVariants.{Waits}
use Rattle.sip_clients.specs.declared.client.Client.{Client}
use Rattle.sip_clients.specs.Answers.{ack_of}
use Rattle.sip_clients.specs.Client.{Clients, Side, ClientTaken}
use Rattle.sip_clients.specs.ClientLife.{ClientHappening, Outgoing, AsksCancel, SendsAckAgain, SendsCancel, acks_out, cancels_out}
use Rattle.sip_clients.specs.ClientStory.{ClientStory, answers_of, asked_first, first_success, is_cancel_sent, is_provisional_response}
use Rattle.sip_clients.specs.ClientTelling.{ClientStories, AreTold}
use Rattle.sip_clients.specs.Clients.{status_of}
use Rattle.sip_clients.specs.ReceivedResponse.{is_invite_kind}

-- A CANCEL that goes out after this life is the only one. Its INVITE had a provisional response and
-- no 2xx. It goes out under the id of the first command that asked for it, with the branch and the
-- address of the INVITE.
pub record IsCancelOf (story : ClientStory) (before : List ClientHappening) (cancel : Outgoing)
    : Type 0 where
  pub inviting : is_invite_kind story.kind ≡ true
  pub provisional : list_any is_provisional_response before ≡ true
  pub unanswered : first_success before ≡ None
  pub alone : list_any is_cancel_sent before ≡ false
  pub asked : asked_first before ≡ Some cancel.id
  pub request : cancel.request ≡ cancel_of story.request
  pub branch : top_via cancel.request ≡ top_via story.request
  pub to : cancel.to ≡ story.to

-- a command cancels an INVITE before its first 2xx
pub record IsAskedFor (story : ClientStory) (before : List ClientHappening) : Type 0 where
  pub inviting : is_invite_kind story.kind ≡ true
  pub unanswered : first_success before ≡ None

-- What happens is allowed by what happened before. An ACK that answers a retransmitted 2xx is the
-- one that went out for it.
abbrev pub Fits : ClientStory → List ClientHappening → ClientHappening → Type 0
Fits story before (AsksCancel id) = IsAskedFor story before
Fits story before (SendsCancel cancel) = IsCancelOf story before cancel
Fits story before (SendsAckAgain name ack) = ack_of name (answers_of before) ≡ Some ack
Fits story before _ = Unit {0}

-- the same for each in turn, after those before it
abbrev pub EachFits : ClientStory → List ClientHappening → List ClientHappening → Type 0
EachFits story before [] = Unit {0}
EachFits story before (h ∷ later) =
    Fits story before h × EachFits story (before ++ h ∷ []) later

-- the same for all that happened to each request
abbrev pub AllLive : ClientStories → Type 0
AllLive stories =
    AllByRecursion (λ (entry : Id × ClientStory). EachFits entry.1 [] entry.1.life) stories

-- If this is true, and what is held is what the stories say, it is true after the step.
abbrev pub HoldsRules : (Side → ClientTaken)
    → (Side → List CallOut → ClientStories → ClientStories) → Type 0
HoldsRules step telling = (side : Side) (stories : ClientStories) → AreTold side.clients stories
    → AllLive stories → AllLive (telling side (step side).1 stories)

-- ---- what waits

-- a CANCEL that was asked for waits only while no provisional response came
abbrev pub WaitsForProvisional : Client → Type 0
WaitsForProvisional client =
    (id : Id) → client.cancel ≡ Waits id → client.provisional ≡ false

-- the same for each request
abbrev pub AllWait : Clients → Type 0
AllWait clients =
    AllByRecursion (λ (entry : Id × Client). WaitsForProvisional entry.1) clients

-- if this is true of what is held, it is true after the step
abbrev pub KeepsWaiting : (Side → ClientTaken) → Type 0
KeepsWaiting step = (side : Side) → AllWait side.clients → AllWait ((step side).0).clients

-- ---- what else goes out

-- a step sends no CANCEL
abbrev pub SendsNoCancel : (Side → ClientTaken) → Type 0
SendsNoCancel step = (side : Side) → cancels_out (step side).1 ≡ []

-- a step sends no ACK
abbrev pub SendsNoAck : (Side → ClientTaken) → Type 0
SendsNoAck step = (side : Side) → acks_out (step side).1 ≡ []

-- a final response sends no CANCEL, and any other sends no ACK
abbrev pub SendsByStatus : Message → (Side → ClientTaken) → Type 0
SendsByStatus response step = (side : Side) (status : ℕ)
    → status_of response.start ≡ Some status
    → (is_final status ≡ true → cancels_out (step side).1 ≡ [])
    × (is_final status ≡ false → acks_out (step side).1 ≡ [])
