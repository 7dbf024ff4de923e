-- The client requests that an agent holds in a call after rounds, each by its story (RFC 3261,
-- sections 9.1, 13.2.2.4 and 17.1.1; RFC 3262, section 4).
use Rattle.std.specs.Prelude.{◌≡◌, ℕ, List, ◌∷◌, ◌++◌, Some}
use Rattle.std.specs.List.{AllByRecursion}
use Rattle.sip_message.specs.declared.id.Id.{Id}
use Rattle.sip_held_dialogs.specs.declared.held_dialog.DialogId.{DialogId}
use Rattle.sip_clients.specs.Answers.{ack_of}
use Rattle.sip_clients.specs.ClientLife.{ClientHappening, Outgoing, SendsAckAgain, SendsCancel}
use Rattle.sip_clients.specs.ClientRules.{AllWait, IsCancelOf}
use Rattle.sip_clients.specs.ClientStory.{ClientStory, answers_of}
use Rattle.sip_clients.specs.ClientTelling.{AreTold, ClientStories}
use Rattle.sip_clients.specs.declared.answers.SentAck.{SentAck}
use Rattle.sip_calls.specs.ClientHistories.{client_stories}
use Rattle.sip_calls.specs.Provisionals.{side_held}
use Rattle.sip_round.specs.Answers.{calls_of}
use Rattle.sip_round.specs.CallsHeld.{call_after}
use Rattle.sip_round.specs.Laws.{call_inputs_of}
use Rattle.sip_round.specs.declared.config.Config.{Config}
use Rattle.sip_round.specs.declared.round.Round.{Round}

-- the stories of the client requests of a call, by all its inputs in these rounds
abbrev pub stories_after : Config → List Round → List ℕ → ClientStories
stories_after config rounds call_id =
    client_stories (calls_of config) (call_inputs_of config rounds call_id)

-- After any rounds: each client request that is held is what its story says.
abbrev pub EachClientRequestHasItsStory : Type 0
EachClientRequestHasItsStory = (config : Config) (rounds : List Round) (call_id : List ℕ)
    → AreTold (side_held (call_after config rounds call_id)).clients
    (stories_after config rounds call_id)

-- The CANCEL of an INVITE goes out once, after a provisional response and before any 2xx, under the
-- id of the first command that asked for it, with the branch and the address of the INVITE (RFC
-- 3261, section 9.1).
abbrev pub EachCancelGoesOnce : Type 0
EachCancelGoesOnce = (config : Config) (rounds : List Round) (call_id : List ℕ)
    → AllByRecursion (λ (entry : Id × ClientStory).
    (before later : List ClientHappening) (cancel : Outgoing)
    → entry.1.life ≡ before ++ SendsCancel cancel ∷ later
    → IsCancelOf entry.1 before cancel) (stories_after config rounds call_id)

-- a CANCEL that was asked for waits only while no provisional response came
abbrev pub EachCancelWaitsAsAsked : Type 0
EachCancelWaitsAsAsked = (config : Config) (rounds : List Round) (call_id : List ℕ)
    → AllWait (side_held (call_after config rounds call_id)).clients

-- an ACK that answers a retransmitted 2xx is the one that went out for it: the same bytes, to the
-- same address (RFC 3261, section 13.2.2.4)
abbrev pub EachRepeatedAckIsTheSame : Type 0
EachRepeatedAckIsTheSame = (config : Config) (rounds : List Round) (call_id : List ℕ)
    → AllByRecursion (λ (entry : Id × ClientStory).
    (before later : List ClientHappening) (name : DialogId) (ack : SentAck)
    → entry.1.life ≡ before ++ SendsAckAgain name ack ∷ later
    → ack_of name (answers_of before) ≡ Some ack) (stories_after config rounds call_id)
