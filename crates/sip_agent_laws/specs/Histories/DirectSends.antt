-- The Sends without a transaction's key that rounds give: the ACKs of 2xx responses, which calls
-- send directly (RFC 3261, section 13.2.2.4).
use Rattle.std.specs.Prelude.{◌≡◌, ℕ, Bool, true, false, List, [], ◌∷◌, Contains, None, codes, filter, map}
use Rattle.std.specs.List.{flat_map}
use Rattle.sip_message.specs.Message.{is_request_message}
use Rattle.sip_message.specs.Written.{written}
use Rattle.sip_message.specs.declared.addr.Addr.{Addr}
use Rattle.sip_message.specs.declared.message.Message.{Message}
use Rattle.sip_user.specs.declared.item.CallOut.{CallOut}
use Rattle.sip_user.specs.declared.item.CallOut.TheVariants.{Direct}
use Rattle.sip_round.specs.Answers.{each_from, given_second, no_past}
use Rattle.sip_round.specs.Given.{all_given}
use Rattle.sip_round.specs.Laws.{said_of_call}
use Rattle.sip_round.specs.declared.config.Config.{Config}
use Rattle.sip_round.specs.declared.output.Output.{Output}
use Rattle.sip_round.specs.declared.output.Output.TheVariants as output
use Rattle.sip_round.specs.declared.round.Round.{Round}

-- a Send without a transaction's key
abbrev pub is_direct_send : Output → Bool
is_direct_send (output.Send None to bytes) = true
is_direct_send _ = false

-- all of them, in order
abbrev pub direct_sends : List Output → List Output
direct_sends outputs = filter is_direct_send outputs

-- what a call says to send outside of any transaction, in the form in which it is given
abbrev pub direct_in : CallOut → List Output
direct_in (Direct to bytes) = output.Send None to bytes ∷ []
direct_in _ = []

-- what all calls say in each of these rounds, in order
abbrev pub said_by_round : Config → List Round → List (List CallOut)
said_by_round config rounds = each_from given_second config config.first no_past rounds

-- In any rounds: the Sends without a transaction's key that each round gives are exactly those that
-- the calls say in it, in order.
abbrev pub GivesDirectSends : Config → List Round → List (List Output) → Type 0
GivesDirectSends config rounds given =
    map direct_sends given ≡ map (flat_map direct_in) (said_by_round config rounds)

-- the text of an ACK
pub record IsAckText (bytes : List ℕ) : Type 0 where
  pub ack : Message
  pub text : bytes ≡ written ack
  pub is_request : is_request_message ack ≡ true
  pub method : ack.cseq.method ≡ codes "ACK"

-- a call's own inputs say this Send, and it is the text of an ACK
pub record IsAckOfCall (config : Config) (rounds : List Round) (to : Addr) (bytes : List ℕ)
    : Type 0 where
  pub call_id : List ℕ
  pub said : Contains (said_of_call config rounds call_id) (Direct to bytes)
  pub ack : IsAckText bytes

-- So each of them is an ACK of a call; nothing else is sent without a transaction's key.
abbrev pub GivesAcksOfCalls : Config → List Round → List (List Output) → Type 0
GivesAcksOfCalls config rounds given = (to : Addr) (bytes : List ℕ)
    → Contains (all_given given) (output.Send None to bytes)
    → IsAckOfCall config rounds to bytes
