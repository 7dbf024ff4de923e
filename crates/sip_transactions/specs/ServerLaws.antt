-- What is true of every server transaction that is held, for one input or two.
use Rattle.std.specs.Prelude.{◌≡◌, ℕ, ◌+◌, Bool, true, false, nat_le, List, [], ◌∷◌, Option, None, Some, if◌then◌else◌}
use Rattle.sip_message.specs.declared.addr.Addr.{Addr}
use Rattle.sip_message.specs.declared.id.Id.{Id}
use Rattle.sip_message.specs.declared.key.Key.{Key}
use Rattle.sip_message.specs.declared.message.Message.{Message}
use Rattle.sip_transactions.specs.declared.life.Life.{Life}
use Rattle.sip_transactions.specs.declared.output.Out.{Out}
use Rattle.sip_transactions.specs.declared.output.Out.TheVariants.{Send}
use Rattle.sip_transactions.specs.declared.input.Input.TheVariants as input
use Rattle.sip_transactions.specs.declared.input.Input.{Input}
use Rattle.keyed_machine.specs.Machine.{Machine, Timed}
use Rattle.sip_transactions.specs.declared.state.Role.TheVariants as role
use Rattle.sip_transactions.specs.declared.state.State.{State}
use Rattle.sip_transactions.specs.declared.state.State.TheVariants.{Calling, Trying, Proceeding, Completed, Accepted, Confirmed}
use Rattle.sip_timers.specs.declared.estimate.TheConstants.{LIFETIME}
use Rattle.sip_transactions.specs.declared.trigger.Class.TheVariants as class
use Rattle.sip_transactions.specs.declared.trigger.Trigger.{Trigger}
use Rattle.sip_transactions.specs.declared.trigger.Trigger.TheVariants as on
use Rattle.sip_transactions.specs.Steps.Input.{answer_of, arrival_of, role_of}
use Rattle.sip_transactions.specs.Laws.{IsServer}
use Rattle.keyed_machine.specs.Machine.{tick_at}
use Rattle.sip_transactions.specs.Shard.{failed_send, receipt}

-- a response was sent, and a retransmitted request gets it again
abbrev pub is_answering : State → Bool
is_answering Calling = false
is_answering Trying = false
is_answering Proceeding = true
is_answering Completed = true
is_answering Accepted = false
is_answering Confirmed = false

-- A retransmitted request that was answered gets the same bytes again, and nothing else happens
-- (RFC 3261, sections 17.2.1 and 17.2.2).
abbrev pub AnsweredAgain : Machine Key Life (Timed Input) Out → Type 0
AnsweredAgain machine = (key : Key) → IsServer key → (life : Life) (bytes : List ℕ)
    → is_answering life.state ≡ true → life.context.last ≡ Some bytes
    → (id : Id) (message : Message) (reply_to : Addr) (now : ℕ)
    → arrival_of message.start message.cseq.method ≡ on.Request
    → machine.step key (Some life) (receipt id message reply_to now)
    ≡ (Some life, Send key life.context.to bytes ∷ [])

-- no final response was sent
abbrev pub is_open : State → Bool
is_open Calling = false
is_open Trying = true
is_open Proceeding = true
is_open Completed = false
is_open Accepted = false
is_open Confirmed = false

-- an answer that is a final response
abbrev pub is_final_answer : Option Trigger → Bool
is_final_answer None = false
is_final_answer (Some on.Start) = false
is_final_answer (Some on.RetransmitDue) = false
is_final_answer (Some on.TimeoutDue) = false
is_final_answer (Some on.Failed) = false
is_final_answer (Some on.Request) = false
is_final_answer (Some on.Ack) = false
is_final_answer (Some (on.Response c)) = false
is_final_answer (Some (on.Answer class.Trying)) = false
is_final_answer (Some (on.Answer class.Provisional)) = false
is_final_answer (Some (on.Answer class.Success)) = true
is_final_answer (Some (on.Answer class.Failure)) = true

-- the user's answer, as an input
abbrev pub answering : Id → Message → ℕ → Timed Input
answering id response now = record { moment = now; input = Some (input.Answer id response) }

-- A server of a request other than INVITE ends at the first tick from 64*T1 after its final answer
-- on, and no tick before that changes it (RFC 3261, section 17.2.2).
abbrev pub EndsAfterItsAnswer : Machine Key Life (Timed Input) Out → Type 0
EndsAfterItsAnswer machine = (key : Key) → role_of key ≡ role.Server → (life : Life)
    → is_open life.state ≡ true → (id : Id) (response : Message) (now : ℕ)
    → is_final_answer (answer_of response.start) ≡ true → (moment : ℕ)
    → (machine.step key (machine.step key (Some life) (answering id response now)).0
    (tick_at moment)).0 ≡ (if nat_le (now + LIFETIME) moment then None
    else (machine.step key (Some life) (answering id response now)).0)

-- a failed send doesn't change the life of a server
abbrev pub FailedSendKeeps : Machine Key Life (Timed Input) Out → Type 0
FailedSendKeeps machine = (key : Key) → IsServer key → (life : Life) (id : Id) (now : ℕ)
    → (machine.step key (Some life) (failed_send id now)).0 ≡ Some life
