-- The tables of the four machines, a line for each row (RFC 3261, sections 17.1 and 17.2, and RFC
-- 6026, section 7). Beside a row are the letters of the timers that it sets (+) or that fire in it
-- (!). T1, T2 and T4 are those of RFC 3261, section 17, and LIFETIME is 64 times T1, in ms.
use Rattle.std.specs.Prelude.{ℕ, Bool, ◌==◌, ◌&&◌, ◌+◌, ◌++◌, List, [], ◌∷◌, Option, None, Some, option_map, find}
use Rattle.std.specs.List.{list_any}
use Rattle.sip_transactions.specs.declared.state.State.{State}
use Rattle.sip_transactions.specs.declared.state.State.TheVariants.{Calling, Trying, Proceeding, Completed, Accepted, Confirmed}
use Rattle.sip_transactions.specs.declared.state.Role.{Role}
use Rattle.sip_transactions.specs.declared.state.Role.TheVariants.{InviteClient, Client, InviteServer, Server}
use Rattle.sip_timers.specs.declared.estimate.TheConstants.{LIFETIME}
use Rattle.sip_transactions.specs.declared.timers.TheConstants.{T4}
use Rattle.sip_transactions.specs.declared.trigger.Class.{Class}
use Rattle.sip_transactions.specs.declared.trigger.Class.TheVariants as class
use Rattle.sip_transactions.specs.declared.trigger.Trigger.{Trigger}
use Rattle.sip_transactions.specs.declared.trigger.Trigger.TheVariants.{Start, RetransmitDue, TimeoutDue, Failed, Request, Ack, Response, Answer}
use Rattle.sip_transactions.specs.declared.step.Step.{Step}
use Rattle.sip_transactions.specs.declared.step.Next.{Next}
use Rattle.sip_transactions.specs.declared.step.Next.TheVariants.{Same, Ended, Become}
use Rattle.sip_transactions.specs.declared.step.UpAction.{UpAction}
use Rattle.sip_transactions.specs.declared.step.UpAction.TheVariants as up
use Rattle.sip_transactions.specs.declared.step.Sent.{Sent}
use Rattle.sip_transactions.specs.declared.step.Sent.TheVariants as send
use Rattle.sip_transactions.specs.declared.step.Due.{Due}
use Rattle.sip_transactions.specs.declared.step.Due.TheVariants.{Keep, Clear, Ending, Both, Again}
use Rattle.sip_transactions.specs.declared.step.Pace.TheVariants.{Doubled, Capped, Even}

-- the states that a row is for, `None` for no state; its triggers; and what it does
pub record Row : Type 0 where
  pub from : List (Option State)
  pub on : List Trigger
  pub step : Step

-- a row: its states, its triggers, the state after it, what it hands up, what it sends, and the due
-- moments after it
abbrev pub row : List (Option State) → List Trigger → Next → UpAction → Sent → Due → Row
row from on next handed sent due = record {
  from = from;
  on = on;
  step = record { next = next; handed = handed; sent = sent; due = due };
}

-- a row of no state
abbrev pub fresh : List (Option State)
fresh = None ∷ []

-- a row of one state
abbrev pub at : State → List (Option State)
at state = Some state ∷ []

-- a row of two states
abbrev pub either : State → State → List (Option State)
either one other = Some one ∷ Some other ∷ []

-- responses that come, by their status
abbrev pub provisional : List Trigger
provisional = Response class.Trying ∷ Response class.Provisional ∷ []

-- a 2xx that comes
abbrev pub success : List Trigger
success = Response class.Success ∷ []

-- a response of 300 to 699 that comes
abbrev pub failure : List Trigger
failure = Response class.Failure ∷ []

-- any response that comes
abbrev pub any_response : List Trigger
any_response = provisional ++ success ++ failure

-- the user's answers, by their status: 101 to 199, 200 to 299, 300 to 699
abbrev pub answer_1xx : List Trigger
answer_1xx = Answer class.Provisional ∷ []

-- the user's 2xx
abbrev pub answer_2xx : List Trigger
answer_2xx = Answer class.Success ∷ []

-- the user's answer of 300 to 699
abbrev pub answer_failure : List Trigger
answer_failure = Answer class.Failure ∷ []

-- any other trigger, alone
abbrev pub on : Trigger → List Trigger
on trigger = trigger ∷ []

-- The client of an INVITE: RFC 3261, section 17.1.1, and RFC 6026, section 7.2. The ACK of a 2xx is
-- sent by the call. A retransmits the request, B ends the wait for a response. While D runs,
-- retransmitted responses get the ACK again; while M runs, further 2xx go up.
abbrev pub invite_client_rows : List Row
invite_client_rows =
    row fresh (on Start) (Become Calling) up.Nothing send.Given Both  -- +A +B
    ∷ row (at Calling) (on RetransmitDue) Same up.Nothing send.Latest (Again Doubled)  -- !A +A
    ∷ row (at Calling) (on TimeoutDue) Ended up.Timeout send.Nothing Clear  -- !B
    ∷ row (at Calling) (on Failed) Ended up.Failed send.Nothing Clear
    ∷ row (either Calling Proceeding) provisional (Become Proceeding) up.Message send.Nothing Clear
    ∷ row (either Calling Proceeding) success (Become Accepted) up.Message send.Nothing
    (Ending LIFETIME)  -- +M
    ∷ row (either Calling Proceeding) failure (Become Completed) up.Message send.Ack
    (Ending LIFETIME)  -- +D
    ∷ row (at Completed) failure Same up.Nothing send.Latest Keep
    ∷ row (at Completed) (on Failed) Ended up.Failed send.Nothing Clear
    ∷ row (at Accepted) success Same up.Message send.Nothing Keep
    ∷ row (either Completed Accepted) (on TimeoutDue) Ended up.Nothing send.Nothing Clear  -- !D !M
    ∷ row fresh any_response Ended up.NoTransaction send.Nothing Clear
    ∷ []

-- The client of another request: RFC 3261, section 17.1.2. E retransmits the request, F ends the
-- wait for a final response. While K runs, retransmitted responses are absorbed.
abbrev pub client_rows : List Row
client_rows =
    row fresh (on Start) (Become Trying) up.Nothing send.Given Both  -- +E +F
    ∷ row (at Trying) (on RetransmitDue) Same up.Nothing send.Latest (Again Capped)  -- !E +E
    ∷ row (at Proceeding) (on RetransmitDue) Same up.Nothing send.Latest (Again Even)  -- !E +E
    ∷ row (either Trying Proceeding) (on TimeoutDue) Ended up.Timeout send.Nothing Clear  -- !F
    ∷ row (either Trying Proceeding) (on Failed) Ended up.Failed send.Nothing Clear
    ∷ row (either Trying Proceeding) provisional (Become Proceeding) up.Message send.Nothing Keep
    ∷ row (either Trying Proceeding) (success ++ failure) (Become Completed) up.Message send.Nothing
    (Ending T4)  -- +K
    ∷ row (at Completed) (on TimeoutDue) Ended up.Nothing send.Nothing Clear  -- !K
    ∷ row fresh any_response Ended up.NoTransaction send.Nothing Clear
    ∷ []

-- The server of an INVITE: RFC 3261, section 17.2.1, and RFC 6026, section 7.1. G retransmits the
-- response, H ends the wait for the ACK. While I runs, further ACKs are absorbed; while L runs, the
-- ACKs of a 2xx go up.
abbrev pub invite_server_rows : List Row
invite_server_rows =
    row fresh (on Request) (Become Proceeding) up.Message send.Trying Clear
    ∷ row (at Proceeding) (on Request) Same up.Nothing send.Latest Keep
    ∷ row (at Proceeding) answer_1xx Same up.Nothing send.Given Keep
    ∷ row (at Proceeding) answer_2xx (Become Accepted) up.Nothing send.Given
    (Ending LIFETIME)  -- +L
    ∷ row (at Proceeding) answer_failure (Become Completed) up.Nothing send.Given Both  -- +G +H
    ∷ row (at Completed) (on Request) Same up.Nothing send.Latest Keep
    ∷ row (at Completed) (on RetransmitDue) Same up.Nothing send.Latest (Again Capped)  -- !G +G
    ∷ row (at Completed) (on Ack) (Become Confirmed) up.Nothing send.Nothing (Ending T4)  -- +I
    ∷ row (at Completed) (on TimeoutDue) Ended up.Timeout send.Nothing Clear  -- !H
    ∷ row (at Accepted) (on Ack) Same up.Message send.Nothing Keep
    ∷ row (at Accepted) answer_2xx Same up.Nothing send.Given Keep
    ∷ row (either Confirmed Accepted) (on TimeoutDue) Ended up.Nothing send.Nothing Clear  -- !I !L
    ∷ row (either Proceeding Completed ++ either Accepted Confirmed)
    (on Failed) Same up.Failed send.Nothing Keep
    ∷ row fresh (on Ack) Ended up.Message send.Nothing Clear
    ∷ []

-- The server of another request: RFC 3261, section 17.2.2. While J runs, a retransmitted request
-- gets the response again.
abbrev pub server_rows : List Row
server_rows =
    row fresh (on Request) (Become Trying) up.Message send.Nothing Clear
    ∷ row (either Trying Proceeding) answer_1xx (Become Proceeding) up.Nothing send.Given Clear
    ∷ row (either Trying Proceeding) (answer_2xx ++ answer_failure)
    (Become Completed) up.Nothing send.Given (Ending LIFETIME)  -- +J
    ∷ row (either Proceeding Completed) (on Request) Same up.Nothing send.Latest Keep
    ∷ row (at Completed) (on TimeoutDue) Ended up.Nothing send.Nothing Clear  -- !J
    ∷ row (at Trying ++ either Proceeding Completed) (on Failed) Same up.Failed send.Nothing Keep
    ∷ []

-- the table that a transaction goes by
abbrev pub rows_of : Role → List Row
rows_of InviteClient = invite_client_rows
rows_of Client = client_rows
rows_of InviteServer = invite_server_rows
rows_of Server = server_rows

-- ---- the row that fits

-- a state by a number, by which two are compared
abbrev pub state_place : Option State → ℕ
state_place None = 0
state_place (Some Calling) = 1
state_place (Some Trying) = 2
state_place (Some Proceeding) = 3
state_place (Some Completed) = 4
state_place (Some Accepted) = 5
state_place (Some Confirmed) = 6

-- a class by a number, by which two are compared
abbrev pub class_place : Class → ℕ
class_place class.Trying = 0
class_place class.Provisional = 1
class_place class.Success = 2
class_place class.Failure = 3

-- a trigger by a number, by which two are compared
abbrev pub trigger_place : Trigger → ℕ
trigger_place Start = 0
trigger_place RetransmitDue = 1
trigger_place TimeoutDue = 2
trigger_place Failed = 3
trigger_place Request = 4
trigger_place Ack = 5
trigger_place (Response c) = 6 + class_place c
trigger_place (Answer c) = 10 + class_place c

-- a row is for this state and this trigger
abbrev pub fits : Row → Option State → Trigger → Bool
fits row state trigger =
    list_any (λ from. state_place from == state_place state) row.from
    && list_any (λ on. trigger_place on == trigger_place trigger) row.on

-- what the first row that fits does; without such a row nothing changes and there is no output
abbrev pub row_of : List Row → Option State → Trigger → Option Step
row_of rows state trigger = option_map (λ row. row.step) (find (λ row. fits row state trigger) rows)
