-- The tables of the four machines (RFC 3261, sections 17.1 and 17.2, and RFC 6026, section 7). Each
-- row has the state and what comes; then the state after it, what goes up, what is sent, and how
-- the timers change. The first row that fits counts; by the last one of a table nothing happens.
-- `None` is no transaction. Beside a row are the letters of the timers that it sets (+) or that
-- fire in it (!). T1 and T4 are those of RFC 3261, section 17, in ms.
use Rattle.std.specs.Prelude.{codes, if◌then◌else◌, Option, None, Some}
use Rattle.std.specs.Str.{bytes_eq}
use Rattle.sip_message.specs.declared.key.Key.{Key}
use Rattle.sip_message.specs.declared.key.Key.TheVariants as key
use Rattle.sip_transactions.specs.declared.state.State.{State}
use Rattle.sip_transactions.specs.declared.state.State.TheVariants.{Calling, Trying, Proceeding, Completed, Accepted, Confirmed}
use Rattle.sip_timers.specs.declared.estimate.TheConstants.{LIFETIME as 64*T1}
use Rattle.sip_transactions.specs.declared.timers.TheConstants.{T4}
use Rattle.sip_transactions.specs.declared.trigger.Class.TheVariants.{Provisional as 101-199, Success as 2xx, Failure as 300-699}
use Rattle.sip_transactions.specs.declared.trigger.Trigger.{Trigger}
use Rattle.sip_transactions.specs.declared.trigger.Trigger.TheVariants.{Start, RetransmitDue, TimeoutDue, Failed, Request, Ack, Response, Answer}
use Rattle.sip_transactions.specs.declared.step.Step.{Step}
use Rattle.sip_transactions.specs.declared.step.Next.{Next}
use Rattle.sip_transactions.specs.declared.step.Next.TheVariants.{Same, Ended, Become as To}
use Rattle.sip_transactions.specs.declared.step.UpAction.{UpAction}
use Rattle.sip_transactions.specs.declared.step.UpAction.TheVariants as up
use Rattle.sip_transactions.specs.declared.step.Sent.{Sent}
use Rattle.sip_transactions.specs.declared.step.Sent.TheVariants as send
use Rattle.sip_transactions.specs.declared.step.Due.{Due}
use Rattle.sip_transactions.specs.declared.step.Due.TheVariants.{Keep, Clear, Ending, Both, Again}
use Rattle.sip_transactions.specs.declared.step.Pace.TheVariants.{Doubled, Capped, Even}

-- A row: the state after it (`Same`, `To` another, or `Ended`: no transaction); what goes up
-- (`Message`: what came; `NoTransaction`: it is dropped); what is sent (`Given`: the message of the
-- input; `Latest`: what was sent last, again; `Trying`: a 100; `Ack`: the ACK of what came); the
-- timers. `Keep`: as they are. `Clear`: none runs. `Ending`: only the ending one runs. `Both`: the
-- repeating one runs T1 and the ending one 64*T1. `Again`: the repeating one runs anew, by T1
-- doubled each time (`Doubled`), that but at most T2 (`Capped`), or T2 (`Even`). `To` the same
-- state is `Same`.
abbrev pub row : Next → UpAction → Sent → Due → Step
row next handed sent due = record { next = next; handed = handed; sent = sent; due = due }

-- INVITE client transaction: RFC 3261, section 17.1.1, and RFC 6026, section 7.2. The ACK of a 2xx
-- is sent by the call. A retransmits the request, B ends the wait for a response. While D runs, a
-- repeated response gets the ACK again; while M runs, 2xx go up. `left`: what the rows above leave.
abbrev pub invite_client : Option State → Trigger → Step
invite_client None Start = row (To Calling) up.Nothing send.Given Both  -- +A +B
invite_client None (Response any) = row Ended up.NoTransaction send.Nothing Clear
invite_client (Some Calling) RetransmitDue =
    row Same up.Nothing send.Latest (Again Doubled)  -- !A +A
invite_client (Some Calling) TimeoutDue = row Ended up.Timeout send.Nothing Clear  -- !B
invite_client (Some Calling) Failed = row Ended up.Failed send.Nothing Clear
invite_client (Some Calling) (Response 2xx) =
    row (To Accepted) up.Message send.Nothing (Ending 64*T1)  -- +M
invite_client (Some Calling) (Response 300-699) =
    row (To Completed) up.Message send.Ack (Ending 64*T1)  -- +D
invite_client (Some Calling) (Response left) =
    row (To Proceeding) up.Message send.Nothing Clear  -- 100 to 199
invite_client (Some Proceeding) (Response 2xx) =
    row (To Accepted) up.Message send.Nothing (Ending 64*T1)  -- +M
invite_client (Some Proceeding) (Response 300-699) =
    row (To Completed) up.Message send.Ack (Ending 64*T1)  -- +D
invite_client (Some Proceeding) (Response left) =
    row (To Proceeding) up.Message send.Nothing Clear  -- 100 to 199
invite_client (Some Completed) (Response 300-699) =
    row Same up.Nothing send.Latest Keep  -- the ACK again
invite_client (Some Completed) Failed = row Ended up.Failed send.Nothing Clear
invite_client (Some Completed) TimeoutDue = row Ended up.Nothing send.Nothing Clear  -- !D
invite_client (Some Accepted) (Response 2xx) = row Same up.Message send.Nothing Keep
invite_client (Some Accepted) TimeoutDue = row Ended up.Nothing send.Nothing Clear  -- !M
invite_client state other = row Same up.Nothing send.Nothing Keep

-- Non-INVITE client transaction: RFC 3261, section 17.1.2. E retransmits the request, F ends the
-- wait for a final response. While K runs, retransmitted responses are absorbed.
abbrev pub client : Option State → Trigger → Step
client None Start = row (To Trying) up.Nothing send.Given Both  -- +E +F
client None (Response any) = row Ended up.NoTransaction send.Nothing Clear
client (Some Trying) RetransmitDue = row Same up.Nothing send.Latest (Again Capped)  -- !E +E
client (Some Proceeding) RetransmitDue = row Same up.Nothing send.Latest (Again Even)  -- !E +E
client (Some Trying) TimeoutDue = row Ended up.Timeout send.Nothing Clear  -- !F
client (Some Proceeding) TimeoutDue = row Ended up.Timeout send.Nothing Clear  -- !F
client (Some Trying) Failed = row Ended up.Failed send.Nothing Clear
client (Some Proceeding) Failed = row Ended up.Failed send.Nothing Clear
client (Some Trying) (Response 2xx) = row (To Completed) up.Message send.Nothing (Ending T4)  -- +K
client (Some Trying) (Response 300-699) =
    row (To Completed) up.Message send.Nothing (Ending T4)  -- +K
client (Some Trying) (Response left) =
    row (To Proceeding) up.Message send.Nothing Keep  -- 100 to 199; E and F run on
client (Some Proceeding) (Response 2xx) =
    row (To Completed) up.Message send.Nothing (Ending T4)  -- +K
client (Some Proceeding) (Response 300-699) =
    row (To Completed) up.Message send.Nothing (Ending T4)  -- +K
client (Some Proceeding) (Response left) =
    row (To Proceeding) up.Message send.Nothing Keep  -- 100 to 199; E and F run on
client (Some Completed) TimeoutDue = row Ended up.Nothing send.Nothing Clear  -- !K
client state other = row Same up.Nothing send.Nothing Keep

-- INVITE server transaction: RFC 3261, section 17.2.1, and RFC 6026, section 7.1. G retransmits the
-- response, H ends the wait for the ACK. While I runs, ACKs are absorbed; while L runs, INVITEs are
-- absorbed, 2xx go out and ACKs go up. A 100 isn't sent: the last row. A failed send ends no server
-- transaction (RFC 6026), but the user is told, even late (RFC 3261, section 17.2.4).
abbrev pub invite_server : Option State → Trigger → Step
invite_server None Request = row (To Proceeding) up.Message send.Trying Clear
invite_server None Ack = row Ended up.Message send.Nothing Clear
invite_server (Some Proceeding) Request = row Same up.Nothing send.Latest Keep
invite_server (Some Proceeding) (Answer 101-199) = row Same up.Nothing send.Given Keep
invite_server (Some Proceeding) (Answer 2xx) =
    row (To Accepted) up.Nothing send.Given (Ending 64*T1)  -- +L
invite_server (Some Proceeding) (Answer 300-699) =
    row (To Completed) up.Nothing send.Given Both  -- +G +H
invite_server (Some Proceeding) Failed = row Same up.Failed send.Nothing Keep
invite_server (Some Completed) Request = row Same up.Nothing send.Latest Keep
invite_server (Some Completed) RetransmitDue =
    row Same up.Nothing send.Latest (Again Capped)  -- !G +G
invite_server (Some Completed) Ack = row (To Confirmed) up.Nothing send.Nothing (Ending T4)  -- +I
invite_server (Some Completed) TimeoutDue = row Ended up.Timeout send.Nothing Clear  -- !H
invite_server (Some Completed) Failed = row Same up.Failed send.Nothing Keep
invite_server (Some Accepted) Ack = row Same up.Message send.Nothing Keep
invite_server (Some Accepted) (Answer 2xx) = row Same up.Nothing send.Given Keep
invite_server (Some Accepted) TimeoutDue = row Ended up.Nothing send.Nothing Clear  -- !L
invite_server (Some Accepted) Failed = row Same up.Failed send.Nothing Keep
invite_server (Some Confirmed) TimeoutDue = row Ended up.Nothing send.Nothing Clear  -- !I
invite_server (Some Confirmed) Failed = row Same up.Failed send.Nothing Keep
invite_server state other = row Same up.Nothing send.Nothing Keep

-- Non-INVITE server transaction: RFC 3261, section 17.2.2. While J runs, a retransmitted request
-- gets the response again.
abbrev pub server : Option State → Trigger → Step
server None Request = row (To Trying) up.Message send.Nothing Clear
server (Some Trying) (Answer 101-199) = row (To Proceeding) up.Nothing send.Given Clear
server (Some Trying) (Answer 2xx) = row (To Completed) up.Nothing send.Given (Ending 64*T1)  -- +J
server (Some Trying) (Answer 300-699) =
    row (To Completed) up.Nothing send.Given (Ending 64*T1)  -- +J
server (Some Trying) Failed = row Same up.Failed send.Nothing Keep
server (Some Proceeding) (Answer 101-199) = row (To Proceeding) up.Nothing send.Given Clear
server (Some Proceeding) (Answer 2xx) =
    row (To Completed) up.Nothing send.Given (Ending 64*T1)  -- +J
server (Some Proceeding) (Answer 300-699) =
    row (To Completed) up.Nothing send.Given (Ending 64*T1)  -- +J
server (Some Proceeding) Request = row Same up.Nothing send.Latest Keep
server (Some Proceeding) Failed = row Same up.Failed send.Nothing Keep
server (Some Completed) Request = row Same up.Nothing send.Latest Keep
server (Some Completed) TimeoutDue = row Ended up.Nothing send.Nothing Clear  -- !J
server (Some Completed) Failed = row Same up.Failed send.Nothing Keep
server state other = row Same up.Nothing send.Nothing Keep

-- the table of a transaction, by its key: that of its side, and of an INVITE or another request
unfoldable pub table : Key → Option State → Trigger → Step
table (key.Client branch method) =
    if bytes_eq method (codes "INVITE") then invite_client else client
table (key.Server branch sent_by method) =
    if bytes_eq method (codes "INVITE") then invite_server else server
