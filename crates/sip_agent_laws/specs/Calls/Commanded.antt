-- What each command of the user gives: a refusal alone, or what it asks for, once.
use Rattle.std.specs.Prelude.{◌≡◌, ◌⊎◌, ℕ, Bool, true, false, not, List, [], ◌∷◌, Option, Some, codes, filter}
use Rattle.std.specs.Option.{option_and_then, option_map_or}
use Rattle.sip_message.specs.declared.addr.Addr.{Addr}
use Rattle.sip_message.specs.declared.id.Id.{Id}
use Rattle.sip_transactions.specs.declared.input.Command.{Command as Order}
use Rattle.sip_transactions.specs.declared.input.Command.TheVariants as order
use Rattle.sip_user.specs.Command.{call_of_command}
use Rattle.sip_user.specs.declared.command.UserCommand.{UserCommand}
use Rattle.sip_user.specs.declared.command.UserCommand.TheVariants.{Invite, Plain, Request, Respond, Ack, Prack, Cancel, AbandonRequest, AbandonDialog}
use Rattle.sip_user.specs.declared.item.CallOut.{CallOut}
use Rattle.sip_user.specs.declared.item.CallOut.TheVariants.{Command, Direct, Notice}
use Rattle.sip_user.specs.declared.item.Item.TheVariants.{User}
use Rattle.sip_user.specs.declared.refusal.Refusal.{Refusal}
use Rattle.sip_user.specs.Notices.{refused}
use Rattle.sip_held_dialogs.specs.Requests.{is_method}
use Rattle.sip_clients.specs.Client.{Clients, client_at}
use Rattle.sip_calls.specs.declared.call.Call.{Call}
use Rattle.sip_calls.specs.declared.calls.Calls.{Calls}
use Rattle.sip_calls.specs.Call.{Taken, call_step, kept_call}
use Rattle.sip_calls.specs.Provisionals.{side_held}
use Rattle.sip_agent_laws.specs.Calls.Waiting.{lacks_response}

-- ---- what goes out

abbrev pub is_notice : CallOut → Bool
is_notice (Notice notice) = true
is_notice (Command id order) = false
is_notice (Direct to bytes) = false

-- all outputs but what the user is told
abbrev pub goes_out : List CallOut → List CallOut
goes_out outs = filter (λ out. not (is_notice out)) outs

-- a transaction starts with a request of this method
abbrev pub starts : List ℕ → Order → Bool
starts method (order.Start key call_id request to) = is_method method request
starts method (order.Answer key response) = false
starts method (order.Abandon key) = false

abbrev pub answers : Order → Bool
answers (order.Start key call_id request to) = false
answers (order.Answer key response) = true
answers (order.Abandon key) = false

abbrev pub abandons : Order → Bool
abandons (order.Start key call_id request to) = false
abandons (order.Answer key response) = false
abandons (order.Abandon key) = true

-- only one command to a transaction, of this kind
abbrev pub OneCommand : (Order → Bool) → List CallOut → Type 0
OneCommand is_it outs = (id : Id) × (order : Order) × (goes_out outs ≡ Command id order ∷ [])
    × (is_it order ≡ true)

-- only one message without a transaction: an ACK (RFC 3261, section 13.2.2.4)
abbrev pub OneAck : List CallOut → Type 0
OneAck outs = (to : Addr) × (bytes : List ℕ) × (goes_out outs ≡ Direct to bytes ∷ [])

-- ---- the law

-- What a command gives, if these requests of the agent were held. The request, the PRACK, the ACK
-- or the response goes out once, a reliable response too. A CANCEL goes out; or nothing is given,
-- and an INVITE of its id is held that lacks its final response: the CANCEL waits for a provisional
-- one, or was asked for before (RFC 3261, section 9.1). To give up sends nothing.
abbrev pub GivesOne : Clients → UserCommand → List CallOut → Type 0
GivesOne clients (Invite invite) outs = OneCommand (starts (codes "INVITE")) outs
GivesOne clients (Plain plain) outs = OneCommand (starts plain.method) outs
GivesOne clients (Request request) outs = OneCommand (starts request.method) outs
GivesOne clients (Respond respond) outs = OneCommand answers outs
GivesOne clients (Ack ack) outs = OneAck outs
GivesOne clients (Prack prack) outs = OneCommand (starts (codes "PRACK")) outs
GivesOne clients (Cancel cancel) outs = OneCommand (starts (codes "CANCEL")) outs
    ⊎ ((outs ≡ [])
    × (option_map_or lacks_response (client_at cancel.id clients) false ≡ true))
GivesOne clients (AbandonRequest abandon) outs = OneCommand abandons outs
GivesOne clients (AbandonDialog abandon) outs = goes_out outs ≡ []

-- only the refusal is given, and what is held doesn't change
abbrev pub IsRefused : Option Call → Id → UserCommand → Taken → Type 0
IsRefused state event command taken = (refusal : Refusal)
    × (taken ≡ (option_and_then kept_call state, refused event (call_of_command command) refusal))

-- whatever is held, each command of the user is refused, or gives what it asks for
abbrev pub EachCommandIsAnswered : Type 0
EachCommandIsAnswered = (calls : Calls) (state : Option Call) (event : Id) (command : UserCommand)
    (now : ℕ) → let taken = call_step calls state (Some (event, User command)) now in
    IsRefused state event command taken ⊎ GivesOne (side_held state).clients command taken.1
