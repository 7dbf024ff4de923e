-- Each text that a call sends outside of any transaction is that of an ACK.
use Rattle.std.proofs.Common.{⊎_elim, ℕ, Bool, true, false, cond, List, [], ◌∷◌, sym, subst, arith}
use Rattle.std.specs.Prelude.{Contains, IfSome, Option, None, Some}
use Rattle.std.specs.List.{AllByRecursion}
use Rattle.std.proofs.lemmas.List.Elements.{Contains-append_cases, Contains-push_cases}
use Rattle.sip_message.specs.declared.addr.Addr.{Addr}
use Rattle.keyed_machine.specs.Laws.{EachKeyAlone}
use Rattle.keyed_machine.specs.Machine.{Timed, outputs_from, tick_at}
use Rattle.sip_transactions.specs.declared.output.UpKind.{UpKind}
use Rattle.sip_transactions.specs.declared.output.UpKind.TheVariants as kind
use Rattle.sip_transactions.specs.declared.output.Up.{Up as AnUp}
use Rattle.sip_user.specs.declared.command.UserCommand.{UserCommand}
use Rattle.sip_user.specs.declared.command.UserCommand.TheVariants as user
use Rattle.sip_user.specs.declared.item.CallOut.{CallOut}
use Rattle.sip_user.specs.declared.item.CallOut.TheVariants as out
use Rattle.sip_user.specs.declared.item.Item.TheVariants.{Up, User}
use Rattle.sip_held_dialogs.proofs.Each.{both}
use Rattle.sip_served.specs.Step.{kind_taken}
use Rattle.sip_served.specs.Tick.{tick_taken}
use Rattle.sip_served.proofs.ServedAnswers.{AllowsServed}
use Rattle.sip_clients.specs.Tick.{clients_ticked}
use Rattle.sip_clients.specs.declared.event.Event.{Event}
use Rattle.sip_clients.proofs.ClientAsks.{AskAll, OutSays, abandon_dialog_says, abandon_request_says, ack_command_says, cancel_says, clients_tick_says, command_says, invite_says, lost_says, plain_says, prack_command_says, response_says}
use Rattle.sip_calls.specs.Call.{CallItem, Taken, call_machine, call_step, event_of, kept, made_tag, new_call}
use Rattle.sip_calls.specs.CallShard.{call_cmp}
use Rattle.sip_calls.specs.Sides.{CallTaken, by_server, holds_any, side_of}
use Rattle.sip_calls.specs.Steps.Call.{command_taken, first_command_taken, step_taken, ticked, up_taken}
use Rattle.sip_calls.specs.declared.call.Call.{Call}
use Rattle.sip_calls.specs.declared.calls.Calls.{Calls}
use Rattle.sip_calls.proofs.SameSteps.{same_step}
use Rattle.sip_round.specs.Answers.{calls_of, past_of}
use Rattle.sip_round.specs.Laws.{call_inputs_of, said_of_call}
use Rattle.sip_round.specs.declared.config.Config.{Config}
use Rattle.sip_round.specs.declared.round.Round.{Round}
use Rattle.sip_round.proofs.Said.{call_alone}
use Rattle.sip_agent_laws.specs.Histories.DirectSends.{IsAckText}
use Rattle.sip_agent_laws.proofs.calls.ServerOuts.{Any, kind_passes, respond_passes, tick_passes}

abbrev Say : List CallOut → Type 0
Say outs = AllByRecursion (OutSays Any) outs

-- ---- the server side sends nothing directly

allows_served : AllowsServed (OutSays Any) Any
allows_served = record { told = λ one other. tt; answer = λ id key {message} here. tt }

-- ---- one input

-- the ACKs that the client requests keep, and what is given
abbrev CallSays : CallTaken → Type 0
CallSays taken = AskAll (taken.0).clients × Say taken.1

served_says : (call : Call) (event : Event) (up : AnUp) (k : UpKind)
    → Say (by_server call (kind_taken call.served (made_tag event) up k event.moment)).1
served_says call event up k =
    kind_passes (OutSays Any) allows_served call.served (made_tag event) up k event.moment

up_says : (call : Call) (event : Event) (up : AnUp) (k : UpKind) → AskAll call.clients
    → CallSays (up_taken call event up k)
up_says call event up (kind.Request request reply_to) all =
    (all, served_says call event up (kind.Request request reply_to))
up_says call event up (kind.Ack ack) all = (all, served_says call event up (kind.Ack ack))
up_says call event up (kind.Response response) all =
    response_says Any event up.id up.call_id response (side_of call) all
up_says call event up kind.Timeout all =
    let so = lost_says Any up.id true (side_of call) all in (so.0, (tt, so.1))
up_says call event up kind.Failed all =
    let so = lost_says Any up.id false (side_of call) all in (so.0, (tt, so.1))

first_says : (call : Call) (event : Event) (command : UserCommand) → AskAll call.clients
    → CallSays (first_command_taken call event command)
first_says call event (user.Invite invite) all = invite_says Any event invite call.clients all
first_says call event (user.Plain plain) all = plain_says Any event plain call.clients all
first_says call event _ all = (all, (tt, tt))

user_says : (call : Call) (event : Event) (command : UserCommand) → AskAll call.clients
    → CallSays (command_taken call event command)
user_says call event (user.Invite invite) all = (all, (tt, tt))
user_says call event (user.Plain plain) all = (all, (tt, tt))
user_says call event (user.Request request) all =
    command_says Any event request (side_of call) all
user_says call event (user.Respond respond) all = (
  all,
  respond_passes (OutSays Any) allows_served call.served event.id respond event.moment,
)
user_says call event (user.Ack ack) all = ack_command_says Any event ack (side_of call) all
user_says call event (user.Prack prack) all =
    prack_command_says Any event prack (side_of call) all
user_says call event (user.Cancel cancel) all = cancel_says Any event cancel (side_of call) all
user_says call event (user.AbandonRequest abandon) all =
    abandon_request_says Any event abandon (side_of call) all
user_says call event (user.AbandonDialog abandon) all =
    abandon_dialog_says Any event abandon (side_of call) all

tick_says : (call : Call) (now : ℕ) → AskAll call.clients → CallSays (ticked call now)
tick_says call now all =
    let first = by_server call (tick_taken call.served now) in
    let so = clients_tick_says Any (side_of first.0) now all in (
      so.0,
      both (OutSays Any) first.1 (clients_ticked (side_of first.0) now).1
          (tick_passes (OutSays Any) allows_served call.served now) so.1,
    )

abbrev HeldAsks : Option Call → Type 0
HeldAsks held = IfSome held (λ call. AskAll call.clients)

abbrev After : Taken → Type 0
After taken = HeldAsks taken.0 × Say taken.1

kept_by : (b : Bool) (call : Call) → AskAll call.clients → HeldAsks (cond b (Some call) None)
kept_by true call all = all
kept_by false call all = tt

kept_says : (taken : CallTaken) → CallSays taken → After (kept taken)
kept_says taken done = (kept_by (holds_any taken.0) taken.0 done.0, done.1)

taken_says : (calls : Calls) (state : Option Call) (input : Option CallItem) (now : ℕ)
    → HeldAsks state → After (step_taken calls state input now)
taken_says calls None None now asks = (tt, tt)
taken_says calls (Some call) None now asks = kept_says (ticked call now) (tick_says call now asks)
taken_says calls None (Some (event, Up up)) now asks =
    let call = new_call calls.local in
    kept_says (up_taken call (event_of calls event now) up up.kind)
    (up_says call (event_of calls event now) up up.kind tt)
taken_says calls (Some call) (Some (event, Up up)) now asks =
    kept_says (up_taken call (event_of calls event now) up up.kind)
    (up_says call (event_of calls event now) up up.kind asks)
taken_says calls None (Some (event, User command)) now asks =
    let call = new_call calls.local in
    kept_says (first_command_taken call (event_of calls event now) command)
    (first_says call (event_of calls event now) command tt)
taken_says calls (Some call) (Some (event, User command)) now asks =
    kept_says (command_taken call (event_of calls event now) command)
    (user_says call (event_of calls event now) command asks)

step_says : (calls : Calls) (state : Option Call) (input : Option CallItem) (now : ℕ)
    → HeldAsks state → After (call_step calls state input now)
step_says calls state input now asks =
    subst After (sym (same_step calls state input now)) (taken_says calls state input now asks)

-- ---- all inputs

all_say : (calls : Calls) (call_id : List ℕ) (state : Option Call)
    (inputs : List (Timed CallItem)) → HeldAsks state
    → Say (outputs_from (call_machine calls) call_id state inputs)
all_say calls call_id state [] asks = tt
all_say calls call_id state (timed ∷ inputs) asks =
    let step = call_step calls state timed.input timed.moment in
    let after = step_says calls state timed.input timed.moment asks in
    both (OutSays Any) step.1 (outputs_from (call_machine calls) call_id step.0 inputs) after.1
    (all_say calls call_id step.0 inputs after.0)

-- ---- one of the outputs

direct_among : (outs : List CallOut) (to : Addr) (bytes : List ℕ) → Say outs
    → Contains outs (out.Direct to bytes) → IsAckText bytes
direct_among [] to bytes says among = let within = among.1 in absurd (omega arith)
direct_among (o ∷ outs) to bytes says among =
    ⊎_elim
    (λ one. ⊎_elim
    (λ none. let within = none.1 in absurd (omega arith))
    (λ same. let so = subst (OutSays Any) same says.0 in record {
      ack = so.0;
      text = so.1;
      is_request = so.2.request;
      method = so.2.method;
    })
    (Contains-push_cases [] o (out.Direct to bytes) one))
    (λ later. direct_among outs to bytes says.1 later)
    (Contains-append_cases (o ∷ []) outs (out.Direct to bytes) among)

pub directs_are_acks : (config : Config)
    → EachKeyAlone call_cmp (call_machine (calls_of config)) tick_at
    → (rounds : List Round) (call_id : List ℕ) (to : Addr) (bytes : List ℕ)
    → Contains (said_of_call config rounds call_id) (out.Direct to bytes) → IsAckText bytes
directs_are_acks config alone rounds call_id to bytes said =
    let calls = calls_of config in
    let inputs = call_inputs_of config rounds call_id in
    direct_among (outputs_from (call_machine calls) call_id None inputs) to bytes
    (all_say calls call_id None inputs tt)
    (subst (λ outs. Contains outs (out.Direct to bytes))
    (call_alone calls alone [] (past_of config rounds).calls call_id) said)
