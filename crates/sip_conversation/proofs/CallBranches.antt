-- What a call starts has its Call-ID and a branch that an event of its own made, and is no ACK.
use Rattle.std.proofs.Common.{◌≡◌, ℕ, Bool, true, false, cond, List, [], ◌∷◌, refl, ap, ◌∙◌}
use Rattle.std.specs.Prelude.{Option, None, Some, IfSome}
use Rattle.std.specs.List.{AllByRecursion}
use Rattle.std.specs.Map.{lookup}
use Rattle.sip_message.specs.declared.addr.Addr.{Addr}
use Rattle.sip_message.specs.declared.id.Id.{Id}
use Rattle.sip_message.specs.declared.message.Message.{Message}
use Rattle.keyed_machine.specs.Machine.{Timed, outputs_from}
use Rattle.sip_transactions.specs.declared.output.UpKind.{UpKind}
use Rattle.sip_transactions.specs.declared.output.UpKind.TheVariants as kind
use Rattle.sip_transactions.specs.declared.output.Up.{Up as AnUp}
use Rattle.sip_user.specs.Command.{call_of_command}
use Rattle.sip_user.specs.declared.command.UserCommand.{UserCommand}
use Rattle.sip_user.specs.declared.command.UserCommand.TheVariants as user
use Rattle.sip_user.specs.declared.item.CallOut.{CallOut}
use Rattle.sip_user.specs.declared.item.Item.TheVariants.{Up, User}
use Rattle.sip_held_dialogs.specs.Ids.{is_id}
use Rattle.sip_held_dialogs.proofs.Each.{both, each_left}
use Rattle.sip_held_dialogs.proofs.Starts.{ended_starts, starts}
use Rattle.sip_served.proofs.ArrivalRules.{kind_same}
use Rattle.sip_served.proofs.NoStarts.{kind_starts, respond_starts}
use Rattle.sip_served.proofs.ResponseRules.{respond_same}
use Rattle.sip_served.proofs.OwnCall.{empty_is}
use Rattle.sip_served.specs.State.{ServedTaken}
use Rattle.sip_clients.specs.Rules.Ends.{client_tick}
use Rattle.sip_clients.specs.Rules.Requests.{is_invite_kind}
use Rattle.sip_clients.specs.declared.client.Client.{Client}
use Rattle.sip_clients.specs.declared.event.Event.{Event}
use Rattle.sip_calls.specs.Call.{CallItem, CallTaken, Taken, call_machine, call_step, call_tick, event_of, item_of_call, kept, made_tag, new_call, received, side_of}
use Rattle.sip_calls.specs.Histories.{call_from}
use Rattle.sip_calls.specs.OwnCall.{AreSidesOf, IsCallOf, IsInputOf}
use Rattle.sip_calls.specs.Provisionals.{event_in, event_of_kind}
use Rattle.sip_calls.specs.Sides.{by_clients, holds_any}
use Rattle.sip_calls.specs.declared.call.Call.{Call}
use Rattle.sip_calls.specs.declared.calls.Calls.{Calls}
use Rattle.sip_calls.proofs.CallStarts.{tick_silent}
use Rattle.sip_calls.proofs.OwnCall.{each_notice_is_own}
use Rattle.sip_conversation.proofs.Branches.{AreOwn, Comes, Own, OutSays, invite_own, plain_own, silent_say}
use Rattle.sip_conversation.proofs.BranchSteps.{ack_own, cancel_taken, lost_own, prack_own, received_own, request_own}
use Rattle.sip_conversation.proofs.GivenUp.{dialog_given_up, named, request_given_up}

-- nothing is said of commands to cancel
abbrev pub AnyCancel : Id → Message → Type 0
AnyCancel id request = Unit {0}

module _ (calls : Calls) (call_id : List ℕ) (Came : Id → Type 0)
    (Cancels : Id → Message → Type 0) where
  abbrev pub OwnClients : Call → Type 0
  OwnClients call = AreOwn calls.local calls.seed call_id Came Cancels call.clients

  abbrev pub OutIsOwn : CallOut → Type 0
  OutIsOwn = OutSays calls.local calls.seed call_id Came Cancels

  abbrev Says : List CallOut → Type 0
  Says outs = AllByRecursion OutIsOwn outs

  abbrev ComesOf : Event → Type 0
  ComesOf = Comes calls.local calls.seed call_id Came Cancels

  abbrev Done : CallTaken → Type 0
  Done taken = OwnClients taken.0 × Says taken.1

  -- an item of that Call-ID, and of an event that came
  abbrev pub InputComes : Option CallItem → Type 0
  InputComes input = IsInputOf call_id input × IfSome (event_in input) Came

  -- this is said of each command to cancel: of its event, and of the held INVITE that it names
  abbrev CommandCancels : Call → Id → UserCommand → Type 0
  CommandCancels call id (user.Cancel cancel) = (invite : Client)
      → lookup (is_id cancel.id) call.clients ≡ Some invite
      → is_invite_kind invite.kind ≡ true → Cancels id invite.request
  CommandCancels call id _ = Unit {0}

  abbrev pub InputCancels : Option Call → Option CallItem → Type 0
  InputCancels (Some call) (Some (id, User command)) = CommandCancels call id command
  InputCancels (Some call) (Some (id, Up up)) = Unit {0}
  InputCancels (Some call) None = Unit {0}
  InputCancels None input = Unit {0}

  abbrev pub AllCancel : Option Call → List (Timed CallItem) → Type 0
  AllCancel state [] = Unit {0}
  AllCancel state (timed ∷ inputs) = InputCancels state timed.input
      × AllCancel (call_step calls state timed.input timed.moment).0 inputs

  says_none : (outs : List CallOut) → starts outs ≡ [] → Says outs
  says_none outs none = silent_say calls.local calls.seed call_id Came Cancels outs none

  comes_so : (id : Id) (now : ℕ) → Came id → ComesOf (event_of calls id now)
  comes_so id now came = record { home_is = refl; seed_is = refl; came = came }

  -- ---- what comes up

  up_own : (call : Call) (id : Id) (now : ℕ) (up : AnUp) (k : UpKind)
      → IfSome (event_of_kind id k) Came
      → AreSidesOf call_id call → OwnClients call
      → Done (received call (event_of calls id now) up k)
  up_own call id now up (kind.Request request reply_to) came sides own = (
    own,
    says_none _ (ap (λ (taken : ServedTaken). starts taken.1)
        (kind_same call.served (made_tag (event_of calls id now)) up
        (kind.Request request reply_to) now)
        ∙ kind_starts call.served (made_tag (event_of calls id now)) up
        (kind.Request request reply_to) now),
  )
  up_own call id now up (kind.Ack ack) came sides own = (
    own,
    says_none _ (ap (λ (taken : ServedTaken). starts taken.1)
        (kind_same call.served (made_tag (event_of calls id now)) up (kind.Ack ack) now)
        ∙ kind_starts call.served (made_tag (event_of calls id now)) up (kind.Ack ack) now),
  )
  up_own call id now up (kind.Response response) came sides own =
      received_own calls.local calls.seed call_id Came Cancels (event_of calls id now) up.id up.call_id response
      (side_of call) (comes_so id now came) (sides.state).dialogs own
  up_own call id now up kind.Timeout came sides own =
      let so = lost_own calls.local calls.seed call_id Came Cancels up.id true (side_of call) own in
      (so.0, (tt, so.1))
  up_own call id now up kind.Failed came sides own =
      let so = lost_own calls.local calls.seed call_id Came Cancels up.id false (side_of call) own in
      (so.0, (tt, so.1))

  -- ---- commands

  first_own : (call : Call) (id : Id) (now : ℕ) (command : UserCommand) → Came id
      → call_of_command command ≡ call_id → OwnClients call
      → Done (item_of_call false call (event_of calls id now) (User command))
  first_own call id now (user.Invite invite) came its own =
      invite_own calls.local calls.seed call_id Came Cancels (event_of calls id now) invite call.clients
      (comes_so id now came) its own
  first_own call id now (user.Plain plain) came its own =
      plain_own calls.local calls.seed call_id Came Cancels (event_of calls id now) plain call.clients
      (comes_so id now came) its own
  first_own call id now (user.Request request) came its own = (own, (tt, tt))
  first_own call id now (user.Respond respond) came its own = (own, (tt, tt))
  first_own call id now (user.Ack ack) came its own = (own, (tt, tt))
  first_own call id now (user.Prack prack) came its own = (own, (tt, tt))
  first_own call id now (user.Cancel cancel) came its own = (own, (tt, tt))
  first_own call id now (user.AbandonRequest abandon) came its own = (own, (tt, tt))
  first_own call id now (user.AbandonDialog abandon) came its own = (own, (tt, tt))

  command_own : (call : Call) (id : Id) (now : ℕ) (command : UserCommand) → Came id
      → CommandCancels call id command → AreSidesOf call_id call → OwnClients call
      → Done (item_of_call true call (event_of calls id now) (User command))
  command_own call id now (user.Invite invite) came asks sides own = (own, (tt, tt))
  command_own call id now (user.Plain plain) came asks sides own = (own, (tt, tt))
  command_own call id now (user.Request request) came asks sides own =
      request_own calls.local calls.seed call_id Came Cancels (event_of calls id now) request (side_of call)
      (comes_so id now came) (sides.state).dialogs own
  command_own call id now (user.Respond respond) came asks sides own = (
    own,
    says_none _ (ap (λ (taken : ServedTaken). starts taken.1)
        (respond_same call.served id respond now) ∙ respond_starts call.served id respond now),
  )
  command_own call id now (user.Ack ack) came asks sides own =
      ack_own calls.local calls.seed call_id Came Cancels (event_of calls id now) ack (side_of call)
      (comes_so id now came) (sides.state).dialogs own
  command_own call id now (user.Prack prack) came asks sides own =
      prack_own calls.local calls.seed call_id Came Cancels (event_of calls id now) prack (side_of call)
      (comes_so id now came) (sides.state).dialogs own
  command_own call id now (user.Cancel cancel) came asks sides own =
      cancel_taken calls.local calls.seed call_id Came Cancels (event_of calls id now) cancel (side_of call)
      (comes_so id now came) asks own
  command_own call id now (user.AbandonRequest abandon) came asks sides own =
      request_given_up (event_of calls id now) abandon (side_of call)
      (λ taken. Done (by_clients call taken)) (own, (tt, tt))
      (λ client.
      let so = lost_own calls.local calls.seed call_id Came Cancels abandon.id false (side_of call) own in
      (so.0, (tt, so.1)))
  command_own call id now (user.AbandonDialog abandon) came asks sides own =
      dialog_given_up (event_of calls id now) abandon (side_of call)
      (λ taken. Done (by_clients call taken)) (own, (tt, tt))
      (λ held. (own, says_none _ (ended_starts (named abandon) (side_of call).dialogs)))

  -- ---- one input

  new_sides : (local : Addr) → AreSidesOf call_id (new_call local)
  new_sides local = record { state = empty_is call_id local; clients = tt }

  abbrev pub HeldOwn : Option Call → Type 0
  HeldOwn held = IfSome held OwnClients

  abbrev After : Taken → Type 0
  After taken = HeldOwn taken.0 × Says taken.1

  kept_by : (b : Bool) (call : Call) → OwnClients call → HeldOwn (cond b (Some call) None)
  kept_by true call own = own
  kept_by false call own = tt

  kept_own : (taken : CallTaken) → Done taken → After (kept taken)
  kept_own taken done = (kept_by (holds_any taken.0) taken.0 done.0, done.1)

  tick_own : (call : Call) (now : ℕ) → OwnClients call → OwnClients (call_tick call now).0
  unfolding client_tick
  tick_own call now own = each_left (Own calls.local calls.seed call_id Came Cancels) _ call.clients own

  step_own : (state : Option Call) (input : Option CallItem) (now : ℕ) → InputComes input
      → InputCancels state input → IsCallOf call_id state → HeldOwn state
      → After (call_step calls state input now)
  step_own None None now comes asks of own = (tt, tt)
  step_own (Some call) None now comes asks of own = (
    kept_by (holds_any (call_tick call now).0) (call_tick call now).0 (tick_own call now own),
    says_none _ (tick_silent calls (Some call) now),
  )
  step_own None (Some (id, Up up)) now comes asks of own =
      let call = new_call calls.local in
      kept_own (item_of_call false call (event_of calls id now) (Up up))
      (up_own call id now up up.kind comes.1 (new_sides calls.local) tt)
  step_own (Some call) (Some (id, Up up)) now comes asks of own =
      kept_own (item_of_call true call (event_of calls id now) (Up up))
      (up_own call id now up up.kind comes.1 of own)
  step_own None (Some (id, User command)) now comes asks of own =
      let call = new_call calls.local in
      kept_own (item_of_call false call (event_of calls id now) (User command))
      (first_own call id now command comes.1 comes.0 tt)
  step_own (Some call) (Some (id, User command)) now comes asks of own =
      kept_own (item_of_call true call (event_of calls id now) (User command))
      (command_own call id now command comes.1 asks of own)

  -- ---- all inputs

  pub all_own : (state : Option Call) (inputs : List (Timed CallItem))
      → AllByRecursion (λ timed. InputComes timed.input) inputs
      → AllCancel state inputs → IsCallOf call_id state
      → HeldOwn state
      → AllByRecursion OutIsOwn (outputs_from (call_machine calls) call_id state inputs)
  all_own state [] comes asks of own = tt
  all_own state (timed ∷ inputs) comes asks of own =
      let step = call_step calls state timed.input timed.moment in
      let after = step_own state timed.input timed.moment comes.0 asks.0 of own in
      let later = each_notice_is_own calls call_id state timed.input timed.moment of
      (comes.0).0 in
      both OutIsOwn step.1 (outputs_from (call_machine calls) call_id step.0 inputs) after.1
      (all_own step.0 inputs comes.1 asks.1 later.0 after.0)

  -- what is held after them is of its own
  pub held_own : (state : Option Call) (inputs : List (Timed CallItem))
      → AllByRecursion (λ timed. InputComes timed.input) inputs
      → AllCancel state inputs → IsCallOf call_id state
      → HeldOwn state → HeldOwn (call_from calls state inputs)
  held_own state [] comes asks of own = own
  held_own state (timed ∷ inputs) comes asks of own =
      let step = call_step calls state timed.input timed.moment in
      let after = step_own state timed.input timed.moment comes.0 asks.0 of own in
      let later = each_notice_is_own calls call_id state timed.input timed.moment of
      (comes.0).0 in
      held_own step.0 inputs comes.1 asks.1 later.0 after.0

module _ (calls : Calls) (call_id : List ℕ) (Came : Id → Type 0) where
  any_input : (state : Option Call) (input : Option CallItem)
      → InputCancels calls call_id Came AnyCancel state input
  any_input None input = tt
  any_input (Some call) None = tt
  any_input (Some call) (Some (id, Up up)) = tt
  any_input (Some call) (Some (id, User (user.Invite invite))) = tt
  any_input (Some call) (Some (id, User (user.Plain plain))) = tt
  any_input (Some call) (Some (id, User (user.Request request))) = tt
  any_input (Some call) (Some (id, User (user.Respond respond))) = tt
  any_input (Some call) (Some (id, User (user.Ack ack))) = tt
  any_input (Some call) (Some (id, User (user.Prack prack))) = tt
  any_input (Some call) (Some (id, User (user.Cancel cancel))) = λ invite found kind. tt
  any_input (Some call) (Some (id, User (user.AbandonRequest abandon))) = tt
  any_input (Some call) (Some (id, User (user.AbandonDialog abandon))) = tt

  pub any_inputs : (state : Option Call) (inputs : List (Timed CallItem))
      → AllCancel calls call_id Came AnyCancel state inputs
  any_inputs state [] = tt
  any_inputs state (timed ∷ inputs) = (
    any_input state timed.input,
    any_inputs (call_step calls state timed.input timed.moment).0 inputs,
  )
