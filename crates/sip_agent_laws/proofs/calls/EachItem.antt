-- The outputs of an item of a call, by each kind of output.
use Rattle.std.proofs.Common.{◌≡◌, ℕ, true, false, List, refl}
use Rattle.std.specs.Prelude.{Option, None, Some}
use Rattle.std.specs.List.{AllByRecursion}
use Rattle.sip_message.specs.declared.id.Id.{Id}
use Rattle.sip_message.specs.declared.message.Message.{Message}
use Rattle.sip_transactions.specs.declared.output.UpKind.{UpKind}
use Rattle.sip_transactions.specs.declared.output.UpKind.TheVariants as kind
use Rattle.sip_transactions.specs.declared.output.Up.{Up as AnUp}
use Rattle.sip_user.specs.declared.command.Respond.{Respond as RespondCommand}
use Rattle.sip_user.specs.declared.command.UserCommand.{UserCommand}
use Rattle.sip_user.specs.declared.command.UserCommand.TheVariants as user
use Rattle.sip_user.specs.declared.item.CallOut.{CallOut}
use Rattle.sip_user.specs.declared.item.CallOut.TheVariants as out
use Rattle.sip_user.specs.declared.item.Item.{Item}
use Rattle.sip_user.specs.declared.item.Item.TheVariants.{Up, User}
use Rattle.sip_user.specs.declared.notice.Notice.TheVariants as notice
use Rattle.sip_user.specs.declared.refusal.Refusal.TheVariants.{CallInUse, NoSuchCall}
use Rattle.sip_served.specs.Respond.{respond_taken}
use Rattle.sip_served.specs.State.{State}
use Rattle.sip_served.specs.Step.{kind_taken}
use Rattle.sip_clients.specs.declared.client.Client.{Client}
use Rattle.sip_clients.specs.declared.event.Event.{Event}
use Rattle.sip_clients.specs.Abandon.{end_command}
use Rattle.sip_clients.proofs.ClientOuts.{Allows, ResponseAllowed, abandon_dialog_told, abandon_request_told, ack_command_told, cancel_told, command_told, invite_told, lost_told, plain_told, prack_command_told, response_told}
use Rattle.sip_calls.specs.declared.call.Call.{Call}
use Rattle.sip_calls.specs.declared.calls.Calls.{Calls}
use Rattle.sip_calls.specs.Call.{event_of, made_tag, new_call}
use Rattle.sip_calls.specs.Sides.{side_of}
use Rattle.sip_calls.specs.Steps.Call.{command_taken, first_command_taken, step_taken, up_taken}

module _ (P : CallOut → Type 0) where
  -- P is true of every output of an item but the notices of responses, and of transactions that
  -- timed out or couldn't send
  pub record PassesOthers : Type 0 where
    pub allows : Allows P
    pub gives_up : (id : Id) (client : Client) → P (end_command id client)
    pub kinds : (state : State) (tag : List ℕ) (up : AnUp) (k : UpKind) (now : ℕ)
        → AllByRecursion P (kind_taken state tag up k now).1
    pub responds : (state : State) (id : Id) (respond : RespondCommand) (now : ℕ)
        → AllByRecursion P (respond_taken state id respond now).1

  -- and of these
  pub record Passes : Type 0 where
    pub others : PassesOthers
    pub timeout : (call_id : List ℕ) (id : Id) → P (out.Notice (notice.Timeout call_id id))
    pub failed : (call_id : List ℕ) (id : Id) → P (out.Notice (notice.Failed call_id id))

module _ (P : CallOut → Type 0) (allows : Allows P)
    (gives_up : (id : Id) (client : Client) → P (end_command id client)) where
  abbrev AllOf : List CallOut → Type 0
  AllOf outs = AllByRecursion P outs

  -- a command while nothing is held
  pub first_passes : (call : Call) (event : Event) (command : UserCommand)
      → AllOf (first_command_taken call event command).1
  first_passes call event (user.Invite invite) =
      invite_told P allows event invite call.clients
  first_passes call event (user.Plain plain) =
      plain_told P allows event plain call.clients
  first_passes call event (user.Request request) =
      (allows.refusal request.call_id event.id.place NoSuchCall, tt)
  first_passes call event (user.Respond respond) =
      (allows.refusal respond.call_id event.id.place NoSuchCall, tt)
  first_passes call event (user.Ack ack) =
      (allows.refusal ack.call_id event.id.place NoSuchCall, tt)
  first_passes call event (user.Prack prack) =
      (allows.refusal prack.call_id event.id.place NoSuchCall, tt)
  first_passes call event (user.Cancel cancel) =
      (allows.refusal cancel.call_id event.id.place NoSuchCall, tt)
  first_passes call event (user.AbandonRequest abandon) =
      (allows.refusal abandon.call_id event.id.place NoSuchCall, tt)
  first_passes call event (user.AbandonDialog abandon) =
      (allows.refusal abandon.call_id event.id.place NoSuchCall, tt)

  -- a command while something is held
  pub command_passes : (call : Call) (event : Event) (command : UserCommand)
      → ((respond : RespondCommand) → command ≡ user.Respond respond
      → AllOf (respond_taken call.served event.id respond event.moment).1)
      → AllOf (command_taken call event command).1
  command_passes call event (user.Invite invite) responds =
      (allows.refusal invite.call_id event.id.place CallInUse, tt)
  command_passes call event (user.Plain plain) responds =
      (allows.refusal plain.call_id event.id.place CallInUse, tt)
  command_passes call event (user.Request request) responds =
      command_told P allows event request (side_of call)
  command_passes call event (user.Respond respond) responds =
      responds respond refl
  command_passes call event (user.Ack ack) responds =
      ack_command_told P allows event ack (side_of call)
  command_passes call event (user.Prack prack) responds =
      prack_command_told P allows event prack (side_of call)
  command_passes call event (user.Cancel cancel) responds =
      cancel_told P allows event cancel (side_of call)
  command_passes call event (user.AbandonRequest abandon) responds =
      abandon_request_told P allows event abandon (side_of call)
      (gives_up abandon.id)
  command_passes call event (user.AbandonDialog abandon) responds =
      abandon_dialog_told P allows event abandon (side_of call)

module _ (P : CallOut → Type 0) (passes : Passes P) where
  abbrev AllPass : List CallOut → Type 0
  AllPass outs = AllByRecursion P outs

  abbrev others : PassesOthers P
  others = passes.others

  -- what comes up, if P is true of the notice of a response
  pub up_passes : (call : Call) (event : Event) (up : AnUp) (k : UpKind)
      → ((response : Message) → k ≡ kind.Response response
      → ResponseAllowed P others.allows event up.id up.call_id response)
      → AllPass (up_taken call event up k).1
  up_passes call event up (kind.Response response) brings =
      response_told P others.allows event up.id up.call_id response (side_of call)
      (brings response refl)
  up_passes call event up kind.Timeout brings =
      (passes.timeout up.call_id up.id, lost_told P others.allows up.id true (side_of call))
  up_passes call event up kind.Failed brings =
      (passes.failed up.call_id up.id, lost_told P others.allows up.id false (side_of call))
  up_passes call event up its brings =
      others.kinds call.served (made_tag event) up its event.moment

  -- an item, whatever is held
  pub item_passes : (calls : Calls) (state : Option Call) (id : Id) (item : Item) (now : ℕ)
      → ((up : AnUp) (response : Message) → item ≡ Up up → up.kind ≡ kind.Response response
      → ResponseAllowed P others.allows (event_of calls id now) up.id up.call_id response)
      → AllPass (step_taken calls state (Some (id, item)) now).1
  item_passes calls None id (Up up) now brings =
      up_passes (new_call calls.local) (event_of calls id now) up up.kind
      (λ response. brings up response refl)
  item_passes calls (Some call) id (Up up) now brings =
      up_passes call (event_of calls id now) up up.kind (λ response. brings up response refl)
  item_passes calls None id (User command) now brings =
      first_passes P others.allows others.gives_up (new_call calls.local) (event_of calls id now) command
  item_passes calls (Some call) id (User command) now brings =
      command_passes P others.allows others.gives_up call (event_of calls id now) command
      (λ respond is. others.responds call.served id respond now)
