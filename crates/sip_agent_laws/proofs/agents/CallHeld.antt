-- What a whole call holds without a final response, after one input.
use Rattle.std.proofs.Common.{◌≡◌, inl, inr, ⊎_elim, ℕ, true, false, List, [], ◌∷◌, refl, sym, ap, ◌∙◌, subst, arith}
use Rattle.std.specs.Prelude.{Option, None, Some, nat_lt}
use Rattle.std.proofs.lemmas.Grind.{common_steps}
use Rattle.sip_message.specs.declared.id.Id.{Id}
use Rattle.sip_message.specs.declared.key.Key.{Key}
use Rattle.sip_message.specs.declared.message.Message.{Message}
use Rattle.sip_transactions.specs.declared.output.Up.{Up as AnUp}
use Rattle.sip_transactions.specs.declared.output.UpKind.{UpKind}
use Rattle.sip_transactions.specs.declared.output.UpKind.TheVariants as kind
use Rattle.sip_user.specs.Command.{call_of_command}
use Rattle.sip_user.specs.declared.command.UserCommand.{UserCommand}
use Rattle.sip_user.specs.declared.command.UserCommand.TheVariants as user
use Rattle.sip_user.specs.declared.item.CallOut.{CallOut}
use Rattle.sip_user.specs.declared.item.CallOut.TheVariants as out
use Rattle.sip_user.specs.declared.notice.Notice.{Notice as ANotice}
use Rattle.sip_user.specs.declared.item.Item.TheVariants.{Up, User}
use Rattle.sip_held_dialogs.specs.Ids.{is_id}
use Rattle.sip_held_dialogs.specs.Requests.{is_final}
use Rattle.sip_held_dialogs.proofs.Starts.{starts}
use Rattle.sip_served.specs.State.{ServedTaken}
use Rattle.sip_served.proofs.ArrivalRules.{kind_same}
use Rattle.sip_served.proofs.NoStarts.{kind_starts, respond_starts}
use Rattle.sip_served.proofs.ResponseRules.{respond_same}
use Rattle.sip_clients.specs.Client.{Clients, Side}
use Rattle.sip_clients.specs.Rules.Responses.{status_of}
use Rattle.sip_calls.specs.declared.call.Call.{Call}
use Rattle.sip_calls.specs.declared.calls.Calls.{Calls}
use Rattle.sip_calls.specs.Call.{CallItem, call_step, call_tick, event_of, item_of_call, kept, made_tag, new_call, received}
use Rattle.sip_calls.specs.OwnCall.{AreSidesOf, IsCallOf, IsInputOf}
use Rattle.sip_calls.specs.Provisionals.{side_held}
use Rattle.sip_calls.specs.Sides.{CallTaken, side_of}
use Rattle.sip_calls.proofs.CallStarts.{tick_silent}
use Rattle.sip_calls.proofs.KeptSides.{kept_side}
use Rattle.sip_agent_laws.proofs.agents.ClientsHeld as asked
use Rattle.sip_agent_laws.proofs.agents.ClientsHeld.{Goes, Steps, abandon_dialog_goes, abandon_goes, ack_goes, calm_goes, cancel_goes, invite_goes, lost_goes, plain_goes, prack_goes, request_goes, response_goes, silent, tick_holds}
use Rattle.sip_agent_laws.proofs.agents.OpenLives.{KindIsMild}

-- ---- a request of the call

-- what comes up under this id is at most a provisional response
abbrev pub IsHarmless : Id → Id → UpKind → Type 0
IsHarmless id own (kind.Request request reply_to) = Unit {0}
IsHarmless id own (kind.Ack ack) = Unit {0}
IsHarmless id own (kind.Response response) = is_id own id ≡ true → (status : ℕ)
    → status_of response.start ≡ Some status → is_final status ≡ false
IsHarmless id own kind.Timeout = is_id own id ≡ false
IsHarmless id own kind.Failed = is_id own id ≡ false

abbrev pub InputIsHarmless : Id → Option CallItem → Type 0
InputIsHarmless id None = Unit {0}
InputIsHarmless id (Some (event, Up up)) = IsHarmless id up.id up.kind
InputIsHarmless id (Some (event, User c)) = Unit {0}

early_status : (one status : ℕ) → Some one ≡ Some status → nat_lt one 200 ≡ true
    → is_final status ≡ false
early_status one status same early =
    let is : one ≡ status = cc in
    subst (λ (n : ℕ). is_final n ≡ false) is (grind (arith, common_steps, early))

pub mild_status : (response : Message) → KindIsMild (kind.Response response) → (status : ℕ)
    → status_of response.start ≡ Some status → is_final status ≡ false
mild_status response mild status is =
    early_status mild.0 status (sym (ap status_of mild.2) ∙ is) mild.3

module _ (k : Key) (id : Id) (commanded : asked.IsCommanded k) (of : List ℕ) where
  abbrev GoesIn : Call → CallTaken → Type 0
  GoesIn call taken = Goes k id of call.clients (taken.0).clients taken.1

  unchanged : (call : Call) (outs : List CallOut) → starts outs ≡ []
      → Goes k id of call.clients call.clients outs
  unchanged call outs none =
      calm_goes k id of call.clients call.clients outs
      (silent k id call.clients call.clients outs none (λ ours. ours))

  told_first : (before after : Clients) (notice : ANotice) (outs : List CallOut)
      → Goes k id of before after outs
      → Goes k id of before after (out.Notice notice ∷ outs)
  told_first before after notice outs goes = record {
    keeps = record {
      is = λ ours free. ⊎_elim (λ still. inl still)
          (λ gone. inr (gone.0, inr gone.1, gone.2)) (goes.keeps.is ours free.1);
    };
    begins = λ call_id begins. ⊎_elim
        (λ same. absurd (subst (asked.IsStartOut k id call_id) (sym same) begins.2))
        (λ later. goes.begins call_id (begins.0, later, begins.2)) begins.1;
  }

  up_goes : (calls : Calls) (call : Call) (event : Id) (now : ℕ) (up : AnUp) (its : UpKind)
      → IsHarmless id up.id its → GoesIn call (received call (event_of calls event now) up its)
  up_goes calls call event now up (kind.Response response) harmless =
      (response_goes k id commanded of (event_of calls event now) up.id up.call_id response
      (side_of call) harmless).goes
  up_goes calls call event now up kind.Timeout harmless =
      told_first call.clients _ _ _
      (lost_goes k id commanded of up.id true (side_of call) harmless).goes
  up_goes calls call event now up kind.Failed harmless =
      told_first call.clients _ _ _
      (lost_goes k id commanded of up.id false (side_of call) harmless).goes
  up_goes calls call event now up its harmless =
      unchanged call _ (ap (λ (taken : ServedTaken). starts taken.1)
      (kind_same call.served (made_tag (event_of calls event now)) up its now)
      ∙ kind_starts call.served (made_tag (event_of calls event now)) up its now)

  first_goes : (calls : Calls) (call : Call) (event : Id) (now : ℕ) (c : UserCommand)
      → call_of_command c ≡ of
      → GoesIn call (item_of_call false call (event_of calls event now) (User c))
  first_goes calls call event now (user.Invite invited) own =
      invite_goes k id commanded of (event_of calls event now) invited call.clients own
  first_goes calls call event now (user.Plain plain) own =
      plain_goes k id commanded of (event_of calls event now) plain call.clients own
  first_goes calls call event now _ own = unchanged call _ refl

  command_goes : (calls : Calls) (call : Call) (event : Id) (now : ℕ) (c : UserCommand)
      → AreSidesOf of call
      → GoesIn call (item_of_call true call (event_of calls event now) (User c))
  command_goes calls call event now (user.Invite invited) sides = unchanged call _ refl
  command_goes calls call event now (user.Plain plain) sides = unchanged call _ refl
  command_goes calls call event now (user.Request request) sides =
      (request_goes k id commanded of (event_of calls event now) request (side_of call)
      (sides.state).dialogs).goes
  command_goes calls call event now (user.Respond respond) sides =
      unchanged call _ (ap (λ (taken : ServedTaken). starts taken.1)
      (respond_same call.served event respond now) ∙ respond_starts call.served event respond now)
  command_goes calls call event now (user.Ack ack) sides =
      (ack_goes k id commanded of (event_of calls event now) ack (side_of call)).goes
  command_goes calls call event now (user.Prack prack) sides =
      (prack_goes k id commanded of (event_of calls event now) prack (side_of call)).goes
  command_goes calls call event now (user.Cancel cancel) sides =
      (cancel_goes k id commanded of (event_of calls event now) cancel (side_of call)).goes
  command_goes calls call event now (user.AbandonRequest abandon) sides =
      (abandon_goes k id commanded of (event_of calls event now) abandon (side_of call)).goes
  command_goes calls call event now (user.AbandonDialog abandon) sides =
      (abandon_dialog_goes k id commanded of (event_of calls event now) abandon (side_of call)).goes

  abbrev pub GoesHeld : Option Call → Option Call × List CallOut → Type 0
  GoesHeld call taken =
      Goes k id of (side_held call).clients (side_held taken.0).clients taken.1

  kept_goes : (before : Option Call) (taken : CallTaken)
      → Goes k id of (side_held before).clients (taken.0).clients taken.1
      → GoesHeld before (kept taken)
  kept_goes before taken goes =
      subst (λ (side : Side). Goes k id of (side_held before).clients side.clients taken.1)
      (sym (kept_side taken.0)) goes

  pub step_goes : (calls : Calls) (call : Option Call) (input : Option CallItem) (now : ℕ)
      → IsCallOf of call → IsInputOf of input → InputIsHarmless id input
      → GoesHeld call (call_step calls call input now)
  step_goes calls None None now own its harmless =
      calm_goes k id of [] [] [] (silent k id [] [] [] refl (λ ours. ours))
  step_goes calls None (Some (event, Up up)) now own its harmless =
      kept_goes None (item_of_call false (new_call calls.local) (event_of calls event now) (Up up))
      (up_goes calls (new_call calls.local) event now up up.kind harmless)
  step_goes calls None (Some (event, User c)) now own its harmless =
      kept_goes None (item_of_call false (new_call calls.local) (event_of calls event now) (User c))
      (first_goes calls (new_call calls.local) event now c its)
  step_goes calls (Some call) None now own its harmless =
      kept_goes (Some call) (call_tick call now)
      (calm_goes k id of call.clients _ _
      (silent k id call.clients _ _ (tick_silent calls (Some call) now)
      (λ ours. tick_holds k id commanded _ now ours)))
  step_goes calls (Some call) (Some (event, Up up)) now own its harmless =
      kept_goes (Some call) (item_of_call true call (event_of calls event now) (Up up))
      (up_goes calls call event now up up.kind harmless)
  step_goes calls (Some call) (Some (event, User c)) now own its harmless =
      kept_goes (Some call) (item_of_call true call (event_of calls event now) (User c))
      (command_goes calls call event now c own)

-- ---- a tick

pub tick_asked : (k : Key) (id : Id) → asked.IsCommanded k → (calls : Calls)
    (call : Option Call) (now : ℕ) → asked.Holds k id (side_held call).clients
    → asked.Holds k id (side_held (call_step calls call None now).0).clients
tick_asked k id commanded calls None now ours = absurd (none_found ours.1)
  where
    none_found : {X : Type 0} {x : X} → None ≡ Some x → ⊥
    none_found same = absurd cc
tick_asked k id commanded calls (Some call) now ours =
    subst (λ (side : Side). asked.Holds k id side.clients)
    (sym (kept_side (call_tick call now).0)) (tick_holds k id commanded _ now ours)
