-- What a call holds and tells has its own Call-ID.
use Rattle.std.proofs.Common.{◌≡◌, ℕ, Bool, true, false, List, [], ◌∷◌, subst, sym}
use Rattle.std.specs.Prelude.{Option, None, Some}
use Rattle.std.specs.List.{AllByRecursion}
use Rattle.keyed_machine.specs.Machine.{Timed, adds, next, outputs_from, state_from}
use Rattle.keyed_machine.proofs.Ordered.{by_bool}
use Rattle.sip_message.specs.declared.addr.Addr.{Addr}
use Rattle.sip_message.specs.declared.id.Id.{Id}
use Rattle.sip_transactions.specs.declared.output.UpKind.{UpKind}
use Rattle.sip_transactions.specs.declared.output.UpKind.TheVariants as kind
use Rattle.sip_transactions.specs.declared.output.Up.{Up as AnUp}
use Rattle.sip_user.specs.declared.command.UserCommand.{UserCommand}
use Rattle.sip_user.specs.declared.command.UserCommand.TheVariants.{Invite, Plain, Request, Respond, Ack, Prack, Cancel, AbandonRequest, AbandonDialog}
use Rattle.sip_user.specs.declared.item.CallOut.TheVariants.{Notice}
use Rattle.sip_user.specs.declared.item.Item.TheVariants.{Up, User}
use Rattle.sip_user.specs.declared.notice.Notice.{Notice as ANotice}
use Rattle.sip_user.specs.declared.notice.Notice.TheVariants as notice
use Rattle.sip_user.specs.Command.{call_of_command}
use Rattle.sip_user.specs.OwnCall.{IsKindOf}
use Rattle.sip_served.specs.State.{ServedTaken}
use Rattle.sip_served.specs.Tick as served
use Rattle.sip_held_dialogs.proofs.Each.{both}
use Rattle.sip_served.proofs.OwnCall as server
use Rattle.sip_clients.specs.Cancel.{cancel_by_user}
use Rattle.sip_clients.specs.Client.{Side, ClientTaken}
use Rattle.sip_clients.specs.Clients.{ack_by_user, invite_taken, request_lost, plain_taken, prack_by_user, request_by_user, response_taken}
use Rattle.sip_clients.specs.OwnCall.{AreNoticesOf, IsSideOf, KeepsTo, on_side}
use Rattle.sip_clients.specs.Tick as clients
use Rattle.sip_clients.specs.declared.event.Event.{Event}
use Rattle.sip_clients.proofs.Abandons as abandons
use Rattle.sip_clients.specs.Abandon.{dialog_abandoned, request_abandoned}
use Rattle.sip_clients.proofs.OwnCommands.{ack_own, cancel_own, dialog_request_own, invite_own, plain_own, prack_own}
use Rattle.sip_clients.proofs.OwnReplies.{lost_own, response_own, tick_own}
use Rattle.sip_calls.specs.declared.call.Call.{Call}
use Rattle.sip_calls.specs.declared.calls.Calls.{Calls}
use Rattle.sip_calls.specs.Call.{CallItem, Taken, call_machine, call_step, event_of, kept, made_tag, new_call}
use Rattle.sip_calls.specs.OwnCall.{AreSidesOf, EachNoticeIsOwn, IsCallOf, IsInputOf, IsNoticeOf}
use Rattle.sip_calls.specs.Sides.{CallTaken, by_clients, by_server, holds_any, side_of}
use Rattle.sip_calls.specs.Steps.Call.{step_taken, command_taken, first_command_taken, lost_taken, one_after_other, served_taken, ticked, up_taken}
use Rattle.sip_calls.proofs.SameSteps.{same_step}

-- a step that keeps to a Call-ID keeps to an equal one
keeps_same : (step : Side → ClientTaken) (own call_id : List ℕ) → own ≡ call_id
    → KeepsTo own step → KeepsTo call_id step
keeps_same step own call_id same keeps =
    subst (λ (c : List ℕ). KeepsTo c step) same keeps

module _ (call_id : List ℕ) where
  -- both sides of a call, and what is told
  abbrev IsDoneOf : CallTaken → Type 0
  IsDoneOf done = AreSidesOf call_id done.0 × AreNoticesOf call_id done.1

  -- what is held afterwards, if anything, and what is told
  abbrev IsTakenOf : Taken → Type 0
  IsTakenOf taken = IsCallOf call_id taken.0 × AreNoticesOf call_id taken.1

  -- ---- one side of a call takes something

  side_own : (call : Call) → AreSidesOf call_id call → IsSideOf call_id (side_of call)
  side_own call own = record { dialogs = (own.state).dialogs; clients = own.clients }

  server_own : (call : Call) (taken : ServedTaken) → AreSidesOf call_id call
      → server.IsTakenOf call_id taken → IsDoneOf (by_server call taken)
  server_own call taken own its = (record { state = its.0; clients = own.clients }, its.1)

  clients_own : (call : Call) (step : Side → ClientTaken) → AreSidesOf call_id call
      → KeepsTo call_id step → IsDoneOf (by_clients call (step (side_of call)))
  clients_own call step own keeps =
      let its = keeps (side_of call) (side_own call own) in (
        record {
          state = record { requests = (own.state).requests; dialogs = (its.0).dialogs };
          clients = (its.0).clients;
        },
        its.1,
      )

  -- one thing happens, and then another
  after : (done : CallTaken) (more : Call → CallTaken) → IsDoneOf done
      → ((call : Call) → AreSidesOf call_id call → IsDoneOf (more call))
      → IsDoneOf (one_after_other done more)
  after done more first second =
      let later = second done.0 first.0 in
      (later.0, both (IsNoticeOf call_id) done.1 (more done.0).1 first.1 later.1)

  -- ---- what comes up

  lose_own : (call : Call) (id : Id) (notice : ANotice) (timed_out : Bool)
      → IsNoticeOf call_id (Notice notice) → AreSidesOf call_id call
      → IsDoneOf (lost_taken call id notice timed_out)
  lose_own call id notice timed_out its own =
      after (call, Notice notice ∷ [])
      (λ call. by_clients call (request_lost id timed_out (side_of call))) (own, (its, tt))
      (λ call own. clients_own call (request_lost id timed_out) own (lost_own call_id id timed_out))

  served_own : (call : Call) (event : Event) (up : AnUp) (k : UpKind) → up.call_id ≡ call_id
      → IsKindOf call_id k → AreSidesOf call_id call → IsDoneOf (served_taken call event up k)
  served_own call event up k its of_kind own =
      server_own call _ own (server.kind_is call_id call.served (made_tag event) up k event.moment
      its of_kind own.state)

  up_own : (call : Call) (event : Event) (up : AnUp) (k : UpKind) → up.call_id ≡ call_id
      → IsKindOf call_id k → AreSidesOf call_id call → IsDoneOf (up_taken call event up k)
  up_own call event up (kind.Request request reply_to) its of_kind own =
      served_own call event up (kind.Request request reply_to) its of_kind own
  up_own call event up (kind.Ack ack) its of_kind own =
      served_own call event up (kind.Ack ack) its of_kind own
  up_own call event up (kind.Response response) its of_kind own =
      let step = response_taken event up.id up.call_id response in
      clients_own call step own
      (keeps_same step up.call_id call_id its (response_own event up.id up.call_id response))
  up_own call event up kind.Timeout its of_kind own =
      lose_own call up.id (notice.Timeout up.call_id up.id) true its own
  up_own call event up kind.Failed its of_kind own =
      lose_own call up.id (notice.Failed up.call_id up.id) false its own

  -- ---- commands of the user, and a tick

  first_command_own : (call : Call) (event : Event) (command : UserCommand)
      → call_of_command command ≡ call_id → AreSidesOf call_id call
      → IsDoneOf (first_command_taken call event command)
  first_command_own call event (Invite invite) its own =
      let step = on_side (invite_taken event invite) in
      clients_own call step own
      (keeps_same step invite.call_id call_id its (invite_own event invite))
  first_command_own call event (Plain plain) its own =
      let step = on_side (plain_taken event plain) in
      clients_own call step own
      (keeps_same step plain.call_id call_id its (plain_own event plain))
  first_command_own call event (Request request) its own = (own, (its, tt))
  first_command_own call event (Respond respond) its own = (own, (its, tt))
  first_command_own call event (Ack ack) its own = (own, (its, tt))
  first_command_own call event (Prack prack) its own = (own, (its, tt))
  first_command_own call event (Cancel cancel) its own = (own, (its, tt))
  first_command_own call event (AbandonRequest abandon) its own = (own, (its, tt))
  first_command_own call event (AbandonDialog abandon) its own = (own, (its, tt))

  command_own : (call : Call) (event : Event) (command : UserCommand)
      → call_of_command command ≡ call_id → AreSidesOf call_id call
      → IsDoneOf (command_taken call event command)
  command_own call event (Invite invite) its own = (own, (its, tt))
  command_own call event (Plain plain) its own = (own, (its, tt))
  command_own call event (Request request) its own =
      let step = request_by_user event request in
      clients_own call step own
      (keeps_same step request.call_id call_id its (dialog_request_own event request))
  command_own call event (Respond respond) its own =
      server_own call _ own
      (server.respond_is call_id call.served event.id respond event.moment its own.state)
  command_own call event (Ack ack) its own =
      let step = ack_by_user event ack in
      clients_own call step own (keeps_same step ack.call_id call_id its (ack_own event ack))
  command_own call event (Prack prack) its own =
      let step = prack_by_user event prack in
      clients_own call step own
      (keeps_same step prack.call_id call_id its (prack_own event prack))
  command_own call event (Cancel cancel) its own =
      let step = cancel_by_user event cancel in
      clients_own call step own
      (keeps_same step cancel.call_id call_id its (cancel_own event cancel))
  command_own call event (AbandonRequest abandon) its own =
      let step = request_abandoned event abandon in
      clients_own call step own
      (keeps_same step abandon.call_id call_id its (abandons.request_own event abandon))
  command_own call event (AbandonDialog abandon) its own =
      let step = dialog_abandoned event abandon in
      clients_own call step own
      (keeps_same step abandon.call_id call_id its (abandons.dialog_own event abandon))

  ticked_own : (call : Call) (now : ℕ) → AreSidesOf call_id call → IsDoneOf (ticked call now)
  ticked_own call now own =
      let first = served.tick_taken call.served now in
      after (by_server call first)
      (λ call. by_clients call (clients.clients_ticked (side_of call) now))
      (server_own call first own (server.tick_is call_id call.served now own.state))
      (λ call own. clients_own call (λ side. clients.clients_ticked side now) own
      (tick_own call_id now))

  -- ---- all of it

  -- a call under which nothing is held is over
  kept_own : (done : CallTaken) → IsDoneOf done → IsTakenOf (kept done)
  kept_own done its = (
    by_bool (holds_any done.0) (λ some. rw some its.0) (λ none. rw none tt),
    its.1,
  )

  new_own : (local : Addr) → AreSidesOf call_id (new_call local)
  new_own local = record { state = server.empty_is call_id local; clients = tt }

  step_own_taken : (calls : Calls) (state : Option Call) (input : Option CallItem) (now : ℕ)
      → IsCallOf call_id state → IsInputOf call_id input
      → IsCallOf call_id (step_taken calls state input now).0
      × AreNoticesOf call_id (step_taken calls state input now).1
  step_own_taken calls None None now own its = (tt, tt)
  step_own_taken calls (Some call) None now own its =
      kept_own (ticked call now) (ticked_own call now own)
  step_own_taken calls None (Some (id, Up up)) now own its =
      let call = new_call calls.local in
      let event = event_of calls id now in
      kept_own (up_taken call event up up.kind)
      (up_own call event up up.kind its.0 its.1 (new_own calls.local))
  step_own_taken calls None (Some (id, User command)) now own its =
      let call = new_call calls.local in
      let event = event_of calls id now in
      kept_own (first_command_taken call event command)
      (first_command_own call event command its (new_own calls.local))
  step_own_taken calls (Some call) (Some (id, Up up)) now own its =
      let event = event_of calls id now in
      kept_own (up_taken call event up up.kind) (up_own call event up up.kind its.0 its.1 own)
  step_own_taken calls (Some call) (Some (id, User command)) now own its =
      let event = event_of calls id now in
      kept_own (command_taken call event command) (command_own call event command its own)

  pub step_own : (calls : Calls) (state : Option Call) (input : Option CallItem) (now : ℕ)
      → IsCallOf call_id state → IsInputOf call_id input
      → IsCallOf call_id (call_step calls state input now).0
      × AreNoticesOf call_id (call_step calls state input now).1
  step_own calls state input now own its =
      subst (λ (taken : Taken). IsCallOf call_id taken.0 × AreNoticesOf call_id taken.1)
      (sym (same_step calls state input now)) (step_own_taken calls state input now own its)

  -- ---- the machine of a call

  -- each of these inputs has this Call-ID
  abbrev pub AreInputsOf : List (Timed CallItem) → Type 0
  AreInputsOf inputs = AllByRecursion (λ timed. IsInputOf call_id timed.input) inputs

  pub next_own : (calls : Calls) (key : List ℕ) (state : Option Call) (timed : Timed CallItem)
      → IsCallOf call_id state → IsInputOf call_id timed.input
      → IsCallOf call_id (next (call_machine calls) key state timed)
  next_own calls key state timed own its =
      (step_own calls state timed.input timed.moment own its).0

  pub adds_own : (calls : Calls) (key : List ℕ) (state : Option Call) (timed : Timed CallItem)
      → IsCallOf call_id state → IsInputOf call_id timed.input
      → AreNoticesOf call_id (adds (call_machine calls) key state timed)
  adds_own calls key state timed own its =
      (step_own calls state timed.input timed.moment own its).1

  -- what is held after a list of inputs, and each notice that they give
  pub state_from_own : (calls : Calls) (key : List ℕ) (state : Option Call)
      (inputs : List (Timed CallItem)) → IsCallOf call_id state → AreInputsOf inputs
      → IsCallOf call_id (state_from (call_machine calls) key state inputs)
  state_from_own calls key state [] own its = own
  state_from_own calls key state (timed ∷ inputs) own its =
      state_from_own calls key (next (call_machine calls) key state timed) inputs
      (next_own calls key state timed own its.0) its.1

  pub outputs_from_own : (calls : Calls) (key : List ℕ) (state : Option Call)
      (inputs : List (Timed CallItem)) → IsCallOf call_id state → AreInputsOf inputs
      → AreNoticesOf call_id (outputs_from (call_machine calls) key state inputs)
  outputs_from_own calls key state [] own its = tt
  outputs_from_own calls key state (timed ∷ inputs) own its =
      let later = next (call_machine calls) key state timed in
      both (IsNoticeOf call_id) (adds (call_machine calls) key state timed)
      (outputs_from (call_machine calls) key later inputs)
      (adds_own calls key state timed own its.0)
      (outputs_from_own calls key later inputs (next_own calls key state timed own its.0) its.1)

pub each_notice_is_own : EachNoticeIsOwn
each_notice_is_own calls call_id state input now own its =
    step_own call_id calls state input now own its
