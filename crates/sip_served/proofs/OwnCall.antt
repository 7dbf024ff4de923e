-- What the server side of a call holds and tells has its own Call-ID.
use Rattle.std.proofs.Common.{◌≡◌, ℕ, ◌&&◌, List, [], ◌∷◌, map, refl, ap, ◌∙◌}
use Rattle.std.specs.Prelude.{Option, None, Some, find}
use Rattle.keyed_machine.proofs.Ordered.{by_bool}
use Rattle.sip_message.specs.declared.addr.Addr.{Addr}
use Rattle.sip_message.specs.declared.id.Id.{Id}
use Rattle.sip_message.specs.declared.message.Message.{Message}
use Rattle.sip_reliable.specs.declared.tick.Tick.{Tick}
use Rattle.sip_reliable.specs.declared.tick.Tick.TheVariants as tick
use Rattle.sip_reliable.specs.Ledger.{tick_answer}
use Rattle.sip_transactions.specs.declared.input.Command.TheVariants.{Answer as ByAnswer}
use Rattle.sip_transactions.specs.declared.output.UpKind.{UpKind}
use Rattle.sip_transactions.specs.declared.output.UpKind.TheVariants.{Request, Ack, Response, Timeout, Failed}
use Rattle.sip_transactions.specs.declared.output.Up.{Up}
use Rattle.sip_held_dialogs.proofs.OwnDialogs.{changed_dialog, early_own, ended_own, lived_keeps}
use Rattle.sip_served.specs.declared.arrival.Arrival.{Arrival}
use Rattle.sip_served.specs.declared.arrival.ArrivalCase.{ArrivalCase}
use Rattle.sip_served.specs.declared.arrival.ArrivalCase.TheVariants.{Merged, BadExtension, NoDialog, OutOfOrder, Acknowledges, AcknowledgesNothing, ForUser}
use Rattle.sip_user.specs.declared.command.Respond.{Respond as Answer}
use Rattle.sip_user.specs.declared.command.UserCommand.{UserCommand}
use Rattle.sip_user.specs.declared.command.UserCommand.TheVariants as command
use Rattle.sip_held_dialogs.specs.declared.held_dialog.DialogId.{DialogId}
use Rattle.sip_served.specs.declared.held_request.HeldRequest.{HeldRequest}
use Rattle.sip_served.specs.declared.held_request.Success.{Success}
use Rattle.sip_user.specs.declared.item.CallOut.TheVariants.{Command}
use Rattle.sip_user.specs.declared.item.Item.{Item}
use Rattle.sip_user.specs.declared.item.Item.TheVariants as item
use Rattle.sip_served.specs.declared.provisionals.ReliableResponse.{ReliableResponse}
use Rattle.sip_user.specs.declared.refusal.Refusal.{Refusal}
use Rattle.sip_served.specs.declared.retransmissions.SuccessDue.{SuccessDue}
use Rattle.sip_served.specs.declared.retransmissions.SuccessDue.TheVariants as repeat
use Rattle.sip_served.specs.Acknowledgment.{ack_noted, acknowledged_invite, success_ended}
use Rattle.sip_served.specs.declared.held_request.SuccessEnd.TheVariants.{Acknowledged}
use Rattle.sip_served.specs.Arrival.{arrival_of, by_case, bye_taken, case_of, noted, pracked, request_held}
use Rattle.sip_served.specs.Cancel.{by_cancelled, cancelled_request, invite_terminated, is_unanswered_invite, request_terminated}
use Rattle.sip_held_dialogs.specs.Dialogs.{confirmed, confirms, is_dialog_id, visited, happenings_by_request, Dialogs}
use Rattle.sip_user.specs.OwnCall.{AreNoticesOf, IsItemOf, IsKindOf, IsNoticeOf}
use Rattle.sip_held_dialogs.specs.OwnDialogs.{AreDialogsOf, IsDialogOf}
use Rattle.sip_served.specs.OwnCall.{AreRequestsOf, IsEventOf, IsStateOf}
use Rattle.sip_served.specs.Provisionals.{of_numbers}
use Rattle.sip_held_dialogs.specs.Requests.{dialog_id_of, is_bye, is_cancel, has_to_tag}
use Rattle.sip_served.specs.Respond.{after_answer, answer_to, answers, by_refusal, by_request, confirms_dialog, dialogs_answered, finished, made_dialog, makes, makes_dialog, refusal_for, rejects, respond_taken, with_dialog}
use Rattle.sip_served.specs.Run.{Event, Takes, Ticks, event_taken}
use Rattle.sip_served.specs.State.{State, ServedTaken, changed_at, empty_at, followed, has_id}
use Rattle.sip_served.specs.Step.{arrival_taken, server_command_taken, server_item_taken, kind_taken}
use Rattle.sip_user.specs.Command.{call_of_command}
use Rattle.sip_served.specs.Tick.{is_kept_at, provisionals_go, provisionals_ticked, provisionals_told, request_ticked, success_answer, success_at_tick, success_ticked, success_told, tick_taken}
use Rattle.sip_held_dialogs.proofs.Each as each
use Rattle.sip_served.proofs.FirstChanged.{first_changed}
use Rattle.sip_served.proofs.RequestLives.{lives_request, success_alone}

-- ---- one request, and one dialog, keeps its Call-ID

answer_keeps : (event : Id) (r : Answer) (response : Message) (now : ℕ) (held : HeldRequest)
    → (after_answer event r response now held).request ≡ held.request
answer_keeps event r response now held =
    let made = with_dialog event r.status held in
    lives_request (answers made r.status r.reliability response now) made
    ∙ lives_request (makes event held r.status) held

success_keeps : (now : ℕ) (held : HeldRequest) (o : Option Success)
    → ((success_at_tick now held o).0).request ≡ held.request
success_keeps now held o =
    ap (λ (held : HeldRequest). held.request) (success_alone now held o).1

module _ (call_id : List ℕ) where
  abbrev pub IsRequestOf : HeldRequest → Type 0
  IsRequestOf held = held.request.call_id ≡ call_id

  -- what is held afterwards and what is told has the Call-ID
  abbrev pub IsTakenOf : ServedTaken → Type 0
  IsTakenOf taken = IsStateOf call_id taken.0 × AreNoticesOf call_id taken.1

  -- nothing is held
  pub empty_is : (local : Addr) → IsStateOf call_id (empty_at local)
  empty_is local = record { requests = tt; dialogs = tt }

  -- ---- the held requests and the held dialogs

  request_changed : (id : Id) (change : HeldRequest → HeldRequest)
      → ((held : HeldRequest) → (change held).request ≡ held.request)
      → (requests : List HeldRequest) → AreRequestsOf call_id requests
      → AreRequestsOf call_id (changed_at id change requests)
  request_changed id change same requests all =
      first_changed IsRequestOf (has_id id) change
      (λ held is. ap (λ (m : Message). m.call_id) (same held) ∙ is) requests all

  -- ---- a request that comes up

  after : (done : ServedTaken) (more : State → ServedTaken) → IsTakenOf done
      → ((state : State) → IsStateOf call_id state → IsTakenOf (more state))
      → IsTakenOf (followed done more)
  after done more first second =
      let later = second done.0 first.0 in
      (later.0, each.both (IsNoticeOf call_id) done.1 (more done.0).1 first.1 later.1)

  noted_is : (state : State) (name : DialogId) (request : Message) → IsStateOf call_id state
      → IsStateOf call_id (noted state name request)
  noted_is state name request its =
      by_bool (has_to_tag request)
      (λ e. rw e record {
        requests = its.requests;
        dialogs = changed_dialog call_id name (visited request)
            (λ held. lived_keeps held.dialog (happenings_by_request request held))
            state.dialogs its.dialogs;
      })
      (λ e. rw e its)

  bye_is : (request : Message) (name : DialogId) (state : State) → IsStateOf call_id state
      → IsTakenOf (bye_taken request name state)
  bye_is request name state its =
      let ended = ended_own call_id name state.dialogs its.dialogs in
      by_bool (has_to_tag request && is_bye request)
      (λ e. rw e (record { requests = its.requests; dialogs = ended.0 }, ended.1))
      (λ e. rw e (its, tt))

  held_is : (state : State) (its_call : List ℕ) (name : DialogId) (arrival : Arrival)
      → its_call ≡ call_id → arrival.request.call_id ≡ call_id → IsStateOf call_id state
      → IsTakenOf (request_held state its_call name arrival)
  held_is state its_call name arrival of_call of_request its = (
    record {
      requests = each.both IsRequestOf state.requests _ its.requests (of_request, tt);
      dialogs = its.dialogs;
    },
    (of_call, tt),
  )

  case_is : (case : ArrivalCase) (state : State) (its_call : List ℕ) (name : DialogId)
      (arrival : Arrival) → its_call ≡ call_id → arrival.request.call_id ≡ call_id
      → IsStateOf call_id state
      → IsTakenOf (by_case case state its_call name arrival)
  case_is Merged state its_call name arrival of_call of_request its = (its, (tt, tt))
  case_is BadExtension state its_call name arrival of_call of_request its = (its, (tt, tt))
  case_is NoDialog state its_call name arrival of_call of_request its = (its, (tt, tt))
  case_is OutOfOrder state its_call name arrival of_call of_request its = (its, (tt, tt))
  case_is (Acknowledges invite rseq) state its_call name arrival of_call of_request its =
      let seen = noted_is state name arrival.request its in (
        record {
          requests = request_changed invite (pracked rseq) (λ held. refl)
              (noted state name arrival.request).requests seen.requests;
          dialogs = seen.dialogs;
        },
        (tt, (of_call, tt)),
      )
  case_is AcknowledgesNothing state its_call name arrival of_call of_request its =
      (noted_is state name arrival.request its, (tt, tt))
  case_is ForUser state its_call name arrival of_call of_request its =
      let before = noted state name arrival.request in
      after (request_held before its_call name arrival) (bye_taken arrival.request name)
      (held_is before its_call name arrival of_call of_request
      (noted_is state name arrival.request its))
      (bye_is arrival.request name)

  -- ---- a CANCEL, and an ACK

  terminated_is : (response : Message) (invite : Id) (now : ℕ) (state : State)
      → IsStateOf call_id state → IsTakenOf (invite_terminated response invite now state)
  terminated_is response invite now state its =
      let ended = early_own call_id invite state.dialogs its.dialogs in (
        record {
          requests = request_changed invite (finished response 487 now) (λ held. refl)
              state.requests its.requests;
          dialogs = ended.0;
        },
        ended.1,
      )

  cancel_is : (state : State) (its_call : List ℕ) (arrival : Arrival) (now : ℕ)
      (o : Option HeldRequest) → its_call ≡ call_id → IsStateOf call_id state
      → IsTakenOf (by_cancelled state its_call arrival now o)
  cancel_is state its_call arrival now None of_call its = (its, (tt, tt))
  cancel_is state its_call arrival now (Some held) of_call its =
      let terminated =
      terminated_is (request_terminated held) held.id now state its in
      by_bool (is_unanswered_invite held)
      (λ e. rw e (terminated.0, (tt, (tt, (of_call, terminated.1)))))
      (λ e. rw e (its, (tt, tt)))

  arrival_is : (state : State) (its_call : List ℕ) (arrival : Arrival) (now : ℕ)
      → its_call ≡ call_id → arrival.request.call_id ≡ call_id → IsStateOf call_id state
      → IsTakenOf (arrival_taken state its_call arrival now)
  arrival_is state its_call arrival now of_call of_request its =
      let name = dialog_id_of arrival.request arrival.tag in
      by_bool (is_cancel arrival.request)
      (λ e. rw e (cancel_is state its_call arrival now
      (cancelled_request arrival.key state.requests) of_call its))
      (λ e. rw e (case_is (case_of state.requests state.dialogs name arrival.request) state
      its_call name arrival of_call of_request its))

  ack_is : (state : State) (its_call : List ℕ) (ack : Message) (o : Option Id)
      → its_call ≡ call_id → IsStateOf call_id state → IsTakenOf (ack_noted state its_call ack o)
  ack_is state its_call ack None of_call its = (its, tt)
  ack_is state its_call ack (Some invite) of_call its = (
    record {
      requests =
          request_changed invite (success_ended Acknowledged) (λ held. refl) state.requests
          its.requests;
      dialogs = its.dialogs;
    },
    (of_call, tt),
  )

  -- ---- an answer of the user

  dialogs_is : (event : Id) (held : HeldRequest) (r : Answer) (response : Message)
      (dialogs : Dialogs) → IsRequestOf held → AreDialogsOf call_id dialogs
      → AreDialogsOf call_id (dialogs_answered event held r.status response dialogs).0
      × AreNoticesOf call_id (dialogs_answered event held r.status response dialogs).1
  dialogs_is event held r response dialogs of_request all =
      let name = dialog_id_of held.request held.tag in
      by_bool (makes_dialog held r.status)
      (λ e. rw e (
        each.each_inserted (IsDialogOf call_id) is_dialog_id name
            (made_dialog event held r.status) of_request dialogs all,
        tt,
      ))
      (λ e. by_bool (confirms_dialog held r.status)
      (λ f. rw (e, f) (
        changed_dialog call_id name (confirmed response)
            (λ held. lived_keeps held.dialog (confirms response held)) dialogs
            all,
        tt,
      ))
      (λ f. by_bool (rejects held r.status)
      (λ g. rw (e, f, g) (early_own call_id held.id dialogs all))
      (λ g. rw (e, f, g) (all, tt))))

  refusal_is : (state : State) (event : Id) (r : Answer) (now : ℕ) (held : HeldRequest)
      (o : Option Refusal) → r.call_id ≡ call_id → IsRequestOf held → IsStateOf call_id state
      → IsTakenOf (by_refusal state event r now held o)
  refusal_is state event r now held (Some refusal) of_call of_request its = (its, (of_call, tt))
  refusal_is state event r now held None of_call of_request its =
      let response = answer_to state.local held r in
      let left = dialogs_is event held r response state.dialogs of_request its.dialogs in (
        record {
          requests = request_changed r.id (after_answer event r response now)
              (answer_keeps event r response now) state.requests its.requests;
          dialogs = left.0;
        },
        (tt, left.1),
      )

  request_is : (state : State) (event : Id) (r : Answer) (now : ℕ) (o : Option HeldRequest)
      → find (has_id r.id) state.requests ≡ o → r.call_id ≡ call_id → IsStateOf call_id state
      → IsTakenOf (by_request state event r now o)
  request_is state event r now None is of_call its = (its, (of_call, tt))
  request_is state event r now (Some held) is of_call its =
      refusal_is state event r now held (refusal_for state.dialogs r held) of_call
      (each.found IsRequestOf (has_id r.id) state.requests held its.requests is) its

  pub respond_is : (state : State) (event : Id) (r : Answer) (now : ℕ) → r.call_id ≡ call_id
      → IsStateOf call_id state → IsTakenOf (respond_taken state event r now)
  respond_is state event r now of_call its =
      request_is state event r now (find (has_id r.id) state.requests) refl of_call its

  -- ---- a tick

  success_told_is : (t : SuccessDue) (held : HeldRequest) (response : Message) → IsRequestOf held
      → AreNoticesOf call_id (success_told t held response)
  success_told_is repeat.Nothing held response of_request = tt
  success_told_is repeat.Again held response of_request = (tt, tt)
  success_told_is repeat.GivenUp held response of_request = (of_request, tt)

  success_is : (now : ℕ) (held : HeldRequest) (o : Option Success) → IsRequestOf held
      → AreNoticesOf call_id (success_at_tick now held o).1
  success_is now held None of_request = tt
  success_is now held (Some success) of_request =
      success_told_is (success_answer now success) held success.response of_request

  repeats_are : (held : HeldRequest) (responses : List ReliableResponse)
      → AreNoticesOf call_id
      (map (λ one. Command held.id (ByAnswer held.key one.response)) responses)
  repeats_are held [] = tt
  repeats_are held (one ∷ responses) = (tt, repeats_are held responses)

  provisionals_are : (t : Tick) (held : HeldRequest) → IsRequestOf held
      → AreNoticesOf call_id (provisionals_told t held)
  provisionals_are tick.Nothing held of_request = tt
  provisionals_are (tick.Again numbers) held of_request =
      repeats_are held (of_numbers numbers.items held.provisionals)
  provisionals_are tick.GivenUp held of_request = (of_request, tt)

  ticked_keeps : (now : ℕ) (held : HeldRequest)
      → ((request_ticked now held).0).request ≡ held.request
  ticked_keeps now held =
      let first = (success_ticked now held).0 in
      lives_request (provisionals_go (tick_answer first.ledger now) now) first
      ∙ success_keeps now held held.success

  ticked_is : (now : ℕ) (held : HeldRequest) → IsRequestOf held
      → AreNoticesOf call_id (request_ticked now held).1
  ticked_is now held of_request =
      let first = (success_ticked now held).0 in
      each.both (IsNoticeOf call_id) (success_ticked now held).1 (provisionals_ticked now first).1
      (success_is now held held.success of_request)
      (provisionals_are (tick_answer first.ledger now) first
      (ap (λ (m : Message). m.call_id) (success_keeps now held held.success) ∙ of_request))

  pub tick_is : (state : State) (now : ℕ) → IsStateOf call_id state
      → IsTakenOf (tick_taken state now)
  tick_is state now its = (
    record {
      requests = each.filtered IsRequestOf (is_kept_at now)
          (map (λ held. (request_ticked now held).0) state.requests)
          (each.mapped IsRequestOf IsRequestOf (λ held. (request_ticked now held).0)
          (λ held is. ap (λ (m : Message). m.call_id) (ticked_keeps now held) ∙ is) state.requests
          its.requests);
      dialogs = its.dialogs;
    },
    each.flattened IsRequestOf (IsNoticeOf call_id) (λ held. (request_ticked now held).1)
        (ticked_is now) state.requests its.requests,
  )

  -- ---- all of it

  pub kind_is : (state : State) (tag : List ℕ) (up : Up) (kind : UpKind) (now : ℕ)
      → up.call_id ≡ call_id → IsKindOf call_id kind → IsStateOf call_id state
      → IsTakenOf (kind_taken state tag up kind now)
  kind_is state tag up (Request request reply_to) now of_call of_request its =
      arrival_is state up.call_id (arrival_of up request reply_to tag) now of_call
      of_request its
  kind_is state tag up (Ack ack) now of_call of_kind its =
      ack_is state up.call_id ack (acknowledged_invite ack state.requests) of_call its
  kind_is state tag up (Response response) now of_call of_kind its = (its, tt)
  kind_is state tag up Timeout now of_call of_kind its = (its, tt)
  kind_is state tag up Failed now of_call of_kind its = (its, tt)

  command_is : (state : State) (id : Id) (c : UserCommand) (now : ℕ)
      → call_of_command c ≡ call_id → IsStateOf call_id state
      → IsTakenOf (server_command_taken state id c now)
  command_is state id (command.Invite i) now of_call its = (its, tt)
  command_is state id (command.Plain i) now of_call its = (its, tt)
  command_is state id (command.Request i) now of_call its = (its, tt)
  command_is state id (command.Respond r) now of_call its = respond_is state id r now of_call its
  command_is state id (command.Ack i) now of_call its = (its, tt)
  command_is state id (command.Prack i) now of_call its = (its, tt)
  command_is state id (command.Cancel i) now of_call its = (its, tt)
  command_is state id (command.AbandonRequest i) now of_call its = (its, tt)
  command_is state id (command.AbandonDialog i) now of_call its = (its, tt)

  pub item_is : (state : State) (tag : List ℕ) (id : Id) (one : Item) (now : ℕ)
      → IsItemOf call_id one → IsStateOf call_id state
      → IsTakenOf (server_item_taken state tag id one now)
  item_is state tag id (item.Up up) now of_item its =
      kind_is state tag up up.kind now of_item.0 of_item.1 its
  item_is state tag id (item.User c) now of_item its = command_is state id c now of_item its

  pub event_is : (state : State) (event : Event) → IsStateOf call_id state
      → IsEventOf call_id event → IsTakenOf (event_taken state event)
  event_is state (Takes tag id one now) its of_event = item_is state tag id one now of_event its
  event_is state (Ticks now) its of_event = tick_is state now its
