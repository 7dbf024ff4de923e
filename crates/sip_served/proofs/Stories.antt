-- An event changes the held requests in the same way as what it adds changes their stories.
use Rattle.std.proofs.Common.{◌≡◌, ℕ, ◌&&◌, List, [], ◌∷◌, ◌++◌, map, refl, sym, ap, subst, ◌∙◌}
use Rattle.std.specs.Prelude.{Option, None, Some, is_some, filter, find, if◌then◌else◌}
use Rattle.std.specs.List.{AllByRecursion}
use Rattle.std.specs.Option.{option_map_or}
use Rattle.keyed_machine.proofs.Ordered.{by_bool}
use Rattle.sip_message.specs.declared.id.Id.{Id}
use Rattle.sip_message.specs.declared.message.Message.{Message}
use Rattle.sip_transactions.specs.declared.output.UpKind.{UpKind}
use Rattle.sip_transactions.specs.declared.output.UpKind.TheVariants.{Request, Ack, Response, Timeout, Failed}
use Rattle.sip_transactions.specs.declared.output.Up.{Up}
use Rattle.sip_user.specs.declared.command.Respond.{Respond as Answer}
use Rattle.sip_user.specs.declared.command.UserCommand.{UserCommand}
use Rattle.sip_user.specs.declared.command.UserCommand.TheVariants as command
use Rattle.sip_held_dialogs.specs.declared.held_dialog.DialogId.{DialogId}
use Rattle.sip_user.specs.declared.item.Item.TheVariants as item
use Rattle.sip_user.specs.declared.refusal.Refusal.{Refusal}
use Rattle.sip_held_dialogs.specs.Dialogs.{ended_at}
use Rattle.sip_held_dialogs.specs.Requests.{dialog_id_of, is_bye, is_cancel, has_to_tag}
use Rattle.sip_served.specs.declared.arrival.Arrival.{Arrival}
use Rattle.sip_served.specs.declared.arrival.ArrivalCase.{ArrivalCase}
use Rattle.sip_served.specs.declared.arrival.ArrivalCase.TheVariants.{Merged, BadExtension, NoDialog, OutOfOrder, Acknowledges, AcknowledgesNothing, ForUser}
use Rattle.sip_served.specs.declared.held_request.HeldRequest.{HeldRequest}
use Rattle.sip_served.specs.declared.held_request.SuccessEnd.TheVariants.{Acknowledged}
use Rattle.sip_served.specs.Acknowledgment.{ack_noted, acknowledged_invite}
use Rattle.sip_served.specs.Arrival.{arrival_of, by_case, case_of, in_its_dialog, noted, request_held}
use Rattle.sip_served.specs.Cancel.{by_cancelled, cancelled_request, is_unanswered_invite, request_terminated, terminates}
use Rattle.sip_served.specs.RequestLife.{RequestHappening, EndsSuccess, TakesPrack, went_on}
use Rattle.sip_served.specs.Respond.{after_answer, answer_given, answer_to, by_refusal, by_request, refusal_for}
use Rattle.sip_served.specs.Run.{Event, Takes, Ticks, event_taken}
use Rattle.sip_served.specs.State.{State, changed_at, has_id}
use Rattle.sip_served.specs.Step.{arrival_taken, kind_taken, server_command_taken}
use Rattle.sip_served.specs.Story.{RequestStory, goes_on, request_of}
use Rattle.sip_served.specs.Telling.{Stories, answer_told, arrival_told, event_told, happens_to, item_told, kind_told, told_by_cancel, told_by_case}
use Rattle.sip_served.specs.Tick.{is_kept_at, request_passes, request_ticked, tick_taken}
use Rattle.sip_served.proofs.FewWait.{IsKept, IsKeptEach}
use Rattle.sip_served.proofs.Found.{bye_requests, noted_requests}
use Rattle.sip_served.proofs.Mapped.{append_mapped, changed_mapped, filter_mapped, found_mapped, map_mapped}
use Rattle.sip_served.proofs.StoryLives.{AllFit, all_happen, answer_fits, answer_happens, answer_whole, numbered_by, passes, passes_fit}

-- the held requests are what their stories say
abbrev pub AreTold : List HeldRequest → Stories → Type 0
AreTold requests stories = requests ≡ map request_of stories

one_happens : (id : Id) (more : List RequestHappening) → ((held : HeldRequest) → AllFit held more)
    → (requests : List HeldRequest) (stories : Stories) → AreTold requests stories
    → AreTold (changed_at id (went_on more) requests) (happens_to id more stories)
one_happens id more fits requests stories told =
    ap (changed_at id (went_on more)) told
    ∙ sym (changed_mapped request_of (has_id id) (went_on more) (goes_on more)
    (λ story. all_happen more story (fits (request_of story))) stories)

module _ (state : State) (stories : Stories) (told : AreTold state.requests stories) where
  case_told : (case : ArrivalCase) (call_id : List ℕ) (name : DialogId) (arrival : Arrival)
      → AreTold ((by_case case state call_id name arrival).0).requests
      (told_by_case case state name arrival stories)
  case_told Merged call_id name arrival = told
  case_told BadExtension call_id name arrival = told
  case_told NoDialog call_id name arrival = told
  case_told OutOfOrder call_id name arrival = told
  case_told (Acknowledges invite rseq) call_id name arrival =
      one_happens invite (TakesPrack rseq ∷ []) (λ held. (tt, tt))
      (noted state name arrival.request).requests stories
      (noted_requests state name arrival.request ∙ told)
  case_told AcknowledgesNothing call_id name arrival =
      noted_requests state name arrival.request ∙ told
  case_told ForUser call_id name arrival =
      let before = noted state name arrival.request in
      let held = (request_held before call_id name arrival).0 in
      bye_requests (has_to_tag arrival.request && is_bye arrival.request) held
      (ended_at name held.dialogs).0 (ended_at name held.dialogs).1
      ∙ (λ i. (noted_requests state name arrival.request ∙ told) i
      ++ in_its_dialog before.dialogs name arrival ∷ [])
      ∙ sym (append_mapped request_of stories
      (record { arrival = in_its_dialog before.dialogs name arrival; life = [] } ∷ []))

  cancel_told : (call_id : List ℕ) (arrival : Arrival) (now : ℕ) (o : Option HeldRequest)
      → AreTold ((by_cancelled state call_id arrival now o).0).requests
      (told_by_cancel now o stories)
  cancel_told call_id arrival now None = told
  cancel_told call_id arrival now (Some held) =
      by_bool (is_unanswered_invite held)
      (λ e. rw e (one_happens held.id (terminates (request_terminated held) now)
      (λ held. (tt, tt)) state.requests stories told))
      (λ e. rw e told)

  arrival_on : (call_id : List ℕ) (arrival : Arrival) (now : ℕ)
      → AreTold ((arrival_taken state call_id arrival now).0).requests
      (arrival_told state arrival now stories)
  arrival_on call_id arrival now =
      let name = dialog_id_of arrival.request arrival.tag in
      by_bool (is_cancel arrival.request)
      (λ e. rw e (cancel_told call_id arrival now
      (cancelled_request arrival.key state.requests)))
      (λ e. rw e (case_told (case_of state.requests state.dialogs name arrival.request) call_id name
      arrival))

  ack_on : (call_id : List ℕ) (ack : Message) (o : Option Id)
      → AreTold ((ack_noted state call_id ack o).0).requests
      (option_map_or (λ invite. happens_to invite (EndsSuccess Acknowledged ∷ []) stories) o
      stories)
  ack_on call_id ack None = told
  ack_on call_id ack (Some invite) =
      one_happens invite (EndsSuccess Acknowledged ∷ []) (λ held. (tt, tt)) state.requests stories
      told

  kind_on : (tag : List ℕ) (up : Up) (kind : UpKind) (now : ℕ)
      → AreTold ((kind_taken state tag up kind now).0).requests
      (kind_told state tag up kind now stories)
  kind_on tag up (Request request reply_to) now =
      arrival_on up.call_id (arrival_of up request reply_to tag) now
  kind_on tag up (Ack ack) now = ack_on up.call_id ack (acknowledged_invite ack state.requests)
  kind_on tag up (Response response) now = told
  kind_on tag up Timeout now = told
  kind_on tag up Failed now = told

  module _ (all : IsKeptEach state) where
    answer_on : (event : Id) (r : Answer) (now : ℕ) (held : HeldRequest)
        → find (has_id r.id) state.requests ≡ Some held
        → refusal_for state.dialogs r held ≡ None
        → AreTold ((answer_given state event r now held).0).requests
        (happens_to r.id (answer_happens event r (answer_to state.local held r) now held) stories)
    answer_on event r now held found unrefused =
        let response = answer_to state.local held r in
        let more = answer_happens event r response now held in
        let change = after_answer event r response now in
        let fits = answer_fits event r response now held
        (numbered_by state.dialogs r held unrefused) in
        ap (changed_at r.id change) told
        ∙ sym (found_mapped request_of (has_id r.id) change (goes_on more) held
        (λ story is. all_happen more story
        (subst (λ (one : HeldRequest). AllFit one more) (sym is) fits)
        ∙ ap (went_on more) is ∙ answer_whole event r response now held ∙ ap change (sym is))
        stories (ap (find (has_id r.id)) (sym told) ∙ found))

    refusal_on : (event : Id) (r : Answer) (now : ℕ) (held : HeldRequest) (o : Option Refusal)
        → find (has_id r.id) state.requests ≡ Some held
        → refusal_for state.dialogs r held ≡ o
        → AreTold ((by_refusal state event r now held o).0).requests (if is_some o then stories
        else happens_to r.id (answer_happens event r (answer_to state.local held r) now held)
        stories)
    refusal_on event r now held (Some refusal) found is = told
    refusal_on event r now held None found is = answer_on event r now held found is

    respond_on : (event : Id) (r : Answer) (now : ℕ) (o : Option HeldRequest)
        → find (has_id r.id) state.requests ≡ o
        → AreTold ((by_request state event r now o).0).requests
        (option_map_or (answer_told state event r now stories) o stories)
    respond_on event r now None found = told
    respond_on event r now (Some held) found =
        refusal_on event r now held (refusal_for state.dialogs r held) found refl

    command_on : (tag : List ℕ) (id : Id) (c : UserCommand) (now : ℕ)
        → AreTold ((server_command_taken state id c now).0).requests
        (item_told state tag id (item.User c) now stories)
    command_on tag id (command.Invite i) now = told
    command_on tag id (command.Plain i) now = told
    command_on tag id (command.Request i) now = told
    command_on tag id (command.Respond r) now =
        respond_on id r now (find (has_id r.id) state.requests) refl
    command_on tag id (command.Ack i) now = told
    command_on tag id (command.Prack i) now = told
    command_on tag id (command.Cancel i) now = told
    command_on tag id (command.AbandonRequest i) now = told
    command_on tag id (command.AbandonDialog i) now = told

    tick_on : (now : ℕ)
        → AreTold ((tick_taken state now).0).requests (event_told state (Ticks now) stories)
    tick_on now =
        let tick_one = λ (held : HeldRequest). (request_ticked now held).0 in
        let go_on = λ (story : RequestStory).
        goes_on (request_passes now (request_of story)) story in
        ap (λ requests. filter (is_kept_at now) (map tick_one requests)) told
        ∙ ap (filter (is_kept_at now)) (sym (map_mapped request_of IsKept tick_one go_on
        (λ story kept. all_happen (request_passes now (request_of story)) story
        (passes_fit now (request_of story) kept) ∙ passes now (request_of story)) stories
        (subst (λ (requests : List HeldRequest). AllByRecursion IsKept requests) told all)))
        ∙ filter_mapped request_of (is_kept_at now) (map go_on stories)

    pub event_on : (event : Event)
        → AreTold ((event_taken state event).0).requests (event_told state event stories)
    event_on (Takes tag id (item.Up up) now) = kind_on tag up up.kind now
    event_on (Takes tag id (item.User c) now) = command_on tag id c now
    event_on (Ticks now) = tick_on now
