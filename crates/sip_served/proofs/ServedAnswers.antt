-- What the server side of a call gives: notices other than of responses, and answers to requests
-- that came up. Each answer is the user's or its own, and may be sent again.
use Rattle.indexmap.specs.IndexMap.{insert_entry}
use Rattle.sip_held_dialogs.proofs.Each.{both, filtered, found}
use mathlib.Core.List.{reverse-cons}
use Rattle.sip_held_dialogs.specs.Dialogs.{Dialogs, confirmed, dialog_changed, early_ended, is_dialog_id, dialog_at, ended_at, ended_notice, is_early_of, tag_text}
use Rattle.sip_held_dialogs.specs.Requests.{dialog_id_of, is_bye, is_cancel, is_final, has_to_tag, is_invite, is_success, is_unknown_option}
use Rattle.sip_user.specs.declared.command.Respond.{Respond as RespondCommand}
use Rattle.sip_held_dialogs.specs.declared.held_dialog.DialogReference.{DialogReference}
use Rattle.sip_held_dialogs.specs.declared.held_dialog.DialogId.{DialogId}
use Rattle.sip_user.specs.declared.item.CallOut.{CallOut}
use Rattle.sip_user.specs.declared.notice.Notice.{Notice}
use Rattle.sip_user.specs.declared.refusal.Refusal.{Refusal}
use Rattle.sip_message.specs.Response.{response_of}
use Rattle.sip_message.specs.declared.addr.Addr.{Addr}
use Rattle.sip_message.specs.declared.id.Id.{Id}
use Rattle.sip_message.specs.declared.message.Message.{Message}
use Rattle.keyed_machine.proofs.Ordered.{by_bool}
use Rattle.sip_reliable.specs.Ledger.{tick_answer, send_answer}
use Rattle.sip_reliable.specs.declared.send_fault.SendFault.{SendFault}
use Rattle.sip_reliable.specs.declared.tick.Tick.{Tick}
use Rattle.sip_served.proofs.FirstChanged.{first_changed}
use Rattle.sip_served.specs.Acknowledgment.{ack_noted, acknowledged_invite}
use Rattle.sip_served.specs.Arrival.{arrival_of, by_case, case_of, noted, request_held, in_its_dialog, with_header, bye_taken, command_for, request_notice, unsupported}
use Rattle.sip_served.specs.Cancel.{by_cancelled, cancelled_request, is_same_branch, is_unanswered_invite, request_terminated, terminates}
use Rattle.sip_served.specs.Provisionals.{of_numbers}
use Rattle.sip_served.specs.RequestLife.{RequestHappening, request_happened, success_sent, went_on}
use Rattle.sip_served.specs.Respond.{answer_to, by_refusal, by_request, confirms_dialog, made_dialog, makes_dialog, refusal_for, rejects, respond_taken, after_answer, answers, makes, sends_as, is_sent_reliably}
use Rattle.sip_served.specs.State.{State, ServedTaken, has_id, changed_at}
use Rattle.sip_served.specs.Step.{arrival_taken, kind_taken}
use Rattle.sip_served.specs.Tick.{provisionals_ticked, provisionals_told, request_ticked, success_answer, success_at_tick, success_ticked, success_told, tick_taken, is_kept_at, provisionals_go, success_goes}
use Rattle.sip_served.specs.declared.arrival.Arrival.{Arrival}
use Rattle.sip_served.specs.declared.arrival.ArrivalCase.{ArrivalCase}
use Rattle.sip_served.specs.declared.held_request.HeldRequest.{HeldRequest}
use Rattle.sip_served.specs.declared.held_request.Success.{Success}
use Rattle.sip_served.specs.declared.held_request.SuccessEnd.TheVariants.{Acknowledged}
use Rattle.sip_served.specs.declared.provisionals.ReliableResponse.{ReliableResponse}
use Rattle.sip_served.specs.declared.retransmissions.SuccessDue.{SuccessDue}
use Rattle.sip_transactions.specs.declared.output.UpKind.{UpKind}
use Rattle.sip_transactions.specs.declared.output.Up.{Up as AnUp}
use Rattle.std.proofs.Common.{◌≡◌, ℕ, Bool, true, false, ◌&&◌, cond, List, [], ◌∷◌, map, refl, sym, subst}
use Rattle.std.specs.List.{AllByRecursion, flat_map}
use Rattle.sip_reliable.specs.Happening.{is_among}
use Rattle.std.specs.Option.{option_map, option_map_or}
use Rattle.std.specs.Prelude.{Option, None, Some, codes, find, reverse, IfSome, Result, Ok, Err, not, ◌==◌, filter}
use Rattle.sip_message.specs.declared.key.Key.{Key}
use Rattle.std.specs.Map.{values_of}
use Rattle.sip_held_dialogs.specs.declared.held_dialog.HeldDialog.{HeldDialog}
use Rattle.sip_user.specs.declared.refusal.Refusal.TheVariants.{NoSuchRequest}
use Rattle.sip_user.specs.declared.item.CallOut.TheVariants as out
use Rattle.sip_user.specs.declared.notice.Notice.TheVariants as notice
use Rattle.sip_reliable.specs.declared.tick.Tick.TheVariants as tick
use Rattle.sip_served.specs.RequestLife as happens
use Rattle.sip_served.specs.declared.arrival.ArrivalCase.TheVariants as case
use Rattle.sip_served.specs.declared.retransmissions.SuccessDue.TheVariants as repeat
use Rattle.sip_transactions.specs.declared.input.Command.TheVariants as order
use Rattle.sip_transactions.specs.declared.output.UpKind.TheVariants as kind

-- a notice of anything but a response
abbrev pub IsOther : Notice → Type 0
IsOther (notice.Response call_id id status local_tag remote_tag body) = ⊥
IsOther _ = Unit {0}

module _ (P : CallOut → Type 0) (Given : Message → Type 0) where
  -- what is said of such notices, and of answers that were given
  pub record AllowsServed : Type 0 where
    pub told : (one : Notice) → IsOther one → P (out.Notice one)
    pub answer : (id : Id) (key : Key) {message : Message} → Given message
        → P (out.Command id (order.Answer key message))

module _ (Came : Message → Type 0) where
  -- a request that comes up is one of those that came
  abbrev pub KindGiven : UpKind → Type 0
  KindGiven (kind.Request request reply_to) = Came request
  KindGiven (kind.Ack ack) = Unit {0}
  KindGiven (kind.Response response) = Unit {0}
  KindGiven kind.Timeout = Unit {0}
  KindGiven kind.Failed = Unit {0}

module _ (Came Given : Message → Type 0) where
  -- the answers that the agent gives by itself to requests that came
  pub record OwnAnswers : Type 0 where
    pub merged : (request : Message) (tag : List ℕ) → Came request
        → Given (response_of request 482 (codes "Loop Detected") tag)
    pub extension : (request : Message) (tag : List ℕ) → Came request
        → Given (with_header (unsupported (filter is_unknown_option request.require))
        (response_of request 420 (codes "Bad Extension") tag))
    pub no_dialog : (request : Message) (tag : List ℕ) → Came request
        → Given (response_of request 481 (codes "Call/Transaction Does Not Exist") tag)
    pub out_of_order : (request : Message) (tag : List ℕ) → Came request
        → Given (response_of request 500 (codes "Server Internal Error") tag)
    pub accepted : (request : Message) (tag : List ℕ) → Came request
        → Given (response_of request 200 (codes "OK") tag)
    pub terminated : (request : Message) (tag : List ℕ) → Came request
        → Given (response_of request 487 (codes "Request Terminated") tag)

module _ (P : CallOut → Type 0) (Came Given : Message → Type 0) (allows : AllowsServed P Given)
  where
    abbrev pub Fit : List CallOut → Type 0
    Fit outs = AllByRecursion P outs

    -- ---- the ends of dialogs

    ended_fits : (held : HeldDialog) → P (ended_notice held)
    ended_fits held =
        allows.told (notice.Ended held.dialog.call_id (tag_text held.dialog.local.tag)
        (tag_text held.dialog.remote.tag)) tt

    replies : (arrival : Arrival) {response : Message} → Given response
        → P (command_for arrival response)
    replies arrival here = allows.answer arrival.id arrival.key here

    ends : (dialogs : List HeldDialog) → Fit (map ended_notice dialogs)
    ends [] = tt
    ends (held ∷ dialogs) = (ended_fits held, ends dialogs)

    early : (invite : Id) (dialogs : Dialogs) → Fit (early_ended invite dialogs).1
    early invite dialogs = ends (filter (is_early_of invite) (values_of dialogs))

    by_dialog : (o : Option HeldDialog) → Fit (option_map_or (λ held. ended_notice held ∷ []) o [])
    by_dialog None = tt
    by_dialog (Some held) = (ended_fits held, tt)

    end_told : (name : DialogId) (dialogs : Dialogs) → Fit (ended_at name dialogs).1
    end_told name dialogs = by_dialog (dialog_at name dialogs)

    -- ---- a held request keeps answers that were given

    pub record KeepsGiven (held : HeldRequest) : Type 0 where
      pub request : Came held.request
      pub success : IfSome held.success (λ success. Given success.response)
      pub provisionals : AllByRecursion (λ one. Given one.response) held.provisionals

    abbrev HappensGiven : RequestHappening → Type 0
    HappensGiven (happens.MakesDialog life) = Unit {0}
    HappensGiven (happens.SendsReliably number response now) = Given response
    HappensGiven (happens.TakesPrack number) = Unit {0}
    HappensGiven (happens.RepeatsProvisionals numbers now) = Unit {0}
    HappensGiven (happens.GivesUpProvisionals now) = Unit {0}
    HappensGiven (happens.Finishes response status now) = Given response
    HappensGiven (happens.RepeatsSuccess now) = Unit {0}
    HappensGiven (happens.EndsSuccess end) = Unit {0}

    success_kept : (change : Success → Success)
        → ((s : Success) → (change s).response ≡ s.response) → (o : Option Success)
        → IfSome o (λ s. Given s.response) → IfSome (option_map change o) (λ s. Given s.response)
    success_kept change same None given = tt
    success_kept change same (Some s) given = subst Given (sym (same s)) given

    finished_given : (b : Bool) (response : Message) (now : ℕ) (o : Option Success) → Given response
        → IfSome o (λ s. Given s.response)
        → IfSome (cond b (Some (success_sent response now)) o) (λ s. Given s.response)
    finished_given true response now o here before = here
    finished_given false response now o here before = before

    happened_given : (held : HeldRequest) (h : RequestHappening) → KeepsGiven held → HappensGiven h
        → KeepsGiven (request_happened held h)
    happened_given held (happens.MakesDialog life) keeps here =
        record {
          request = keeps.request;
          success = keeps.success;
          provisionals = keeps.provisionals;
        }
    happened_given held (happens.SendsReliably number response now) keeps here = record {
      request = keeps.request;
      success = keeps.success;
      provisionals = both (λ one. Given one.response) held.provisionals
          (record { number = number; response = response } ∷ []) keeps.provisionals (here, tt);
    }
    happened_given held (happens.TakesPrack number) keeps here = record {
      request = keeps.request;
      success = keeps.success;
      provisionals = filtered (λ one. Given one.response) (λ one. not (one.number == number))
          held.provisionals keeps.provisionals;
    }
    happened_given held (happens.RepeatsProvisionals numbers now) keeps here =
        record {
          request = keeps.request;
          success = keeps.success;
          provisionals = keeps.provisionals;
        }
    happened_given held (happens.GivesUpProvisionals now) keeps here =
        record {
          request = keeps.request;
          success = keeps.success;
          provisionals = keeps.provisionals;
        }
    happened_given held (happens.Finishes response status now) keeps here = record {
      request = keeps.request;
      success = finished_given (is_invite held.request && is_success status) response now
          held.success here keeps.success;
      provisionals = keeps.provisionals;
    }
    happened_given held (happens.RepeatsSuccess now) keeps here = record {
      request = keeps.request;
      success = success_kept _ (λ s. refl) held.success keeps.success;
      provisionals = keeps.provisionals;
    }
    happened_given held (happens.EndsSuccess end) keeps here = record {
      request = keeps.request;
      success = success_kept _ (λ s. refl) held.success keeps.success;
      provisionals = keeps.provisionals;
    }

    went_given : (life : List RequestHappening) (held : HeldRequest) → KeepsGiven held
        → AllByRecursion HappensGiven life → KeepsGiven (went_on life held)
    went_given [] held keeps all = keeps
    went_given (h ∷ life) held keeps all =
        went_given life (request_happened held h) (happened_given held h keeps all.0) all.1

    abbrev pub StateGiven : State → Type 0
    StateGiven state = AllByRecursion KeepsGiven state.requests

    abbrev pub ServedFits : ServedTaken → Type 0
    ServedFits taken = StateGiven taken.0 × Fit taken.1

    changed_given : (id : Id) (life : List RequestHappening) → AllByRecursion HappensGiven life
        → (requests : List HeldRequest) → AllByRecursion KeepsGiven requests
        → AllByRecursion KeepsGiven (changed_at id (went_on life) requests)
    changed_given id life all requests keeps =
        first_changed KeepsGiven (has_id id) (went_on life)
        (λ held given. went_given life held given all) requests keeps

    module _ (own : OwnAnswers Came Given) where
      -- ---- a request that comes up

      noted_given : (state : State) (name : DialogId) (request : Message) → StateGiven state
          → StateGiven (noted state name request)
      noted_given state name request given =
          by_bool (has_to_tag request) (λ e. rw e given) (λ e. rw e given)

      bye_given : (state : State) (name : DialogId) (request : Message) → StateGiven state
          → ServedFits (bye_taken request name state)
      bye_given state name request given =
          by_bool (has_to_tag request && is_bye request)
          (λ e. rw e (given, end_told name state.dialogs)) (λ e. rw e (given, tt))

      case_fits : (one : ArrivalCase) (state : State) (call_id : List ℕ) (name : DialogId)
          (arrival : Arrival) → Came arrival.request → StateGiven state
          → ServedFits (by_case one state call_id name arrival)
      case_fits case.Merged state call_id name arrival came given =
          (given, (replies arrival (own.merged arrival.request arrival.tag came), tt))
      case_fits case.BadExtension state call_id name arrival came given = (
        given,
        (
          replies arrival (own.extension arrival.request arrival.tag came),
          tt,
        ),
      )
      case_fits case.NoDialog state call_id name arrival came given =
          (given, (replies arrival (own.no_dialog arrival.request arrival.tag came), tt))
      case_fits case.OutOfOrder state call_id name arrival came given =
          (given, (replies arrival (own.out_of_order arrival.request arrival.tag came), tt))
      case_fits (case.Acknowledges invite rseq) state call_id name arrival came given = (
        changed_given invite (happens.TakesPrack rseq ∷ []) (tt, tt)
            (noted state name arrival.request).requests
            (noted_given state name arrival.request given),
        (
          replies arrival (own.accepted arrival.request arrival.tag came),
          (allows.told (notice.Prack call_id invite rseq arrival.request.body) tt, tt),
        ),
      )
      case_fits case.AcknowledgesNothing state call_id name arrival came given = (
        noted_given state name arrival.request given,
        (replies arrival (own.no_dialog arrival.request arrival.tag came), tt),
      )
      case_fits case.ForUser state call_id name arrival came given =
          let seen = noted state name arrival.request in
          let before = (request_held seen call_id name arrival).0 in
          let first : HeldRequest = in_its_dialog seen.dialogs name arrival in
          let fresh : KeepsGiven first =
          record { request = came; success = tt; provisionals = tt } in
          let later = bye_given before name arrival.request
          (both KeepsGiven seen.requests (first ∷ [])
          (noted_given state name arrival.request given) (fresh, tt)) in
          (later.0, (allows.told (request_notice call_id arrival) tt, later.1))

      -- ---- a CANCEL, and an ACK

      all_reversed : (requests : List HeldRequest) → AllByRecursion KeepsGiven requests
          → AllByRecursion KeepsGiven (reverse requests)
      all_reversed [] all = tt
      all_reversed (held ∷ requests) all =
          subst (AllByRecursion KeepsGiven) (sym (reverse-cons held requests))
          (both KeepsGiven (reverse requests) (held ∷ []) (all_reversed requests all.1) (all.0, tt))

      -- the request that a CANCEL is for, if one is held
      cancel_fits : (state : State) (call_id : List ℕ) (arrival : Arrival) (now : ℕ)
          (o : Option HeldRequest) → cancelled_request arrival.key state.requests ≡ o
          → Came arrival.request → StateGiven state
          → ServedFits (by_cancelled state call_id arrival now o)
      cancel_fits state call_id arrival now None is came given =
          (given, (replies arrival (own.no_dialog arrival.request arrival.tag came), tt))
      cancel_fits state call_id arrival now (Some held) is came given =
          let keeps = found KeepsGiven (λ held. is_same_branch arrival.key held.key)
          (reverse state.requests) held (all_reversed state.requests given) is in
          by_bool (is_unanswered_invite held)
          (λ e. rw e (
            changed_given held.id (terminates (request_terminated held) now)
                (own.terminated held.request held.tag keeps.request, tt) state.requests
                given,
            (
              replies arrival (own.accepted arrival.request held.tag came),
              (
                allows.answer held.id held.key
                    (own.terminated held.request held.tag keeps.request),
                (allows.told (notice.Cancel call_id held.id) tt, early held.id state.dialogs),
              ),
            ),
          ))
          (λ e. rw e (
            given,
            (replies arrival (own.accepted arrival.request held.tag came), tt),
          ))

      arrival_fits : (state : State) (call_id : List ℕ) (arrival : Arrival) (now : ℕ)
          → Came arrival.request → StateGiven state
          → ServedFits (arrival_taken state call_id arrival now)
      arrival_fits state call_id arrival now came given =
          let name = dialog_id_of arrival.request arrival.tag in
          by_bool (is_cancel arrival.request)
          (λ e. rw e (cancel_fits state call_id arrival now
          (cancelled_request arrival.key state.requests) refl came given))
          (λ e. rw e (case_fits (case_of state.requests state.dialogs name arrival.request) state
          call_id name arrival came given))

      ack_fits : (state : State) (call_id : List ℕ) (ack : Message) (o : Option Id)
          → StateGiven state → ServedFits (ack_noted state call_id ack o)
      ack_fits state call_id ack None given = (given, tt)
      ack_fits state call_id ack (Some invite) given = (
        changed_given invite (happens.EndsSuccess Acknowledged ∷ []) (tt, tt) state.requests given,
        (allows.told (notice.Ack call_id invite ack.body) tt, tt),
      )

      pub kind_fits : (state : State) (tag : List ℕ) (up : AnUp) (k : UpKind) (now : ℕ)
          → KindGiven Came k → StateGiven state → ServedFits (kind_taken state tag up k now)
      kind_fits state tag up (kind.Request request reply_to) now came given =
          arrival_fits state up.call_id (arrival_of up request reply_to tag) now came given
      kind_fits state tag up (kind.Ack ack) now came given =
          ack_fits state up.call_id ack (acknowledged_invite ack state.requests) given
      kind_fits state tag up (kind.Response response) now came given = (given, tt)
      kind_fits state tag up kind.Timeout now came given = (given, tt)
      kind_fits state tag up kind.Failed now came given = (given, tt)

      -- ---- an answer of the user

      dialogs_fit : (fresh success rejected : Bool) (one two three : Dialogs) (invite : Id)
          (dialogs : Dialogs)
          → Fit (cond {A = Dialogs × List CallOut} fresh (one, [])
          (cond success (two, []) (cond rejected (early_ended invite dialogs) (three, [])))).1
      dialogs_fit true success rejected one two three invite dialogs = tt
      dialogs_fit false true rejected one two three invite dialogs = tt
      dialogs_fit false false true one two three invite dialogs =
          early invite dialogs
      dialogs_fit false false false one two three invite dialogs = tt

      sends_given : (number : Result ℕ SendFault) (response : Message) (now : ℕ) → Given response
          → AllByRecursion HappensGiven (sends_as number response now)
      sends_given (Ok number) response now here = (here, tt)
      sends_given (Err fault) response now here = tt

      answers_given : (reliably final : Bool) (number : Result ℕ SendFault) (status : ℕ)
          (response : Message) (now : ℕ) → Given response
          → AllByRecursion HappensGiven (cond reliably (sends_as number response now)
          (cond final (happens.Finishes response status now ∷ []) []))
      answers_given true final number status response now here =
          sends_given number response now here
      answers_given false true number status response now here = (here, tt)
      answers_given false false number status response now here = tt

      makes_given : (so : Bool) (life : DialogReference)
          → AllByRecursion HappensGiven (cond so (happens.MakesDialog life ∷ []) [])
      makes_given true life = (tt, tt)
      makes_given false life = tt

      answer_keeps : (event : Id) (r : RespondCommand) (response : Message) (now : ℕ)
          (held : HeldRequest) → Given response → KeepsGiven held
          → KeepsGiven (after_answer event r response now held)
      answer_keeps event r response now held here keeps =
          let made = went_on (makes event held r.status) held in
          went_given (answers made r.status r.reliability response now) made
          (went_given (makes event held r.status) held keeps
          (makes_given (makes_dialog held r.status)
          (record { name = dialog_id_of held.request held.tag; created_by = event })))
          (answers_given (is_sent_reliably made r.status r.reliability) (is_final r.status)
          (send_answer made.ledger) r.status response now here)

      -- each answer by this command is one that was given
      abbrev pub RespondGiven : RespondCommand → Type 0
      RespondGiven r = (local : Addr) (held : HeldRequest) → Came held.request
          → Given (answer_to local held r)

      refusal_fits : (state : State) (event : Id) (r : RespondCommand) (now : ℕ)
          (held : HeldRequest) (o : Option Refusal) → RespondGiven r → KeepsGiven held
          → StateGiven state
          → ServedFits (by_refusal state event r now held o)
      refusal_fits state event r now held (Some refusal) here own_held given =
          (given, (allows.told (notice.Refused r.call_id event.place refusal) tt, tt))
      refusal_fits state event r now held None here own_held given =
          let response = answer_to state.local held r in
          let answer = here state.local held own_held.request in (
            first_changed KeepsGiven (has_id r.id) (after_answer event r response now)
                (λ other keeps. answer_keeps event r response now other answer keeps) state.requests
                given,
            (
              allows.answer held.id held.key answer,
              dialogs_fit (makes_dialog held r.status) (confirms_dialog held r.status)
                  (rejects held r.status)
                  (insert_entry is_dialog_id state.dialogs (dialog_id_of held.request held.tag)
                  (made_dialog event held r.status))
                  (dialog_changed (dialog_id_of held.request held.tag) (confirmed response)
                  state.dialogs) state.dialogs held.id state.dialogs,
            ),
          )

      request_fits : (state : State) (event : Id) (r : RespondCommand) (now : ℕ)
          (o : Option HeldRequest) → find (has_id r.id) state.requests ≡ o → RespondGiven r
          → StateGiven state → ServedFits (by_request state event r now o)
      request_fits state event r now None is here given =
          (given, (allows.told (notice.Refused r.call_id event.place NoSuchRequest) tt, tt))
      request_fits state event r now (Some held) is here given =
          refusal_fits state event r now held (refusal_for state.dialogs r held) here
          (found KeepsGiven (has_id r.id) state.requests held given is) given

      pub respond_fits : (state : State) (event : Id) (r : RespondCommand) (now : ℕ)
          → RespondGiven r → StateGiven state → ServedFits (respond_taken state event r now)
      respond_fits state event r now here given =
          request_fits state event r now (find (has_id r.id) state.requests) refl here given

      -- ---- a tick

      success_due : (t : SuccessDue) (held : HeldRequest) (response : Message) → Given response
          → Fit (success_told t held response)
      success_due repeat.Nothing held response here = tt
      success_due repeat.Again held response here =
          (allows.answer held.id held.key here, tt)
      success_due repeat.GivenUp held response here =
          (allows.told (notice.NoAck held.request.call_id held.id) tt, tt)

      goes_given : (t : SuccessDue) (now : ℕ) → AllByRecursion HappensGiven (success_goes t now)
      goes_given repeat.Nothing now = tt
      goes_given repeat.Again now = (tt, tt)
      goes_given repeat.GivenUp now = (tt, tt)

      success_tick : (now : ℕ) (held : HeldRequest) (o : Option Success) → KeepsGiven held
          → IfSome o (λ s. Given s.response)
          → KeepsGiven (success_at_tick now held o).0 × Fit (success_at_tick now held o).1
      success_tick now held None keeps here = (keeps, tt)
      success_tick now held (Some success) keeps here = (
        went_given (success_goes (success_answer now success) now) held keeps
            (goes_given (success_answer now success) now),
        success_due (success_answer now success) held success.response here,
      )

      repeats_fit : (held : HeldRequest) (responses : List ReliableResponse)
          → AllByRecursion (λ one. Given one.response) responses
          → Fit (map (λ one. out.Command held.id (order.Answer held.key one.response)) responses)
      repeats_fit held [] all = tt
      repeats_fit held (one ∷ responses) all =
          (allows.answer held.id held.key all.0, repeats_fit held responses all.1)

      provisionals_due : (t : Tick) (held : HeldRequest) → KeepsGiven held
          → Fit (provisionals_told t held)
      provisionals_due tick.Nothing held keeps = tt
      provisionals_due (tick.Again numbers) held keeps =
          repeats_fit held (of_numbers numbers.items held.provisionals)
          (filtered (λ one. Given one.response) (λ one. is_among numbers.items one.number)
          held.provisionals keeps.provisionals)
      provisionals_due tick.GivenUp held keeps =
          (allows.told (notice.NoPrack held.request.call_id held.id) tt, tt)

      provisionals_given : (t : Tick) (now : ℕ)
          → AllByRecursion HappensGiven (provisionals_go t now)
      provisionals_given tick.Nothing now = tt
      provisionals_given (tick.Again numbers) now = (tt, tt)
      provisionals_given tick.GivenUp now = (tt, tt)

      held_tick : (now : ℕ) (held : HeldRequest) → KeepsGiven held
          → KeepsGiven (request_ticked now held).0 × Fit (request_ticked now held).1
      held_tick now held keeps =
          let first = success_ticked now held in
          let one = success_tick now held held.success keeps keeps.success in
          let t = tick_answer (first.0).ledger now in (
            went_given (provisionals_go t now) first.0 one.0 (provisionals_given t now),
            both P first.1 (provisionals_ticked now first.0).1 one.1
                (provisionals_due t first.0 one.0),
          )

      ticks_keep : (now : ℕ) (requests : List HeldRequest) → AllByRecursion KeepsGiven requests
          → AllByRecursion KeepsGiven (map (λ held. (request_ticked now held).0) requests)
          × Fit (flat_map (λ held. (request_ticked now held).1) requests)
      ticks_keep now [] all = (tt, tt)
      ticks_keep now (held ∷ requests) all =
          let one = held_tick now held all.0 in
          let rest = ticks_keep now requests all.1 in (
            (one.0, rest.0),
            both P (request_ticked now held).1
                (flat_map (λ held. (request_ticked now held).1) requests) one.1 rest.1,
          )

      pub server_tick : (state : State) (now : ℕ) → StateGiven state
          → ServedFits (tick_taken state now)
      server_tick state now given =
          let ticked = ticks_keep now state.requests given in (
            filtered KeepsGiven (is_kept_at now) (map (λ held. (request_ticked now held).0)
                state.requests) ticked.0,
            ticked.1,
          )
