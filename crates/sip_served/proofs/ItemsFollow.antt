-- What is read of the request of an id after each item of the server side is what the outputs say,
-- if the outputs of each change of a request say so.
use Rattle.std.proofs.Common.{◌≡◌, ℕ, Bool, true, false, ◌&&◌, cond, List, [], ◌∷◌, ◌++◌, map, refl, sym, ap, subst, ◌∙◌}
use Rattle.std.specs.Prelude.{Option, None, Some, filter, find, fold}
use Rattle.std.specs.Map.{values_of}
use Rattle.std.specs.Option.{option_map, option_map_or}
use Rattle.indexmap.specs.IndexMap.{insert_entry}
use Rattle.keyed_machine.proofs.Ordered.{by_bool}
use Rattle.sip_message.specs.declared.id.Id.{Id}
use Rattle.sip_message.specs.declared.key.Key.{Key}
use Rattle.sip_message.specs.declared.message.Message.{Message}
use Rattle.sip_transactions.specs.declared.input.Command.TheVariants as order
use Rattle.sip_user.specs.declared.command.Respond.{Respond as Answer}
use Rattle.sip_held_dialogs.specs.declared.held_dialog.DialogId.{DialogId}
use Rattle.sip_held_dialogs.specs.declared.held_dialog.HeldDialog.{HeldDialog}
use Rattle.sip_user.specs.declared.item.CallOut.{CallOut}
use Rattle.sip_user.specs.declared.item.CallOut.TheVariants as out
use Rattle.sip_user.specs.declared.notice.Notice.TheVariants as notice
use Rattle.sip_user.specs.declared.refusal.Refusal.{Refusal}
use Rattle.sip_user.specs.declared.refusal.Refusal.TheVariants.{NoSuchRequest}
use Rattle.sip_held_dialogs.specs.Dialogs.{Dialogs, confirmed, dialog_at, dialog_changed, early_ended, ended_at, ended_notice, is_early_of, is_dialog_id, dialog_of_request}
use Rattle.sip_held_dialogs.specs.Ids.{is_id}
use Rattle.sip_user.specs.Notices.{refused}
use Rattle.sip_held_dialogs.specs.Requests.{dialog_id_of, is_bye, is_cancel, has_to_tag}
use Rattle.sip_held_dialogs.proofs.Heard.{id_laws}
use Rattle.sip_served.specs.declared.arrival.Arrival.{Arrival}
use Rattle.sip_served.specs.declared.arrival.ArrivalCase.{ArrivalCase}
use Rattle.sip_served.specs.declared.arrival.ArrivalCase.TheVariants.{Merged, BadExtension, NoDialog, OutOfOrder, Acknowledges, AcknowledgesNothing, ForUser}
use Rattle.sip_served.specs.declared.held_request.HeldRequest.{HeldRequest}
use Rattle.sip_served.specs.declared.held_request.SuccessEnd.TheVariants.{Acknowledged}
use Rattle.sip_served.specs.Acknowledgment.{ack_noted, ack_taken, acknowledged_invite, success_ended}
use Rattle.sip_served.specs.Arrival.{bye_taken, by_case, case_of, held_first, noted, pracked, request_held}
use Rattle.sip_served.specs.Cancel.{by_cancelled, cancelled_request, cancel_accepted, is_unanswered_invite, request_terminated, termination_told}
use Rattle.sip_served.specs.Respond.{answer_given, answer_to, by_refusal, by_request, confirms_dialog, dialogs_answered, finished, made_dialog, makes_dialog, refusal_for, rejects, respond_taken}
use Rattle.sip_served.specs.State.{State, ServedTaken, changed_at, has_id}
use Rattle.sip_served.specs.Step.{arrival_taken}
use Rattle.sip_served.proofs.Found.{bye_requests, change, found_changed, found_id, found_more, keeps, noted_requests}
use Rattle.sip_served.proofs.Reading.{Follows, IsTold, FollowsAs, Reading, Silent, answer_first, changed_follows, same_follows, silent_both}

-- ---- the outputs of dialogs

module _ {X : Type 0} (reading : Reading X) (invite : Id) (told : IsTold X reading invite) where
  ends_silent : (dialogs : List HeldDialog) → Silent reading (map ended_notice dialogs)
  ends_silent [] x = refl
  ends_silent (dialog ∷ dialogs) x =
      ap (λ x. fold reading.by x (map ended_notice dialogs)) (told.ended dialog x)
      ∙ ends_silent dialogs x

  early_silent : (invite : Id) (dialogs : Dialogs)
      → Silent reading (early_ended invite dialogs).1
  early_silent invite dialogs = ends_silent (filter (is_early_of invite) (values_of dialogs))

  ended_silent : (name : DialogId) (dialogs : Dialogs) → Silent reading (ended_at name dialogs).1
  ended_silent name dialogs = by_found (dialog_at name dialogs)
    where
      by_found : (o : Option HeldDialog)
          → Silent reading (option_map_or (λ held. ended_notice held ∷ []) o [])
      by_found None x = refl
      by_found (Some held) x = told.ended held x

  bye_silent : (b : Bool) (state after : State) (outs : List CallOut) → Silent reading outs
      → Silent reading (cond {A = ServedTaken} b (after, outs) (state, [])).1
  bye_silent true state after outs silent x = silent x
  bye_silent false state after outs silent x = refl

  dialogs_silent : (fresh success rejected : Bool) (one two three : Dialogs) (of : Id)
      (dialogs : Dialogs)
      → Silent reading (cond {A = Dialogs × List CallOut} fresh (one, [])
      (cond success (two, []) (cond rejected (early_ended of dialogs) (three, [])))).1
  dialogs_silent true success rejected one two three of dialogs x = refl
  dialogs_silent false true rejected one two three of dialogs x = refl
  dialogs_silent false false true one two three of dialogs x = early_silent of dialogs x
  dialogs_silent false false false one two three of dialogs x = refl

  -- ---- a request that comes up

  module _ (arrival : Arrival) (requests : List HeldRequest)
      (fresh : find (has_id arrival.id) requests ≡ None) where
    -- the request is answered, and nothing changes
    answer_follows : (given : List CallOut) (key : Key) (response : Message)
        → out.Command arrival.id (order.Answer key response) ∷ [] ≡ given
        → Follows reading invite requests requests given
    answer_follows given key response same =
        subst (Follows reading invite requests requests) same
        (answer_first reading invite told.another arrival.id key response requests requests [] fresh
        (λ e. e) (same_follows reading invite requests [] (λ x. refl)))

    -- the request is answered, and another one changes
    other_follows : (of : Id) (change : HeldRequest → HeldRequest)
        → ((held : HeldRequest) → (change held).id ≡ held.id)
        → (given : List CallOut) (key : Key) (response : Message) (more : List CallOut)
        → out.Command arrival.id (order.Answer key response) ∷ more ≡ given
        → (is_id of invite ≡ true → (held : HeldRequest)
        → reading.read (change held) ≡ fold reading.by (reading.read held) more)
        → (is_id of invite ≡ false → Silent reading more)
        → Follows reading invite requests (changed_at of change requests) given
    other_follows of change keeps given key response more same own other =
        subst (Follows reading invite requests (changed_at of change requests)) same
        (answer_first reading invite told.another arrival.id key response requests
        (changed_at of change requests) more fresh
        (λ none. found_changed of invite change keeps requests
        ∙ ap (λ o. cond (is_id of invite) (option_map change o) o) none ∙ gone (is_id of invite))
        (changed_follows reading invite of change keeps requests more
        (λ same held at. own same held) other))
      where
        gone : (b : Bool) → cond b (option_map change None) None ≡ None
        gone true = refl
        gone false = refl

    -- the request is held
    held_follows : (held : HeldRequest) → reading.read held ≡ reading.none
        → (outs : List CallOut) → Silent reading outs
        → Follows reading invite requests (requests ++ held ∷ []) outs
    held_follows held new outs silent =
        let before = find (has_id invite) requests in
        subst (λ after. FollowsAs reading before after outs)
        (sym (found_more invite requests held)) (by_found before)
      where
        by_new : (b : Bool) → FollowsAs reading None (cond b (Some held) None) outs
        by_new false = tt
        by_new true = new ∙ sym (silent reading.none)

        by_found : (o : Option HeldRequest) → FollowsAs reading o
            (option_map_or (λ held. Some held) o (cond (is_id held.id invite) (Some held) None))
            outs
        by_found None = by_new (is_id held.id invite)
        by_found (Some there) = sym (silent (reading.read there))

  case_follows : (case : ArrivalCase) (state : State) (call_id : List ℕ) (name : DialogId)
      (arrival : Arrival) → find (has_id arrival.id) state.requests ≡ None
      → Follows reading invite state.requests
      ((by_case case state call_id name arrival).0).requests
      (by_case case state call_id name arrival).1
  case_follows Merged state call_id name arrival fresh =
      answer_follows arrival state.requests fresh
      (by_case Merged state call_id name arrival).1 _ _ refl
  case_follows BadExtension state call_id name arrival fresh =
      answer_follows arrival state.requests fresh
      (by_case BadExtension state call_id name arrival).1 _ _ refl
  case_follows NoDialog state call_id name arrival fresh =
      answer_follows arrival state.requests fresh
      (by_case NoDialog state call_id name arrival).1 _ _ refl
  case_follows OutOfOrder state call_id name arrival fresh =
      answer_follows arrival state.requests fresh
      (by_case OutOfOrder state call_id name arrival).1 _ _ refl
  case_follows (Acknowledges of rseq) state call_id name arrival fresh =
      let outs = (by_case (Acknowledges of rseq) state call_id name arrival).1 in
      subst (λ requests. Follows reading invite state.requests
      (changed_at of (pracked rseq) requests) outs)
      (sym (noted_requests state name arrival.request))
      (other_follows arrival state.requests fresh of (pracked rseq) (λ held. refl) outs _ _
      (out.Notice (notice.Prack call_id of rseq arrival.request.body) ∷ []) refl
      (λ own. told.prack call_id of rseq arrival.request.body own)
      (λ other. told.other_prack call_id of rseq arrival.request.body other))
  case_follows AcknowledgesNothing state call_id name arrival fresh =
      let outs = (by_case AcknowledgesNothing state call_id name arrival).1 in
      subst (λ requests. Follows reading invite state.requests requests outs)
      (sym (noted_requests state name arrival.request))
      (answer_follows arrival state.requests fresh outs _ _ refl)
  case_follows ForUser state call_id name arrival fresh =
      let before = noted state name arrival.request in
      let first = request_held before call_id name arrival in
      let held = first.0 in
      let bye = bye_taken arrival.request name held in
      let of_bye = has_to_tag arrival.request && is_bye arrival.request in
      let ended = ended_at name held.dialogs in
      let outs = first.1 ++ bye.1 in
      let own = dialog_of_request arrival.request name before.dialogs in
      let silent : Silent reading outs =
      silent_both reading first.1 bye.1 (λ x. told.request call_id arrival.id _ _ _ _ x)
      (bye_silent of_bye held (record held { dialogs = ended.0 }) ended.1
      (ended_silent name held.dialogs)) in
      subst (λ requests. Follows reading invite state.requests requests outs)
      (sym (bye_requests of_bye held ended.0 ended.1))
      (subst (λ requests. Follows reading invite state.requests
      (requests ++ held_first own arrival ∷ []) outs)
      (sym (noted_requests state name arrival.request))
      (held_follows arrival state.requests fresh (held_first own arrival)
      (told.new arrival own) outs silent))

  -- ---- a CANCEL

  cancel_follows : (state : State) (call_id : List ℕ) (arrival : Arrival) (now : ℕ)
      (o : Option HeldRequest) → find (has_id arrival.id) state.requests ≡ None
      → Follows reading invite state.requests
      ((by_cancelled state call_id arrival now o).0).requests
      (by_cancelled state call_id arrival now o).1
  cancel_follows state call_id arrival now None fresh =
      answer_follows arrival state.requests fresh
      (by_cancelled state call_id arrival now None).1 _ _ refl
  cancel_follows state call_id arrival now (Some held) fresh =
      by_bool (is_unanswered_invite held)
      (λ e. rw e (other_follows arrival state.requests fresh held.id
      (finished response 487 now) (λ held. refl)
      (termination_told call_id arrival held response ++ ends) _ _
      (answer ∷ out.Notice (notice.Cancel call_id held.id) ∷ ends) refl
      (λ own one. told.terminated held.id own held held.key now one
      ∙ sym (rest (reading.by (reading.read one) answer)))
      (λ other x. rest (reading.by x answer) ∙ told.another held.id other held.key response x)))
      (λ e. rw e (answer_follows arrival state.requests fresh
      (cancel_accepted arrival held ∷ []) _ _ refl))
    where
      response : Message
      response = request_terminated held

      answer : CallOut
      answer = out.Command held.id (order.Answer held.key response)

      ends : List CallOut
      ends = (early_ended held.id state.dialogs).1

      rest : Silent reading (out.Notice (notice.Cancel call_id held.id) ∷ ends)
      rest x =
          ap (λ x. fold reading.by x ends) (told.cancel call_id held.id x)
          ∙ early_silent held.id state.dialogs x

  pub arrival_follows : (state : State) (call_id : List ℕ) (arrival : Arrival) (now : ℕ)
      → find (has_id arrival.id) state.requests ≡ None
      → Follows reading invite state.requests
      ((arrival_taken state call_id arrival now).0).requests
      (arrival_taken state call_id arrival now).1
  arrival_follows state call_id arrival now fresh =
      let name = dialog_id_of arrival.request arrival.tag in
      by_bool (is_cancel arrival.request)
      (λ e. rw e (cancel_follows state call_id arrival now
      (cancelled_request arrival.key state.requests) fresh))
      (λ e. rw e (case_follows (case_of state.requests state.dialogs name arrival.request) state
      call_id name arrival fresh))

  -- ---- an ACK

  pub ack_follows : (state : State) (call_id : List ℕ) (ack : Message)
      → Follows reading invite state.requests ((ack_taken state call_id ack).0).requests
      (ack_taken state call_id ack).1
  ack_follows state call_id ack = by_invite (acknowledged_invite ack state.requests)
    where
      by_invite : (o : Option Id)
          → Follows reading invite state.requests ((ack_noted state call_id ack o).0).requests
          (ack_noted state call_id ack o).1
      by_invite None = same_follows reading invite state.requests [] (λ x. refl)
      by_invite (Some of) =
          changed_follows reading invite of (success_ended Acknowledged) (λ held. refl)
          state.requests (out.Notice (notice.Ack call_id of ack.body) ∷ [])
          (λ own held at. told.ack call_id of ack.body own held)
          (λ other. told.other_ack call_id of ack.body other)

  -- ---- an answer of the user

  module _ (state : State) (event : Id) (r : Answer) (now : ℕ) where
    abbrev FollowsTo : ServedTaken → Type 0
    FollowsTo taken = Follows reading invite state.requests (taken.0).requests taken.1

    given_follows : (held : HeldRequest) → find (has_id r.id) state.requests ≡ Some held
        → FollowsTo (answer_given state event r now held)
    given_follows held at =
        changed_follows reading invite r.id (change state event r now held)
        (keeps state event r now held) state.requests
        (answer_given state event r now held).1 own
        (λ other x. ends (reading.by x answer)
        ∙ told.another held.id (same_id ∙ other) held.key response x)
      where
        response : Message
        response = answer_to state.local held r

        answer : CallOut
        answer = out.Command held.id (order.Answer held.key response)

        ends : Silent reading (dialogs_answered event held r.status response state.dialogs).1
        ends =
            let name = dialog_id_of held.request held.tag in
            dialogs_silent (makes_dialog held r.status) (confirms_dialog held r.status)
            (rejects held r.status)
            (insert_entry is_dialog_id state.dialogs name (made_dialog event held r.status))
            (dialog_changed name (confirmed response) state.dialogs) state.dialogs held.id
            state.dialogs

        same_id : is_id held.id invite ≡ is_id r.id invite
        same_id = id_laws.congr held.id r.id invite (found_id r.id state.requests held at)

        own : is_id r.id invite ≡ true → (there : HeldRequest)
            → find (has_id r.id) state.requests ≡ Some there
            → reading.read (change state event r now held there)
            ≡ fold reading.by (reading.read there) (answer_given state event r now held).1
        own so there is =
            let same : held ≡ there = cc in
            subst (λ there. reading.read (change state event r now held there)
            ≡ fold reading.by (reading.read there) (answer_given state event r now held).1) same
            (told.given held.id (same_id ∙ so) state.local held.key event r now held
            ∙ sym (ends (reading.by (reading.read held) answer)))

    by_reason : (held : HeldRequest) → find (has_id r.id) state.requests ≡ Some held
        → (o : Option Refusal) → FollowsTo (by_refusal state event r now held o)
    by_reason held at (Some refusal) =
        same_follows reading invite state.requests (refused event r.call_id refusal)
        (λ x. told.refusal r.call_id event.place refusal x)
    by_reason held at None = given_follows held at

    by_held : (o : Option HeldRequest) → find (has_id r.id) state.requests ≡ o
        → FollowsTo (by_request state event r now o)
    by_held None at =
        same_follows reading invite state.requests (refused event r.call_id NoSuchRequest)
        (λ x. told.refusal r.call_id event.place NoSuchRequest x)
    by_held (Some held) at = by_reason held at (refusal_for state.dialogs r held)

    pub respond_follows : FollowsTo (respond_taken state event r now)
    respond_follows = by_held (find (has_id r.id) state.requests) refl
