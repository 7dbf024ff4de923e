-- Each item of the server side: which dialogs it opens and ends, and that each end is told once.
use Rattle.std.proofs.Common.{◌≡◌, ℕ, Bool, true, false, not, ◌&&◌, ◌||◌, ◌==◌, cond, List, [], ◌∷◌, length, map, refl, sym, ap, subst, ◌∙◌, arith}
use Rattle.std.specs.Prelude.{Option, None, Some, codes, find, flat_map, is_none, is_some, nat_le, nat_lt, if◌then◌else◌}
use Rattle.std.specs.Cmp.{first_so, second_so}
use Rattle.std.specs.List.{list_any}
use Rattle.std.specs.Option.{option_map_or}
use Rattle.std.specs.Str.{bytes_eq}
use Rattle.std.proofs.lemmas.Grind.{common_steps}
use Rattle.std.proofs.lemmas.Slice.Eq.{bytes_eq-Decides}
use Rattle.indexmap.specs.IndexMap.{insert_entry}
use Rattle.keyed_machine.proofs.Ordered.{by_bool}
use Rattle.sip_message.specs.declared.addr.Addr.{Addr}
use Rattle.sip_message.specs.declared.id.Id.{Id}
use Rattle.sip_message.specs.declared.message.Message.{Message}
use Rattle.sip_message.specs.Party.{tag_of}
use Rattle.sip_reliable.specs.declared.tick.Tick.{Tick}
use Rattle.sip_reliable.specs.declared.tick.Tick.TheVariants as tick
use Rattle.sip_reliable.specs.Ledger.{tick_answer}
use Rattle.sip_transactions.specs.declared.input.Command.TheVariants as order
use Rattle.sip_transactions.specs.declared.output.UpKind.TheVariants.{Request}
use Rattle.sip_transactions.specs.declared.output.Up.{Up}
use Rattle.sip_served.specs.declared.arrival.Arrival.{Arrival}
use Rattle.sip_served.specs.declared.arrival.ArrivalCase.{ArrivalCase}
use Rattle.sip_served.specs.declared.arrival.ArrivalCase.TheVariants.{Merged, BadExtension, NoDialog, OutOfOrder, Acknowledges, AcknowledgesNothing, ForUser}
use Rattle.sip_served.specs.declared.held_request.HeldRequest.{HeldRequest}
use Rattle.sip_served.specs.declared.held_request.Success.{Success}
use Rattle.sip_served.specs.declared.provisionals.ReliableResponse.{ReliableResponse}
use Rattle.sip_served.specs.declared.retransmissions.SuccessDue.{SuccessDue}
use Rattle.sip_served.specs.declared.retransmissions.SuccessDue.TheVariants as repeat
use Rattle.sip_user.specs.declared.command.Respond.{Respond as Answer}
use Rattle.sip_held_dialogs.specs.declared.held_dialog.DialogId.{DialogId}
use Rattle.sip_held_dialogs.specs.declared.held_dialog.HeldDialog.{HeldDialog}
use Rattle.sip_user.specs.declared.item.CallOut.{CallOut}
use Rattle.sip_user.specs.declared.item.CallOut.TheVariants as out
use Rattle.sip_user.specs.declared.refusal.Refusal.{Refusal}
use Rattle.sip_held_dialogs.specs.Dialogs.{Dialogs, confirmed, dialog_at, dialog_changed, early_ended, ended_at, is_early_of, is_dialog_id, takes, visited, happenings_by_request}
use Rattle.sip_held_dialogs.specs.Requests.{dialog_id_of, is_bye, is_cancel, has_to_tag, is_invite, is_prack, is_provisional, is_success, is_unknown_option, dialog_id_of_tags}
use Rattle.sip_served.specs.Acknowledgment.{ack_noted, ack_taken, acknowledged_invite}
use Rattle.sip_served.specs.Arrival.{arrival_of, by_case, bye_taken, case_inside, case_of, case_outside, is_merged, noted, prack_case, request_held, request_taken}
use Rattle.sip_served.specs.Cancel.{by_cancelled, cancel_taken, cancelled_request, is_unanswered_invite, request_terminated, termination_told}
use Rattle.sip_held_dialogs.specs.Sent.{response_in}
use Rattle.sip_served.specs.Endings.{ended_by_answer, ended_by_bye, ended_by_cancel, ended_by_request, opened_by_answer}
use Rattle.sip_served.specs.Provisionals.{of_numbers}
use Rattle.sip_served.specs.Respond.{answer_to, by_refusal, by_request, confirms_dialog, makes_or_confirms_dialog, made_dialog, makes_dialog, refusal_for, rejects, respond_taken}
use Rattle.sip_served.specs.State.{State, ServedTaken, has_id}
use Rattle.sip_served.specs.Step.{arrival_taken, kind_taken}
use Rattle.sip_served.specs.Tick.{provisionals_ticked, provisionals_told, request_ticked, success_answer, success_at_tick, success_ticked, success_told, tick_taken}
use Rattle.sip_held_dialogs.proofs.Entries as entries
use Rattle.sip_held_dialogs.proofs.Heard.{AreApart, name_laws}
use Rattle.sip_held_dialogs.proofs.EndedDialogs.{AreNamed, Goes, Which, changed_held, changed_named, ended_none, goes_as, goes_before, goes_changed, goes_early, goes_kept, goes_named_then, goes_removed, goes_same, left_of, lived_name, names_ended, no_name, none_ends, silent_both}

-- nothing is opened
abbrev pub Closes : Which → State → ServedTaken → Type 0
Closes ends state taken = Goes no_name ends state.dialogs (taken.0).dialogs taken.1

-- ---- a request that comes up

-- a request in a dialog is noted in that dialog
noted_held : (state : State) (name : DialogId) (request : Message) (other : DialogId)
    → is_some (dialog_at other (noted state name request).dialogs)
    ≡ is_some (dialog_at other state.dialogs)
noted_held state name request other =
    elim (has_to_tag request) as (λ b. is_some (dialog_at other (if b
    then record state { dialogs = dialog_changed name (visited request) state.dialogs }
    else state).dialogs) ≡ is_some (dialog_at other state.dialogs)) [
      | true ↦ changed_held name (visited request) state.dialogs other
      | false ↦ refl
    ]

noted_apart : (state : State) (name : DialogId) (request : Message) → AreApart state.dialogs
    → AreApart (noted state name request).dialogs
noted_apart state name request apart =
    elim (has_to_tag request) as (λ b. AreApart (if b
    then record state { dialogs = dialog_changed name (visited request) state.dialogs }
    else state).dialogs) [
      | true ↦ entries.apart_changed name_laws name (visited request) state.dialogs
          (dialog_at name state.dialogs) apart
      | false ↦ apart
    ]

noted_named : (state : State) (name : DialogId) (request : Message) → AreNamed state.dialogs
    → AreNamed (noted state name request).dialogs
noted_named state name request named =
    elim (has_to_tag request) as (λ b. AreNamed (if b
    then record state { dialogs = dialog_changed name (visited request) state.dialogs }
    else state).dialogs) [
      | true ↦ changed_named name (visited request)
          (λ held. lived_name held.dialog (happenings_by_request request held)) state.dialogs named
      | false ↦ named
    ]

-- a BYE for the user ends the dialog of its name
abbrev is_user : ArrivalCase → Bool
is_user Merged = false
is_user BadExtension = false
is_user NoDialog = false
is_user OutOfOrder = false
is_user (Acknowledges invite rseq) = false
is_user AcknowledgesNothing = false
is_user ForUser = true

abbrev case_ends : ArrivalCase → Message → DialogId → Which
case_ends case request own name held =
    (is_user case && (has_to_tag request && is_bye request)) && is_dialog_id own name

bye_goes : (b : Bool) (state : State) (name : DialogId) → AreApart state.dialogs
    → AreNamed state.dialogs
    → Closes (λ other held. b && is_dialog_id name other) state (cond {A = ServedTaken} b
    (record state { dialogs = (ended_at name state.dialogs).0 }, (ended_at name state.dialogs).1)
    (state, []))
bye_goes true state name apart named = goes_removed name state.dialogs apart named
bye_goes false state name apart named = goes_same state.dialogs [] refl

case_goes : (case : ArrivalCase) (state : State) (call_id : List ℕ) (name : DialogId)
    (arrival : Arrival) → AreApart state.dialogs → AreNamed state.dialogs
    → Closes (case_ends case arrival.request name) state (by_case case state call_id name arrival)
case_goes Merged state call_id name arrival apart named = goes_same state.dialogs _ refl
case_goes BadExtension state call_id name arrival apart named = goes_same state.dialogs _ refl
case_goes NoDialog state call_id name arrival apart named = goes_same state.dialogs _ refl
case_goes OutOfOrder state call_id name arrival apart named = goes_same state.dialogs _ refl
case_goes (Acknowledges invite rseq) state call_id name arrival apart named =
    goes_kept state.dialogs (noted state name arrival.request).dialogs _
    (noted_held state name arrival.request) refl
case_goes AcknowledgesNothing state call_id name arrival apart named =
    goes_kept state.dialogs (noted state name arrival.request).dialogs _
    (noted_held state name arrival.request) refl
case_goes ForUser state call_id name arrival apart named =
    let request = arrival.request in
    let before = noted state name request in
    let held = request_held before call_id name arrival in
    let bye = has_to_tag request && is_bye request in
    let done = bye_taken request name held.0 in
    goes_before no_name (case_ends ForUser request name) state.dialogs (done.0).dialogs held.1
    done.1 refl
    (goes_named_then (λ other. bye && is_dialog_id name other) state.dialogs before.dialogs
    (done.0).dialogs done.1 (noted_held state name request)
    (bye_goes bye held.0 name (noted_apart state name request apart)
    (noted_named state name request named)))

cancel_goes : (state : State) (call_id : List ℕ) (arrival : Arrival) (now : ℕ)
    (o : Option HeldRequest) → AreApart state.dialogs → AreNamed state.dialogs
    → Closes (λ name held. option_map_or (λ request. is_unanswered_invite request
    && is_early_of request.id held) o false) state (by_cancelled state call_id arrival now o)
cancel_goes state call_id arrival now None apart named = goes_same state.dialogs _ refl
cancel_goes state call_id arrival now (Some held) apart named =
    by_bool (is_unanswered_invite held)
    (λ e. rw e (goes_before no_name (λ name dialog. is_early_of held.id dialog) state.dialogs
    (early_ended held.id state.dialogs).0
    (termination_told call_id arrival held (request_terminated held))
    (early_ended held.id state.dialogs).1 refl (goes_early held.id state.dialogs apart named)))
    (λ e. rw e (goes_same state.dialogs _ refl))

-- ---- which BYE ends a dialog

never_bye : (user inside named : Bool) → ((user && (inside && false)) && named) ≡ false
never_bye true true named = refl
never_bye true false named = refl
never_bye false inside named = refl

never_outside : (user named : Bool) → ((user && false) && named) ≡ false
never_outside true named = refl
never_outside false named = refl

never_other : (b : Bool) → (b && false) ≡ false
never_other true = refl
never_other false = refl

bye_is_no_prack : (request : Message) → is_bye request ≡ true → is_prack request ≡ false
bye_is_no_prack request is =
    let method : request.cseq.method ≡ codes "BYE" =
    (bytes_eq-Decides request.cseq.method (codes "BYE")).0 is in
    ap (λ method. bytes_eq method (codes "PRACK")) method

module _ (requests : List HeldRequest) (dialogs : Dialogs) (request : Message) (tag : List ℕ)
    (name : DialogId) (held : HeldDialog) (at : dialog_at name dialogs ≡ Some held) where
  -- the name, by whether the request has a To tag
  abbrev own : Bool → DialogId
  own outside = dialog_id_of_tags (if outside then tag else tag_of request.to) (tag_of request.from)

  abbrev case_by : Bool → Bool → ArrivalCase
  case_by outside unknown =
      if not (not outside) && list_any (is_merged request) requests then Merged
      else (if unknown then BadExtension
      else (if not outside
      then case_inside requests (own outside) request (dialog_at (own outside) dialogs)
      else case_outside request))

  by_number : (in_order prack : Bool) → prack ≡ false
      → is_user (if not in_order then OutOfOrder
      else (if prack then prack_case requests (own false) held.created_by request.rack else
      ForUser))
      ≡ in_order
  by_number in_order true none = absurd cc
  by_number true false none = refl
  by_number false false none = refl

  by_options : (unknown : Bool) (o : Option HeldDialog) → o ≡ Some held → is_bye request ≡ true
      → is_user (if unknown then BadExtension else case_inside requests (own false) request o)
      ≡ (not unknown && takes held request.cseq.number)
  by_options true o is bye = refl
  by_options false o is bye =
      ap (λ found. is_user (case_inside requests (own false) request found)) is
      ∙ by_number (takes held request.cseq.number) (is_prack request)
      (bye_is_no_prack request bye)

  all_true : (b : Bool) → ((b && true) && true) ≡ b
  all_true true = refl
  all_true false = refl

  by_name : (unknown named : Bool) → is_dialog_id (own false) name ≡ named → is_bye request ≡ true
      → ((is_user (case_by false unknown) && true) && named)
      ≡ (true && (true && named) && not unknown && takes held request.cseq.number)
  by_name unknown true is bye =
      all_true (is_user (case_by false unknown))
      ∙ by_options unknown (dialog_at (own false) dialogs)
      (sym (entries.same_key name_laws (own false) name dialogs is) ∙ at) bye
  by_name unknown false is bye = never_other (is_user (case_by false unknown) && true)

  by_outside : (outside unknown bye : Bool) → is_bye request ≡ bye
      → ((is_user (case_by outside unknown) && (not outside && bye))
      && is_dialog_id (own outside) name)
      ≡ (bye && (not outside && is_dialog_id (own false) name) && not unknown
      && takes held request.cseq.number)
  by_outside outside unknown false is =
      never_bye (is_user (case_by outside unknown)) (not outside) (is_dialog_id (own outside) name)
  by_outside true unknown true is =
      never_outside (is_user (case_by true unknown)) (is_dialog_id (own true) name)
  by_outside false unknown true is = by_name unknown (is_dialog_id (own false) name) refl is

  ends_by_bye : case_ends (case_of requests dialogs (dialog_id_of request tag) request) request
      (dialog_id_of request tag) name held ≡ ended_by_bye request name held
  ends_by_bye =
      by_outside (length (tag_of request.to) == 0) (list_any is_unknown_option request.require)
      (is_bye request) refl

arrival_goes : (state : State) (call_id : List ℕ) (arrival : Arrival) (now : ℕ)
    → AreApart state.dialogs → AreNamed state.dialogs
    → Closes (ended_by_request state arrival.key arrival.request) state
    (arrival_taken state call_id arrival now)
arrival_goes state call_id arrival now apart named =
    by_cancel (is_cancel arrival.request)
  where
    by_cancel : (cancel : Bool) → Closes (λ other held. if cancel
        then ended_by_cancel state arrival.key held
        else ended_by_bye arrival.request other held) state
        (cond {A = ServedTaken} cancel (cancel_taken state call_id arrival now)
        (request_taken state call_id arrival))
    by_cancel true =
        cancel_goes state call_id arrival now (cancelled_request arrival.key state.requests) apart
        named
    by_cancel false =
        let request = arrival.request in
        let name = dialog_id_of request arrival.tag in
        let case = case_of state.requests state.dialogs name request in
        goes_as no_name no_name (case_ends case request name) (ended_by_bye request)
        state.dialogs ((by_case case state call_id name arrival).0).dialogs
        (by_case case state call_id name arrival).1 (λ other. refl)
        (λ other held at. ends_by_bye state.requests state.dialogs request arrival.tag other held
        at)
        (case_goes case state call_id name arrival apart named)

pub request_goes : (state : State) (tag : List ℕ) (up : Up) (request : Message) (reply_to : Addr)
    (now : ℕ) → AreApart state.dialogs → AreNamed state.dialogs
    → Closes (ended_by_request state up.key request) state
    (kind_taken state tag up (Request request reply_to) now)
request_goes state tag up request reply_to now apart named =
    arrival_goes state up.call_id (arrival_of up request reply_to tag) now apart named

-- an ACK ends none
pub ack_goes : (state : State) (call_id : List ℕ) (ack : Message)
    → Closes none_ends state (ack_taken state call_id ack)
ack_goes state call_id ack = by_invite (acknowledged_invite ack state.requests)
  where
    by_invite : (o : Option Id) → Closes none_ends state (ack_noted state call_id ack o)
    by_invite None = goes_same state.dialogs [] refl
    by_invite (Some invite) = goes_same state.dialogs _ refl

-- ---- an answer of the user

below_300 : (status : ℕ) → (nat_lt status 200 || (nat_le 200 status && nat_lt status 300)) ≡ true
    → nat_le 300 status ≡ false
below_300 status e = grind (arith, common_steps)

-- a response of a dialog isn't a rejection
not_both : (request : HeldRequest) (status : ℕ) → makes_or_confirms_dialog request status ≡ true
    → rejects request status ≡ false
not_both request status is =
    ap (λ b. is_invite request.request && b)
    (below_300 status (second_so (is_invite request.request)
    (is_provisional status || is_success status) is))
    ∙ never_other (is_invite request.request)

makes_not_rejects : (request : HeldRequest) (status : ℕ) → makes_dialog request status ≡ true
    → rejects request status ≡ false
makes_not_rejects request status is =
    not_both request status (first_so (makes_or_confirms_dialog request status)
    (not (has_to_tag request.request))
    (first_so (makes_or_confirms_dialog request status && not (has_to_tag request.request))
    (is_none request.dialog) is))

confirms_not_rejects : (request : HeldRequest) (status : ℕ)
    → confirms_dialog request status ≡ true → rejects request status ≡ false
confirms_not_rejects request status is =
    not_both request status (first_so (makes_or_confirms_dialog request status) (is_success status)
    (first_so (makes_or_confirms_dialog request status && is_success status)
    (not (has_to_tag request.request)) is))

module _ (event : Id) (request : HeldRequest) (r : Answer) (response : Message)
    (dialogs : Dialogs) (apart : AreApart dialogs) (named : AreNamed dialogs) where
  abbrev its_name : DialogId
  its_name = dialog_id_of request.request request.tag

  abbrev Given : Bool → Bool → Dialogs × List CallOut → Type 0
  Given makes rejected done = Goes (λ name. makes && is_dialog_id its_name name)
      (λ name held. rejected && is_early_of request.id held) dialogs done.0 done.1

  put_held : (made : HeldDialog) (name : DialogId) (b : Bool) (o : Option HeldDialog)
      → is_some (cond {A = Option HeldDialog} b (Some made) o) ≡ (b || left_of (none_ends name) o)
  put_held made name true o = refl
  put_held made name false None = refl
  put_held made name false (Some held) = refl

  dialogs_go : (makes success rejected : Bool) → (makes ≡ true → rejected ≡ false)
      → (success ≡ true → rejected ≡ false)
      → Given makes rejected (cond {A = Dialogs × List CallOut} makes
      (insert_entry is_dialog_id dialogs its_name (made_dialog event request r.status), [])
      (cond success (dialog_changed its_name (confirmed response) dialogs, [])
      (cond rejected (early_ended request.id dialogs) (dialogs, []))))
  dialogs_go true success rejected no_made no_success =
      let made = made_dialog event request r.status in
      subst (λ (rejected : Bool). Given true rejected
      (insert_entry is_dialog_id dialogs its_name made, []))
      (sym (no_made refl)) record {
        held = λ name.
            ap (λ o. is_some o) (entries.found_inserted name_laws its_name name made dialogs)
            ∙ put_held made name (is_dialog_id its_name name) (dialog_at name dialogs);
        told = λ name. ended_none (dialog_at name dialogs);
      }
  dialogs_go false true rejected no_made no_success =
      let after = dialog_changed its_name (confirmed response) dialogs in
      subst (λ (rejected : Bool). Given false rejected (after, [])) (sym (no_success refl))
      (goes_changed its_name (confirmed response) dialogs [] refl)
  dialogs_go false false true no_made no_success = goes_early request.id dialogs apart named
  dialogs_go false false false no_made no_success = goes_same dialogs [] refl

module _ (event : Id) (state : State) (r : Answer) (now : ℕ) (apart : AreApart state.dialogs)
    (named : AreNamed state.dialogs) where
  abbrev Answered : Option HeldRequest → ServedTaken → Type 0
  Answered o taken = Goes
      (λ name. option_map_or (λ request. list_any (λ out. is_some (response_in out)) taken.1
      && makes_dialog request r.status
      && is_dialog_id (dialog_id_of request.request request.tag) name) o false)
      (λ name held. option_map_or (λ request. list_any (λ out. is_some (response_in out)) taken.1
      && rejects request r.status && is_early_of request.id held) o false)
      state.dialogs (taken.0).dialogs taken.1

  by_reason : (request : HeldRequest) (o : Option Refusal)
      → Answered (Some request) (by_refusal state event r now request o)
  by_reason request (Some refusal) = goes_same state.dialogs _ refl
  by_reason request None =
      let response = answer_to state.local request r in
      goes_before (λ name. makes_dialog request r.status
      && is_dialog_id (dialog_id_of request.request request.tag) name)
      (λ name held. rejects request r.status && is_early_of request.id held) state.dialogs _
      (out.Command request.id (order.Answer request.key response) ∷ []) _ refl
      (dialogs_go event request r response state.dialogs apart named (makes_dialog request r.status)
      (confirms_dialog request r.status) (rejects request r.status)
      (makes_not_rejects request r.status) (confirms_not_rejects request r.status))

  by_held : (o : Option HeldRequest) → Answered o (by_request state event r now o)
  by_held None = goes_same state.dialogs _ refl
  by_held (Some request) = by_reason request (refusal_for state.dialogs r request)

  pub respond_goes : Goes (opened_by_answer state r (respond_taken state event r now).1)
      (λ name held. ended_by_answer state r (respond_taken state event r now).1 held)
      state.dialogs ((respond_taken state event r now).0).dialogs
      (respond_taken state event r now).1
  respond_goes = by_held (find (has_id r.id) state.requests)

-- ---- a tick

told_silent : (t : SuccessDue) (held : HeldRequest) (response : Message)
    → names_ended (success_told t held response) ≡ []
told_silent repeat.Nothing held response = refl
told_silent repeat.Again held response = refl
told_silent repeat.GivenUp held response = refl

success_silent : (now : ℕ) (held : HeldRequest) (o : Option Success)
    → names_ended (success_at_tick now held o).1 ≡ []
success_silent now held None = refl
success_silent now held (Some success) =
    told_silent (success_answer now success) held success.response

repeats_silent : (held : HeldRequest) (responses : List ReliableResponse)
    → names_ended (map (λ one. out.Command held.id (order.Answer held.key one.response)) responses)
    ≡ []
repeats_silent held [] = refl
repeats_silent held (one ∷ responses) = repeats_silent held responses

provisionals_silent : (t : Tick) (held : HeldRequest) → names_ended (provisionals_told t held) ≡ []
provisionals_silent tick.Nothing held = refl
provisionals_silent (tick.Again numbers) held =
    repeats_silent held (of_numbers numbers.items held.provisionals)
provisionals_silent tick.GivenUp held = refl

ticked_silent : (now : ℕ) (held : HeldRequest) → names_ended (request_ticked now held).1 ≡ []
ticked_silent now held =
    let first = success_ticked now held in
    silent_both first.1 (provisionals_ticked now first.0).1
    (success_silent now held held.success)
    (provisionals_silent (tick_answer (first.0).ledger now) first.0)

all_silent : (now : ℕ) (requests : List HeldRequest)
    → names_ended (flat_map (λ held. (request_ticked now held).1) requests) ≡ []
all_silent now [] = refl
all_silent now (held ∷ requests) =
    silent_both (request_ticked now held).1
    (flat_map (λ held. (request_ticked now held).1) requests) (ticked_silent now held)
    (all_silent now requests)

pub tick_silent : (state : State) (now : ℕ) → names_ended (tick_taken state now).1 ≡ []
tick_silent state now = all_silent now state.requests
