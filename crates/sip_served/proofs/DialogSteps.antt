-- Each item of the server side: what it makes happen in the dialog of each name, which goes on,
-- ends or is made anew.
use Rattle.std.proofs.Common.{◌≡◌, ℕ, Bool, true, false, not, ◌&&◌, ◌==◌, cond, List, [], ◌∷◌, ◌++◌, length, refl, sym, ap, ◌∙◌, append-nil}
use Rattle.std.specs.Prelude.{Option, None, Some, find, is_none, if◌then◌else◌}
use Rattle.std.specs.Cmp.{first_so, second_so}
use Rattle.std.specs.List.{flat_map, list_any}
use Rattle.std.specs.Option.{option_map, option_map_or}
use Rattle.indexmap.specs.IndexMap.{insert_entry}
use Rattle.keyed_machine.proofs.Ordered.{by_bool}
use Rattle.sip_message.specs.declared.addr.Addr.{Addr}
use Rattle.sip_message.specs.declared.id.Id.{Id}
use Rattle.sip_message.specs.declared.message.Message.{Message}
use Rattle.sip_message.specs.declared.rack.RAck.{RAck}
use Rattle.sip_message.specs.Party.{tag_of}
use Rattle.sip_dialog.specs.Life.{Happening}
use Rattle.sip_dialog.specs.Opening.{ByRequest, Opening, opened}
use Rattle.sip_transactions.specs.declared.input.Command.TheVariants as order
use Rattle.sip_transactions.specs.declared.output.UpKind.TheVariants.{Request}
use Rattle.sip_transactions.specs.declared.output.Up.{Up}
use Rattle.sip_served.specs.declared.arrival.Arrival.{Arrival}
use Rattle.sip_served.specs.declared.arrival.ArrivalCase.{ArrivalCase}
use Rattle.sip_served.specs.declared.arrival.ArrivalCase.TheVariants.{Merged, BadExtension, NoDialog, OutOfOrder, Acknowledges, AcknowledgesNothing, ForUser}
use Rattle.sip_user.specs.declared.command.Respond.{Respond as Answer}
use Rattle.sip_held_dialogs.specs.declared.held_dialog.DialogId.{DialogId}
use Rattle.sip_held_dialogs.specs.declared.held_dialog.HeldDialog.{HeldDialog}
use Rattle.sip_served.specs.declared.held_request.HeldRequest.{HeldRequest}
use Rattle.sip_user.specs.declared.item.CallOut.{CallOut}
use Rattle.sip_user.specs.declared.item.CallOut.TheVariants as out
use Rattle.sip_user.specs.declared.refusal.Refusal.{Refusal}
use Rattle.sip_served.specs.Acknowledgment.{ack_noted, ack_taken, acknowledged_invite}
use Rattle.sip_served.specs.Arrival.{arrival_of, by_case, bye_taken, case_inside, case_of, case_outside, is_merged, named_invite, noted, prack_case, request_held}
use Rattle.sip_served.specs.Cancel.{by_cancelled, cancelled_request, is_unanswered_invite}
use Rattle.sip_served.specs.Happenings.{accepts, answer_confirms, answer_opens, is_of_name, success_confirms}
use Rattle.sip_held_dialogs.specs.Dialogs.{confirmed, confirms, dialog_at, dialog_changed, early_ended, ended_at, is_early_of, is_dialog_id, takes, visited, happenings_by_request, Dialogs}
use Rattle.sip_held_dialogs.specs.Requests.{dialog_id_of, is_bye, is_cancel, has_to_tag, is_prack, is_unknown_option, dialog_id_of_tags}
use Rattle.sip_held_dialogs.specs.Sent.{name_of_dialog, responses_out}
use Rattle.sip_served.specs.Respond.{answer_to, by_refusal, by_request, confirms_dialog, makes_or_confirms_dialog, made_dialog, makes_dialog, refusal_for, rejects, respond_taken}
use Rattle.sip_served.specs.State.{State, ServedTaken, has_id}
use Rattle.sip_served.specs.Step.{arrival_taken, kind_taken}
use Rattle.sip_held_dialogs.proofs.Entries.{same_key}
use Rattle.sip_held_dialogs.proofs.Heard.{AreApart, Leads, Lives, Moves, in_one, leads_as, leads_changed, leads_filtered, leads_removed, leads_same, leads_then, moves_led, moves_made, name_laws, none_came, none_either, quiet, tag_kept}
use Rattle.sip_held_dialogs.proofs.Lives.{cases_fit}

-- ---- a request that comes up, and an ACK

-- a request in a dialog is noted in that dialog
abbrev noted_life : Message → DialogId → Lives
noted_life request name other held =
    cond (has_to_tag request) (in_one name (happenings_by_request request) other held) []

-- whether a request of this case is noted in its dialog
abbrev notes : ArrivalCase → Bool
notes Merged = false
notes BadExtension = false
notes NoDialog = false
notes OutOfOrder = false
notes (Acknowledges invite rseq) = true
notes AcknowledgesNothing = true
notes ForUser = true

abbrev case_life : ArrivalCase → Message → DialogId → Lives
case_life case request name other held = cond (notes case) (noted_life request name other held) []

noted_leads : (state : State) (name : DialogId) (request : Message) → AreApart state.dialogs
    → Leads (noted_life request name) state.dialogs (noted state name request).dialogs
noted_leads state name request apart =
    elim (has_to_tag request) as (λ b.
    Leads (λ other held. cond b (in_one name (happenings_by_request request) other held) [])
    state.dialogs
    (if b
    then record state { dialogs = dialog_changed name (visited request) state.dialogs }
    else state).dialogs) [
      | true ↦ leads_changed name (visited request) (happenings_by_request request)
          (λ held. (refl, refl, ((cases_fit held).happenings_by_request request, refl)))
          state.dialogs apart
      | false ↦ leads_same state.dialogs apart
    ]

bye_leads : (b : Bool) (state : State) (name : DialogId) (outs : List CallOut)
    → AreApart state.dialogs
    → Leads quiet state.dialogs ((cond {A = ServedTaken} b
    (record state { dialogs = (ended_at name state.dialogs).0 }, outs) (state, [])).0).dialogs
bye_leads true state name outs apart = leads_removed name state.dialogs apart
bye_leads false state name outs apart = leads_same state.dialogs apart

case_leads : (case : ArrivalCase) (state : State) (call_id : List ℕ) (name : DialogId)
    (arrival : Arrival)
    → AreApart state.dialogs → Leads (case_life case arrival.request name) state.dialogs
    ((by_case case state call_id name arrival).0).dialogs
case_leads Merged state call_id name arrival apart = leads_same state.dialogs apart
case_leads BadExtension state call_id name arrival apart = leads_same state.dialogs apart
case_leads NoDialog state call_id name arrival apart = leads_same state.dialogs apart
case_leads OutOfOrder state call_id name arrival apart = leads_same state.dialogs apart
case_leads (Acknowledges invite rseq) state call_id name arrival apart =
    noted_leads state name arrival.request apart
case_leads AcknowledgesNothing state call_id name arrival apart =
    noted_leads state name arrival.request apart
case_leads ForUser state call_id name arrival apart =
    let before = noted state name arrival.request in
    let held = (request_held before call_id name arrival).0 in
    leads_then (noted_life arrival.request name) state.dialogs before.dialogs
    ((bye_taken arrival.request name held).0).dialogs
    (noted_leads state name arrival.request apart)
    (λ later. bye_leads (has_to_tag arrival.request && is_bye arrival.request) held name
    (ended_at name held.dialogs).1 later)

cancel_leads : (state : State) (call_id : List ℕ) (arrival : Arrival) (now : ℕ)
    (o : Option HeldRequest)
    → AreApart state.dialogs
    → Leads quiet state.dialogs ((by_cancelled state call_id arrival now o).0).dialogs
cancel_leads state call_id arrival now None apart = leads_same state.dialogs apart
cancel_leads state call_id arrival now (Some held) apart =
    by_bool (is_unanswered_invite held)
    (λ e. rw e (leads_filtered (λ dialog. not (is_early_of held.id dialog)) state.dialogs apart))
    (λ e. rw e (leads_same state.dialogs apart))

-- ---- which requests are accepted

module _ (requests : List HeldRequest) (request : Message) (held : HeldDialog)
    (life : List Happening) where
  abbrev noted_if : ArrivalCase → List Happening
  noted_if case = cond (notes case) life []

  by_invite : (rseq : ℕ) (o : Option Id)
      → noted_if (option_map_or (λ id. Acknowledges id rseq) o AcknowledgesNothing) ≡ life
  by_invite rseq None = refl
  by_invite rseq (Some invite) = refl

  by_rack : (name : DialogId) (o : Option RAck)
      → noted_if (prack_case requests name held.created_by o) ≡ life
  by_rack name None = refl
  by_rack name (Some rack) = by_invite rack.rseq (named_invite requests name held.created_by rack)

  by_number : (name : DialogId) (in_order prack : Bool)
      → noted_if (if not in_order then OutOfOrder
      else (if prack then prack_case requests name held.created_by request.rack else ForUser))
      ≡ cond in_order life []
  by_number name true true = by_rack name request.rack
  by_number name true false = refl
  by_number name false prack = refl

  by_options : (name : DialogId) (unknown : Bool) (o : Option HeldDialog) → o ≡ Some held
      → noted_if (if unknown then BadExtension else case_inside requests name request o)
      ≡ cond (not unknown && takes held request.cseq.number) life []
  by_options name true o is = refl
  by_options name false o is =
      ap (λ found. noted_if (case_inside requests name request found)) is
      ∙ by_number name (takes held request.cseq.number) (is_prack request)

module _ (requests : List HeldRequest) (dialogs : Dialogs) (request : Message) (tag : List ℕ)
    (other : DialogId) (held : HeldDialog) (at : dialog_at other dialogs ≡ Some held) where
  -- the name, by whether the request has a To tag
  abbrev name_by : Bool → DialogId
  name_by outside =
      dialog_id_of_tags (if outside then tag else tag_of request.to) (tag_of request.from)

  abbrev case_by : Bool → Bool → ArrivalCase
  case_by outside unknown =
      if not (not outside) && list_any (is_merged request) requests then Merged
      else (if unknown then BadExtension
      else (if not outside
      then case_inside requests (name_by outside) request (dialog_at (name_by outside) dialogs)
      else case_outside request))

  by_name : (unknown named : Bool) → is_dialog_id (name_by false) other ≡ named
      → cond (notes (case_by false unknown)) (cond named (happenings_by_request request held) []) []
      ≡ (if named && true && not unknown && takes held request.cseq.number
      then happenings_by_request request held else [])
  by_name unknown true is =
      by_options requests request held (happenings_by_request request held) (name_by false) unknown
      (dialog_at (name_by false) dialogs)
      (sym (same_key name_laws (name_by false) other dialogs is) ∙ at)
  by_name unknown false is = none_either (notes (case_by false unknown))

  by_outside : (outside unknown : Bool)
      → cond (notes (case_by outside unknown))
      (cond (not outside) (in_one (name_by outside) (happenings_by_request request) other held) [])
      []
      ≡ (if (not outside && is_dialog_id (name_by false) other) && true && not unknown
      && takes held request.cseq.number then happenings_by_request request held else [])
  by_outside true unknown = none_either (notes (case_by true unknown))
  by_outside false unknown =
      by_name unknown (is_dialog_id (name_by false) other) refl

  case_accepts : is_cancel request ≡ false
      → case_life (case_of requests dialogs (dialog_id_of request tag) request) request
      (dialog_id_of request tag) other held ≡ accepts request other held
  case_accepts none =
      by_outside (length (tag_of request.to) == 0) (list_any is_unknown_option request.require)
      ∙ ap (λ b. if is_of_name request other && not b
      && not (list_any is_unknown_option request.require)
      && takes held request.cseq.number then happenings_by_request request held else []) (sym none)

cancel_accepts : (request : Message) (other : DialogId) (held : HeldDialog)
    → is_cancel request ≡ true → [] ≡ accepts request other held
cancel_accepts request other held cancel =
    by_name (is_of_name request other)
    ∙ ap (λ b. if is_of_name request other && not b
    && not (list_any is_unknown_option request.require)
    && takes held request.cseq.number then happenings_by_request request held else []) (sym cancel)
  where
    by_name : (named : Bool) → [] ≡ (if named && false
        && not (list_any is_unknown_option request.require)
        && takes held request.cseq.number then happenings_by_request request held else [])
    by_name true = refl
    by_name false = refl

arrival_leads : (state : State) (call_id : List ℕ) (arrival : Arrival) (now : ℕ)
    → AreApart state.dialogs
    → Leads (accepts arrival.request) state.dialogs
    ((arrival_taken state call_id arrival now).0).dialogs
arrival_leads state call_id arrival now apart =
    let name = dialog_id_of arrival.request arrival.tag in
    let case = case_of state.requests state.dialogs name arrival.request in
    by_bool (is_cancel arrival.request)
    (λ e. rw e (leads_as quiet (accepts arrival.request) state.dialogs
    ((by_cancelled state call_id arrival now
    (cancelled_request arrival.key state.requests)).0).dialogs
    (λ other held at. cancel_accepts arrival.request other held e)
    (cancel_leads state call_id arrival now
    (cancelled_request arrival.key state.requests) apart)))
    (λ e. rw e (leads_as (case_life case arrival.request name) (accepts arrival.request)
    state.dialogs ((by_case case state call_id name arrival).0).dialogs
    (λ other held at. case_accepts state.requests state.dialogs arrival.request arrival.tag other
    held at e)
    (case_leads case state call_id name arrival apart)))

pub request_leads : (state : State) (tag : List ℕ) (up : Up) (request : Message) (reply_to : Addr)
    (now : ℕ) → AreApart state.dialogs
    → Leads (accepts request) state.dialogs
    ((kind_taken state tag up (Request request reply_to) now).0).dialogs
request_leads state tag up request reply_to now apart =
    arrival_leads state up.call_id (arrival_of up request reply_to tag) now apart

pub ack_leads : (state : State) (call_id : List ℕ) (ack : Message) → AreApart state.dialogs
    → Leads quiet state.dialogs ((ack_taken state call_id ack).0).dialogs
ack_leads state call_id ack apart = by_invite (acknowledged_invite ack state.requests)
  where
    by_invite : (o : Option Id) → Leads quiet state.dialogs
        ((ack_noted state call_id ack o).0).dialogs
    by_invite None = leads_same state.dialogs apart
    by_invite (Some invite) = leads_same state.dialogs apart

-- ---- an answer of the user

both_not : (b : Bool) → not (not b) ≡ true → b ≡ true
both_not true e = refl
both_not false e = absurd cc

-- the dialog that it makes has the name of its tags
made_name : (request : HeldRequest) (status : ℕ) → makes_dialog request status ≡ true
    → is_dialog_id (dialog_id_of request.request request.tag)
    (name_of_dialog (opened (ByRequest request.request request.tag status))) ≡ true
made_name request status makes =
    let message = request.request in
    let tags = name_of_dialog (opened (ByRequest message request.tag status)) in
    let outside = both_not (length (tag_of message.to) == 0)
    (second_so (makes_or_confirms_dialog request status) (not (has_to_tag message))
    (first_so (makes_or_confirms_dialog request status && not (has_to_tag message))
    (is_none request.dialog)
    makes)) in
    let same : dialog_id_of message request.tag ≡ tags =
    λ i. dialog_id_of_tags (if outside i then request.tag else tag_of message.to)
    (sym (tag_kept (tag_of message.from)) i) in
    ap (λ name. is_dialog_id name tags) same ∙ name_laws.refl tags

one_or_none : {X : Type 0} (b : Bool) (xs : List X)
    → cond b xs [] ≡ (if b && true then xs ++ [] else [])
one_or_none true xs = sym (append-nil xs)
one_or_none false xs = refl

neither : {X : Type 0} (b : Bool) (xs : List X) → [] ≡ (if b && false then xs else [])
neither true xs = refl
neither false xs = refl

module _ (event : Id) (request : HeldRequest) (r : Answer) (response : Message)
    (dialogs : Dialogs) (apart : AreApart dialogs) where
  abbrev name : DialogId
  name = dialog_id_of request.request request.tag

  abbrev start : Opening
  start = ByRequest request.request request.tag r.status

  abbrev confirmed_by : Bool → List CallOut → Lives
  confirmed_by success outs other held =
      if is_dialog_id name other && success
      then flat_map (λ response. confirms response held)
      (responses_out (out.Command request.id (order.Answer request.key response) ∷ outs)) else []

  abbrev Given : Bool → Dialogs × List CallOut → Type 0
  Given success done = Moves (Some event) (Some start) none_came (confirmed_by success done.1)
      (λ other. []) dialogs done.0

  dialogs_move : (fresh success rejected : Bool) → makes_dialog request r.status ≡ fresh
      → Given success (cond {A = Dialogs × List CallOut} fresh
      (insert_entry is_dialog_id dialogs name (made_dialog event request r.status), [])
      (cond success (dialog_changed name (confirmed response) dialogs, [])
      (cond rejected (early_ended request.id dialogs) (dialogs, []))))
  dialogs_move true success rejected makes =
      moves_made event (confirmed_by success []) name (made_dialog event request r.status) start
      (made_name request r.status makes)
      (λ other held apart. ap (λ b. if b && success then confirms response held ++ [] else [])
      apart)
      refl refl refl dialogs apart
  dialogs_move false true rejected makes =
      let after = dialog_changed name (confirmed response) dialogs in
      moves_led (Some event) (Some start) (λ other. []) (confirmed_by true []) dialogs after
      (leads_as (in_one name (confirms response)) (confirmed_by true []) dialogs after
      (λ other held at. one_or_none (is_dialog_id name other) (confirms response held))
      (leads_changed name (confirmed response) (confirms response)
      (λ held. (refl, refl, ((cases_fit held).confirms response, refl))) dialogs apart))
  dialogs_move false false true makes =
      let ended = early_ended request.id dialogs in
      moves_led (Some event) (Some start) (λ other. []) (confirmed_by false ended.1) dialogs ended.0
      (leads_as quiet (confirmed_by false ended.1) dialogs ended.0
      (λ other held at. neither (is_dialog_id name other) _)
      (leads_filtered (λ dialog. not (is_early_of request.id dialog)) dialogs apart))
  dialogs_move false false false makes =
      moves_led (Some event) (Some start) (λ other. []) (confirmed_by false []) dialogs dialogs
      (leads_as quiet (confirmed_by false []) dialogs dialogs
      (λ other held at. neither (is_dialog_id name other) _) (leads_same dialogs apart))

module _ (event : Id) (state : State) (r : Answer) (now : ℕ) (apart : AreApart state.dialogs) where
  abbrev Answered : Option HeldRequest → ServedTaken → Type 0
  Answered o taken = Moves (Some event)
      (option_map (λ request. ByRequest request.request request.tag r.status) o) none_came
      (λ name held. option_map_or (λ request. success_confirms request r.status
      (responses_out taken.1) name held) o [])
      (λ other. []) state.dialogs (taken.0).dialogs

  by_reason : (request : HeldRequest) (o : Option Refusal)
      → Answered (Some request) (by_refusal state event r now request o)
  by_reason request (Some refusal) =
      let start = ByRequest request.request request.tag r.status in
      let life : Lives = λ name held. success_confirms request r.status [] name held in
      moves_led (Some event) (Some start) (λ other. []) life state.dialogs state.dialogs
      (leads_as quiet life state.dialogs state.dialogs
      (λ name held at. sym (none_either (is_dialog_id (dialog_id_of request.request request.tag)
      name
      && confirms_dialog request r.status)))
      (leads_same state.dialogs apart))
  by_reason request None =
      dialogs_move event request r (answer_to state.local request r) state.dialogs apart
      (makes_dialog request r.status) (confirms_dialog request r.status) (rejects request r.status)
      refl

  by_held : (o : Option HeldRequest) → Answered o (by_request state event r now o)
  by_held None = moves_led (Some event) None (λ other. []) quiet state.dialogs state.dialogs
      (leads_same state.dialogs apart)
  by_held (Some request) = by_reason request (refusal_for state.dialogs r request)

  pub respond_moves : Moves (Some event) (answer_opens state r) none_came
      (answer_confirms state r (respond_taken state event r now).1) (λ other. []) state.dialogs
      ((respond_taken state event r now).0).dialogs
  respond_moves = by_held (find (has_id r.id) state.requests)
