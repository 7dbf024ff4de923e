-- What the user ends waits no longer, and commands that end all that waits leave nothing.
use Rattle.std.proofs.Common.{◌≡◌, inl, inr, ℕ, Bool, true, false, not, ◌&&◌, ◌||◌, cond, List, [], ◌∷◌, ◌++◌, refl, sym, ap, subst, ◌∙◌, append-nil, append_assoc}
use Rattle.std.specs.Prelude.{Option, None, Some, filter_map, find, is_none, is_some}
use Rattle.std.specs.List.{AllByRecursion, IsDistinct, cons_option, list_any}
use Rattle.std.specs.Option.{option_map, option_map_or}
use Rattle.std.proofs.lemmas.Bool.{false≢true, true≢false}
use Rattle.std.proofs.lemmas.Map.{lookup-remove_entry}
use Rattle.std.proofs.lemmas.Map.Keys.{IsDistinct-head, IsDistinct-tail}
use Rattle.keyed_machine.specs.Machine.{Timed}
use Rattle.keyed_machine.proofs.Ordered.{by_bool}
use Rattle.sip_message.specs.declared.id.Id.{Id}
use Rattle.sip_user.specs.declared.command.AbandonDialog.{AbandonDialog as Dialog}
use Rattle.sip_user.specs.declared.command.AbandonRequest.{AbandonRequest as Request}
use Rattle.sip_user.specs.declared.command.Respond.{Respond as Answer}
use Rattle.sip_user.specs.declared.command.UserCommand.{UserCommand}
use Rattle.sip_user.specs.declared.command.UserCommand.TheVariants.{AbandonDialog, AbandonRequest, Respond}
use Rattle.sip_user.specs.declared.item.CallOut.{CallOut}
use Rattle.sip_user.specs.declared.item.Item.TheVariants.{User}
use Rattle.sip_user.specs.declared.refusal.Refusal.{Refusal}
use Rattle.sip_held_dialogs.specs.declared.held_dialog.DialogId.{DialogId}
use Rattle.sip_held_dialogs.specs.declared.held_dialog.HeldDialog.{HeldDialog}
use Rattle.sip_held_dialogs.specs.Dialogs.{Dialogs, dialog_at, early_ended, ended_notice, is_early_of}
use Rattle.sip_held_dialogs.specs.Ids.{is_id}
use Rattle.sip_held_dialogs.proofs.Heard.{id_laws, name_laws}
use Rattle.sip_served.specs.declared.held_request.HeldRequest.{HeldRequest}
use Rattle.sip_served.specs.Respond.{answer_given, answer_to, by_refusal, by_request, refusal_for, respond_taken}
use Rattle.sip_served.specs.State.{State, has_id}
use Rattle.sip_served.proofs.Found.{change, found_changed, keeps}
use Rattle.sip_served.proofs.RequestIds.{ids_of, respond_ids}
use Rattle.sip_clients.specs.declared.client.Client.{Client}
use Rattle.sip_clients.specs.declared.client.RequestKind.{RequestKind}
use Rattle.sip_clients.specs.declared.client.RequestKind.TheVariants.{InitialInvite}
use Rattle.sip_clients.specs.declared.event.Event.{Event}
use Rattle.sip_clients.specs.Abandon.{dialog_abandoned_of, end_command, request_abandoned, request_abandoned_of}
use Rattle.sip_clients.specs.Client.{Clients, ClientTaken, Side, client_at, without_client}
use Rattle.sip_clients.specs.Clients.{lost_of}
use Rattle.sip_clients.specs.Dialogs.{ended_with, own_ended}
use Rattle.sip_clients.proofs.EndedKeys.{AreSound}
use Rattle.sip_calls.specs.declared.call.Call.{Call}
use Rattle.sip_calls.specs.declared.calls.Calls.{Calls}
use Rattle.sip_calls.specs.Call.{Taken, CallItem, call_step, event_of, kept, new_call}
use Rattle.sip_calls.specs.HeldDialogs.{ended_by, ends, held_from, held_next}
use Rattle.sip_calls.specs.HeldRequests.{RequestsDiffer, request_brought, requests_held}
use Rattle.sip_calls.specs.Histories.{call_from}
use Rattle.sip_calls.specs.Provisionals.{side_held}
use Rattle.sip_calls.specs.RequestHistories.{served_state}
use Rattle.sip_calls.specs.Sides.{by_clients, side_of}
use Rattle.sip_calls.proofs.HeldDialogs.{held_until_it_ends}
use Rattle.sip_calls.proofs.KeptSides.{kept_side}
use Rattle.sip_calls.proofs.SameSteps.{same_step}
use Rattle.sip_agent_laws.specs.Calls.Ending.{DialogGivenUp, Ends, IsEndOf, IsGivenUp, RequestGivenUp, SomeEnds, dialog_named}
use Rattle.sip_agent_laws.specs.Calls.Rejections.{IsRejection}
use Rattle.sip_agent_laws.specs.Calls.Waiting.{Waiting, InDialog, NothingWaits, OfPeer, OurInvite, lacks_response, waits}
use Rattle.sip_agent_laws.proofs.calls.AtRest.{from_both}
use Rattle.sip_agent_laws.proofs.calls.Differ.{clients_sound, requests_apart}
use Rattle.sip_agent_laws.proofs.calls.Fewer.{none_keyed, none_left}
use Rattle.sip_agent_laws.proofs.calls.Rejected.{final_at, unrefused}
use Rattle.sip_agent_laws.proofs.calls.ServedSteps.{held_served, served_so}
use Rattle.sip_agent_laws.proofs.calls.Waits.{ending_adds_nothing, is_open}

or_false : (b : Bool) → (b || false) ≡ b
or_false true = refl
or_false false = refl

-- ---- a request of the peer

-- the others have other ids
others_closed : (k id : Id) (requests : List HeldRequest) → is_id k id ≡ true
    → AllByRecursion (λ other. is_id k other ≡ false) (ids_of requests)
    → list_any (is_open id) requests ≡ false
others_closed k id [] same apart = refl
others_closed k id (held ∷ requests) same apart =
    let other : is_id held.id id ≡ false =
    id_laws.symm held.id id ∙ sym (id_laws.congr k id held.id same) ∙ apart.0 in
    (λ i. (other i && is_none held.removal) || list_any (is_open id) requests)
    ∙ others_closed k id requests same apart.1

-- only the one of the id may lack its final response
one_open : (id : Id) (requests : List HeldRequest) (held : HeldRequest)
    → IsDistinct is_id (ids_of requests) → find (has_id id) requests ≡ Some held
    → list_any (is_open id) requests ≡ is_none held.removal
one_open id [] held apart found = absurd cc
one_open id (first ∷ requests) held apart found =
    by_first (is_id first.id id) refl found
    (λ later. one_open id requests held (IsDistinct-tail is_id first.id (ids_of requests) apart)
    later)
  where
    by_first : (b : Bool) → is_id first.id id ≡ b
        → cond b (Some first) (find (has_id id) requests) ≡ Some held
        → (find (has_id id) requests ≡ Some held
        → list_any (is_open id) requests ≡ is_none held.removal)
        → (is_id first.id id && is_none first.removal || list_any (is_open id) requests)
        ≡ is_none held.removal
    by_first true is found later =
        let it : first ≡ held = cc in
        (λ i. (is i && is_none (it i).removal)
        || others_closed first.id id requests is
        (IsDistinct-head is_id first.id (ids_of requests) apart) i)
        ∙ or_false (is_none held.removal)
    by_first false is found later =
        (λ i. (is i && is_none first.removal) || list_any (is_open id) requests) ∙ later found

none_open : (id : Id) (requests : List HeldRequest) → find (has_id id) requests ≡ None
    → list_any (is_open id) requests ≡ false
none_open id [] none = refl
none_open id (held ∷ requests) none =
    by_held (is_id held.id id) none (λ later. none_open id requests later)
  where
    by_held : (b : Bool) → cond b (Some held) (find (has_id id) requests) ≡ None
        → (find (has_id id) requests ≡ None → list_any (is_open id) requests ≡ false)
        → ((b && is_none held.removal) || list_any (is_open id) requests) ≡ false
    by_held true none later = absurd cc
    by_held false none later = later none

module _ (state : State) (event : Id) (r : Answer) (now : ℕ) (rejection : IsRejection r)
    (apart : IsDistinct is_id (ids_of state.requests)) where
  -- an answer that isn't refused is the final response
  answered_closed : (held : HeldRequest) → find (has_id r.id) state.requests ≡ Some held
      → respond_taken state event r now ≡ answer_given state event r now held
      → list_any (is_open r.id) ((answer_given state event r now held).0).requests ≡ false
  answered_closed held found same =
      let changed = change state event r now held in
      let after = ((answer_given state event r now held).0).requests in
      one_open r.id after (changed held)
      (subst (IsDistinct is_id) (sym (ap (λ (taken : State × List CallOut). ids_of (taken.0).requests)
      (sym same) ∙ respond_ids state event r now)) apart)
      (found_changed r.id r.id changed (keeps state event r now held) state.requests
      ∙ (λ i. cond (id_laws.refl r.id i) (option_map changed (found i)) (found i)))
      ∙ ap (λ (o : Option ℕ). is_none o)
      (final_at event r (answer_to state.local held r) now held rejection.from)

  refused_closed : (held : HeldRequest) (refusal : Refusal)
      → find (has_id r.id) state.requests ≡ Some held
      → refusal_for state.dialogs r held ≡ Some refusal
      → list_any (is_open r.id) state.requests ≡ false
  refused_closed held refusal found refused =
      one_open r.id state.requests held apart found ∙ by_removal held.removal refl
    where
      never : Some refusal ≡ None → ⊥
      never e = absurd cc

      by_removal : (o : Option ℕ) → held.removal ≡ o → is_none o ≡ false
      by_removal None lacks =
          absurd (never (sym refused ∙ unrefused state.dialogs r held rejection lacks))
      by_removal (Some end) closed = refl

  by_refused : (held : HeldRequest) (o : Option Refusal)
      → find (has_id r.id) state.requests ≡ Some held → refusal_for state.dialogs r held ≡ o
      → list_any (is_open r.id) ((by_refusal state event r now held o).0).requests ≡ false
  by_refused held (Some refusal) found is = refused_closed held refusal found is
  by_refused held None found is =
      answered_closed held found
      (ap (by_request state event r now) found ∙ ap (by_refusal state event r now held) is)

  by_found : (o : Option HeldRequest) → find (has_id r.id) state.requests ≡ o
      → list_any (is_open r.id) ((by_request state event r now o).0).requests ≡ false
  by_found None none = none_open r.id state.requests none
  by_found (Some held) found = by_refused held (refusal_for state.dialogs r held) found refl

  pub respond_closes : list_any (is_open r.id) ((respond_taken state event r now).0).requests
      ≡ false
  respond_closes = by_found (find (has_id r.id) state.requests) refl

-- ---- a client request

pub gone_at : (id : Id) (clients : Clients) → AreSound clients
    → client_at id (without_client id clients) ≡ None
gone_at id clients sound =
    lookup-remove_entry id_laws (is_id id) (λ y z e. id_laws.congr id y z e) id clients sound.0
    ∙ ap (λ b. cond b None (client_at id clients)) (id_laws.refl id)

lost_gone : (id : Id) (timed_out : Bool) (o : Option Client) (side : Side)
    → AreSound side.clients → client_at id ((lost_of id timed_out o side).0).clients ≡ None
lost_gone id timed_out None side sound = gone_at id side.clients sound
lost_gone id timed_out (Some client) side sound = gone_at id side.clients sound

abandoned_gone : (event : Event) (command : Request) (side : Side) → AreSound side.clients
    → client_at command.id ((request_abandoned event command side).0).clients ≡ None
abandoned_gone event command side sound = by_client (client_at command.id side.clients) refl
  where
    by_client : (o : Option Client) → client_at command.id side.clients ≡ o
        → client_at command.id ((request_abandoned_of o event command side).0).clients ≡ None
    by_client None none = none
    by_client (Some client) found =
        lost_gone command.id false (client_at command.id side.clients) side sound

-- what ends with the request are the early dialogs that it made
own_same : (kind : RequestKind) (dialogs : Dialogs) → own_ended kind false dialogs ≡ (dialogs, [])
own_same InitialInvite dialogs = refl
own_same _ dialogs = refl

pub ended_same : (client : Client) (dialogs : Dialogs)
    → ended_with client false dialogs ≡ early_ended client.id dialogs
ended_same client dialogs =
    let early = early_ended client.id dialogs in
    ap (λ (own : Dialogs × List CallOut). (own.0, early.1 ++ own.1))
    (own_same client.kind early.0)
    ∙ ap (λ outs. (early.0, outs)) (append-nil early.1)

none_early : (invite : Id) (dialogs : Dialogs)
    → list_any (λ entry. is_early_of invite entry.1) (early_ended invite dialogs).0 ≡ false
none_early invite dialogs = none_left (λ entry. is_early_of invite entry.1) dialogs

-- the client side after a held request was given up
abbrev AfterRequest : Side → Id → Client → ClientTaken
AfterRequest side id client =
    let early = early_ended client.id side.dialogs in (
      record { dialogs = early.0; clients = without_client id side.clients },
      end_command id client ∷ early.1,
    )

abandoned_as : (event : Event) (command : Request) (side : Side) (client : Client)
    → client_at command.id side.clients ≡ Some client
    → request_abandoned event command side ≡ AfterRequest side command.id client
abandoned_as event command side client found =
    ap (λ (o : Option Client). request_abandoned_of o event command side) found
    ∙ ap (λ (o : Option Client). let over = lost_of command.id false o side in
    (over.0, end_command command.id client ∷ over.1)) found
    ∙ ap (λ (ended : Dialogs × List CallOut). (
      record { dialogs = ended.0; clients = without_client command.id side.clients },
      end_command command.id client ∷ ended.1,
    )) (ended_same client side.dialogs)

given_up_of : (call : Call) (id : Id) (client : Client) → AreSound call.clients
    → IsGivenUp (side_of call) id client
    (kept (by_clients call (AfterRequest (side_of call) id client)))
given_up_of call id client sound =
    let after = by_clients call (AfterRequest (side_of call) id client) in
    let same = sym (kept_side after.0) in
    record {
      given = refl;
      gone = subst (λ (side : Side). client_at id side.clients ≡ None) same
          (gone_at id call.clients sound);
      early = subst (λ (side : Side).
          list_any (λ entry. is_early_of client.id entry.1) side.dialogs ≡ false) same
          (none_early client.id (side_of call).dialogs);
    }

given_up_from : (calls : Calls) (state : Option Call) (event : Id) (command : Request) (now : ℕ)
    (client : Client) → AreSound (side_held state).clients
    → client_at command.id (side_held state).clients ≡ Some client
    → IsGivenUp (side_held state) command.id client
    (call_step calls state (Some (event, User (AbandonRequest command))) now)
given_up_from calls None event command now client sound found = absurd cc
given_up_from calls (Some call) event command now client sound found =
    subst (IsGivenUp (side_of call) command.id client)
    (sym (same_step calls (Some call) (Some (event, User (AbandonRequest command))) now
    ∙ ap (λ (taken : ClientTaken). kept (by_clients call taken))
    (abandoned_as (event_of calls event now) command (side_of call) client found)))
    (given_up_of call command.id client sound)

pub request_given_up : RequestGivenUp
request_given_up calls inputs event command now client found =
    given_up_from calls (call_from calls None inputs) event command now client
    (clients_sound calls inputs) found

-- ---- a dialog

module _ (calls : Calls) (name : DialogId) where
  held_before : (inputs : List (Timed CallItem)) (last : Timed CallItem) (state : Option Call)
      (held : Bool)
      → held_from calls name state held (inputs ++ last ∷ [])
      ≡ held_next calls name (call_from calls state inputs)
      (held_from calls name state held inputs) last
  held_before [] last state held = refl
  held_before (input ∷ inputs) last state held =
      held_before inputs last (call_step calls state input.input input.moment).0
      (held_next calls name state held input)

abbrev abandon_input : Id → Dialog → ℕ → Timed CallItem
abandon_input event command now =
    record { moment = now; input = Some (event, User (AbandonDialog command)) }

dialog_over : (calls : Calls) (state : Option Call) (event : Id) (command : Dialog) (now : ℕ)
    (o : Option HeldDialog)
    → dialog_at (dialog_named command) (side_held state).dialogs ≡ o
    → held_next calls (dialog_named command) state (is_some o) (abandon_input event command now)
    ≡ false
dialog_over calls None event command now None none = refl
dialog_over calls None event command now (Some held) found = absurd cc
dialog_over calls (Some call) event command now None none = refl
dialog_over calls (Some call) event command now (Some held) found =
    let input = abandon_input event command now in
    let outs = (call_step calls (Some call) input.input now).1 in
    let name = dialog_named command in
    (λ i. not (option_map_or (ended_by (Some call) input.input now outs name) (found i) false))
    ∙ ap not (name_laws.refl name)

dialog_gone : (calls : Calls) (inputs : List (Timed CallItem)) (event : Id) (command : Dialog)
    (now : ℕ)
    → is_some (dialog_at (dialog_named command) (side_held
    (call_step calls (call_from calls None inputs)
    (Some (event, User (AbandonDialog command))) now).0).dialogs) ≡ false
dialog_gone calls inputs event command now =
    let name = dialog_named command in
    let last = abandon_input event command now in
    let state = call_from calls None inputs in
    ap (λ (after : Option Call). is_some (dialog_at name (side_held after).dialogs))
    (sym (from_both calls inputs (last ∷ []) None))
    ∙ held_until_it_ends calls (inputs ++ last ∷ []) name
    ∙ held_before calls name inputs last None false
    ∙ ap (λ held. held_next calls name state held last)
    (sym (held_until_it_ends calls inputs name))
    ∙ dialog_over calls state event command now (dialog_at name (side_held state).dialogs) refl

none_from : {X : Type 0} (o : Option X) → is_some o ≡ false → o ≡ None
none_from None e = refl
none_from (Some x) e = absurd (true≢false e)

dialog_given : (calls : Calls) (state : Option Call) (event : Id) (command : Dialog) (now : ℕ)
    (held : HeldDialog) → dialog_at (dialog_named command) (side_held state).dialogs ≡ Some held
    → (call_step calls state (Some (event, User (AbandonDialog command))) now).1
    ≡ ended_notice held ∷ []
dialog_given calls None event command now held found = absurd cc
dialog_given calls (Some call) event command now held found =
    let side = side_of call in
    let name = dialog_named command in
    ap (λ (taken : Taken). taken.1)
    (same_step calls (Some call) (Some (event, User (AbandonDialog command))) now)
    ∙ ap (λ (o : Option HeldDialog).
    (dialog_abandoned_of o (event_of calls event now) command name side).1) found
    ∙ ap (λ (o : Option HeldDialog). option_map_or (λ held. ended_notice held ∷ []) o []) found

pub dialog_given_up : DialogGivenUp
dialog_given_up calls inputs event command now held found = record {
  given = dialog_given calls (call_from calls None inputs) event command now held found;
  gone = none_from (dialog_at (dialog_named command) (side_held
      (call_step calls (call_from calls None inputs)
      (Some (event, User (AbandonDialog command))) now).0).dialogs)
      (dialog_gone calls inputs event command now);
}

-- ---- what is ended

request_closed : (calls : Calls) (state : Option Call) (event : Id) (r : Answer) (now : ℕ)
    → IsRejection r → IsDistinct is_id (ids_of (requests_held state))
    → list_any (is_open r.id)
    (requests_held (call_step calls state (Some (event, User (Respond r))) now).0) ≡ false
request_closed calls state event r now rejection apart =
    ap (list_any (is_open r.id)) (served_so calls state (Some (event, User (Respond r))) now)
    ∙ respond_closes (served_state calls state) event r now rejection
    (subst (λ requests. IsDistinct is_id (ids_of requests)) (sym (held_served calls state)) apart)

invite_gone : (calls : Calls) (state : Option Call) (event : Id) (command : Request) (now : ℕ)
    → AreSound (side_held state).clients
    → client_at command.id (side_held (call_step calls state
    (Some (event, User (AbandonRequest command))) now).0).clients ≡ None
invite_gone calls None event command now sound =
    ap (λ (side : Side). client_at command.id side.clients) (kept_side (new_call calls.local))
invite_gone calls (Some call) event command now sound =
    let taken = by_clients call
    (request_abandoned (event_of calls event now) command (side_of call)) in
    ap (λ (taken : Taken). client_at command.id (side_held taken.0).clients)
    (same_step calls (Some call) (Some (event, User (AbandonRequest command))) now)
    ∙ ap (λ (side : Side). client_at command.id side.clients) (kept_side taken.0)
    ∙ abandoned_gone (event_of calls event now) command (side_of call) sound

-- what a command ends waits no longer, if no id of a request came up twice
pub ending_ends : (calls : Calls) (inputs : List (Timed CallItem)) → RequestsDiffer inputs
    → (event : Id) (command : UserCommand) (now : ℕ) (one : Waiting) → Ends one command
    → waits one (call_step calls (call_from calls None inputs)
    (Some (event, User command)) now).0 ≡ false
ending_ends calls inputs differ event (Respond r) now (OfPeer id) ends =
    subst (λ id. waits (OfPeer id) (call_step calls (call_from calls None inputs)
    (Some (event, User (Respond r))) now).0 ≡ false) ends.0
    (request_closed calls (call_from calls None inputs) event r now ends.1
    (requests_apart calls inputs differ))
ending_ends calls inputs differ event (AbandonRequest command) now (OurInvite id) ends =
    let state = call_from calls None inputs in
    let after = (call_step calls state (Some (event, User (AbandonRequest command))) now).0 in
    subst (λ id. waits (OurInvite id) after ≡ false) ends
    (none_keyed (is_id command.id) lacks_response (side_held after).clients
    (invite_gone calls state event command now (clients_sound calls inputs)))
ending_ends calls inputs differ event (AbandonDialog command) now (InDialog name) ends =
    subst (λ name. waits (InDialog name) (call_step calls (call_from calls None inputs)
    (Some (event, User (AbandonDialog command))) now).0 ≡ false) ends
    (dialog_gone calls inputs event command now)
ending_ends calls inputs differ event _ now (OfPeer id) ends = absurd ends
ending_ends calls inputs differ event _ now (OurInvite id) ends = absurd ends
ending_ends calls inputs differ event _ now (InDialog name) ends = absurd ends

-- ---- all of it

no_request : (timed : Timed CallItem) (one : Waiting) → IsEndOf one timed
    → request_brought timed.input ≡ None
no_request timed one ends = ap request_brought ends.2

same_brought : (inputs : List (Timed CallItem)) (last : Timed CallItem)
    → request_brought last.input ≡ None
    → filter_map (λ timed. request_brought timed.input) (inputs ++ last ∷ [])
    ≡ filter_map (λ timed. request_brought timed.input) inputs
same_brought [] last none = ap (λ o. cons_option o []) none
same_brought (input ∷ inputs) last none =
    ap (cons_option (request_brought input.input)) (same_brought inputs last none)

still_differ : (inputs : List (Timed CallItem)) (last : Timed CallItem)
    → request_brought last.input ≡ None → RequestsDiffer inputs
    → RequestsDiffer (inputs ++ last ∷ [])
still_differ inputs last none differ =
    subst (IsDistinct is_id) (sym (same_brought inputs last none)) differ

module _ (calls : Calls) where
  -- what waits after a command that ends something is ended by a later one
  left_by : (inputs : List (Timed CallItem)) → RequestsDiffer inputs → (last : Timed CallItem)
      (ended : Waiting) → IsEndOf ended last → (commands : List (Timed CallItem))
      → ((one : Waiting) → waits one (call_from calls None inputs) ≡ true
      → SomeEnds one (last ∷ commands))
      → (one : Waiting)
      → waits one (call_step calls (call_from calls None inputs) last.input last.moment).0 ≡ true
      → SomeEnds one commands
  left_by inputs differ last ended ends commands all one waiting =
      by_end (all one before)
    where
      before : waits one (call_from calls None inputs) ≡ true
      before = ending_adds_nothing calls (call_from calls None inputs) ends.0 ends.1 last.moment
          ended ends.3 one
          (ap (λ input. waits one (call_step calls (call_from calls None inputs) input
          last.moment).0) (sym ends.2) ∙ waiting)

      by_end : SomeEnds one (last ∷ commands) → SomeEnds one commands
      by_end (inl its) = absurd (false≢true (sym (ap (λ input. waits one
          (call_step calls (call_from calls None inputs) input last.moment).0) its.2
          ∙ ending_ends calls inputs differ its.0 its.1 last.moment one its.3) ∙ waiting))
      by_end (inr later) = later

  ends_all : (commands inputs : List (Timed CallItem)) → RequestsDiffer inputs
      → AllByRecursion (λ timed. (one : Waiting) × IsEndOf one timed) commands
      → ((one : Waiting) → waits one (call_from calls None inputs) ≡ true
      → SomeEnds one commands)
      → NothingWaits (call_from calls None (inputs ++ commands))
  ends_all [] inputs differ each all one =
      by_bool (waits one (call_from calls None (inputs ++ [])))
      (λ waiting. absurd (all one (ap (λ inputs. waits one (call_from calls None inputs))
      (sym (append-nil inputs)) ∙ waiting)))
      (λ none. none)
  ends_all (last ∷ commands) inputs differ each all one =
      let next = inputs ++ last ∷ [] in
      let after = from_both calls inputs (last ∷ []) None in
      ap (λ inputs. waits one (call_from calls None inputs))
      (sym (append_assoc inputs (last ∷ []) commands))
      ∙ ends_all commands next
      (still_differ inputs last (no_request last each.0.0 each.0.1) differ) each.1
      (λ other waiting. left_by inputs differ last each.0.0 each.0.1 commands all other
      (ap (waits other) (sym after) ∙ waiting)) one

-- if no id of a request came up twice, such commands leave nothing that waits
pub user_ends_all : (calls : Calls) (inputs commands : List (Timed CallItem))
    → RequestsDiffer inputs
    → AllByRecursion (λ (timed : Timed CallItem). (one : Waiting) × IsEndOf one timed) commands
    → ((one : Waiting) → waits one (call_from calls None inputs) ≡ true → SomeEnds one commands)
    → NothingWaits (call_from calls None (inputs ++ commands))
user_ends_all calls inputs commands differ each all =
    ends_all calls commands inputs differ each all
