-- Each request of the peer that comes up is told to the user, or gets its final response.
use Rattle.std.proofs.Common.{◌≡◌, ◌⊎◌, inl, inr, ℕ, Bool, true, false, not, ◌&&◌, ◌||◌, cond, List, [], ◌∷◌, ◌++◌, map, refl, sym, ap, subst, ◌∙◌}
use Rattle.std.specs.Prelude.{Option, None, Some, codes, filter, find, is_none, reverse, if◌then◌else◌}
use Rattle.std.specs.List.{list_any}
use Rattle.std.specs.Map.{values_of}
use Rattle.std.specs.Option.{option_map_or}
use Rattle.std.proofs.lemmas.Bool.{false≢true, or_parts}
use Rattle.std.proofs.lemmas.List.Folds.{list_any-append}
use Rattle.sip_message.specs.declared.addr.Addr.{Addr}
use Rattle.sip_message.specs.declared.id.Id.{Id}
use Rattle.sip_message.specs.declared.message.Message.{Message}
use Rattle.sip_message.specs.declared.rack.RAck.{RAck}
use Rattle.sip_message.specs.declared.start_line.StartLine.TheVariants.{Response}
use Rattle.sip_transactions.specs.declared.input.Command.TheVariants.{Answer}
use Rattle.sip_transactions.specs.declared.output.Up.{Up as AnUp}
use Rattle.sip_transactions.specs.declared.output.UpKind.{UpKind}
use Rattle.sip_transactions.specs.declared.output.UpKind.TheVariants as kind
use Rattle.sip_user.specs.declared.item.CallOut.{CallOut}
use Rattle.sip_user.specs.declared.item.CallOut.TheVariants.{Command}
use Rattle.sip_user.specs.declared.item.Item.TheVariants.{Up}
use Rattle.sip_held_dialogs.specs.declared.held_dialog.DialogId.{DialogId}
use Rattle.sip_held_dialogs.specs.declared.held_dialog.HeldDialog.{HeldDialog}
use Rattle.sip_held_dialogs.specs.Dialogs.{Dialogs, dialog_at, dialog_changed, early_ended, ended_at, ended_notice, is_early_of}
use Rattle.sip_held_dialogs.specs.Ids.{is_id}
use Rattle.sip_held_dialogs.specs.Requests.{dialog_id_of, has_to_tag, is_bye, is_cancel, is_invite, is_prack, is_unknown_option, local_tag_of}
use Rattle.sip_held_dialogs.proofs.Heard.{id_laws}
use Rattle.sip_served.specs.declared.arrival.Arrival.{Arrival}
use Rattle.sip_served.specs.declared.held_request.HeldRequest.{HeldRequest}
use Rattle.sip_served.specs.Rules.Arrivals.{after_request, cancel_for, is_above, is_merged, is_named_by, is_same_branch, no_such_call, prack_for, prack_received, request_for_user, request_in_dialog, request_received}
use Rattle.sip_served.specs.State.{State, ServedTaken, has_id}
use Rattle.sip_calls.specs.declared.call.Call.{Call}
use Rattle.sip_calls.specs.declared.calls.Calls.{Calls}
use Rattle.sip_calls.specs.Call.{Taken, call_step, event_of, kept as kept_of, made_tag, new_call, received}
use Rattle.sip_calls.specs.Sides.{by_server}
use Rattle.sip_calls.proofs.HeldRequests.{kept_requests}
use Rattle.sip_agent_laws.specs.Calls.Arrived.{IsAnswered, IsTold, OwnAnswered, ToldOrAnswered, is_own_status, tells_request}
use Rattle.sip_agent_laws.specs.Calls.Commanded.{goes_out}
use Rattle.sip_agent_laws.specs.Calls.Waiting.{lacks_final}
use Rattle.sip_agent_laws.proofs.calls.Commanded.{end_stays as stays}

-- ---- the ends of dialogs

module _ (test : CallOut → Bool) (none : (held : HeldDialog) → test (ended_notice held) ≡ false)
  where
    ends_pass_none : (dialogs : List HeldDialog) → list_any test (map ended_notice dialogs) ≡ false
    ends_pass_none [] = refl
    ends_pass_none (held ∷ dialogs) = λ i. none held i || ends_pass_none dialogs i

    early_none : (invite : Id) (dialogs : Dialogs)
        → list_any test (early_ended invite dialogs).1 ≡ false
    early_none invite dialogs = ends_pass_none (filter (is_early_of invite) (values_of dialogs))

    end_none : (name : DialogId) (dialogs : Dialogs)
        → list_any test (ended_at name dialogs).1 ≡ false
    end_none name dialogs = by_dialog (dialog_at name dialogs)
      where
        by_dialog : (o : Option HeldDialog)
            → list_any test (option_map_or (λ held. ended_notice held ∷ []) o []) ≡ false
        by_dialog None = refl
        by_dialog (Some held) = λ i. none held i || false

-- ---- one arrival

-- the call after what comes up for the server side
abbrev served_call : Call → ServedTaken → Taken
served_call call taken = kept_of (by_server call taken)

module _ (call : Call) (up : AnUp) (request : Message) (reply_to : Addr) (tag : List ℕ) where
  abbrev arrival : Arrival
  arrival = record {
    id = up.id;
    key = up.key;
    request = request;
    reply_to = reply_to;
    tag = tag;
  }

  abbrev Told : ServedTaken → Type 0
  Told taken = IsTold up request (served_call call taken)

  abbrev Answered : ServedTaken → Type 0
  Answered taken = IsAnswered up request (served_call call taken)

  -- told or answered; a CANCEL and a PRACK are answered
  record IsFine (taken : ServedTaken) : Type 0 where
    pub either : Told taken ⊎ Answered taken
    pub own : (is_cancel request || is_prack request) ≡ true → Answered taken

  if_fine : (b : Bool) (x y : ServedTaken) → (b ≡ true → IsFine x) → (b ≡ false → IsFine y)
      → IsFine (if b then x else y)
  if_fine true x y first second = first refl
  if_fine false x y first second = second refl

  or_fine : {X : Type 0} (f : X → ServedTaken) (otherwise : ServedTaken)
      → ((x : X) → IsFine (f x)) → IsFine otherwise → (o : Option X)
      → IsFine (option_map_or f o otherwise)
  or_fine f otherwise each none None = none
  or_fine f otherwise each none (Some x) = each x

  answered : {taken : ServedTaken} → Answered taken → IsFine taken
  answered it = record { either = inr it; own = λ own. it }

  -- a response of the agent's own goes out first
  answers : (after : State) (status : ℕ) (reason : List ℕ) (response : Message)
      (others : List CallOut) → response.start ≡ Response status reason
      → is_own_status request status ≡ true → list_any tells_request others ≡ false
      → (is_cancel request ≡ false → goes_out others ≡ [])
      → IsFine (after, Command up.id (Answer up.key response) ∷ others)
  answers after status reason response others starts own untold alone = answered (record {
    status = status;
    reason = reason;
    response = response;
    others = others;
    sent = refl;
    starts = starts;
    own = own;
    untold = untold;
    alone = alone;
  })

  -- ---- a CANCEL, a PRACK

  cancel_fine : (state : State) (call_id : List ℕ) (now : ℕ) → is_cancel request ≡ true
      → (held : HeldRequest) → IsFine (cancel_for state call_id arrival now held)
  cancel_fine state call_id now cancel held =
      let own : (is_cancel request || is_prack request) ≡ true =
      ap (λ b. b || is_prack request) cancel in
      if_fine (not (is_invite held.request && is_none held.removal)) _ _
      (λ e. answers state 200 (codes "OK") _ [] refl own refl (λ other. refl))
      (λ e. answers _ 200 (codes "OK") _ _ refl own
      (early_none tells_request (λ held. refl) held.id state.dialogs)
      (λ other. absurd (false≢true (sym other ∙ cancel))))

  or_right : (b : Bool) → (b || true) ≡ true
  or_right true = refl
  or_right false = refl

  prack_fine : (state : State) (call_id : List ℕ) → is_prack request ≡ true → (rack : RAck)
      (invite : HeldRequest) → IsFine (prack_for state call_id arrival rack invite)
  prack_fine state call_id prack rack invite =
      answers _ 200 (codes "OK") _ _ refl
      (ap (λ b. is_cancel request || b) prack ∙ or_right (is_cancel request)) refl (λ other. refl)

  none_fine : (state : State) → IsFine (no_such_call state arrival)
  none_fine state = answers state 481 (codes "Call/Transaction Does Not Exist") _ [] refl refl refl
      (λ other. refl)

  rack_fine : (state : State) (call_id : List ℕ) (name : DialogId) (created_by : Id)
      → is_prack request ≡ true → (o : Option RAck)
      → IsFine (prack_received state call_id name created_by arrival o)
  rack_fine state call_id name created_by prack None = none_fine state
  rack_fine state call_id name created_by prack (Some rack) =
      or_fine (prack_for state call_id arrival rack) (no_such_call state arrival)
      (prack_fine state call_id prack rack) (none_fine state)
      (find (is_named_by rack name created_by) state.requests)

  -- ---- for the user

  -- it is held, with no final response
  last_held : (requests : List HeldRequest) (new : HeldRequest) → new.id ≡ up.id
      → lacks_final new ≡ true
      → list_any (λ held. has_id up.id held && lacks_final held) (requests ++ new ∷ []) ≡ true
  last_held requests new same lacks =
      list_any-append (λ held. has_id up.id held && lacks_final held) requests (new ∷ [])
      ∙ ap (λ b. list_any (λ held. has_id up.id held && lacks_final held) requests || (b || false))
      ((λ i. is_id (same i) up.id && lacks i) ∙ ap (λ b. b && true) (id_laws.refl up.id))
      ∙ or_right (list_any (λ held. has_id up.id held && lacks_final held) requests)

  end_stays : (b : Bool) (name : DialogId) (dialogs : Dialogs)
      → goes_out (cond {A = Dialogs × List CallOut} b (ended_at name dialogs) (dialogs, [])).1
      ≡ []
  end_stays true name dialogs = stays name dialogs
  end_stays false name dialogs = refl

  end_if : (test : CallOut → Bool) → ((held : HeldDialog) → test (ended_notice held) ≡ false)
      → (b : Bool) (name : DialogId) (dialogs : Dialogs)
      → list_any test (cond {A = Dialogs × List CallOut} b (ended_at name dialogs)
      (dialogs, [])).1 ≡ false
  end_if test none true name dialogs = end_none test none name dialogs
  end_if test none false name dialogs = refl

  user_fine : (state : State) (name : DialogId) → is_cancel request ≡ false
      → is_prack request ≡ false → IsFine (request_for_user state up.call_id name arrival)
  user_fine state name no_cancel no_prack =
      let ends = has_to_tag request && is_bye request in
      let taken = request_for_user state up.call_id name arrival in
      record {
        either = inl (record {
          local_tag = tag;
          others = _;
          told = refl;
          once = end_if tells_request (λ held. refl) ends name state.dialogs;
          silent = end_stays ends name state.dialogs;
          held = ap (list_any (λ held. has_id up.id held && lacks_final held))
              (kept_requests (by_server call taken).0)
              ∙ last_held state.requests _ refl refl;
        });
        own = λ own. absurd (false≢true (sym (λ i. no_cancel i || no_prack i) ∙ own));
      }

  -- ---- all of it

  inside_fine : (state : State) (name : DialogId) → is_cancel request ≡ false
      → (held : HeldDialog) → IsFine (request_in_dialog state up.call_id name arrival held)
  inside_fine state name no_cancel held =
      let dialogs = dialog_changed name (after_request request) state.dialogs in
      let noted : State = record state { dialogs = dialogs } in
      if_fine (not (is_above held request.cseq.number)) _ _
      (λ e. answers state 500 (codes "Server Internal Error") _ [] refl refl refl (λ other. refl))
      (λ e. if_fine (is_prack request) _ _
      (λ prack. rack_fine noted up.call_id name held.created_by prack request.rack)
      (λ no_prack. user_fine noted name no_cancel no_prack))

  fine : (state : State) (now : ℕ) → IsFine (request_received state up.call_id arrival now)
  unfolding request_received
  fine state now =
      let name = dialog_id_of request tag in
      if_fine (is_cancel request) _ _
      (λ cancel. or_fine (cancel_for state up.call_id arrival now) (no_such_call state arrival)
      (cancel_fine state up.call_id now cancel) (none_fine state)
      (find (λ held. is_same_branch up.key held.key) (reverse state.requests)))
      (λ no_cancel. if_fine (not (has_to_tag request)
      && list_any (is_merged request) state.requests) _ _
      (λ e. answers state 482 (codes "Loop Detected") _ [] refl refl refl (λ other. refl))
      (λ e. if_fine (list_any is_unknown_option request.require) _ _
      (λ f. answers state 420 (codes "Bad Extension") _ [] refl refl refl (λ other. refl))
      (λ f. if_fine (has_to_tag request) _ _
      (λ g. or_fine (request_in_dialog state up.call_id name arrival) (no_such_call state arrival)
      (inside_fine state name no_cancel) (none_fine state) (dialog_at name state.dialogs))
      (λ g. if_fine (is_bye request || is_prack request) _ _ (λ h. none_fine state)
      (λ h. user_fine state name no_cancel (or_parts (is_bye request) (is_prack request) h).1)))))

-- ---- a whole call

abbrev pub of_state : Calls → Option Call → Call
of_state calls None = new_call calls.local
of_state calls (Some call) = call

pub as_received : (calls : Calls) (state : Option Call) (event : Id) (up : AnUp) (now : ℕ)
    → call_step calls state (Some (event, Up up)) now
    ≡ kept_of (received (of_state calls state) (event_of calls event now) up up.kind)
as_received calls None event up now = refl
as_received calls (Some call) event up now = refl

module _ (calls : Calls) (state : Option Call) (event : Id) (up : AnUp) (request : Message)
    (reply_to : Addr) (now : ℕ) (is : up.kind ≡ kind.Request request reply_to) where
  abbrev own_tag : List ℕ
  own_tag = local_tag_of request (made_tag (event_of calls event now))

  abbrev call : Call
  call = of_state calls state

  as_served : call_step calls state (Some (event, Up up)) now
      ≡ served_call call (request_received call.served up.call_id
      (arrival call up request reply_to own_tag) now)
  as_served =
      as_received calls state event up now
      ∙ ap (λ (k : UpKind). kept_of (received call (event_of calls event now) up k)) is

  told_at : IsTold up request (call_step calls state (Some (event, Up up)) now)
      ⊎ IsAnswered up request (call_step calls state (Some (event, Up up)) now)
  told_at =
      subst (λ taken. IsTold up request taken ⊎ IsAnswered up request taken) (sym as_served)
      (fine call up request reply_to own_tag call.served now).either

  answered_at : (is_cancel request || is_prack request) ≡ true
      → IsAnswered up request (call_step calls state (Some (event, Up up)) now)
  answered_at own =
      subst (IsAnswered up request) (sym as_served)
      ((fine call up request reply_to own_tag call.served now).own own)

pub told_or_answered : ToldOrAnswered
told_or_answered calls state event up request reply_to now is =
    told_at calls state event up request reply_to now is

pub own_answered : OwnAnswered
own_answered calls state event up request reply_to now is own =
    answered_at calls state event up request reply_to now is own
