-- Only a tick tells that no ACK or no PRACK came, and only the report of a transaction that it
-- timed out or couldn't send.
use Rattle.std.proofs.Common.{◌≡◌, ℕ, Bool, true, false, ◌&&◌, ◌||◌, cond, List, [], ◌∷◌, refl, sym, subst}
use Rattle.std.proofs.lemmas.Bool.{or_parts}
use Rattle.std.specs.Prelude.{Option, None, Some, find, reverse, nat_le, not, is_none, if◌then◌else◌}
use Rattle.std.specs.List.{AllByRecursion, list_any}
use Rattle.std.specs.Option.{option_map_or}
use Rattle.sip_message.specs.declared.id.Id.{Id}
use Rattle.sip_message.specs.declared.message.Message.{Message}
use Rattle.sip_message.specs.declared.rack.RAck.{RAck}
use Rattle.sip_transactions.specs.declared.output.UpKind.{UpKind}
use Rattle.sip_transactions.specs.declared.output.UpKind.TheVariants as kind
use Rattle.sip_transactions.specs.declared.output.Up.{Up as AnUp}
use Rattle.sip_user.specs.declared.command.Respond.{Respond as RespondCommand}
use Rattle.sip_user.specs.declared.item.CallOut.{CallOut}
use Rattle.sip_user.specs.declared.item.CallOut.TheVariants as out
use Rattle.sip_user.specs.declared.notice.Notice.TheVariants as notice
use Rattle.sip_held_dialogs.specs.Ids.{is_id}
use Rattle.sip_held_dialogs.specs.declared.held_dialog.DialogId.{DialogId}
use Rattle.sip_held_dialogs.specs.declared.held_dialog.HeldDialog.{HeldDialog}
use Rattle.sip_held_dialogs.specs.Dialogs.{Dialogs, dialog_at, dialog_changed, ended_at}
use Rattle.sip_held_dialogs.specs.Requests.{dialog_id_of, has_to_tag, is_bye, is_cancel, is_invite, is_prack, is_success, is_unknown_option, local_tag_of}
use Rattle.sip_served.specs.declared.arrival.Arrival.{Arrival}
use Rattle.sip_served.specs.declared.held_request.HeldRequest.{HeldRequest}
use Rattle.sip_served.specs.Rules.Arrivals.{ack_received, after_request, awaits, is_above, is_merged, is_named_by, is_same_branch, no_such_call, prack_for, prack_received, request_for_user, request_in_dialog, request_received, ack_for, cancel_for, server_received}
use Rattle.sip_served.specs.Rules.Responses.{dialogs_after, makes_dialog, refuse, respond_command, respond_to, response_refusal, response_sent}
use Rattle.sip_served.specs.State.{State, ServedTaken, has_id}
use Rattle.sip_served.proofs.ArrivalRules.{kind_same}
use Rattle.sip_served.proofs.ResponseRules.{respond_same}
use Rattle.sip_clients.specs.declared.client.Client.{Client}
use Rattle.sip_clients.specs.Outputs.{start_command}
use Rattle.sip_clients.proofs.ClientOuts.{Allows, early, end_told}
use Rattle.sip_calls.specs.Call.{Taken, call_step}
use Rattle.sip_calls.proofs.SameSteps.{same_step}
use Rattle.sip_agent_laws.specs.Calls.InTime.{OnlyTicksTell, tells_no_ack, tells_no_prack}
use Rattle.sip_agent_laws.proofs.calls.EachItem.{Passes, PassesOthers, item_passes}

-- the user is told that the transaction of a request timed out, or couldn't send
abbrev pub tells_lost : Id → CallOut → Bool
tells_lost id (out.Notice (notice.Timeout call_id request)) = is_id id request
tells_lost id (out.Notice (notice.Failed call_id request)) = is_id id request
tells_lost id _ = false

module _ (id : Id) (lost : Bool) where
  -- an ACK or PRACK is missing, or, where that is asked for, a request was lost
  abbrev tells : CallOut → Bool
  tells out = (tells_no_ack id out || tells_no_prack id out) || (tells_lost id out && lost)

  -- it tells of neither
  abbrev pub Silent : CallOut → Type 0
  Silent out = tells out ≡ false

  abbrev AllSilent : List CallOut → Type 0
  AllSilent outs = AllByRecursion Silent outs

  started_silent : (event : Id) (client : Client) → Silent (start_command event client)
  unfolding start_command
  started_silent event client = refl

  pub allows : Allows Silent
  allows = record {
    ended = λ held. refl;
    refusal = λ call_id place why. refl;
    sent = λ ack. refl;
    started = started_silent;
  }

  -- ---- what comes up for the server side

  if_silent : (b : Bool) (x y : ServedTaken) → AllSilent x.1 → AllSilent y.1
      → AllSilent (if b then x else y).1
  if_silent true x y first second = first
  if_silent false x y first second = second

  or_silent : {X : Type 0} (f : X → ServedTaken) (otherwise : ServedTaken)
      → ((x : X) → AllSilent (f x).1) → AllSilent otherwise.1 → (o : Option X)
      → AllSilent (option_map_or f o otherwise).1
  or_silent f otherwise each none None = none
  or_silent f otherwise each none (Some x) = each x

  end_if : (b : Bool) (name : DialogId) (dialogs : Dialogs)
      → AllSilent (cond {A = Dialogs × List CallOut} b (ended_at name dialogs) (dialogs, [])).1
  end_if true name dialogs = end_told Silent allows name dialogs
  end_if false name dialogs = tt

  user_silent : (state : State) (call_id : List ℕ) (name : DialogId) (arrival : Arrival)
      → AllSilent (request_for_user state call_id name arrival).1
  user_silent state call_id name arrival =
      (refl, end_if (has_to_tag arrival.request && is_bye arrival.request) name state.dialogs)

  prack_silent : (state : State) (call_id : List ℕ) (name : DialogId) (created_by : Id)
      (arrival : Arrival) (o : Option RAck)
      → AllSilent (prack_received state call_id name created_by arrival o).1
  prack_silent state call_id name created_by arrival None = (refl, tt)
  prack_silent state call_id name created_by arrival (Some rack) =
      or_silent (prack_for state call_id arrival rack) (no_such_call state arrival)
      (λ invite. (refl, (refl, tt))) (refl, tt)
      (find (is_named_by rack name created_by) state.requests)

  inside_silent : (state : State) (call_id : List ℕ) (name : DialogId) (arrival : Arrival)
      (held : HeldDialog) → AllSilent (request_in_dialog state call_id name arrival held).1
  inside_silent state call_id name arrival held =
      let request = arrival.request in
      let noted : State = record state {
        dialogs = dialog_changed name (after_request request) state.dialogs;
      } in
      if_silent (not (is_above held request.cseq.number)) _ _ (refl, tt)
      (if_silent (is_prack request) _ _
      (prack_silent noted call_id name held.created_by arrival request.rack)
      (user_silent noted call_id name arrival))

  cancel_silent : (state : State) (call_id : List ℕ) (arrival : Arrival) (now : ℕ)
      (held : HeldRequest) → AllSilent (cancel_for state call_id arrival now held).1
  cancel_silent state call_id arrival now held =
      if_silent (not (is_invite held.request && is_none held.removal)) _ _ (refl, tt)
      (refl, (refl, (refl, early Silent allows held.id state.dialogs)))

  request_silent : (state : State) (call_id : List ℕ) (arrival : Arrival) (now : ℕ)
      → AllSilent (request_received state call_id arrival now).1
  unfolding request_received
  request_silent state call_id arrival now =
      let request = arrival.request in
      let name = dialog_id_of request arrival.tag in
      if_silent (is_cancel request) _ _
      (or_silent (cancel_for state call_id arrival now) (no_such_call state arrival)
      (cancel_silent state call_id arrival now) (refl, tt)
      (find (λ held. is_same_branch arrival.key held.key) (reverse state.requests)))
      (if_silent (not (has_to_tag request) && list_any (is_merged request) state.requests) _ _
      (refl, tt)
      (if_silent (list_any is_unknown_option request.require) _ _ (refl, tt)
      (if_silent (has_to_tag request) _ _
      (or_silent (request_in_dialog state call_id name arrival) (no_such_call state arrival)
      (inside_silent state call_id name arrival) (refl, tt) (dialog_at name state.dialogs))
      (if_silent (is_bye request || is_prack request) _ _ (refl, tt)
      (user_silent state call_id name arrival)))))

  ack_silent : (state : State) (call_id : List ℕ) (ack : Message)
      → AllSilent (ack_received state call_id ack).1
  unfolding ack_received
  ack_silent state call_id ack =
      or_silent (ack_for state call_id ack) (state, []) (λ invite. (refl, tt)) tt
      (find (awaits ack) state.requests)

  received_silent : (state : State) (made : List ℕ) (up : AnUp) (k : UpKind) (now : ℕ)
      → AllSilent (server_received state made up k now).1
  received_silent state made up (kind.Request request reply_to) now =
      request_silent state up.call_id (record {
        id = up.id;
        key = up.key;
        request = request;
        reply_to = reply_to;
        tag = local_tag_of request made;
      }) now
  received_silent state made up (kind.Ack ack) now = ack_silent state up.call_id ack
  received_silent state made up _ now = tt

  -- ---- the user's response

  if_ends : (b : Bool) (x y : Dialogs × List CallOut) → AllSilent x.1 → AllSilent y.1
      → AllSilent (if b then x else y).1
  if_ends true x y first second = first
  if_ends false x y first second = second

  ends_silent : (event : Id) (held : HeldRequest) (status : ℕ) (response : Message)
      (dialogs : Dialogs) → AllSilent (dialogs_after event held status response dialogs).1
  ends_silent event held status response dialogs =
      if_ends (makes_dialog held status) _ _ tt
      (if_ends (is_invite held.request && is_success status && not (has_to_tag held.request)) _ _ tt
      (if_ends (is_invite held.request && nat_le 300 status) _ _
      (early Silent allows held.id dialogs) tt))

  respond_silent : (state : State) (event : Id) (respond : RespondCommand) (now : ℕ)
      → AllSilent (respond_command state event respond now).1
  unfolding respond_command
  respond_silent state event respond now =
      or_silent (respond_to state event respond now) _ (λ held.
      or_silent (refuse state event respond) _ (λ why. (refl, tt)) (
        refl,
        ends_silent event held respond.status (response_sent state.local held respond)
            state.dialogs,
      ) (response_refusal state.dialogs held respond)) (refl, tt)
      (find (has_id respond.id) state.requests)

  -- ---- all items

  pub passes_others : PassesOthers Silent
  passes_others = record {
    allows = allows;
    gives_up = λ id client. refl;
    kinds = λ state tag up k now. subst (λ (taken : ServedTaken). AllSilent taken.1)
        (kind_same state tag up k now) (received_silent state tag up k now);
    responds = λ state event respond now. subst (λ (taken : ServedTaken). AllSilent taken.1)
        (respond_same state event respond now) (respond_silent state event respond now);
  }

module _ (id : Id) where
  none_lost : (b : Bool) → (b && false) ≡ false
  none_lost true = refl
  none_lost false = refl

  passes : Passes (Silent id false)
  passes = record {
    others = passes_others id false;
    timeout = λ call_id request. none_lost (is_id id request);
    failed = λ call_id request. none_lost (is_id id request);
  }

  none_tells : (outs : List CallOut) → AllByRecursion (Silent id false) outs
      → list_any (λ out. tells_no_ack id out || tells_no_prack id out) outs ≡ false
  none_tells [] all = refl
  none_tells (one ∷ outs) all = λ i.
      (or_parts (tells_no_ack id one || tells_no_prack id one) _ all.0).0 i
      || none_tells outs all.1 i

pub only_ticks_tell : OnlyTicksTell
only_ticks_tell calls state input now id =
    none_tells id (call_step calls state (Some input) now).1
    (subst (λ (taken : Taken). AllByRecursion (Silent id false) taken.1)
    (sym (same_step calls state (Some input) now))
    (item_passes (Silent id false) (passes id) calls state input.0 input.1 now
    (λ up response came is name status has. refl)))
