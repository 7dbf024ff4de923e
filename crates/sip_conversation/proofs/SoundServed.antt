-- Whatever comes to the server side of a call: its dialogs stay sound, each held request and the
-- answers to it that are kept keep the rules of messages, and so does what goes out.
use Rattle.std.proofs.Common.{ℕ, Bool, ◌||◌, ◌&&◌, not, List, [], ◌∷◌, ◌++◌, map, refl, arith}
use Rattle.std.specs.Prelude.{Option, None, Some, IsTrue, codes, filter, find, is_none, nat_le, reverse, if◌then◌else◌}
use Rattle.std.specs.List.{AllByRecursion, list_any}
use Rattle.std.specs.Map.{values_of}
use Rattle.std.specs.Option.{option_map_or}
use Rattle.sip_text.specs.Token.{is_token}
use Rattle.sip_message.specs.Addr.{IsAddr}
use Rattle.sip_message.specs.Rules.{IsMessage, IsStartLine}
use Rattle.sip_message.specs.declared.addr.Addr.{Addr}
use Rattle.sip_message.specs.declared.id.Id.{Id}
use Rattle.sip_message.specs.declared.message.Message.{Message}
use Rattle.sip_message.specs.declared.rack.RAck.{RAck}
use Rattle.sip_message.specs.declared.start_line.StartLine.TheVariants.{Response}
use Rattle.sip_transactions.specs.declared.output.UpKind.{UpKind}
use Rattle.sip_transactions.specs.declared.output.UpKind.TheVariants as kind
use Rattle.sip_transactions.specs.declared.output.Up.{Up as AnUp}
use Rattle.sip_held_dialogs.specs.Dialogs.{Dialogs, dialog_at, dialog_changed, early_ended, ended_at, ended_notice, is_dialog_id, is_early_of}
use Rattle.sip_held_dialogs.specs.Requests.{dialog_id_of, has_to_tag, is_bye, is_cancel, is_invite, is_prack, is_success, is_unknown_option}
use Rattle.sip_user.specs.declared.command.Respond.{Respond}
use Rattle.sip_held_dialogs.specs.declared.held_dialog.DialogId.{DialogId}
use Rattle.sip_held_dialogs.specs.declared.held_dialog.HeldDialog.{HeldDialog}
use Rattle.sip_user.specs.declared.item.CallOut.{CallOut}
use Rattle.sip_held_dialogs.proofs.Each.{both, each_but_one, each_changed, each_inserted, each_left, filtered, flattened, found, mapped}
use Rattle.sip_served.specs.Rules.Arrivals.{ack_for, ack_received, after_487, after_ack, after_prack, after_request, awaits, bad_extension, cancel_for, cancel_received, is_above, is_merged, is_named_by, is_same_branch, no_such_call, own_response, prack_for, prack_received, request_for_user, request_in_dialog, request_received, server_received}
use Rattle.sip_served.specs.Rules.Responses.{after_2xx, dialog_by_request, dialogs_after, held_after, makes_dialog, respond_command, respond_to, response_refusal, response_sent}
use Rattle.sip_served.specs.Rules.Ticks.{provisionals_tick, server_tick, success_tick}
use Rattle.sip_served.specs.State.{ServedTaken, State, changed_at, empty_at, has_id}
use Rattle.sip_served.specs.declared.arrival.Arrival.{Arrival}
use Rattle.sip_served.specs.declared.held_request.HeldRequest.{HeldRequest}
use Rattle.sip_served.proofs.FirstChanged.{first_changed}
use Rattle.sip_conversation.specs.Commands.{IsRespond}
use Rattle.sip_conversation.proofs.AnswerRules.{extension_keeps, local_token, response_keeps}
use Rattle.sip_conversation.proofs.AnswersHeld.{IsSoundRequest, ack_keeps, after_keeps, answer_keeps, prack_keeps, tick_gives, tick_keeps, ticked}
use Rattle.sip_conversation.proofs.Branches.{either, found_or}
use Rattle.sip_conversation.proofs.KeepsRules.{Keep, KeepsRulesWith, KindKeeps}
use Rattle.sip_conversation.proofs.SoundDialogs.{AreSound, IsSound, answered_sound, by_request_sound, reversed, visited_sound}

pub record IsSoundState (state : State) : Type 0 where
  pub local : IsAddr state.local
  pub requests : AllByRecursion IsSoundRequest state.requests
  pub dialogs : AreSound state.dialogs

pub empty_sound : (local : Addr) → IsAddr local → IsSoundState (empty_at local)
empty_sound local address = record { local = address; requests = tt; dialogs = tt }

-- a request that keeps the rules, and a tag for the answers to it
record IsSoundArrival (arrival : Arrival) : Type 0 where
  pub request : IsMessage arrival.request
  pub tag : IsTrue (is_token arrival.tag)

-- a held request changes, and the dialogs
changed_done : (state : State) (id : Id) (change : HeldRequest → HeldRequest) (dialogs : Dialogs)
    → ((held : HeldRequest) → IsSoundRequest held → IsSoundRequest (change held))
    → AreSound dialogs → IsSoundState state
    → IsSoundState (record state {
      requests = changed_at id change state.requests;
      dialogs = dialogs;
    })
changed_done state id change dialogs keeps all sound = record {
  local = sound.local;
  requests = first_changed IsSoundRequest (has_id id) change keeps state.requests sound.requests;
  dialogs = all;
}

-- of each ACK that is sent as a text this is said
module _ (AckIs : Message → Type 0) where
  abbrev pub Done : ServedTaken → Type 0
  Done taken = IsSoundState taken.0 × Keep AckIs taken.1

  -- ---- the ends of dialogs

  abbrev pub Ended : Dialogs × List CallOut → Type 0
  Ended ended = AreSound ended.0 × Keep AckIs ended.1

  ends_keep : (dialogs : List HeldDialog) → Keep AckIs (map ended_notice dialogs)
  ends_keep [] = tt
  ends_keep (held ∷ dialogs) = (tt, ends_keep dialogs)

  pub early_ends : (invite : Id) (dialogs : Dialogs) → AreSound dialogs
      → Ended (early_ended invite dialogs)
  early_ends invite dialogs all = (
    each_left IsSound _ dialogs all,
    ends_keep (filter (is_early_of invite) (values_of dialogs)),
  )

  pub dialog_ends : (name : DialogId) (dialogs : Dialogs) → AreSound dialogs
      → Ended (ended_at name dialogs)
  dialog_ends name dialogs all = (
    each_but_one IsSound (is_dialog_id name) dialogs all,
    found_or (Keep AckIs) _ (dialog_at name dialogs) [] (λ held is. (tt, tt)) (λ none. tt),
  )

  -- ---- the agent's own answers

  own_keeps : (arrival : Arrival) (status : ℕ) (reason : List ℕ) → IsSoundArrival arrival
      → IsStartLine (Response status reason) → Keep AckIs (own_response arrival status reason)
  own_keeps arrival status reason its line =
      (response_keeps arrival.request status reason arrival.tag its.request line its.tag, tt)

  no_call_done : (state : State) (arrival : Arrival) → IsSoundArrival arrival → IsSoundState state
      → Done (no_such_call state arrival)
  no_call_done state arrival its sound = (
    sound,
    own_keeps arrival 481 (codes "Call/Transaction Does Not Exist") its
        (omega arith, omega arith, refl),
  )

  -- ---- a request that comes up

  user_done : (state : State) (call_id : List ℕ) (name : DialogId) (arrival : Arrival)
      → IsSoundArrival arrival → IsSoundState state
      → Done (request_for_user state call_id name arrival)
  user_done state call_id name arrival its sound =
      let request = arrival.request in
      let after = either Ended (has_to_tag request && is_bye request) (ended_at name state.dialogs)
      (state.dialogs, []) (λ ends. dialog_ends name state.dialogs sound.dialogs)
      (λ other. (sound.dialogs, tt)) in (
        record {
          local = sound.local;
          requests = both IsSoundRequest state.requests _ sound.requests (
            record {
              request = its.request;
              tag = its.tag;
              provisionals = tt;
              success = tt;
            },
            tt,
          );
          dialogs = after.0;
        },
        (tt, after.1),
      )

  prack_done : (state : State) (call_id : List ℕ) (name : DialogId) (created_by : Id)
      (arrival : Arrival) (rack : Option RAck) → IsSoundArrival arrival → IsSoundState state
      → Done (prack_received state call_id name created_by arrival rack)
  prack_done state call_id name created_by arrival None its sound =
      no_call_done state arrival its sound
  prack_done state call_id name created_by arrival (Some rack) its sound =
      found_or Done (prack_for state call_id arrival rack)
      (find (is_named_by rack name created_by) state.requests) (no_such_call state arrival)
      (λ invite found. (
        changed_done state invite.id (after_prack rack.rseq) _ (prack_keeps rack.rseq) sound.dialogs
            sound,
        ((own_keeps arrival 200 (codes "OK") its (omega arith, omega arith, refl)).0, (tt, tt)),
      ))
      (λ none. no_call_done state arrival its sound)

  dialog_done : (state : State) (call_id : List ℕ) (name : DialogId) (arrival : Arrival)
      (held_dialog : HeldDialog) → IsSoundArrival arrival → IsSoundState state
      → Done (request_in_dialog state call_id name arrival held_dialog)
  dialog_done state call_id name arrival held_dialog its sound =
      let request = arrival.request in
      let noted : State = record state {
        dialogs = dialog_changed name (after_request request) state.dialogs;
      } in
      let noted_sound : IsSoundState noted = record {
        local = sound.local;
        requests = sound.requests;
        dialogs = each_changed IsSound (is_dialog_id name) (after_request request)
            (λ held before. visited_sound request held its.request before) state.dialogs
            sound.dialogs;
      } in
      let prack : ServedTaken =
      prack_received noted call_id name held_dialog.created_by arrival request.rack in
      let user : ServedTaken = request_for_user noted call_id name arrival in
      either Done (not (is_above held_dialog request.cseq.number)) _
      (if is_prack request then prack else user)
      (λ late. (
        sound,
        own_keeps arrival 500 (codes "Server Internal Error") its (omega arith, omega arith, refl),
      ))
      (λ above. either Done (is_prack request) prack user
      (λ is. prack_done noted call_id name held_dialog.created_by arrival request.rack its
      noted_sound)
      (λ other. user_done noted call_id name arrival its noted_sound))

  -- ---- a CANCEL, and an ACK

  cancel_one : (state : State) (call_id : List ℕ) (arrival : Arrival) (now : ℕ)
      (held : HeldRequest) → IsSoundArrival arrival → IsSoundRequest held → IsSoundState state
      → Done (cancel_for state call_id arrival now held)
  cancel_one state call_id arrival now held its one sound =
      let ended = early_ends held.id state.dialogs sound.dialogs in
      let tagged : Arrival = record arrival { tag = held.tag } in
      let ok = own_keeps tagged 200 (codes "OK") (record { request = its.request; tag = one.tag })
      (omega arith, omega arith, refl) in
      either Done (not (is_invite held.request && is_none held.removal)) _ _
      (λ late. (sound, ok))
      (λ still. (
        changed_done state held.id (after_487 now) _ (λ _ its. its) ended.0 sound,
        (
          ok.0,
          (
            response_keeps held.request 487 (codes "Request Terminated") held.tag one.request
                (omega arith, omega arith, refl) one.tag,
            (tt, ended.1),
          ),
        ),
      ))

  cancel_done : (state : State) (call_id : List ℕ) (arrival : Arrival) (now : ℕ)
      → IsSoundArrival arrival → IsSoundState state
      → Done (cancel_received state call_id arrival now)
  cancel_done state call_id arrival now its sound =
      let is_its : HeldRequest → Bool = λ held. is_same_branch arrival.key held.key in
      found_or Done (cancel_for state call_id arrival now) (find is_its (reverse state.requests))
      (no_such_call state arrival)
      (λ held is. cancel_one state call_id arrival now held its
      (found IsSoundRequest is_its (reverse state.requests) held
      (reversed IsSoundRequest state.requests sound.requests) is) sound)
      (λ none. no_call_done state arrival its sound)

  ack_done : (state : State) (call_id : List ℕ) (ack : Message) → IsSoundState state
      → Done (ack_received state call_id ack)
  unfolding ack_received
  ack_done state call_id ack sound =
      found_or Done (ack_for state call_id ack) (find (awaits ack) state.requests) (state, [])
      (λ invite found.
      (changed_done state invite.id after_ack _ ack_keeps sound.dialogs sound, (tt, tt)))
      (λ none. (sound, tt))

  -- ---- any request

  request_done : (state : State) (call_id : List ℕ) (arrival : Arrival) (now : ℕ)
      → IsSoundArrival arrival → IsSoundState state
      → Done (request_received state call_id arrival now)
  unfolding request_received
  request_done state call_id arrival now its sound =
      let request = arrival.request in
      let name = dialog_id_of request arrival.tag in
      let outside : ServedTaken = if is_bye request || is_prack request
      then no_such_call state arrival else request_for_user state call_id name arrival in
      let inside : ServedTaken = option_map_or (request_in_dialog state call_id name arrival)
      (dialog_at name state.dialogs) (no_such_call state arrival) in
      let known : ServedTaken = if has_to_tag request then inside else outside in
      let once : ServedTaken = if list_any is_unknown_option request.require
      then bad_extension state arrival else known in
      let merged : ServedTaken = (state, own_response arrival 482 (codes "Loop Detected")) in
      let no_cancel : ServedTaken = if not (has_to_tag request)
      && list_any (is_merged request) state.requests then merged else once in
      either Done (is_cancel request) (cancel_received state call_id arrival now) no_cancel
      (λ is. cancel_done state call_id arrival now its sound)
      (λ is. either Done
      (not (has_to_tag request) && list_any (is_merged request) state.requests) merged once
      (λ twice. (
        sound,
        own_keeps arrival 482 (codes "Loop Detected") its (omega arith, omega arith, refl),
      ))
      (λ single. either Done (list_any is_unknown_option request.require)
      (bad_extension state arrival) known
      (λ unknown. (sound, (extension_keeps request arrival.tag its.request its.tag, tt)))
      (λ fine. either Done (has_to_tag request) inside outside
      (λ tagged. found_or Done (request_in_dialog state call_id name arrival)
      (dialog_at name state.dialogs) (no_such_call state arrival)
      (λ held found. dialog_done state call_id name arrival held its sound)
      (λ none. no_call_done state arrival its sound))
      (λ untagged. either Done (is_bye request || is_prack request) (no_such_call state arrival)
      (request_for_user state call_id name arrival)
      (λ odd. no_call_done state arrival its sound)
      (λ plain. user_done state call_id name arrival its sound)))))

  pub kind_done : (state : State) (made : List ℕ) (up : AnUp) (k : UpKind) (now : ℕ) → KindKeeps k
      → IsTrue (is_token made) → IsSoundState state → Done (server_received state made up k now)
  kind_done state made up (kind.Request request reply_to) now rules token sound =
      request_done state up.call_id _ now
      (record { request = rules; tag = local_token request made rules token }) sound
  kind_done state made up (kind.Ack ack) now rules token sound =
      ack_done state up.call_id ack sound
  kind_done state made up (kind.Response response) now rules token sound = (sound, tt)
  kind_done state made up kind.Timeout now rules token sound = (sound, tt)
  kind_done state made up kind.Failed now rules token sound = (sound, tt)

  -- ---- an answer of the user

  answered_dialogs : (event : Id) (held : HeldRequest) (status : ℕ) (response : Message)
      (dialogs : Dialogs) → IsMessage response → IsSoundRequest held → AreSound dialogs
      → Ended (dialogs_after event held status response dialogs)
  answered_dialogs event held status response dialogs rules its all =
      let request = held.request in
      let name = dialog_id_of request held.tag in
      either Ended (makes_dialog held status) _ _
      (λ makes. (
        each_inserted IsSound is_dialog_id name (dialog_by_request event held status)
            (record {
              dialog = by_request_sound request held.tag status its.request its.tag;
              pending = tt;
            }) dialogs all,
        tt,
      ))
      (λ other. either Ended
      (is_invite request && is_success status && not (has_to_tag request)) _ _
      (λ confirms. (
        each_changed IsSound (is_dialog_id name) (after_2xx response)
            (λ one before. answered_sound response one rules before) dialogs all,
        tt,
      ))
      (λ neither. either Ended (is_invite request && nat_le 300 status)
      (early_ended held.id dialogs) (dialogs, []) (λ rejects. early_ends held.id dialogs all)
      (λ none. (all, tt))))

  answer_done : (state : State) (event : Id) (respond : Respond) (now : ℕ) (held : HeldRequest)
      → IsRespond respond → IsSoundRequest held → IsSoundState state
      → Done (respond_to state event respond now held)
  answer_done state event respond now held types its sound =
      let response = response_sent state.local held respond in
      found_or Done _ (response_refusal state.dialogs held respond) _
      (λ refusal refused. (sound, (tt, tt)))
      (λ accepted.
      let rules =
      answer_keeps state.local state.dialogs held respond sound.local types its accepted in
      let left = answered_dialogs event held respond.status response state.dialogs rules its
      sound.dialogs in (
        changed_done state respond.id (λ _. held_after event held respond response now) _
            (λ _ before. after_keeps event held respond response now rules its) left.0 sound,
        (rules, left.1),
      ))

  pub respond_done : (state : State) (event : Id) (respond : Respond) (now : ℕ) → IsRespond respond
      → IsSoundState state → Done (respond_command state event respond now)
  unfolding respond_command
  respond_done state event respond now types sound =
      found_or Done (respond_to state event respond now)
      (find (has_id respond.id) state.requests) _
      (λ held is. answer_done state event respond now held types
      (found IsSoundRequest (has_id respond.id) state.requests held sound.requests is) sound)
      (λ none. (sound, (tt, tt)))

  -- ---- a tick

  pub tick_done : (state : State) (now : ℕ) → IsSoundState state → Done (server_tick state now)
  unfolding server_tick
  tick_done state now sound = (
    record {
      local = sound.local;
      requests = filtered IsSoundRequest _ (map (ticked now) state.requests)
          (mapped IsSoundRequest IsSoundRequest (ticked now) (tick_keeps AckIs now) state.requests
          sound.requests);
      dialogs = sound.dialogs;
    },
    flattened IsSoundRequest (KeepsRulesWith AckIs)
        (λ held. (success_tick now held).1 ++ (provisionals_tick now held).1) (tick_gives AckIs now)
        state.requests sound.requests,
  )
