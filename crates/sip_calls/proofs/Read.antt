-- What is read of a held request after all inputs of a call is what the outputs said of it, if this
-- is true for one item of the server side.
use Rattle.std.proofs.Common.{◌≡◌, ℕ, Bool, true, false, List, [], ◌∷◌, ◌++◌, map, refl, sym, ap, subst, ◌∙◌}
use Rattle.std.specs.Prelude.{Option, None, Some, IfSome, filter, filter_map, find, fold, is_some, if◌then◌else◌}
use Rattle.std.specs.List.{IsDistinct, cons_option, flat_map}
use Rattle.std.specs.Map.{values_of}
use Rattle.std.proofs.lemmas.Map.Keys.{IsDistinct-head}
use Rattle.keyed_machine.specs.Machine.{Timed}
use Rattle.sip_message.specs.declared.id.Id.{Id}
use Rattle.sip_transactions.specs.declared.output.UpKind.{UpKind}
use Rattle.sip_transactions.specs.declared.output.UpKind.TheVariants as kind
use Rattle.sip_transactions.specs.declared.output.Up.{Up as AnUp}
use Rattle.sip_user.specs.declared.command.UserCommand.{UserCommand}
use Rattle.sip_user.specs.declared.command.UserCommand.TheVariants.{Invite, Plain as PlainCommand, Request, Respond, Ack, Prack, Cancel, AbandonRequest, AbandonDialog}
use Rattle.sip_user.specs.declared.item.CallOut.{CallOut}
use Rattle.sip_user.specs.declared.item.Item.TheVariants.{Up, User}
use Rattle.sip_held_dialogs.specs.declared.held_dialog.HeldDialog.{HeldDialog}
use Rattle.sip_held_dialogs.specs.Dialogs.{Dialogs, early_ended, ended_notice, is_early_of}
use Rattle.sip_held_dialogs.specs.Ids.{is_id}
use Rattle.sip_served.specs.declared.held_request.HeldRequest.{HeldRequest}
use Rattle.sip_served.specs.Arrival.{arrival_of}
use Rattle.sip_served.specs.State.{has_id}
use Rattle.sip_served.specs.Tick as served
use Rattle.sip_served.proofs.RequestIds.{ack_ids, all_left, apart_left, arrival_adds, ids_of, respond_ids}
use Rattle.sip_clients.specs.declared.client.Client.{Client}
use Rattle.sip_clients.specs.Client.{Clients}
use Rattle.sip_clients.specs.Tick.{is_over, early_ends_told, over_notices}
use Rattle.sip_clients.proofs.Hearing.{NoneOf}
use Rattle.sip_calls.specs.declared.call.Call.{Call}
use Rattle.sip_calls.specs.declared.calls.Calls.{Calls}
use Rattle.sip_calls.specs.Call.{Taken, CallItem, call_step, event_of, kept, made_tag, new_call}
use Rattle.sip_calls.specs.Histories.{call_from}
use Rattle.sip_calls.specs.Sides.{CallTaken}
use Rattle.std.specs.Option.{option_map_or}
use Rattle.sip_served.specs.Unacknowledged.{at_tick}
use Rattle.sip_served.proofs.ItemsFollow.{ack_follows, arrival_follows, respond_follows}
use Rattle.sip_served.proofs.Reading.{Follows, IsTold, Quiet, Reading, fold_on, quiet_both}
use Rattle.sip_served.proofs.TickFollows.{tick_follows}
use Rattle.sip_calls.specs.HeldRequests.{OfEachRequest, RequestsDiffer, id_of_kind, kind_is_about, read_from, read_in, read_next, request_brought, requests_held}
use Rattle.sip_calls.specs.Steps.Call.{step_taken, command_taken, first_command_taken, ticked, up_taken}
use Rattle.sip_calls.proofs.SameSteps.{same_step}
use Rattle.sip_calls.proofs.HeldRequests.{Sound, adds_sound, first_command, heads, kept_requests, none_differ, none_found, requests_of, rest_differ, same_sound}

-- ---- what is said of the request of each id

module _ {X : Type 0} (none : X) (read : HeldRequest → X) where
  -- what is said of each held request is what is read of it
  abbrev pub Says : List HeldRequest → (Id → X) → Type 0
  Says requests said = (invite : Id)
      → IfSome (find (has_id invite) requests) (λ held. read held ≡ said invite)

  -- what was said before, if it is held
  abbrev pub before_of : List HeldRequest → (Id → X) → Id → X
  before_of requests said invite =
      if is_some (find (has_id invite) requests) then said invite else none

  said_before : (requests : List HeldRequest) (said : Id → X) → Says requests said
      → (invite : Id)
      → option_map_or read (find (has_id invite) requests) none ≡ before_of requests said invite
  said_before requests said says invite =
      by_found (find (has_id invite) requests) (says invite)
    where
      by_found : (o : Option HeldRequest) → IfSome o (λ held. read held ≡ said invite)
          → option_map_or read o none ≡ (if is_some o then said invite else none)
      by_found None says = refl
      by_found (Some held) says = says

  says_as : (requests : List HeldRequest) (said others : Id → X)
      → ((invite : Id) → said invite ≡ others invite) → Says requests said → Says requests others
  says_as requests said others same says invite =
      by_found (find (has_id invite) requests) (says invite)
    where
      by_found : (o : Option HeldRequest) → IfSome o (λ held. read held ≡ said invite)
          → IfSome o (λ held. read held ≡ others invite)
      by_found None says = tt
      by_found (Some held) says = says ∙ same invite

  -- if nothing is said and nothing changes
  says_still : (requests : List HeldRequest) (said : Id → X) → Says requests said
      → Says requests (before_of requests said)
  says_still requests said says invite =
      by_found (find (has_id invite) requests) (says invite)
    where
      by_found : (o : Option HeldRequest) → IfSome o (λ held. read held ≡ said invite)
          → IfSome o (λ held. read held ≡ (if is_some o then said invite else none))
      by_found None says = tt
      by_found (Some held) says = says

-- ---- one input

abbrev pub read_by : {X : Type 0} → X → (HeldRequest → X) → (X → CallOut → X) → Reading X
read_by none read by = record { none = none; read = read; by = by; ticks = at_tick by }

module _ {X : Type 0} (none : X) (read : HeldRequest → X) (by : Id → X → CallOut → X)
    (told : (invite : Id) → IsTold X (read_by none read (by invite)) invite) where
  abbrev reading : Id → Reading X
  reading invite = read_by none read (by invite)

  record Step (said : Id → X) (ids : List Id) (after : List HeldRequest) : Type 0 where
    pub sound : Sound after ids
    pub says : Says none read after said

  follows_says : (before after : List HeldRequest) (outs : List CallOut) (said : Id → X)
      → Says none read before said
      → ((invite : Id) → Follows (reading invite) invite before after outs)
      → Says none read after
      (λ invite. fold (by invite) (before_of none read before said invite) outs)
  follows_says before after outs said says follows =
      says_as none read after
      (λ invite. fold (by invite) (option_map_or read (find (has_id invite) before) none) outs)
      (λ invite. fold (by invite) (before_of none read before said invite) outs)
      (λ invite. ap (λ x. fold (by invite) x outs) (said_before none read before said says invite))
      follows

  -- the ends of dialogs that a tick tells say nothing of it
  ended_quiet : (invite : Id) (dialogs : List HeldDialog)
      → Quiet (reading invite) (map ended_notice dialogs)
  ended_quiet invite [] x = refl
  ended_quiet invite (dialog ∷ dialogs) x =
      ap (λ x. fold (at_tick (by invite)) x (map ended_notice dialogs))
      ((told invite).ended dialog x)
      ∙ ended_quiet invite dialogs x

  one_quiet : (invite : Id) (now : ℕ) (dialogs : Dialogs) (client : Client)
      → Quiet (reading invite) (early_ends_told now dialogs client)
  one_quiet invite now dialogs client = by_end (is_over now client)
    where
      by_end : (b : Bool)
          → Quiet (reading invite) (if b then (early_ended client.id dialogs).1 else [])
      by_end true x = ended_quiet invite (filter (is_early_of client.id) (values_of dialogs)) x
      by_end false x = refl

  all_quiet : (invite : Id) (now : ℕ) (dialogs : Dialogs) (clients : List Client)
      → Quiet (reading invite) (flat_map (early_ends_told now dialogs) clients)
  all_quiet invite now dialogs [] x = refl
  all_quiet invite now dialogs (client ∷ clients) x =
      quiet_both (reading invite) (early_ends_told now dialogs client)
      (flat_map (early_ends_told now dialogs) clients) (one_quiet invite now dialogs client)
      (all_quiet invite now dialogs clients) x

  over_quiet : (invite : Id) (now : ℕ) (dialogs : Dialogs) (clients : Clients)
      → Quiet (reading invite) (over_notices now dialogs clients)
  over_quiet invite now dialogs clients = all_quiet invite now dialogs (values_of clients)

  module _ (calls : Calls) (call : Call) (said : Id → X)
      (says : Says none read (requests_of call) said) where
    abbrev was : Id → X
    was = before_of none read (requests_of call) said

    untouched : (ids : List Id) (after : Call) → Sound (requests_of call) ids
        → requests_of call ≡ requests_of after → Step was ids (requests_of after)
    untouched ids after sound same =
        subst (λ requests. Step was ids requests) same
        record { sound = sound; says = says_still none read (requests_of call) said says }

    up_step : (id : Id) (now : ℕ) (up : AnUp) (k : UpKind) (ids : List Id)
        → IsDistinct is_id (cons_option (id_of_kind up.id k) ids)
        → Sound (requests_of call) (cons_option (id_of_kind up.id k) ids)
        → Step (λ invite. if kind_is_about k
        then fold (by invite) (was invite) (up_taken call (event_of calls id now) up k).1
        else was invite) ids (requests_of (up_taken call (event_of calls id now) up k).0)
    up_step id now up (kind.Request request reply_to) ids differ sound =
        let arrival = arrival_of up request reply_to (made_tag (event_of calls id now)) in
        let taken = up_taken call (event_of calls id now) up (kind.Request request reply_to) in
        let fresh = none_found up.id (requests_of call)
        (heads up.id ids (ids_of (requests_of call)) sound.later) in
        record {
          sound = adds_sound up.id ids (requests_of call) (requests_of taken.0) sound
              (IsDistinct-head is_id up.id ids differ)
              (arrival_adds call.served up.call_id arrival now);
          says = follows_says (requests_of call) (requests_of taken.0) taken.1 said says
              (λ invite. arrival_follows (reading invite) invite (told invite) call.served
              up.call_id arrival now fresh);
        }
    up_step id now up (kind.Ack ack) ids differ sound =
        let taken = up_taken call (event_of calls id now) up (kind.Ack ack) in
        record {
          sound = same_sound ids (requests_of call) (requests_of taken.0) sound
              (ack_ids call.served up.call_id ack);
          says = follows_says (requests_of call) (requests_of taken.0) taken.1 said says
              (λ invite. ack_follows (reading invite) invite (told invite) call.served
              up.call_id ack);
        }
    up_step id now up (kind.Response response) ids differ sound =
        untouched ids (up_taken call (event_of calls id now) up (kind.Response response)).0 sound
        refl
    up_step id now up kind.Timeout ids differ sound =
        untouched ids (up_taken call (event_of calls id now) up kind.Timeout).0 sound refl
    up_step id now up kind.Failed ids differ sound =
        untouched ids (up_taken call (event_of calls id now) up kind.Failed).0 sound refl

    command_step : (id : Id) (now : ℕ) (command : UserCommand) (ids : List Id)
        → Sound (requests_of call) ids
        → Step (λ invite. read_in (by invite) (Some (id, User command)) (was invite)
        (command_taken call (event_of calls id now) command).1) ids
        (requests_of (command_taken call (event_of calls id now) command).0)
    command_step id now (Respond respond) ids sound =
        let taken = command_taken call (event_of calls id now) (Respond respond) in
        record {
          sound = same_sound ids (requests_of call) (requests_of taken.0) sound
              (respond_ids call.served id respond now);
          says = follows_says (requests_of call) (requests_of taken.0) taken.1 said says
              (λ invite. respond_follows (reading invite) invite (told invite) call.served
              id respond now);
        }
    command_step id now (Invite invite) ids sound = untouched ids call sound refl
    command_step id now (PlainCommand plain) ids sound = untouched ids call sound refl
    command_step id now (Request request) ids sound =
        untouched ids (command_taken call (event_of calls id now) (Request request)).0 sound refl
    command_step id now (Ack ack) ids sound =
        untouched ids (command_taken call (event_of calls id now) (Ack ack)).0 sound refl
    command_step id now (Prack prack) ids sound =
        untouched ids (command_taken call (event_of calls id now) (Prack prack)).0 sound refl
    command_step id now (Cancel cancel) ids sound =
        untouched ids (command_taken call (event_of calls id now) (Cancel cancel)).0 sound refl
    command_step id now (AbandonRequest abandon) ids sound =
        untouched ids (command_taken call (event_of calls id now) (AbandonRequest abandon)).0 sound refl
    command_step id now (AbandonDialog abandon) ids sound =
        untouched ids (command_taken call (event_of calls id now) (AbandonDialog abandon)).0 sound refl

    tick_step : (now : ℕ) (ids : List Id) → Sound (requests_of call) ids
        → Step (λ invite. fold (at_tick (by invite)) (was invite) (ticked call now).1) ids
        (requests_of (ticked call now).0)
    tick_step now ids sound =
        let first = served.tick_taken call.served now in
        let last = over_notices now (first.0).dialogs call.clients in
        record {
          sound = record {
            apart = apart_left now (requests_of call) sound.apart;
            later = all_left now (λ id. NoneOf id ids) (requests_of call) sound.later;
          };
          says = says_as none read (requests_of (ticked call now).0)
              (λ invite. fold (at_tick (by invite))
              (option_map_or read (find (has_id invite) (requests_of call)) none) first.1)
              (λ invite. fold (at_tick (by invite)) (was invite) (first.1 ++ last))
              (λ invite. ap (λ x. fold (at_tick (by invite)) x first.1)
              (said_before none read (requests_of call) said says invite)
              ∙ sym (fold_on (at_tick (by invite)) (was invite) first.1 last
              ∙ over_quiet invite now (first.0).dialogs call.clients
              (fold (at_tick (by invite)) (was invite) first.1)))
              (λ invite. tick_follows (reading invite) invite (told invite) now (requests_of call)
              sound.apart);
        }

  -- ---- all of it

  none_held : (said : Id → X) (ids : List Id) → Step said ids []
  none_held said ids = record {
    sound = record { apart = none_differ; later = tt };
    says = λ invite. tt;
  }

  kept_step : (said : Id → X) (ids : List Id) (taken : CallTaken)
      → Step said ids (requests_of taken.0) → Step said ids (requests_held (kept taken).0)
  kept_step said ids taken step =
      subst (Step said ids) (sym (kept_requests taken.0)) step

  by_input_taken : (calls : Calls) (state : Option Call) (input : Option CallItem) (now : ℕ)
      (said : Id → X) (ids : List Id)
      → IsDistinct is_id (cons_option (request_brought input) ids)
      → Sound (requests_held state) (cons_option (request_brought input) ids)
      → Says none read (requests_held state) said
      → Step (λ invite. read_in (by invite) input
      (before_of none read (requests_held state) said invite)
      (step_taken calls state input now).1) ids
      (requests_held (step_taken calls state input now).0)
  by_input_taken calls None None now said ids differ sound says =
      none_held (λ invite. read_in (by invite) None (before_of none read [] said invite) []) ids
  by_input_taken calls (Some call) None now said ids differ sound says =
      kept_step _ ids (ticked call now) (tick_step calls call said says now ids sound)
  by_input_taken calls None (Some (id, Up up)) now said ids differ sound says =
      let call = new_call calls.local in
      kept_step _ ids (up_taken call (event_of calls id now) up up.kind)
      (up_step calls call said says id now up up.kind ids differ sound)
  by_input_taken calls None (Some (id, User command)) now said ids differ sound says =
      let taken = first_command_taken (new_call calls.local) (event_of calls id now) command in
      kept_step _ ids taken (subst (Step (λ invite. read_in (by invite) (Some (id, User command))
      (before_of none read [] said invite) taken.1) ids) (first_command calls id now command)
      (none_held (λ invite. read_in (by invite) (Some (id, User command))
      (before_of none read [] said invite) taken.1) ids))
  by_input_taken calls (Some call) (Some (id, Up up)) now said ids differ sound says =
      kept_step _ ids (up_taken call (event_of calls id now) up up.kind)
      (up_step calls call said says id now up up.kind ids differ sound)
  by_input_taken calls (Some call) (Some (id, User command)) now said ids differ sound says =
      kept_step _ ids (command_taken call (event_of calls id now) command)
      (command_step calls call said says id now command ids sound)

  by_input : (calls : Calls) (state : Option Call) (input : Option CallItem) (now : ℕ)
      (said : Id → X) (ids : List Id)
      → IsDistinct is_id (cons_option (request_brought input) ids)
      → Sound (requests_held state) (cons_option (request_brought input) ids)
      → Says none read (requests_held state) said
      → Step (λ invite. read_in (by invite) input
      (before_of none read (requests_held state) said invite)
      (call_step calls state input now).1) ids
      (requests_held (call_step calls state input now).0)
  by_input calls state input now said ids differ sound says =
      subst (λ (taken : Taken). Step (λ invite. read_in (by invite) input
      (before_of none read (requests_held state) said invite) taken.1) ids (requests_held taken.0))
      (sym (same_step calls state input now))
      (by_input_taken calls state input now said ids differ sound says)

  from : (calls : Calls) (inputs : List (Timed CallItem)) (state : Option Call) (said : Id → X)
      → RequestsDiffer inputs
      → Sound (requests_held state) (filter_map (λ timed. request_brought timed.input) inputs)
      → Says none read (requests_held state) said
      → Says none read (requests_held (call_from calls state inputs))
      (λ invite. read_from (by invite) none calls invite state (said invite) inputs)
  from calls [] state said differ sound says = says
  from calls (input ∷ inputs) state said differ sound says =
      let ids = filter_map (λ timed. request_brought timed.input) inputs in
      let step = by_input calls state input.input input.moment said ids differ sound says in
      from calls inputs (call_step calls state input.input input.moment).0
      (λ invite. read_next (by invite) none calls invite state (said invite) input)
      (rest_differ (request_brought input.input) ids differ) step.sound step.says

  -- what is read of a held request is what was said of it
  pub read_as_told : OfEachRequest (λ calls inputs invite held.
      read held ≡ read_from (by invite) none calls invite None none inputs)
  read_as_told calls inputs differ invite held at =
      by_found (find (has_id invite) (requests_held (call_from calls None inputs))) at
      (from calls inputs None (λ invite. none) differ
      record { apart = none_differ; later = tt } (λ invite. tt) invite)
    where
      by_found : (o : Option HeldRequest) → o ≡ Some held
          → IfSome o
          (λ held. read held ≡ read_from (by invite) none calls invite None none inputs)
          → read held ≡ read_from (by invite) none calls invite None none inputs
      by_found None at so = absurd cc
      by_found (Some there) at so =
          let same : there ≡ held = cc in ap read (sym same) ∙ so
