-- The held requests are in the order of their ids, below those that are still to come.
use Rattle.std.proofs.Common.{◌≡◌, inl, inr, ℕ, true, false, cond, List, [], ◌∷◌, ◌++◌, map, refl, sym, ap, subst, append-nil}
use Rattle.std.specs.Prelude.{Option, None, Some, filter, filter_map}
use Rattle.std.specs.List.{AllByRecursion, cons_option}
use Rattle.std.specs.List.Sorted.{IsStrictlySortedBy}
use Rattle.std.specs.declared.cmp.Ordering.TheVariants.{Less}
use Rattle.keyed_machine.specs.Machine.{Timed}
use Rattle.sip_message.specs.declared.id.Id.{Id}
use Rattle.sip_transactions.specs.Ids.{IdsRise, id_cmp}
use Rattle.sip_transactions.specs.declared.output.UpKind.{UpKind}
use Rattle.sip_transactions.specs.declared.output.UpKind.TheVariants as kind
use Rattle.sip_transactions.specs.declared.output.Up.{Up as AnUp}
use Rattle.sip_user.specs.declared.command.UserCommand.{UserCommand}
use Rattle.sip_user.specs.declared.command.UserCommand.TheVariants.{Invite, Plain as PlainCommand, Request, Respond, Ack, Prack, Cancel, AbandonRequest, AbandonDialog}
use Rattle.sip_user.specs.declared.item.Item.TheVariants.{Up, User}
use Rattle.sip_served.specs.declared.held_request.HeldRequest.{HeldRequest}
use Rattle.sip_served.specs.Arrival.{arrival_of}
use Rattle.sip_served.specs.Tick.{is_kept_at, request_ticked}
use Rattle.sip_served.proofs.Found.{passed_id}
use Rattle.sip_served.proofs.RequestIds.{Adds, ack_ids, arrival_adds, ids_of, respond_ids}
use Rattle.sip_calls.specs.declared.call.Call.{Call}
use Rattle.sip_calls.specs.declared.calls.Calls.{Calls}
use Rattle.sip_calls.specs.HeldRequests.{id_of_kind, request_brought, requests_held}
use Rattle.sip_calls.specs.Call.{Taken, CallItem, call_step, event_of, kept, made_tag, new_call}
use Rattle.sip_calls.specs.HeldById.{HeldById}
use Rattle.sip_calls.specs.Histories.{call_from}
use Rattle.sip_calls.specs.Sides.{CallTaken}
use Rattle.sip_calls.specs.Steps.Call.{step_taken, command_taken, first_command_taken, ticked, up_taken}
use Rattle.sip_calls.proofs.SameSteps.{same_step}
use Rattle.sip_calls.proofs.HeldRequests.{first_command, kept_requests, requests_of}

-- ---- lists of ids that rise

all_without : (P : Id → Type 0) (before : List Id) (id : Id) (after : List Id)
    → AllByRecursion P (before ++ id ∷ after) → AllByRecursion P (before ++ after)
all_without P [] id after all = all.1
all_without P (first ∷ before) id after all = (all.0, all_without P before id after all.1)

rise_without : (before : List Id) (id : Id) (after : List Id) → IdsRise (before ++ id ∷ after)
    → IdsRise (before ++ after)
unfolding IsStrictlySortedBy
rise_without [] id after rise = rise.1
rise_without (first ∷ before) id after rise = (
  all_without (λ y. id_cmp first y ≡ Less) before id after rise.0,
  rise_without before id after rise.1,
)

one_after : (before : List Id) (id : Id) (after : List Id)
    → before ++ id ∷ after ≡ (before ++ id ∷ []) ++ after
one_after [] id after = refl
one_after (first ∷ before) id after = ap (λ ids. first ∷ ids) (one_after before id after)

-- ---- the ids of those that are held, and then those still to come

abbrev Rises : List HeldRequest → List Id → Type 0
Rises requests coming = IdsRise (ids_of requests ++ coming)

adds_rise : (id : Id) (coming : List Id) (before after : List HeldRequest)
    → Rises before (id ∷ coming) → Adds id before after → Rises after coming
adds_rise id coming before after rise (inl same) =
    subst (λ ids. IdsRise (ids ++ coming)) (sym same)
    (rise_without (ids_of before) id coming rise)
adds_rise id coming before after rise (inr more) =
    subst (λ ids. IdsRise (ids ++ coming)) (sym more)
    (subst IdsRise (one_after (ids_of before) id coming) rise)

same_rise : (coming : List Id) (before after : List HeldRequest) → Rises before coming
    → ids_of after ≡ ids_of before → Rises after coming
same_rise coming before after rise same =
    subst (λ ids. IdsRise (ids ++ coming)) (sym same) rise

-- ---- a tick leaves some of them

module _ (now : ℕ) (coming : List Id) where
  abbrev left : List HeldRequest → List HeldRequest
  left requests = filter (is_kept_at now) (map (λ held. (request_ticked now held).0) requests)

  all_left : (P : Id → Type 0) (requests : List HeldRequest)
      → AllByRecursion P (ids_of requests ++ coming)
      → AllByRecursion P (ids_of (left requests) ++ coming)
  all_left P [] all = all
  all_left P (held ∷ requests) all =
      let passed = (request_ticked now held).0 in
      elim (is_kept_at now passed) as (λ b. AllByRecursion P (ids_of (cond b
      (passed ∷ left requests) (left requests)) ++ coming)) [
        | true ↦ (subst P (sym (passed_id now held)) all.0, all_left P requests all.1)
        | false ↦ all_left P requests all.1
      ]

  rise_left : (requests : List HeldRequest) → Rises requests coming → Rises (left requests) coming
  unfolding IsStrictlySortedBy
  rise_left [] rise = rise
  rise_left (held ∷ requests) rise =
      let passed = (request_ticked now held).0 in
      elim (is_kept_at now passed) as (λ b. Rises (cond b (passed ∷ left requests)
      (left requests)) coming) [
        | true ↦ subst (λ id. IdsRise (id ∷ (ids_of (left requests) ++ coming)))
            (sym (passed_id now held)) (
              all_left (λ y. id_cmp held.id y ≡ Less) requests rise.0,
              rise_left requests rise.1,
            )
        | false ↦ rise_left requests rise.1
      ]

-- ---- one input

module _ (calls : Calls) (call : Call) (coming : List Id) where
  up_rises : (id : Id) (now : ℕ) (up : AnUp) (k : UpKind)
      → Rises (requests_of call) (cons_option (id_of_kind up.id k) coming)
      → Rises (requests_of (up_taken call (event_of calls id now) up k).0) coming
  up_rises id now up (kind.Request request reply_to) rise =
      let arrival = arrival_of up request reply_to (made_tag (event_of calls id now)) in
      adds_rise up.id coming (requests_of call)
      (requests_of (up_taken call (event_of calls id now) up (kind.Request request reply_to)).0)
      rise (arrival_adds call.served up.call_id arrival now)
  up_rises id now up (kind.Ack ack) rise =
      same_rise coming (requests_of call)
      (requests_of (up_taken call (event_of calls id now) up (kind.Ack ack)).0) rise
      (ack_ids call.served up.call_id ack)
  up_rises id now up (kind.Response response) rise = rise
  up_rises id now up kind.Timeout rise = rise
  up_rises id now up kind.Failed rise = rise

  command_rises : (id : Id) (now : ℕ) (command : UserCommand) → Rises (requests_of call) coming
      → Rises (requests_of (command_taken call (event_of calls id now) command).0) coming
  command_rises id now (Respond respond) rise =
      same_rise coming (requests_of call)
      (requests_of (command_taken call (event_of calls id now) (Respond respond)).0) rise
      (respond_ids call.served id respond now)
  command_rises id now (Invite invite) rise = rise
  command_rises id now (PlainCommand plain) rise = rise
  command_rises id now (Request request) rise = rise
  command_rises id now (Ack ack) rise = rise
  command_rises id now (Prack prack) rise = rise
  command_rises id now (Cancel cancel) rise = rise
  command_rises id now (AbandonRequest abandon) rise = rise
  command_rises id now (AbandonDialog abandon) rise = rise

-- ---- all of it

kept_rises : (coming : List Id) (taken : CallTaken) → Rises (requests_of taken.0) coming
    → Rises (requests_held (kept taken).0) coming
kept_rises coming taken rise =
    subst (λ requests. Rises requests coming) (sym (kept_requests taken.0)) rise

by_input_taken : (calls : Calls) (state : Option Call) (input : Option CallItem) (now : ℕ)
    (coming : List Id) → Rises (requests_held state) (cons_option (request_brought input) coming)
    → Rises (requests_held (step_taken calls state input now).0) coming
by_input_taken calls None None now coming rise = rise
by_input_taken calls (Some call) None now coming rise =
    kept_rises coming (ticked call now) (rise_left now coming (requests_of call) rise)
by_input_taken calls None (Some (id, Up up)) now coming rise =
    let call = new_call calls.local in
    kept_rises coming (up_taken call (event_of calls id now) up up.kind)
    (up_rises calls call coming id now up up.kind rise)
by_input_taken calls None (Some (id, User command)) now coming rise =
    let taken = first_command_taken (new_call calls.local) (event_of calls id now) command in
    kept_rises coming taken
    (subst (λ requests. Rises requests coming) (first_command calls id now command) rise)
by_input_taken calls (Some call) (Some (id, Up up)) now coming rise =
    kept_rises coming (up_taken call (event_of calls id now) up up.kind)
    (up_rises calls call coming id now up up.kind rise)
by_input_taken calls (Some call) (Some (id, User command)) now coming rise =
    kept_rises coming (command_taken call (event_of calls id now) command)
    (command_rises calls call coming id now command rise)

by_input : (calls : Calls) (state : Option Call) (input : Option CallItem) (now : ℕ)
    (coming : List Id) → Rises (requests_held state) (cons_option (request_brought input) coming)
    → Rises (requests_held (call_step calls state input now).0) coming
by_input calls state input now coming rise =
    subst (λ (taken : Taken). Rises (requests_held taken.0) coming)
    (sym (same_step calls state input now)) (by_input_taken calls state input now coming rise)

from : (calls : Calls) (inputs : List (Timed CallItem)) (state : Option Call)
    → Rises (requests_held state) (filter_map (λ timed. request_brought timed.input) inputs)
    → Rises (requests_held (call_from calls state inputs)) []
from calls [] state rise = rise
from calls (input ∷ inputs) state rise =
    from calls inputs (call_step calls state input.input input.moment).0
    (by_input calls state input.input input.moment
    (filter_map (λ timed. request_brought timed.input) inputs) rise)

pub held_by_id : HeldById
held_by_id calls inputs rise =
    subst IdsRise (append-nil (ids_of (requests_held (call_from calls None inputs))))
    (from calls inputs None rise)
