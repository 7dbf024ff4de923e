-- The user is told of an outcome of a request only by the input that brings one, once.
use Rattle.std.proofs.Common.{◌≡◌, ◌⊎◌, inl, inr, ℕ, ◌+◌, ◌≤◌, Bool, true, false, ◌&&◌, cond, List, [], ◌∷◌, ◌++◌, refl, sym, ap, subst, ◌∙◌, arith}
use Rattle.std.specs.Prelude.{Option, None, Some, count_by, filter, is_none, map, nat_le, if◌then◌else◌}
use Rattle.std.specs.List.{AllByRecursion, flat_map, list_any}
use Rattle.std.specs.Option.{option_map_or}
use Rattle.std.proofs.lemmas.List.Sums.{sum_by-cons}
use Rattle.sip_message.specs.Party.{tag_of}
use Rattle.sip_message.specs.declared.id.Id.{Id}
use Rattle.sip_message.specs.declared.message.Message.{Message}
use Rattle.sip_message.specs.declared.start_line.StartLine.{StartLine}
use Rattle.sip_message.specs.declared.start_line.StartLine.TheVariants as start_line
use Rattle.sip_reliable.specs.Provisional.{is_late}
use Rattle.sip_transactions.specs.declared.input.Command.TheVariants as order
use Rattle.sip_transactions.specs.declared.output.Up.{Up as AnUp}
use Rattle.sip_transactions.specs.declared.output.UpKind.{UpKind}
use Rattle.sip_transactions.specs.declared.output.UpKind.TheVariants as kind
use Rattle.sip_user.specs.declared.command.UserCommand.{UserCommand}
use Rattle.sip_user.specs.declared.item.CallOut.{CallOut}
use Rattle.sip_user.specs.declared.item.CallOut.TheVariants as out
use Rattle.sip_user.specs.declared.item.Item.TheVariants.{Up, User}
use Rattle.sip_user.specs.declared.notice.Notice.{Notice}
use Rattle.sip_user.specs.declared.notice.Notice.TheVariants as notice
use Rattle.sip_held_dialogs.specs.Ids.{is_id}
use Rattle.sip_held_dialogs.specs.Requests.{is_final}
use Rattle.sip_served.specs.declared.held_request.HeldRequest.{HeldRequest}
use Rattle.sip_served.specs.declared.provisionals.ReliableResponse.{ReliableResponse}
use Rattle.sip_served.specs.declared.held_request.Success.{Success}
use Rattle.sip_served.specs.Rules.Ticks.{provisionals_tick, server_tick, success_at, success_tick}
use Rattle.sip_served.specs.State.{ServedTaken, State}
use Rattle.sip_served.specs.Tick.{tick_taken}
use Rattle.sip_served.proofs.TickRules.{tick_same}
use Rattle.sip_clients.specs.Rules.Responses.{status_of}
use Rattle.sip_clients.specs.Provisionals.{is_response as is_told}
use Rattle.sip_clients.specs.declared.client.Client.{Client}
use Rattle.sip_clients.specs.declared.event.Event.{Event}
use Rattle.sip_clients.specs.Clients.{request_lost}
use Rattle.sip_clients.specs.Outputs.{start_command}
use Rattle.sip_clients.specs.Tick.{clients_ticked}
use Rattle.sip_clients.proofs.ClientOuts.{Allows, clients_tick, lost_told, response_told}
use Rattle.sip_calls.specs.declared.call.Call.{Call}
use Rattle.sip_calls.specs.declared.calls.Calls.{Calls}
use Rattle.sip_calls.specs.Call.{CallItem, Taken, call_step, event_of, made_tag, new_call}
use Rattle.sip_calls.specs.Sides.{by_server, side_of}
use Rattle.sip_calls.specs.Steps.Call.{ticked, up_taken}
use Rattle.sip_calls.proofs.SameSteps.{same_step}
use Rattle.sip_agent_laws.specs.Agents.Outcomes.{is_outcome_of}
use Rattle.sip_agent_laws.specs.Calls.Told.{IsAsItCame}
use Rattle.sip_agent_laws.specs.Transactions.Outcomes.{is_final as is_final_line, is_outcome}
use Rattle.sip_agent_laws.proofs.agents.Lists.{both}
use Rattle.sip_agent_laws.proofs.calls.Arrived.{of_state}
use Rattle.sip_agent_laws.proofs.calls.EachItem.{command_passes, first_passes}
use Rattle.sip_agent_laws.proofs.calls.OnlyTicks as others
use Rattle.sip_agent_laws.proofs.calls.OnlyTicks.{tells_lost}
use Rattle.sip_agent_laws.proofs.calls.Told.{told_once}

-- the user is told of an outcome of this request
abbrev pub tells_of : Id → CallOut → Bool
tells_of id (out.Notice notice) = is_outcome_of id notice
tells_of id (out.Command own order) = false
tells_of id (out.Direct to bytes) = false

-- an input brings one
abbrev pub brings_outcome : Id → Option CallItem → Bool
brings_outcome id None = false
brings_outcome id (Some (event, Up up)) = is_id id up.id && is_outcome up.kind
brings_outcome id (Some (event, User command)) = false

abbrev up_item : Id → AnUp → Option CallItem
up_item event up = Some (event, Up up)

abbrev up_in : AnUp → Option CallItem → AnUp
up_in other None = other
up_in other (Some (event, Up up)) = up
up_in other (Some (event, User command)) = other

up_same : (one other : Id) (up came : AnUp) → up_item one up ≡ up_item other came → up ≡ came
up_same one other up came same = ap (up_in up) same

module _ (id : Id) where
  abbrev Quiet : CallOut → Type 0
  Quiet out = others.Silent id true out

  abbrev pub counted : List CallOut → ℕ
  counted outs = count_by (tells_of id) outs

  abbrev told_in : List CallOut → List CallOut
  told_in outs = filter is_told outs

  first_counted : (o : CallOut) (outs : List CallOut)
      → counted (o ∷ outs) ≡ cond (tells_of id o) 1 0 + counted outs
  first_counted o outs = sum_by-cons (λ y. cond {A = ℕ} (tells_of id y) 1 0) o outs

  -- ---- what isn't lost is a response

  told_or_not : (o : CallOut) → Quiet o
      → (is_told o ≡ true) ⊎ ((is_told o ≡ false) × (tells_of id o ≡ false))
  told_or_not (out.Notice (notice.Response call_id request status local_tag remote_tag body))
      quiet =
      inl refl
  told_or_not (out.Notice (notice.Timeout call_id request)) quiet =
      inr (refl, lost (is_id id request) quiet)
    where
      lost : (b : Bool) → (b && true) ≡ false → b ≡ false
      lost true is = is
      lost false is = refl
  told_or_not (out.Notice (notice.Failed call_id request)) quiet =
      inr (refl, lost (is_id id request) quiet)
    where
      lost : (b : Bool) → (b && true) ≡ false → b ≡ false
      lost true is = is
      lost false is = refl
  told_or_not other quiet = inr (refl, refl)

  quiet_counted : (outs : List CallOut) → AllByRecursion Quiet outs
      → counted outs ≡ counted (told_in outs)
  quiet_counted [] all = refl
  quiet_counted (o ∷ outs) all = by_told (told_or_not o all.0) (quiet_counted outs all.1)
    where
      kept : Bool → List CallOut
      kept b = cond b (o ∷ told_in outs) (told_in outs)

      by_told : ((is_told o ≡ true) ⊎ ((is_told o ≡ false) × (tells_of id o ≡ false)))
          → counted outs ≡ counted (told_in outs)
          → counted (o ∷ outs) ≡ counted (told_in (o ∷ outs))
      by_told (inl told) rest =
          omega (
            arith,
            first_counted o outs,
            first_counted o (told_in outs),
            ap (λ b. counted (kept b)) told,
            rest,
          )
      by_told (inr not) rest =
          omega (
            arith,
            first_counted o outs,
            ap (λ b. cond {A = ℕ} b 1 0) not.1,
            ap (λ b. counted (kept b)) not.0,
            rest,
          )

  -- ---- what is told of responses

  came_final : (line : StartLine) (status : ℕ) → status_of line ≡ Some status
      → is_final status ≡ is_final_line line
  came_final (start_line.Request uri) status is = absurd cc
  came_final (start_line.Response one reason) status is =
      let same : one ≡ status = cc in sym (ap (λ n. nat_le 200 n) same)

  told_counted : (input : Option CallItem) (told : List CallOut)
      → (told ≡ []) ⊎ IsAsItCame input told
      → counted told ≤ cond (brings_outcome id input) 1 0
  told_counted input told (inl none) = omega (arith, ap counted none)
  told_counted input told (inr it) =
      let one = out.Notice (notice.Response it.up.call_id it.up.id it.status
      (tag_of it.response.from) (tag_of it.response.to) it.response.body) in
      let brings : brings_outcome id input ≡ (is_id id it.up.id && is_final it.status) =
      ap (brings_outcome id) it.came
      ∙ (λ i. is_id id it.up.id && is_outcome (it.brought i))
      ∙ (λ i. is_id id it.up.id
      && sym (came_final it.response.start it.status it.has_status) i) in
      omega (
        arith,
        ap counted it.is,
        first_counted one [],
        ap (λ b. cond {A = ℕ} b 1 0) brings,
      )

  -- ---- an input that reports no loss

  up_quiet : (call : Call) (event : Event) (up : AnUp) (k : UpKind) → (k ≡ kind.Timeout → ⊥)
      → (k ≡ kind.Failed → ⊥) → AllByRecursion Quiet (up_taken call event up k).1
  up_quiet call event up (kind.Response response) timeout failed =
      response_told Quiet (others.allows id true) event up.id up.call_id response (side_of call)
      (λ name status has. refl)
  up_quiet call event up kind.Timeout timeout failed = absurd (timeout refl)
  up_quiet call event up kind.Failed timeout failed = absurd (failed refl)
  up_quiet call event up its timeout failed =
      (others.passes_others id true).kinds call.served (made_tag event) up its event.moment

  -- what comes up
  lost_counted : (call : Call) (event : Event) (up : AnUp) (one : Notice) (rest : List CallOut)
      → is_outcome_of id one ≡ is_id id up.id → is_told (out.Notice one) ≡ false
      → AllByRecursion Quiet rest
      → told_in (out.Notice one ∷ rest) ≡ []
      → counted (out.Notice one ∷ rest) ≤ cond (is_id id up.id && true) 1 0
  lost_counted call event up one rest is untold all none =
      omega (
        arith,
        first_counted (out.Notice one) rest,
        ap (λ b. cond {A = ℕ} b 1 0) is,
        quiet_counted rest all,
        ap counted (ap (λ b. cond b (out.Notice one ∷ told_in rest) (told_in rest)) (sym untold)
            ∙ none),
        ap (λ b. cond {A = ℕ} b 1 0) (sym (and_true (is_id id up.id))),
      )
    where
      and_true : (b : Bool) → (b && true) ≡ b
      and_true true = refl
      and_true false = refl

  module _ (calls : Calls) (state : Option Call) (event : Id) (up : AnUp) (now : ℕ) where
    abbrev ev : Event
    ev = event_of calls event now

    abbrev call : Call
    call = of_state calls state

    abbrev outs : List CallOut
    outs = (call_step calls state (Some (event, Up up)) now).1

    as_taken : (state : Option Call) → (call_step calls state (Some (event, Up up)) now).1
        ≡ (up_taken (of_state calls state) ev up up.kind).1
    as_taken None = ap (λ (taken : Taken). taken.1)
        (same_step calls None (Some (event, Up up)) now)
    as_taken (Some call) = ap (λ (taken : Taken). taken.1)
        (same_step calls (Some call) (Some (event, Up up)) now)

    of_kind : (k : UpKind) → up.kind ≡ k → outs ≡ (up_taken call ev up k).1
    of_kind k is = as_taken state ∙ ap (λ (k : UpKind). (up_taken call ev up k).1) is

    by_quiet : (k : UpKind) → up.kind ≡ k → (k ≡ kind.Timeout → ⊥) → (k ≡ kind.Failed → ⊥)
        → counted outs ≤ cond (brings_outcome id (Some (event, Up up))) 1 0
    by_quiet k is timeout failed =
        let told = told_counted (Some (event, Up up)) (told_in outs)
        (told_once calls state (Some (event, Up up)) now) in
        omega (
          arith,
          told,
          quiet_counted outs (subst (AllByRecursion Quiet) (sym (of_kind k is))
              (up_quiet call ev up k timeout failed)),
        )

    untold : (k : UpKind) → up.kind ≡ k → ((response : Message) → k ≡ kind.Response response → ⊥)
        → told_in outs ≡ []
    untold k is never = by_once (told_once calls state (Some (event, Up up)) now)
      where
        by_once : ((told_in outs ≡ []) ⊎ IsAsItCame (Some (event, Up up)) (told_in outs))
            → told_in outs ≡ []
        by_once (inl none) = none
        by_once (inr it) =
            let same : up ≡ it.up = up_same event it.event up it.up it.came in
            absurd (never it.response (sym is ∙ (ap (λ (u : AnUp). u.kind) same ∙ it.brought)))

    up_counted : (k : UpKind) → up.kind ≡ k
        → counted outs ≤ cond (brings_outcome id (Some (event, Up up))) 1 0
    up_counted kind.Timeout is =
        let taken = of_kind kind.Timeout is in
        let count = lost_counted call ev up (notice.Timeout up.call_id up.id)
        (request_lost up.id true (side_of call)).1 refl refl
        (lost_told Quiet (others.allows id true) up.id true (side_of call))
        (sym (ap told_in taken) ∙ untold kind.Timeout is (λ response same. cc)) in
        omega (
          arith,
          count,
          ap counted taken,
          ap (λ (k : UpKind). cond {A = ℕ} (is_id id up.id && is_outcome k) 1 0) is,
        )
    up_counted kind.Failed is =
        let taken = of_kind kind.Failed is in
        let count = lost_counted call ev up (notice.Failed up.call_id up.id)
        (request_lost up.id false (side_of call)).1 refl refl
        (lost_told Quiet (others.allows id true) up.id false (side_of call))
        (sym (ap told_in taken) ∙ untold kind.Failed is (λ response same. cc)) in
        omega (
          arith,
          count,
          ap counted taken,
          ap (λ (k : UpKind). cond {A = ℕ} (is_id id up.id && is_outcome k) 1 0) is,
        )
    up_counted _ is = by_quiet _ is (λ same. cc) (λ same. cc)

  -- ---- a tick

  abbrev Untold : CallOut → Type 0
  Untold out = tells_of id out ≡ false

  started_untold : (event : Id) (client : Client) → Untold (start_command event client)
  unfolding start_command
  started_untold event client = refl

  untold_allows : Allows Untold
  untold_allows = record {
    ended = λ held. refl;
    refusal = λ call_id place why. refl;
    sent = λ ack. refl;
    started = started_untold;
  }

  if_untold : {X : Type 0} (b : Bool) (x y : X × List CallOut) → AllByRecursion Untold x.1
      → AllByRecursion Untold y.1 → AllByRecursion Untold (if b then x else y).1
  if_untold true x y first second = first
  if_untold false x y first second = second

  success_untold : (now : ℕ) (held : HeldRequest) (o : Option Success)
      → AllByRecursion Untold (option_map_or (success_at now held) o (None, [])).1
  success_untold now held None = tt
  success_untold now held (Some success) =
      if_untold (is_none success.over && nat_le success.end now) _ _ (refl, tt)
      (if_untold (is_none success.over && nat_le success.retransmission.due now) _ _ (refl, tt) tt)

  answers_untold : (held : HeldRequest) (responses : List ReliableResponse)
      → AllByRecursion Untold (map (λ (one : ReliableResponse). out.Command held.id
      (order.Answer held.key one.response)) responses)
  answers_untold held [] = tt
  answers_untold held (one ∷ responses) = (refl, answers_untold held responses)

  provisionals_untold : (now : ℕ) (held : HeldRequest)
      → AllByRecursion Untold (provisionals_tick now held).1
  provisionals_untold now held =
      if_untold held.ledger.closed _ _ tt
      (if_untold (list_any (is_late now) held.ledger.waiting) _ _ (refl, tt)
      (answers_untold held _))

  requests_untold : (now : ℕ) (requests : List HeldRequest) → AllByRecursion Untold
      (flat_map (λ held. (success_tick now held).1 ++ (provisionals_tick now held).1) requests)
  requests_untold now [] = tt
  requests_untold now (held ∷ requests) =
      both Untold ((success_tick now held).1 ++ (provisionals_tick now held).1) _
      (both Untold (success_tick now held).1 (provisionals_tick now held).1
      (success_untold now held held.success) (provisionals_untold now held))
      (requests_untold now requests)

  served_untold : (state : State) (now : ℕ) → AllByRecursion Untold (server_tick state now).1
  unfolding server_tick
  served_untold state now = requests_untold now state.requests

  tick_untold : (call : Call) (now : ℕ) → AllByRecursion Untold (ticked call now).1
  tick_untold call now =
      let first = by_server call (tick_taken call.served now) in
      both Untold first.1 (clients_ticked (side_of first.0) now).1
      (subst (λ (taken : ServedTaken). AllByRecursion Untold taken.1) (tick_same call.served now)
      (served_untold call.served now))
      (clients_tick Untold untold_allows (side_of first.0) now)

  none_counted : (outs : List CallOut) → AllByRecursion Untold outs → counted outs ≡ 0
  none_counted [] all = refl
  none_counted (o ∷ outs) all =
      omega (
        arith,
        first_counted o outs,
        ap (λ b. cond {A = ℕ} b 1 0) all.0,
        none_counted outs all.1,
      )

  -- ---- all inputs

  command_counted : (calls : Calls) (state : Option Call) (event : Id) (c : UserCommand) (now : ℕ)
      → AllByRecursion Quiet (call_step calls state (Some (event, User c)) now).1
      → counted (call_step calls state (Some (event, User c)) now).1 ≤ 0
  command_counted calls state event c now quiet =
      let outs = (call_step calls state (Some (event, User c)) now).1 in
      let told = told_counted (Some (event, User c)) (told_in outs)
      (told_once calls state (Some (event, User c)) now) in
      omega (arith, told, quiet_counted outs quiet)

  -- Whatever is held: the user is told of an outcome only by an input that brings one, and once.
  pub one_told : (calls : Calls) (state : Option Call) (input : Option CallItem) (now : ℕ)
      → counted (call_step calls state input now).1 ≤ cond (brings_outcome id input) 1 0
  one_told calls None None now = omega arith
  one_told calls (Some call) None now =
      omega (
        arith,
        none_counted (call_step calls (Some call) None now).1
            (subst (λ (taken : Taken). AllByRecursion Untold taken.1)
            (sym (same_step calls (Some call) None now)) (tick_untold call now)),
      )
  one_told calls state (Some (event, Up up)) now =
      up_counted calls state event up now up.kind refl
  one_told calls None (Some (event, User c)) now =
      command_counted calls None event c now
      (subst (λ (taken : Taken). AllByRecursion Quiet taken.1)
      (sym (same_step calls None (Some (event, User c)) now))
      (first_passes Quiet (others.passes_others id true).allows
      (others.passes_others id true).gives_up (new_call calls.local) (event_of calls event now) c))
  one_told calls (Some call) (Some (event, User c)) now =
      command_counted calls (Some call) event c now
      (subst (λ (taken : Taken). AllByRecursion Quiet taken.1)
      (sym (same_step calls (Some call) (Some (event, User c)) now))
      (command_passes Quiet (others.passes_others id true).allows
      (others.passes_others id true).gives_up call (event_of calls event now) c
      (λ respond is. (others.passes_others id true).responds call.served event respond now)))
