-- How often the 2xx to an INVITE goes out.
use Rattle.std.proofs.Common.{◌≡◌, ℕ, suc, ◌+◌, ◌≤◌, ◌<◌, Bool, true, false, not, ◌&&◌, cond, List, [], ◌∷◌, ◌++◌, map, min, nat_le, refl, sym, ap, subst, ◌∙◌, arith, length-append, append_assoc, append-nil}
use Rattle.std.specs.Prelude.{Option, None, Some, Result, Ok, Err, IfSome, count_by, filter, find, flat_map, fold, if◌then◌else◌, is_none, is_some, length, option_map}
use Rattle.std.specs.List.{AllByRecursion, list_any}
use Rattle.std.specs.Option.{option_and_then, option_map_or}
use Rattle.std.proofs.lemmas.Bool.{false≢true, true≢false}
use Rattle.std.proofs.lemmas.List.Sums.{sum_by-append}
use Rattle.std.proofs.lemmas.Slice.Eq.{bytes_eq-Decides}
use Rattle.keyed_machine.specs.Machine.{Timed, due_of, outputs_from, tick_at}
use Rattle.keyed_machine.proofs.Ordered.{by_bool}
use Rattle.sip_message.specs.declared.id.Id.{Id}
use Rattle.sip_message.specs.declared.message.Message.{Message}
use Rattle.sip_message.specs.Written.{written}
use Rattle.sip_message.proofs.SameKeys.{equal_keys}
use Rattle.sip_timers.specs.Earlier.{earlier}
use Rattle.sip_reliable.specs.declared.send_fault.SendFault.{SendFault}
use Rattle.sip_reliable.specs.declared.tick.Tick.{Tick}
use Rattle.sip_reliable.specs.declared.tick.Tick.TheVariants as tick
use Rattle.sip_reliable.specs.Ledger.{send_answer, tick_answer}
use Rattle.sip_reliable.specs.Provisional.{due_moment}
use Rattle.sip_transactions.specs.declared.input.Command.TheVariants.{Answer}
use Rattle.sip_transactions.specs.declared.output.Up.{Up}
use Rattle.sip_transactions.specs.declared.step.Pace.TheVariants.{Capped}
use Rattle.sip_transactions.specs.Rules.Timers.{interval}
use Rattle.sip_user.specs.declared.command.Respond.{Respond as AnAnswer}
use Rattle.sip_user.specs.declared.command.UserCommand.TheVariants.{Respond}
use Rattle.sip_user.specs.declared.item.CallOut.{CallOut}
use Rattle.sip_user.specs.declared.item.CallOut.TheVariants.{Command}
use Rattle.sip_user.specs.declared.item.Item.{Item}
use Rattle.sip_user.specs.declared.item.Item.TheVariants as item
use Rattle.sip_held_dialogs.proofs.Heard.{id_laws}
use Rattle.sip_held_dialogs.specs.Requests.{is_final, is_invite, is_success}
use Rattle.sip_served.specs.declared.held_request.HeldRequest.{HeldRequest}
use Rattle.sip_served.specs.declared.held_request.Success.{Success}
use Rattle.sip_served.specs.RequestLife.{RequestHappening, EndsSuccess, Finishes, GivesUpProvisionals, MakesDialog, RepeatsProvisionals, RepeatsSuccess, SendsReliably, TakesPrack}
use Rattle.sip_served.specs.Respond.{answer_noted, answer_to, answers, by_refusal, by_request, is_sent_reliably, makes, makes_dialog, refusal_for, sends_as}
use Rattle.sip_served.specs.declared.held_request.SuccessEnd.{SuccessEnd}
use Rattle.sip_served.specs.declared.held_request.SuccessEnd.TheVariants.{GivenUp}
use Rattle.sip_served.specs.Rules.Ticks.{moments_of, server_due, success_due}
use Rattle.sip_served.specs.State.{has_id}
use Rattle.sip_served.specs.Story.{RequestStory, SuccessStory, goes_on, next_sending, request_of, success_by, success_of}
use Rattle.sip_served.proofs.Reading.{fold_on}
use Rattle.sip_user.specs.declared.refusal.Refusal.{Refusal}
use Rattle.sip_transactions.proofs.RowFacts.{and-right}
use Rattle.sip_agent_laws.proofs.agents.Lists.{both}
use Rattle.sip_served.specs.Telling.{Stories, answer_told, event_told, happens_to}
use Rattle.sip_served.specs.Tick.{is_kept_at, provisionals_go, request_passes, success_passes}
use Rattle.sip_calls.specs.declared.call.Call.{Call}
use Rattle.sip_calls.specs.declared.calls.Calls.{Calls}
use Rattle.sip_clients.specs.Rules.Ends.{client_due}
use Rattle.sip_calls.specs.Call.{CallItem, Taken, call_due, call_machine, call_step}
use Rattle.sip_calls.specs.HeldRequests.{requests_held}
use Rattle.sip_calls.specs.Histories.{call_from}
use Rattle.sip_calls.specs.RequestHistories.{served_event, served_state, stories_from, stories_of}
use Rattle.sip_calls.specs.Sides.{holds_any}
use Rattle.sip_calls.proofs.RequestHistories.{holds_its_stories}
use Rattle.sip_calls.proofs.SameSteps.{same_step}
use Rattle.sip_agent_laws.specs.Calls.Commanded.{is_notice}
use Rattle.sip_agent_laws.specs.Repeats.HowOften.{EachSuccessIsRepeated, is_answer, success_in, times_given}
use Rattle.sip_agent_laws.specs.Repeats.Repeats.{responses_to}
use Rattle.sip_agent_laws.specs.Repeats.Stories.{is_repeat, sent_by}
use Rattle.sip_agent_laws.specs.Transactions.Copies.{AreInTime, IsInTime, latest_repeat}
use Rattle.sip_agent_laws.proofs.calls.AtRest.{from_both}
use Rattle.sip_agent_laws.proofs.repeats.Stories.{held_sent, sent_to}
use Rattle.sip_agent_laws.proofs.repeats.Telling.{is_2xx, kind_so}
use Rattle.sip_agent_laws.proofs.transactions.Often.{as_often, or_false}

-- ---- what is due comes in time

-- a moment, if there is one, was at most `lag` ms ago
abbrev Timely : ℕ → ℕ → Option ℕ → Type 0
Timely now lag due = IfSome due (λ moment. now ≤ moment + lag)

module _ (now lag : ℕ) where
  both_timely : (a b : Option ℕ) → Timely now lag (earlier a b)
      → Timely now lag a × Timely now lag b
  both_timely None b timely = (tt, timely)
  both_timely (Some a) None timely = (timely, tt)
  both_timely (Some a) (Some b) timely = (omega (arith, timely), omega (arith, timely))

  each_timely : (dues : List (Option ℕ)) (a : Option ℕ) → Timely now lag (fold earlier a dues)
      → Timely now lag a × AllByRecursion (Timely now lag) dues
  each_timely [] a timely = (timely, tt)
  each_timely (b ∷ dues) a timely =
      let rest = each_timely dues (earlier a b) timely in
      let two = both_timely a b rest.0 in (two.0, (two.1, rest.1))

  -- the repeat of the 2xx of a request
  abbrev IsTimely : HeldRequest → Type 0
  IsTimely held = IfSome held.success (λ success.
      is_none success.over ≡ true → now ≤ success.retransmission.due + lag)

  by_over : (success : Success) (over : Option SuccessEnd)
      → Timely now lag (if is_some over then None
      else Some (min success.end success.retransmission.due))
      → is_none over ≡ true → now ≤ success.retransmission.due + lag
  by_over success None timely waits = omega (arith, timely)
  by_over success (Some end) timely waits = absurd (false≢true waits)

  by_success : (o : Option Success) → Timely now lag (option_and_then success_due o)
      → IfSome o (λ success.
      is_none success.over ≡ true → now ≤ success.retransmission.due + lag)
  by_success None timely = tt
  by_success (Some success) timely = by_over success success.over timely

  all_later : (xs ys : List (Option ℕ)) → AllByRecursion (Timely now lag) (xs ++ ys)
      → AllByRecursion (Timely now lag) ys
  all_later [] ys all = all
  all_later (x ∷ xs) ys all = all_later xs ys all.1

  each_request : (requests : List HeldRequest)
      → AllByRecursion (Timely now lag) (flat_map moments_of requests)
      → AllByRecursion IsTimely requests
  each_request [] all = tt
  each_request (held ∷ requests) all = (
    by_success held.success all.1.0,
    each_request requests (all_later (if held.ledger.closed then []
        else map due_moment held.ledger.waiting) (flat_map moments_of requests) all.1.1),
  )

  any_time : now ≤ lag → (o : Option Success) → IfSome o (λ success.
      is_none success.over ≡ true → now ≤ success.retransmission.due + lag)
  any_time soon None = tt
  any_time soon (Some success) = λ waits. omega (arith, soon)

  any_request : now ≤ lag → (requests : List HeldRequest) → AllByRecursion IsTimely requests
  any_request soon [] = tt
  any_request soon (held ∷ requests) =
      (any_time soon held.success, any_request soon requests)

  call_timely : (call : Call) → Timely now lag (call_due call)
      → AllByRecursion IsTimely (call.served).requests
  unfolding server_due
  call_timely call timely =
      let server = fold earlier None (flat_map moments_of (call.served).requests) in
      let client = client_due call.clients in
      by_bool (holds_any call)
      (λ e. each_request (call.served).requests
      (each_timely (flat_map moments_of (call.served).requests) None (both_timely server client
      (subst (λ b. Timely now lag (if b then earlier server client else Some 0)) e timely)).0).1)
      (λ e. any_request (omega (
        arith,
        subst (λ b.
            Timely now lag (if b then earlier server client else Some 0)) e timely,
      ))
      (call.served).requests)

  state_timely : (state : Option Call) → Timely now lag (due_of call_due state)
      → AllByRecursion IsTimely (requests_held state)
  state_timely None timely = tt
  state_timely (Some call) timely = call_timely call timely

-- ---- how often

-- the moment at which it went out last
abbrev last : SuccessStory → ℕ
last success = fold (λ last moment. moment) success.sent success.repeats

abbrev given : HeldRequest → Message → List CallOut → ℕ
given arrival response outs =
    count_by (is_answer arrival.id arrival.key (written response)) outs

-- each repeat came in time, and went out
abbrev IsOften : ℕ → List CallOut → HeldRequest → SuccessStory → Type 0
IsOften lag outs arrival success =
    (last success ≤ success.sent + latest_repeat Capped lag (length success.repeats))
    × (suc (length success.repeats) ≤ given arrival success.response outs)

abbrev Often : ℕ → List CallOut → RequestStory → Type 0
Often lag outs story = IfSome (success_in story) (IsOften lag outs story.arrival)

given_more : (arrival : HeldRequest) (response : Message) (outs more : List CallOut)
    → given arrival response (outs ++ more)
    ≡ given arrival response outs + given arrival response more
given_more arrival response outs more =
    sum_by-append (λ out. cond (is_answer arrival.id arrival.key (written response) out) 1 0) outs
    more

itself : (held : HeldRequest) (response : Message)
    → is_answer held.id held.key (written response) (Command held.id (Answer held.key response))
    ≡ true
itself held response =
    (λ i. id_laws.refl held.id i && equal_keys held.key held.key refl i
    && (bytes_eq-Decides (written response) (written response)).1 refl i)

given_once : (held : HeldRequest) (response : Message) (outs : List CallOut)
    → 1 ≤ given held response (Command held.id (Answer held.key response) ∷ outs)
given_once held response outs =
    let one : given held response (Command held.id (Answer held.key response) ∷ []) ≡ 1 =
    ap (λ b. 0 + cond {A = ℕ} b 1 0) (itself held response) in
    omega (
      arith,
      one,
      given_more held response (Command held.id (Answer held.key response) ∷ [])
          outs,
    )

-- ---- one request

module _ (lag : ℕ) (outs more : List CallOut) (arrival : HeldRequest) where
  still_often : (o : Option SuccessStory) → IfSome o (IsOften lag outs arrival)
      → IfSome o (IsOften lag (outs ++ more) arrival)
  still_often None often = tt
  still_often (Some success) often =
      (often.0, omega (arith, often.1, given_more arrival success.response outs more))

-- something happens that is no repeat and no 2xx
module _ (lag : ℕ) (outs : List CallOut) (arrival : HeldRequest) where
  abbrev So : Option SuccessStory → Type 0
  So o = IfSome o (IsOften lag outs arrival)

  not_2xx : (status : ℕ) → is_success status ≡ false
      → (is_invite arrival.request && is_success status) ≡ true → ⊥
  not_2xx status other both =
      absurd (false≢true (sym other ∙ and-right (is_invite arrival.request) _ both))

  ended_so : (end : SuccessEnd) (o : Option SuccessStory) → So o
      → So (success_by arrival o (EndsSuccess end))
  ended_so end None so = tt
  ended_so end (Some success) so = so

  calm_one : (h : RequestHappening) → is_repeat h ≡ false → is_2xx h ≡ false
      → (o : Option SuccessStory) → So o → So (success_by arrival o h)
  calm_one (MakesDialog life) calm other o so = so
  calm_one (SendsReliably number response now) calm other o so = so
  calm_one (TakesPrack number) calm other o so = so
  calm_one (RepeatsProvisionals numbers now) calm other o so = so
  calm_one (GivesUpProvisionals now) calm other o so = so
  calm_one (Finishes response status now) calm other o so =
      by_bool (is_invite arrival.request && is_success status)
      (λ e. absurd (not_2xx status other e)) (λ e. rw e so)
  calm_one (RepeatsSuccess now) calm other o so = absurd (true≢false calm)
  calm_one (EndsSuccess end) calm other o so = ended_so end o so

  calm_all : (life : List RequestHappening) → filter is_repeat life ≡ []
      → list_any is_2xx life ≡ false → (o : Option SuccessStory) → So o
      → So (fold (success_by arrival) o life)
  calm_all [] calm other o so = so
  calm_all (h ∷ life) calm other o so =
      let others = or_false (is_2xx h) (list_any is_2xx life) other in
      by_bool (is_repeat h)
      (λ e. absurd (some_kept (sym (ap (λ b. cond b (h ∷ filter is_repeat life)
      (filter is_repeat life)) e) ∙ calm)))
      (λ e. calm_all life (sym (ap (λ b. cond b (h ∷ filter is_repeat life)
      (filter is_repeat life)) e) ∙ calm) others.1 (success_by arrival o h)
      (calm_one h e others.0 o so))
    where
      some_kept : ◌≡◌ {A = List RequestHappening} (h ∷ filter is_repeat life) [] → ⊥
      some_kept e = absurd cc

on_often : (lag : ℕ) (outs : List CallOut) (story : RequestStory) (more : List RequestHappening)
    → So lag outs story.arrival (fold (success_by story.arrival) (success_in story) more)
    → Often lag outs (goes_on more story)
on_often lag outs story more so =
    subst (So lag outs story.arrival)
    (sym (fold_on (success_by story.arrival) None story.life more)) so

module _ (lag : ℕ) (outs : List CallOut) where
  happens_often : (id : Id) (more : List RequestHappening) → filter is_repeat more ≡ []
      → list_any is_2xx more ≡ false → (stories : Stories) → AllByRecursion (Often lag outs) stories
      → AllByRecursion (Often lag outs) (happens_to id more stories)
  happens_often id more calm other [] all = tt
  happens_often id more calm other (story ∷ stories) all =
      by_bool (has_id id story.arrival)
      (λ e. rw e (
        on_often lag outs story more
            (calm_all lag outs story.arrival more calm other (success_in story) all.0),
        all.1,
      ))
      (λ e. rw e (all.0, happens_often id more calm other stories all.1))

  -- ---- an answer of the user

  module _ (event : Id) (r : AnAnswer) (now : ℕ) (held : HeldRequest) (response : Message)
      (enough : 1 ≤ given held response outs) where
    abbrev life : List RequestHappening
    life = makes event held r.status ++ answers held r.status r.reliability response now

    module _ (arrival : HeldRequest) (same : arrival.id ≡ held.id) (own : arrival.key ≡ held.key)
      where
        makes_so : (o : Option SuccessStory) → So lag outs arrival o
            → So lag outs arrival (fold (success_by arrival) o (makes event held r.status))
        makes_so o so = by_bool (makes_dialog held r.status) (λ e. rw e so) (λ e. rw e so)

        sends_so : (number : Result ℕ SendFault) (o : Option SuccessStory) → So lag outs arrival o
            → So lag outs arrival
            (fold (success_by arrival) o (sends_as number response now))
        sends_so (Ok number) o so = so
        sends_so (Err fault) o so = so

        finishes_so : (o : Option SuccessStory) → So lag outs arrival o
            → So lag outs arrival (success_by arrival o (Finishes response r.status now))
        finishes_so o so =
            by_bool (is_invite arrival.request && is_success r.status)
            (λ e. rw e (
              omega arith,
              subst (λ id. 1 ≤ count_by (is_answer id arrival.key
                  (written response)) outs) (sym same) (subst (λ key. 1 ≤ count_by (is_answer held.id key
                  (written response)) outs) (sym own) enough),
            )) (λ e. rw e so)

        answers_so : (o : Option SuccessStory) → So lag outs arrival o
            → So lag outs arrival (fold (success_by arrival) o
            (answers held r.status r.reliability response now))
        answers_so o so =
            by_bool (is_sent_reliably held r.status r.reliability)
            (λ e. rw e (sends_so (send_answer held.ledger) o so))
            (λ e. by_bool (is_final r.status) (λ f. rw (e, f) (finishes_so o so))
            (λ f. rw (e, f) so))

        life_so : (o : Option SuccessStory) → So lag outs arrival o
            → So lag outs arrival (fold (success_by arrival) o life)
        life_so o so =
            subst (So lag outs arrival) (sym (fold_on (success_by arrival) o
            (makes event held r.status) (answers held r.status r.reliability response now)))
            (answers_so (fold (success_by arrival) o (makes event held r.status)) (makes_so o so))

    first_often : (stories : Stories) → find (has_id r.id) (map request_of stories) ≡ Some held
        → AllByRecursion (Often lag outs) stories
        → AllByRecursion (Often lag outs) (happens_to r.id life stories)
    first_often [] found all = tt
    first_often (story ∷ stories) found all =
        by_bool (has_id r.id story.arrival)
        (λ e. let is : request_of story ≡ held =
        some_same (sym (ap (λ b. cond b (Some (request_of story))
        (find (has_id r.id) (map request_of stories))) e) ∙ found) in
        rw e (
          on_often lag outs story life
              (life_so story.arrival (ap (λ (h : HeldRequest). h.id) is)
              (ap (λ (h : HeldRequest). h.key) is) (success_in story) all.0),
          all.1,
        ))
        (λ e. rw e (
          all.0,
          first_often stories (sym (ap (λ b. cond b (Some (request_of story))
              (find (has_id r.id) (map request_of stories))) e) ∙ found) all.1,
        ))
      where
        some_same : Some (request_of story) ≡ Some held → request_of story ≡ held
        some_same e = cc

-- ---- a tick of one request

none_by_provisionals : (arrival : HeldRequest) (t : Tick) (now : ℕ) (o : Option SuccessStory)
    → fold (success_by arrival) o (provisionals_go t now) ≡ o
none_by_provisionals arrival tick.Nothing now o = refl
none_by_provisionals arrival (tick.Again numbers) now o = refl
none_by_provisionals arrival tick.GivenUp now o = refl

module _ (lag now : ℕ) (outs more : List CallOut) (story : RequestStory) where
  abbrev held_with : Option SuccessStory → HeldRequest
  held_with o = record (request_of story) { success = option_map success_of o }

  abbrev of_provisionals : List RequestHappening
  of_provisionals = provisionals_go (tick_answer (request_of story).ledger now) now

  -- all that it sends is among what goes out
  abbrev Counted : HeldRequest → List RequestHappening → Type 0
  Counted held passes = (response : Message)
      → given story.arrival response
      (responses_to held (flat_map (sent_by held) passes))
      ≤ given story.arrival response more

  abbrev After : Option SuccessStory → List RequestHappening → Type 0
  After o passes = So lag (outs ++ more) story.arrival (fold (success_by story.arrival) o passes)

  repeated : (success : SuccessStory) → IsOften lag outs story.arrival success
      → now ≤ last success + interval Capped (length success.repeats) + lag
      → Counted (held_with (Some success)) (RepeatsSuccess now ∷ of_provisionals)
      → IsOften lag (outs ++ more) story.arrival
      (record success { repeats = success.repeats ++ now ∷ [] })
  repeated success often soon counted =
      let n = length success.repeats in
      let longer : length (success.repeats ++ now ∷ []) ≡ suc n =
      length-append success.repeats (now ∷ []) ∙ omega arith in
      let at : last (record success { repeats = success.repeats ++ now ∷ [] }) ≡ now =
      fold_on (λ last moment. moment) success.sent success.repeats (now ∷ []) in
      let once = given_once story.arrival success.response (responses_to (held_with (Some success))
      (flat_map (sent_by (held_with (Some success))) of_provisionals)) in (
        subst (λ m. last (record success { repeats = success.repeats ++ now ∷ [] })
            ≤ success.sent + latest_repeat Capped lag m) (sym longer)
            (subst (λ l. l ≤ success.sent + latest_repeat Capped lag (suc n)) (sym at)
            (omega (arith, soon, often.0))),
        subst (λ m. suc m ≤ given story.arrival success.response (outs ++ more)) (sym longer)
            (omega (
              arith,
              often.1,
              once,
              counted success.response,
              given_more story.arrival success.response outs more,
            )),
      )

  -- by what happens to the 2xx
  module _ (success : SuccessStory) where
    abbrev By : List RequestHappening → Type 0
    By passes = Counted (held_with (Some success)) (passes ++ of_provisionals)
        → After (Some success) (passes ++ of_provisionals)

    nothing : IsOften lag outs story.arrival success → By []
    nothing often counted =
        subst (So lag (outs ++ more) story.arrival)
        (sym (none_by_provisionals story.arrival _ now (Some success)))
        (still_often lag outs more story.arrival (Some success) often)

    ends : IsOften lag outs story.arrival success → (end : SuccessEnd)
        → By (EndsSuccess end ∷ [])
    ends often end counted =
        subst (So lag (outs ++ more) story.arrival)
        (sym (none_by_provisionals story.arrival _ now
        (Some (record success { over = Some end }))))
        (still_often lag outs more story.arrival (Some success) often)

    again : IsOften lag outs story.arrival success
        → now ≤ last success + interval Capped (length success.repeats) + lag
        → By (RepeatsSuccess now ∷ [])
    again often soon counted =
        subst (So lag (outs ++ more) story.arrival)
        (sym (none_by_provisionals story.arrival _ now
        (Some (record success { repeats = success.repeats ++ now ∷ [] }))))
        (repeated success often soon counted)

  of_success : (success : SuccessStory) (over : Option SuccessEnd)
      → let given = record success { over = over } in IsOften lag outs story.arrival given
      → (is_none over ≡ true → now ≤ last success + interval Capped (length success.repeats) + lag)
      → By given (success_passes now (Some (success_of given)))
  of_success success (Some end) often soon = nothing (record success { over = Some end }) often
  of_success success None often soon =
      let waiting : SuccessStory = record success { over = None } in
      by_bool (nat_le (success_of waiting).end now) (λ e. rw e (ends waiting often GivenUp))
      (λ e. by_bool (nat_le (next_sending waiting).due now)
      (λ f. rw (e, f) (again waiting often (soon refl))) (λ f. rw (e, f) (nothing waiting often)))

  by_success_story : (o : Option SuccessStory) → IfSome o (IsOften lag outs story.arrival)
      → IsTimely now lag (held_with o)
      → Counted (held_with o) (request_passes now (held_with o))
      → After o (request_passes now (held_with o))
  by_success_story None often timely counted =
      subst (So lag (outs ++ more) story.arrival)
      (sym (none_by_provisionals story.arrival _ now None)) tt
  by_success_story (Some success) often timely counted =
      of_success success success.over often timely counted

  ticked_often : Often lag outs story → IsTimely now lag (request_of story)
      → Counted (request_of story) (request_passes now (request_of story))
      → Often lag (outs ++ more) (goes_on (request_passes now (request_of story)) story)
  ticked_often often timely counted =
      on_often lag (outs ++ more) story (request_passes now (request_of story))
      (by_success_story (success_in story) often timely counted)

-- ---- all that goes out at a tick

kept_step : (p q : CallOut → Bool) (x : CallOut) (xs kept : List CallOut) (b : Bool)
    → count_by p kept ≤ count_by p xs → count_by p (cond b (x ∷ kept) kept) ≤ count_by p (x ∷ xs)
kept_step p q x xs kept true fewer =
    let one = sum_by-append (λ y. cond {A = ℕ} (p y) 1 0) (x ∷ []) kept in
    let other = sum_by-append (λ y. cond {A = ℕ} (p y) 1 0) (x ∷ []) xs in
    omega (arith, one, other, fewer)
kept_step p q x xs kept false fewer =
    let other = sum_by-append (λ y. cond {A = ℕ} (p y) 1 0) (x ∷ []) xs in
    omega (arith, other, fewer)

fewer_kept : (p q : CallOut → Bool) (xs : List CallOut)
    → count_by p (filter q xs) ≤ count_by p xs
fewer_kept p q [] = omega arith
fewer_kept p q (x ∷ xs) = kept_step p q x xs (filter q xs) (q x) (fewer_kept p q xs)

module _ (lag now : ℕ) (outs more : List CallOut) where
  -- the stories after it
  abbrev on : RequestStory → RequestStory
  on story = goes_on (request_passes now (request_of story)) story

  abbrev left : Stories → Stories
  left stories = filter (λ story. is_kept_at now (request_of story)) (map on stories)

  -- what these send is among what goes out
  abbrev AllCounted : Stories → Type 0
  AllCounted stories = (p : CallOut → Bool)
      → count_by p (flat_map (sent_to now) (map request_of stories)) ≤ count_by p more

  module _ (story : RequestStory) (stories : Stories) (counted : AllCounted (story ∷ stories)) where
    parts : (p : CallOut → Bool)
        → count_by p (flat_map (sent_to now) (map request_of (story ∷ stories)))
        ≡ count_by p (sent_to now (request_of story))
        + count_by p (flat_map (sent_to now) (map request_of stories))
    parts p = sum_by-append (λ y. cond {A = ℕ} (p y) 1 0) (sent_to now (request_of story))
        (flat_map (sent_to now) (map request_of stories))

    first_ticked : IsTimely now lag (request_of story) → Often lag outs story
        → Often lag (outs ++ more) (on story)
    first_ticked timely often =
        ticked_often lag now outs more story often timely (λ response.
        omega (
          arith,
          counted (is_answer story.arrival.id story.arrival.key (written response)),
          parts (is_answer story.arrival.id story.arrival.key (written response)),
        ))

    rest_counted : AllCounted stories
    rest_counted p = omega (arith, counted p, parts p)

    one_left : Often lag (outs ++ more) (on story)
        → AllByRecursion (Often lag (outs ++ more)) (left stories)
        → AllByRecursion (Often lag (outs ++ more)) (left (story ∷ stories))
    one_left first rest =
        by_bool (is_kept_at now (request_of (on story))) (λ e. rw e (first, rest)) (λ e. rw e rest)

  each_ticked : (stories : Stories) → AllCounted stories
      → AllByRecursion (IsTimely now lag) (map request_of stories)
      → AllByRecursion (Often lag outs) stories
      → AllByRecursion (Often lag (outs ++ more)) (left stories)
  each_ticked [] counted timely all = tt
  each_ticked (story ∷ stories) counted timely all =
      one_left story stories counted (first_ticked story stories counted timely.0 all.0)
      (each_ticked stories (rest_counted story stories counted) timely.1 all.1)

-- ---- one input

module _ (calls : Calls) (lag : ℕ) (outs : List CallOut) (state : Option Call) (stories : Stories)
    (told : requests_held state ≡ map request_of stories)
    (all : AllByRecursion (Often lag outs) stories) where
  all_still : (more : List CallOut) → (stories : Stories) → AllByRecursion (Often lag outs) stories
      → AllByRecursion (Often lag (outs ++ more)) stories
  all_still more [] all = tt
  all_still more (story ∷ stories) all =
      (still_often lag outs more story.arrival (success_in story) all.0, all_still more stories all.1)

  tick_often : (now : ℕ) → Timely now lag (due_of call_due state)
      → AllByRecursion (Often lag (outs ++ (call_step calls state None now).1))
      (event_told (served_state calls state) (served_event calls None now) stories)
  tick_often now timely =
      let more = (call_step calls state None now).1 in
      each_ticked lag now outs more stories
      (λ p. subst (λ sent. count_by p sent ≤ count_by p more)
      (held_sent calls state now ∙ ap (flat_map (sent_to now)) told)
      (fewer_kept p (λ out. not (is_notice out)) more))
      (subst (AllByRecursion (IsTimely now lag)) told (state_timely now lag state timely)) all

  up_often : (id : Id) (up : Up) (now : ℕ) (more : List CallOut)
      → AllByRecursion (Often lag (outs ++ more))
      (event_told (served_state calls state) (served_event calls (Some (id, item.Up up)) now) stories)
  up_often id up now more =
      let still = all_still more stories all in
      kind_so (AllByRecursion (Often lag (outs ++ more))) (served_state calls state) stories still
      (λ id life calm other. happens_often lag (outs ++ more) id life calm other stories still)
      (λ arrival. both (Often lag (outs ++ more)) stories
      (record { arrival = arrival; life = [] } ∷ []) still (tt, tt)) _ up up.kind now

  -- the answer that the user gives goes out
  module _ (call : Call) (id : Id) (r : AnAnswer) (now : ℕ) (held : HeldRequest)
      (found : find (has_id r.id) (call.served).requests ≡ Some held)
      (allowed : refusal_for (call.served).dialogs r held ≡ None) where
    abbrev response : Message
    response = answer_to (call.served).local held r

    given_out : 1 ≤ given held response
        (call_step calls (Some call) (Some (id, item.User (Respond r))) now).1
    given_out =
        subst (λ more. 1 ≤ given held response more)
        (sym (ap (λ (taken : Taken). taken.1)
        (same_step calls (Some call) (Some (id, item.User (Respond r))) now)
        ∙ ap (λ o. (by_request call.served id r now o).1) found
        ∙ ap (λ o. (by_refusal call.served id r now held o).1) allowed))
        (given_once held response (answer_noted call.served r.id id r.status r.reliability response
        now held).1)

  respond_often : (id : Id) (r : AnAnswer) (now : ℕ)
      → AllByRecursion
      (Often lag (outs ++ (call_step calls state (Some (id, item.User (Respond r))) now).1))
      (event_told (served_state calls state)
      (served_event calls (Some (id, item.User (Respond r))) now) stories)
  respond_often id r now = by_state state told
    where
      by_state : (s : Option Call) → requests_held s ≡ map request_of stories
          → AllByRecursion
          (Often lag (outs ++ (call_step calls s (Some (id, item.User (Respond r))) now).1))
          (event_told (served_state calls s)
          (served_event calls (Some (id, item.User (Respond r))) now) stories)
      by_state None none =
          all_still (call_step calls None (Some (id, item.User (Respond r))) now).1 stories all
      by_state (Some call) are =
          by_found (find (has_id r.id) (call.served).requests) refl
        where
          more : List CallOut
          more = (call_step calls (Some call) (Some (id, item.User (Respond r))) now).1

          by_refused : (held : HeldRequest) → find (has_id r.id) (call.served).requests ≡ Some held
              → (o : Option Refusal) → refusal_for (call.served).dialogs r held ≡ o
              → AllByRecursion (Often lag (outs ++ more)) (answer_told call.served id r now stories held)
          by_refused held found (Some refusal) why =
              let refused : is_some (refusal_for (call.served).dialogs r held) ≡ true = ap is_some why in
              rw refused (all_still more stories all)
          by_refused held found None why =
              let allowed : is_some (refusal_for (call.served).dialogs r held) ≡ false = ap is_some why in
              rw allowed (first_often lag (outs ++ more) id r now held
              (answer_to (call.served).local held r)
              (omega (
                arith,
                given_out call id r now held found why,
                given_more held (answer_to (call.served).local held r) outs more,
              ))
              stories (sym (ap (find (has_id r.id)) are) ∙ found) (all_still more stories all))

          by_found : (o : Option HeldRequest) → find (has_id r.id) (call.served).requests ≡ o
              → AllByRecursion (Often lag (outs ++ more))
              (option_map_or (answer_told call.served id r now stories) o stories)
          by_found None found = all_still more stories all
          by_found (Some held) found =
              by_refused held found (refusal_for (call.served).dialogs r held) refl

  item_often : (id : Id) (it : Item) (now : ℕ)
      → AllByRecursion (Often lag (outs ++ (call_step calls state (Some (id, it)) now).1))
      (event_told (served_state calls state) (served_event calls (Some (id, it)) now) stories)
  item_often id (item.Up up) now =
      up_often id up now (call_step calls state (Some (id, item.Up up)) now).1
  item_often id (item.User (Respond r)) now = respond_often id r now
  item_often id (item.User c) now =
      all_still (call_step calls state (Some (id, item.User c)) now).1 stories all

  input_often : (timed : Timed CallItem) → IsInTime lag (due_of call_due state) timed
      → AllByRecursion (Often lag (outs ++ (call_step calls state timed.input timed.moment).1))
      (event_told (served_state calls state) (served_event calls timed.input timed.moment) stories)
  input_often timed in_time = by_input timed.input in_time
    where
      by_input : (input : Option CallItem)
          → (input ≡ None → Timely timed.moment lag (due_of call_due state))
          → AllByRecursion (Often lag (outs ++ (call_step calls state input timed.moment).1))
          (event_told (served_state calls state) (served_event calls input timed.moment) stories)
      by_input None timely = tick_often timed.moment (timely refl)
      by_input (Some (id, it)) timely = item_often id it timed.moment

-- ---- all inputs

module _ (calls : Calls) (call_id : List ℕ) (lag : ℕ) where
  stories_both : (first second : List (Timed CallItem)) (state : Option Call) (stories : Stories)
      → stories_from calls state stories (first ++ second)
      ≡ stories_from calls (call_from calls state first) (stories_from calls state stories first)
      second
  stories_both [] second state stories = refl
  stories_both (timed ∷ first) second state stories =
      stories_both first second (call_step calls state timed.input timed.moment).0
      (event_told (served_state calls state) (served_event calls timed.input timed.moment) stories)

  abbrev outs_from : Option Call → List (Timed CallItem) → List CallOut
  outs_from state inputs = outputs_from (call_machine calls) call_id state inputs

  outs_both : (first second : List (Timed CallItem)) (state : Option Call)
      → outs_from state (first ++ second)
      ≡ outs_from state first ++ outs_from (call_from calls state first) second
  outs_both [] second state = refl
  outs_both (timed ∷ first) second state =
      let step = call_step calls state timed.input timed.moment in
      ap (λ more. step.1 ++ more) (outs_both first second step.0)
      ∙ sym (append_assoc step.1 (outs_from step.0 first)
      (outs_from (call_from calls step.0 first) second))

  abbrev AllOften : List (Timed CallItem) → Type 0
  AllOften inputs = AllByRecursion (Often lag (outs_from None inputs)) (stories_of calls inputs)

  one_more : (before : List (Timed CallItem)) (timed : Timed CallItem)
      → IsInTime lag (due_of call_due (call_from calls None before)) timed → AllOften before
      → AllOften (before ++ timed ∷ [])
  one_more before timed in_time all =
      let state = call_from calls None before in
      let step = call_step calls state timed.input timed.moment in
      subst (λ stories. AllByRecursion (Often lag (outs_from None (before ++ timed ∷ []))) stories)
      (sym (stories_both before (timed ∷ []) None []))
      (subst (λ outs. AllByRecursion (Often lag outs)
      (event_told (served_state calls state) (served_event calls timed.input timed.moment)
      (stories_of calls before)))
      (sym (outs_both before (timed ∷ []) None
      ∙ ap (λ more. outs_from None before ++ more) (append-nil step.1)))
      (input_often calls lag (outs_from None before) state (stories_of calls before)
      (holds_its_stories calls before) all timed in_time))

  module _ (repeats end : ℕ) where
    abbrev Law : List CallOut → RequestStory → Type 0
    Law outs story = IfSome (success_in story) (λ success.
        is_none success.over ≡ true → success.sent + latest_repeat Capped lag repeats < end
        → suc repeats ≤ times_given story success outs)

    one_law : (outs : List CallOut) (story : RequestStory) (o : Option SuccessStory)
        → IfSome o (IsOften lag outs story.arrival)
        → IfSome (option_map success_of o) (λ success.
        is_none success.over ≡ true → end ≤ success.retransmission.due + lag)
        → IfSome o (λ success.
        is_none success.over ≡ true → success.sent + latest_repeat Capped lag repeats < end
        → suc repeats ≤ times_given story success outs)
    one_law outs story None often timely = tt
    one_law outs story (Some success) often timely = λ waits late.
        let n = length success.repeats in
        let fewer : repeats ≤ n =
        as_often Capped lag repeats n (omega (arith, timely waits, often.0, late)) in
        omega (arith, fewer, often.1)

    each_law : (outs : List CallOut) (stories : Stories) → AllByRecursion (Often lag outs) stories
        → AllByRecursion (IsTimely end lag) (map request_of stories)
        → AllByRecursion (Law outs) stories
    each_law outs [] all timely = tt
    each_law outs (story ∷ stories) all timely =
        (one_law outs story (success_in story) all.0 timely.0, each_law outs stories all.1 timely.1)

    abbrev Laws : List (Timed CallItem) → Type 0
    Laws inputs = AllByRecursion (Law (outs_from None inputs)) (stories_of calls inputs)

    from : (inputs before : List (Timed CallItem)) → AllOften before
        → AreInTime (call_machine calls) call_due lag call_id (call_from calls None before)
        (inputs ++ tick_at end ∷ [])
        → Laws (before ++ inputs)
    from [] before all in_time =
        subst Laws (sym (append-nil before))
        (each_law (outs_from None before) (stories_of calls before) all
        (subst (AllByRecursion (IsTimely end lag)) (holds_its_stories calls before)
        (state_timely end lag (call_from calls None before) (in_time.0 refl))))
    from (timed ∷ inputs) before all in_time =
        subst Laws (append_assoc before (timed ∷ []) inputs)
        (from inputs (before ++ timed ∷ []) (one_more before timed in_time.0 all)
        (subst (λ state. AreInTime (call_machine calls) call_due lag call_id state
        (inputs ++ tick_at end ∷ [])) (sym (from_both calls before (timed ∷ []) None)) in_time.1))

pub each_success_is_repeated : EachSuccessIsRepeated
each_success_is_repeated calls call_id inputs lag repeats end in_time =
    from calls call_id lag repeats end inputs [] tt in_time
