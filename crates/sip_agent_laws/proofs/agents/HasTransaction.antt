-- Each held request of the peer without a final response has its transaction, under its id; and one
-- whose 2xx is still sent again has it until the end of both.
use Rattle.std.proofs.Common.{◌≡◌, ◌⊎◌, inl, inr, ⊎_elim, ℕ, ◌+◌, suc, true, false, cond, List, [], ◌∷◌, ◌++◌, refl, sym, ap, ◌∙◌, append-nil, append_assoc, subst, arith}
use Rattle.std.specs.Prelude.{nat_le, nat_lt, Option, None, Some, filter, filter_map}
use Rattle.std.specs.BTreeMap.{is_at}
use Rattle.std.specs.List.{AllByRecursion, cons_option}
use Rattle.std.specs.List.Sorted.{IsStrictlySortedBy}
use Rattle.std.specs.Option.{option_map_or}
use Rattle.std.proofs.lemmas.Bool.{false≢true}
use Rattle.std.proofs.lemmas.Cmp.{nat_list_cmp_total}
use Rattle.std.proofs.lemmas.Grind.{common_steps}
use Rattle.std.proofs.lemmas.List.Elements.{filter_map-append}
use Rattle.std.proofs.lemmas.Map.Lookups.{exact_bytes}
use Rattle.sip_message.specs.Key.{key_cmp, keys_total}
use Rattle.sip_message.specs.declared.id.Id.{Id}
use Rattle.sip_message.specs.declared.key.Key.{Key}
use Rattle.sip_message.specs.declared.message.Message.{Message}
use Rattle.sip_timers.specs.declared.estimate.TheConstants.{LIFETIME}
use Rattle.keyed_machine.specs.declared.item.Item as model
use Rattle.keyed_machine.specs.Groups.{speaks}
use Rattle.keyed_machine.specs.Machine.{Timed, adds, given_at, next, tick_at}
use Rattle.keyed_machine.specs.Phase.{inputs_of, keys_of_phases, states_then, timed_items}
use Rattle.keyed_machine.proofs.Ordered.{by_bool, exact_at, is_at_itself}
use Rattle.std.specs.declared.cmp.Ordering.TheVariants.{Less}
use Rattle.sip_transactions.specs.Ids.{IdsRise, id_cmp}
use Rattle.sip_transactions.specs.declared.input.Command.{Command}
use Rattle.sip_transactions.specs.declared.input.Command.TheVariants as order
use Rattle.sip_transactions.specs.declared.life.Life.{Life}
use Rattle.sip_transactions.specs.declared.output.DropReason.{DropReason}
use Rattle.sip_transactions.specs.declared.output.Out.{Out}
use Rattle.sip_transactions.specs.declared.output.Out.TheVariants as out
use Rattle.sip_transactions.specs.declared.output.UpKind.{UpKind}
use Rattle.sip_transactions.specs.declared.output.UpKind.TheVariants as kind
use Rattle.sip_transactions.specs.Machine.{transaction_machine}
use Rattle.sip_transactions.specs.Rules.Step.{step_at}
use Rattle.sip_transactions.specs.Shard.{asked_by, command_key}
use Rattle.sip_transactions.specs.Steps.Input.{role_of}
use Rattle.sip_user.specs.Command.{call_of_item}
use Rattle.sip_user.specs.declared.item.CallOut.{CallOut}
use Rattle.sip_user.specs.declared.item.CallOut.TheVariants as call_out
use Rattle.sip_user.specs.declared.item.Item.{Item}
use Rattle.sip_user.specs.declared.item.Item.TheVariants.{Up, User}
use Rattle.sip_served.specs.declared.held_request.HeldRequest.{HeldRequest}
use Rattle.sip_served.specs.declared.held_request.Success.{Success}
use Rattle.sip_calls.specs.declared.call.Call.{Call}
use Rattle.sip_calls.specs.declared.calls.Calls.{Calls}
use Rattle.sip_calls.specs.Call.{CallItem, call_machine, call_step}
use Rattle.sip_calls.specs.CallShard.{call_cmp}
use Rattle.sip_calls.specs.HeldById.{RequestsRise}
use Rattle.sip_calls.specs.HeldRequests.{request_brought, requests_held}
use Rattle.sip_calls.specs.Histories.{call_from}
use Rattle.sip_calls.proofs.HeldById.{held_by_id}
use Rattle.sip_round.specs.declared.config.Config.{Config}
use Rattle.sip_round.specs.declared.round.Round.{Round}
use Rattle.sip_round.specs.Answers.{Past, calls_of, no_past, past_after}
use Rattle.sip_round.specs.Outputs.{joined}
use Rattle.sip_round.specs.Phases.{call_items, transaction_items}
use Rattle.sip_agent_laws.proofs.agents.CallServes.{IsSentAgain, Spares, came_with, item_serves, item_spares, tick_from, tick_gives}
use Rattle.sip_agent_laws.proofs.agents.Commands.{ordered, run, orders, run_keeps, ordered_keeps}
use Rattle.sip_agent_laws.proofs.agents.Idle.{IsReport, all_joined, tick_reports}
use Rattle.sip_agent_laws.proofs.agents.Items.{ItemIs, items_all}
use Rattle.sip_agent_laws.proofs.agents.Linked.{after_is, calls_after_is, calls_in, calls_ticked, came_in, first_items, first_told, given_is, items, items_are, lives_between, lives_in, lives_ticked, no_events, second_items, second_ticks}
use Rattle.sip_agent_laws.proofs.agents.Lists.{Among, among_left, among_right, each_of, flat_among, mapped_among, same_some}
use Rattle.sip_agent_laws.proofs.agents.OpenLives.{is_server}
use Rattle.sip_agent_laws.proofs.agents.SecondPhase.{CallItems, CallStates, after_item, among_orders, here, in_parts, says}
use Rattle.sip_agent_laws.proofs.agents.ServedFrom.{AreEarly, Goes, IsAnswered, IsEarly, IsNew, Serves}
use Rattle.sip_agent_laws.proofs.agents.ServerLives.{AreOpen, Opens, Outlasts, Shuts, UpOpens, answered_on, arrival_outlasts, never_both, open_on, open_then, serves_open, serves_shut, shut_on, ups_open}
use Rattle.sip_agent_laws.proofs.agents.ServedHeld.{less_itself}
use Rattle.sip_agent_laws.proofs.agents.Sound.{Behind, after_one, behind_rise, first_rise, one_more, own_first, own_other}
use Rattle.sip_agent_laws.proofs.agents.FirstPhase.{kept_then}

-- ---- what a held request has

-- It has its transaction: without a final response under its id, and with a 2xx that is still sent
-- again until the moment at which both end, unless that is over.
pub record Has (IsOver : ℕ → Type 0) (k : Key) (life : Option Life) (call_id : List ℕ)
    (held : HeldRequest) : Type 0 where
  pub opens : held.removal ≡ None → Opens k call_id held.id life
  pub shuts : (success : Success) → held.success ≡ Some success → success.over ≡ None
      → (held.removal ≡ Some success.end) × (IsOver success.end ⊎ Shuts k success.end life)
  pub early : AreEarly held

abbrev pub Never : ℕ → Type 0
Never end = ⊥

abbrev pub HaveTransactions : Config → Past → Type 0
HaveTransactions config past = (call_id : List ℕ) (held : HeldRequest)
    → Among (requests_held (calls_in config past call_id)) held
    → Has Never held.key (lives_in past held.key) call_id held

no_moment : {moment : ℕ} {o : Option ℕ} → o ≡ Some moment → o ≡ None → ⊥
no_moment some none = absurd cc

-- ---- commands, one after another

module _ (k : Key) (now : ℕ) where
  -- what is asked of it leaves it open
  abbrev pub Leaves : Command → Type 0
  Leaves (order.Start key call_id message to) = Unit {0}
  Leaves (order.Answer key message) = key ≡ k → IsEarly message
  Leaves (order.Abandon key) = key ≡ k → ⊥

  -- or doesn't end it
  abbrev pub IsSpared : Command → Type 0
  IsSpared (order.Start key call_id message to) = Unit {0}
  IsSpared (order.Answer key message) = Unit {0}
  IsSpared (order.Abandon key) = key ≡ k → ⊥

  open_ordered : (call_id : List ℕ) (id : Id) (held : Option Life) (own : Id) (c : Command)
      → Leaves c → Opens k call_id id held → Opens k call_id id (ordered k now held (own, c))
  open_ordered call_id id held own c leaves opens =
      ordered_keeps k now (Opens k call_id id) held own c (λ same. by c leaves same) opens
    where
      by : (c : Command) → Leaves c → command_key c ≡ k
          → Opens k call_id id (step_at k held now (Some (asked_by own c))).0
      by (order.Start key of message to) leaves same = open_on k call_id id held now _ tt opens
      by (order.Answer key message) leaves same =
          open_on k call_id id held now _ (leaves same) opens
      by (order.Abandon key) leaves same = absurd (leaves same)

  shut_ordered : (end : ℕ) (held : Option Life) (own : Id) (c : Command) → IsSpared c
      → Shuts k end held → Shuts k end (ordered k now held (own, c))
  shut_ordered end held own c spared shuts =
      ordered_keeps k now (Shuts k end) held own c (λ same. by c spared same) shuts
    where
      by : (c : Command) → IsSpared c → command_key c ≡ k
          → Shuts k end (step_at k held now (Some (asked_by own c))).0
      by (order.Start key of message to) spared same = shut_on k end held now _ tt shuts
      by (order.Answer key message) spared same = shut_on k end held now _ tt shuts
      by (order.Abandon key) spared same = absurd (spared same)

  pub run_open : (call_id : List ℕ) (id : Id) (outs : List CallOut)
      → ((own : Id) (c : Command) → Among outs (call_out.Command own c) → Leaves c)
      → (held : Option Life) → Opens k call_id id held
      → Opens k call_id id (run k now held (orders outs))
  run_open call_id id outs leaves =
      run_keeps k now (Opens k call_id id) (orders outs) (λ held own c among. open_ordered call_id id held
      own c (leaves own c (among_orders outs own c among)))

  pub run_shut : (end : ℕ) (outs : List CallOut)
      → ((own : Id) (c : Command) → Among outs (call_out.Command own c) → IsSpared c)
      → (held : Option Life) → Shuts k end held → Shuts k end (run k now held (orders outs))
  run_shut end outs spared =
      run_keeps k now (Shuts k end) (orders outs) (λ held own c among. shut_ordered end held own c
      (spared own c (among_orders outs own c among)))

-- ---- the requests that come to a call

abbrev brought : List (Timed CallItem) → List Id
brought inputs = filter_map (λ timed. request_brought timed.input) inputs

brought_so : (input : Option CallItem) (id : Id) (key : Key) → came_with input ≡ Some (id, key)
    → request_brought input ≡ Some id
brought_so None id key is = absurd cc
brought_so (Some (event, User c)) id key is = absurd cc
brought_so (Some (event, Up up)) id key is = by up.kind is
  where
    by : (its : UpKind) → came_with (Some (event, Up (record up { kind = its }))) ≡ Some (id, key)
        → request_brought (Some (event, Up (record up { kind = its }))) ≡ Some id
    by (kind.Request request reply_to) is =
        let same : (up.id, up.key) ≡ (id, key) = same_some (up.id, up.key) (id, key) is in
        ap (λ (named : Id × Key). Some named.0) same
    by (kind.Ack ack) is = absurd cc
    by (kind.Response response) is = absurd cc
    by kind.Timeout is = absurd cc
    by kind.Failed is = absurd cc

among_cons : (o : Option Id) (rest : List Id) (id : Id) → o ≡ Some id ⊎ Among rest id
    → Among (cons_option o rest) id
among_cons None rest id (inl is) = absurd cc
among_cons None rest id (inr later) = later
among_cons (Some one) rest id (inl is) = inl (same_some one id is)
among_cons (Some one) rest id (inr later) = inr later

-- each request that is held came
module _ (calls : Calls) where
  abbrev AllCame : List (Timed CallItem) → Type 0
  AllCame inputs = (held : HeldRequest)
      → Among (requests_held (call_from calls None inputs)) held → Among (brought inputs) held.id

  module _ (inputs : List (Timed CallItem)) (timed : Timed CallItem)
      (rise : RequestsRise inputs) (came : AllCame inputs) (held : HeldRequest) where
    abbrev call_so_far : Option Call
    call_so_far = call_from calls None inputs

    abbrev stepped_call : Option CallItem → Option Call
    stepped_call input = (call_step calls call_so_far input timed.moment).0

    abbrev HasCome : Type 0
    HasCome = Among (brought inputs ++ brought (timed ∷ [])) held.id

    came_before : (old : HeldRequest) → Among (requests_held call_so_far) old → old.id ≡ held.id → HasCome
    came_before old there same =
        among_left (brought inputs) (brought (timed ∷ [])) held.id
        (subst (λ id. Among (brought inputs) id) same (came old there))

    came_by : (input : Option CallItem) → timed.input ≡ input
        → Among (requests_held (stepped_call input)) held → HasCome
    came_by None is there =
        let from = tick_from calls call_so_far timed.moment [] held there in
        came_before from.0 from.1 from.2.id_is
    came_by (Some (event, item)) is there =
        ⊎_elim
        (λ new. among_right (brought inputs) (brought (timed ∷ [])) held.id
        (among_cons (request_brought timed.input) [] held.id
        (inl (ap request_brought is
        ∙ brought_so (Some (event, item)) held.id held.key new.came_so))))
        (λ old. came_before old.0 old.1 old.2.id_is)
        ((item_serves calls call_so_far event item timed.moment (held_by_id calls inputs rise)).each held
        there)

    one_came : Among (requests_held (call_from calls None (inputs ++ timed ∷ []))) held
        → Among (brought (inputs ++ timed ∷ [])) held.id
    one_came among =
        subst (λ ids. Among ids held.id)
        (sym (filter_map-append (λ (t : Timed CallItem). request_brought t.input) inputs
        (timed ∷ [])))
        (came_by timed.input refl
        (subst (λ c. Among (requests_held c) held) (one_more calls None inputs timed) among))

  all_came : (rest inputs : List (Timed CallItem)) → RequestsRise (inputs ++ rest)
      → AllCame inputs → AllCame (inputs ++ rest)
  all_came [] inputs rise came =
      subst AllCame (sym (append-nil inputs)) came
  all_came (timed ∷ rest) inputs rise came =
      subst AllCame (append_assoc inputs (timed ∷ []) rest)
      (all_came rest (inputs ++ timed ∷ [])
      (subst RequestsRise (sym (append_assoc inputs (timed ∷ []) rest)) rise)
      (one_came inputs timed (first_rise inputs (timed ∷ rest) rise) came))

rise_apart : (xs ys : List Id) → IdsRise (xs ++ ys) → (id : Id) → Among xs id → Among ys id → ⊥
unfolding IsStrictlySortedBy
rise_apart [] ys rise id here there = here
rise_apart (x ∷ xs) ys rise id (inl same) there =
    less_itself id (each_of (λ y. id_cmp id y ≡ Less) (xs ++ ys) id
    (subst (λ z. AllByRecursion (λ y. id_cmp z y ≡ Less) (xs ++ ys)) same rise.0)
    (among_right xs ys id there))
rise_apart (x ∷ xs) ys rise id (inr later) there = rise_apart xs ys rise.1 id later there

-- so none that is held comes again
not_again : (calls : Calls) (call : Option Call) (more : List (Timed CallItem))
    → Behind calls call more → (held : HeldRequest) → Among (requests_held call) held
    → Among (brought more) held.id → ⊥
not_again calls call more behind held among coming =
    rise_apart (brought behind.before) (brought more)
    (subst IdsRise (filter_map-append (λ (t : Timed CallItem). request_brought t.input)
    behind.before more) behind.rise) held.id
    (all_came calls behind.before [] (first_rise behind.before more behind.rise)
    (λ held among. absurd among) held
    (subst (λ c. Among (requests_held c) held) (sym behind.is) among)) coming

-- ---- the second phase, for one transaction

module _ (calls : Calls) (k : Key) (now : ℕ) where
  abbrev HasAll : CallStates → Option Life → Type 0
  HasAll states life = (call_id : List ℕ) (held : HeldRequest)
      → Among (requests_held (states call_id)) held → held.key ≡ k
      → Has Never k life call_id held

  abbrev BringsAll : CallItems → Option Life → Type 0
  BringsAll items life = (item : model.Item (List ℕ) (Timed CallItem)) → Among items item
      → (id : Id) → came_with item.input.input ≡ Some (id, k) → Opens k item.key id life

  abbrev AreItems : CallItems → Type 0
  AreItems items = AllByRecursion (λ (item : model.Item (List ℕ) (Timed CallItem)).
      (it : CallItem) × (item.input ≡ given_at now it)) items

  coming : (items : CallItems) (call_id : List ℕ) (item : model.Item (List ℕ) (Timed CallItem))
      → Among items item → item.key ≡ call_id → (id : Id)
      → request_brought item.input.input ≡ Some id
      → Among (brought (inputs_of call_cmp items call_id)) id
  coming [] call_id item among to id is = absurd among
  coming (first ∷ items) call_id item (inl same) to id is =
      subst (λ inputs. Among (brought inputs) id)
      (sym (own_first calls k now first items call_id
      (ap (λ (i : model.Item (List ℕ) (Timed CallItem)). i.key) same ∙ to)))
      (among_cons (request_brought first.input.input) (brought (inputs_of call_cmp items call_id)) id
      (inl (ap (λ (i : model.Item (List ℕ) (Timed CallItem)). request_brought i.input.input) same
      ∙ is)))
  coming (first ∷ items) call_id item (inr later) to id is =
      let rest = coming items call_id item later to id is in
      by_bool (is_at (call_cmp first.key) call_id)
      (λ hit. subst (λ inputs. Among (brought inputs) id)
      (sym (own_first calls k now first items call_id
      (exact_at nat_list_cmp_total exact_bytes first.key call_id hit)))
      (among_cons (request_brought first.input.input) (brought (inputs_of call_cmp items call_id)) id
      (inr rest)))
      (λ miss. subst (λ inputs. Among (brought inputs) id)
      (sym (own_other calls k now first items call_id miss)) rest)

  same_open : (one other : List ℕ) (id its : Id) (life : Option Life) → Opens k one id life
      → Opens k other its life → (one ≡ other) × (id ≡ its)
  same_open one other id its None opens too = absurd opens
  same_open one other id its (Some life) opens too =
      (sym opens.call_is ∙ too.call_is, sym opens.id_is ∙ too.id_is)

  module _ (item : model.Item (List ℕ) (Timed CallItem)) (items : CallItems) (states : CallStates)
      (life : Option Life) (it : CallItem) (is : item.input ≡ given_at now it)
      (behind : Behind calls (states item.key) (inputs_of call_cmp (item ∷ items) item.key))
      (has : HasAll states life) (brings : BringsAll (item ∷ items) life) where
    abbrev outs : List CallOut
    outs = here calls k now states item

    abbrev before : List HeldRequest
    before = requests_held (states item.key)

    abbrev after : List HeldRequest
    after = requests_held (next (call_machine calls) item.key (states item.key) item.input)

    abbrev then : Option Life
    then = run k now life (orders outs)

    serves : Serves before (came_with item.input.input) now after outs
    serves =
        subst (λ input. Serves (requests_held (states item.key)) (came_with input.input) now
        (requests_held (next (call_machine calls) item.key (states item.key) input))
        (adds (call_machine calls) item.key (states item.key) input)) (sym is)
        (item_serves calls (states item.key) it.0 it.1 now
        (behind_rise calls (states item.key) (inputs_of call_cmp (item ∷ items) item.key) behind))

    spares : AllByRecursion Spares outs
    spares =
        subst (λ input. AllByRecursion Spares
        (adds (call_machine calls) item.key (states item.key) input)) (sym is)
        (item_spares calls (states item.key) it.0 it.1 now)

    -- none that is held comes again, in this item or later
    none_held : (old : HeldRequest) → Among before old
        → (later : model.Item (List ℕ) (Timed CallItem)) → Among (item ∷ items) later
        → later.key ≡ item.key → (key : Key) → came_with later.input.input ≡ Some (old.id, key) → ⊥
    none_held old among later there to key came =
        not_again calls (states item.key) (inputs_of call_cmp (item ∷ items) item.key) behind old
        among
        (coming (item ∷ items) item.key later there to old.id
        (brought_so later.input.input old.id key came))

    -- nor does the one that this item brings
    none_twice : (later : model.Item (List ℕ) (Timed CallItem)) → Among items later
        → later.key ≡ item.key → (id : Id) (one other : Key)
        → came_with item.input.input ≡ Some (id, one)
        → came_with later.input.input ≡ Some (id, other) → ⊥
    none_twice later there to id one other here_so later_so =
        let rest = inputs_of call_cmp items item.key in
        let all : IdsRise (brought behind.before
        ++ cons_option (request_brought item.input.input) (brought rest)) =
        subst (λ inputs. IdsRise (brought behind.before ++ brought inputs))
        (own_first calls k now item items item.key refl)
        (subst IdsRise (filter_map-append (λ (t : Timed CallItem). request_brought t.input)
        behind.before (inputs_of call_cmp (item ∷ items) item.key)) behind.rise) in
        let split : IdsRise ((brought behind.before ++ id ∷ []) ++ brought rest) =
        subst IdsRise (sym (append_assoc (brought behind.before) (id ∷ []) (brought rest)))
        (subst (λ o. IdsRise (brought behind.before ++ cons_option o (brought rest)))
        (brought_so item.input.input id one here_so) all) in
        rise_apart (brought behind.before ++ id ∷ []) (brought rest) split id
        (among_right (brought behind.before) (id ∷ []) id (inl refl))
        (coming items item.key later there to id (brought_so later.input.input id other later_so))

    -- this item neither brings the request of this id nor answers it
    record IsApart (call_id : List ℕ) (id : Id) : Type 0 where
      brought_other : call_id ≡ item.key → came_with item.input.input ≡ Some (id, k) → ⊥
      answered_other : call_id ≡ item.key → IsAnswered before after id k → ⊥

    never_spared : is_server (role_of k) ≡ true → (own : Id) (c : Command)
        → Among outs (call_out.Command own c) → IsSpared k now c
    never_spared serving own (order.Start key of message to) among = tt
    never_spared serving own (order.Answer key message) among = tt
    never_spared serving own (order.Abandon key) among = λ same.
        false≢true (sym (each_of Spares outs (call_out.Command own (order.Abandon key)) spares among)
        ∙ (ap (λ q. is_server (role_of q)) same ∙ serving))

    keep_open : (call_id : List ℕ) (id : Id) → IsApart call_id id → Opens k call_id id life
        → Opens k call_id id then
    keep_open call_id id apart opens =
        run_open k now call_id id outs (λ own c among. leaves own c among) life opens
      where
        answers_other : (own : Id) (message : Message)
            → Among outs (call_out.Command own (order.Answer k message)) → IsEarly message
        answers_other own message among =
            ⊎_elim (λ early. early)
            (λ final. absurd (⊎_elim
            (λ came.
            let same = same_open call_id item.key id own life opens
            (brings item (inl refl) own came) in
            apart.brought_other same.0 (came ∙ ap (λ i. Some (i, k)) (sym same.1)))
            (λ answered.
            let same = same_open call_id item.key id answered.held.id life opens
            ((has item.key answered.held answered.among answered.key_is).opens answered.unanswered) in
            apart.answered_other same.0
            (subst (λ i. IsAnswered before after i k) (sym (same.1 ∙ answered.id_is)) answered))
            final))
            (serves.answers own k message among)

        leaves : (own : Id) (c : Command) → Among outs (call_out.Command own c) → Leaves k now c
        leaves own (order.Start key of message to) among = tt
        leaves own (order.Answer key message) among = λ same.
            answers_other own message
            (subst (λ q. Among outs (call_out.Command own (order.Answer q message))) same among)
        leaves own (order.Abandon key) among =
            never_spared (serves_open k call_id id life opens) own (order.Abandon key) among

    keep_shut : (end : ℕ) → Shuts k end life → Shuts k end then
    keep_shut end shuts =
        run_shut k now end outs (never_spared (serves_shut k end life shuts)) life shuts

    kept_has : (call_id : List ℕ) (held : HeldRequest)
        → (held.removal ≡ None → IsApart call_id held.id) → Has Never k life call_id held
        → Has Never k then call_id held
    kept_has call_id held apart had = record {
      opens = λ lacks. keep_open call_id held.id (apart lacks) (had.opens lacks);
      shuts = λ success so over.
          let was = had.shuts success so over in
          (was.0, inr (keep_shut success.end (⊎_elim (λ never. absurd never) (λ s. s) was.1)));
      early = had.early;
    }

    -- a request that just came up
    new_has : (held : HeldRequest) → held.key ≡ k → IsNew (came_with item.input.input) outs held
        → Has Never k then item.key held
    new_has held mine new = record {
      opens = λ lacks. subst (λ cs. Opens k item.key held.id (run k now life cs)) (sym new.silent)
          (brings item (inl refl) held.id (new.came_so ∙ ap (λ q. Some (held.id, q)) mine));
      shuts = λ success so over. absurd (none_some (sym new.success ∙ so));
      early = subst (λ responses. AllByRecursion (λ one. IsEarly one.response) responses)
          (sym new.provisionals) tt;
    }
      where
        none_some : {success : Success} → None ≡ Some success → ⊥
        none_some same = absurd cc

    -- one that was held before
    gone_has : (old held : HeldRequest) → Among before old → Among after held → held.key ≡ k
        → Goes now outs old held → Has Never k then item.key held
    gone_has old held there among mine goes =
        let its : old.key ≡ k = goes.key_is ∙ mine in
        let had = has item.key old there its in
        record {
          opens = λ lacks. subst (λ id. Opens k item.key id then) goes.id_is
              (keep_open item.key old.id (record {
                brought_other = λ same came. none_held old there item (inl refl) refl k came;
                answered_other = λ same answered.
                    answered.none held among (sym goes.id_is) lacks;
              }) (had.opens (goes.unanswered lacks)));
          shuts = λ success so over. ⊎_elim
              (λ still.
              let was = had.shuts still.was still.before still.over in (
                ⊎_elim (λ same. same ∙ (was.0 ∙ ap (λ end. Some end) still.end))
                    (λ none. absurd (no_moment was.0 none)) still.removal,
                inr (subst (λ end. Shuts k end then) still.end
                    (keep_shut still.was.end (⊎_elim (λ never. absurd never) (λ s. s) was.1))),
              ))
              (λ accepted. (
                accepted.removal,
                inr (subst (λ end. Shuts k end then) (sym accepted.end)
                    (subst (λ cs. Shuts k (now + LIFETIME) (run k now life cs)) (sym accepted.sent)
                    (subst (λ b. Shuts k (now + LIFETIME) (cond b (step_at k life now
                    (Some (asked_by old.id (order.Answer old.key accepted.message)))).0 life))
                    (sym (ap (λ q. is_at (key_cmp q) k) its ∙ is_at_itself keys_total k))
                    (answered_on k item.key old.id life now old.id accepted.message accepted.is
                    (had.opens accepted.unanswered))))),
              )) (goes.success success so over);
          early = goes.early had.early;
        }

    one_has : HasAll (after_item calls k now states item) then
    one_has call_id held among mine =
        by_bool (is_at (call_cmp item.key) call_id)
        (λ hit.
        let same = exact_at nat_list_cmp_total exact_bytes item.key call_id hit in
        let there : Among after held =
        subst (λ c. Among (requests_held c) held) (ap (λ b. cond b
        (next (call_machine calls) item.key (states item.key) item.input) (states call_id)) hit)
        among in
        subst (λ q. Has Never k then q held) same
        (⊎_elim (λ new. new_has held mine new)
        (λ old. gone_has old.0 held old.1 there mine old.2) (serves.each held there)))
        (λ miss. kept_has call_id held
        (λ lacks. record {
          brought_other = λ same came. elsewhere miss same;
          answered_other = λ same answered. elsewhere miss same;
        })
        (has call_id held
        (subst (λ c. Among (requests_held c) held) (ap (λ b. cond b
        (next (call_machine calls) item.key (states item.key) item.input) (states call_id)) miss)
        among) mine))
      where
        elsewhere : {q : List ℕ} → is_at (call_cmp item.key) q ≡ false → q ≡ item.key → ⊥
        elsewhere miss same =
            false≢true (sym miss ∙ (ap (is_at (call_cmp item.key)) same
            ∙ is_at_itself nat_list_cmp_total item.key))

    one_brings : BringsAll items then
    one_brings later among id came =
        keep_open later.key id (record {
          brought_other = λ same here_so. none_twice later among same id k k here_so came;
          answered_other = λ same answered.
              none_held answered.held answered.among later (inr among) same k
              (came ∙ ap (λ i. Some (i, k)) (sym answered.id_is));
        }) (brings later (inr among) id came)

  has_sim : (items : CallItems) (states : CallStates) (life : Option Life) → AreItems items
      → ((q : List ℕ) → Behind calls (states q) (inputs_of call_cmp items q))
      → HasAll states life → BringsAll items life
      → HasAll (states_then call_cmp (call_machine calls) states items)
      (run k now life (orders (says calls k now states items)))
  has_sim [] states life are behind has brings = has
  has_sim (item ∷ items) states life are behind has brings =
      let outs = here calls k now states item in
      let after = after_item calls k now states item in
      let rest = says calls k now after items in
      subst (HasAll (states_then call_cmp (call_machine calls) after items))
      (sym (in_parts calls k now life outs rest))
      (has_sim items after (run k now life (orders outs)) are.1
      (after_one calls k now states item items behind)
      (one_has item items states life are.0.0 are.0.1 (behind item.key) has brings)
      (one_brings item items states life are.0.0 are.0.1 (behind item.key) has brings))

-- ---- one round

module _ (config : Config) (number : ℕ) (past : Past) (round : Round)
    (has : HaveTransactions config past) where
  abbrev calls_now : Calls
  calls_now = calls_of config

  abbrev at : ℕ
  at = round.moment

  abbrev between : Key → Option Life
  between = lives_between config number past round

  abbrev IsLate : ℕ → Type 0
  IsLate end = nat_le end at ≡ true

  -- after the first phase it still has it, unless it is removed at this moment
  between_has : (call_id : List ℕ) (held : HeldRequest)
      → Among (requests_held (calls_in config past call_id)) held
      → Has IsLate held.key (between held.key) call_id held
  between_has call_id held among =
      let had = has call_id held among in
      let k = held.key in
      let arrive = no_events config number past round in
      let items = first_items config number past round in
      let ticked = lives_ticked config number past round in
      record {
        opens = λ lacks. open_then k call_id held.id items ticked arrive
            (open_on k call_id held.id (lives_in past k) at None tt (had.opens lacks));
        shuts = λ success so over.
            let was = had.shuts success so over in (
              was.0,
              by_bool (nat_le success.end at) (λ late. inl late)
                  (λ early. inr (kept_then k (Shuts k success.end)
                  (λ timed. Outlasts success.end timed.moment timed.input)
                  (λ life timed outlasts. shut_on k success.end life timed.moment timed.input outlasts)
                  items ticked
                  (arrival_outlasts success.end at early
                  (transaction_items (came_in config number past round)) arrive)
                  (shut_on k success.end (lives_in past k) at None early
                  (⊎_elim (λ never. absurd never) (λ s. s) was.1)))),
            );
        early = had.early;
      }

  at_key : (k : Key) (call_id : List ℕ) (held : HeldRequest)
      → Among (requests_held (calls_in config past call_id)) held → held.key ≡ k
      → Has IsLate k (between k) call_id held
  at_key k call_id held among mine =
      subst (λ q. Has IsLate q (between q) call_id held) mine (between_has call_id held among)

  -- ---- the requests that came up

  drops : (place : ℕ) (why : DropReason) → UpOpens (AreOpen between) (out.Dropped place why)
  drops place why = tt

  report_opens : (outs : List Out) → AllByRecursion IsReport outs
      → AllByRecursion (UpOpens (AreOpen between)) outs
  report_opens [] all = tt
  report_opens (out.Up up ∷ outs) all = (by up.kind all.0, report_opens outs all.1)
    where
      by : (its : UpKind) → its ≡ kind.Timeout
          → UpOpens (AreOpen between) (out.Up (record up { kind = its }))
      by (kind.Request request reply_to) is = absurd cc
      by (kind.Ack ack) is = tt
      by (kind.Response response) is = tt
      by kind.Timeout is = tt
      by kind.Failed is = tt
  report_opens (out.Send key to bytes ∷ outs) all = (tt, report_opens outs all.1)
  report_opens (out.Dropped place why ∷ outs) all = (tt, report_opens outs all.1)

  abbrev ItemOpens : Id × Item → Type 0
  ItemOpens item = (id : Id) (key : Key) → came_with (Some item) ≡ Some (id, key)
      → Opens key (call_of_item item.1) id (between key)

  one_opens : (item : Id × Item) → ItemIs (UpOpens (AreOpen between)) drops item → ItemOpens item
  one_opens (event, User c) opens = λ id key came. absurd cc
  one_opens (event, Up up) opens = by up.kind opens
    where
      by : (its : UpKind) → UpOpens (AreOpen between) (out.Up (record up { kind = its }))
          → (id : Id) (key : Key)
          → came_with (Some (event, Up (record up { kind = its }))) ≡ Some (id, key)
          → Opens key up.call_id id (between key)
      by (kind.Request request reply_to) opens id key came =
          subst (λ (named : Id × Key). Opens named.1 up.call_id named.0 (between named.1))
          (same_some (up.id, up.key) (id, key) came) opens
      by (kind.Ack ack) opens id key came = absurd cc
      by (kind.Response response) opens id key came = absurd cc
      by kind.Timeout opens id key came = absurd cc
      by kind.Failed opens id key came = absurd cc

  each_opens : (all : List (Id × Item))
      → AllByRecursion (ItemIs (UpOpens (AreOpen between)) drops) all
      → AllByRecursion ItemOpens all
  each_opens [] opens = tt
  each_opens (item ∷ all) opens = (one_opens item opens.0, each_opens all opens.1)

  items_open : AllByRecursion ItemOpens (items config number past round)
  items_open =
      subst (AllByRecursion ItemOpens) (sym (items_are config number past round))
      (each_opens _ (items_all (UpOpens (AreOpen between)) drops number
      (first_told config number past round) (came_in config number past round)
      (report_opens _ (all_joined IsReport
      (λ q. adds transaction_machine q (lives_in past q) (tick_at at))
      (filter (λ q. speaks (adds transaction_machine q (lives_in past q) (tick_at at)))
      (keys_of_phases key_cmp past.transactions))
      (λ q. tick_reports q (lives_in past q) at)))
      (ups_open (first_items config number past round) (lives_ticked config number past round)
      (no_events config number past round))))

  -- ---- the ticks of the calls

  abbrev ticks_out : List CallOut
  ticks_out = joined (second_ticks config number past round)

  -- each command that they give is a response to a held request
  pub tick_asks : (own : Id) (c : Command) → Among ticks_out (call_out.Command own c)
      → (call_id : List ℕ) × (held : HeldRequest)
      × Among (requests_held (calls_in config past call_id)) held × (message : Message)
      × (c ≡ order.Answer held.key message) × IsSentAgain at held message
  tick_asks own c among =
      let says_at : List ℕ → List CallOut =
      λ q. adds (call_machine calls_now) q (calls_in config past q) (tick_at at) in
      let group = flat_among (λ (said : List ℕ × List CallOut). said.1)
      (second_ticks config number past round) (call_out.Command own c) among in
      let from = mapped_among (λ q. (q, says_at q)) _ group.0 group.1 in
      let gives = tick_gives calls_now (calls_in config past from.0) at own c
      (subst (λ (said : List ℕ × List CallOut). Among said.1 (call_out.Command own c)) (sym from.2)
      group.2) in
      (from.0, gives.0, gives.1, gives.2, gives.3, gives.4)

  -- it leaves an open transaction open, since that of a 2xx isn't open
  pub tick_harmless : (k : Key) (own : Id) (c : Command) → Among ticks_out (call_out.Command own c)
      → IsSpared k at c × ((message : Message) → c ≡ order.Answer k message
      → IsEarly message ⊎ ((end : ℕ) × Shuts k end (between k)))
  tick_harmless k own c among = so (tick_asks own c among)
    where
      so : (call_id : List ℕ) × (held : HeldRequest)
          × Among (requests_held (calls_in config past call_id)) held × (message : Message)
          × (c ≡ order.Answer held.key message) × IsSentAgain at held message
          → IsSpared k at c × ((message : Message) → c ≡ order.Answer k message
          → IsEarly message ⊎ ((end : ℕ) × Shuts k end (between k)))
      so (call_id, held, there, sent, is, again) = (
        subst (IsSpared k at) (sym is) tt,
        λ message its.
            let same : order.Answer held.key sent ≡ order.Answer k message = sym is ∙ its in
            let mine : held.key ≡ k = cc in
            let this : sent ≡ message = cc in
            by (at_key k call_id held there mine) message this again,
      )
        where
          by : Has IsLate k (between k) call_id held → (message : Message) → sent ≡ message
              → IsSentAgain at held sent
              → IsEarly message ⊎ ((end : ℕ) × Shuts k end (between k))
          by had message this (inl (one, of, is)) =
              inl (subst IsEarly (is ∙ this)
              (each_of (λ one. IsEarly one.response) held.provisionals one had.early of))
          by had message this (inr (success, is, over, early)) = inr (
            success.end,
            ⊎_elim
                (λ late. absurd (false≢true (sym early ∙ late))) (λ shuts. shuts)
                (had.shuts success is over).1,
          )

  module _ (k : Key) where
    abbrev ticked_life : Option Life
    ticked_life = run k at (between k) (orders ticks_out)

    tick_leaves : (call_id : List ℕ) (id : Id) → Opens k call_id id (between k)
        → Opens k call_id id ticked_life
    tick_leaves call_id id opens =
        run_open k at call_id id ticks_out (λ own c among. leaves own c among) (between k) opens
      where
        leaves : (own : Id) (c : Command) → Among ticks_out (call_out.Command own c) → Leaves k at c
        leaves own (order.Start key of message to) among = tt
        leaves own (order.Answer key message) among = λ same.
            ⊎_elim (λ early. early)
            (λ shut. absurd (never_both k call_id id shut.0 (between k) opens shut.1))
            ((tick_harmless k own (order.Answer key message) among).1 message
            (ap (λ q. order.Answer q message) same))
        leaves own (order.Abandon key) among =
            (tick_harmless k own (order.Abandon key) among).0

    pub tick_shuts : (end : ℕ) → Shuts k end (between k) → Shuts k end ticked_life
    tick_shuts end shuts =
        run_shut k at end ticks_out (λ own c among. (tick_harmless k own c among).0) (between k) shuts

    ticked_has : HasAll calls_now k at (calls_ticked config number past round) ticked_life
    ticked_has call_id held among mine =
        let from = tick_from calls_now (calls_in config past call_id) at [] held among in
        let old = from.0 in
        let goes : Goes at [] old held = from.2 in
        let removal : held.removal ≡ old.removal = from.3 in
        let kept : option_map_or (λ moment. nat_lt at moment) held.removal true ≡ true = from.4 in
        let had = at_key k call_id old from.1 (goes.key_is ∙ mine) in
        record {
          opens = λ lacks. subst (λ id. Opens k call_id id ticked_life) goes.id_is
              (tick_leaves call_id old.id (had.opens (goes.unanswered lacks)));
          shuts = λ success so over. ⊎_elim
              (λ still.
              let was = had.shuts still.was still.before still.over in
              let its : held.removal ≡ Some still.was.end = removal ∙ was.0 in (
                its ∙ ap (λ end. Some end) still.end,
                inr (subst (λ end. Shuts k end ticked_life) still.end
                    (tick_shuts still.was.end (⊎_elim
                    (λ late. absurd (not_late still.was.end at late
                    (sym (ap (λ o. option_map_or (λ moment. nat_lt at moment) o true) its) ∙ kept)))
                    (λ s. s) was.1))),
              ))
              (λ accepted. absurd (no_moment accepted.removal
              (removal ∙ accepted.unanswered)))
              (goes.success success so over);
          early = goes.early had.early;
        }
      where
        not_late : (end now : ℕ) → nat_le end now ≡ true → nat_lt now end ≡ true → ⊥
        not_late end now late early = grind (arith, common_steps, late, early)

    items_are_items : (place : ℕ) (all : List (Id × Item))
        → AreItems calls_now k at (timed_items at (call_items place all))
    items_are_items place [] = tt
    items_are_items place (item ∷ all) = ((item, refl), items_are_items (suc place) all)

    brings_all : (place : ℕ) (all : List (Id × Item)) → AllByRecursion ItemOpens all
        → BringsAll calls_now k at (timed_items at (call_items place all)) ticked_life
    brings_all place [] opens item among id came = absurd among
    brings_all place (first ∷ all) opens item (inl same) id came =
        subst (λ (i : model.Item (List ℕ) (Timed CallItem)). Opens k i.key id ticked_life) same
        (tick_leaves (call_of_item first.1) id (opens.0 id k
        (ap (λ (i : model.Item (List ℕ) (Timed CallItem)). came_with i.input.input) same ∙ came)))
    brings_all place (first ∷ all) opens item (inr later) id came =
        brings_all (suc place) all opens.1 item later id came

    -- ---- and after the round

    pub after_has : ((q : List ℕ) → Behind calls_now (calls_ticked config number past round q)
        (inputs_of call_cmp (second_items config number past round) q))
        → (call_id : List ℕ) (held : HeldRequest)
        → Among (requests_held (calls_in config (past_after config number past round) call_id)) held
        → held.key ≡ k
        → Has Never k (lives_in (past_after config number past round) k) call_id held
    after_has behind call_id held among mine =
        let said = says calls_now k at (calls_ticked config number past round)
        (second_items config number past round) in
        subst (λ life. Has Never k life call_id held)
        (sym (after_is config number past round k
        ∙ (ap (λ outs. run k at (between k) (orders outs)) (given_is config number past round k)
        ∙ in_parts calls_now k at (between k) ticks_out said)))
        (has_sim calls_now k at (second_items config number past round)
        (calls_ticked config number past round) ticked_life
        (items_are_items 0 (items config number past round)) behind ticked_has
        (brings_all 0 (items config number past round) items_open) call_id held
        (subst (λ c. Among (requests_held c) held) (calls_after_is config number past round call_id)
        among) mine)

  pub has_next : ((q : List ℕ) → Behind calls_now (calls_ticked config number past round q)
      (inputs_of call_cmp (second_items config number past round) q))
      → HaveTransactions config (past_after config number past round)
  has_next behind call_id held among = after_has held.key behind call_id held among refl

pub none_have : (config : Config) → HaveTransactions config no_past
none_have config call_id held among = absurd among
