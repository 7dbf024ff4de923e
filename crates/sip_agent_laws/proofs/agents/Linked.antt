-- Each transaction without a final response belongs to a call that holds its request: one round.
use Rattle.std.proofs.Common.{◌≡◌, ◌⊎◌, inl, inr, ⊎_elim, ℕ, suc, ◌≤◌, true, false, cond, List, [], ◌∷◌, ◌++◌, map, refl, sym, ap, ◌∙◌, subst}
use Rattle.std.specs.Prelude.{Option, None, Some, filter}
use Rattle.std.specs.BTreeMap.{is_at}
use Rattle.std.specs.List.{AllByRecursion}
use Rattle.std.proofs.lemmas.Bool.{false≢true}
use Rattle.std.proofs.lemmas.Cmp.{nat_list_cmp_total}
use Rattle.std.proofs.lemmas.List.Elements.{filter_map-append}
use Rattle.std.proofs.lemmas.Map.Lookups.{exact_bytes}
use Rattle.sip_message.specs.declared.id.Id.{Id}
use Rattle.sip_message.specs.declared.key.Key.{Key}
use Rattle.sip_message.specs.Key.{key_cmp, keys_total}
use Rattle.sip_message.specs.Keys.{exact_keys}
use Rattle.keyed_machine.specs.declared.item.Item as model
use Rattle.keyed_machine.specs.Groups.{speaks}
use Rattle.keyed_machine.specs.Machine.{Timed, adds, next, tick_at}
use Rattle.keyed_machine.specs.Phase.{PhaseOutputs, inputs_of, keys_of_phases, states_after, states_then, stepped, timed_items, told_items}
use Rattle.keyed_machine.proofs.Ordered.{by_bool, exact_at}
use Rattle.keyed_machine.proofs.Phases.{states_after_phase}
use Rattle.sip_transactions.specs.declared.input.Command.{Command}
use Rattle.sip_transactions.specs.declared.input.Input.{Input}
use Rattle.sip_transactions.specs.declared.life.Life.{Life}
use Rattle.sip_transactions.specs.declared.output.DropReason.{DropReason}
use Rattle.sip_transactions.specs.declared.output.Out.{Out}
use Rattle.sip_transactions.specs.declared.output.Out.TheVariants as out
use Rattle.sip_transactions.specs.declared.output.Up.{Up as AnUp}
use Rattle.sip_transactions.specs.declared.output.UpKind.{UpKind}
use Rattle.sip_transactions.specs.declared.output.UpKind.TheVariants as kind
use Rattle.sip_transactions.specs.Machine.{transaction_machine}
use Rattle.sip_transactions.specs.Rules.Step.{step_at}
use Rattle.sip_transactions.specs.Shard.{asked_by, command_key}
use Rattle.sip_transactions.specs.Steps.Input.{role_of}
use Rattle.sip_user.specs.declared.item.CallOut.{CallOut}
use Rattle.sip_user.specs.declared.item.Item.{Item}
use Rattle.sip_user.specs.declared.item.Item.TheVariants.{Up, User}
use Rattle.sip_held_dialogs.specs.Ids.{is_id}
use Rattle.sip_held_dialogs.proofs.Starts.{start_in, starts}
use Rattle.sip_clients.proofs.FirstInvite.{id_exact}
use Rattle.sip_calls.specs.declared.call.Call.{Call}
use Rattle.sip_calls.specs.declared.calls.Calls.{Calls}
use Rattle.sip_calls.specs.Call.{CallItem, call_machine}
use Rattle.sip_calls.specs.CallShard.{call_cmp}
use Rattle.sip_calls.specs.HeldRequests.{requests_held}
use Rattle.sip_calls.specs.OwnCall.{IsCallOf, IsInputOf}
use Rattle.sip_calls.specs.Provisionals.{side_held}
use Rattle.sip_calls.proofs.CallStarts.{how_many, ids_of}
use Rattle.sip_calls.proofs.OwnCall.{each_notice_is_own}
use Rattle.sip_round.specs.declared.config.Config.{Config}
use Rattle.sip_round.specs.declared.round.Round.{Round}
use Rattle.sip_round.specs.Answers.{Past, arrivals, calls_of, first, given_second, items_first, items_of_round, past_after, second, third}
use Rattle.sip_round.specs.Arrivals.{Arrival}
use Rattle.sip_round.specs.Outputs.{all_said, joined}
use Rattle.sip_round.specs.Phases.{call_items, command_items, transaction_items}
use Rattle.sip_round.proofs.GivenNotices.{AreOwnCalls}
use Rattle.sip_round.proofs.OwnItems.{second_own}
use Rattle.sip_round.proofs.Said.{calls_say, transactions_say}
use Rattle.sip_round.proofs.StartedOnce.{ticks_start}
use Rattle.sip_agent_laws.specs.Agents.Open.{is_open}
use Rattle.sip_agent_laws.proofs.agents.CallHeld.{InputIsHarmless, IsHarmless, mild_status, tick_asked}
use Rattle.sip_agent_laws.proofs.agents.CallServes.{came_with, tick_served}
use Rattle.sip_agent_laws.proofs.agents.ClientsHeld as client_side
use Rattle.sip_agent_laws.proofs.agents.Commands.{IsLeft, ordered, run, run_on, orders}
use Rattle.sip_agent_laws.proofs.agents.FirstOuts.{AreReceived, AreStarted, IsFrom, KindIsFrom, OutIsFrom, RequestCame, items_from, received_then, received_ticked, started_then, started_ticked, ticks_from}
use Rattle.sip_agent_laws.proofs.agents.FirstPhase.{AreArrivals, AreMild, ComesUp, States, client_then, client_was, server_then, server_ticked}
use Rattle.sip_agent_laws.proofs.agents.Items.{ItemIs, all_given, arrivals_arrive, item_given, items_all, request_among, requests_among, up_among}
use Rattle.sip_agent_laws.proofs.agents.Lists.{Among, among_left, among_right}
use Rattle.sip_agent_laws.proofs.agents.OpenLives.{IsMild, KindIsMild, is_server}
use Rattle.sip_agent_laws.proofs.agents.SecondPhase.{AskedLinked, Brings, CallStates, IsAsked, IsServed, ServedLinked, fewer_counted, in_parts, among_orders, among_starts, asked_sim, never_twice, only_key, says, served_sim}
use Rattle.sip_agent_laws.proofs.agents.ServedHeld as server_side
use Rattle.sip_agent_laws.proofs.agents.Sound.{Behind, sound_items}

-- ---- the third phase: each transaction takes its own commands

module _ (now : ℕ) where
  ordered_is : (states : States) (place : ℕ) (c : Id × Command) (q : Key)
      → stepped key_cmp transaction_machine states (record {
        place = place;
        key = command_key c.1;
        input = record { moment = now; input = Some (asked_by c.0 c.1) };
      }) q
      ≡ ordered q now (states q) c
  ordered_is states place c q =
      by_bool (is_at (key_cmp (command_key c.1)) q)
      (λ hit.
      let same = exact_at keys_total exact_keys (command_key c.1) q hit in
      λ i. cond (is_at (key_cmp (command_key c.1)) q)
      (step_at (same i) (states (same i)) now (Some (asked_by c.0 c.1))).0 (states q))
      (λ miss. ap (λ b. cond b (step_at (command_key c.1) (states (command_key c.1)) now
      (Some (asked_by c.0 c.1))).0 (states q)) miss
      ∙ sym (ap (λ b. cond b (step_at q (states q) now (Some (asked_by c.0 c.1))).0 (states q))
      miss))

  pub run_is : (cs : List (Id × Command)) (states : States) (place : ℕ) (q : Key)
      → states_then key_cmp transaction_machine states
      (timed_items now (command_items place cs)) q
      ≡ run q now (states q) cs
  run_is [] states place q = refl
  run_is (c ∷ cs) states place q =
      run_is cs (stepped key_cmp transaction_machine states (record {
        place = place;
        key = command_key c.1;
        input = record { moment = now; input = Some (asked_by c.0 c.1) };
      })) (suc place) q
      ∙ ap (λ held. run q now held cs) (ordered_is states place c q)

-- ---- what is linked

abbrev pub lives_in : Past → States
lives_in past = states_after key_cmp transaction_machine tick_at past.transactions

abbrev pub calls_in : Config → Past → CallStates
calls_in config past = states_after call_cmp (call_machine (calls_of config)) tick_at past.calls

-- `said` are the starts that the calls gave so far, `came` the requests that came up
pub record IsLinked (config : Config) (past : Past) (said : List (Id × Key)) (came : List Id)
    : Type 0 where
  pub started : AreStarted said came (lives_in past)
  pub received : AreReceived said came (lives_in past)
  pub served : (k : Key) → is_server (role_of k) ≡ true → (life : Life)
      → lives_in past k ≡ Some life → is_open (role_of k) life.state ≡ true
      → server_side.Holds k life.context.id
      (requests_held (calls_in config past life.context.call_id))
  pub asked : (k : Key) → client_side.IsCommanded k → is_server (role_of k) ≡ false
      → (life : Life) → lives_in past k ≡ Some life → is_open (role_of k) life.state ≡ true
      → client_side.Holds k life.context.id
      (side_held (calls_in config past life.context.call_id)).clients

module _ (config : Config) (number : ℕ) (past : Past) (round : Round) where
  abbrev pub calls : Calls
  calls = calls_of config

  abbrev pub now : ℕ
  now = round.moment

  abbrev pub came_in : List (Id × Arrival)
  came_in = arrivals config number past round

  abbrev pub first_items : List (model.Item Key (Timed Input))
  first_items = timed_items now (transaction_items came_in)

  abbrev pub lives_ticked : States
  lives_ticked q = next transaction_machine q (lives_in past q) (tick_at now)

  abbrev pub lives_between : States
  lives_between = states_then key_cmp transaction_machine lives_ticked first_items

  abbrev pub first_ticks : List (Key × List Out)
  first_ticks = map (λ q. (q, adds transaction_machine q (lives_in past q) (tick_at now)))
      (filter (λ q. speaks (adds transaction_machine q (lives_in past q) (tick_at now)))
      (keys_of_phases key_cmp past.transactions))

  abbrev pub first_told : PhaseOutputs Key Out
  first_told = record {
    ticks = first_ticks;
    items = told_items key_cmp transaction_machine lives_ticked first_items;
  }

  abbrev pub items : List (Id × Item)
  items = items_of_round config number past round

  abbrev pub calls_ticked : CallStates
  calls_ticked q = next (call_machine calls) q (calls_in config past q) (tick_at now)

  abbrev pub second_items : List (model.Item (List ℕ) (Timed CallItem))
  second_items = timed_items now (call_items 0 items)

  abbrev pub second_ticks : List (List ℕ × List CallOut)
  second_ticks = map (λ q. (
    q,
    adds (call_machine calls) q (calls_in config past q) (tick_at now),
  )) (filter (λ q. speaks (adds (call_machine calls) q (calls_in config past q) (tick_at now)))
      (keys_of_phases call_cmp past.calls))

  abbrev pub given : List CallOut
  given = given_second config number past round

  -- ---- the phases

  pub between_is : (q : Key) → states_after key_cmp transaction_machine tick_at
      (past.transactions ++ first config number past round ∷ []) q ≡ lives_between q
  unfolding first
  between_is q =
      states_after_phase keys_total exact_keys transaction_machine tick_at past.transactions
      (first config number past round) q

  pub items_are : items ≡ items_first number first_told came_in
  unfolding items_of_round first
  items_are =
      ap (λ told. items_first number told came_in)
      (sym (transactions_say past.transactions (first config number past round)))

  pub given_is : (k : Key) → given ≡ joined second_ticks ++ says calls k now calls_ticked second_items
  unfolding given_second second
  given_is k = ap all_said (sym (calls_say calls past.calls (second config number past round)))

  pub after_is : (q : Key) → lives_in (past_after config number past round) q
      ≡ run q now (lives_between q) (orders given)
  unfolding past_after third
  after_is q =
      states_after_phase keys_total exact_keys transaction_machine tick_at
      (past.transactions ++ first config number past round ∷ []) (third config number past round) q
      ∙ run_is now (orders given) (states_after key_cmp transaction_machine tick_at
      (past.transactions ++ first config number past round ∷ [])) 0 q
      ∙ ap (λ held. run q now held (orders given)) (between_is q)

  pub calls_after_is : (q : List ℕ) → calls_in config (past_after config number past round) q
      ≡ states_then call_cmp (call_machine calls) calls_ticked second_items q
  unfolding past_after second
  calls_after_is q =
      states_after_phase nat_list_cmp_total exact_bytes (call_machine calls) tick_at past.calls
      (second config number past round) q

  ticks_start_none : starts (joined second_ticks) ≡ []
  ticks_start_none = ticks_start calls now (calls_in config past)
      (filter (λ q. speaks (adds (call_machine calls) q (calls_in config past q) (tick_at now)))
      (keys_of_phases call_cmp past.calls))

  pub starts_are : (k : Key) → starts given ≡ starts (says calls k now calls_ticked second_items)
  starts_are k =
      ap starts (given_is k)
      ∙ (filter_map-append start_in (joined second_ticks)
      (says calls k now calls_ticked second_items)
      ∙ ap (λ none. none ++ starts (says calls k now calls_ticked second_items))
      ticks_start_none)

  pub no_events : AreArrivals first_items
  no_events = arrivals_arrive now config.local number 1 round.events

  pub second_own_items : AllByRecursion (λ (item : model.Item (List ℕ) (Timed CallItem)).
      IsInputOf item.key item.input.input) second_items
  unfolding second
  second_own_items = second_own config number past round

  -- ---- after the ticks of the calls

  ticks_leave : (k : Key) (life : Life)
      → run k now (lives_between k) (orders (joined second_ticks)) ≡ Some life
      → IsLeft k now (lives_between k) (orders (joined second_ticks)) life
  ticks_leave k life is =
      ⊎_elim (λ left. left)
      (λ new. absurd (subst (λ (all : List (Id × Key)).
      Among all (life.context.id, k)) ticks_start_none
      (among_starts k life.context.call_id (joined second_ticks) life.context.id new.command
      (among_orders (joined second_ticks) life.context.id new.command new.among) new.start)))
      (run_on k now (orders (joined second_ticks)) (lives_between k) life is)

  module _ (said : List (Id × Key)) (came : List Id) (linked : IsLinked config past said came)
      (once : (x : Id) → how_many x (ids_of (said ++ starts given)) ≤ 1)
      (apart : (x : Id) (key : Key) → Among (said ++ starts given) (x, key)
      → Among (came ++ requests_among items) x → ⊥)
      (behind : (q : List ℕ) → Behind calls (calls_ticked q) (inputs_of call_cmp second_items q))
      (own : AreOwnCalls config past.calls) where
    abbrev pub came_now : List Id
    came_now = came ++ requests_among items

    -- ---- what came up

    up_came : (up : AnUp) (its : UpKind) → up.kind ≡ its
        → Among (joined first_told.items) (out.Up up)
        → RequestCame said came_now (out.Up (record up { kind = its }))
    up_came up (kind.Request message reply_to) is among =
        let there = up_among now number lives_ticked came_in first_ticks up among in
        among_right came (requests_among items) up.id
        (request_among items there.0 up message reply_to is
        (subst (λ (all : List (Id × Item)). Among all (there.0, Up up)) (sym items_are) there.1))
    up_came up _ is among = tt

    all_came : (outs : List Out) → ((o : Out) → Among outs o → Among (joined first_told.items) o)
        → AllByRecursion (RequestCame said came_now) outs
    all_came [] within = tt
    all_came (out.Up up ∷ outs) within = (
      up_came up up.kind refl (within (out.Up up) (inl refl)),
      all_came outs (λ o among. within o (inr among)),
    )
    all_came (out.Send key to bytes ∷ outs) within =
        (tt, all_came outs (λ o among. within o (inr among)))
    all_came (out.Dropped place why ∷ outs) within =
        (tt, all_came outs (λ o among. within o (inr among)))

    pub requests_came : AllByRecursion (RequestCame said came_now) (joined first_told.items)
    requests_came = all_came (joined first_told.items) (λ o among. among)

    -- ---- which transactions there are, after the first phase

    pub received_now : AreReceived said came_now (lives_in past)
    received_now q serves life is =
        among_left came (requests_among items) life.context.id
        (linked.received q serves life is)

    pub started_now : AreStarted said came_now (lives_in past)
    started_now q client life is = linked.started q client life is

    started_between : AreStarted said came_now lives_between
    started_between =
        started_then said came_now first_items lives_ticked no_events
        (started_ticked said came_now now (lives_in past) started_now)

    received_between : AreReceived said came_now lives_between
    received_between =
        received_then said came_now first_items lives_ticked requests_came
        (received_ticked said came_now now (lives_in past) received_now)

    -- ---- and after the third

    started_after : AreStarted (said ++ starts given) came_now
        (lives_in (past_after config number past round))
    started_after q client life is =
        ⊎_elim
        (λ left. among_left said (starts given) (life.context.id, q)
        (subst (λ id. Among said (id, q)) left.id
        (started_between q client left.before left.was)))
        (λ new. among_right said (starts given) (life.context.id, q)
        (among_starts q life.context.call_id given life.context.id new.command
        (among_orders given life.context.id new.command new.among) new.start))
        (run_on q now (orders given) (lives_between q) life (sym (after_is q) ∙ is))

    received_after : AreReceived (said ++ starts given) came_now
        (lives_in (past_after config number past round))
    received_after q serves life is =
        ⊎_elim
        (λ left. subst (λ id. Among came_now id) left.id
        (received_between q serves left.before left.was))
        (λ new. absurd (false≢true (sym new.client ∙ serves)))
        (run_on q now (orders given) (lives_between q) life (sym (after_is q) ∙ is))

    -- ---- a request of the peer

    comes_in : (k : Key) (life : Life) → ComesUp k (joined first_told.items) life
        → (item : model.Item (List ℕ) (Timed CallItem)) × Among second_items item
        × Brings calls k now life.context.id life.context.call_id item
    comes_in k life came_up =
        let up : AnUp = record {
          key = k;
          id = life.context.id;
          call_id = life.context.call_id;
          kind = kind.Request came_up.0 came_up.1;
        } in
        let there = up_among now number lives_ticked came_in first_ticks up came_up.2 in
        let given_item = item_given now 0 items (there.0, Up up)
        (subst (λ (all : List (Id × Item)). Among all (there.0, Up up)) (sym items_are) there.1) in (
          given_item.0,
          given_item.1,
          record {
            to = given_item.2;
            is = ap came_with given_item.3;
          },
        )

    served_first : (k : Key) → is_server (role_of k) ≡ true
        → ServedLinked calls k now (run k now (lives_between k) (orders (joined second_ticks)))
        calls_ticked second_items
    served_first k serves life is still =
        let left = ticks_leave k life is in
        subst (λ (named : Id × List ℕ).
        IsServed calls k now calls_ticked second_items named.0 named.1)
        (λ i. (left.id i, left.call i))
        (between left.before left.was (left.open_before still))
      where
        between : (life : Life) → lives_between k ≡ Some life
            → is_open (role_of k) life.state ≡ true
            → IsServed calls k now calls_ticked second_items life.context.id life.context.call_id
        between life is still =
            ⊎_elim
            (λ was.
            let first = server_ticked k serves (lives_in past k) now was.before was.was was.still in
            let held = linked.served k serves first.before first.was first.still in
            subst (λ (named : Id × List ℕ).
            IsServed calls k now calls_ticked second_items named.0 named.1)
            (λ i. ((first.id ∙ was.id) i, (first.call ∙ was.call) i))
            (inl (tick_served k first.before.context.id calls
            (calls_in config past first.before.context.call_id) now held)))
            (λ comes. inr (comes_in k life comes))
            (server_then k serves first_items lives_ticked life is still)

    served_after : (k : Key) → is_server (role_of k) ≡ true → (life : Life)
        → lives_in (past_after config number past round) k ≡ Some life
        → is_open (role_of k) life.state ≡ true
        → server_side.Holds k life.context.id (requests_held
        (calls_in config (past_after config number past round) life.context.call_id))
    served_after k serves life is still =
        let all = served_sim calls k now serves second_items calls_ticked
        (run k now (lives_between k) (orders (joined second_ticks)))
        (sound_items calls k now second_items calls_ticked behind) (served_first k serves) in
        let ran : run k now (run k now (lives_between k) (orders (joined second_ticks)))
        (orders (says calls k now calls_ticked second_items)) ≡ Some life =
        sym (in_parts calls k now (lives_between k) (joined second_ticks)
        (says calls k now calls_ticked second_items))
        ∙ (ap (λ outs. run k now (lives_between k) (orders outs)) (sym (given_is k))
        ∙ (sym (after_is k) ∙ is)) in
        subst (λ call. server_side.Holds k life.context.id (requests_held call))
        (sym (calls_after_is life.context.call_id))
        (⊎_elim (λ holds. holds) (λ none. absurd none.1) (all life ran still))

    -- ---- a request of a call

    abbrev After : Key → Type 0
    After k = (life : Life) × (lives_between k ≡ Some life)
        × (is_open (role_of k) life.state ≡ true)

    -- it was there before, or its start was given in this round
    abbrev Known : Key → Id → Type 0
    Known k id = (After k × Among said (id, k)) ⊎ Among (starts given) (id, k)

    one_key : (x : Id) (one other : Key) → Among said (x, one) → Among said (x, other)
        → one ≡ other
    one_key x one other here there =
        only_key said (λ y. fewer_counted y said (starts given) (once y)) x one other here there

    module _ (k : Key) (commanded : client_side.IsCommanded k)
        (client : is_server (role_of k) ≡ false) where
      mild_outs : After k → AreMild k first_told.items
      mild_outs after =
          (client_then k client first_items lives_ticked after.0 no_events after.1 after.2).1

      mild_ticks : After k
          → AllByRecursion IsMild (adds transaction_machine k (lives_in past k) (tick_at now))
      mild_ticks after =
          let was =
          (client_then k client first_items lives_ticked after.0 no_events after.1 after.2).0 in
          (client_was k client (lives_in past k) now None was.before tt was.was was.still).1

      drops : (place : ℕ) (why : DropReason)
          → OutIsFrom said came_now k (After k) (out.Dropped place why)
      drops place why = tt

      items_come : AllByRecursion (ItemIs (OutIsFrom said came_now k (After k)) drops) items
      items_come =
          subst (AllByRecursion (ItemIs (OutIsFrom said came_now k (After k)) drops))
          (sym items_are)
          (items_all (OutIsFrom said came_now k (After k)) drops number first_told came_in
          (ticks_from said came_now k (After k) now (lives_in past)
          (filter (λ q. speaks (adds transaction_machine q (lives_in past q) (tick_at now)))
          (keys_of_phases key_cmp past.transactions)) started_now received_now mild_ticks)
          (items_from said came_now k (After k) first_items lives_ticked no_events
          (started_ticked said came_now now (lives_in past) started_now)
          (received_ticked said came_now now (lives_in past) received_now) requests_came
          mild_outs))

      -- what comes up under a known id is at most a provisional response
      mild_so : (its : UpKind) (own id : Id) (key : Key) → own ≡ id
          → IsFrom said came_now k (After k) its own key → Known k id → KindIsMild its
      mild_so its own id key same (inl started) (inl known) =
          started.1 (one_key own key k started.0
          (subst (λ i. Among said (i, k)) (sym same) known.1)) known.0
      mild_so its own id key same (inl started) (inr known) =
          absurd (never_twice own key k said (starts given) (once own) started.0
          (subst (λ i. Among (starts given) (i, k)) (sym same) known))
      mild_so its own id key same (inr came) (inl known) =
          absurd (apart own k (among_left said (starts given) (own, k)
          (subst (λ i. Among said (i, k)) (sym same) known.1)) came)
      mild_so its own id key same (inr came) (inr known) =
          absurd (apart own k (among_right said (starts given) (own, k)
          (subst (λ i. Among (starts given) (i, k)) (sym same) known)) came)

      harmless_kind : (its : UpKind) (own id : Id) (key : Key)
          → KindIsFrom said came_now k (After k) its own key → Known k id
          → IsHarmless id own its
      harmless_kind (kind.Request request reply_to) own id key from known = tt
      harmless_kind (kind.Ack ack) own id key from known = tt
      harmless_kind (kind.Response response) own id key from known =
          λ same. mild_status response
          (mild_so (kind.Response response) own id key (id_exact own id same) from known)
      harmless_kind its own id key from known =
          by_bool (is_id own id)
          (λ same. absurd (mild_so its own id key (id_exact own id same) from known))
          (λ other. other)

      abbrev Harmless : Option CallItem → Type 0
      Harmless input = (id : Id) → Known k id → InputIsHarmless id input

      each_harmless : (all : List (Id × Item))
          → AllByRecursion (ItemIs (OutIsFrom said came_now k (After k)) drops) all
          → AllByRecursion (λ item. Harmless (Some item)) all
      each_harmless [] come = tt
      each_harmless ((event, Up up) ∷ all) come = (
        λ id known. harmless_kind up.kind up.id id up.key come.0 known,
        each_harmless all come.1,
      )
      each_harmless ((event, User c) ∷ all) come =
          (λ id known. tt, each_harmless all come.1)

      asked_first : AskedLinked calls k now commanded client (Known k)
          (run k now (lives_between k) (orders (joined second_ticks))) calls_ticked said
      asked_first life is still =
          let left = ticks_leave k life is in
          subst (λ (named : Id × List ℕ).
          IsAsked calls k now commanded client (Known k) calls_ticked said named.0 named.1)
          (λ i. (left.id i, left.call i))
          (between left.before left.was (left.open_before still))
        where
          between : (life : Life) → lives_between k ≡ Some life
              → is_open (role_of k) life.state ≡ true
              → IsAsked calls k now commanded client (Known k) calls_ticked said life.context.id
              life.context.call_id
          between life is still =
              let was =
              (client_then k client first_items lives_ticked life no_events is still).0 in
              let first = (client_was k client (lives_in past k) now None was.before tt was.was
              was.still).0 in
              let held = linked.asked k commanded client first.before first.was first.still in
              let among : Among said (life.context.id, k) =
              subst (λ id. Among said (id, k)) (first.id ∙ was.id)
              (linked.started k client first.before first.was) in
              record {
                holds = subst (λ (named : Id × List ℕ). client_side.Holds k named.0
                    (side_held (calls_ticked named.1)).clients)
                    (λ i. ((first.id ∙ was.id) i, (first.call ∙ was.call) i))
                    (tick_asked k first.before.context.id commanded calls
                    (calls_in config past first.before.context.call_id) now held);
                started = among;
                known = inl ((life, is, still), among);
              }

      own_ticked : (q : List ℕ) → IsCallOf q (calls_ticked q)
      own_ticked q = (each_notice_is_own calls q (calls_in config past q) None now (own q) tt).0

      asked_after : (life : Life) → lives_in (past_after config number past round) k ≡ Some life
          → is_open (role_of k) life.state ≡ true
          → client_side.Holds k life.context.id (side_held
          (calls_in config (past_after config number past round) life.context.call_id)).clients
      asked_after life is still =
          let outs = says calls k now calls_ticked second_items in
          let same = starts_are k in
          let all = asked_sim calls k now commanded client (Known k) second_items calls_ticked
          (run k now (lives_between k) (orders (joined second_ticks))) said own_ticked
          second_own_items
          (all_given now Harmless 0 items (each_harmless items items_come))
          (λ x. subst (λ more. how_many x (ids_of (said ++ more)) ≤ 1) same (once x))
          (λ id among. inr (subst (λ (more : List (Id × Key)). Among more (id, k)) (sym same)
          among))
          asked_first in
          let ran : run k now (run k now (lives_between k) (orders (joined second_ticks)))
          (orders outs) ≡ Some life =
          sym (in_parts calls k now (lives_between k) (joined second_ticks) outs)
          ∙ (ap (λ outs. run k now (lives_between k) (orders outs)) (sym (given_is k))
          ∙ (sym (after_is k) ∙ is)) in
          subst (λ (call : Option Call). client_side.Holds k life.context.id
          (side_held call).clients)
          (sym (calls_after_is life.context.call_id)) (all life ran still).holds

    -- ---- all of it

    pub linked_after : IsLinked config (past_after config number past round)
        (said ++ starts given) came_now
    linked_after = record {
      started = started_after;
      received = received_after;
      served = served_after;
      asked = λ k commanded client. asked_after k commanded client;
    }
