-- No client transaction is started under the id of a request that came up.
use Rattle.std.proofs.Common.{◌≡◌, inl, ℕ, suc, ◌+◌, ◌≤◌, List, [], ◌∷◌, ◌++◌, refl, sym, ap, ◌∙◌, zero-add, subst, arith}
use Rattle.std.specs.Prelude.{Option, None, Some, filter, filter_map}
use Rattle.std.proofs.lemmas.Cmp.{nat_list_cmp_total}
use Rattle.std.proofs.lemmas.List.{map-append}
use Rattle.std.proofs.lemmas.List.Elements.{filter_map-append}
use Rattle.std.proofs.lemmas.Map.Lookups.{exact_bytes}
use Rattle.sip_message.specs.declared.id.Id.{Id}
use Rattle.sip_message.specs.declared.key.Key.{Key}
use Rattle.keyed_machine.specs.Groups.{speaks}
use Rattle.keyed_machine.specs.Machine.{Machine, Timed, adds, next, tick_at}
use Rattle.keyed_machine.specs.Phase.{keys_of_phases, states_after, states_then, timed_items}
use Rattle.keyed_machine.proofs.Phases.{states_after_phase}
use Rattle.keyed_machine.proofs.Token.{Budget, KeepsToken, Spent, budget_kept, coming_with, spend_items}
use Rattle.sip_transactions.specs.declared.output.UpKind.{UpKind}
use Rattle.sip_transactions.specs.declared.output.UpKind.TheVariants as kind
use Rattle.sip_transactions.specs.declared.output.Up.{Up as AnUp}
use Rattle.sip_user.specs.declared.item.CallOut.{CallOut}
use Rattle.sip_user.specs.declared.item.Item.{Item}
use Rattle.sip_user.specs.declared.item.Item.TheVariants.{Up, User}
use Rattle.sip_held_dialogs.specs.Ids.{is_id}
use Rattle.sip_held_dialogs.proofs.Starts.{start_in, starts}
use Rattle.sip_served.specs.State.{ServedTaken}
use Rattle.sip_served.specs.Rules.Arrivals.{server_received}
use Rattle.sip_served.proofs.ArrivalRules.{kind_same}
use Rattle.sip_served.proofs.NoStarts.{kind_starts}
use Rattle.sip_clients.specs.Client.{Side}
use Rattle.sip_clients.proofs.StartBounds.{waiting}
use Rattle.sip_clients.proofs.Tally.{count_option, weight}
use Rattle.sip_calls.specs.declared.call.Call.{Call}
use Rattle.sip_calls.specs.declared.calls.Calls.{Calls}
use Rattle.sip_calls.specs.Call.{CallItem, call_machine, call_step, event_of, kept_call, made_tag, new_call, received}
use Rattle.sip_calls.specs.CallShard.{call_cmp}
use Rattle.sip_calls.specs.HeldRequests.{id_of_kind, request_brought}
use Rattle.sip_calls.specs.Provisionals.{event_in, event_of_kind}
use Rattle.sip_calls.specs.Sides.{by_server}
use Rattle.sip_calls.proofs.CallStarts.{call_starts, how_many, ids_of, waiting_in}
use Rattle.sip_calls.proofs.KeptSides.{kept_side}
use Rattle.sip_round.specs.declared.config.Config.{Config}
use Rattle.sip_round.specs.declared.round.Round.{Round}
use Rattle.sip_round.specs.Answers.{Past, calls_of, given_second, items_of_round, no_past, past_after, second}
use Rattle.sip_round.specs.Outputs.{all_said, joined}
use Rattle.sip_round.specs.Phases.{call_items}
use Rattle.sip_round.proofs.EventsRise.{rise_apart}
use Rattle.sip_round.proofs.FewUps.{events_of}
use Rattle.sip_round.proofs.OwnItems.{AreOwnItems, IsItemBy, items_own}
use Rattle.sip_round.proofs.OwnRequests.{IsKindBy}
use Rattle.sip_round.proofs.Said.{calls_say, told_by_calls}
use Rattle.sip_round.proofs.StartedOnce.{events_from, events_rise, how_many-append, once_of_distinct, started_from, ticks_start}
use Rattle.sip_agent_laws.proofs.agents.Items.{requests_among}
use Rattle.sip_agent_laws.proofs.agents.Lists.{Among}
use Rattle.sip_agent_laws.proofs.agents.SecondPhase.{among_ids, some_counted}

-- ---- the events that may start something: responses and commands

abbrev starting_kind : Id → UpKind → Option Id
starting_kind id (kind.Request request reply_to) = None
starting_kind id (kind.Ack ack) = None
starting_kind id (kind.Response response) = Some id
starting_kind id kind.Timeout = None
starting_kind id kind.Failed = None

abbrev starting : Option CallItem → Option Id
starting None = None
starting (Some (id, Up up)) = starting_kind id up.kind
starting (Some (id, User command)) = Some id

abbrev starting_of : List (Id × Item) → List Id
starting_of items = filter_map (λ item. starting (Some item)) items

-- each request has the id of its event, so that event starts nothing
module _ (x : Id) where
  abbrev of : List Id → ℕ
  of ids = how_many x ids

  abbrev of_one : Option Id → ℕ
  of_one o = weight (is_id x) o

  kind_parts : (id own : Id) (k : UpKind) → IsKindBy (Some id) own k
      → of_one (starting_kind id k) + of_one (id_of_kind own k) ≤ of_one (event_of_kind id k)
  kind_parts id own (kind.Request request reply_to) is =
      let same : id ≡ own = cc in
      omega (arith, ap (λ i. of_one (Some i)) same)
  kind_parts id own _ is = omega arith

  item_parts : (id : Id) (item : Item) → IsItemBy id item
      → of_one (starting (Some (id, item))) + of_one (request_brought (Some (id, item)))
      ≤ of_one (event_in (Some (id, item)))
  item_parts id (Up up) is = kind_parts id up.id up.kind is
  item_parts id (User command) is = omega arith

  items_parts : (items : List (Id × Item)) → AreOwnItems items
      → of (starting_of items) + of (requests_among items) ≤ of (events_of items)
  items_parts [] own = omega arith
  items_parts (item ∷ items) own =
      omega (
        arith,
        item_parts item.0 item.1 (own.0).1,
        items_parts items own.1,
        count_option (is_id x) (starting (Some item)) (starting_of items),
        count_option (is_id x) (request_brought (Some item)) (requests_among items),
        count_option (is_id x) (event_in (Some item)) (events_of items),
      )

-- ---- one input

module _ (calls : Calls) (x : Id) where
  abbrev waits : Option Call → ℕ
  waits state = how_many x (waiting_in state)

  abbrev goes : List CallOut → ℕ
  goes outs = how_many x (ids_of (starts outs))

  abbrev comes : Timed CallItem → ℕ
  comes timed = weight (is_id x) (starting timed.input)

  abbrev machine : Machine (List ℕ) Call (Timed CallItem) CallOut
  machine = call_machine calls

  abbrev Few : Option Call → Option CallItem → ℕ → Type 0
  Few state input now = goes (call_step calls state input now).1
      + waits (call_step calls state input now).0 ≤ weight (is_id x) (starting input) + waits state

  none_goes : (outs : List CallOut) → starts outs ≡ [] → goes outs ≡ 0
  none_goes outs none = ap (λ s. how_many x (ids_of s)) none

  request_few : (call : Call) (event : Id) (now : ℕ) (up : AnUp) (k : UpKind)
      → starts (received call (event_of calls event now) up k).1 ≡ []
      → (received call (event_of calls event now) up k).0
      ≡ (by_server call (server_received call.served (made_tag (event_of calls event now)) up k
      now)).0
      → starting_kind event k ≡ None
      → goes (received call (event_of calls event now) up k).1
      + waits (kept_call (received call (event_of calls event now) up k).0)
      ≤ weight (is_id x) (starting_kind event k) + how_many x (waiting call.clients)
  request_few call event now up k none same starts_none =
      omega (
        arith,
        none_goes (received call (event_of calls event now) up k).1 none,
        ap (λ (c : Call). waits (kept_call c)) same,
        ap (λ (side : Side). how_many x (waiting side.clients))
            (kept_side (by_server call (server_received call.served
            (made_tag (event_of calls event now)) up k now)).0),
        ap (weight (is_id x)) starts_none,
      )

  silent_kind : (call : Call) (event : Id) (now : ℕ) (up : AnUp) (k : UpKind)
      → starts (server_received call.served (made_tag (event_of calls event now)) up k now).1 ≡ []
  silent_kind call event now up k =
      ap (λ (taken : ServedTaken). starts taken.1)
      (kind_same call.served (made_tag (event_of calls event now)) up k now)
      ∙ kind_starts call.served (made_tag (event_of calls event now)) up k now

  other_few : (state : Option Call) (event : Id) (now : ℕ) (up : AnUp)
      → weight (is_id x) (event_of_kind event up.kind)
      ≤ weight (is_id x) (starting_kind event up.kind)
      → Few state (Some (event, Up up)) now
  other_few state event now up same =
      omega (arith, (call_starts calls state (Some (event, Up up)) now).few x, same)

  up_few : (state : Option Call) (event : Id) (now : ℕ) (up : AnUp) (k : UpKind) → up.kind ≡ k
      → Few state (Some (event, Up up)) now
  up_few None event now up (kind.Request request reply_to) is =
      let call = new_call calls.local in
      subst (λ k. goes (received call (event_of calls event now) up k).1
      + waits (kept_call (received call (event_of calls event now) up k).0)
      ≤ weight (is_id x) (starting_kind event k) + 0) (sym is)
      (request_few call event now up (kind.Request request reply_to)
      (silent_kind call event now up (kind.Request request reply_to)) refl refl)
  up_few (Some call) event now up (kind.Request request reply_to) is =
      subst (λ k. goes (received call (event_of calls event now) up k).1
      + waits (kept_call (received call (event_of calls event now) up k).0)
      ≤ weight (is_id x) (starting_kind event k) + how_many x (waiting call.clients)) (sym is)
      (request_few call event now up (kind.Request request reply_to)
      (silent_kind call event now up (kind.Request request reply_to)) refl refl)
  up_few None event now up (kind.Ack ack) is =
      let call = new_call calls.local in
      subst (λ k. goes (received call (event_of calls event now) up k).1
      + waits (kept_call (received call (event_of calls event now) up k).0)
      ≤ weight (is_id x) (starting_kind event k) + 0) (sym is)
      (request_few call event now up (kind.Ack ack)
      (silent_kind call event now up (kind.Ack ack)) refl refl)
  up_few (Some call) event now up (kind.Ack ack) is =
      subst (λ k. goes (received call (event_of calls event now) up k).1
      + waits (kept_call (received call (event_of calls event now) up k).0)
      ≤ weight (is_id x) (starting_kind event k) + how_many x (waiting call.clients)) (sym is)
      (request_few call event now up (kind.Ack ack)
      (silent_kind call event now up (kind.Ack ack)) refl refl)
  up_few state event now up _ is =
      other_few state event now up (omega (
        arith,
        ap (λ k. weight (is_id x) (starting_kind event k)) is,
        ap (λ k. weight (is_id x) (event_of_kind event k)) is,
      ))

  few : (state : Option Call) (input : Option CallItem) (now : ℕ) → Few state input now
  few state (Some (event, Up up)) now = up_few state event now up up.kind refl
  few state input now = (call_starts calls state input now).few x

  -- ---- one round

  abbrev States : Type 0
  States = List ℕ → Option Call

  abbrev Left : ℕ → States → ℕ → Type 0
  Left = Budget call_cmp waits

  keeps : KeepsToken {cmp = call_cmp} nat_list_cmp_total exact_bytes machine waits comes goes
  keeps key state timed = few state timed.input timed.moment

  goes_in_parts : (xs ys : List CallOut) → goes (xs ++ ys) ≡ goes xs + goes ys
  goes_in_parts xs ys =
      ap (λ s. how_many x (ids_of s)) (filter_map-append start_in xs ys)
      ∙ ap (how_many x) (map-append (λ s. s.0) (starts xs) (starts ys))
      ∙ how_many-append x (ids_of (starts xs)) (ids_of (starts ys))

  coming : (now at : ℕ) (items : List (Id × Item))
      → coming_with nat_list_cmp_total exact_bytes machine waits comes goes
      (timed_items now (call_items at items)) ≡ how_many x (starting_of items)
  coming now at [] = refl
  coming now at (i ∷ items) =
      ap (λ n. weight (is_id x) (starting (Some i)) + n) (coming now (suc at) items)
      ∙ sym (count_option (is_id x) (starting (Some i)) (starting_of items))

  tick_waits : (now : ℕ) (states : States) (q : List ℕ)
      → waits (next machine q (states q) (tick_at now)) ≤ waits (states q)
  tick_waits now states q = omega (arith, few (states q) None now)

no_more : (f : Option Call → ℕ) (x y : Option Call) → x ≡ y → f y ≤ f x
no_more f x y same = omega (arith, ap f same)

round_starts : (config : Config) (number : ℕ) (past : Past) (round : Round) (x : Id)
    (most later : ℕ)
    → Left (calls_of config) x most
    (states_after call_cmp (call_machine (calls_of config)) tick_at past.calls)
    (how_many x (starting_of (items_of_round config number past round)) + later)
    → Spent call_cmp (waits (calls_of config) x) most
    (how_many x (ids_of (starts (given_second config number past round))))
    (states_after call_cmp (call_machine (calls_of config)) tick_at
    (past_after config number past round).calls) later
unfolding given_second second past_after
round_starts config number past round x most later budget =
    let calls = calls_of config in
    let machine = call_machine calls in
    let items = items_of_round config number past round in
    let phase = second config number past round in
    let timed = timed_items round.moment (call_items 0 items) in
    let before = states_after call_cmp machine tick_at past.calls in
    let between : List ℕ → Option Call = λ q. next machine q (before q) (tick_at round.moment) in
    let after = states_after call_cmp machine tick_at (past.calls ++ phase ∷ []) in
    let told = told_by_calls calls past.calls phase in
    let keys = filter (λ key. speaks
    (adds machine key (before key) (tick_at round.moment)))
    (keys_of_phases call_cmp past.calls) in
    let left = budget_kept call_cmp (waits calls x) most before between
    (how_many x (starting_of items) + later) (tick_waits calls x round.moment before) budget in
    let spent = spend_items nat_list_cmp_total exact_bytes machine (waits calls x) (comes calls x)
    (goes calls x) (keeps calls x) (refl, goes_in_parts calls x) most between timed later
    (subst (λ n. Left calls x most between (n + later)) (sym (coming calls x round.moment 0 items))
    left) in
    subst (λ said. Spent call_cmp (waits calls x) most
    (how_many x (ids_of (starts (all_said said)))) after later)
    (calls_say calls past.calls phase)
    (record {
      left = spent.left;
      within = subst (λ n. n + spent.left ≤ most)
          (sym (goes_in_parts calls x (joined told.ticks) (joined told.items)
          ∙ ap (λ s. how_many x (ids_of s) + goes calls x (joined told.items))
          (ticks_start calls round.moment before keys)
          ∙ zero-add (goes calls x (joined told.items)))) spent.within;
      budget = budget_kept call_cmp (waits calls x) spent.left
          (states_then call_cmp machine between timed) after later
          (λ q. no_more (waits calls x) (states_then call_cmp machine between timed q) (after q)
          (sym (states_after_phase nat_list_cmp_total exact_bytes machine tick_at past.calls
          phase q)))
          spent.budget;
    })

-- ---- over rounds

module _ (config : Config) where
  abbrev starting_from : ℕ → Past → List Round → List Id
  starting_from number past [] = []
  starting_from number past (round ∷ rounds) =
      starting_of (items_of_round config number past round)
      ++ starting_from (suc number) (past_after config number past round) rounds

  -- the ids of the requests that come up in rounds
  abbrev pub requests_from : ℕ → Past → List Round → List Id
  requests_from number past [] = []
  requests_from number past (round ∷ rounds) =
      requests_among (items_of_round config number past round)
      ++ requests_from (suc number) (past_after config number past round) rounds

  -- what the calls start in rounds
  abbrev pub starts_from : ℕ → Past → List Round → List (Id × Key)
  starts_from number past [] = []
  starts_from number past (round ∷ rounds) =
      starts (given_second config number past round)
      ++ starts_from (suc number) (past_after config number past round) rounds

  pub same_ids : (number : ℕ) (past : Past) (rounds : List Round)
      → ids_of (starts_from number past rounds) ≡ started_from config number past rounds
  same_ids number past [] = refl
  same_ids number past (round ∷ rounds) =
      let here = starts (given_second config number past round) in
      let next = past_after config number past round in
      map-append (λ s. s.0) here (starts_from (suc number) next rounds)
      ∙ ap (λ ids. ids_of here ++ ids) (same_ids (suc number) next rounds)

  started_within : (rounds : List Round) (number : ℕ) (past : Past) (x : Id) (most : ℕ)
      → Left (calls_of config) x most
      (states_after call_cmp (call_machine (calls_of config)) tick_at past.calls)
      (how_many x (starting_from number past rounds))
      → how_many x (started_from config number past rounds) ≤ most
  started_within [] number past x most budget = omega arith
  started_within (round ∷ rounds) number past x most budget =
      let next = past_after config number past round in
      let items = items_of_round config number past round in
      let later = starting_from (suc number) next rounds in
      let spent = round_starts config number past round x most (how_many x later)
      (subst (Left (calls_of config) x most
      (states_after call_cmp (call_machine (calls_of config)) tick_at past.calls))
      (how_many-append x (starting_of items) later) budget) in
      let rest = started_within rounds (suc number) next x spent.left spent.budget in
      omega (
        arith,
        how_many-append x (ids_of (starts (given_second config number past round)))
            (started_from config (suc number) next rounds),
        spent.within,
        rest,
      )

  parts : (number : ℕ) (past : Past) (rounds : List Round) (x : Id)
      → how_many x (starting_from number past rounds)
      + how_many x (requests_from number past rounds)
      ≤ how_many x (events_from config number past rounds)
  parts number past [] x = omega arith
  parts number past (round ∷ rounds) x =
      let next = past_after config number past round in
      let items = items_of_round config number past round in
      omega (
        arith,
        items_parts x items (items_own config number past round),
        parts (suc number) next rounds x,
        how_many-append x (starting_of items) (starting_from (suc number) next rounds),
        how_many-append x (requests_among items) (requests_from (suc number) next rounds),
        how_many-append x (events_of items) (events_from config (suc number) next rounds),
      )

  none_starting : (rounds : List Round) (x : Id)
      → Among (requests_from config.first no_past rounds) x
      → how_many x (starting_from config.first no_past rounds) ≡ 0
  none_starting rounds x among =
      let events = events_from config config.first no_past rounds in
      omega (
        arith,
        parts config.first no_past rounds x,
        some_counted x (requests_from config.first no_past rounds) among,
        once_of_distinct x events (rise_apart config.first 0 events
            (events_rise config config.first no_past rounds)),
      )

  -- nothing is started under the id of a request that came up
  pub never_both : (rounds : List Round) (x : Id) (key : Key)
      → Among (starts_from config.first no_past rounds) (x, key)
      → Among (requests_from config.first no_past rounds) x → ⊥
  never_both rounds x key started came =
      let none = none_starting rounds x came in
      let within = started_within rounds config.first no_past x 0
      (record {
        single = omega arith;
        kept = inl (λ q. refl, omega (arith, none));
      }) in
      absurd (omega (
        arith,
        within,
        ap (how_many x) (same_ids config.first no_past rounds),
        some_counted x (ids_of (starts_from config.first no_past rounds))
            (among_ids (starts_from config.first no_past rounds) x key started),
      ))
