-- The application is told of at most one outcome of each request.
use Rattle.std.proofs.Common.{◌≡◌, ◌⊎◌, inl, inr, ⊎_elim, ℕ, suc, ◌+◌, ◌≤◌, Bool, true, false, cond, ◌&&◌, List, [], ◌∷◌, ◌++◌, map, nat_eq, refl, sym, ap, ◌∙◌, append_assoc, append-nil, subst, arith}
use Rattle.std.specs.Prelude.{Option, None, Some, count_by, filter}
use Rattle.std.specs.BTreeMap.{is_at}
use Rattle.std.specs.List.{AllByRecursion, flat_map}
use Rattle.std.proofs.lemmas.Bool.{false≢true, and_parts}
use Rattle.std.proofs.lemmas.Grind.{common_steps}
use Rattle.std.proofs.lemmas.List.{map-append}
use Rattle.sip_message.specs.Key.{key_cmp, keys_total}
use Rattle.sip_message.specs.declared.addr.Addr.{Addr}
use Rattle.sip_message.specs.declared.id.Id.{Id}
use Rattle.sip_message.specs.declared.key.Key.{Key}
use Rattle.keyed_machine.specs.declared.item.Item as model
use Rattle.keyed_machine.specs.Groups.{speaks}
use Rattle.keyed_machine.specs.Machine.{Timed, adds, tick_at}
use Rattle.keyed_machine.specs.Phase.{keys_of_phases, stepped, timed_items, told_items}
use Rattle.keyed_machine.proofs.Ordered.{by_bool, is_at_itself}
use Rattle.keyed_machine.proofs.Phases.{phases_cover}
use Rattle.sip_transactions.specs.Idle.{ticks_are_idle}
use Rattle.sip_transactions.specs.declared.input.Input.{Input}
use Rattle.sip_transactions.specs.declared.life.Life.{Life}
use Rattle.sip_transactions.specs.declared.output.Out.{Out}
use Rattle.sip_transactions.specs.declared.output.Out.TheVariants as out
use Rattle.sip_transactions.specs.declared.output.UpKind.{UpKind}
use Rattle.sip_transactions.specs.declared.output.UpKind.TheVariants as kind
use Rattle.sip_transactions.specs.declared.state.Role.TheVariants as role
use Rattle.sip_transactions.specs.Machine.{life_due, transaction_machine}
use Rattle.sip_transactions.specs.Steps.Input.{role_of}
use Rattle.sip_user.specs.Command.{call_of_item}
use Rattle.sip_user.specs.declared.item.CallOut.{CallOut}
use Rattle.sip_user.specs.declared.item.CallOut.TheVariants as call_out
use Rattle.sip_user.specs.declared.item.Item.{Item}
use Rattle.sip_user.specs.declared.item.Item.TheVariants.{Up, User}
use Rattle.sip_held_dialogs.specs.Ids.{is_id}
use Rattle.sip_held_dialogs.proofs.Starts.{starts}
use Rattle.sip_clients.proofs.FirstInvite.{id_exact}
use Rattle.sip_calls.specs.declared.call.Call.{Call}
use Rattle.sip_calls.specs.declared.calls.Calls.{Calls}
use Rattle.sip_calls.specs.Call.{CallItem, call_machine}
use Rattle.sip_calls.specs.CallShard.{call_cmp}
use Rattle.sip_calls.proofs.CallStarts.{how_many, ids_of}
use Rattle.sip_round.specs.declared.config.Config.{Config}
use Rattle.sip_round.specs.declared.output.Output.TheVariants as output
use Rattle.sip_round.specs.declared.round.Event.{Event}
use Rattle.sip_round.specs.declared.round.Round.{Round}
use Rattle.sip_round.specs.Answers.{Past, answer, answers, arrivals, calls_of, each_from, first, given_second, items_of_round, no_past, past_after, past_from, past_of, said_by_transactions, third}
use Rattle.sip_round.specs.Arrivals as arrival
use Rattle.sip_round.specs.Arrivals.{Arrival, arrival_of, arrivals_from}
use Rattle.sip_round.specs.Given.{all_given}
use Rattle.sip_round.specs.Outputs.{all_said, call_outputs, joined, outs_of, raised_of, said_at, sent_of, user_items}
use Rattle.sip_round.specs.Phases.{call_items, transaction_item, transaction_items}
use Rattle.sip_round.proofs.AnswerParts.{answer_parts, sent_first}
use Rattle.sip_round.proofs.CallEvents.{TellsAt, arrivals_climb, none_later}
use Rattle.sip_round.proofs.StartedOnce.{how_many-append}
use Rattle.sip_agent_laws.specs.Agents.Open.{is_open}
use Rattle.sip_agent_laws.specs.Agents.Outcomes.{AtMostOneIsTold, outcomes_told, tells_outcome}
use Rattle.sip_agent_laws.specs.Transactions.Outcomes.{is_outcome}
use Rattle.sip_agent_laws.proofs.agents.Apart.{requests_from, starts_from}
use Rattle.sip_agent_laws.proofs.agents.Commands.{run, run_on, orders}
use Rattle.sip_agent_laws.proofs.agents.EachOutcome.{number_from, walk}
use Rattle.sip_agent_laws.proofs.agents.FirstOuts.{KindIsFrom, OutIsFrom, items_from, received_ticked, started_ticked, ticks_from}
use Rattle.sip_agent_laws.proofs.agents.Going.{open_lacks}
use Rattle.sip_agent_laws.proofs.agents.Items.{requests_among}
use Rattle.sip_agent_laws.proofs.agents.Linked.{IsLinked, after_is, calls_in, calls_ticked, came_in, first_items, first_ticks, first_told, given_is, items, items_are, lives_between, lives_in, lives_ticked, no_events, received_now, requests_came, second_items, second_ticks, started_now}
use Rattle.sip_agent_laws.proofs.agents.LinkedRounds.{IsFair, all_fair, apart_now, behind_now, fair_next, linked_next, nothing_linked, once_now}
use Rattle.sip_agent_laws.proofs.agents.Lists.{Among, among_left}
use Rattle.sip_agent_laws.proofs.agents.OneUp.{came, count_both, count_first, count_less, count_miss, items_once, left, mine, one_step, ticks_once}
use Rattle.sip_agent_laws.proofs.agents.OpenLives.{is_server}
use Rattle.sip_agent_laws.proofs.agents.SecondPhase.{among_ids, among_orders, among_starts, only_key, says, some_counted}
use Rattle.sip_agent_laws.proofs.calls.OneTold.{brings_outcome, counted, one_told, tells_of}
use Rattle.sip_agent_laws.proofs.transactions.Ends.{lack, lacks}

module _ (x : Id) where
  -- the outcome of the request comes up
  abbrev comes : Out → Bool
  comes (out.Up up) = is_id x up.id && is_outcome up.kind
  comes (out.Send key to bytes) = false
  comes (out.Dropped place why) = false

  abbrev coming : List Out → ℕ
  coming outs = count_by comes outs

  -- it is given to a call
  abbrev pub brings : Id × Item → Bool
  brings item = brings_outcome x (Some item)

  abbrev pub brought : List (Id × Item) → ℕ
  brought items = count_by brings items

  raised_count : (id : Id) (outs : List Out) → brought (flat_map (raised_of id) outs) ≡ coming outs
  raised_count id [] = refl
  raised_count id (out.Up up ∷ outs) =
      count_first brings (id, Up up) (flat_map (raised_of id) outs)
      ∙ (ap (λ n. cond {A = ℕ} (is_id x up.id && is_outcome up.kind) 1 0 + n)
      (raised_count id outs) ∙ sym (count_first comes (out.Up up) outs))
  raised_count id (out.Send key to bytes ∷ outs) =
      raised_count id outs ∙ sym (count_miss comes (out.Send key to bytes) outs refl)
  raised_count id (out.Dropped place why ∷ outs) =
      raised_count id outs ∙ sym (count_miss comes (out.Dropped place why) outs refl)

  -- ---- each arrival at its place

  module _ (now : ℕ) (local : Addr) (number : ℕ) where
    abbrev TransactionItems : Type 0
    TransactionItems = List (model.Item Key Input)

    abbrev tell : (Key → Option Life) → TransactionItems → List ((ℕ × Key) × List Out)
    tell states items = told_items key_cmp transaction_machine states (timed_items now items)

    abbrev given_at_places : (ℕ → List Out) → List (Id × Arrival) → List (Id × Item)
    given_at_places said came =
        flat_map (λ a. flat_map (raised_of a.0) (outs_of said a.0 a.1) ++ user_items a.0 a.1) came

    abbrev SaysSo : ℕ → (Key → Option Life) → (ℕ → List Out) → TransactionItems → Type 0
    SaysSo place states said items = (p : ℕ) → place ≤ p → said p ≡ TellsAt p (tell states items)

    same_place : (n : ℕ) → nat_eq n n ≡ true
    same_place n = grind (arith, common_steps)

    other_place : (n p : ℕ) → suc n ≤ p → nat_eq n p ≡ false
    other_place n p above = grind (arith, common_steps, above)

    one_arrival : (place : ℕ) (a : Arrival) (events : List Event) (states : Key → Option Life)
        (said : ℕ → List Out)
        → let rest = arrivals_from local number (suc place) events in
        let id : Id = record { round = number; place = place } in
        ((after : Key → Option Life) → SaysSo (suc place) after said (transaction_items rest)
        → brought (given_at_places said rest)
        ≤ coming (joined (tell after (transaction_items rest))))
        → SaysSo place states said (transaction_item id a ++ transaction_items rest)
        → brought ((flat_map (raised_of id) (outs_of said id a) ++ user_items id a)
        ++ given_at_places said rest)
        ≤ coming (joined (tell states (transaction_item id a ++ transaction_items rest)))
    one_arrival place (arrival.Transaction key input) events states said later so =
        let rest = arrivals_from local number (suc place) events in
        let id : Id = record { round = number; place = place } in
        let item : model.Item Key (Timed Input) = record {
          place = place;
          key = key;
          input = record { moment = now; input = Some input };
        } in
        let here = adds transaction_machine key (states key) item.input in
        let after : Key → Option Life = stepped key_cmp transaction_machine states item in
        let told = tell after (transaction_items rest) in
        let kept : ℕ → Bool → List Out = λ p b. joined (cond b (((place, key), here)
        ∷ filter (λ said. nat_eq (said.0).0 p) told) (filter (λ said. nat_eq (said.0).0 p) told)) in
        let mine : said place ≡ here =
        so place (omega arith) ∙ (ap (kept place) (same_place place)
        ∙ (ap (λ outs. here ++ outs) (none_later place (suc place) after
        (timed_items now (transaction_items rest)) (omega arith)
        (arrivals_climb now local number (suc place) events)) ∙ append-nil here)) in
        let others = later after (λ p above. so p (omega (arith, above))
        ∙ ap (kept p) (other_place place p above)) in
        let raised = flat_map (raised_of id) (said place) in
        omega (
          arith,
          count_both brings (raised ++ []) (given_at_places said rest),
          ap brought (append-nil raised),
          raised_count id (said place),
          ap coming mine,
          others,
          count_both comes here (joined told),
        )
    one_arrival place (arrival.Dropped why) events states said later so =
        later states (λ p above. so p (omega (arith, above)))
    one_arrival place (arrival.User command) events states said later so =
        let rest = arrivals_from local number (suc place) events in
        let id : Id = record { round = number; place = place } in
        omega (
          arith,
          count_miss brings (id, User command) (given_at_places said rest) refl,
          later states (λ p above. so p (omega (arith, above))),
        )

    arrivals_count : (events : List Event) (place : ℕ) (states : Key → Option Life)
        (said : ℕ → List Out)
        → SaysSo place states said (transaction_items (arrivals_from local number place events))
        → brought (given_at_places said (arrivals_from local number place events))
        ≤ coming (joined (tell states
        (transaction_items (arrivals_from local number place events))))
    arrivals_count [] place states said so = omega arith
    arrivals_count (event ∷ events) place states said so =
        one_arrival place (arrival_of local (record { round = number; place = place }) event) events
        states said (λ after. arrivals_count events (suc place) after said) so

  -- ---- what calls tell in a round

  module _ (calls : Calls) (now : ℕ) where
    ticks_told : (states : List ℕ → Option Call) (keys : List (List ℕ))
        → counted x (joined (map (λ q. (
          q,
          adds (call_machine calls) q (states q) (tick_at now),
        )) keys)) ≤ 0
    ticks_told states [] = omega arith
    ticks_told states (q ∷ keys) =
        let rest = joined (map (λ q. (
          q,
          adds (call_machine calls) q (states q) (tick_at now),
        )) keys) in
        omega (
          arith,
          count_both (tells_of x) (adds (call_machine calls) q (states q) (tick_at now)) rest,
          one_told x calls (states q) None now,
          ticks_told states keys,
        )

    items_told : (at : ℕ) (items : List (Id × Item)) (states : List ℕ → Option Call)
        → counted x (joined (told_items call_cmp (call_machine calls) states
        (timed_items now (call_items at items)))) ≤ brought items
    items_told at [] states = omega arith
    items_told at (i ∷ items) states =
        let item : model.Item (List ℕ) (Timed CallItem) = record {
          place = at;
          key = call_of_item i.1;
          input = record { moment = now; input = Some i };
        } in
        let machine = call_machine calls in
        let after : List ℕ → Option Call = stepped call_cmp machine states item in
        let here = adds machine item.key (states item.key) item.input in
        let rest = joined (told_items call_cmp machine after
        (timed_items now (call_items (suc at) items))) in
        omega (
          arith,
          count_both (tells_of x) here rest,
          one_told x calls (states item.key) (Some i) now,
          count_first brings i items,
          items_told (suc at) items after,
        )

-- ---- the outputs of a round

module _ (x : Id) where
  none_sent : (outs : List Out) → count_by (tells_outcome x) (flat_map sent_of outs) ≡ 0
  none_sent [] = refl
  none_sent (out.Up up ∷ outs) = none_sent outs
  none_sent (out.Send key to bytes ∷ outs) =
      count_miss (tells_outcome x) (output.Send (Some key) to bytes) (flat_map sent_of outs) refl
      ∙ none_sent outs
  none_sent (out.Dropped place why ∷ outs) =
      count_miss (tells_outcome x) (output.Dropped place why) (flat_map sent_of outs) refl
      ∙ none_sent outs

  none_arrived : (said : ℕ → List Out) (came : List (Id × Arrival))
      → count_by (tells_outcome x) (flat_map (λ a. flat_map sent_of (outs_of said a.0 a.1)) came)
      ≡ 0
  none_arrived said [] = refl
  none_arrived said (a ∷ came) =
      omega (
        arith,
        count_both (tells_outcome x) (flat_map sent_of (outs_of said a.0 a.1))
            (flat_map (λ a. flat_map sent_of (outs_of said a.0 a.1)) came),
        none_sent (outs_of said a.0 a.1),
        none_arrived said came,
      )

  all_shown : (outs : List CallOut)
      → count_by (tells_outcome x) (flat_map call_outputs outs) ≡ counted x outs
  all_shown [] = refl
  all_shown (call_out.Notice notice ∷ outs) =
      count_first (tells_outcome x) (output.Notice notice) (flat_map call_outputs outs)
      ∙ (ap (λ n. cond {A = ℕ} (tells_of x (call_out.Notice notice)) 1 0 + n) (all_shown outs)
      ∙ sym (count_first (tells_of x) (call_out.Notice notice) outs))
  all_shown (call_out.Command id command ∷ outs) =
      all_shown outs ∙ sym (count_miss (tells_of x) (call_out.Command id command) outs refl)
  all_shown (call_out.Direct to bytes ∷ outs) =
      count_miss (tells_outcome x) (output.Send None to bytes) (flat_map call_outputs outs) refl
      ∙ (all_shown outs ∙ sym (count_miss (tells_of x) (call_out.Direct to bytes) outs refl))

  round_told : (config : Config) (number : ℕ) (past : Past) (round : Round)
      → count_by (tells_outcome x) (answer config number past round)
      ≡ counted x (given_second config number past round)
  round_told config number past round =
      let told = said_by_transactions past.transactions (first config number past round) in
      let came = arrivals config number past round in
      let one = sent_first told came in
      let shown = flat_map call_outputs (given_second config number past round) in
      let last = all_said (said_by_transactions
      (past.transactions ++ first config number past round ∷ [])
      (third config number past round)) in
      omega (
        arith,
        ap (count_by (tells_outcome x)) (answer_parts config number past round),
        count_both (tells_outcome x) (one ++ shown) (flat_map sent_of last),
        count_both (tells_outcome x) one shown,
        count_both (tells_outcome x) (flat_map sent_of (joined told.ticks))
            (flat_map (λ a. flat_map sent_of (outs_of (said_at told) a.0 a.1)) came),
        none_sent (joined told.ticks),
        none_arrived (said_at told) came,
        none_sent last,
        all_shown (given_second config number past round),
      )

-- ---- one round

module _ (config : Config) (number : ℕ) (past : Past) (round : Round) (rounds : List Round)
    (said : List (Id × Key)) (before : List Id)
    (fair : IsFair config number past (round ∷ rounds) said before)
    (linked : IsLinked config past said before) (k : Key) (client : role_of k ≡ role.Client)
    (x : Id)
    (started : Among (said ++ starts_from config number past (round ∷ rounds)) (x, k)) where
  abbrev now_at : ℕ
  now_at = round.moment

  abbrev requested : List Id
  requested = before ++ requests_among (items_of_round config number past round)

  abbrev later_requests : List Id
  later_requests = requests_from config (suc number) (past_after config number past round) rounds

  -- what comes up under this id comes from this transaction
  from_kind : (its : UpKind) (id : Id) (q : Key) → KindIsFrom said requested k ⊥ its id q
      → is_outcome its ≡ true → Among said (id, q) ⊎ Among requested id
  from_kind (kind.Request request reply_to) id q from outcome = absurd (false≢true outcome)
  from_kind (kind.Ack ack) id q from outcome = absurd (false≢true outcome)
  from_kind _ id q (inl here) outcome = inl here.0
  from_kind _ id q (inr there) outcome = inr there

  own_key : (q : Key) → Among said (x, q) ⊎ Among requested x → q ≡ k
  own_key q (inl here) =
      only_key (said ++ starts_from config number past (round ∷ rounds)) fair.once x q k
      (among_left said (starts_from config number past (round ∷ rounds)) (x, q) here) started
  own_key q (inr there) =
      absurd (fair.apart x k started
      (subst (λ all. Among all x) (append_assoc before
      (requests_among (items_of_round config number past round)) later_requests)
      (among_left requested later_requests x there)))

  each_mine : (outs : List Out) → AllByRecursion (OutIsFrom said requested k ⊥) outs
      → AllByRecursion (λ o. comes x o ≡ true → mine k client x o ≡ true) outs
  each_mine [] from = tt
  each_mine (out.Up up ∷ outs) from = (
    λ is.
        let parts = and_parts (is_id x up.id) (is_outcome up.kind) is in
        let same : x ≡ up.id = id_exact x up.id parts.0 in
        let key_is : up.key ≡ k =
        own_key up.key (subst (λ i. Among said (i, up.key) ⊎ Among requested i) (sym same)
        (from_kind up.kind up.id up.key from.0 parts.1)) in
        let hit : is_at (key_cmp k) up.key ≡ true =
        ap (is_at (key_cmp k)) key_is ∙ is_at_itself keys_total k in
        λ i. hit i && is i,
    each_mine outs from.1,
  )
  each_mine (out.Send key to bytes ∷ outs) from = (λ is. is, each_mine outs from.1)
  each_mine (out.Dropped place why ∷ outs) from = (λ is. is, each_mine outs from.1)

  from_started : AllByRecursion (OutIsFrom said requested k ⊥)
      (joined (first_told config number past round).items)
  from_started =
      items_from said requested k ⊥ (first_items config number past round)
      (lives_ticked config number past round) (no_events config number past round)
      (started_ticked said requested now_at (lives_in past)
      (started_now config number past round said before linked
      (once_now config number past round rounds said before fair)
      (apart_now config number past round rounds said before fair)
      (behind_now config number past round rounds said before fair) fair.own_calls))
      (received_ticked said requested now_at (lives_in past)
      (received_now config number past round said before linked
      (once_now config number past round rounds said before fair)
      (apart_now config number past round rounds said before fair)
      (behind_now config number past round rounds said before fair) fair.own_calls))
      (requests_came config number past round said before linked
      (once_now config number past round rounds said before fair)
      (apart_now config number past round rounds said before fair)
      (behind_now config number past round rounds said before fair) fair.own_calls)
      (λ never. absurd never)

  from_ticks : AllByRecursion (OutIsFrom said requested k ⊥)
      (joined (first_ticks config number past round))
  from_ticks =
      ticks_from said requested k ⊥ now_at (lives_in past)
      (filter (λ q. speaks (adds transaction_machine q (lives_in past q) (tick_at now_at)))
      (keys_of_phases key_cmp past.transactions))
      (started_now config number past round said before linked
      (once_now config number past round rounds said before fair)
      (apart_now config number past round rounds said before fair)
      (behind_now config number past round rounds said before fair) fair.own_calls)
      (received_now config number past round said before linked
      (once_now config number past round rounds said before fair)
      (apart_now config number past round rounds said before fair)
      (behind_now config number past round rounds said before fair) fair.own_calls)
      (λ never. absurd never)

  -- so it is given to calls at most once, if it may still come up
  pub brought_once : brought x (items config number past round)
      + left k client x (lives_between config number past round k)
      ≤ left k client x (lives_in past k)
  brought_once =
      let tick_outs = joined (first_ticks config number past round) in
      let item_outs = joined (first_told config number past round).items in
      let zero : Id = record { round = number; place = 0 } in
      let came = came_in config number past round in
      let speaking = λ (q : Key).
      speaks (adds transaction_machine q (lives_in past q) (tick_at now_at)) in
      omega (
        arith,
        ap (brought x) (items_are config number past round),
        count_both (brings x) (flat_map (raised_of zero) tick_outs)
            (flat_map (λ a. flat_map (raised_of a.0)
            (outs_of (said_at (first_told config number past round)) a.0 a.1)
            ++ user_items a.0 a.1) came),
        raised_count x zero tick_outs,
        arrivals_count x now_at config.local number round.events 1
            (lives_ticked config number past round)
            (said_at (first_told config number past round)) (λ p above. refl),
        count_less (comes x) (mine k client x) tick_outs (each_mine tick_outs from_ticks),
        count_less (comes x) (mine k client x) item_outs (each_mine item_outs from_started),
        ticks_once k client x (lives_in past) now_at speaking
            (keys_of_phases key_cmp past.transactions)
            (phases_cover key_cmp transaction_machine life_due tick_at ticks_are_idle keys_total
            past.transactions).ordered,
        one_step k client x (lives_in past k) now_at None tt,
        items_once k client x (first_items config number past round)
            (lives_ticked config number past round) (no_events config number past round),
      )

  -- and the user is told of it no more often
  told_once_here : count_by (tells_outcome x) (answer config number past round)
      + left k client x (lives_between config number past round k)
      ≤ left k client x (lives_in past k)
  told_once_here =
      let calls = calls_of config in
      let second_outs = joined (second_ticks config number past round) in
      let item_outs = says calls k now_at (calls_ticked config number past round)
      (second_items config number past round) in
      omega (
        arith,
        round_told x config number past round,
        ap (counted x) (given_is config number past round k),
        count_both (tells_of x) second_outs item_outs,
        ticks_told x calls now_at (calls_in config past)
            (filter (λ q. speaks (adds (call_machine calls) q (calls_in config past q)
            (tick_at now_at))) (keys_of_phases call_cmp past.calls)),
        items_told x calls now_at 0 (items config number past round)
            (calls_ticked config number past round),
        brought_once,
      )

-- ---- the third phase

module _ (k : Key) (client : role_of k ≡ role.Client) (x : Id) (now : ℕ) where
  lacks_open : (life : Life) → lacks (role_of k) life.state ≡ true
      → is_open (role_of k) life.state ≡ true
  lacks_open life is =
      ap (λ r. is_open r life.state) client ∙ (open_lacks life.state
      ∙ (ap (λ r. lacks r life.state) (sym client) ∙ is))

  open_so : (life : Life) → is_open (role_of k) life.state ≡ true
      → lacks (role_of k) life.state ≡ true
  open_so life is =
      ap (λ r. lacks r life.state) client ∙ (sym (open_lacks life.state)
      ∙ (ap (λ r. is_open r life.state) (sym client) ∙ is))

  all_left : (life : Life) → is_id x life.context.id ≡ true
      → lacks (role_of k) life.state ≡ true → left k client x (Some life) ≡ 1
  all_left life mine lacking = λ i. cond {A = ℕ} (mine i) (cond (lacking i) 1 0) 0

  none_left : (life : Life) → lacks (role_of k) life.state ≡ false
      → left k client x (Some life) ≡ 0
  none_left life over =
      ap (λ n. cond (is_id x life.context.id) n 0) (ap (λ b. cond {A = ℕ} b 1 0) over)
      ∙ nothing (is_id x life.context.id)
    where
      nothing : (b : Bool) → cond {A = ℕ} b 0 0 ≡ 0
      nothing true = refl
      nothing false = refl

  -- it may come up afterwards only if it could before, or the request is started
  pub orders_leave : (held : Option Life) (outs : List CallOut)
      → left k client x (run k now held (orders outs))
      ≤ left k client x held + how_many x (ids_of (starts outs))
  orders_leave held outs = by_life (run k now held (orders outs)) refl
    where
      by_life : (after : Option Life) → run k now held (orders outs) ≡ after
          → left k client x after ≤ left k client x held + how_many x (ids_of (starts outs))
      by_life None is = omega arith
      by_life (Some life) is =
          by_bool (is_id x life.context.id)
          (λ mine. by_bool (lacks (role_of k) life.state)
          (λ lacking. ⊎_elim
          (λ kept. omega (
            arith,
            all_left life mine lacking,
            ap (left k client x) kept.was,
            all_left kept.before (ap (is_id x) kept.id ∙ mine)
                (open_so kept.before (kept.open_before (lacks_open life lacking))),
          ))
          (λ new. omega (
            arith,
            all_left life mine lacking,
            some_counted x (ids_of (starts outs)) (among_ids (starts outs) x k
                (subst (λ i. Among (starts outs) (i, k)) (sym (id_exact x life.context.id mine))
                (among_starts k life.context.call_id outs life.context.id new.command
                (among_orders outs life.context.id new.command new.among) new.start))),
          ))
          (run_on k now (orders outs) held life is))
          (λ over. omega (arith, none_left life over)))
          (λ other. omega (arith, ap (λ b. cond {A = ℕ} b (lack (role_of k) life.state) 0) other))

-- ---- all rounds

module _ (config : Config) (k : Key) (client : role_of k ≡ role.Client) (x : Id) where
  rounds_once : (rounds : List Round) (number : ℕ) (past : Past) (said : List (Id × Key))
      (before : List Id) → IsFair config number past rounds said before
      → IsLinked config past said before
      → Among (said ++ starts_from config number past rounds) (x, k)
      → count_by (tells_outcome x) (all_given (each_from answer config number past rounds))
      ≤ left k client x (lives_in past k)
      + how_many x (ids_of (starts_from config number past rounds))
  rounds_once [] number past said before fair linked started = omega arith
  rounds_once (round ∷ rounds) number past said before fair linked started =
      let after = past_after config number past round in
      let here = starts (given_second config number past round) in
      let more = starts_from config (suc number) after rounds in
      omega (
        arith,
        count_both (tells_outcome x) (answer config number past round)
            (all_given (each_from answer config (suc number) after rounds)),
        told_once_here config number past round rounds said before fair linked k client x started,
        ap (left k client x) (after_is config number past round k),
        orders_leave k client x round.moment (lives_between config number past round k)
            (given_second config number past round),
        rounds_once rounds (suc number) after (said ++ here)
            (before ++ requests_among (items_of_round config number past round))
            (fair_next config number past round rounds said before fair)
            (linked_next config number past round rounds said before fair linked)
            (subst (λ all. Among all (x, k)) (sym (append_assoc said here more)) started),
        ap (how_many x) (map-append (λ s. s.0) here more),
        how_many-append x (ids_of here) (ids_of more),
      )

  starts_parts : (rounds more : List Round) (number : ℕ) (past : Past)
      → starts_from config number past (rounds ++ more)
      ≡ starts_from config number past rounds
      ++ starts_from config (number_from config k number rounds)
      (past_from config number past rounds) more
  starts_parts [] more number past = refl
  starts_parts (round ∷ rounds) more number past =
      let here = starts (given_second config number past round) in
      let after = past_after config number past round in
      ap (λ rest. here ++ rest) (starts_parts rounds more (suc number) after)
      ∙ sym (append_assoc here (starts_from config (suc number) after rounds)
      (starts_from config (number_from config k (suc number) rounds)
      (past_from config (suc number) after rounds) more))

pub at_most_one_is_told : AtMostOneIsTold
unfolding past_of answers
at_most_one_is_told config earlier later round key id sends =
    let first_rounds = earlier ++ round ∷ [] in
    let all = first_rounds ++ later in
    let start = config.first in
    let client = sends.other in
    let x = sends.life.context.id in
    let reached = walk config key first_rounds later start no_past [] [] (all_fair config all)
    (nothing_linked config) in
    let among : Among (starts_from config start no_past first_rounds) (x, key) =
    subst (λ said. Among said (x, key)) reached.4
    (reached.3.started key (ap is_server client) sends.life sends.begins) in
    let started : Among (starts_from config start no_past all) (x, key) =
    subst (λ said. Among said (x, key))
    (sym (starts_parts config key client x first_rounds later start no_past))
    (among_left (starts_from config start no_past first_rounds) _ (x, key) among) in
    let once = rounds_once config key client x all start no_past [] [] (all_fair config all)
    (nothing_linked config) started in
    let few = (all_fair config all).once x in
    let whole : outcomes_told config all x ≤ 1 = omega (arith, once, few) in
    subst (λ rounds. outcomes_told config rounds id ≤ 1) (append_assoc earlier (round ∷ []) later)
    (subst (λ i. outcomes_told config all i ≤ 1) sends.id_is whole)
