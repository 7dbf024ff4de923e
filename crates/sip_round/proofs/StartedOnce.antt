-- In any rounds, a client transaction is started at most once under an id. This is the id of the
-- event with which it starts, or of the command whose CANCEL waited.
use Rattle.std.proofs.Common.{◌≡◌, ℕ, suc, ◌+◌, ◌≤◌, true, false, cond, List, [], ◌∷◌, ◌++◌, map, refl, sym, ap, subst, ◌∙◌, zero-add, arith}
use Rattle.std.specs.Prelude.{Option, None, filter}
use Rattle.std.specs.List.{AllByRecursion, IsDistinct}
use Rattle.std.proofs.lemmas.Grind.{common_steps}
use Rattle.std.proofs.lemmas.Cmp.{nat_list_cmp_total}
use Rattle.std.proofs.lemmas.List.{map-append}
use Rattle.std.proofs.lemmas.List.Elements.{filter_map-append}
use Rattle.std.proofs.lemmas.List.Sums.{sum_by-append, sum_by-cons}
use Rattle.std.proofs.lemmas.Map.Lookups.{exact_bytes}
use Rattle.std.proofs.lemmas.Map.Keys.{IsDistinct-cons, IsDistinct-head, IsDistinct-tail}
use Rattle.sip_message.specs.declared.id.Id.{Id}
use Rattle.keyed_machine.specs.Machine.{Machine, adds, next, Timed, tick_at}
use Rattle.keyed_machine.specs.Phase.{keys_of_phases, states_after, states_then, timed_items}
use Rattle.keyed_machine.specs.Groups.{speaks}
use Rattle.keyed_machine.proofs.Ordered.{by_bool}
use Rattle.keyed_machine.proofs.Phases.{states_after_phase}
use Rattle.keyed_machine.proofs.Token.{Budget, KeepsToken, Spent, budget_from, budget_kept, coming_with, spend_items}
use Rattle.sip_user.specs.declared.item.CallOut.{CallOut}
use Rattle.sip_user.specs.declared.item.Item.{Item}
use Rattle.sip_held_dialogs.specs.Ids.{is_id}
use Rattle.sip_held_dialogs.proofs.Entries.{none_apart}
use Rattle.sip_held_dialogs.proofs.Starts.{start_in, starts}
use Rattle.sip_calls.specs.declared.call.Call.{Call}
use Rattle.sip_calls.specs.declared.calls.Calls.{Calls}
use Rattle.sip_calls.specs.Call.{call_machine, CallItem}
use Rattle.sip_calls.specs.CallShard.{call_cmp}
use Rattle.sip_calls.specs.Provisionals.{event_in}
use Rattle.sip_calls.proofs.CallStarts.{call_starts, count_option, how_many, id_exact, ids_of, tick_silent, waiting_in, weight}
use Rattle.sip_round.specs.declared.config.Config.{Config}
use Rattle.sip_round.specs.declared.round.Round.{Round}
use Rattle.sip_round.specs.Answers.{Past, calls_of, given_second, items_of_round, no_past, past_after, second}
use Rattle.sip_round.specs.Outputs.{all_said, joined}
use Rattle.sip_round.specs.Phases.{call_items}
use Rattle.sip_round.proofs.CallEvents.{item_event, round_placed}
use Rattle.sip_round.proofs.EventsRise.{Rise, places_from, rise_after, rise_apart}
use Rattle.sip_round.proofs.FewUps.{events_of}
use Rattle.sip_round.proofs.Said.{calls_say, told_by_calls}

-- ---- ids that differ

pub how_many-append : (x : Id) (xs ys : List Id)
    → how_many x (xs ++ ys) ≡ how_many x xs + how_many x ys
how_many-append x xs ys = sum_by-append (λ y. cond (is_id x y) 1 0) xs ys

pub counted : (x y : Id) (ys : List Id)
    → how_many x (y ∷ ys) ≡ cond (is_id x y) 1 0 + how_many x ys
counted x y ys = sum_by-cons (λ z. cond (is_id x z) 1 0) y ys

pub counted_one : (x y : Id) (ys : List Id) → is_id x y ≡ true → how_many x (y ∷ ys)
    ≡ 1 + how_many x ys
counted_one x y ys is = counted x y ys ∙ ap (λ b. cond b 1 0 + how_many x ys) is

counted_none : (x y : Id) (ys : List Id) → is_id x y ≡ false → how_many x (y ∷ ys) ≡ how_many x ys
counted_none x y ys isnt =
    counted x y ys ∙ ap (λ b. cond b 1 0 + how_many x ys) isnt ∙ zero-add (how_many x ys)

none_counted : (x : Id) (xs : List Id) → AllByRecursion (λ y. is_id x y ≡ false) xs
    → how_many x xs ≡ 0
none_counted x [] all = refl
none_counted x (y ∷ ys) all = counted_none x y ys all.0 ∙ none_counted x ys all.1

-- each of several different ids is there at most once
pub once_of_distinct : (x : Id) (xs : List Id) → IsDistinct is_id xs → how_many x xs ≤ 1
once_of_distinct x [] apart = omega arith
once_of_distinct x (y ∷ ys) apart =
    by_bool (is_id x y)
    (λ is. let none = none_counted x ys (subst (λ z. AllByRecursion (λ w. is_id z w ≡ false) ys)
    (sym (id_exact x y is)) (IsDistinct-head is_id y ys apart)) in
    omega (arith, counted_one x y ys is, none))
    (λ isnt. omega (
      arith,
      counted_none x y ys isnt,
      once_of_distinct x ys
          (IsDistinct-tail is_id y ys apart),
    ))

none_of_counted : (x : Id) (xs : List Id) → how_many x xs ≡ 0
    → AllByRecursion (λ y. is_id x y ≡ false) xs
none_of_counted x [] none = tt
none_of_counted x (y ∷ ys) none =
    by_bool (is_id x y)
    (λ is. absurd (omega (arith, counted_one x y ys is, none)))
    (λ isnt. (isnt, none_of_counted x ys (sym (counted_none x y ys isnt) ∙ none)))

pub one_more_of_both : (x y : Id) (xs ys : List Id) → how_many x xs ≤ how_many x ys
    → how_many x (y ∷ xs) ≤ how_many x (y ∷ ys)
one_more_of_both x y xs ys few = omega (arith, counted x y xs, counted x y ys, few)

pub one_more_beside : (x y : Id) (xs ys : List Id) → how_many x xs ≤ how_many x ys
    → how_many x xs ≤ how_many x (y ∷ ys)
one_more_beside x y xs ys few = omega (arith, counted x y ys, few)

at_least : (x y : Id) (ys : List Id) → how_many x ys ≤ how_many x (y ∷ ys)
at_least x y ys = omega (arith, counted x y ys)

id_itself : (x : Id) → is_id x x ≡ true
id_itself x = grind (arith, common_steps)

is_itself : (x : Id) (xs : List Id) → how_many x (x ∷ xs) ≡ 1 + how_many x xs
is_itself x xs = counted_one x x xs (id_itself x)

-- ids each of which is there at most once are different
pub distinct_of_once : (xs : List Id) → ((x : Id) → how_many x xs ≤ 1) → IsDistinct is_id xs
distinct_of_once [] once = none_apart is_id
distinct_of_once (y ∷ ys) once =
    IsDistinct-cons is_id y ys
    (none_of_counted y ys (omega (arith, once y, is_itself y ys)))
    (distinct_of_once ys (λ x. omega (arith, at_least x y ys, once x)))

no_more : (f : Option Call → ℕ) (x y : Option Call) → x ≡ y → f y ≤ f x
no_more f x y same = omega (arith, ap f same)

-- ---- what the calls start in a round

-- a tick starts nothing
pub ticks_start : (calls : Calls) (now : ℕ) (states : List ℕ → Option Call) (keys : List (List ℕ))
    → starts (joined (map (λ key. (
      key,
      adds (call_machine calls) key (states key) (tick_at now),
    )) keys)) ≡ []
ticks_start calls now states [] = refl
ticks_start calls now states (key ∷ keys) =
    filter_map-append start_in (adds (call_machine calls) key (states key) (tick_at now))
    (joined (map (λ key. (key, adds (call_machine calls) key (states key) (tick_at now))) keys))
    ∙ (λ i. tick_silent calls (states key) now i ++ ticks_start calls now states keys i)

module _ (calls : Calls) (x : Id) where
  abbrev waits : Option Call → ℕ
  waits state = how_many x (waiting_in state)

  abbrev comes : Timed CallItem → ℕ
  comes timed = weight (is_id x) (event_in timed.input)

  abbrev goes : List CallOut → ℕ
  goes outs = how_many x (ids_of (starts outs))

  abbrev machine : Machine (List ℕ) Call (Timed CallItem) CallOut
  machine = call_machine calls

  abbrev States : Type 0
  States = List ℕ → Option Call

  abbrev Left : ℕ → States → ℕ → Type 0
  Left = Budget call_cmp waits

  keeps : KeepsToken {cmp = call_cmp} nat_list_cmp_total exact_bytes machine waits comes goes
  keeps key state timed = (call_starts calls state timed.input timed.moment).few x

  goes_in_parts : (xs ys : List CallOut) → goes (xs ++ ys) ≡ goes xs + goes ys
  goes_in_parts xs ys =
      ap (λ s. how_many x (ids_of s)) (filter_map-append start_in xs ys)
      ∙ ap (how_many x) (map-append (λ s. s.0) (starts xs) (starts ys))
      ∙ how_many-append x (ids_of (starts xs)) (ids_of (starts ys))

  -- as many come as there are events with this id
  coming : (now at : ℕ) (items : List (Id × Item))
      → coming_with nat_list_cmp_total exact_bytes machine waits comes goes
      (timed_items now (call_items at items)) ≡ how_many x (events_of items)
  coming now at [] = refl
  coming now at (i ∷ items) =
      ap (λ n. weight (is_id x) (item_event i) + n) (coming now (suc at) items)
      ∙ sym (count_option (is_id x) (item_event i) (events_of items))

  tick_waits : (now : ℕ) (states : States) (q : List ℕ)
      → waits (next machine q (states q) (tick_at now)) ≤ waits (states q)
  tick_waits now states q =
      omega (arith, (call_starts calls (states q) None now).few x)

round_starts : (config : Config) (number : ℕ) (past : Past) (round : Round) (x : Id)
    (most later : ℕ)
    → Left (calls_of config) x most
    (states_after call_cmp (call_machine (calls_of config)) tick_at past.calls)
    (how_many x (events_of (items_of_round config number past round)) + later)
    → Spent call_cmp (waits (calls_of config) x) most
    (how_many x (ids_of (starts (given_second config number past round))))
    (states_after call_cmp (call_machine (calls_of config)) tick_at
    (past_after config number past round).calls) later
unfolding given_second second past_after
round_starts config number past round x most later budget =
    let calls = calls_of config in
    let machine = call_machine calls in
    let items = items_of_round config number past round in
    let phase = second config number past round in
    let timed = timed_items round.moment (call_items 0 items) in
    let before = states_after call_cmp machine tick_at past.calls in
    let between : List ℕ → Option Call = λ q. next machine q (before q) (tick_at round.moment) in
    let after = states_after call_cmp machine tick_at (past.calls ++ phase ∷ []) in
    let told = told_by_calls calls past.calls phase in
    let keys = filter (λ key. speaks
    (adds machine key (before key) (tick_at round.moment)))
    (keys_of_phases call_cmp past.calls) in
    let left = budget_kept call_cmp (waits calls x) most before between
    (how_many x (events_of items) + later) (tick_waits calls x round.moment before) budget in
    let spent = spend_items nat_list_cmp_total exact_bytes machine (waits calls x) (comes calls x)
    (goes calls x) (keeps calls x) (refl, goes_in_parts calls x) most between timed later
    (subst (λ n. Left calls x most between (n + later)) (sym (coming calls x round.moment 0 items))
    left) in
    subst (λ said. Spent call_cmp (waits calls x) most
    (how_many x (ids_of (starts (all_said said)))) after later)
    (calls_say calls past.calls phase)
    (record {
      left = spent.left;
      within = subst (λ n. n + spent.left ≤ most)
          (sym (goes_in_parts calls x (joined told.ticks) (joined told.items)
          ∙ ap (λ s. how_many x (ids_of s) + goes calls x (joined told.items))
          (ticks_start calls round.moment before keys)
          ∙ zero-add (goes calls x (joined told.items)))) spent.within;
      budget = budget_kept call_cmp (waits calls x) spent.left
          (states_then call_cmp machine between timed) after later
          (λ q. no_more (waits calls x) (states_then call_cmp machine between timed q) (after q)
          (sym (states_after_phase nat_list_cmp_total exact_bytes machine tick_at past.calls
          phase q)))
          spent.budget;
    })

-- ---- over rounds

-- the events of the items in all rounds
abbrev pub events_from : Config → ℕ → Past → List Round → List Id
events_from config number past [] = []
events_from config number past (round ∷ rounds) =
    events_of (items_of_round config number past round)
    ++ events_from config (suc number) (past_after config number past round) rounds

pub events_rise : (config : Config) (number : ℕ) (past : Past) (rounds : List Round)
    → Rise number 0 (events_from config number past rounds)
events_rise config number past [] = tt
events_rise config number past (round ∷ rounds) =
    let items = items_of_round config number past round in
    rise_after number 0 (events_of items)
    (events_from config (suc number) (past_after config number past round) rounds)
    (places_from number 0 1 (events_of items) (omega arith) (round_placed config number past round))
    (events_rise config (suc number) (past_after config number past round) rounds)

-- all that the calls start in rounds
abbrev pub started_from : Config → ℕ → Past → List Round → List Id
started_from config number past [] = []
started_from config number past (round ∷ rounds) =
    ids_of (starts (given_second config number past round))
    ++ started_from config (suc number) (past_after config number past round) rounds

started_within : (config : Config) (rounds : List Round) (number : ℕ) (past : Past) (x : Id)
    (most : ℕ)
    → Left (calls_of config) x most
    (states_after call_cmp (call_machine (calls_of config)) tick_at past.calls)
    (how_many x (events_from config number past rounds))
    → how_many x (started_from config number past rounds) ≤ most
started_within config [] number past x most budget = omega arith
started_within config (round ∷ rounds) number past x most budget =
    let next = past_after config number past round in
    let items = items_of_round config number past round in
    let later = events_from config (suc number) next rounds in
    let spent = round_starts config number past round x most (how_many x later)
    (subst (Left (calls_of config) x most
    (states_after call_cmp (call_machine (calls_of config)) tick_at past.calls))
    (how_many-append x (events_of items) later) budget) in
    let rest = started_within config rounds (suc number) next x spent.left spent.budget in
    omega (
      arith,
      how_many-append x (ids_of (starts (given_second config number past round)))
          (started_from config (suc number) next rounds),
      spent.within,
      rest,
    )

-- at most one is started under each id
pub started_once : (config : Config) (rounds : List Round) (x : Id)
    → how_many x (started_from config config.first no_past rounds) ≤ 1
started_once config rounds x =
    let events = events_from config config.first no_past rounds in
    started_within config rounds config.first no_past x 1
    (budget_from call_cmp (waits (calls_of config) x)
    (states_after call_cmp (call_machine (calls_of config)) tick_at [])
    (how_many x events)
    (once_of_distinct x events (rise_apart config.first 0 events
    (events_rise config config.first no_past rounds)))
    (λ q. refl))
