-- The notices `request` that rounds give come by rising ids: each is told by the input that brings
-- the request, under the id of its own event, and events rise.
use Rattle.std.proofs.Common.{◌≡◌, ◌⊎◌, inl, inr, ℕ, suc, ◌<◌, ◌≤◌, Bool, true, false, cond, List, [], ◌∷◌, ◌++◌, map, refl, sym, ap, subst, ◌∙◌, arith}
use Rattle.std.specs.Prelude.{Option, None, Some, filter, filter_map, is_some}
use Rattle.std.specs.List.{AllByRecursion, cons_option, flat_map}
use Rattle.std.specs.List.Sorted.{IsStrictlySortedBy}
use Rattle.std.specs.declared.cmp.Ordering.TheVariants.{Less}
use Rattle.std.proofs.lemmas.Grind.{common_steps}
use Rattle.std.proofs.lemmas.List.Elements.{filter_map-append}
use Rattle.sip_message.specs.declared.id.Id.{Id}
use Rattle.keyed_machine.specs.Machine.{adds, next, tick_at}
use Rattle.keyed_machine.specs.Phase.{keys_of_phases, states_after, stepped, timed_items, told_items}
use Rattle.keyed_machine.specs.Groups.{speaks}
use Rattle.keyed_machine.proofs.Ordered.{by_bool}
use Rattle.sip_transactions.specs.Ids.{IdsRise, id_cmp}
use Rattle.sip_transactions.specs.declared.output.UpKind.{UpKind}
use Rattle.sip_transactions.specs.declared.output.UpKind.TheVariants as kind
use Rattle.sip_user.specs.declared.item.CallOut.{CallOut}
use Rattle.sip_user.specs.declared.item.CallOut.TheVariants as call_out
use Rattle.sip_user.specs.declared.item.Item.{Item}
use Rattle.sip_user.specs.declared.item.Item.TheVariants.{Up, User}
use Rattle.sip_user.specs.declared.notice.Notice.{Notice as ANotice}
use Rattle.sip_user.specs.declared.notice.Notice.TheVariants as notice
use Rattle.sip_user.specs.Command.{call_of_item}
use Rattle.sip_held_dialogs.specs.Ids.{is_id}
use Rattle.sip_user.specs.Notices.{request_told_by}
use Rattle.sip_served.specs.ForUser.{is_request}
use Rattle.sip_calls.specs.declared.call.Call.{Call}
use Rattle.sip_calls.specs.declared.calls.Calls.{Calls}
use Rattle.sip_calls.specs.Call.{call_machine}
use Rattle.sip_calls.specs.CallShard.{call_cmp, item_input}
use Rattle.sip_calls.specs.Provisionals.{event_of_kind}
use Rattle.sip_calls.specs.Requests.{comes_up_by}
use Rattle.sip_calls.proofs.CallStarts.{how_many, id_exact}
use Rattle.sip_calls.proofs.RequestsTold.{each_told_once}
use Rattle.sip_round.specs.declared.config.Config.{Config}
use Rattle.sip_round.specs.declared.output.Output.{Output}
use Rattle.sip_round.specs.declared.output.Output.TheVariants as output
use Rattle.sip_round.specs.declared.round.Round.{Round}
use Rattle.sip_round.specs.Answers.{Past, answer, answers, answers_from, calls_of, given_second, items_of_round, no_past, past_after, second}
use Rattle.sip_round.specs.Given.{GivesRequestsById, all_given, told_request}
use Rattle.sip_round.specs.Outputs.{all_said, joined, call_outputs}
use Rattle.sip_round.specs.Phases.{call_items}
use Rattle.sip_round.proofs.CallEvents.{item_event, one_left, round_placed}
use Rattle.sip_round.proofs.EventsRise.{Places, Rise, places_from, rise_after}
use Rattle.sip_round.proofs.FewUps.{events_of}
use Rattle.sip_round.proofs.NotTold.{told_in_second}
use Rattle.sip_round.proofs.OwnItems.{AreOwnItems, IsItemBy, items_own}
use Rattle.sip_round.proofs.OwnRequests.{IsKindBy}
use Rattle.sip_round.proofs.Said.{calls_say, told_by_calls}
use Rattle.sip_round.proofs.StartedOnce.{counted, counted_one}

-- ---- by the order of ids

earlier_round : (x y : Id) → x.round < y.round → id_cmp x y ≡ Less
earlier_round x y below = grind (arith, common_steps, below)

earlier_place : (x y : Id) → x.round ≡ y.round → x.place < y.place → id_cmp x y ≡ Less
earlier_place x y same below = grind (arith, common_steps, same, below)

abbrev IsBelow : Id → ℕ → ℕ → Type 0
IsBelow x round place = (x.round < round) ⊎ ((x.round ≡ round) × (x.place < place))

-- an event below others is less than each of them
less_than : (x : Id) (round place : ℕ) (ids : List Id) → IsBelow x round place
    → Rise round place ids → AllByRecursion (λ y. id_cmp x y ≡ Less) ids
less_than x round place [] below rise = tt
less_than x round place (id ∷ ids) below rise =
    (less below rise.0, less_than x id.round (suc id.place) ids (next_below below rise.0) rise.1)
  where
    less : IsBelow x round place
        → ((round < id.round) ⊎ ((id.round ≡ round) × (place ≤ id.place))) → id_cmp x id ≡ Less
    less (inl early) (inl above) = earlier_round x id (omega (arith, early, above))
    less (inl early) (inr same) = earlier_round x id (omega (arith, early, same.0))
    less (inr early) (inl above) = earlier_round x id (omega (arith, early.0, above))
    less (inr early) (inr same) =
        earlier_place x id (early.0 ∙ sym same.0) (omega (arith, early.1, same.1))

    next_below : IsBelow x round place
        → ((round < id.round) ⊎ ((id.round ≡ round) × (place ≤ id.place)))
        → IsBelow x id.round (suc id.place)
    next_below (inl early) (inl above) = inl (omega (arith, early, above))
    next_below (inl early) (inr same) = inl (omega (arith, early, same.0))
    next_below (inr early) (inl above) = inl (omega (arith, early.0, above))
    next_below (inr early) (inr same) =
        inr (early.0 ∙ sym same.0, omega (arith, early.1, same.1))

pub rise_sorted : (round place : ℕ) (ids : List Id) → Rise round place ids → IdsRise ids
unfolding IsStrictlySortedBy
rise_sorted round place [] rise = tt
rise_sorted round place (id ∷ ids) rise = (
  less_than id id.round (suc id.place) ids (inr (refl, omega arith)) rise.1,
  rise_sorted id.round (suc id.place) ids rise.1,
)

-- ---- what is given, and what calls tell

abbrev asked : List CallOut → List Id
asked outs = filter_map request_told_by outs

abbrev is_told : Output → Bool
is_told output = is_some (told_request output)

one_alone : (o : Output) (outputs : List Output) (event : Option Id) → told_request o ≡ event
    → filter_map told_request outputs ≡ filter_map told_request (filter is_told outputs)
    → filter_map told_request (o ∷ outputs) ≡ filter_map told_request (filter is_told (o ∷ outputs))
one_alone o outputs None none later =
    ap (λ event. cons_option event (filter_map told_request outputs)) none ∙ later
    ∙ ap (λ (event : Option Id). filter_map told_request
    (cond (is_some event) (o ∷ filter is_told outputs) (filter is_told outputs))) (sym none)
one_alone o outputs (Some id) one later =
    ap (cons_option (told_request o)) later
    ∙ ap (λ (event : Option Id). filter_map told_request
    (cond (is_some event) (o ∷ filter is_told outputs) (filter is_told outputs))) (sym one)

told_alone : (outputs : List Output)
    → filter_map told_request outputs ≡ filter_map told_request (filter is_told outputs)
told_alone [] = refl
told_alone (o ∷ outputs) = one_alone o outputs (told_request o) refl (told_alone outputs)

notice_told : (n : ANotice) → told_request (output.Notice n) ≡ request_told_by (call_out.Notice n)
notice_told (notice.Request call_id id method local_tag remote_tag body) = refl
notice_told (notice.Response call_id id status local_tag remote_tag body) = refl
notice_told (notice.Ack call_id id body) = refl
notice_told (notice.Prack call_id id rseq body) = refl
notice_told (notice.Timeout call_id id) = refl
notice_told (notice.Failed call_id id) = refl
notice_told (notice.NoAck call_id id) = refl
notice_told (notice.NoPrack call_id id) = refl
notice_told (notice.Cancel call_id id) = refl
notice_told (notice.Ended call_id local_tag remote_tag) = refl
notice_told (notice.Refused call_id place refusal) = refl

all_shown : (outs : List CallOut)
    → filter_map told_request (flat_map call_outputs outs) ≡ asked outs
all_shown [] = refl
all_shown (call_out.Notice n ∷ outs) =
    (λ i. cons_option (notice_told n i) (all_shown outs i))
all_shown (call_out.Command id command ∷ outs) = all_shown outs
all_shown (call_out.Direct to bytes ∷ outs) = all_shown outs

answer_told : (config : Config) (number : ℕ) (past : Past) (round : Round)
    → filter_map told_request (answer config number past round)
    ≡ asked (given_second config number past round)
answer_told config number past round =
    told_alone (answer config number past round)
    ∙ ap (filter_map told_request)
    (told_in_second is_told (λ key to bytes. refl) (λ place why. refl) config number past round)
    ∙ sym (told_alone (flat_map call_outputs (given_second config number past round)))
    ∙ all_shown (given_second config number past round)

-- ---- the request of an input

id_itself : (x : Id) → is_id x x ≡ true
id_itself x = grind (arith, common_steps)

none_at_all : (ids : List Id) → ((x : Id) → how_many x ids ≤ 0) → ids ≡ []
none_at_all [] few = refl
none_at_all (y ∷ ys) few =
    absurd (omega (arith, few y, counted_one y y ys (id_itself y)))

-- ids none of which is another than this one, and among which this one is at most once
few_are : (own : Id) (ids : List Id)
    → ((x : Id) → how_many x ids ≤ cond (is_id x own) 1 0) → (ids ≡ []) ⊎ (ids ≡ own ∷ [])
few_are own [] few = inl refl
few_are own (y ∷ ys) few =
    by_bool (is_id y own)
    (λ is. inr (λ i. id_exact y own is i ∷ none_at_all ys (none_else is) i))
    (λ other. absurd (omega (
      arith,
      few y,
      counted_one y y ys (id_itself y),
      ap (λ b. cond {A = ℕ} b 1 0) other,
    )))
  where
    none_else : is_id y own ≡ true → (x : Id) → how_many x ys ≤ 0
    none_else is x =
        by_bool (is_id x y)
        (λ same. omega (
          arith,
          few x,
          counted_one x y ys same,
          ap (λ b. cond {A = ℕ} b 1 0)
              (subst (λ z. is_id x z ≡ true) (id_exact y own is) same),
        ))
        (λ apart. omega (
          arith,
          few x,
          counted x y ys,
          ap (λ b. cond {A = ℕ} b 1 0) apart,
          ap (λ b. cond {A = ℕ} b 1 0)
              (subst (λ z. is_id x z ≡ false) (id_exact y own is) apart),
        ))

-- no request, or the one of this event
abbrev AskedBy : Option Id → List Id → Type 0
AskedBy event ids = (ids ≡ []) ⊎ (ids ≡ cons_option event [])

kind_asks : (id own : Id) (k : UpKind) (ids : List Id) → IsKindBy (Some id) own k
    → ((x : Id) → how_many x ids ≤ cond (is_request k (is_id x own)) 1 0)
    → AskedBy (event_of_kind id k) ids
kind_asks id own (kind.Request request reply_to) ids is few =
    subst (λ event. AskedBy event ids) (sym is) (few_are own ids few)
kind_asks id own (kind.Ack ack) ids is few = inl (none_at_all ids few)
kind_asks id own (kind.Response response) ids is few = inl (none_at_all ids few)
kind_asks id own kind.Timeout ids is few = inl (none_at_all ids few)
kind_asks id own kind.Failed ids is few = inl (none_at_all ids few)

item_asks : (id : Id) (item : Item) (ids : List Id) → IsItemBy id item
    → ((x : Id) → how_many x ids ≤ cond (comes_up_by x (Some (id, item))) 1 0)
    → AskedBy (item_event (id, item)) ids
item_asks id (Up up) ids is few = kind_asks id up.id up.kind ids is few
item_asks id (User command) ids is few = inl (none_at_all ids few)

-- ---- a round

one_told : (round place : ℕ) (event : Option Id) (ids whole part : List Id) → AskedBy event ids
    → ((low : ℕ) → Places round low whole → Places round low part)
    → Places round place (cons_option event whole) → Places round place (ids ++ part)
one_told round place event ids whole part (inl none) keeps places =
    subst (λ told. Places round place (told ++ part)) (sym none)
    (keeps place (one_left round place event whole places))
one_told round place None ids whole part (inr is) keeps places =
    subst (λ told. Places round place (told ++ part)) (sym is) (keeps place places)
one_told round place (Some id) ids whole part (inr is) keeps places =
    subst (λ told. Places round place (told ++ part)) (sym is)
    (places.0, places.1, keeps (suc id.place) places.2)

items_placed : (calls : Calls) (now at round place : ℕ) (states : List ℕ → Option Call)
    (items : List (Id × Item)) → AreOwnItems items → Places round place (events_of items)
    → Places round place (asked (joined (told_items call_cmp (call_machine calls) states
    (timed_items now (call_items at items)))))
items_placed calls now at round place states [] all places = tt
items_placed calls now at round place states (i ∷ items) all places =
    let machine = call_machine calls in
    let key = call_of_item i.1 in
    let input = item_input i.0 i.1 now in
    let later : List ℕ → Option Call = stepped call_cmp machine states
    (record { place = at; key = key; input = input }) in
    let here = adds machine key (states key) input in
    let rest = joined (told_items call_cmp machine later
    (timed_items now (call_items (suc at) items))) in
    subst (Places round place) (sym (filter_map-append request_told_by here rest))
    (one_told round place (item_event i) (asked here) (events_of items) (asked rest)
    (item_asks i.0 i.1 (asked here) (all.0).1
    (λ x. each_told_once calls (states key) (Some i) now x))
    (λ low. items_placed calls now (suc at) round low later items all.1) places)

-- a tick tells of no request
ticks_ask : (calls : Calls) (now : ℕ) (states : List ℕ → Option Call) (keys : List (List ℕ))
    → asked (joined (map (λ key. (
      key,
      adds (call_machine calls) key (states key) (tick_at now),
    )) keys)) ≡ []
ticks_ask calls now states [] = refl
ticks_ask calls now states (key ∷ keys) =
    let here = adds (call_machine calls) key (states key) (tick_at now) in
    filter_map-append request_told_by here (joined (map (λ key. (
      key,
      adds (call_machine calls) key (states key) (tick_at now),
    )) keys))
    ∙ (λ i. none_at_all (asked here) (λ x. each_told_once calls (states key) None now x) i
    ++ ticks_ask calls now states keys i)

round_told : (config : Config) (number : ℕ) (past : Past) (round : Round)
    → Places number 1 (asked (given_second config number past round))
unfolding given_second second
round_told config number past round =
    let calls = calls_of config in
    let machine = call_machine calls in
    let before = states_after call_cmp machine tick_at past.calls in
    let between : List ℕ → Option Call = λ q. next machine q (before q) (tick_at round.moment) in
    let phase = second config number past round in
    let told = told_by_calls calls past.calls phase in
    let items = items_of_round config number past round in
    let keys = filter (λ key. speaks (adds machine key (before key) (tick_at round.moment)))
    (keys_of_phases call_cmp past.calls) in
    subst (λ said. Places number 1 (asked (all_said said))) (calls_say calls past.calls phase)
    (subst (Places number 1) (sym (filter_map-append request_told_by (joined told.ticks)
    (joined told.items)
    ∙ ap (λ ids. ids ++ asked (joined told.items)) (ticks_ask calls round.moment before keys)))
    (items_placed calls round.moment 0 number 1 between items (items_own config number past round)
    (round_placed config number past round)))

-- ---- over rounds

told_rise : (config : Config) (number : ℕ) (past : Past) (rounds : List Round)
    → Rise number 0
    (filter_map told_request (all_given (answers_from config number past rounds)))
told_rise config number past [] = tt
told_rise config number past (round ∷ rounds) =
    let later = past_after config number past round in
    let here = answer config number past round in
    let told = asked (given_second config number past round) in
    let rest = all_given (answers_from config (suc number) later rounds) in
    subst (Rise number 0) (sym (filter_map-append told_request here rest
    ∙ ap (λ ids. ids ++ filter_map told_request rest) (answer_told config number past round)))
    (rise_after number 0 told (filter_map told_request rest)
    (places_from number 0 1 told (omega arith) (round_told config number past round))
    (told_rise config (suc number) later rounds))

pub requests_rise : (config : Config) (rounds : List Round)
    → GivesRequestsById (answers config rounds)
unfolding answers
requests_rise config rounds =
    rise_sorted config.first 0
    (filter_map told_request (all_given (answers_from config config.first no_past rounds)))
    (told_rise config config.first no_past rounds)
