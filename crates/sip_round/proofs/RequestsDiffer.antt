-- In any rounds, the ids of the requests that come up for a call rise, and none comes up twice.
-- Each is the id of the request's own event.
use Rattle.std.proofs.Common.{◌≡◌, ◌⊎◌, inl, inr, ℕ, suc, Bool, false, cond, List, [], ◌∷◌, map, sym, refl, ap, subst}
use Rattle.std.specs.Prelude.{Option, None, Some, filter, filter_map}
use Rattle.std.specs.BTreeMap.{is_at}
use Rattle.std.specs.List.{AllByRecursion, IsDistinct, cons_option}
use Rattle.std.specs.List.Sorted.{IsStrictlySortedBy}
use Rattle.std.specs.declared.cmp.Ordering.TheVariants.{Less}
use Rattle.std.proofs.lemmas.Map.Keys.{IsDistinct-cons, IsDistinct-head, IsDistinct-tail}
use Rattle.sip_message.specs.declared.id.Id.{Id}
use Rattle.keyed_machine.specs.Machine.{Timed, tick_at}
use Rattle.keyed_machine.specs.Phase.{history, inputs_of, own_inputs, timed_items}
use Rattle.keyed_machine.proofs.Ordered.{by_bool}
use Rattle.sip_transactions.specs.Ids.{IdsRise, id_cmp}
use Rattle.sip_transactions.specs.declared.output.UpKind.{UpKind}
use Rattle.sip_transactions.specs.declared.output.UpKind.TheVariants as kind
use Rattle.sip_user.specs.declared.item.Item.{Item}
use Rattle.sip_user.specs.declared.item.Item.TheVariants.{Up, User}
use Rattle.sip_user.specs.Command.{call_of_item}
use Rattle.sip_held_dialogs.specs.Ids.{is_id}
use Rattle.sip_held_dialogs.proofs.Each.{both}
use Rattle.sip_held_dialogs.proofs.Entries.{none_apart}
use Rattle.sip_calls.specs.HeldRequests.{RequestsDiffer, id_of_kind, request_brought}
use Rattle.sip_calls.specs.Call.{CallItem}
use Rattle.sip_calls.specs.CallShard.{call_cmp, item_input}
use Rattle.sip_calls.specs.HeldById.{RequestsRise}
use Rattle.sip_calls.specs.Provisionals.{EventsDiffer, event_in, event_of_kind}
use Rattle.sip_round.specs.declared.config.Config.{Config}
use Rattle.sip_round.specs.declared.round.Round.{Round}
use Rattle.sip_round.specs.Answers.{Past, items_of_round, no_past, past_after, past_of, second}
use Rattle.sip_round.specs.Laws.{call_inputs_of}
use Rattle.sip_round.specs.Phases.{call_items}
use Rattle.sip_round.proofs.CallEvents.{events_differ, events_rise}
use Rattle.sip_round.proofs.GivenNotices.{calls_are, calls_from}
use Rattle.sip_round.proofs.OwnItems.{AreOwnItems, IsItemBy, items_own}
use Rattle.sip_round.proofs.OwnRequests.{IsKindBy}
use Rattle.sip_round.proofs.RequestsRise.{rise_sorted}

-- ---- a request belongs to its own event

-- it brings no request, or one with its own event's id
abbrev BringsItsOwn : Timed CallItem → Type 0
BringsItsOwn timed = (request_brought timed.input ≡ None)
    ⊎ (request_brought timed.input ≡ event_in timed.input)

kind_brings : (id own : Id) (k : UpKind) → IsKindBy (Some id) own k
    → (id_of_kind own k ≡ None) ⊎ (id_of_kind own k ≡ event_of_kind id k)
kind_brings id own (kind.Request request reply_to) is = inr (sym is)
kind_brings id own (kind.Ack ack) is = inl refl
kind_brings id own (kind.Response response) is = inl refl
kind_brings id own kind.Timeout is = inl refl
kind_brings id own kind.Failed is = inl refl

item_brings : (now : ℕ) (id : Id) (item : Item) → IsItemBy id item
    → BringsItsOwn (item_input id item now)
item_brings now id (Up up) is = kind_brings id up.id up.kind is
item_brings now id (User command) is = inl refl

inputs_bring : (key : List ℕ) (now at : ℕ) (items : List (Id × Item)) → AreOwnItems items
    → AllByRecursion BringsItsOwn (inputs_of call_cmp (timed_items now (call_items at items)) key)
inputs_bring key now at [] all = tt
inputs_bring key now at (item ∷ items) all =
    let rest = timed_items now (call_items (suc at) items) in
    let input = item_input item.0 item.1 now in
    let own : Bool → List (Timed CallItem) = λ b.
    map (λ i. i.input)
    (cond b (record { place = at; key = call_of_item item.1; input = input }
    ∷ filter (λ i. is_at (call_cmp i.key) key) rest)
    (filter (λ i. is_at (call_cmp i.key) key) rest)) in
    let later = inputs_bring key now (suc at) items all.1 in
    by_bool (is_at (call_cmp (call_of_item item.1)) key)
    (λ is. subst (AllByRecursion BringsItsOwn) (sym (ap own is))
    (item_brings now item.0 item.1 (all.0).1, later))
    (λ other. subst (AllByRecursion BringsItsOwn) (sym (ap own other)) later)

rounds_bring : (config : Config) (key : List ℕ) (number : ℕ) (past : Past) (rounds : List Round)
    → AllByRecursion BringsItsOwn
    (history call_cmp tick_at (calls_from config number past rounds) key)
unfolding second
rounds_bring config key number past [] = tt
rounds_bring config key number past (round ∷ rounds) =
    let next = past_after config number past round in
    both BringsItsOwn (own_inputs call_cmp tick_at (second config number past round) key)
    (history call_cmp tick_at (calls_from config (suc number) next rounds) key) (
      inl refl,
      inputs_bring key round.moment 0 (items_of_round config number past round)
          (items_own config number past round),
    )
    (rounds_bring config key (suc number) next rounds)

-- ---- so requests differ if their events do

abbrev events_in : List (Timed CallItem) → List Id
events_in inputs = filter_map (λ timed. event_in timed.input) inputs

abbrev requests_in : List (Timed CallItem) → List Id
requests_in inputs = filter_map (λ timed. request_brought timed.input) inputs

all_left : (P : Id → Type 0) (event : Option Id) (ids : List Id)
    → AllByRecursion P (cons_option event ids) → AllByRecursion P ids
all_left P None ids all = all
all_left P (Some id) ids all = all.1

all_with : (P : Id → Type 0) (brought event : Option Id) (ids events : List Id)
    → ((brought ≡ None) ⊎ (brought ≡ event)) → AllByRecursion P (cons_option event events)
    → AllByRecursion P ids → AllByRecursion P (cons_option brought ids)
all_with P brought event ids events (inl none) all later =
    subst (λ o. AllByRecursion P (cons_option o ids)) (sym none) later
all_with P brought None ids events (inr same) all later =
    subst (λ o. AllByRecursion P (cons_option o ids)) (sym same) later
all_with P brought (Some id) ids events (inr same) all later =
    subst (λ o. AllByRecursion P (cons_option o ids)) (sym same) (all.0, later)

all_requests : (P : Id → Type 0) (inputs : List (Timed CallItem))
    → AllByRecursion BringsItsOwn inputs → AllByRecursion P (events_in inputs)
    → AllByRecursion P (requests_in inputs)
all_requests P [] own all = tt
all_requests P (input ∷ inputs) own all =
    all_with P (request_brought input.input) (event_in input.input) (requests_in inputs)
    (events_in inputs) own.0 all
    (all_requests P inputs own.1 (all_left P (event_in input.input) (events_in inputs) all))

apart_left : (event : Option Id) (ids : List Id) → IsDistinct is_id (cons_option event ids)
    → IsDistinct is_id ids
apart_left None ids apart = apart
apart_left (Some id) ids apart = IsDistinct-tail is_id id ids apart

apart_with : (brought event : Option Id) (ids events : List Id)
    → ((brought ≡ None) ⊎ (brought ≡ event)) → IsDistinct is_id (cons_option event events)
    → ((P : Id → Type 0) → AllByRecursion P events → AllByRecursion P ids)
    → IsDistinct is_id ids → IsDistinct is_id (cons_option brought ids)
apart_with brought event ids events (inl none) apart all later =
    subst (λ o. IsDistinct is_id (cons_option o ids)) (sym none) later
apart_with brought None ids events (inr same) apart all later =
    subst (λ o. IsDistinct is_id (cons_option o ids)) (sym same) later
apart_with brought (Some id) ids events (inr same) apart all later =
    subst (λ o. IsDistinct is_id (cons_option o ids)) (sym same)
    (IsDistinct-cons is_id id ids
    (all (λ y. is_id id y ≡ false) (IsDistinct-head is_id id events apart)) later)

requests_apart : (inputs : List (Timed CallItem)) → AllByRecursion BringsItsOwn inputs
    → EventsDiffer inputs → RequestsDiffer inputs
requests_apart [] own apart = none_apart is_id
requests_apart (input ∷ inputs) own apart =
    apart_with (request_brought input.input) (event_in input.input) (requests_in inputs)
    (events_in inputs) own.0 apart (λ P. all_requests P inputs own.1)
    (requests_apart inputs own.1 (apart_left (event_in input.input) (events_in inputs) apart))

left_rises : (event : Option Id) (ids : List Id) → IdsRise (cons_option event ids) → IdsRise ids
unfolding IsStrictlySortedBy
left_rises None ids rise = rise
left_rises (Some id) ids rise = rise.1

rise_with : (brought event : Option Id) (ids events : List Id)
    → ((brought ≡ None) ⊎ (brought ≡ event)) → IdsRise (cons_option event events)
    → ((P : Id → Type 0) → AllByRecursion P events → AllByRecursion P ids)
    → IdsRise ids → IdsRise (cons_option brought ids)
unfolding IsStrictlySortedBy
rise_with brought event ids events (inl none) rise all later =
    subst (λ o. IdsRise (cons_option o ids)) (sym none) later
rise_with brought None ids events (inr same) rise all later =
    subst (λ o. IdsRise (cons_option o ids)) (sym same) later
rise_with brought (Some id) ids events (inr same) rise all later =
    subst (λ o. IdsRise (cons_option o ids)) (sym same)
    (all (λ y. id_cmp id y ≡ Less) rise.0, later)

requests_by_events : (inputs : List (Timed CallItem)) → AllByRecursion BringsItsOwn inputs
    → IdsRise (events_in inputs) → RequestsRise inputs
requests_by_events [] own rise = rise
requests_by_events (input ∷ inputs) own rise =
    rise_with (request_brought input.input) (event_in input.input) (requests_in inputs)
    (events_in inputs) own.0 rise (λ P. all_requests P inputs own.1)
    (requests_by_events inputs own.1 (left_rises (event_in input.input) (events_in inputs) rise))

each_brings : (config : Config) (call_id : List ℕ) (rounds : List Round)
    → AllByRecursion BringsItsOwn (call_inputs_of config rounds call_id)
unfolding past_of
each_brings config call_id rounds =
    subst (λ phases. AllByRecursion BringsItsOwn (history call_cmp tick_at phases call_id))
    (sym (calls_are config config.first no_past rounds))
    (rounds_bring config call_id config.first no_past rounds)

pub brought_rise : (config : Config) (call_id : List ℕ) (rounds : List Round)
    → RequestsRise (call_inputs_of config rounds call_id)
brought_rise config call_id rounds =
    let inputs = call_inputs_of config rounds call_id in
    requests_by_events inputs (each_brings config call_id rounds)
    (rise_sorted config.first 0 (events_in inputs) (events_rise config call_id rounds))

pub requests_differ : (config : Config) (call_id : List ℕ) (rounds : List Round)
    → RequestsDiffer (call_inputs_of config rounds call_id)
requests_differ config call_id rounds =
    requests_apart (call_inputs_of config rounds call_id) (each_brings config call_id rounds)
    (events_differ config call_id rounds)
