-- What a call is given in a round has its own Call-ID, and a request has its own event.
use Rattle.std.proofs.Common.{◌≡◌, inl, inr, ℕ, suc, Bool, true, false, cond, List, [], ◌∷◌, ◌++◌, map, nat_eq, refl, sym, subst, ◌∙◌, arith}
use Rattle.std.specs.Prelude.{Option, None, Some, filter}
use Rattle.std.specs.List.{AllByRecursion, flat_map}
use Rattle.std.proofs.lemmas.Grind.{common_steps, flat_map-append}
use Rattle.sip_message.specs.declared.addr.Addr.{Addr}
use Rattle.sip_message.specs.declared.id.Id.{Id}
use Rattle.sip_message.specs.declared.key.Key.{Key}
use Rattle.sip_message.specs.Key.{key_cmp}
use Rattle.keyed_machine.specs.declared.item.Item as model
use Rattle.keyed_machine.specs.Machine.{Timed, adds, next, tick_at}
use Rattle.keyed_machine.specs.Phase.{keys_of_phases, states_after, stepped, timed_items, told_items}
use Rattle.keyed_machine.specs.Groups.{speaks}
use Rattle.sip_transactions.specs.declared.input.Input.{Input}
use Rattle.sip_transactions.specs.declared.life.Life.{Life}
use Rattle.sip_transactions.specs.declared.output.UpKind.{UpKind}
use Rattle.sip_transactions.specs.declared.output.UpKind.TheVariants as kind
use Rattle.sip_transactions.specs.declared.output.Out.{Out}
use Rattle.sip_transactions.specs.declared.output.Out.TheVariants as out
use Rattle.sip_transactions.specs.Laws.{naming_id}
use Rattle.sip_transactions.specs.Machine.{transaction_machine}
use Rattle.sip_user.specs.Command.{call_of_item}
use Rattle.sip_user.specs.declared.item.Item.{Item}
use Rattle.sip_user.specs.declared.item.Item.TheVariants.{Up, User}
use Rattle.sip_held_dialogs.proofs.Each.{both}
use Rattle.sip_calls.specs.Call.{CallItem}
use Rattle.sip_calls.specs.OwnCall.{IsInputOf, IsItemOf}
use Rattle.sip_round.specs.Arrivals as arrival
use Rattle.sip_round.specs.declared.config.Config.{Config}
use Rattle.sip_round.specs.declared.round.Event.{Event}
use Rattle.sip_round.specs.declared.round.Round.{Round}
use Rattle.sip_round.specs.Answers.{Past, arrivals, first, items_first, items_of_round, second}
use Rattle.sip_round.specs.Arrivals.{Arrival, arrival_of, arrivals_from}
use Rattle.sip_round.specs.Outputs.{joined, outs_of, raised_of, said_at, user_items}
use Rattle.sip_round.specs.Phases.{call_items, transaction_item, transaction_items}
use Rattle.sip_round.proofs.CallEvents.{TellsAt}
use Rattle.sip_round.proofs.NamesRise.{ArrivalNamed, Named, arrival_named}
use Rattle.sip_round.proofs.OwnRequests.{AreOwnUps, IsKindBy, IsOwnUp, own_ups}
use Rattle.sip_round.proofs.Said.{told_by_transactions, transactions_say}

-- ---- an item with its own call and its own event

abbrev pub IsItemBy : Id → Item → Type 0
IsItemBy id (Up up) = IsKindBy (Some id) up.id up.kind
IsItemBy id (User command) = Unit {0}

abbrev pub IsOwnItem : Id × Item → Type 0
IsOwnItem item = IsItemOf (call_of_item item.1) item.1 × IsItemBy item.0 item.1

abbrev pub AreOwnItems : List (Id × Item) → Type 0
AreOwnItems items = AllByRecursion IsOwnItem items

-- an input names nothing, or the event with this id
abbrev NamesAlone : Id → Option Id → Type 0
NamesAlone id event = (own : Id) → event ≡ Some own → Some id ≡ Some own

named_alone : (id : Id) (key : Key) (input : Input) → Named id key (Some input)
    → NamesAlone id (naming_id (Some input))
named_alone id key input (inl none) own is = absurd cc
named_alone id key input (inr one) own is = sym one.1 ∙ is

-- ---- what transactions hand up

kind_by : (id : Id) (event : Option Id) (own : Id) (k : UpKind) → NamesAlone id event
    → IsKindBy event own k → IsKindBy (Some id) own k
kind_by id event own (kind.Request request reply_to) alone is = alone own is
kind_by id event own (kind.Ack ack) alone is = tt
kind_by id event own (kind.Response response) alone is = tt
kind_by id event own kind.Timeout alone is = tt
kind_by id event own kind.Failed alone is = tt

raised_own : (id : Id) (event : Option Id) → NamesAlone id event → (outs : List Out)
    → AreOwnUps event outs → AreOwnItems (flat_map (raised_of id) outs)
raised_own id event alone [] all = tt
raised_own id event alone (out.Up up ∷ outs) all = (
  ((refl, (all.0).0), kind_by id event up.id up.kind alone (all.0).1),
  raised_own id event alone outs all.1,
)
raised_own id event alone (out.Send key to bytes ∷ outs) all =
    raised_own id event alone outs all.1
raised_own id event alone (out.Dropped place why ∷ outs) all =
    raised_own id event alone outs all.1

-- no request at a tick
ticks_own : (now : ℕ) (states : Key → Option Life) (keys : List Key)
    → AreOwnUps None (joined (map (λ key. (
      key,
      adds transaction_machine key (states key) (tick_at now),
    )) keys))
ticks_own now states [] = tt
ticks_own now states (key ∷ keys) =
    both (IsOwnUp None) (adds transaction_machine key (states key) (tick_at now))
    (joined (map (λ key. (key, adds transaction_machine key (states key) (tick_at now))) keys))
    (own_ups key (states key) (tick_at now)) (ticks_own now states keys)

-- ---- by place

abbrev event_at : ℕ → ℕ → Id
event_at round place = record { round = round; place = place }

-- each item names nothing, or the event at its place
abbrev NameTheirOwn : ℕ → List (model.Item Key (Timed Input)) → Type 0
NameTheirOwn round items =
    AllByRecursion (λ item. NamesAlone (event_at round item.place) (naming_id item.input.input))
    items

abbrev Group : Type 0
Group = (ℕ × Key) × List Out

one_own : (round place : ℕ) (passes : Bool) (group : Group) (rest : List Group)
    → (passes ≡ true → AreOwnItems (flat_map (raised_of (event_at round place)) group.1))
    → AreOwnItems (flat_map (raised_of (event_at round place)) (joined rest))
    → AreOwnItems (flat_map (raised_of (event_at round place))
    (joined (cond passes (group ∷ rest) rest)))
one_own round place true group rest here later =
    subst AreOwnItems
    (sym (flat_map-append (raised_of (event_at round place)) group.1 (joined rest)))
    (both IsOwnItem (flat_map (raised_of (event_at round place)) group.1)
    (flat_map (raised_of (event_at round place)) (joined rest)) (here refl) later)
one_own round place false group rest here later = later

told_own : (round place : ℕ) (states : Key → Option Life)
    (items : List (model.Item Key (Timed Input))) → NameTheirOwn round items
    → AreOwnItems (flat_map (raised_of (event_at round place))
    (TellsAt place (told_items key_cmp transaction_machine states items)))
told_own round place states [] named = tt
told_own round place states (item ∷ items) named =
    let later = stepped key_cmp transaction_machine states item in
    let here = adds transaction_machine item.key (states item.key) item.input in
    let event = naming_id item.input.input in
    one_own round place (nat_eq item.place place) ((item.place, item.key), here)
    (filter (λ said. nat_eq (said.0).0 place)
    (told_items key_cmp transaction_machine later items))
    (λ is. raised_own (event_at round place) event
    (subst (λ p. NamesAlone (event_at round p) event) (same_place item.place place is) named.0)
    here (own_ups item.key (states item.key) item.input))
    (told_own round place later items named.1)
  where
    same_place : (x y : ℕ) → nat_eq x y ≡ true → x ≡ y
    same_place x y same = grind (arith, common_steps, same)

one_named : (now round place : ℕ) (a : Arrival) (rest : List (model.Item Key Input))
    → ArrivalNamed (event_at round place) a → NameTheirOwn round (timed_items now rest)
    → NameTheirOwn round
    (timed_items now (transaction_item (event_at round place) a ++ rest))
one_named now round place (arrival.Transaction key input) rest named later =
    (named_alone (event_at round place) key input named, later)
one_named now round place (arrival.Dropped why) rest named later = later
one_named now round place (arrival.User command) rest named later = later

arrivals_named : (now : ℕ) (local : Addr) (round place : ℕ) (events : List Event)
    → NameTheirOwn round
    (timed_items now (transaction_items (arrivals_from local round place events)))
arrivals_named now local round place [] = tt
arrivals_named now local round place (e ∷ events) =
    one_named now round place (arrival_of local (event_at round place) e)
    (transaction_items (arrivals_from local round (suc place) events))
    (arrival_named local (event_at round place) e)
    (arrivals_named now local round (suc place) events)

-- ---- the items of a round

outs_own : (round place : ℕ) (said : ℕ → List Out)
    → AreOwnItems (flat_map (raised_of (event_at round place)) (said place))
    → (a : Arrival)
    → AreOwnItems (flat_map (raised_of (event_at round place))
    (outs_of said (event_at round place) a))
outs_own round place said all (arrival.Transaction key input) = all
outs_own round place said all (arrival.Dropped why) = tt
outs_own round place said all (arrival.User command) = tt

user_own : (id : Id) (a : Arrival) → AreOwnItems (user_items id a)
user_own id (arrival.Transaction key input) = tt
user_own id (arrival.Dropped why) = tt
user_own id (arrival.User command) = ((refl, tt), tt)

abbrev items_at : (ℕ → List Out) → Id × Arrival → List (Id × Item)
items_at said a = flat_map (raised_of a.0) (outs_of said a.0 a.1) ++ user_items a.0 a.1

arrivals_own : (said : ℕ → List Out) (local : Addr) (round : ℕ)
    → ((place : ℕ) → AreOwnItems (flat_map (raised_of (event_at round place)) (said place)))
    → (place : ℕ) (events : List Event)
    → AreOwnItems (flat_map (items_at said) (arrivals_from local round place events))
arrivals_own said local round all place [] = tt
arrivals_own said local round all place (e ∷ events) =
    let id = event_at round place in
    let a = arrival_of local id e in
    both IsOwnItem (items_at said (id, a))
    (flat_map (items_at said) (arrivals_from local round (suc place) events))
    (both IsOwnItem (flat_map (raised_of id) (outs_of said id a)) (user_items id a)
    (outs_own round place said (all place) a) (user_own id a))
    (arrivals_own said local round all (suc place) events)

pub items_own : (config : Config) (number : ℕ) (past : Past) (round : Round)
    → AreOwnItems (items_of_round config number past round)
unfolding items_of_round first
items_own config number past round =
    let phase = first config number past round in
    let came = arrivals config number past round in
    let told = told_by_transactions past.transactions phase in
    let before = states_after key_cmp transaction_machine tick_at past.transactions in
    let between : Key → Option Life = λ key.
    next transaction_machine key (before key) (tick_at round.moment) in
    let keys = filter (λ key. speaks
    (adds transaction_machine key (before key) (tick_at round.moment)))
    (keys_of_phases key_cmp past.transactions) in
    let id = event_at number 0 in
    subst (λ said. AreOwnItems (items_first number said came))
    (transactions_say past.transactions phase)
    (both IsOwnItem (flat_map (raised_of id) (joined told.ticks))
    (flat_map (items_at (said_at told)) came)
    (raised_own id None (λ own is. absurd cc) (joined told.ticks)
    (ticks_own round.moment before keys))
    (arrivals_own (said_at told) config.local number
    (λ place. told_own number place between phase.items
    (arrivals_named round.moment config.local number 1 round.events))
    1 round.events))

-- ---- the calls' phase

inputs_own : (now at : ℕ) (items : List (Id × Item)) → AreOwnItems items
    → AllByRecursion (λ (item : model.Item (List ℕ) (Timed CallItem)).
    IsInputOf item.key item.input.input) (timed_items now (call_items at items))
inputs_own now at [] all = tt
inputs_own now at (item ∷ items) all = ((all.0).0, inputs_own now (suc at) items all.1)

pub second_own : (config : Config) (number : ℕ) (past : Past) (round : Round)
    → AllByRecursion (λ (item : model.Item (List ℕ) (Timed CallItem)).
    IsInputOf item.key item.input.input) (second config number past round).items
unfolding second
second_own config number past round =
    inputs_own round.moment 0 (items_of_round config number past round)
    (items_own config number past round)
