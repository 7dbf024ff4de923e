-- What comes up to calls came to transactions before.
use Rattle.std.proofs.Common.{ℕ, suc, Bool, true, false, cond, List, [], ◌∷◌, ◌++◌, map, sym, subst}
use Rattle.std.specs.Prelude.{IfSome, filter}
use Rattle.std.specs.BTreeMap.{is_at}
use Rattle.std.specs.List.{AllByRecursion, flat_map}
use Rattle.sip_message.specs.declared.id.Id.{Id}
use Rattle.sip_message.specs.declared.key.Key.{Key}
use Rattle.sip_message.specs.declared.message.Message.{Message}
use Rattle.sip_message.specs.Key.{key_cmp, keys_total}
use Rattle.keyed_machine.specs.declared.item.Item as model
use Rattle.keyed_machine.specs.Laws.{said_by}
use Rattle.keyed_machine.specs.Machine.{Timed, tick_at}
use Rattle.keyed_machine.specs.Phase.{PhaseOutputs, history, inputs_of, own_inputs, timed_item, timed_items}
use Rattle.keyed_machine.specs.Rules.{said_since}
use Rattle.sip_transactions.specs.declared.output.Out.{Out}
use Rattle.sip_transactions.specs.declared.output.Out.TheVariants as out
use Rattle.sip_transactions.specs.declared.output.Up.{Up as AnUp}
use Rattle.sip_transactions.specs.Machine.{transaction_machine}
use Rattle.sip_user.specs.Command.{call_of_item}
use Rattle.sip_user.specs.declared.item.Item.{Item}
use Rattle.sip_user.specs.declared.item.Item.TheVariants.{Up, User}
use Rattle.sip_held_dialogs.proofs.Each.{both, all_of_each}
use Rattle.sip_calls.specs.Call.{CallItem}
use Rattle.sip_calls.specs.CallShard.{call_cmp}
use Rattle.sip_round.specs.declared.config.Config.{Config}
use Rattle.sip_round.specs.declared.round.Round.{Round}
use Rattle.sip_round.specs.Answers.{Past, arrivals, first, items_of_round, no_past, past_after, past_of, said_by_transactions, second, third}
use Rattle.sip_round.specs.Arrivals.{Arrival}
use Rattle.sip_round.specs.Arrivals as arrival
use Rattle.sip_round.specs.Laws.{call_inputs_of, said_of}
use Rattle.sip_round.specs.Outputs.{all_said, joined, outs_of, raised_of, said_at, user_items}
use Rattle.sip_round.specs.Phases.{call_items}
use Rattle.sip_round.proofs.GivenNotices.{calls_are, calls_from}
use Rattle.sip_conversation.proofs.Among.{all_of, each_of}
use Rattle.sip_conversation.proofs.OneTransaction.{KindCame}
use Rattle.sip_conversation.proofs.Rounds.{all_of_parts, some_key, transactions_are, transactions_from}

-- this is true of the message that comes up, if any
abbrev pub UpCame : (Message → Type 0) → AnUp → Type 0
UpCame Came up = KindCame Came up.kind

module _ (Comes : AnUp → Type 0) where
  -- an output that hands something up hands up such a thing
  abbrev pub OutCame : Out → Type 0
  OutCame (out.Up up) = Comes up
  OutCame (out.Send key to bytes) = Unit {0}
  OutCame (out.Dropped place why) = Unit {0}

  abbrev pub ItemCame : Item → Type 0
  ItemCame (Up up) = Comes up
  ItemCame (User command) = Unit {0}

  abbrev pub TimedCame : Timed CallItem → Type 0
  TimedCame timed = IfSome timed.input (λ i. ItemCame i.1)

  abbrev EventCame : Id × Item → Type 0
  EventCame i = ItemCame i.1

  -- ---- the items of a round

  raised_came : (id : Id) (outs : List Out) → AllByRecursion OutCame outs
      → AllByRecursion EventCame (flat_map (raised_of id) outs)
  raised_came id [] all = tt
  raised_came id (out.Up up ∷ outs) all = (all.0, raised_came id outs all.1)
  raised_came id (out.Send key to bytes ∷ outs) all = raised_came id outs all.1
  raised_came id (out.Dropped place why ∷ outs) all = raised_came id outs all.1

  abbrev Group : Type 0
  Group = (ℕ × Key) × List Out

  kept_group : (passes : Bool) (group : Group) (kept : List Group) → AllByRecursion OutCame group.1
      → AllByRecursion OutCame (joined kept)
      → AllByRecursion OutCame (joined (cond passes (group ∷ kept) kept))
  kept_group true group kept here later = both OutCame group.1 (joined kept) here later
  kept_group false group kept here later = later

  kept_groups : (passes : Group → Bool) (groups : List Group)
      → AllByRecursion OutCame (joined groups)
      → AllByRecursion OutCame (joined (filter passes groups))
  kept_groups passes [] all = tt
  kept_groups passes (group ∷ groups) all =
      let parts = all_of_parts OutCame group.1 (joined groups) all in
      kept_group (passes group) group (filter passes groups) parts.0
      (kept_groups passes groups parts.1)

  module _ (told : PhaseOutputs Key Out) (all : AllByRecursion OutCame (all_said told)) where
    abbrev parts : AllByRecursion OutCame (joined told.ticks)
        × AllByRecursion OutCame (joined told.items)
    parts = all_of_parts OutCame (joined told.ticks) (joined told.items) all

    outs_came : (id : Id) (a : Arrival) → AllByRecursion OutCame (outs_of (said_at told) id a)
    outs_came id (arrival.Transaction key input) = kept_groups _ told.items parts.1
    outs_came id (arrival.Dropped why) = (tt, tt)
    outs_came id (arrival.User command) = tt

    user_came : (id : Id) (a : Arrival) → AllByRecursion EventCame (user_items id a)
    user_came id (arrival.Transaction key input) = tt
    user_came id (arrival.Dropped why) = tt
    user_came id (arrival.User command) = (tt, tt)

    one_came : (a : Id × Arrival) → AllByRecursion EventCame
        (flat_map (raised_of a.0) (outs_of (said_at told) a.0 a.1) ++ user_items a.0 a.1)
    one_came a =
        both EventCame (flat_map (raised_of a.0) (outs_of (said_at told) a.0 a.1))
        (user_items a.0 a.1)
        (raised_came a.0 (outs_of (said_at told) a.0 a.1) (outs_came a.0 a.1))
        (user_came a.0 a.1)

  -- ---- the inputs of a call

  own_step : (own : Bool) (item : model.Item (List ℕ) (Timed CallItem))
      (kept : List (model.Item (List ℕ) (Timed CallItem))) → TimedCame item.input
      → AllByRecursion TimedCame (map (λ i. i.input) kept)
      → AllByRecursion TimedCame (map (λ i. i.input) (cond own (item ∷ kept) kept))
  own_step true item kept here later = (here, later)
  own_step false item kept here later = later

  own_came : (key : List ℕ) (now place : ℕ) (items : List (Id × Item))
      → AllByRecursion EventCame items
      → AllByRecursion TimedCame (inputs_of call_cmp (timed_items now (call_items place items)) key)
  own_came key now place [] all = tt
  own_came key now place (i ∷ items) all =
      own_step (is_at (call_cmp (call_of_item i.1)) key)
      (timed_item now (record { place = place; key = call_of_item i.1; input = i }))
      (filter (λ item. is_at (call_cmp item.key) key)
      (timed_items now (call_items (suc place) items))) all.0
      (own_came key now (suc place) items all.1)

  -- ---- rounds

  module _ (config : Config) where
    round_came : (number : ℕ) (past : Past) (round : Round)
        → AllByRecursion OutCame
        (all_said (said_by_transactions past.transactions (first config number past round)))
        → AllByRecursion EventCame (items_of_round config number past round)
    unfolding items_of_round
    round_came number past round all =
        let told = said_by_transactions past.transactions (first config number past round) in
        let came = arrivals config number past round in
        let zero_id : Id = record { round = number; place = 0 } in
        let of_event : Id × Arrival → List (Id × Item) =
        λ a. flat_map (raised_of a.0) (outs_of (said_at told) a.0 a.1) ++ user_items a.0 a.1 in
        both EventCame (flat_map (raised_of zero_id) (joined told.ticks))
        (flat_map of_event came)
        (raised_came zero_id (joined told.ticks) (parts told all).0)
        (all_of_each EventCame of_event (one_came told all) came)

    second_came : (call_id : List ℕ) (number : ℕ) (past : Past) (round : Round)
        → AllByRecursion EventCame (items_of_round config number past round)
        → AllByRecursion TimedCame
        (own_inputs call_cmp tick_at (second config number past round) call_id)
    unfolding second
    second_came call_id number past round all =
        (tt, own_came call_id round.moment 0 (items_of_round config number past round) all)

    inputs_from_came : (number : ℕ) (past : Past) (rounds : List Round)
        → ((key : Key) → AllByRecursion OutCame (said_since key_cmp transaction_machine tick_at key
        past.transactions (transactions_from config number past rounds)))
        → (call_id : List ℕ) → AllByRecursion TimedCame
        (history call_cmp tick_at (calls_from config number past rounds) call_id)
    unfolding past_after
    inputs_from_came number past [] all call_id = tt
    inputs_from_came number past (round ∷ rounds) all call_id =
        let next = past_after config number past round in
        let one = first config number past round in
        let two = third config number past round in
        let before = past.transactions in
        let between = before ++ one ∷ [] in
        let rest = transactions_from config (suc number) next rounds in
        let told = said_by_transactions before one in
        let of_one : Key → List Out =
        λ key. said_by key_cmp transaction_machine tick_at key told in
        let of_two : Key → List Out = λ key.
        said_by key_cmp transaction_machine tick_at key (said_by_transactions between two) in
        let of_rest : Key → List Out = λ key.
        said_since key_cmp transaction_machine tick_at key (between ++ two ∷ []) rest in
        let here : AllByRecursion OutCame (all_said told) =
        all_of OutCame (all_said told) (λ o among.
        let speaker = some_key key_cmp keys_total transaction_machine tick_at told o among in
        each_of OutCame (of_one speaker.0) o
        (all_of_parts OutCame (of_one speaker.0) (of_two speaker.0 ++ of_rest speaker.0)
        (all speaker.0)).0 speaker.1) in
        both TimedCame
        (own_inputs call_cmp tick_at (second config number past round) call_id)
        (history call_cmp tick_at (calls_from config (suc number) next rounds) call_id)
        (second_came call_id number past round (round_came number past round here))
        (inputs_from_came (suc number) next rounds
        (λ key. (all_of_parts OutCame (of_two key) (of_rest key)
        (all_of_parts OutCame (of_one key) (of_two key ++ of_rest key) (all key)).1).1) call_id)

    -- what a call is given came to a transaction, if all that transactions hand up did
    pub inputs_came : (rounds : List Round)
        → ((key : Key) → AllByRecursion OutCame (said_of config rounds key))
        → (call_id : List ℕ) → AllByRecursion TimedCame (call_inputs_of config rounds call_id)
    unfolding past_of
    inputs_came rounds all call_id =
        subst (λ phases. AllByRecursion TimedCame (history call_cmp tick_at phases call_id))
        (sym (calls_are config config.first no_past rounds))
        (inputs_from_came config.first no_past rounds
        (λ key. subst (λ phases. AllByRecursion OutCame
        (said_since key_cmp transaction_machine tick_at key [] phases))
        (transactions_are config config.first no_past rounds) (all key)) call_id)
