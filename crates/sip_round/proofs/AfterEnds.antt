-- After the rounds in which a life of a transaction has ended, nothing that a call is given comes
-- from it under its id.
use Rattle.std.proofs.Common.{◌≡◌, ℕ, suc, ◌+◌, Bool, true, false, cond, ◌&&◌, ◌||◌, List, [], ◌∷◌, ◌++◌, map, length, nat_eq, refl, sym, ap, ◌∙◌, append_assoc, append-nil}
use Rattle.std.specs.Prelude.{Option, None, Some, drop, filter}
use Rattle.std.specs.BTreeMap.{is_at}
use Rattle.std.specs.List.{AllByRecursion, flat_map, list_any}
use Rattle.std.proofs.Math.Seq.{drop-append_seam}
use Rattle.std.proofs.lemmas.Bool.{false≢true}
use Rattle.std.proofs.lemmas.Grind.{flat_map-append}
use Rattle.std.proofs.lemmas.List.Folds.{list_any-append}
use Rattle.sip_message.specs.declared.id.Id.{Id}
use Rattle.sip_message.specs.declared.key.Key.{Key}
use Rattle.sip_message.specs.Key.{key_cmp}
use Rattle.keyed_machine.specs.Laws.{EachKeyAlone, said_by}
use Rattle.keyed_machine.specs.Machine.{LifeIn, Timed, outputs_from, said_after, state_after, state_from, state_left, tick_at}
use Rattle.keyed_machine.specs.Phase.{Phase, history, inputs_of, own_inputs, states_after, timed_items}
use Rattle.keyed_machine.specs.Rules.{said_since}
use Rattle.keyed_machine.proofs.Ordered.{by_bool}
use Rattle.keyed_machine.proofs.Phases.{state_from-append}
use Rattle.sip_transactions.specs.declared.input.Input.{Input}
use Rattle.sip_transactions.specs.declared.output.Out.{Out}
use Rattle.sip_transactions.specs.declared.output.Out.TheVariants as out
use Rattle.sip_transactions.specs.Ids.{is_id}
use Rattle.sip_transactions.specs.Laws.{carries}
use Rattle.sip_transactions.specs.Machine.{transaction_machine}
use Rattle.sip_user.specs.Command.{call_of_item}
use Rattle.sip_user.specs.declared.item.Item.{Item}
use Rattle.sip_held_dialogs.proofs.Each.{both}
use Rattle.sip_calls.specs.Call.{call_machine, CallItem}
use Rattle.sip_calls.specs.CallShard.{call_cmp, item_input}
use Rattle.sip_transactions.specs.Steps.Output.{up_out}
use Rattle.sip_round.specs.Arrivals.{Arrival}
use Rattle.sip_round.specs.Arrivals as arrival
use Rattle.sip_round.specs.declared.config.Config.{Config}
use Rattle.sip_round.specs.declared.round.Round.{Round}
use Rattle.sip_round.specs.Answers.{Past, answer, answers, answers_from, arrivals, calls_of, first, items_of_round, no_past, past_after, past_of, said_by_transactions, second, third}
use Rattle.sip_round.specs.Given.{HasEnded, NoneComesFrom, all_given, comes_from, notice_in, notices_of}
use Rattle.sip_round.specs.Laws.{NothingAfterEachEnd}
use Rattle.sip_round.specs.Laws as laws
use Rattle.sip_round.specs.Outputs.{all_said, joined, outs_of, raised_of, said_at, user_items}
use Rattle.sip_round.specs.Phases.{call_items}
use Rattle.sip_round.proofs.GivenNotices.{calls_are, calls_from, given_from, own_from}
use Rattle.sip_round.proofs.Lives.{outputs_append}
use Rattle.sip_round.proofs.NamesRise.{Later, one_round_more}
use Rattle.sip_round.proofs.OwnOutputs.{AreAllOwn, none_own, phase_own}
use Rattle.sip_round.proofs.Runs.{answers_count, each_from-append, past_from-append}
use Rattle.sip_round.proofs.Said.{call_alone, transaction_alone}

nothing_of_both : {X : Type 0} (xs ys : List X) → xs ++ ys ≡ [] → (xs ≡ []) × (ys ≡ [])
nothing_of_both [] ys none = (refl, none)
nothing_of_both (x ∷ xs) ys none = absurd cc

all_of_parts : {X : Type 0} (P : X → Type 0) (xs ys : List X) → AllByRecursion P (xs ++ ys)
    → AllByRecursion P xs × AllByRecursion P ys
all_of_parts P [] ys all = (tt, all)
all_of_parts P (x ∷ xs) ys all =
    let later = all_of_parts P xs ys all.1 in ((all.0, later.0), later.1)

module _ (id : Id) where
  -- ---- a transaction hands up under its own key

  -- what is handed up under the id
  abbrev under : Out → List Out
  under o = cond (carries id o) (o ∷ []) []

  abbrev from : Key → Out → Bool
  from q (out.Up up) = is_at (key_cmp q) up.key && is_id id up.id
  from q (out.Send key to bytes) = false
  from q (out.Dropped place why) = false

  -- the same, handed up by the transaction with a key
  abbrev picked : Key → Out → List Out
  picked q o = cond (from q o) (o ∷ []) []

  one_up : (own carried : Bool) (o : Out)
      → cond (own && carried) (o ∷ []) [] ≡ cond own (cond carried (o ∷ []) []) []
  one_up true carried o = refl
  one_up false carried o = refl

  ups_are_own : AreAllOwn Out under picked
  ups_are_own = record {
    sends = λ q key to bytes. none_own Out (is_at (key_cmp q) key);
    ups = λ q key context kind.
        one_up (is_at (key_cmp q) key) (is_id id context.id) (up_out key context kind);
    drops = λ q key place. none_own Out (is_at (key_cmp q) key);
  }

  none_under : (outs : List Out) → list_any (carries id) outs ≡ false → flat_map under outs ≡ []
  none_under [] none = refl
  none_under (o ∷ outs) none =
      by_bool (carries id o)
      (λ is. absurd (false≢true
      (sym none ∙ ap (λ b. b || list_any (carries id) outs) is)))
      (λ isnt. ap (λ b. cond b (o ∷ []) [] ++ flat_map under outs) isnt
      ∙ none_under outs (sym (ap (λ b. b || list_any (carries id) outs) isnt) ∙ none))

  module _ (q : Key) where
    abbrev IsNotFrom : Out → Type 0
    IsNotFrom o = from q o ≡ false

    abbrev ComesNot : Option CallItem → Type 0
    ComesNot input = comes_from q id input ≡ false

    abbrev ItemComesNot : Id × Item → Type 0
    ItemComesNot i = ComesNot (Some i)

    none_picked : (outs : List Out) → flat_map (picked q) outs ≡ []
        → AllByRecursion IsNotFrom outs
    none_picked [] none = tt
    none_picked (o ∷ outs) none =
        by_bool (from q o)
        (λ is. let over : o ∷ flat_map (picked q) outs ≡ [] =
        sym (ap (λ b. cond b (o ∷ []) [] ++ flat_map (picked q) outs) is) ∙ none in
        absurd cc)
        (λ isnt. (
          isnt,
          none_picked outs
              (sym (ap (λ b. cond b (o ∷ []) [] ++ flat_map (picked q) outs) isnt) ∙ none),
        ))

    -- what a key says in a phase under the id, if it says nothing
    phase_none : (before : List (Phase Key (Timed Input))) (phase : Phase Key (Timed Input))
        → flat_map under (said_by key_cmp transaction_machine tick_at q
        (said_by_transactions before phase)) ≡ []
        → AllByRecursion IsNotFrom (all_said (said_by_transactions before phase))
    phase_none before phase none =
        none_picked (all_said (said_by_transactions before phase))
        (phase_own Out under picked ups_are_own q before phase ∙ none)

    -- ---- so no item of a round comes from it

    abbrev Group : Type 0
    Group = (ℕ × Key) × List Out

    none_at : (passes : Group → Bool) (groups : List Group)
        → AllByRecursion IsNotFrom (joined groups)
        → AllByRecursion IsNotFrom (joined (filter passes groups))
    none_at passes [] all = tt
    none_at passes (group ∷ groups) all =
        let parts = all_of_parts IsNotFrom group.1 (joined groups) all in
        let rest = none_at passes groups parts.1 in
        elim (passes group) as (λ b. AllByRecursion IsNotFrom
        (joined (cond b (group ∷ filter passes groups) (filter passes groups)))) [
          | true ↦ both IsNotFrom group.1 (joined (filter passes groups)) parts.0 rest
          | false ↦ rest
        ]

    none_raised : (event : Id) (outs : List Out) → AllByRecursion IsNotFrom outs
        → AllByRecursion ItemComesNot (flat_map (raised_of event) outs)
    none_raised event [] all = tt
    none_raised event (out.Up up ∷ outs) all = (all.0, none_raised event outs all.1)
    none_raised event (out.Send key to bytes ∷ outs) all = none_raised event outs all.1
    none_raised event (out.Dropped place why ∷ outs) all = none_raised event outs all.1

    abbrev items_at : (ℕ → List Out) → Id × Arrival → List (Id × Item)
    items_at said a = flat_map (raised_of a.0) (outs_of said a.0 a.1) ++ user_items a.0 a.1

    one_none : (said : ℕ → List Out) → ((place : ℕ) → AllByRecursion IsNotFrom (said place))
        → (event : Id) (a : Arrival) → AllByRecursion ItemComesNot (items_at said (event, a))
    one_none said all event (arrival.Transaction key input) =
        both ItemComesNot (flat_map (raised_of event) (said event.place)) []
        (none_raised event (said event.place) (all event.place)) tt
    one_none said all event (arrival.Dropped why) = tt
    one_none said all event (arrival.User command) = (refl, tt)

    arrivals_none : (said : ℕ → List Out)
        → ((place : ℕ) → AllByRecursion IsNotFrom (said place)) → (arrivals : List (Id × Arrival))
        → AllByRecursion ItemComesNot (flat_map (items_at said) arrivals)
    arrivals_none said all [] = tt
    arrivals_none said all (a ∷ arrivals) =
        both ItemComesNot (items_at said a) (flat_map (items_at said) arrivals)
        (one_none said all a.0 a.1) (arrivals_none said all arrivals)

    round_none : (config : Config) (number : ℕ) (past : Past) (round : Round)
        → flat_map under (said_by key_cmp transaction_machine tick_at q
        (said_by_transactions past.transactions (first config number past round))) ≡ []
        → AllByRecursion ItemComesNot (items_of_round config number past round)
    unfolding items_of_round
    round_none config number past round none =
        let told = said_by_transactions past.transactions (first config number past round) in
        let event : Id = record { round = number; place = 0 } in
        let parts = all_of_parts IsNotFrom (joined told.ticks) (joined told.items)
        (phase_none past.transactions (first config number past round) none) in
        both ItemComesNot (flat_map (raised_of event) (joined told.ticks))
        (flat_map (items_at (said_at told)) (arrivals config number past round))
        (none_raised event (joined told.ticks) parts.0)
        (arrivals_none (said_at told)
        (λ place. none_at (λ said. nat_eq (said.0).0 place) told.items parts.1)
        (arrivals config number past round))

    -- ---- and no input of a call does

    inputs_none : (call_id : List ℕ) (now at : ℕ) (items : List (Id × Item))
        → AllByRecursion ItemComesNot items
        → AllByRecursion (λ timed. ComesNot timed.input)
        (inputs_of call_cmp (timed_items now (call_items at items)) call_id)
    inputs_none call_id now at [] all = tt
    inputs_none call_id now at (i ∷ items) all =
        let rest = inputs_none call_id now (suc at) items all.1 in
        let others = filter (λ item. is_at (call_cmp item.key) call_id)
        (timed_items now (call_items (suc at) items)) in
        elim (is_at (call_cmp (call_of_item i.1)) call_id) as
        (λ b. AllByRecursion (λ (timed : Timed CallItem). ComesNot timed.input)
        (map (λ item. item.input) (cond b ((record {
          place = at;
          key = call_of_item i.1;
          input = item_input i.0 i.1 now;
        }) ∷ others) others))) [
          | true ↦ (all.0, rest)
          | false ↦ rest
        ]

    second_none : (call_id : List ℕ) (config : Config) (number : ℕ) (past : Past)
        (round : Round) → AllByRecursion ItemComesNot (items_of_round config number past round)
        → AllByRecursion (λ timed. ComesNot timed.input)
        (own_inputs call_cmp tick_at (second config number past round) call_id)
    unfolding second
    second_none call_id config number past round all =
        (refl, inputs_none call_id round.moment 0 (items_of_round config number past round) all)

    -- ---- over rounds

    module _ (config : Config) (call_id : List ℕ) where
      abbrev Quiet : ℕ → Past → List Round → List (Phase Key (Timed Input)) → Type 0
      Quiet number past rounds more =
          flat_map under (said_since key_cmp transaction_machine tick_at q past.transactions more)
          ≡ []
          → AllByRecursion (λ timed. ComesNot timed.input)
          (history call_cmp tick_at (calls_from config number past rounds) call_id)

      one_quiet : (number : ℕ) (past : Past) (round : Round) (rounds : List Round)
          (more : List (Phase Key (Timed Input)))
          → Quiet (suc number) (past_after config number past round) rounds more
          → Quiet number past (round ∷ rounds)
          (first config number past round ∷ third config number past round ∷ more)
      unfolding past_after
      one_quiet number past round rounds more later none =
          let one = first config number past round in
          let two = third config number past round in
          let between = past.transactions ++ one ∷ [] in
          let by : List (Phase Key (Timed Input)) → Phase Key (Timed Input) → List Out =
          λ before phase.
          said_by key_cmp transaction_machine tick_at q (said_by_transactions before phase) in
          let rest = said_since key_cmp transaction_machine tick_at q (between ++ two ∷ []) more in
          let parts = nothing_of_both (flat_map under (by past.transactions one))
          (flat_map under (by between two ++ rest))
          (sym (flat_map-append under (by past.transactions one) (by between two ++ rest))
          ∙ none) in
          let last = nothing_of_both (flat_map under (by between two)) (flat_map under rest)
          (sym (flat_map-append under (by between two) rest) ∙ parts.1) in
          both (λ (timed : Timed CallItem). ComesNot timed.input)
          (own_inputs call_cmp tick_at (second config number past round) call_id)
          (history call_cmp tick_at (calls_from config (suc number)
          (past_after config number past round) rounds) call_id)
          (second_none call_id config number past round
          (round_none config number past round parts.0))
          (later last.1)

      quiet : (rounds : List Round) (number : ℕ) (past : Past)
          → Later config number past rounds (Quiet number past rounds)
      quiet [] number past = record {
        more = [];
        transactions = sym (append-nil past.transactions);
        holds = λ none. tt;
      }
      quiet (round ∷ rounds) number past =
          one_round_more config number past round rounds
          (Quiet (suc number) (past_after config number past round) rounds)
          (Quiet number past (round ∷ rounds))
          (one_quiet number past round rounds)
          (quiet rounds (suc number) (past_after config number past round))

-- ---- after an end

second_false : (a b : Bool) → (a || b) ≡ false → b ≡ false
second_false true b none = absurd (false≢true (sym none))
second_false false b none = none

module _ (over : NothingAfterEachEnd)
    (transactions_alone : EachKeyAlone key_cmp transaction_machine tick_at) where
  -- a transaction whose life has ended says nothing under its id in later rounds
  nothing_under : (key : Key) (id : Id) (config : Config) (earlier later : List Round)
      (more : List (Phase Key (Timed Input)))
      → (past_of config (earlier ++ later)).transactions
      ≡ (past_of config earlier).transactions ++ more
      → HasEnded key id config earlier
      → flat_map (under id) (said_since key_cmp transaction_machine tick_at key
      (past_of config earlier).transactions more) ≡ []
  nothing_under key id config earlier later more phases ended =
      let past = (past_of config earlier).transactions in
      let new = history key_cmp tick_at more key in
      let life = ended.life in
      let own = life.first ∷ (life.rest ++ life.after) in
      let whole : history key_cmp tick_at (past_of config (earlier ++ later)).transactions key
      ≡ life.before ++ (life.first ∷ (life.rest ++ (life.after ++ new))) =
      ap (λ all. history key_cmp tick_at all key) phases
      ∙ flat_map-append (λ phase. own_inputs key_cmp tick_at phase key) past more
      ∙ ap (λ old. old ++ new) life.are
      ∙ append_assoc life.before own new
      ∙ ap (λ rest. life.before ++ (life.first ∷ rest)) (append_assoc life.rest life.after new) in
      let longer : LifeIn transaction_machine key (laws.inputs_of config (earlier ++ later) key) =
      record {
        before = life.before;
        first = life.first;
        rest = life.rest;
        after = life.after ++ new;
        are = whole;
        none_before = life.none_before;
        begins = life.begins;
        within = life.within;
      } in
      let left = state_from transaction_machine key (state_left life) life.after in
      let held : states_after key_cmp transaction_machine tick_at past key ≡ left =
      ap (state_after transaction_machine key) life.are
      ∙ state_from-append transaction_machine key None life.before own
      ∙ ap (λ state. state_from transaction_machine key state own) life.none_before
      ∙ state_from-append transaction_machine key None (life.first ∷ life.rest) life.after in
      let none : list_any (carries id)
      (said_after life ++ outputs_from transaction_machine key left new) ≡ false =
      ap (list_any (carries id))
      (sym (outputs_append transaction_machine key (state_left life) life.after new))
      ∙ over config (earlier ++ later) key longer id ended.over ended.named in
      none_under id (said_since key_cmp transaction_machine tick_at key past more)
      (ap (list_any (carries id))
      (transaction_alone transactions_alone past more key
      ∙ ap (λ state. outputs_from transaction_machine key state new) held)
      ∙ second_false (list_any (carries id) (said_after life))
      (list_any (carries id) (outputs_from transaction_machine key left new))
      (sym (list_any-append (carries id) (said_after life)
      (outputs_from transaction_machine key left new)) ∙ none))

  module _ (config : Config)
      (calls_alone : EachKeyAlone call_cmp (call_machine (calls_of config)) tick_at) where
    pub none_comes : (earlier later : List Round) (key : Key) (id : Id)
        → HasEnded key id config earlier → (call_id : List ℕ)
        → NoneComesFrom key id config earlier later (answers config (earlier ++ later)) call_id
    unfolding past_of answers
    none_comes earlier later key id ended call_id =
        let past = past_of config earlier in
        let number = config.first + length earlier in
        let all = quiet id key config call_id later number past in
        let rest = past_from-append config config.first no_past earlier later in
        let phases = calls_from config number past later in
        let machine = call_machine (calls_of config) in
        record {
          inputs = history call_cmp tick_at phases call_id;
          are = ap (λ (p : Past). history call_cmp tick_at p.calls call_id) rest
              ∙ ap (λ all. history call_cmp tick_at all call_id)
              (calls_are config number past later)
              ∙ flat_map-append (λ phase. own_inputs call_cmp tick_at phase call_id)
              past.calls phases;
          none = all.holds (nothing_under key id config earlier later all.more
              (ap (λ (p : Past). p.transactions) rest ∙ all.transactions) ended);
          told = ap (λ given. notices_of call_id (all_given given))
              (ap (drop (length earlier))
              (each_from-append config answer config.first no_past earlier later)
              ∙ ap (λ n. drop n (answers_from config config.first no_past earlier
              ++ answers_from config number past later))
              (sym (answers_count config config.first no_past earlier))
              ∙ drop-append_seam (answers_from config config.first no_past earlier)
              (answers_from config number past later))
              ∙ given_from config call_id number past later
              (own_from config call_id config.first no_past earlier (λ key. tt))
              ∙ ap (flat_map notice_in)
              (call_alone (calls_of config) calls_alone past.calls phases call_id);
        }
