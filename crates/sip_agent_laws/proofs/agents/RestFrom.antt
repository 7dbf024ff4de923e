-- After rounds without events each call is at rest, and so is each transaction.
use Rattle.std.proofs.Common.{◌≡◌, ◌⊎◌, inl, inr, ⊎_elim, ℕ, suc, ◌+◌, ◌*◌, ◌≤◌, true, false, ◌||◌, List, [], ◌∷◌, ◌++◌, length, refl, sym, ap, ◌∙◌, append-nil, append_assoc, subst}
use Rattle.std.proofs.lemmas.List.Folds.{list_any-append}
use Rattle.std.specs.Prelude.{Option, None, Some, is_none, nat_le}
use Rattle.std.specs.List.{AllByRecursion, list_any}
use Rattle.std.proofs.lemmas.Bool.{false≢true, leb-true, or_left, or_right}
use Rattle.std.proofs.lemmas.Grind.{flat_map-append}
use Rattle.sip_message.specs.Key.{key_cmp}
use Rattle.sip_message.specs.declared.id.Id.{Id}
use Rattle.sip_message.specs.declared.key.Key.{Key}
use Rattle.sip_message.specs.declared.message.Message.{Message}
use Rattle.sip_timers.specs.declared.estimate.TheConstants.{LIFETIME, T1}
use Rattle.keyed_machine.specs.declared.item.Item as model
use Rattle.keyed_machine.specs.Machine.{Timed, due_of, next, state_after, tick_at}
use Rattle.keyed_machine.specs.Phase.{Phase, history, inputs_of, own_inputs, states_then, timed_items}
use Rattle.keyed_machine.proofs.Ordered.{by_bool}
use Rattle.sip_transactions.proofs.Rules.{at_steps, step_is}
use Rattle.sip_transactions.specs.declared.input.Command.TheVariants as order
use Rattle.sip_transactions.specs.declared.input.Input.{Input}
use Rattle.sip_transactions.specs.declared.input.Input.TheVariants.{Answer}
use Rattle.sip_transactions.specs.declared.life.Life.{Life}
use Rattle.sip_transactions.specs.declared.output.Out.{Out}
use Rattle.sip_transactions.specs.Machine.{life_due, transaction_machine}
use Rattle.sip_transactions.specs.Rules.Step.{step_at}
use Rattle.sip_transactions.specs.Steps.Input.{role_of}
use Rattle.sip_transactions.specs.Steps.Life.{stepped}
use Rattle.sip_agent_laws.specs.Transactions.Timers.{WaitsWithoutTimers, is_gone_or_waits, waits}
use Rattle.sip_agent_laws.proofs.transactions.Inputs.{HeldIn}
use Rattle.sip_agent_laws.proofs.transactions.Ticks as ticks
use Rattle.sip_agent_laws.proofs.transactions.Ticks.{Ends, Waiting, ends_after, ends_on, ends_or_waits, ticks_come, waits_on}
use Rattle.sip_agent_laws.proofs.transactions.Timed as timed_laws
use Rattle.sip_user.specs.declared.item.CallOut.{CallOut}
use Rattle.sip_calls.specs.declared.call.Call.{Call}
use Rattle.sip_calls.specs.Call.{CallItem, call_due}
use Rattle.sip_calls.specs.CallShard.{call_cmp}
use Rattle.sip_calls.specs.Histories.{call_from}
use Rattle.sip_agent_laws.specs.Calls.Rest.{IsAtRest, is_from_outside, is_tick_from}
use Rattle.sip_agent_laws.proofs.calls.AtRest.{at_rest_after_all}
use Rattle.sip_round.specs.declared.config.Config.{Config}
use Rattle.sip_round.specs.declared.round.Round.{Round}
use Rattle.sip_round.specs.Answers.{Past, calls_of, first, no_past, past_after, past_from, past_of, third}
use Rattle.sip_round.specs.CallsHeld.{call_after}
use Rattle.sip_round.specs.NextDue.{IsDueAfter}
use Rattle.sip_round.specs.Outputs.{command_of, joined}
use Rattle.sip_round.specs.Phases.{command_items, transaction_items}
use Rattle.sip_round.proofs.Runs.{past_from-append}
use Rattle.sip_agent_laws.specs.Agents.AtRest.{AreWithoutEvents, EachAgentComesToRest, IsAgentAtRest, IsQuietSince, reaches}
use Rattle.sip_agent_laws.specs.Agents.Open.{life_after}
use Rattle.sip_agent_laws.proofs.agents.Commands.{ordered, run, orders, run_keeps, ordered_keeps}
use Rattle.sip_agent_laws.proofs.agents.HasTransaction.{HaveTransactions, has_next, none_have, tick_asks, tick_harmless}
use Rattle.sip_agent_laws.proofs.agents.Idle.{all_own, inside_only, no_arrivals, reports_silent}
use Rattle.sip_agent_laws.proofs.agents.Linked.{after_is, calls_in, first_items, given, given_is, lives_between, lives_in, lives_ticked, second_items, second_ticks}
use Rattle.sip_agent_laws.proofs.agents.LinkedRounds.{IsFair, all_fair, behind_now, fair_next, given_to, own, own_so_far}
use Rattle.sip_agent_laws.proofs.agents.Lists.{both}
use Rattle.sip_agent_laws.proofs.agents.SecondPhase.{among_orders}
use Rattle.sip_agent_laws.proofs.agents.ServedFrom.{IsEarly}
use Rattle.sip_agent_laws.proofs.agents.ServerLives.{Shuts, ends_answered, shut_on, waits_answered}
use Rattle.sip_agent_laws.proofs.histories.CallsAfter.{same_call}

-- ---- lists

pub all_goes : {X : Type 0} {P Q : X → Type 0} → ((x : X) → P x → Q x) → (xs : List X)
    → AllByRecursion P xs → AllByRecursion Q xs
all_goes goes [] all = tt
all_goes goes (x ∷ xs) all = (goes x all.0, all_goes goes xs all.1)

-- each item of a phase has its moment
all_at : {K I : Type 0} (P : ℕ → Type 0) (now : ℕ) → P now → (items : List (model.Item K I))
    → AllByRecursion (λ (item : model.Item K (Timed I)). P item.input.moment)
    (timed_items now items)
all_at P now is [] = tt
all_at P now is (item ∷ items) = (is, all_at P now is items)

module _ (config : Config) where
  -- ---- the inputs of a call

  pub calls_longer : (number : ℕ) (past : Past) (round : Round) (q : List ℕ)
      → given_to (past_after config number past round).calls q
      ≡ given_to past.calls q ++ own config number past round q
  unfolding past_after
  calls_longer number past round q = own_so_far config number past round q

  abbrev CallsBy : ℕ → Past → Type 0
  CallsBy moment past = (q : List ℕ)
      → AllByRecursion (λ (timed : Timed CallItem). timed.moment ≤ moment) (given_to past.calls q)

  calls_by_next : (moment number : ℕ) (past : Past) (round : Round) → round.moment ≤ moment
      → CallsBy moment past → CallsBy moment (past_after config number past round)
  calls_by_next moment number past round low by q =
      subst (AllByRecursion (λ (timed : Timed CallItem). timed.moment ≤ moment))
      (sym (calls_longer number past round q))
      (both (λ (timed : Timed CallItem). timed.moment ≤ moment) (given_to past.calls q)
      (own config number past round q) (by q) (
        low,
        all_own call_cmp (λ (timed : Timed CallItem). timed.moment ≤ moment)
            (second_items config number past round) q
            (all_at (λ n. n ≤ moment) round.moment low _),
      ))

  calls_by_from : (moment : ℕ) (rounds : List Round) (number : ℕ) (past : Past)
      → AllByRecursion (λ (round : Round). round.moment ≤ moment) rounds → CallsBy moment past
      → CallsBy moment (past_from config number past rounds)
  calls_by_from moment [] number past low by = by
  calls_by_from moment (round ∷ rounds) number past low by =
      calls_by_from moment rounds (suc number) (past_after config number past round) low.1
      (calls_by_next moment number past round low.0 by)

  module _ (moment : ℕ) where
    -- the messages and commands of a call came by the moment, and then ticks and reports
    record IsIdle (past : Past) (q : List ℕ) : Type 0 where
      before : List (Timed CallItem)
      after : List (Timed CallItem)
      is : given_to past.calls q ≡ before ++ after
      by : AllByRecursion (λ (timed : Timed CallItem). is_from_outside timed.input ≡ true
          → timed.moment ≤ moment) before
      none : AllByRecursion (λ (timed : Timed CallItem). is_from_outside timed.input ≡ false) after

    -- one of the ticks was 64*T1 later
    record IsReached (past : Past) (q : List ℕ) : Type 0 where
      idle : IsIdle past q
      ticked : list_any (is_tick_from (moment + 64 * T1)) idle.after ≡ true

    idle_first : (past : Past) → CallsBy moment past → (q : List ℕ) → IsIdle past q
    idle_first past by q = record {
      before = given_to past.calls q;
      after = [];
      is = sym (append-nil (given_to past.calls q));
      by = all_goes (λ timed low outside. low) (given_to past.calls q) (by q);
      none = tt;
    }

    idle_next : (number : ℕ) (past : Past) (round : Round) → round.events ≡ [] → (q : List ℕ)
        → IsIdle past q → IsIdle (past_after config number past round) q
    idle_next number past round none q idle = record {
      before = idle.before;
      after = idle.after ++ own config number past round q;
      is = calls_longer number past round q
          ∙ (ap (λ inputs. inputs ++ own config number past round q) idle.is
          ∙ append_assoc idle.before idle.after (own config number past round q));
      by = idle.by;
      none = both (λ (timed : Timed CallItem). is_from_outside timed.input ≡ false) idle.after
          (own config number past round q) idle.none
          (refl, inside_only config number past round none q);
    }

    reached_now : (number : ℕ) (past : Past) (round : Round) → round.events ≡ []
        → nat_le (moment + 64 * T1) round.moment ≡ true → (q : List ℕ) → IsIdle past q
        → IsReached (past_after config number past round) q
    unfolding idle_next
    reached_now number past round none late q idle = record {
      idle = idle_next number past round none q idle;
      ticked = list_any-append (is_tick_from (moment + 64 * T1)) idle.after
          (own config number past round q)
          ∙ or_right (list_any (is_tick_from (moment + 64 * T1)) idle.after) _ (ap (λ b. b || list_any (is_tick_from (moment + 64 * T1))
          (inputs_of call_cmp (second_items config number past round) q)) late);
    }

    reached_next : (number : ℕ) (past : Past) (round : Round) → round.events ≡ [] → (q : List ℕ)
        → IsReached past q → IsReached (past_after config number past round) q
    unfolding idle_next
    reached_next number past round none q reached = record {
      idle = idle_next number past round none q reached.idle;
      ticked = list_any-append (is_tick_from (moment + 64 * T1)) reached.idle.after
          (own config number past round q)
          ∙ or_left (list_any (is_tick_from (moment + 64 * T1)) reached.idle.after) _ reached.ticked;
    }

    reached_from : (rounds : List Round) (number : ℕ) (past : Past) → AreWithoutEvents rounds
        → ((q : List ℕ) → IsReached past q)
        → (q : List ℕ) → IsReached (past_from config number past rounds) q
    reached_from [] number past none reached = reached
    reached_from (round ∷ rounds) number past none reached =
        reached_from rounds (suc number) (past_after config number past round) none.1
        (λ q. reached_next number past round none.0 q (reached q))

    idle_from : (rounds : List Round) (number : ℕ) (past : Past) → AreWithoutEvents rounds
        → reaches (moment + 64 * T1) rounds → ((q : List ℕ) → IsIdle past q)
        → (q : List ℕ) → IsReached (past_from config number past rounds) q
    idle_from [] number past none late idle = absurd (false≢true late)
    idle_from (round ∷ rounds) number past none late idle =
        by_bool (nat_le (moment + 64 * T1) round.moment)
        (λ now. reached_from rounds (suc number) (past_after config number past round) none.1
        (λ q. reached_now number past round none.0 now q (idle q)))
        (λ later. idle_from rounds (suc number) (past_after config number past round) none.1
        (sym (ap (λ b. b || list_any (λ (r : Round). nat_le (moment + 64 * T1) r.moment) rounds)
        later) ∙ late)
        (λ q. idle_next number past round none.0 q (idle q)))

    reached_rests : (past : Past) (q : List ℕ) → IsReached past q
        → IsAtRest (calls_in config past q)
    reached_rests past q reached =
        let idle = reached.idle in
        subst IsAtRest
        (ap (call_from (calls_of config) None) (sym idle.is)
        ∙ same_call (calls_of config) q None (given_to past.calls q))
        (at_rest_after_all (calls_of config) moment idle.before idle.after (record {
          by = idle.by;
          none = idle.none;
          ticked = reached.ticked;
        }))

  -- ---- the inputs of a transaction

  abbrev lives_given : Past → Key → List (Timed Input)
  lives_given past key = history key_cmp tick_at past.transactions key

  abbrev firsts : ℕ → Past → Round → Key → List (Timed Input)
  firsts number past round key =
      tick_at round.moment ∷ inputs_of key_cmp (first_items config number past round) key

  abbrev thirds : ℕ → Past → Round → Key → List (Timed Input)
  thirds number past round key = inputs_of key_cmp
      (timed_items round.moment (command_items 0 (orders (given config number past round)))) key

  lives_longer : (number : ℕ) (past : Past) (round : Round) (key : Key)
      → lives_given (past_after config number past round) key
      ≡ (lives_given past key ++ firsts number past round key) ++ thirds number past round key
  unfolding past_after first third
  lives_longer number past round key =
      let one = first config number past round in
      let two = third config number past round in
      let own_of : Phase Key (Timed Input) → List (Timed Input) = λ phase.
      own_inputs key_cmp tick_at phase key in
      flat_map-append own_of (past.transactions ++ one ∷ []) (two ∷ [])
      ∙ (λ i. (flat_map-append own_of past.transactions (one ∷ [])
      ∙ ap (λ more. lives_given past key ++ more) (append-nil (own_of one))) i
      ++ append-nil (own_of two) i)

  abbrev LivesBy : ℕ → Past → Type 0
  LivesBy moment past = (key : Key)
      → AllByRecursion (λ (timed : Timed Input). timed.moment ≤ moment) (lives_given past key)

  lives_by_next : (moment number : ℕ) (past : Past) (round : Round) → round.moment ≤ moment
      → LivesBy moment past → LivesBy moment (past_after config number past round)
  lives_by_next moment number past round low by key =
      let P : Timed Input → Type 0 = λ timed. timed.moment ≤ moment in
      subst (AllByRecursion P) (sym (lives_longer number past round key))
      (both P (lives_given past key ++ firsts number past round key)
      (thirds number past round key)
      (both P (lives_given past key) (firsts number past round key) (by key) (
        low,
        all_own key_cmp P (first_items config number past round) key
            (all_at (λ n. n ≤ moment) round.moment low _),
      ))
      (all_own key_cmp P _ key (all_at (λ n. n ≤ moment) round.moment low _)))

  -- ---- rounds without events

  module _ (number : ℕ) (past : Past) (round : Round) (none : round.events ≡ [])
      (has : HaveTransactions config past) (key : Key) where
    abbrev now : ℕ
    now = round.moment

    abbrev ticks_out : List CallOut
    ticks_out = joined (second_ticks config number past round)

    abbrev ticked : Option Life
    ticked = next transaction_machine key (lives_in past key) (tick_at now)

    only_ticked : lives_between config number past round key ≡ ticked
    only_ticked =
        ap (λ arrivals. states_then key_cmp transaction_machine
        (lives_ticked config number past round)
        (timed_items now (transaction_items arrivals)) key)
        (no_arrivals config number past round none)

    only_asked : orders (given config number past round) ≡ orders ticks_out
    only_asked =
        ap orders (given_is config number past round key)
        ∙ (flat_map-append command_of ticks_out _
        ∙ (ap (λ more. orders ticks_out ++ more)
        (reports_silent config number past round none key)
        ∙ append-nil (orders ticks_out)))

    -- What a tick leaves and the responses that are sent again leave is true after the round. Each
    -- of these is provisional, or goes to a transaction with a 2xx.
    round_leaves : (P : Option Life → Type 0)
        → ((held : Option Life) (own : Id) (message : Message)
        → IsEarly message ⊎ ((end : ℕ) × Shuts key end held) → P held
        → P (step_at key held now (Some (Answer own message))).0)
        → P ticked → P (lives_in (past_after config number past round) key)
    round_leaves P answered holds =
        let Kept : Option Life → Type 0 = λ held. P held
        × ((end : ℕ) → Shuts key end (lives_between config number past round key)
        → Shuts key end held) in
        subst P (sym (after_is config number past round key
        ∙ (ap (run key now (lives_between config number past round key)) only_asked
        ∙ ap (λ life. run key now life (orders ticks_out)) only_ticked)))
        (run_keeps key now Kept (orders ticks_out)
        (λ held own c among kept.
        let there = among_orders ticks_out own c among in
        let asks = tick_asks config number past round has own c there in
        let harmless = tick_harmless config number past round has key own c there in
        subst (λ d. Kept (ordered key now held (own, d))) (sym asks.4)
        (ordered_keeps key now Kept held own (order.Answer asks.1.key asks.3) (λ same. (
          answered held own asks.3 (⊎_elim (λ early. inl early)
              (λ shut. inr (shut.0, kept.1 shut.0 shut.1))
              (harmless.1 asks.3 (asks.4 ∙ ap (λ q. order.Answer q asks.3) same))) kept.0,
          λ end shuts. shut_on key end held now (Some (Answer own asks.3)) tt (kept.1 end shuts),
        )) kept))
        ticked (holds, λ end shuts. subst (Shuts key end) only_ticked shuts)).0

  abbrev AllEnd : ℕ → Past → Type 0
  AllEnd bound past = (key : Key) → HeldIn (Ends (role_of key) bound) (lives_in past key)

  abbrev AllWait : Past → Type 0
  AllWait past = (key : Key) → HeldIn (Waiting (role_of key)) (lives_in past key)

  module _ (number : ℕ) (past : Past) (round : Round) (none : round.events ≡ [])
      (has : HaveTransactions config past) where
    stepped_so : (P : Option Life → Type 0) (key : Key)
        → P (stepped key (lives_in past key) (tick_at round.moment)).0
        → P (next transaction_machine key (lives_in past key) (tick_at round.moment))
    stepped_so P key holds =
        subst (λ (after : Option Life × List Out). P after.0)
        (sym (step_is key (lives_in past key) round.moment None)) holds

    ends_round : (moment : ℕ) → AllEnd (moment + LIFETIME) past
        → AllEnd (moment + LIFETIME) (past_after config number past round)
    ends_round moment ends key =
        round_leaves number past round none has key
        (HeldIn (Ends (role_of key) (moment + LIFETIME)))
        (λ held own message sent. ends_answered key (moment + LIFETIME) held round.moment own message
        sent)
        (stepped_so (HeldIn (Ends (role_of key) (moment + LIFETIME))) key
        (ends_on key moment (lives_in past key) (tick_at round.moment)
        (ticks_come moment (tick_at round.moment) refl) (ends key)))

    waits_round : ((key : Key) → HeldIn (Waiting (role_of key))
        (stepped key (lives_in past key) (tick_at round.moment)).0)
        → AllWait (past_after config number past round)
    waits_round waiting key =
        round_leaves number past round none has key (HeldIn (Waiting (role_of key)))
        (λ held own message sent. waits_answered key held round.moment own message sent)
        (stepped_so (HeldIn (Waiting (role_of key))) key (waiting key))

  idle_waits : (rounds : List Round) (number : ℕ) (past : Past) (said : List (Id × Key))
      (came : List Id) → IsFair config number past rounds said came → AreWithoutEvents rounds
      → HaveTransactions config past → AllWait past
      → AllWait (past_from config number past rounds)
  idle_waits [] number past said came fair none has waiting = waiting
  idle_waits (round ∷ rounds) number past said came fair none has waiting =
      idle_waits rounds (suc number) (past_after config number past round) _ _
      (fair_next config number past round rounds said came fair) none.1
      (has_next config number past round has
      (behind_now config number past round rounds said came fair))
      (waits_round number past round none.0 has
      (λ key. waits_on key (lives_in past key) round.moment (waiting key)))

  idle_ends : (moment : ℕ) (rounds : List Round) (number : ℕ) (past : Past)
      (said : List (Id × Key)) (came : List Id) → IsFair config number past rounds said came
      → AreWithoutEvents rounds → reaches (moment + 64 * T1) rounds
      → HaveTransactions config past → AllEnd (moment + LIFETIME) past
      → AllWait (past_from config number past rounds)
  idle_ends moment [] number past said came fair none late has ends = absurd (false≢true late)
  idle_ends moment (round ∷ rounds) number past said came fair none late has ends =
      let then = past_after config number past round in
      let fair_then = fair_next config number past round rounds said came fair in
      let has_then = has_next config number past round has
      (behind_now config number past round rounds said came fair) in
      by_bool (nat_le (moment + 64 * T1) round.moment)
      (λ now. idle_waits rounds (suc number) then _ _ fair_then none.1 has_then
      (waits_round number past round none.0 has
      (λ key. ends_or_waits key (moment + LIFETIME) (lives_in past key) round.moment (ends key)
      (leb-true (moment + LIFETIME) round.moment now))))
      (λ later. idle_ends moment rounds (suc number) then _ _ fair_then none.1
      (sym (ap (λ b. b || list_any (λ (r : Round). nat_le (moment + 64 * T1) r.moment) rounds)
      later) ∙ late)
      has_then (ends_round number past round none.0 has moment ends))

  all_end : (moment : ℕ) (past : Past) → LivesBy moment past → AllEnd (moment + LIFETIME) past
  all_end moment past by key =
      at_steps (λ machine. HeldIn (Ends (role_of key) (moment + LIFETIME))
      (state_after machine key (lives_given past key)))
      (ends_after key moment (lives_given past key)
      (all_goes (λ timed low other. low) (lives_given past key) (by key)))

  all_wait : (moment : ℕ) (idle : List Round) → AreWithoutEvents idle
      → reaches (moment + 64 * T1) idle → (rounds : List Round) (number : ℕ) (past : Past)
      (said : List (Id × Key)) (came : List Id)
      → IsFair config number past (rounds ++ idle) said came
      → AllByRecursion (λ (round : Round). round.moment ≤ moment) rounds
      → HaveTransactions config past → LivesBy moment past
      → AllWait (past_from config number past (rounds ++ idle))
  all_wait moment idle none late [] number past said came fair low has by =
      idle_ends moment idle number past said came fair none late has (all_end moment past by)
  all_wait moment idle none late (round ∷ rounds) number past said came fair low has by =
      all_wait moment idle none late rounds (suc number) (past_after config number past round) _ _
      (fair_next config number past round (rounds ++ idle) said came fair) low.1
      (has_next config number past round has
      (behind_now config number past round (rounds ++ idle) said came fair))
      (lives_by_next moment number past round low.0 by)

  -- ---- whole runs

  calls_none : (moment : ℕ) → CallsBy moment no_past
  calls_none moment q = tt

  lives_none : (moment : ℕ) → LivesBy moment no_past
  lives_none moment key = tt

  all_reached : (moment : ℕ) (rounds idle : List Round) → IsQuietSince moment rounds idle
      → (q : List ℕ) → IsReached moment (past_of config (rounds ++ idle)) q
  unfolding past_of
  all_reached moment rounds idle quiet q =
      subst (λ past. IsReached moment past q)
      (sym (past_from-append config config.first no_past rounds idle))
      (idle_from moment idle (config.first + length rounds)
      (past_from config config.first no_past rounds) quiet.none quiet.reached
      (idle_first moment (past_from config config.first no_past rounds)
      (calls_by_from moment rounds config.first no_past quiet.by (calls_none moment))) q)

module _ (config : Config) (moment : ℕ) (rounds idle : List Round)
    (quiet : IsQuietSince moment rounds idle) where
  abbrev all : List Round
  all = rounds ++ idle

  gone_or_waits : (key : Key) → is_gone_or_waits (role_of key) (life_after config all key) ≡ true
  unfolding past_of
  gone_or_waits key =
      ticks.gone_or_waits (role_of key) (life_after config all key)
      (all_wait config moment idle quiet.none quiet.reached rounds config.first no_past [] []
      (all_fair config all) quiet.by (none_have config) (lives_none config moment) key)

  rests : (call_id : List ℕ) → IsAtRest (call_after config all call_id)
  rests call_id =
      reached_rests config moment (past_of config all) call_id
      (all_reached config moment rounds idle quiet call_id)

  none_due : (held : Option Life) (key : Key) (at : ℕ) → life_after config all key ≡ held
      → is_gone_or_waits (role_of key) held ≡ true → due_of life_due held ≡ Some at → ⊥
  none_due None key at is gone due = none_some at due
    where
      none_some : (at : ℕ) → None ≡ Some at → ⊥
      none_some at same = absurd cc
  none_due (Some life) key at is waiting due =
      let quiet : is_none (life_due life) ≡ waits (role_of key) life.state =
      at_steps WaitsWithoutTimers timed_laws.waits_without_timers key
      (lives_given config (past_of config all) key) life is in
      false≢true (sym (ap is_none due) ∙ (quiet ∙ waiting))

  call_due_none : (held : Option Call) (at : ℕ) → IsAtRest held
      → due_of call_due held ≡ Some at → ⊥
  call_due_none None at rest due = none_some at due
    where
      none_some : (at : ℕ) → None ≡ Some at → ⊥
      none_some at same = absurd cc
  call_due_none (Some call) at rest due =
      false≢true (sym (ap is_none due) ∙ ap is_none rest.due)

  nothing_due : (at : ℕ) → IsDueAfter config all at → ⊥
  nothing_due at (inl (key, due)) =
      none_due (life_after config all key) key at refl (gone_or_waits key) due
  nothing_due at (inr (call_id, due)) =
      call_due_none (call_after config all call_id) at (rests call_id) due

  pub at_rest : IsAgentAtRest config all
  at_rest = record { transactions = gone_or_waits; calls = rests; due = nothing_due }

pub each_agent_comes_to_rest : EachAgentComesToRest
each_agent_comes_to_rest config moment rounds idle quiet = at_rest config moment rounds idle quiet
