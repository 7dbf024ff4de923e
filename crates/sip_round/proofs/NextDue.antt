-- What the tables of all shards hold, and the first moment at which something in them is due.
use Rattle.std.proofs.Common.{◌≡◌, ◌⊎◌, inl, inr, ◌<◌, ◌≤◌, ℕ, zero, suc, ◌+◌, true, false, cond, List, [], ◌∷◌, ◌++◌, length, nat_eq, refl, sym, ap, subst, ◌∙◌, arith}
use Rattle.std.specs.Prelude.{IsSome, None, Option, Some, unwrap_or}
use Rattle.std.specs.List.{AllByRecursion}
use Rattle.std.specs.declared.cmp.Ordering.{Ordering}
use Rattle.std.specs.Cmp.{IsTotalOrder}
use Rattle.std.proofs.lemmas.Cmp.{nat_list_cmp_total}
use Rattle.std.proofs.lemmas.Grind.{common_steps}
use Rattle.std.proofs.lemmas.Map.Lookups.{CmpEqualImpliesEq, exact_bytes}
use Rattle.sip_message.specs.Key.{branch_in, key_cmp, keys_total}
use Rattle.sip_message.specs.declared.key.Key.{Key}
use Rattle.keyed_machine.specs.Machine as machines
use Rattle.keyed_machine.specs.Machine.{Machine, due_of, tick_at}
use Rattle.keyed_machine.specs.Laws.{ToldInOrder}
use Rattle.keyed_machine.specs.Phase.{Phase, states_after}
use Rattle.keyed_machine.specs.Shards.{HoldFrom, ShardsTellAll, is_owned}
use Rattle.keyed_machine.specs.Table.{Held, state_at}
use Rattle.keyed_machine.proofs.Apart.{owned_states}
use Rattle.keyed_machine.proofs.Ordered.{by_bool}
use Rattle.sip_transactions.specs.Idle as transactions
use Rattle.sip_message.specs.Keys.{exact_keys}
use Rattle.sip_transactions.specs.Machine.{life_due, transaction_machine}
use Rattle.sip_calls.specs.Call.{call_due, call_machine}
use Rattle.sip_calls.specs.CallShard.{call_cmp}
use Rattle.sip_calls.specs.Idle as calls
use Rattle.sip_round.specs.declared.config.Config.{Config}
use Rattle.sip_round.specs.declared.output.PlacedOutput.{PlacedOutput}
use Rattle.sip_round.specs.declared.round.Round.{Round}
use Rattle.sip_round.specs.AgentState.{AgentState, AreShards, ShardTables, calls_held, lives_held}
use Rattle.sip_round.specs.Answers.{HoldCalls, HoldTransactions, StandsFor, calls_of, past_of}
use Rattle.sip_round.specs.NextDue.{IsDueAfter, IsQuietAfter, without_events}
use Rattle.sip_shards.specs.Parts.{owner_of}
use Rattle.sip_shards.specs.AllShards.{IsIdle}
use Rattle.sip_shards.specs.Steps.Dues.{IsDueIn}
use Rattle.sip_round.specs.Steps.Led.{Deals}
use Rattle.sip_round.proofs.IdleRound.{idle_round}
use Rattle.sip_round.proofs.Runs.{stands_longer}
use Rattle.sip_round.proofs.HeldInShards.{some_calls, some_lives}

-- ---- tables that hold what phases left

module _ {K S I O : Type 0} {cmp : K → K → Ordering} (total : IsTotalOrder cmp)
    (exact : CmpEqualImpliesEq cmp) (machine : Machine K S I O) (due : S → Option ℕ) (tick : ℕ → I)
    (idle : (moment : ℕ) → machines.IsIdle machine due moment (tick moment)) (owner : K → ℕ)
  where
    -- for a key that it owns, a table holds the state that phases left
    own_state : (phases : List (Phase K I)) (number : ℕ) (table : Held K S)
        (tables : List (Held K S)) (key : K)
        → HoldFrom cmp machine tick owner number (table ∷ tables) phases
        → state_at cmp table key
        ≡ cond (nat_eq (owner key) number) (states_after cmp machine tick phases key) None
    own_state phases number table tables key hold =
        hold.0.states key
        ∙ owned_states total exact machine due tick idle (is_owned owner number) phases key

    same_from : (one other : List (Phase K I)) (number : ℕ) (tables : List (Held K S)) (key : K)
        → HoldFrom cmp machine tick owner number tables one
        → HoldFrom cmp machine tick owner number tables other
        → number ≤ owner key → owner key < number + length tables
        → states_after cmp machine tick one key ≡ states_after cmp machine tick other key
    same_from one other number [] key first second low high =
        absurd (omega (arith, low, high))
    same_from one other number (table ∷ tables) key first second low high =
        by_bool (nat_eq (owner key) number)
        (λ is. let of_one = ap (λ b. cond b (states_after cmp machine tick one key) None) is in
        let of_other = ap (λ b. cond b (states_after cmp machine tick other key) None) is in
        sym (own_state one number table tables key first ∙ of_one)
        ∙ own_state other number table tables key second ∙ of_other)
        (λ isnt. same_from one other (suc number) tables key first.1 second.1
        (next (owner key) number isnt low) (omega (arith, high)))
      where
        next : (o n : ℕ) → nat_eq o n ≡ false → n ≤ o → suc n ≤ o
        next o n isnt low = grind (arith, common_steps, isnt, low)

    -- if the same tables hold two pasts, these left the same for each key
    pub left_alike : (one other : List (Phase K I)) (tables : List (Held K S))
        → ((key : K) → owner key < length tables)
        → HoldFrom cmp machine tick owner zero tables one
        → HoldFrom cmp machine tick owner zero tables other → (key : K)
        → states_after cmp machine tick one key ≡ states_after cmp machine tick other key
    left_alike one other tables within first second key =
        same_from one other zero tables key first second (omega arith)
        (omega (arith, within key))

    pub sound_all : (phases : List (Phase K I)) (number : ℕ) (tables : List (Held K S))
        → HoldFrom cmp machine tick owner number tables phases
        → AllByRecursion (λ table. IsSome table) tables
    sound_all phases number [] hold = tt
    sound_all phases number (table ∷ tables) hold =
        (hold.0.sound, sound_all phases (suc number) tables hold.1)

    -- what is due in a table is due in what the phases left
    pub due_after : (phases : List (Phase K I)) (number : ℕ) (tables : List (Held K S)) (at : ℕ)
        → HoldFrom cmp machine tick owner number tables phases → IsDueIn cmp due at tables
        → (key : K) × (due_of due (states_after cmp machine tick phases key) ≡ Some at)
    due_after phases number [] at hold is = absurd is
    due_after phases number (table ∷ tables) at hold (inr later) =
        due_after phases (suc number) tables at hold.1 later
    due_after phases number (table ∷ tables) at hold (inl here) =
        let key = here.0 in
        let held = own_state phases number table tables key hold in
        by_bool (nat_eq (owner key) number)
        (λ is. (
          key,
          sym (ap (due_of due)
              (held ∙ ap (λ b. cond b (states_after cmp machine tick phases key) None) is))
              ∙ here.1,
        ))
        (λ isnt. let none : due_of due None ≡ Some at =
        sym (ap (due_of due)
        (held ∙ ap (λ b. cond b (states_after cmp machine tick phases key) None) isnt)) ∙ here.1 in
        absurd cc)

-- ---- an agent

module _ {C : Type 0} (shard_of : C → List ℕ → ℕ → ℕ)
    (within : (name : List ℕ) (n : ℕ) (cut : C) → 0 < n → shard_of cut name n < n)
    (agent : AgentState C) (shards : ShardTables) (sound : agent.shards ≡ Some shards)
    (are : AreShards shards) (config : Config) (rounds : List Round)
    (stands : StandsFor shard_of agent config rounds) where
  same : stands.shards ≡ shards
  same = ap (λ held. unwrap_or held stands.shards) (sym stands.sound ∙ sound)

  abbrev of_lives : Key → ℕ
  of_lives = owner_of (shard_of agent.cut) branch_in (length (lives_held shards))

  abbrev of_calls : List ℕ → ℕ
  of_calls = owner_of (shard_of agent.cut) (λ call_id. call_id) (length (calls_held shards))

  lives_within : (key : Key) → of_lives key < length (lives_held shards)
  lives_within key =
      within (branch_in key) (length (lives_held shards)) agent.cut (some_lives shards are)

  calls_within : (call_id : List ℕ) → of_calls call_id < length (calls_held shards)
  calls_within call_id =
      within call_id (length (calls_held shards)) agent.cut (some_calls shards are)

  abbrev HoldLives : List Round → Type 0
  HoldLives rounds = HoldTransactions (shard_of agent.cut) shards
      (past_of config rounds).transactions

  abbrev HoldTheCalls : List Round → Type 0
  HoldTheCalls rounds = HoldCalls (calls_of config) (shard_of agent.cut) shards
      (past_of config rounds).calls

  held_lives : HoldLives rounds
  held_lives = subst (λ s. HoldTransactions (shard_of agent.cut) s
      (past_of config rounds).transactions) same stands.transactions

  held_calls : HoldTheCalls rounds
  held_calls = subst (λ c. HoldCalls c (shard_of agent.cut) shards (past_of config rounds).calls)
      stands.shared (subst (λ s. HoldCalls agent.calls (shard_of agent.cut) s
      (past_of config rounds).calls) same stands.calls)

  pub lives_sound : AllByRecursion (λ table. IsSome table) (lives_held shards)
  lives_sound = sound_all keys_total exact_keys transaction_machine life_due tick_at
      transactions.ticks_are_idle of_lives (past_of config rounds).transactions zero
      (lives_held shards) held_lives

  pub calls_sound : AllByRecursion (λ table. IsSome table) (calls_held shards)
  calls_sound = sound_all nat_list_cmp_total exact_bytes (call_machine (calls_of config)) call_due
      tick_at (calls.call_ticks_are_idle (calls_of config)) of_calls (past_of config rounds).calls
      zero (calls_held shards) held_calls

  -- if nothing in the tables is due, a round without events is quiet
  pub quiet : ToldInOrder key_cmp transaction_machine tick_at
      → ShardsTellAll key_cmp transaction_machine tick_at
      → ShardsTellAll call_cmp (call_machine agent.calls) tick_at → (moment : ℕ)
      → AllByRecursion (IsIdle key_cmp transaction_machine tick_at moment true)
      (lives_held shards)
      → AllByRecursion (IsIdle key_cmp transaction_machine tick_at moment false)
      (lives_held shards)
      → AllByRecursion (IsIdle call_cmp (call_machine agent.calls) tick_at moment true)
      (calls_held shards)
      → IsQuietAfter config rounds moment
  quiet in_order lives_law calls_law moment first third second =
      let round = without_events moment in
      let led = idle_round agent.calls (shard_of agent.cut) agent.next_round round
      shards refl in_order lives_law calls_law lives_within calls_within first third second in
      let after : AgentState C =
      record agent { next_round = agent.next_round + 1; last_moment = moment } in
      let none : List PlacedOutput = [] in
      let longer = stands_longer shard_of agent after config rounds round none
      (λ held is. (
        held,
        is,
        subst (λ s. Deals agent.calls (shard_of agent.cut) agent.next_round round s s none)
            (ap (λ o. unwrap_or o held) (sym sound ∙ is)) led,
      )) refl refl refl refl stands in
      let new = longer.stands in
      let same_after : new.shards ≡ shards =
      ap (λ held. unwrap_or held new.shards) (sym new.sound ∙ sound) in
      let lives_after : HoldLives (rounds ++ round ∷ []) =
      subst (λ s. HoldTransactions (shard_of agent.cut) s
      (past_of config (rounds ++ round ∷ [])).transactions) same_after new.transactions in
      let calls_after : HoldTheCalls (rounds ++ round ∷ []) =
      subst (λ c. HoldCalls c (shard_of agent.cut) shards
      (past_of config (rounds ++ round ∷ [])).calls) new.shared
      (subst (λ s. HoldCalls agent.calls (shard_of agent.cut) s
      (past_of config (rounds ++ round ∷ [])).calls) same_after new.calls) in
      record {
        gives = longer.alone;
        leaves = record {
          transactions = left_alike keys_total exact_keys transaction_machine life_due tick_at
              transactions.ticks_are_idle of_lives
              (past_of config (rounds ++ round ∷ [])).transactions
              (past_of config rounds).transactions (lives_held shards) lives_within lives_after
              held_lives;
          calls = left_alike nat_list_cmp_total exact_bytes (call_machine (calls_of config))
              call_due tick_at (calls.call_ticks_are_idle (calls_of config)) of_calls
              (past_of config (rounds ++ round ∷ [])).calls (past_of config rounds).calls
              (calls_held shards) calls_within calls_after held_calls;
        };
      }

  pub due_of_either : (at : ℕ) → IsDueIn key_cmp life_due at (lives_held shards)
      ⊎ IsDueIn call_cmp call_due at (calls_held shards) → IsDueAfter config rounds at
  due_of_either at (inl is) =
      inl (due_after keys_total exact_keys transaction_machine life_due tick_at
      transactions.ticks_are_idle of_lives (past_of config rounds).transactions zero
      (lives_held shards) at held_lives is)
  due_of_either at (inr is) =
      inr (due_after nat_list_cmp_total exact_bytes (call_machine (calls_of config)) call_due
      tick_at (calls.call_ticks_are_idle (calls_of config)) of_calls (past_of config rounds).calls
      zero (calls_held shards) at held_calls is)
