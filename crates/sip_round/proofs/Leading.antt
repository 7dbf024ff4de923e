-- The three phases, and a round of all three.
use Rattle.std.proofs.Common.{◌≡◌, ◌<◌, Bool, ℕ, zero, List, [], ◌∷◌, ◌++◌, length, map, refl, sym, ◌∙◌, ap, subst}
use Rattle.std.specs.List.{flat_map}
use Rattle.std.specs.List.Sorted.{IsStrictlySortedBy}
use Rattle.std.specs.Ordering.{nat_cmp}
use Rattle.std.specs.declared.cmp.Ordering.{Ordering}
use Rattle.keyed_machine.specs.Machine.{Machine, Timed, tick_at}
use Rattle.sip_message.specs.declared.id.Id.{Id}
use Rattle.sip_message.specs.declared.key.Key.{Key}
use Rattle.sip_message.specs.Key.{key_cmp, branch_in}
use Rattle.keyed_machine.specs.Laws.{ToldInOrder}
use Rattle.keyed_machine.specs.declared.item.Item.{Item as ShardItem}
use Rattle.keyed_machine.specs.Phase.{Phase, PhaseOutputs, by_place, phase_at}
use Rattle.keyed_machine.specs.Shards.{HoldFrom}
use Rattle.keyed_machine.specs.Table.{Held}
use Rattle.sip_transactions.specs.declared.input.Command.{Command}
use Rattle.sip_transactions.specs.declared.input.Input.{Input}
use Rattle.sip_transactions.specs.declared.life.Life.{Life}
use Rattle.sip_transactions.specs.declared.output.Out.{Out}
use Rattle.sip_transactions.specs.Machine.{transaction_machine}
use Rattle.sip_user.specs.declared.item.Item.{Item}
use Rattle.sip_user.specs.declared.item.CallOut.{CallOut}
use Rattle.sip_calls.specs.declared.call.Call.{Call}
use Rattle.sip_calls.specs.declared.calls.Calls.{Calls}
use Rattle.sip_calls.specs.Call.{call_machine}
use Rattle.sip_calls.specs.CallShard.{call_cmp}
use Rattle.sip_round.specs.declared.config.Config.{Config}
use Rattle.sip_round.specs.declared.output.PlacedOutput.{PlacedOutput}
use Rattle.sip_round.specs.declared.round.Round.{Round}
use Rattle.sip_round.specs.declared.waiting.Waiting.{Waiting}
use Rattle.sip_round.specs.AgentState.{ShardTables, calls_held, lives_held}
use Rattle.sip_round.specs.Answers.{Past, arrivals, calls_of, first, given_second, items_first, items_of_round, past_after, placed_answer, placed_first, placed_second, placed_third, said_by_transactions, said_by_calls, second, third}
use Rattle.sip_round.specs.Arrivals.{Arrival, arrivals_from}
use Rattle.sip_round.specs.Steps.Arrived.{ArePlaced}
use Rattle.sip_shards.specs.AllShards.{DealsAll, DealsParts}
use Rattle.sip_round.specs.Steps.Led.{Deals, LedFirst, LedSecond, LedThird}
use Rattle.sip_round.specs.Outputs.{all_said, command_of, joined, outs_of, place_of, raised_of, said_at, sent_at, sent_of, call_outputs_at, call_outputs, user_items}
use Rattle.sip_shards.specs.Parts.{cut_by, owner_of}
use Rattle.sip_round.specs.Phases.{first_phase, second_phase, third_phase, transaction_items}
use Rattle.sip_round.specs.Steps.Waiting.{all_waiting, by_event}
use Rattle.sip_shards.proofs.Cutting.{map_long}
use Rattle.sip_shards.proofs.Numbered.{places_timed}
use Rattle.sip_round.proofs.ByEvent.{behind, each, flat_map-map, woven_by_place}
use Rattle.sip_round.proofs.InForm.{told}
use Rattle.sip_round.proofs.Said.{calls_say, told_by_calls, told_by_transactions, transactions_say}

joined_by_place : {K O : Type 0} (told : List ((ℕ × K) × List O))
    → joined (map by_place told) ≡ joined told
joined_by_place [] = refl
joined_by_place (t ∷ ts) = ap (λ more. t.1 ++ more) (joined_by_place ts)

-- the outputs of all shards, one shard after another, are all outputs
whole : {K O : Type 0} (told : PhaseOutputs K O) (ticks : List (K × List O))
    (said : List (ℕ × List O))
    → ticks ≡ told.ticks → said ≡ map by_place told.items
    → joined ticks ++ joined said ≡ all_said told
whole told ticks said by_tick by_item =
    ap (λ t. joined t ++ joined said) by_tick
    ∙ ap (λ s. joined told.ticks ++ joined s) by_item
    ∙ ap (λ s. joined told.ticks ++ s) (joined_by_place told.items)

-- ---- the first phase

module _ (owner : Key → ℕ) (old new : List (Held Key Life)) (number now : ℕ)
    (arrived : List (Id × Arrival)) (placed : ArePlaced 1 arrived)
    (law : ToldInOrder key_cmp transaction_machine tick_at)
    (ticks : List (Key × List Out)) (said : List (ℕ × List Out))
    (deals : DealsAll key_cmp transaction_machine tick_at owner old new
    (first_phase now arrived) ticks said) where
  woven_told : (past : List (Phase Key (Timed Input)))
      → HoldFrom key_cmp transaction_machine tick_at owner zero old past
      → by_event (all_waiting arrived) said
      ≡ map (λ a. (
        a.0,
        outs_of (said_at (told_by_transactions past (first_phase now arrived))) a.0
            a.1,
        user_items a.0 a.1,
      )) arrived
  woven_told past hold =
      ap (by_event (all_waiting arrived)) (deals.items_told past hold)
      ∙ woven_by_place 1 arrived placed
      (told_by_transactions past (first_phase now arrived)).items
      ((law past (first_phase now arrived)).by_place
      ∙ places_timed now (transaction_items arrived))

  -- what is sent and dropped for what waited
  abbrev pub first_given : List (Id × Waiting) → List PlacedOutput
  first_given waiting = told sent_of (λ w. (w.0).place) (λ w. w.1) (joined ticks)
      (by_event waiting said)

  pub led_first : (waiting : List (Id × Waiting)) (items : List (Id × Item))
      → waiting ≡ all_waiting arrived
      → items ≡ flat_map (raised_of (record { round = number; place = 0 })) (joined ticks)
      ++ flat_map (λ w. flat_map (raised_of w.0) w.1 ++ w.2) (by_event waiting said)
      → LedFirst owner old new number now arrived (first_given waiting) items
  led_first waiting items waits raises = record {
    count = deals.count;
    stands = deals.stands;
    sent = λ past hold.
        let told : PhaseOutputs Key Out = told_by_transactions past (first_phase now arrived) in
        let sent : Id × List Out × List (Id × Item) → List PlacedOutput =
        λ w. flat_map (sent_at (w.0).place) w.1 in
        subst (λ said. first_given waiting ≡ placed_first said arrived)
        (transactions_say past (first_phase now arrived))
        (ap (λ t. flat_map (sent_at 0) (joined t) ++ flat_map sent (by_event waiting said))
        (deals.ticks_told past hold)
        ∙ ap (λ w. flat_map (sent_at 0) (joined told.ticks) ++ flat_map sent (by_event w said))
        waits
        ∙ ap (λ ws. flat_map (sent_at 0) (joined told.ticks) ++ flat_map sent ws)
        (woven_told past hold)
        ∙ ap (λ more. flat_map (sent_at 0) (joined told.ticks) ++ more)
        (flat_map-map sent (λ a. (a.0, outs_of (said_at told) a.0 a.1, user_items a.0 a.1))
        arrived));
    raised = λ past hold.
        let told : PhaseOutputs Key Out = told_by_transactions past (first_phase now arrived) in
        let tick_id : Id = record { round = number; place = 0 } in
        subst (λ said. items ≡ items_first number said arrived)
        (transactions_say past (first_phase now arrived))
        (raises
        ∙ ap (λ t. flat_map (raised_of tick_id) (joined t)
        ++ flat_map (λ w. flat_map (raised_of w.0) w.1 ++ w.2) (by_event waiting said))
        (deals.ticks_told past hold)
        ∙ ap (λ w. flat_map (raised_of tick_id) (joined told.ticks)
        ++ flat_map (λ w. flat_map (raised_of w.0) w.1 ++ w.2) (by_event w said)) waits
        ∙ ap (λ w. flat_map (raised_of tick_id) (joined told.ticks)
        ++ flat_map (λ w. flat_map (raised_of w.0) w.1 ++ w.2) w) (woven_told past hold)
        ∙ ap (λ more. flat_map (raised_of tick_id) (joined told.ticks) ++ more)
        (flat_map-map (λ (w : Id × List Out × List (Id × Item)). flat_map (raised_of w.0) w.1
        ++ w.2) (λ a. (a.0, outs_of (said_at told) a.0 a.1, user_items a.0 a.1)) arrived));
  }

-- ---- the second and the third phase

-- what is shown at the ticks, and for these items
abbrev pub second_given : List (Id × Item) → List (List ℕ × List CallOut)
    → List (ℕ × List CallOut) → List PlacedOutput
second_given items ticks said = told call_outputs (λ group. place_of items group.0) (λ group. group.1)
    (joined ticks) said

pub led_second : (shared : Calls) (owner : List ℕ → ℕ) (old new : List (Held (List ℕ) Call))
    (now : ℕ) (items : List (Id × Item)) (ticks : List (List ℕ × List CallOut))
    (said : List (ℕ × List CallOut)) (none half commands : List (Id × Command))
    → DealsAll call_cmp (call_machine shared) tick_at owner old new
    (second_phase now items) ticks said
    → none ≡ [] → half ≡ none ++ each command_of ticks → commands ≡ half ++ each command_of said
    → LedSecond shared owner old new now items (second_given items ticks said) commands
led_second shared owner old new now items ticks said none half commands deals nothing asks_ticks
    asks = record {
      count = deals.count;
      stands = deals.stands;
      reported = λ past hold.
          let told = told_by_calls shared past (second_phase now items) in
          let reported : ℕ × List CallOut → List PlacedOutput =
          λ group. flat_map (call_outputs_at (place_of items group.0)) group.1 in
          subst (λ all. second_given items ticks said ≡ placed_second all items)
          (calls_say shared past (second_phase now items))
          (ap (λ t. flat_map (call_outputs_at 0) (joined t) ++ flat_map reported said)
          (deals.ticks_told past hold)
          ∙ ap (λ s. flat_map (call_outputs_at 0) (joined told.ticks) ++ flat_map reported s)
          (deals.items_told past hold)
          ∙ ap (λ more. flat_map (call_outputs_at 0) (joined told.ticks) ++ more)
          (flat_map-map reported by_place told.items));
      commanded = λ past hold. behind command_of ticks said none half commands asks_ticks asks
          ∙ ap (λ cs. cs ++ flat_map command_of (joined ticks ++ joined said)) nothing
          ∙ ap (flat_map command_of) (whole
          (told_by_calls shared past (second_phase now items)) ticks said
          (deals.ticks_told past hold) (deals.items_told past hold)
          ∙ ap all_said (calls_say shared past (second_phase now items)));
    }

pub led_third : (owner : Key → ℕ) (old new : List (Held Key Life)) (now : ℕ)
    (commands : List (Id × Command)) (ticks : List (Key × List Out)) (said : List (ℕ × List Out))
    → DealsAll key_cmp transaction_machine tick_at owner old new
    (third_phase now commands) ticks said
    → LedThird owner old new now commands (flat_map (sent_at 0) (joined ticks ++ joined said))
led_third owner old new now commands ticks said deals = record {
  count = deals.count;
  stands = deals.stands;
  sent = λ past hold. ap (flat_map (sent_at 0))
      (whole (told_by_transactions past (third_phase now commands)) ticks said
      (deals.ticks_told past hold) (deals.items_told past hold)
      ∙ ap all_said (transactions_say past (third_phase now commands)));
}

-- ---- whoever ran the pieces of the phases

module _ (shard_of : List ℕ → ℕ → ℕ)
    (within : (name : List ℕ) (n : ℕ) → 0 < n → shard_of name n < n) (now : ℕ) where
  -- a phase of shards, each with its part of the items
  pub dealt : {X K S I O : Type 0} (cmp : K → K → Ordering) (machine : Machine K S (Timed I) O)
      (name : K → List ℕ) (held : X → Held K S) (shards new : List X) (count : ℕ) (tick : Bool)
      (items : List (ShardItem K I)) (parts : List (List (ShardItem K I)))
      (ticks : List (K × List O)) (said : List (ℕ × List O)) → 0 < length shards
      → count ≡ length shards
      → parts ≡ cut_by (owner_of shard_of name count) zero count items
      → IsStrictlySortedBy nat_cmp (map (λ item. item.place) items)
      → DealsParts cmp machine tick_at now tick parts (map held shards) (map held new) ticks said
      → DealsAll cmp machine tick_at (owner_of shard_of name (length (map held shards)))
      (map held shards) (map held new) (phase_at now tick items) ticks said
  dealt cmp machine name held shards new count tick items parts ticks said some as_many cut climbs
      deals =
      let long : length shards ≡ length (map held shards) = sym (map_long held shards) in
      deals (owner_of shard_of name (length (map held shards))) items
      (λ key. within (name key) (length (map held shards)) (subst (λ n. 0 < n) long some))
      (subst (λ n. parts ≡ cut_by (owner_of shard_of name n) zero n items) (as_many ∙ long) cut)
      climbs

-- ---- a round

module _ (shard_of : List ℕ → ℕ → ℕ) (number : ℕ) (round : Round) (old new : ShardTables)
    (mid_lives : List (Held Key Life)) (items : List (Id × Item))
    (commands : List (Id × Command)) (sent reported last : List PlacedOutput)
    (after_third : LedThird (owner_of shard_of branch_in (length mid_lives)) mid_lives
    (lives_held new) round.moment commands last) where
  abbrev old_lives : List (Held Key Life)
  old_lives = lives_held old

  abbrev new_lives : List (Held Key Life)
  new_lives = lives_held new

  abbrev old_calls : List (Held (List ℕ) Call)
  old_calls = calls_held old

  abbrev new_calls : List (Held (List ℕ) Call)
  new_calls = calls_held new

  module _ (config : Config)
      (after_first : LedFirst (owner_of shard_of branch_in (length old_lives)) old_lives mid_lives
      number round.moment (arrivals_from config.local number 1 round.events) sent items)
      (after_second : LedSecond (calls_of config)
      (owner_of shard_of (λ call_id. call_id) (length old_calls)) old_calls new_calls
      round.moment items reported commands)
      (past : Past) (lives : HoldFrom key_cmp transaction_machine tick_at
      (owner_of shard_of branch_in (length old_lives)) zero old_lives past.transactions)
      (calls : HoldFrom call_cmp (call_machine (calls_of config)) tick_at
      (owner_of shard_of (λ call_id. call_id) (length old_calls)) zero old_calls
      past.calls) where
    same_items : items ≡ items_of_round config number past round
    unfolding first items_of_round
    same_items = after_first.raised past.transactions lives

    same_commands : commands ≡ flat_map command_of (given_second config number past round)
    unfolding second given_second
    same_commands = after_second.commanded past.calls calls
        ∙ ap (λ is. flat_map command_of
        (all_said (said_by_calls (calls_of config) past.calls (second_phase round.moment is))))
        same_items

    mid_held : HoldFrom key_cmp transaction_machine tick_at
        (owner_of shard_of branch_in (length mid_lives)) zero mid_lives
        (past.transactions ++ first config number past round ∷ [])
    unfolding first
    mid_held = subst (λ n. HoldFrom key_cmp transaction_machine tick_at
        (owner_of shard_of branch_in n) zero mid_lives
        (past.transactions ++ first_phase round.moment (arrivals config number past round) ∷ []))
        (sym after_first.count)
        (after_first.stands past.transactions lives)

    new_held : HoldFrom key_cmp transaction_machine tick_at
        (owner_of shard_of branch_in (length new_lives)) zero new_lives
        (past_after config number past round).transactions
    unfolding third past_after
    new_held =
        subst (λ n. HoldFrom key_cmp transaction_machine tick_at
        (owner_of shard_of branch_in n) zero new_lives
        ((past.transactions ++ first config number past round ∷ [])
        ++ third_phase round.moment (flat_map command_of
        (given_second config number past round)) ∷ [])) (sym after_third.count)
        (subst (λ cs. HoldFrom key_cmp transaction_machine tick_at
        (owner_of shard_of branch_in (length mid_lives)) zero new_lives
        ((past.transactions ++ first config number past round ∷ [])
        ++ third_phase round.moment cs ∷ [])) same_commands
        (after_third.stands (past.transactions ++ first config number past round ∷ []) mid_held))

    new_called : HoldFrom call_cmp (call_machine (calls_of config)) tick_at
        (owner_of shard_of (λ call_id. call_id) (length new_calls)) zero new_calls
        (past_after config number past round).calls
    unfolding second past_after
    new_called =
        subst (λ n. HoldFrom call_cmp (call_machine (calls_of config)) tick_at
        (owner_of shard_of (λ call_id. call_id) n) zero new_calls
        (past.calls ++ second_phase round.moment (items_of_round config number past round)
        ∷ [])) (sym after_second.count)
        (subst (λ is. HoldFrom call_cmp (call_machine (calls_of config)) tick_at
        (owner_of shard_of (λ call_id. call_id) (length old_calls)) zero new_calls
        (past.calls ++ second_phase round.moment is ∷ [])) same_items
        (after_second.stands past.calls calls))

    answered : (sent ++ reported) ++ last ≡ placed_answer config number past round
    unfolding first second third given_second items_of_round placed_answer
    answered =
        let between = past.transactions ++ first config number past round ∷ [] in
        (λ i. (after_first.sent past.transactions lives i ++ after_second.reported past.calls calls i)
        ++ after_third.sent between mid_held i)
        ∙ (λ i. (placed_first (said_by_transactions past.transactions
        (first config number past round)) (arrivals config number past round)
        ++ placed_second (said_by_calls (calls_of config) past.calls
        (second_phase round.moment (same_items i))) (same_items i))
        ++ placed_third (said_by_transactions between
        (third_phase round.moment (same_commands i))))

  pub deals : (shared : Calls) → LedFirst
      (owner_of shard_of branch_in (length old_lives)) old_lives mid_lives number round.moment
      (arrivals_from shared.local number 1 round.events) sent items
      → LedSecond shared (owner_of shard_of (λ call_id. call_id) (length old_calls)) old_calls
      new_calls round.moment items reported commands
      → Deals shared shard_of number round old new ((sent ++ reported) ++ last)
  deals shared after_first after_second =
      let one : (config : Config) → shared ≡ calls_of config
      → LedFirst (owner_of shard_of branch_in (length old_lives)) old_lives mid_lives number
      round.moment (arrivals_from config.local number 1 round.events) sent items =
      λ config same. subst (λ s. LedFirst
      (owner_of shard_of branch_in (length old_lives)) old_lives mid_lives number round.moment
      (arrivals_from s number 1 round.events) sent items)
      (ap (λ s. s.local) same) after_first in
      let two : (config : Config) → shared ≡ calls_of config
      → LedSecond (calls_of config) (owner_of shard_of (λ call_id. call_id) (length old_calls))
      old_calls new_calls round.moment items reported commands =
      λ config same. subst (λ s. LedSecond s
      (owner_of shard_of (λ call_id. call_id) (length old_calls)) old_calls new_calls
      round.moment items reported commands) same after_second in
      let held : (config : Config) (past : Past) → shared ≡ calls_of config
      → HoldFrom call_cmp (call_machine shared) tick_at
      (owner_of shard_of (λ call_id. call_id) (length old_calls)) zero old_calls past.calls
      → HoldFrom call_cmp (call_machine (calls_of config)) tick_at
      (owner_of shard_of (λ call_id. call_id) (length old_calls)) zero old_calls past.calls =
      λ config past same. subst (λ s.
      HoldFrom call_cmp (call_machine s) tick_at
      (owner_of shard_of (λ call_id. call_id) (length old_calls)) zero old_calls past.calls)
      same in
      record {
        count = sym (map_long (λ shard. shard.held) new.transactions)
            ∙ after_third.count ∙ after_first.count
            ∙ map_long (λ shard. shard.held) old.transactions;
        transactions = λ config past same lives calls.
            new_held config (one config same) (two config same) past lives
            (held config past same calls);
        calls = λ config past same lives calls.
            subst (λ s. HoldFrom call_cmp (call_machine s) tick_at
            (owner_of shard_of (λ call_id. call_id) (length new_calls)) zero new_calls
            (past_after config number past round).calls) (sym same)
            (new_called config (one config same) (two config same) past lives
            (held config past same calls));
        answered = λ config past same lives calls.
            answered config (one config same) (two config same) past lives
            (held config past same calls);
      }
