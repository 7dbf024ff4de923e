-- At most one transaction is started under an id, whatever call starts it.
use Rattle.std.proofs.Common.{◌≡◌, ⊎_elim, ℕ, suc, ◌+◌, ◌≤◌, Bool, true, List, [], ◌∷◌, ◌++◌, refl, sym, ap, ◌∙◌, subst, arith}
use Rattle.std.specs.Prelude.{Contains, Option, None, Some, filter, option_map}
use Rattle.std.specs.declared.cmp.Ordering.{Ordering}
use Rattle.std.specs.BTreeMap.{is_at}
use Rattle.std.specs.List.{cons_option}
use Rattle.std.proofs.lemmas.Grind.{common_steps}
use Rattle.std.proofs.lemmas.List.{map-append}
use Rattle.std.proofs.lemmas.List.Elements.{Contains-append_cases, Contains-append_left, Contains-append_right, filter_map-append}
use Rattle.sip_message.specs.declared.id.Id.{Id}
use Rattle.sip_message.specs.declared.key.Key.{Key}
use Rattle.sip_message.specs.declared.message.Message.{Message}
use Rattle.keyed_machine.specs.Laws.{said_by}
use Rattle.keyed_machine.specs.Machine.{Machine, Timed, tick_at}
use Rattle.keyed_machine.specs.Phase.{PhaseOutputs}
use Rattle.keyed_machine.specs.Rules.{said_since}
use Rattle.sip_held_dialogs.specs.Ids.{is_id}
use Rattle.sip_user.specs.declared.item.CallOut.{CallOut}
use Rattle.sip_transactions.specs.declared.input.Command.TheVariants as order
use Rattle.sip_user.specs.declared.item.CallOut.TheVariants as out
use Rattle.sip_held_dialogs.proofs.Starts.{start_in, starts}
use Rattle.sip_calls.specs.declared.call.Call.{Call}
use Rattle.sip_calls.specs.Call.{CallItem, call_machine}
use Rattle.sip_calls.specs.CallShard.{call_cmp}
use Rattle.sip_calls.proofs.CallStarts.{how_many, ids_of}
use Rattle.sip_round.specs.declared.config.Config.{Config}
use Rattle.sip_round.specs.declared.round.Round.{Round}
use Rattle.sip_round.specs.Answers.{Past, calls_of, given_second, no_past, past_after, past_of, said_by_calls, second}
use Rattle.sip_round.specs.Outputs.{all_said, joined}
use Rattle.sip_round.proofs.GivenNotices.{calls_are, calls_from}
use Rattle.sip_round.proofs.StartedOnce.{counted, counted_one, started_from, started_once}
use Rattle.sip_conversation.specs.Messages.{CallSays}
use Rattle.sip_conversation.proofs.Among.{first_or_later, in_all_of, in_one_of, kept_among, none_among}
use Rattle.sip_conversation.proofs.Rounds.{calls_give}

-- ---- of outputs that start one under an id, at most once, there is one

id_itself : (id : Id) → is_id id id ≡ true
id_itself id = grind (arith, common_steps)

-- the id under which an output starts a transaction
abbrev pub start_id : CallOut → Option Id
start_id one = option_map (λ start. start.0) (start_in one)

-- the request with which an output starts a transaction, if it does
abbrev pub started_with : Message → CallOut → Message
started_with otherwise (out.Notice notice) = otherwise
started_with otherwise (out.Command id (order.Start key call_id request to)) = request
started_with otherwise (out.Command id (order.Answer key response)) = response
started_with otherwise (out.Command id (order.Abandon key)) = otherwise
started_with otherwise (out.Direct to bytes) = otherwise

module _ (x : Id) where
  abbrev number : List CallOut → ℕ
  number outs = how_many x (ids_of (starts outs))

  no_fewer : (o : Option (Id × Key)) (rest : List (Id × Key))
      → how_many x (ids_of rest) ≤ how_many x (ids_of (cons_option o rest))
  no_fewer None rest = omega arith
  no_fewer (Some start) rest = omega (arith, counted x start.0 (ids_of rest))

  one_more : (o : Option (Id × Key)) (rest : List (Id × Key))
      → option_map (λ start. start.0) o ≡ Some x
      → how_many x (ids_of (cons_option o rest)) ≡ 1 + how_many x (ids_of rest)
  one_more None rest is = absurd cc
  one_more (Some start) rest is =
      let same : start.0 ≡ x = cc in
      counted_one x start.0 (ids_of rest) (ap (is_id x) same ∙ id_itself x)

  some : (outs : List CallOut) (out : CallOut) → Contains outs out → start_id out ≡ Some x
      → 1 ≤ number outs
  some [] out among is = absurd (none_among out among)
  some (first ∷ outs) out among is =
      ⊎_elim
      (λ same. omega (
        arith,
        one_more (start_in first) (starts outs) (ap start_id same ∙ is),
      ))
      (λ later. omega (
        arith,
        no_fewer (start_in first) (starts outs),
        some outs out later is,
      ))
      (first_or_later first outs out among)

  not_twice : (first : CallOut) (outs : List CallOut) → number (first ∷ outs) ≤ 1
      → start_id first ≡ Some x → (out : CallOut) → Contains outs out → start_id out ≡ Some x
      → ⊥
  not_twice first outs once is out among so =
      absurd (omega (
        arith,
        once,
        one_more (start_in first) (starts outs) is,
        some outs out among so,
      ))

  only_one : (outs : List CallOut) → number outs ≤ 1 → (one other : CallOut)
      → Contains outs one → Contains outs other → start_id one ≡ Some x
      → start_id other ≡ Some x → one ≡ other
  only_one [] once one other here there is so = absurd (none_among one here)
  only_one (first ∷ outs) once one other here there is so =
      ⊎_elim
      (λ same. ⊎_elim
      (λ too. sym same ∙ too)
      (λ later. absurd (not_twice first outs once (ap start_id same ∙ is) other later so))
      (first_or_later first outs other there))
      (λ later. ⊎_elim
      (λ same. absurd (not_twice first outs once (ap start_id same ∙ so) one later is))
      (λ after. only_one outs
      (omega (arith, once, no_fewer (start_in first) (starts outs))) one other later after is so)
      (first_or_later first outs other there))
      (first_or_later first outs one here)

-- ---- what one call says is among what all calls give

module _ {K S I O : Type 0} (cmp : K → K → Ordering) (machine : Machine K S I O) (tick : ℕ → I)
  where
    in_some : {L : Type 0} (test : L × List O → Bool) (groups : List (L × List O)) (o : O)
        → Contains (joined (filter test groups)) o → Contains (joined groups) o
    in_some test groups o among =
        let one = in_one_of (λ group. group.1) (filter test groups) o among in
        in_all_of (λ group. group.1) groups one.0 o (kept_among test groups one.0 one.1).0 one.2

    pub in_all : (key : K) (told : PhaseOutputs K O) (o : O)
        → Contains (said_by cmp machine tick key told) o → Contains (all_said told) o
    in_all key told o among =
        ⊎_elim
        (λ tick_says. Contains-append_left (joined told.ticks) (joined told.items) o
        (in_some (λ group. is_at (cmp key) group.0) told.ticks o tick_says))
        (λ item_says. Contains-append_right (joined told.ticks) (joined told.items) o
        (in_some (λ group. is_at (cmp key) (group.0).1) told.items o item_says))
        (Contains-append_cases
        (joined (filter (λ group. is_at (cmp key) group.0) told.ticks))
        (joined (filter (λ group. is_at (cmp key) (group.0).1) told.items)) o among)

module _ (config : Config) where
  abbrev machine : Machine (List ℕ) Call (Timed CallItem) CallOut
  machine = call_machine (calls_of config)

  each_call : (number : ℕ) (past : Past) (rounds : List Round) (o : CallOut) (call_id : List ℕ)
      → Contains (said_since call_cmp machine tick_at call_id past.calls
      (calls_from config number past rounds)) o
      → Contains (calls_give config number past rounds) o
  unfolding given_second past_after
  each_call number past [] o call_id among = absurd (none_among o among)
  each_call number past (round ∷ rounds) o call_id among =
      let next = past_after config number past round in
      let told = said_by_calls (calls_of config) past.calls (second config number past round) in
      let rest = calls_from config (suc number) next rounds in
      ⊎_elim
      (λ here. Contains-append_left (given_second config number past round)
      (calls_give config (suc number) next rounds) o
      (in_all call_cmp machine tick_at call_id told o here))
      (λ later. Contains-append_right (given_second config number past round)
      (calls_give config (suc number) next rounds) o
      (each_call (suc number) next rounds o call_id later))
      (Contains-append_cases (said_by call_cmp machine tick_at call_id told)
      (said_since call_cmp machine tick_at call_id next.calls rest) o among)

  pub calls_say : (rounds : List Round) (o : CallOut) → CallSays config rounds o
      → Contains (calls_give config config.first no_past rounds) o
  unfolding past_of
  calls_say rounds o says =
      each_call config.first no_past rounds o says.0
      (subst (λ phases. Contains (said_since call_cmp machine tick_at says.0 [] phases) o)
      (calls_are config config.first no_past rounds) says.1)

  -- ---- what calls start in rounds

  same_ids : (number : ℕ) (past : Past) (rounds : List Round)
      → ids_of (starts (calls_give config number past rounds))
      ≡ started_from config number past rounds
  same_ids number past [] = refl
  same_ids number past (round ∷ rounds) =
      let here = given_second config number past round in
      let next = past_after config number past round in
      let later = calls_give config (suc number) next rounds in
      ap ids_of (filter_map-append start_in here later)
      ∙ (map-append (λ start. start.0) (starts here) (starts later)
      ∙ ap (λ ids. ids_of (starts here) ++ ids) (same_ids (suc number) next rounds))

  pub one_start : (rounds : List Round) (x : Id) (one other : CallOut)
      → Contains (calls_give config config.first no_past rounds) one
      → Contains (calls_give config config.first no_past rounds) other
      → start_id one ≡ Some x → start_id other ≡ Some x → one ≡ other
  one_start rounds x one other here there is so =
      only_one x (calls_give config config.first no_past rounds)
      (subst (λ ids. how_many x ids ≤ 1) (sym (same_ids config.first no_past rounds))
      (started_once config rounds x)) one other here there is so
