-- A round in which a request waits for its outcome: it goes on, or the application is told.
use Rattle.std.proofs.Common.{◌≡◌, ◌⊎◌, inl, inr, ⊎_elim, ℕ, suc, ◌≤◌, Bool, true, false, cond, ◌||◌, List, [], ◌∷◌, ◌++◌, map, refl, sym, ap, ◌∙◌, append_assoc, append-nil, subst}
use Rattle.std.specs.Prelude.{Option, None, Some, IsSome, codes, count_by, filter, nat_le}
use Rattle.std.specs.BTreeMap.{is_at}
use Rattle.std.specs.List.{AllByRecursion, flat_map, list_any}
use Rattle.std.proofs.lemmas.Bool.{false≢true, or_parts}
use Rattle.std.proofs.lemmas.Grind.{flat_map-append}
use Rattle.sip_message.specs.Keys.{exact_keys}
use Rattle.sip_message.specs.Key.{key_cmp, keys_total, method_in}
use Rattle.sip_message.specs.declared.id.Id.{Id}
use Rattle.sip_message.specs.declared.key.Key.{Key}
use Rattle.sip_message.specs.declared.key.Key.TheVariants as key
use Rattle.keyed_machine.specs.declared.item.Item as model
use Rattle.keyed_machine.specs.Groups.{speaks}
use Rattle.keyed_machine.specs.Machine.{Timed, adds, tick_at}
use Rattle.keyed_machine.specs.Phase.{Phase, history, inputs_of as own_items, keys_of_phases, own_inputs, timed_items}
use Rattle.keyed_machine.proofs.Ordered.{by_bool, exact_at, is_at_itself}
use Rattle.keyed_machine.proofs.Phases.{phases_cover}
use Rattle.sip_transactions.specs.Idle.{ticks_are_idle}
use Rattle.sip_transactions.specs.declared.input.Command.{Command}
use Rattle.sip_transactions.specs.declared.input.Command.TheVariants as order
use Rattle.sip_transactions.specs.declared.input.Input.{Input}
use Rattle.sip_transactions.specs.declared.life.Life.{Life}
use Rattle.sip_transactions.specs.declared.output.Out.{Out}
use Rattle.sip_transactions.specs.declared.output.Out.TheVariants as out
use Rattle.sip_transactions.specs.declared.output.Up.{Up as AnUp}
use Rattle.sip_transactions.specs.declared.state.Role.TheVariants as role
use Rattle.sip_transactions.specs.Machine.{life_due, transaction_machine}
use Rattle.sip_transactions.specs.Shard.{asked_by, command_key}
use Rattle.sip_transactions.specs.Steps.Input.{is_abandon, is_same_method, role_of}
use Rattle.sip_user.specs.declared.item.CallOut.{CallOut}
use Rattle.sip_user.specs.declared.item.CallOut.TheVariants as call_out
use Rattle.sip_user.specs.declared.item.Item.{Item}
use Rattle.sip_user.specs.declared.item.Item.TheVariants.{Up}
use Rattle.sip_user.specs.declared.notice.Notice.{Notice}
use Rattle.sip_clients.specs.Rules.Requests.{has_command}
use Rattle.sip_calls.specs.OwnCall.{IsCallOf}
use Rattle.sip_calls.specs.Provisionals.{side_held}
use Rattle.sip_held_dialogs.proofs.Starts.{starts}
use Rattle.sip_calls.proofs.CallStarts.{how_many, ids_of}
use Rattle.sip_calls.proofs.OwnCall.{each_notice_is_own}
use Rattle.sip_round.specs.declared.config.Config.{Config}
use Rattle.sip_round.specs.declared.output.Output.TheVariants as output
use Rattle.sip_round.specs.declared.round.Round.{Round}
use Rattle.sip_round.specs.Answers.{Past, answer, arrivals, calls_of, each_from, first, given_second, items_of_round, past_after, past_from, said_by_transactions, third}
use Rattle.sip_round.specs.Outputs.{all_said, call_outputs, joined, sent_of, raised_of}
use Rattle.sip_round.specs.Phases.{command_items}
use Rattle.sip_round.proofs.AnswerParts.{answer_parts, sent_first}
use Rattle.sip_agent_laws.specs.Transactions.Outcomes.{is_outcome}
use Rattle.sip_agent_laws.specs.Agents.Outcomes.{Causes}
use Rattle.sip_agent_laws.proofs.agents.ClientsHeld.{Abandons, Holds, IsCommanded, is_invite_key}
use Rattle.sip_agent_laws.proofs.agents.Apart.{starts_from}
use Rattle.sip_agent_laws.proofs.agents.CallHeld.{tick_asked}
use Rattle.sip_agent_laws.proofs.agents.Commands.{IsAbandonOf, orders}
use Rattle.sip_agent_laws.proofs.agents.EndTold.{IsTold, items_told, told_right}
use Rattle.sip_agent_laws.proofs.agents.Going.{GoesOn, HandsUp, IsGoing, OwnCame, ends_ticked, goes_run, items_then, ticked}
use Rattle.sip_agent_laws.proofs.agents.Items.{item_given, requests_among, up_among}
use Rattle.sip_agent_laws.proofs.agents.Linked.{IsLinked, after_is, calls_in, calls_ticked, came_in, first_items, first_ticks, given, given_is, items, items_are, lives_between, lives_in, lives_ticked, no_events, second_items, second_own_items, second_ticks, starts_are}
use Rattle.sip_agent_laws.proofs.agents.LinkedRounds.{IsFair, fair_next, linked_next}
use Rattle.sip_agent_laws.proofs.agents.Lists.{Among, among_flat, among_kept, among_left, among_mapped, among_right}
use Rattle.sip_agent_laws.proofs.agents.OpenLives.{is_server}
use Rattle.sip_agent_laws.proofs.agents.SecondPhase.{fewer_counted, no_abandon, says}
use Rattle.sip_agent_laws.proofs.calls.OneTold.{brings_outcome}
use Rattle.std.proofs.lemmas.List.Folds.{list_any-append}

-- ---- the transaction of a command

module _ (k : Key) where
  pub is_commanded : has_command (method_in k) ≡ false → IsCommanded k
  is_commanded none = record {
    prack = λ same. false≢true (sym none ∙ sym (ap has_command same));
    cancel = λ same. false≢true (sym none ∙ sym (ap has_command same));
  }

  pub no_invite : role_of k ≡ role.Client → is_invite_key k ≡ false
  no_invite client = by_key k client
    where
      by_key : (k : Key) → role_of k ≡ role.Client → is_invite_key k ≡ false
      by_key (key.Client branch method) client =
          by_bool (is_same_method method (codes "INVITE"))
          (λ hit. absurd (invites (sym (ap (λ b. cond b role.InviteClient role.Client) hit)
          ∙ client)))
          (λ miss. miss)
        where
          invites : role.InviteClient ≡ role.Client → ⊥
          invites same = absurd cc
      by_key (key.Server branch sent_by method) client =
          by_bool (is_same_method method (codes "INVITE"))
          (λ hit. absurd (invites (sym (ap (λ b. cond b role.InviteServer role.Server) hit)
          ∙ client)))
          (λ miss. absurd (serves (sym (ap (λ b. cond b role.InviteServer role.Server) miss)
          ∙ client)))
        where
          invites : role.InviteServer ≡ role.Client → ⊥
          invites same = absurd cc

          serves : role.Server ≡ role.Client → ⊥
          serves same = absurd cc

-- ---- what comes up at a tick is given to the calls

some_speaks : (outs : List Out) (o : Out) → Among outs o → speaks outs ≡ true
some_speaks [] o among = absurd among
some_speaks (x ∷ outs) o among = refl

named_key : (keys : List Key) (k : Key) → list_any (is_at (key_cmp k)) keys ≡ true → Among keys k
named_key [] k is = absurd (false≢true is)
named_key (q ∷ keys) k is =
    by_bool (is_at (key_cmp k) q)
    (λ hit. inl (sym (exact_at keys_total exact_keys k q hit)))
    (λ miss. inr (named_key keys k (sym (ap (λ b. b || list_any (is_at (key_cmp k)) keys) miss)
    ∙ is)))

raised_up : (id : Id) (outs : List Out) (up : AnUp) → Among outs (out.Up up)
    → Among (flat_map (raised_of id) outs) (id, Up up)
raised_up id outs up among =
    among_flat (raised_of id) outs (out.Up up) (id, Up up) among (inl refl)

-- ---- commands

-- no command gives the transaction up
abbrev AreKept : Key → List (Id × Command) → Type 0
AreKept k cs = AllByRecursion (λ (c : Id × Command). IsAbandonOf k c.1 → ⊥) cs

-- a command that gives it up would come to it
kept_orders : (k : Key) (now : ℕ) (cs : List (Id × Command)) (at : ℕ)
    → list_any (λ (timed : Timed Input). is_abandon timed.input)
    (own_items key_cmp (timed_items now (command_items at cs)) k) ≡ false → AreKept k cs
kept_orders k now [] at none = tt
kept_orders k now ((own, c) ∷ cs) at none =
    by_bool (is_at (key_cmp (command_key c)) k)
    (λ hit.
    let mine : (is_abandon (Some (asked_by own c)) || rest) ≡ false =
    sym (ap (λ b. any (map (λ (item : model.Item Key (Timed Input)). item.input)
    (cond b (this ∷ others) others))) hit) ∙ none in (
      λ gives. one c gives (or_parts _ rest mine).0,
      kept_orders k now cs (suc at) (or_parts _ rest mine).1,
    ))
    (λ miss. (
      λ gives. false≢true (sym miss ∙ its_own c gives),
      kept_orders k now cs (suc at) (sym (ap (λ b. any (map
          (λ (item : model.Item Key (Timed Input)). item.input)
          (cond b (this ∷ others) others))) miss) ∙ none),
    ))
  where
    any : List (Timed Input) → Bool
    any inputs = list_any (λ (timed : Timed Input). is_abandon timed.input) inputs

    this : model.Item Key (Timed Input)
    this = record {
      place = at;
      key = command_key c;
      input = record { moment = now; input = Some (asked_by own c) };
    }

    others : List (model.Item Key (Timed Input))
    others = filter (λ item. is_at (key_cmp item.key) k)
        (timed_items now (command_items (suc at) cs))

    rest : Bool
    rest = any (own_items key_cmp (timed_items now (command_items (suc at) cs)) k)

    one : (c : Command) → IsAbandonOf k c → is_abandon (Some (asked_by own c)) ≡ false → ⊥
    one (order.Start key call_id message to) gives kept = gives
    one (order.Answer key message) gives kept = gives
    one (order.Abandon key) gives kept = false≢true (sym kept)

    its_own : (c : Command) → IsAbandonOf k c → is_at (key_cmp (command_key c)) k ≡ true
    its_own (order.Start key call_id message to) gives = absurd gives
    its_own (order.Answer key message) gives = absurd gives
    its_own (order.Abandon key) gives =
        ap (λ q. is_at (key_cmp q) k) gives ∙ is_at_itself keys_total k

given_order : (outs : List CallOut) (k : Key) → AreKept k (orders outs) → Abandons k outs → ⊥
given_order outs k kept gone = no_abandon k outs gone kept

-- ---- one round

module _ (config : Config) (number : ℕ) (past : Past) (round : Round) where
  abbrev now_at : ℕ
  now_at = round.moment

  abbrev next_past : Past
  next_past = past_after config number past round

  tick_given : (k : Key) (life : Life) → lives_in past k ≡ Some life → (up : AnUp)
      → Among (adds transaction_machine k (lives_in past k) (tick_at now_at)) (out.Up up)
      → (id : Id) × Among (items config number past round) (id, Up up)
  tick_given k life is up among =
      let says_at : Key → List Out =
      λ q. adds transaction_machine q (lives_in past q) (tick_at now_at) in
      let keys = keys_of_phases key_cmp past.transactions in
      let some = named_key keys k ((phases_cover key_cmp transaction_machine life_due tick_at
      ticks_are_idle keys_total past.transactions).each k
      (subst (λ (o : Option Life). IsSome o) (sym is) refl)) in
      let group : Among (first_ticks config number past round) (k, says_at k) =
      among_mapped (λ q. (q, says_at q)) (filter (λ q. speaks (says_at q)) keys) k
      (among_kept (λ q. speaks (says_at q)) keys k some
      (some_speaks (says_at k) (out.Up up) among)) in
      let there : Among (joined (first_ticks config number past round)) (out.Up up) =
      among_flat (λ (said : Key × List Out). said.1) (first_ticks config number past round)
      (k, says_at k) (out.Up up) group among in
      let zero : Id = record { round = number; place = 0 } in (
        zero,
        subst (λ (all : List (Id × Item)). Among all (zero, Up up))
            (sym (items_are config number past round))
            (among_left (flat_map (raised_of zero) (joined (first_ticks config number past round)))
            _ (zero, Up up)
            (raised_up zero (joined (first_ticks config number past round)) up there)),
      )

  -- of these own inputs of a transaction this is true
  pub record RoundCame (k : Key) (Came : Timed Input → Type 0) : Type 0 where
    pub tick : Came (tick_at now_at)
    pub items : OwnCame k Came (first_items config number past round)

  -- the user is told of the outcome that such an input brings about
  pub record TellsOutcome (id : Id) (call_id : List ℕ) (end : ℕ) (Came : Timed Input → Type 0)
      : Type 0 where
    pub up : AnUp
    pub told : IsTold up (given config number past round)
    pub id_is : up.id ≡ id
    pub call_is : up.call_id ≡ call_id
    pub outcome : is_outcome up.kind ≡ true
    pub cause : Timed Input
    pub came : Came cause
    pub causes : Causes end cause up.kind

  -- how many of the items of its calls bring an outcome of this request
  abbrev pub brought : Id → ℕ
  brought id = count_by (λ item. brings_outcome id item.input.input)
      (second_items config number past round)

  module _ (rounds : List Round) (said : List (Id × Key)) (came : List Id)
      (fair : IsFair config number past (round ∷ rounds) said came)
      (linked : IsLinked config past said came) (k : Key) (client : role_of k ≡ role.Client)
      (commanded : IsCommanded k) (id : Id) (call_id : List ℕ) (end : ℕ)
      (Came : Timed Input → Type 0) where
    abbrev Goes : Option Life → Type 0
    Goes held = GoesOn k client id call_id end Came held

    abbrev TellsHere : Type 0
    TellsHere = TellsOutcome id call_id end Came

    serves : is_server (role_of k) ≡ false
    serves = ap is_server client

    -- what comes up is told, since its call holds the request
    up_told : (life : Life) → lives_in past k ≡ Some life
        → IsGoing k client id call_id end Came life
        → AreKept k (orders (given config number past round)) → brought id ≤ 1
        → (up : AnUp) → up.id ≡ id
        → up.call_id ≡ call_id → is_outcome up.kind ≡ true → (event : Id)
        → Among (items config number past round) (event, Up up)
        → IsTold up (given config number past round)
    up_told life is going kept only up id_is call_is outcome event among =
        let item = item_given now_at 0 (items config number past round) (event, Up up) among in
        let mine : Holds k id (side_held (calls_in config past call_id)).clients =
        subst (λ (named : Id × List ℕ). Holds k named.0
        (side_held (calls_in config past named.1)).clients)
        (λ i. (going.id_is i, going.call_is i))
        (linked.asked k commanded serves life is going.still) in
        let outs = says (calls_of config) k now_at (calls_ticked config number past round)
        (second_items config number past round) in
        let first_outs = joined (second_ticks config number past round) in
        let parts = given_is config number past round k in
        let started : Among said (id, k) =
        subst (λ i. Among said (i, k)) going.id_is (linked.started k serves life is) in
        subst (IsTold up) (sym parts)
        (told_right up first_outs outs
        (items_told (calls_of config) k now_at commanded serves (no_invite k client) id call_id
        (second_items config number past round) (calls_ticked config number past round) said
        (λ q. (each_notice_is_own (calls_of config) q (calls_in config past q) None now_at
        (own_call q) tt).0)
        (second_own_items config number past round)
        (λ x. once_now x outs (starts_are config number past round k))
        (λ gone. given_order (given config number past round) k kept (
          gone.0,
          subst (λ os. Among os gone.0) (sym parts)
              (among_right first_outs outs gone.0 gone.1),
          gone.2,
        ))
        started
        (tick_asked k id commanded (calls_of config) (calls_in config past call_id) now_at mine)
        only item.0 item.1 (item.2 ∙ call_is)
        (record { event = event; up = up; is = item.3; id_is = id_is; outcome = outcome })))
      where
        own_call : (q : List ℕ) → IsCallOf q (calls_in config past q)
        own_call q = fair.own_calls q

        once_now : (x : Id) (outs : List CallOut)
            → starts (given config number past round) ≡ starts outs
            → how_many x (ids_of (said ++ starts outs)) ≤ 1
        once_now x outs same =
            subst (λ more. how_many x (ids_of (said ++ more)) ≤ 1) same
            (fewer_counted x (said ++ starts (given config number past round))
            (starts_from config (suc number) next_past rounds)
            (subst (λ all. how_many x (ids_of all) ≤ 1)
            (sym (append_assoc said (starts (given config number past round))
            (starts_from config (suc number) next_past rounds))) (fair.once x)))

    hands_told : (life : Life) → lives_in past k ≡ Some life
        → IsGoing k client id call_id end Came life
        → AreKept k (orders (given config number past round)) → brought id ≤ 1 → (outs : List Out)
        → (hands : HandsUp k id call_id end Came outs) → (event : Id)
        → Among (items config number past round) (event, Up hands.up) → TellsHere
    hands_told life is going kept only outs hands event among = record {
      up = hands.up;
      told = up_told life is going kept only hands.up hands.id_is hands.call_is hands.outcome event
          among;
      id_is = hands.id_is;
      call_is = hands.call_is;
      outcome = hands.outcome;
      cause = hands.cause;
      came = hands.came;
      causes = hands.causes;
    }

    -- it goes on, unless timer F is due; or the user is told of its outcome
    pub round_goes : AreKept k (orders (given config number past round)) → brought id ≤ 1
        → RoundCame k Came → Goes (lives_in past k)
        → (Goes (lives_in next_past k) × (nat_le end now_at ≡ true → ⊥)) ⊎ TellsHere
    round_goes kept only here (life, is, going) =
        let goes : Goes (lives_in past k) = (life, is, going) in
        ⊎_elim
        (λ on. ⊎_elim
        (λ between. inl (
          subst Goes (sym (after_is config number past round k))
              (goes_run k client id call_id end Came now_at
              (orders (given config number past round))
              (lives_between config number past round k) kept between),
          λ late. ends_ticked k client id call_id end Came (lives_in past k) now_at late goes on,
        ))
        (λ hands.
        let there = up_among now_at number (lives_ticked config number past round)
        (came_in config number past round) (first_ticks config number past round) hands.up
        hands.among in
        inr (hands_told life is going kept only _ hands there.0
        (subst (λ (all : List (Id × Item)). Among all (there.0, Up hands.up))
        (sym (items_are config number past round)) there.1)))
        (items_then k client id call_id end Came (first_items config number past round)
        (lives_ticked config number past round) (no_events config number past round) here.items
        on))
        (λ hands.
        let there = tick_given k life is hands.up hands.among in
        inr (hands_told life is going kept only _ hands there.0 there.1))
        (ticked k client id call_id end Came (lives_in past k) now_at here.tick goes)

  -- what is told is among the outputs
  pub told_given : (told : Notice) → Among (given config number past round) (call_out.Notice told)
      → Among (answer config number past round) (output.Notice told)
  told_given notice among =
      let told = said_by_transactions past.transactions (first config number past round) in
      let one = sent_first told (arrivals config number past round) in
      let shown = flat_map call_outputs (given_second config number past round) in
      let last = flat_map sent_of (all_said (said_by_transactions
      (past.transactions ++ first config number past round ∷ []) (third config number past round)))
      in
      subst (λ all. Among all (output.Notice notice)) (sym (answer_parts config number past round))
      (among_left (one ++ shown) last (output.Notice notice)
      (among_right one shown (output.Notice notice)
      (among_flat call_outputs (given_second config number past round)
      (call_out.Notice notice) (output.Notice notice) among (inl refl))))

-- ---- all rounds

abbrev pub any_abandon : List (Timed Input) → Bool
any_abandon inputs = list_any (λ timed. is_abandon timed.input) inputs

both_parts : (xs ys : List (Timed Input)) → any_abandon (xs ++ ys) ≡ false
    → (any_abandon xs ≡ false) × (any_abandon ys ≡ false)
both_parts xs ys none =
    or_parts (any_abandon xs) (any_abandon ys)
    (sym (list_any-append (λ (timed : Timed Input). is_abandon timed.input) xs ys) ∙ none)

-- what the transaction is given in phases
abbrev pub given_to : List (Phase Key (Timed Input)) → Key → List (Timed Input)
given_to phases k = history key_cmp tick_at phases k

pub two_parts : (xs ys : List (Phase Key (Timed Input))) (k : Key)
    → given_to (xs ++ ys) k ≡ given_to xs k ++ given_to ys k
two_parts xs ys k =
    flat_map-append (λ (phase : Phase Key (Timed Input)). own_inputs key_cmp tick_at phase k) xs ys

module _ (config : Config) (k : Key) where
  abbrev pub IsKept : Past → Type 0
  IsKept past = any_abandon (given_to past.transactions k) ≡ false

  pub one_kept : (number : ℕ) (past : Past) (round : Round)
      → IsKept (past_after config number past round)
      → IsKept past × AreKept k (orders (given_second config number past round))
  unfolding past_after third
  one_kept number past round none =
      let one = first config number past round ∷ [] in
      let last = third config number past round ∷ [] in
      let parts = both_parts (given_to (past.transactions ++ one) k) (given_to last k)
      (sym (ap any_abandon (two_parts (past.transactions ++ one) last k)) ∙ none) in
      let mine = own_items key_cmp (timed_items round.moment
      (command_items 0 (orders (given_second config number past round)))) k in (
        (both_parts (given_to past.transactions k) (given_to one k)
            (sym (ap any_abandon (two_parts past.transactions one k)) ∙ parts.0)).0,
        kept_orders k round.moment (orders (given_second config number past round)) 0
            (both_parts mine [] parts.1).0,
      )

  pub all_kept : (rounds : List Round) (number : ℕ) (past : Past)
      → IsKept (past_from config number past rounds) → IsKept past
  all_kept [] number past none = none
  all_kept (round ∷ rounds) number past none =
      (one_kept number past round
      (all_kept rounds (suc number) (past_after config number past round) none)).0

  -- the number of the round after these
  abbrev pub number_from : ℕ → List Round → ℕ
  number_from number [] = number
  number_from number (round ∷ rounds) = number_from (suc number) rounds

  pub past_parts : (rounds more : List Round) (number : ℕ) (past : Past)
      → past_from config number past (rounds ++ more)
      ≡ past_from config (number_from number rounds) (past_from config number past rounds) more
  past_parts [] more number past = refl
  past_parts (round ∷ rounds) more number past =
      past_parts rounds more (suc number) (past_after config number past round)

  pub answer_sides : (rounds more : List Round) (number : ℕ) (past : Past)
      → each_from answer config number past (rounds ++ more)
      ≡ each_from answer config number past rounds
      ++ each_from answer config (number_from number rounds) (past_from config number past rounds)
      more
  answer_sides [] more number past = refl
  answer_sides (round ∷ rounds) more number past =
      ap (λ rest. answer config number past round ∷ rest)
      (answer_sides rounds more (suc number) (past_after config number past round))

  -- what is linked after rounds
  pub walk : (rounds more : List Round) (number : ℕ) (past : Past) (said : List (Id × Key))
      (came : List Id) → IsFair config number past (rounds ++ more) said came
      → IsLinked config past said came
      → (all : List (Id × Key)) × (every : List Id)
      × IsFair config (number_from number rounds) (past_from config number past rounds) more all
      every
      × IsLinked config (past_from config number past rounds) all every
      × (all ≡ said ++ starts_from config number past rounds)
  walk [] more number past said came fair linked =
      (said, came, fair, linked, sym (append-nil said))
  walk (round ∷ rounds) more number past said came fair linked =
      let next = past_after config number past round in
      let here = starts (given_second config number past round) in
      let rest = walk rounds more (suc number) next
      (said ++ starts (given_second config number past round))
      (came ++ requests_among (items_of_round config number past round))
      (fair_next config number past round (rounds ++ more) said came fair)
      (linked_next config number past round (rounds ++ more) said came fair linked) in (
        rest.0,
        rest.1,
        rest.2,
        rest.3,
        rest.4 ∙ append_assoc said here (starts_from config (suc number) next rounds),
      )
