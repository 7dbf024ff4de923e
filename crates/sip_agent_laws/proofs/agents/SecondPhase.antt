-- The second phase of a round: each call takes its items, and its commands go to the transactions.
-- What has no final response stays held meanwhile.
use Rattle.std.proofs.Common.{◌≡◌, ◌⊎◌, inl, inr, ⊎_elim, ℕ, ◌≤◌, true, false, cond, List, [], ◌∷◌, ◌++◌, map, refl, sym, ap, ◌∙◌, append-nil, append_assoc, subst, arith}
use Rattle.std.specs.Prelude.{Option, Some}
use Rattle.std.specs.BTreeMap.{is_at}
use Rattle.std.specs.List.{AllByRecursion, flat_map}
use Rattle.std.proofs.lemmas.Bool.{false≢true}
use Rattle.std.proofs.lemmas.Cmp.{nat_list_cmp_total}
use Rattle.std.proofs.lemmas.Grind.{flat_map-append}
use Rattle.std.proofs.lemmas.List.{map-append}
use Rattle.std.proofs.lemmas.List.Elements.{filter_map-append}
use Rattle.std.proofs.lemmas.Map.Lookups.{exact_bytes}
use Rattle.sip_message.specs.declared.id.Id.{Id}
use Rattle.sip_message.specs.declared.key.Key.{Key}
use Rattle.keyed_machine.specs.declared.item.Item.{Item}
use Rattle.keyed_machine.specs.Machine.{Machine, Timed, adds, next}
use Rattle.keyed_machine.specs.Phase.{states_then, stepped, told_items}
use Rattle.keyed_machine.proofs.Ordered.{by_bool, exact_at, is_at_itself}
use Rattle.sip_transactions.specs.Ids.{IdsRise}
use Rattle.sip_transactions.specs.declared.input.Command.{Command}
use Rattle.sip_transactions.specs.declared.input.Command.TheVariants as order
use Rattle.sip_transactions.specs.declared.life.Life.{Life}
use Rattle.sip_transactions.specs.Steps.Input.{role_of}
use Rattle.sip_user.specs.declared.item.CallOut.{CallOut}
use Rattle.sip_user.specs.declared.item.CallOut.TheVariants as out
use Rattle.sip_held_dialogs.specs.Ids.{is_id}
use Rattle.sip_held_dialogs.proofs.Starts.{start_in, starts}
use Rattle.sip_calls.specs.declared.call.Call.{Call}
use Rattle.sip_calls.specs.declared.calls.Calls.{Calls}
use Rattle.sip_calls.specs.Call.{CallItem, call_machine, call_step}
use Rattle.sip_calls.specs.CallShard.{call_cmp}
use Rattle.sip_calls.specs.HeldRequests.{requests_held}
use Rattle.sip_calls.specs.OwnCall.{IsCallOf, IsInputOf}
use Rattle.sip_calls.specs.Provisionals.{side_held}
use Rattle.sip_calls.proofs.CallStarts.{how_many, ids_of}
use Rattle.sip_calls.proofs.OwnCall.{each_notice_is_own}
use Rattle.sip_round.specs.Outputs.{command_of}
use Rattle.sip_round.proofs.StartedOnce.{counted, counted_one, how_many-append}
use Rattle.sip_agent_laws.specs.Agents.Open.{is_open}
use Rattle.sip_agent_laws.proofs.agents.CallHeld.{GoesHeld, InputIsHarmless, step_goes}
use Rattle.sip_agent_laws.proofs.agents.CallServes.{came_with, step_stays, step_takes}
use Rattle.sip_agent_laws.proofs.agents.ClientsHeld as client_side
use Rattle.sip_agent_laws.proofs.agents.ClientsHeld.{Abandons, Begins, IsUnder, NoneUnder}
use Rattle.sip_agent_laws.proofs.agents.Commands.{IsAbandonOf, IsFinalFor, IsNew, IsStartOf, ordered_among, orders, run, run_append, run_on}
use Rattle.sip_agent_laws.proofs.agents.Lists.{Among, among_left, among_right, each_of, flat_among}
use Rattle.sip_agent_laws.proofs.agents.OpenLives.{is_server}
use Rattle.sip_agent_laws.proofs.agents.ServedHeld as server_side
use Rattle.sip_agent_laws.proofs.agents.ServedHeld.{Says}

abbrev pub CallStates : Type 0
CallStates = List ℕ → Option Call

abbrev pub CallItems : Type 0
CallItems = List (Item (List ℕ) (Timed CallItem))

-- ---- commands among outputs

one_order : (o : CallOut) (id : Id) (c : Command) → Among (command_of o) (id, c)
    → o ≡ out.Command id c
one_order (out.Notice notice) id c among = absurd among
one_order (out.Command own other) id c among =
    ⊎_elim (λ same. λ i. out.Command (same i).0 (same i).1) (λ none. absurd none) among
one_order (out.Direct to bytes) id c among = absurd among

pub among_orders : (outs : List CallOut) (id : Id) (c : Command) → Among (orders outs) (id, c)
    → Among outs (out.Command id c)
among_orders outs id c among =
    let found = flat_among command_of outs (id, c) among in
    subst (λ o. Among outs o) (one_order found.0 id c found.2) found.1

no_final : (k : Key) (outs : List CallOut) → Says k outs
    → AllByRecursion (λ (c : Id × Command). IsFinalFor k c.1 → ⊥) (orders outs) → ⊥
no_final k outs (out.Notice notice, among, is) none = is
no_final k outs (out.Command id c, among, is) none =
    each_of (λ (c : Id × Command). IsFinalFor k c.1 → ⊥) (orders outs) (id, c) none
    (ordered_among outs id c among) is
no_final k outs (out.Direct to bytes, among, is) none = is

pub no_abandon : (k : Key) (outs : List CallOut) → Abandons k outs
    → AllByRecursion (λ (c : Id × Command). IsAbandonOf k c.1 → ⊥) (orders outs) → ⊥
no_abandon k outs (out.Notice notice, among, is) none = is
no_abandon k outs (out.Command id c, among, is) none =
    each_of (λ (c : Id × Command). IsAbandonOf k c.1 → ⊥) (orders outs) (id, c) none
    (ordered_among outs id c among) is
no_abandon k outs (out.Direct to bytes, among, is) none = is

-- ---- starts among outputs

pub among_starts : (k : Key) (call_id : List ℕ) (outs : List CallOut) (id : Id) (c : Command)
    → Among outs (out.Command id c) → IsStartOf k call_id c → Among (starts outs) (id, k)
among_starts k call_id [] id c among is = absurd among
among_starts k call_id (out.Notice notice ∷ outs) id c among is =
    ⊎_elim (λ same. absurd cc) (λ later. among_starts k call_id outs id c later is) among
among_starts k call_id (out.Direct to bytes ∷ outs) id c among is =
    ⊎_elim (λ same. absurd cc) (λ later. among_starts k call_id outs id c later is) among
among_starts k call_id (out.Command own (order.Answer key message) ∷ outs) id c among is =
    ⊎_elim
    (λ same.
    let other : order.Answer key message ≡ c = cc in
    absurd (subst (IsStartOf k call_id) (sym other) is))
    (λ later. among_starts k call_id outs id c later is) among
among_starts k call_id (out.Command own (order.Abandon key) ∷ outs) id c among is =
    ⊎_elim
    (λ same.
    let other : order.Abandon key ≡ c = cc in
    absurd (subst (IsStartOf k call_id) (sym other) is))
    (λ later. among_starts k call_id outs id c later is) among
among_starts k call_id (out.Command own (order.Start key of message to) ∷ outs) id c among is =
    ⊎_elim
    (λ same.
    let this : own ≡ id = cc in
    let other : order.Start key of message to ≡ c = cc in
    let its : IsStartOf k call_id (order.Start key of message to) =
    subst (IsStartOf k call_id) (sym other) is in
    inl (λ i. (this i, its.0 i)))
    (λ later. inr (among_starts k call_id outs id c later is)) among

pub none_under : (id : Id) (outs : List CallOut) → ((key : Key) → Among (starts outs) (id, key) → ⊥)
    → NoneUnder id outs
none_under id [] never = tt
none_under id (out.Notice notice ∷ outs) never = (λ is. is, none_under id outs never)
none_under id (out.Direct to bytes ∷ outs) never = (λ is. is, none_under id outs never)
none_under id (out.Command own (order.Answer key message) ∷ outs) never =
    (λ is. is, none_under id outs never)
none_under id (out.Command own (order.Abandon key) ∷ outs) never =
    (λ is. is, none_under id outs never)
none_under id (out.Command own (order.Start key of message to) ∷ outs) never = (
  λ is. never key (inl (λ i. (is i, key))),
  none_under id outs (λ key among. never key (inr among)),
)

pub some_counted : (x : Id) (ids : List Id) → Among ids x → 1 ≤ how_many x ids
some_counted x [] among = absurd among
some_counted x (y ∷ ys) (inl same) =
    omega (arith, counted_one x y ys (ap (λ z. is_id x z) same ∙ client_side.id_itself x))
some_counted x (y ∷ ys) (inr later) = omega (arith, counted x y ys, some_counted x ys later)

pub among_ids : (xs : List (Id × Key)) (x : Id) (key : Key) → Among xs (x, key)
    → Among (ids_of xs) x
among_ids [] x key among = absurd among
among_ids (y ∷ ys) x key (inl same) = inl (λ i. (same i).0)
among_ids (y ∷ ys) x key (inr later) = inr (among_ids ys x key later)

-- no id is there in both
pub never_twice : (x : Id) (one other : Key) (xs ys : List (Id × Key))
    → how_many x (ids_of (xs ++ ys)) ≤ 1 → Among xs (x, one) → Among ys (x, other) → ⊥
never_twice x one other xs ys once here there =
    absurd (omega (
      arith,
      once,
      ap (how_many x) (map-append (λ s. s.0) xs ys),
      how_many-append x (ids_of xs) (ids_of ys),
      some_counted x (ids_of xs) (among_ids xs x one here),
      some_counted x (ids_of ys) (among_ids ys x other there),
    ))

-- under one id there is one key
pub only_key : (xs : List (Id × Key)) → ((x : Id) → how_many x (ids_of xs) ≤ 1) → (x : Id)
    (one other : Key) → Among xs (x, one) → Among xs (x, other) → one ≡ other
only_key [] once x one other here there = absurd here
only_key (y ∷ ys) once x one other (inl same) (inl too) =
    ap (λ (s : Id × Key). s.1) (sym same ∙ too)
only_key (y ∷ ys) once x one other (inl same) (inr later) =
    absurd (never_twice x one other (y ∷ []) ys (once x) (inl same) later)
only_key (y ∷ ys) once x one other (inr later) (inl same) =
    absurd (never_twice x other one (y ∷ []) ys (once x) (inl same) later)
only_key (y ∷ ys) once x one other (inr here) (inr there) =
    only_key ys (λ z. fewer_later z y ys (once z)) x one other here there
  where
    fewer_later : (z : Id) (y : Id × Key) (ys : List (Id × Key)) → how_many z (ids_of (y ∷ ys)) ≤ 1
        → how_many z (ids_of ys) ≤ 1
    fewer_later z y ys once = omega (arith, once, counted z y.0 (ids_of ys))

pub fewer_counted : (x : Id) (xs ys : List (Id × Key)) → how_many x (ids_of (xs ++ ys)) ≤ 1
    → how_many x (ids_of xs) ≤ 1
fewer_counted x xs ys once =
    omega (
      arith,
      once,
      ap (how_many x) (map-append (λ s. s.0) xs ys),
      how_many-append x (ids_of xs) (ids_of ys),
    )

module _ (calls : Calls) (k : Key) (now : ℕ) where
  abbrev machine : Machine (List ℕ) Call (Timed CallItem) CallOut
  machine = call_machine calls

  -- all that the calls say to these items
  abbrev pub says : CallStates → CallItems → List CallOut
  says states items = flat_map (λ said. said.1) (told_items call_cmp machine states items)

  abbrev pub after_item : CallStates → Item (List ℕ) (Timed CallItem) → CallStates
  after_item states item = stepped call_cmp machine states item

  abbrev pub here : CallStates → Item (List ℕ) (Timed CallItem) → List CallOut
  here states item = adds machine item.key (states item.key) item.input

  abbrev pub IsOpen : Life → Type 0
  IsOpen life = is_open (role_of k) life.state ≡ true

  pub in_parts : (held : Option Life) (xs ys : List CallOut)
      → run k now held (orders (xs ++ ys)) ≡ run k now (run k now held (orders xs)) (orders ys)
  in_parts held xs ys =
      ap (run k now held) (flat_map-append command_of xs ys)
      ∙ run_append k now held (orders xs) (orders ys)

  -- what is held of a call after an item
  pub moved : (P : Option Call → Type 0) (states : CallStates) (item : Item (List ℕ) (Timed CallItem))
      (call_id : List ℕ)
      → (item.key ≡ call_id → P (next machine item.key (states item.key) item.input))
      → P (states call_id) → P (after_item states item call_id)
  moved P states item call_id hit miss =
      by_bool (is_at (call_cmp item.key) call_id)
      (λ is. subst P (sym (ap (λ b. cond b
      (next machine item.key (states item.key) item.input) (states call_id)) is))
      (hit (exact_at nat_list_cmp_total exact_bytes item.key call_id is)))
      (λ isnt. subst P (sym (ap (λ b. cond b
      (next machine item.key (states item.key) item.input) (states call_id)) isnt)) miss)

  -- ---- a request of the peer

  -- this item brings its request
  pub record Brings (id : Id) (call_id : List ℕ) (item : Item (List ℕ) (Timed CallItem))
      : Type 0 where
    pub to : item.key ≡ call_id
    pub is : came_with item.input.input ≡ Some (id, k)

  -- it is held without a final response, or still comes up
  abbrev pub IsServed : CallStates → CallItems → Id → List ℕ → Type 0
  IsServed states items id call_id = server_side.Holds k id (requests_held (states call_id))
      ⊎ (item : Item (List ℕ) (Timed CallItem)) × Among items item × Brings id call_id item

  abbrev pub ServedLinked : Option Life → CallStates → CallItems → Type 0
  ServedLinked held states items = (life : Life) → held ≡ Some life → IsOpen life
      → IsServed states items life.context.id life.context.call_id

  -- each call that takes an item holds its requests by rising ids
  abbrev pub AreSound : CallStates → CallItems → Type 0
  AreSound states [] = Unit {0}
  AreSound states (item ∷ items) = IdsRise (map (λ held. held.id) (requests_held (states item.key)))
      × AreSound (after_item states item) items

  link_moves : (states : CallStates) (item : Item (List ℕ) (Timed CallItem)) (items : CallItems)
      (id : Id) (call_id : List ℕ)
      → IdsRise (map (λ held. held.id) (requests_held (states item.key)))
      → (Says k (here states item) → ⊥) → IsServed states (item ∷ items) id call_id
      → IsServed (after_item states item) items id call_id
  link_moves states item items id call_id rise never linked =
      ⊎_elim
      (λ ours. inl (moved Held states item call_id
      (λ same. unsaid (step_stays k id calls (states item.key) item.input.input item.input.moment
      rise (subst (λ c. Held (states c)) (sym same) ours))) ours))
      (λ pending. ⊎_elim
      (λ same. inl (brought (subst (Brings id call_id) (sym same) pending.2)))
      (λ later. inr (pending.0, later, pending.2)) pending.1)
      linked
    where
      Held : Option Call → Type 0
      Held call = server_side.Holds k id (requests_held call)

      unsaid : Held (next machine item.key (states item.key) item.input) ⊎ Says k (here states item)
          → Held (next machine item.key (states item.key) item.input)
      unsaid (inl still) = still
      unsaid (inr says) = absurd (never says)

      brought : Brings id call_id item → Held (after_item states item call_id)
      brought brings =
          subst (λ c. Held (after_item states item c)) brings.to
          (subst Held (sym (ap (λ b. cond b (next machine item.key (states item.key) item.input)
          (states item.key)) (is_at_itself nat_list_cmp_total item.key)))
          (unsaid (step_takes k id calls (states item.key) item.input.input item.input.moment rise
          brings.is)))

  pub served_sim : is_server (role_of k) ≡ true → (items : CallItems) (states : CallStates)
      (held : Option Life) → AreSound states items → ServedLinked held states items
      → ServedLinked (run k now held (orders (says states items)))
      (states_then call_cmp machine states items) []
  served_sim serves [] states held sound linked = linked
  served_sim serves (item ∷ items) states held sound linked = λ life is still.
      let outs = here states item in
      let after = after_item states item in
      let then = run k now held (orders outs) in
      served_sim serves items after then sound.1
      (λ life is still. ⊎_elim
      (λ left. link_moves states item items life.context.id life.context.call_id sound.0
      (λ final. no_final k outs final (left.unanswered serves still))
      (subst (λ (named : Id × List ℕ). IsServed states (item ∷ items) named.0 named.1)
      (λ i. (left.id i, left.call i)) (linked left.before left.was (left.open_before still))))
      (λ new. absurd (false≢true (sym new.client ∙ serves)))
      (run_on k now (orders outs) held life is))
      life (sym (in_parts held outs (says after items)) ∙ is) still

  -- ---- a request of a call

  module _ (commanded : client_side.IsCommanded k) (client : is_server (role_of k) ≡ false)
      (Known : Id → Type 0) where
    -- its call holds it, and it was started
    pub record IsAsked (states : CallStates) (told : List (Id × Key)) (id : Id)
        (call_id : List ℕ) : Type 0 where
      pub holds : client_side.Holds k id (side_held (states call_id)).clients
      pub started : Among told (id, k)
      pub known : Known id

    abbrev pub AskedLinked : Option Life → CallStates → List (Id × Key) → Type 0
    AskedLinked held states told = (life : Life) → held ≡ Some life → IsOpen life
        → IsAsked states told life.context.id life.context.call_id

    abbrev pub AreHarmless : CallItems → Type 0
    AreHarmless items =
        AllByRecursion (λ item. (id : Id) → Known id → InputIsHarmless id item.input.input) items

    abbrev pub AreOwnItems : CallItems → Type 0
    AreOwnItems items = AllByRecursion (λ item. IsInputOf item.key item.input.input) items

    -- of these starts each is under another id
    abbrev pub Once : List (Id × Key) → Type 0
    Once told = (x : Id) → how_many x (ids_of told) ≤ 1

    abbrev pub AreKnown : List CallOut → Type 0
    AreKnown outs = (id : Id) → Among (starts outs) (id, k) → Known id

    pub own_after : (states : CallStates) (item : Item (List ℕ) (Timed CallItem))
        → IsInputOf item.key item.input.input → ((q : List ℕ) → IsCallOf q (states q))
        → (q : List ℕ) → IsCallOf q (after_item states item q)
    own_after states item its own q =
        moved (IsCallOf q) states item q
        (λ same. subst (λ c. IsCallOf c (next machine item.key (states item.key) item.input)) same
        (each_notice_is_own calls item.key (states item.key) item.input.input item.input.moment
        (own item.key) its).0)
        (own q)

    goes_here : (states : CallStates) (item : Item (List ℕ) (Timed CallItem)) (id : Id)
        → IsInputOf item.key item.input.input → IsCallOf item.key (states item.key)
        → ((id : Id) → Known id → InputIsHarmless id item.input.input) → Known id
        → GoesHeld k id commanded item.key (states item.key)
        (call_step calls (states item.key) item.input.input item.input.moment)
    goes_here states item id its own harmless known =
        step_goes k id commanded item.key calls (states item.key) item.input.input item.input.moment
        own its (harmless id known)

    left_asked : (states : CallStates) (item : Item (List ℕ) (Timed CallItem))
        (told : List (Id × Key)) (id : Id) (call_id : List ℕ)
        → IsInputOf item.key item.input.input → IsCallOf item.key (states item.key)
        → ((id : Id) → Known id → InputIsHarmless id item.input.input)
        → Once (told ++ starts (here states item)) → (Abandons k (here states item) → ⊥)
        → IsAsked states told id call_id
        → IsAsked (after_item states item) (told ++ starts (here states item)) id call_id
    left_asked states item told id call_id its own harmless once never asked = record {
      holds = moved (λ call. client_side.Holds k id (side_held call).clients) states item call_id
          (λ same. ⊎_elim (λ still. still) (λ gone. absurd (never gone))
          ((goes_here states item id its own harmless asked.known).keeps.is
          (subst (λ c. client_side.Holds k id (side_held (states c)).clients) (sym same) asked.holds)
          (none_under id (here states item)
          (λ key there. never_twice id k key told (starts (here states item)) (once id)
          asked.started there))))
          asked.holds;
      started = among_left told (starts (here states item)) (id, k) asked.started;
      known = asked.known;
    }

    new_asked : (states : CallStates) (item : Item (List ℕ) (Timed CallItem))
        (told : List (Id × Key)) (life : Life)
        → IsInputOf item.key item.input.input → IsCallOf item.key (states item.key)
        → ((id : Id) → Known id → InputIsHarmless id item.input.input)
        → AreKnown (here states item) → IsNew k now (orders (here states item)) life
        → IsAsked (after_item states item) (told ++ starts (here states item)) life.context.id
        life.context.call_id
    new_asked states item told life its own harmless are_known new =
        let id = life.context.id in
        let outs = here states item in
        let among = among_orders outs id new.command new.among in
        let start = among_starts k life.context.call_id outs id new.command among new.start in
        let known = are_known id start in
        let begins = (goes_here states item id its own harmless known).begins life.context.call_id
        (out.Command id new.command, among, (refl, new.start)) in
        record {
          holds = by_bool (is_at (call_cmp item.key) life.context.call_id)
              (λ hit. subst (λ call. client_side.Holds k id (side_held call).clients)
              (sym (ap (λ b. cond b (next machine item.key (states item.key) item.input)
              (states life.context.call_id)) hit)) begins.0)
              (λ miss. absurd (false≢true (sym miss
              ∙ ap (λ c. is_at (call_cmp item.key) c) begins.1
              ∙ is_at_itself nat_list_cmp_total item.key)));
          started = among_right told (starts outs) (id, k) start;
          known = known;
        }

    pub again_left : (told : List (Id × Key)) (xs ys : List CallOut)
        → told ++ starts (xs ++ ys) ≡ (told ++ starts xs) ++ starts ys
    again_left told xs ys =
        ap (λ more. told ++ more) (filter_map-append start_in xs ys)
        ∙ sym (append_assoc told (starts xs) (starts ys))

    pub asked_sim : (items : CallItems) (states : CallStates) (held : Option Life)
        (told : List (Id × Key)) → ((q : List ℕ) → IsCallOf q (states q)) → AreOwnItems items
        → AreHarmless items → Once (told ++ starts (says states items))
        → AreKnown (says states items) → AskedLinked held states told
        → AskedLinked (run k now held (orders (says states items)))
        (states_then call_cmp machine states items) (told ++ starts (says states items))
    asked_sim [] states held told own its harmless once are_known linked =
        subst (λ all. AskedLinked held states all) (sym (append-nil told)) linked
    asked_sim (item ∷ items) states held told own its harmless once are_known linked =
        λ life is still.
        let outs = here states item in
        let after = after_item states item in
        let then = run k now held (orders outs) in
        let rest = says after items in
        let now_told = told ++ starts outs in
        let all = again_left told outs rest in
        let once_now : Once now_told = λ x. fewer_counted x now_told (starts rest)
        (subst (λ more. how_many x (ids_of more) ≤ 1) all (once x)) in
        subst (λ more. IsAsked (states_then call_cmp machine after items) more life.context.id
        life.context.call_id) (sym all)
        (asked_sim items after then now_told (own_after states item its.0 own) its.1 harmless.1
        (λ x. subst (λ more. how_many x (ids_of more) ≤ 1) all (once x))
        (λ id among. are_known id
        (subst (λ more. Among more (id, k)) (sym (filter_map-append start_in outs rest))
        (among_right (starts outs) (starts rest) (id, k) among)))
        (λ life is still. ⊎_elim
        (λ left. subst (λ (named : Id × List ℕ). IsAsked after now_told named.0 named.1)
        (λ i. (left.id i, left.call i))
        (left_asked states item told left.before.context.id left.before.context.call_id its.0
        (own item.key) harmless.0 once_now
        (λ gone. no_abandon k outs gone left.unabandoned)
        (linked left.before left.was (left.open_before still))))
        (λ new. new_asked states item told life its.0 (own item.key) harmless.0
        (λ id among. are_known id
        (subst (λ more. Among more (id, k)) (sym (filter_map-append start_in outs rest))
        (among_left (starts outs) (starts rest) (id, k) among))) new)
        (run_on k now (orders outs) held life is))
        life (sym (in_parts held outs rest) ∙ is) still)
