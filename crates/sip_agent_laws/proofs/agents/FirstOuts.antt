-- What comes up in the first phase of a round comes from transactions that were started, or from
-- requests that came.
use Rattle.std.proofs.Common.{◌≡◌, ◌⊎◌, inl, inr, ⊎_elim, ℕ, true, false, cond, List, [], ◌∷◌, map, sym, ap, ◌∙◌, subst}
use Rattle.std.specs.Prelude.{Option, None, Some}
use Rattle.std.specs.BTreeMap.{is_at}
use Rattle.std.specs.List.{AllByRecursion, flat_map}
use Rattle.sip_message.specs.declared.id.Id.{Id}
use Rattle.sip_message.specs.declared.key.Key.{Key}
use Rattle.sip_message.specs.Key.{key_cmp, keys_total}
use Rattle.sip_message.specs.Keys.{exact_keys}
use Rattle.keyed_machine.specs.declared.item.Item.{Item}
use Rattle.keyed_machine.specs.Machine.{Timed, adds, next, tick_at}
use Rattle.keyed_machine.specs.Phase.{states_then, stepped, told_items}
use Rattle.keyed_machine.proofs.Ordered.{by_bool, exact_at}
use Rattle.sip_transactions.specs.declared.input.Input.{Input}
use Rattle.sip_transactions.specs.declared.life.Life.{Life}
use Rattle.sip_transactions.specs.declared.output.UpKind.{UpKind}
use Rattle.sip_transactions.specs.declared.output.UpKind.TheVariants as kind
use Rattle.sip_transactions.specs.declared.output.Out.{Out}
use Rattle.sip_transactions.specs.declared.output.Out.TheVariants as out
use Rattle.sip_transactions.specs.Machine.{transaction_machine}
use Rattle.sip_transactions.specs.Rules.Step.{step_at}
use Rattle.sip_transactions.specs.Steps.Input.{role_of}
use Rattle.sip_agent_laws.proofs.agents.FirstPhase.{AreArrivals, AreMild, IsArrival, Items, States, all_of}
use Rattle.sip_agent_laws.proofs.agents.Lists.{Among, back_of, both, each_of, front_of}
use Rattle.sip_agent_laws.proofs.agents.OpenLives.{IsMild, KindIsMild, KindIsOf, UpIsOf, is_server, lives_on, ups_of}

module _ (said : List (Id × Key)) (came : List Id) where
  -- ---- which transactions there are

  abbrev pub IsStartedLife : Key → Option Life → Type 0
  IsStartedLife q held = is_server (role_of q) ≡ false → (life : Life) → held ≡ Some life
      → Among said (life.context.id, q)

  abbrev pub IsReceivedLife : Key → Option Life → Type 0
  IsReceivedLife q held = is_server (role_of q) ≡ true → (life : Life) → held ≡ Some life
      → Among came life.context.id

  -- each client was started
  abbrev pub AreStarted : States → Type 0
  AreStarted states = (q : Key) → IsStartedLife q (states q)

  -- the request of each server came
  abbrev pub AreReceived : States → Type 0
  AreReceived states = (q : Key) → IsReceivedLife q (states q)

  abbrev KindCame : UpKind → Id → Type 0
  KindCame (kind.Request request reply_to) id = Among came id
  KindCame (kind.Ack ack) id = Unit {0}
  KindCame (kind.Response response) id = Unit {0}
  KindCame kind.Timeout id = Unit {0}
  KindCame kind.Failed id = Unit {0}

  -- a request that comes up came
  abbrev pub RequestCame : Out → Type 0
  RequestCame (out.Up up) = KindCame up.kind up.id
  RequestCame (out.Send key to bytes) = Unit {0}
  RequestCame (out.Dropped place why) = Unit {0}

  -- ---- one input

  started_on : (q : Key) (held : Option Life) (now : ℕ) (input : Option Input) → IsArrival input
      → IsStartedLife q held → IsStartedLife q (step_at q held now input).0
  started_on q held now input arrives was client life is =
      ⊎_elim
      (λ kept. subst (λ id. Among said (id, q)) kept.id (was client kept.before kept.was))
      (λ begun. let began = begun.started client in absurd (subst IsArrival began.2 arrives))
      (lives_on q held now input life is)

  received_on : (q : Key) (held : Option Life) (now : ℕ) (input : Option Input)
      → AllByRecursion RequestCame (step_at q held now input).1
      → IsReceivedLife q held → IsReceivedLife q (step_at q held now input).0
  received_on q held now input requests was serves life is =
      ⊎_elim
      (λ kept. subst (λ id. Among came id) kept.id (was serves kept.before kept.was))
      (λ begun. let began = begun.received serves in
      each_of RequestCame (step_at q held now input).1 _ requests began.3)
      (lives_on q held now input life is)

  ticked_on : (q : Key) (held : Option Life) (now : ℕ) → IsReceivedLife q held
      → IsReceivedLife q (step_at q held now None).0
  ticked_on q held now was serves life is =
      ⊎_elim
      (λ kept. subst (λ id. Among came id) kept.id (was serves kept.before kept.was))
      (λ begun. let began = begun.received serves in absurd cc)
      (lives_on q held now None life is)

  -- ---- all items

  item_on : (P : Key → Option Life → Type 0) (states : States) (item : Item Key (Timed Input))
      → P item.key (next transaction_machine item.key (states item.key) item.input)
      → ((q : Key) → P q (states q))
      → (q : Key) → P q (stepped key_cmp transaction_machine states item q)
  item_on P states item here each q =
      by_bool (is_at (key_cmp item.key) q)
      (λ hit.
      let same = exact_at keys_total exact_keys item.key q hit in
      subst (P q) (sym (ap (λ b. cond b
      (next transaction_machine item.key (states item.key) item.input) (states q)) hit))
      (subst (λ r. P r (next transaction_machine item.key (states item.key) item.input)) same
      here))
      (λ miss. subst (P q) (sym (ap (λ b. cond b
      (next transaction_machine item.key (states item.key) item.input) (states q)) miss))
      (each q))

  pub started_then : (items : Items) (states : States) → AreArrivals items → AreStarted states
      → AreStarted (states_then key_cmp transaction_machine states items)
  started_then [] states arrive are = are
  started_then (item ∷ items) states arrive are =
      started_then items (stepped key_cmp transaction_machine states item) arrive.1
      (item_on IsStartedLife states item
      (started_on item.key (states item.key) item.input.moment item.input.input arrive.0
      (are item.key)) are)

  pub received_then : (items : Items) (states : States)
      → AllByRecursion RequestCame (all_of (told_items key_cmp transaction_machine states items))
      → AreReceived states
      → AreReceived (states_then key_cmp transaction_machine states items)
  received_then [] states requests are = are
  received_then (item ∷ items) states requests are =
      let here = adds transaction_machine item.key (states item.key) item.input in
      let after = stepped key_cmp transaction_machine states item in
      let rest = all_of (told_items key_cmp transaction_machine after items) in
      received_then items after (back_of RequestCame here rest requests)
      (item_on IsReceivedLife states item
      (received_on item.key (states item.key) item.input.moment item.input.input
      (front_of RequestCame here rest requests) (are item.key)) are)

  -- ---- what comes up

  module _ (k : Key) (After : Type 0) where
    -- from a transaction that was started, or from a request that came; if it is from `k`, and that
    -- is so afterwards, it is at most a provisional response
    abbrev pub IsFrom : UpKind → Id → Key → Type 0
    IsFrom its id q = (Among said (id, q) × (q ≡ k → After → KindIsMild its)) ⊎ Among came id

    abbrev pub KindIsFrom : UpKind → Id → Key → Type 0
    KindIsFrom (kind.Request request reply_to) id q = Unit {0}
    KindIsFrom (kind.Ack ack) id q = Unit {0}
    KindIsFrom (kind.Response response) id q = IsFrom (kind.Response response) id q
    KindIsFrom kind.Timeout id q = IsFrom kind.Timeout id q
    KindIsFrom kind.Failed id q = IsFrom kind.Failed id q

    abbrev pub OutIsFrom : Out → Type 0
    OutIsFrom (out.Up up) = KindIsFrom up.kind up.id up.key
    OutIsFrom (out.Send key to bytes) = Unit {0}
    OutIsFrom (out.Dropped place why) = Unit {0}

    from_life : (q : Key) (held : Option Life) (its : UpKind) (id : Id) (key : Key) → key ≡ q
        → IsStartedLife q held → IsReceivedLife q held → (q ≡ k → After → KindIsMild its)
        → (life : Life) × (held ≡ Some life) × (id ≡ life.context.id) → IsFrom its id key
    from_life q held its id key same started received mild of =
        by_bool (is_server (role_of q))
        (λ serves. inr (subst (λ i. Among came i) (sym of.2) (received serves of.0 of.1)))
        (λ client. inl (
          subst (λ (named : Id × Key). Among said named)
              (λ i. (sym of.2 i, sym same i)) (started client of.0 of.1),
          λ is. mild (sym same ∙ is),
        ))

    kind_from : (q : Key) (held : Option Life) (its : UpKind) (id : Id) (key : Key) → key ≡ q
        → IsStartedLife q held → IsReceivedLife q held → (q ≡ k → After → KindIsMild its)
        → KindIsOf its ((life : Life) × (held ≡ Some life) × (id ≡ life.context.id))
        → KindIsFrom its id key
    kind_from q held (kind.Request request reply_to) id key same started received mild of = tt
    kind_from q held (kind.Ack ack) id key same started received mild of = tt
    kind_from q held its id key same started received mild of =
        from_life q held its id key same started received mild of

    outs_from : (q : Key) (held : Option Life) → IsStartedLife q held → IsReceivedLife q held
        → (outs : List Out) → AllByRecursion (UpIsOf q held) outs
        → (q ≡ k → After → AllByRecursion IsMild outs) → AllByRecursion OutIsFrom outs
    outs_from q held started received [] ups mild = tt
    outs_from q held started received (out.Up up ∷ outs) ups mild = (
      kind_from q held up.kind up.id up.key (ups.0).0 started received
          (λ is after. (mild is after).0) (ups.0).1,
      outs_from q held started received outs ups.1 (λ is after. (mild is after).1),
    )
    outs_from q held started received (out.Send key to bytes ∷ outs) ups mild =
        (tt, outs_from q held started received outs ups.1 (λ is after. (mild is after).1))
    outs_from q held started received (out.Dropped place why ∷ outs) ups mild =
        (tt, outs_from q held started received outs ups.1 (λ is after. (mild is after).1))

    pub items_from : (items : Items) (states : States) → AreArrivals items → AreStarted states
        → AreReceived states
        → AllByRecursion RequestCame (all_of (told_items key_cmp transaction_machine states items))
        → (After → AreMild k (told_items key_cmp transaction_machine states items))
        → AllByRecursion OutIsFrom (all_of (told_items key_cmp transaction_machine states items))
    items_from [] states arrive started received requests mild = tt
    items_from (item ∷ items) states arrive started received requests mild =
        let here = adds transaction_machine item.key (states item.key) item.input in
        let after = stepped key_cmp transaction_machine states item in
        let rest = all_of (told_items key_cmp transaction_machine after items) in
        both OutIsFrom here rest
        (outs_from item.key (states item.key) (started item.key) (received item.key) here
        (ups_of item.key (states item.key) item.input.moment item.input.input)
        (λ is so. (mild so).0 is))
        (items_from items after arrive.1
        (item_on IsStartedLife states item
        (started_on item.key (states item.key) item.input.moment item.input.input arrive.0
        (started item.key)) started)
        (item_on IsReceivedLife states item
        (received_on item.key (states item.key) item.input.moment item.input.input
        (front_of RequestCame here rest requests) (received item.key)) received)
        (back_of RequestCame here rest requests) (λ so. (mild so).1))

    -- ---- the ticks

    pub ticks_from : (now : ℕ) (states : States) (keys : List Key) → AreStarted states
        → AreReceived states
        → (After → AllByRecursion IsMild (adds transaction_machine k (states k) (tick_at now)))
        → AllByRecursion OutIsFrom (flat_map (λ (said : Key × List Out). said.1)
        (map (λ q. (q, adds transaction_machine q (states q) (tick_at now))) keys))
    ticks_from now states [] started received mild = tt
    ticks_from now states (q ∷ keys) started received mild =
        both OutIsFrom (adds transaction_machine q (states q) (tick_at now)) _
        (outs_from q (states q) (started q) (received q)
        (adds transaction_machine q (states q) (tick_at now)) (ups_of q (states q) now None)
        (λ is so. subst (λ r. AllByRecursion IsMild
        (adds transaction_machine r (states r) (tick_at now))) (sym is) (mild so)))
        (ticks_from now states keys started received mild)

  pub started_ticked : (now : ℕ) (states : States) → AreStarted states
      → AreStarted (λ q. next transaction_machine q (states q) (tick_at now))
  started_ticked now states are q = started_on q (states q) now None tt (are q)

  pub received_ticked : (now : ℕ) (states : States) → AreReceived states
      → AreReceived (λ q. next transaction_machine q (states q) (tick_at now))
  received_ticked now states are q = ticked_on q (states q) now (are q)
