-- The outcome of a request comes up once from its client transaction.
use Rattle.std.proofs.Common.{◌≡◌, ⊎_elim, ℕ, ◌+◌, ◌≤◌, Bool, true, false, cond, ◌&&◌, List, [], ◌∷◌, ◌++◌, map, refl, sym, ap, ◌∙◌, subst, arith, append-nil, zero-add}
use Rattle.std.specs.Prelude.{count_by, filter, Option, None, Some}
use Rattle.std.specs.declared.cmp.Ordering.TheVariants.{Less}
use Rattle.std.specs.BTreeMap.{is_at}
use Rattle.std.specs.Ordering.{is_eq}
use Rattle.std.specs.List.Sorted.{IsStrictlySortedBy}
use Rattle.std.specs.List.{AllByRecursion, flat_map}
use Rattle.std.proofs.lemmas.Bool.{false≢true, and_parts, and_right, and_left}
use Rattle.std.proofs.lemmas.List.Sums.{sum_by-append, sum_by-cons}
use Rattle.sip_message.specs.declared.id.Id.{Id}
use Rattle.sip_message.specs.declared.key.Key.{Key}
use Rattle.sip_message.specs.Key.{key_cmp, keys_total}
use Rattle.sip_message.specs.Keys.{exact_keys}
use Rattle.keyed_machine.specs.declared.item.Item.{Item}
use Rattle.keyed_machine.specs.Machine.{Timed, adds, next, tick_at}
use Rattle.keyed_machine.specs.Phase.{states_then}
use Rattle.keyed_machine.proofs.Ordered.{by_bool, exact_at, is_at_back}
use Rattle.sip_transactions.specs.declared.input.Input.{Input}
use Rattle.sip_transactions.specs.declared.life.Life.{Life}
use Rattle.sip_transactions.specs.declared.output.Out.{Out}
use Rattle.sip_transactions.specs.declared.output.Out.TheVariants as out
use Rattle.sip_transactions.specs.declared.output.Up.{Up as AnUp}
use Rattle.sip_transactions.specs.declared.output.UpKind.{UpKind}
use Rattle.sip_transactions.specs.declared.output.UpKind.TheVariants as kind
use Rattle.sip_transactions.specs.declared.state.Role.TheVariants as role
use Rattle.sip_transactions.specs.Machine.{transaction_machine}
use Rattle.sip_transactions.specs.Rules.Step.{step_at}
use Rattle.sip_transactions.specs.Steps.Input.{role_of}
use Rattle.sip_transactions.specs.Steps.Life.{state_of, stepped}
use Rattle.sip_transactions.proofs.Rules.{step_is}
use Rattle.sip_held_dialogs.specs.Ids.{is_id}
use Rattle.sip_agent_laws.specs.Transactions.Outcomes.{is_outcome, is_up, ups}
use Rattle.sip_agent_laws.proofs.agents.FirstPhase.{AreArrivals, IsArrival, Items, States, all_of, after_item, tells}
use Rattle.sip_agent_laws.proofs.agents.Going.{IsNamed, all_named, none_at}
use Rattle.sip_agent_laws.proofs.agents.OpenLives.{KindIsOf, UpIsOf, lives_on, ups_of}
use Rattle.sip_agent_laws.proofs.transactions.Ends.{is_plain_client, lack, rest_once}
use Rattle.sip_agent_laws.proofs.transactions.Told.{score}

-- ---- counts

module _ {X : Type 0} (test : X → Bool) where
  pub count_first : (x : X) (xs : List X)
      → count_by test (x ∷ xs) ≡ cond (test x) 1 0 + count_by test xs
  count_first x xs = sum_by-cons (λ y. cond {A = ℕ} (test y) 1 0) x xs

  pub count_both : (xs ys : List X)
      → count_by test (xs ++ ys) ≡ count_by test xs + count_by test ys
  count_both xs ys = sum_by-append (λ y. cond {A = ℕ} (test y) 1 0) xs ys

  pub count_miss : (x : X) (xs : List X) → test x ≡ false
      → count_by test (x ∷ xs) ≡ count_by test xs
  count_miss x xs miss =
      count_first x xs ∙ (ap (λ b. cond {A = ℕ} b 1 0 + count_by test xs) miss ∙ zero-add _)

  pub count_hit : (x : X) (xs : List X) → test x ≡ true
      → count_by test (x ∷ xs) ≡ 1 + count_by test xs
  count_hit x xs hit = count_first x xs ∙ ap (λ b. cond {A = ℕ} b 1 0 + count_by test xs) hit

  pub count_none : (xs : List X) → AllByRecursion (λ x. test x ≡ false) xs
      → count_by test xs ≡ 0
  count_none [] all = refl
  count_none (x ∷ xs) all = count_miss x xs all.0 ∙ count_none xs all.1

  pub count_less : (other : X → Bool) (xs : List X)
      → AllByRecursion (λ x. test x ≡ true → other x ≡ true) xs
      → count_by test xs ≤ count_by other xs
  count_less other [] all = omega arith
  count_less other (x ∷ xs) all =
      let first = sum_by-cons (λ y. cond {A = ℕ} (other y) 1 0) x xs in
      let rest = count_less other xs all.1 in
      by_bool (test x)
      (λ hit. omega (
        arith,
        first,
        ap (λ b. cond {A = ℕ} b 1 0) (all.0 hit),
        count_hit x xs hit,
        rest,
      ))
      (λ miss. omega (arith, first, count_miss x xs miss, rest))

no_some : (life : Life) → None ≡ Some life → ⊥
no_some life same = absurd cc

module _ (k : Key) (client : role_of k ≡ role.Client) (x : Id) where
  -- the outcome of the request comes up from this transaction
  abbrev pub is_mine : AnUp → Bool
  is_mine up = is_at (key_cmp k) up.key && (is_id x up.id && is_outcome up.kind)

  abbrev pub mine : Out → Bool
  mine (out.Up up) = is_mine up
  mine (out.Send key to bytes) = false
  mine (out.Dropped place why) = false

  abbrev pub came : List Out → ℕ
  came outs = count_by mine outs

  -- it may still come up
  abbrev pub left : Option Life → ℕ
  left None = 0
  left (Some life) = cond (is_id x life.context.id) (lack (role_of k) life.state) 0

  -- ---- one input

  not_held : (own : Id) (its : UpKind) → KindIsOf its ((life : Life) × (None ≡ Some life)
      × (own ≡ life.context.id)) → is_outcome its ≡ false
  not_held own (kind.Request request reply_to) of = refl
  not_held own (kind.Ack ack) of = refl
  not_held own _ of = absurd (no_some of.0 of.1)

  none_held : (outs : List Out) → AllByRecursion (UpIsOf k None) outs
      → AllByRecursion (λ o. mine o ≡ false) outs
  none_held [] all = tt
  none_held (out.Up up ∷ outs) all = (
    and_right (is_at (key_cmp k) up.key) _
        (and_right (is_id x up.id) _ (not_held up.id up.kind (all.0).1)),
    none_held outs all.1,
  )
  none_held (out.Send key to bytes ∷ outs) all = (refl, none_held outs all.1)
  none_held (out.Dropped place why ∷ outs) all = (refl, none_held outs all.1)

  -- what comes up is of another request
  none_named : (id : Id) (call_id : List ℕ) (outs : List Out) → is_id x id ≡ false
      → AllByRecursion (IsNamed k id call_id) outs → AllByRecursion (λ o. mine o ≡ false) outs
  none_named id call_id [] miss all = tt
  none_named id call_id (out.Up up ∷ outs) miss all = (
    and_right (is_at (key_cmp k) up.key) _
        (and_left (is_id x up.id) _ (ap (is_id x) (all.0).1 ∙ miss)),
    none_named id call_id outs miss all.1,
  )
  none_named id call_id (out.Send key to bytes ∷ outs) miss all =
      (refl, none_named id call_id outs miss all.1)
  none_named id call_id (out.Dropped place why ∷ outs) miss all =
      (refl, none_named id call_id outs miss all.1)

  outcomes_among : (outs : List Out)
      → AllByRecursion (λ o. mine o ≡ true → is_up is_outcome o ≡ true) outs
  outcomes_among [] = tt
  outcomes_among (out.Up up ∷ outs) = (
    λ is. (and_parts (is_id x up.id) _ (and_parts (is_at (key_cmp k) up.key) _ is).1).1,
    outcomes_among outs,
  )
  outcomes_among (out.Send key to bytes ∷ outs) =
      (λ is. absurd (false≢true is), outcomes_among outs)
  outcomes_among (out.Dropped place why ∷ outs) =
      (λ is. absurd (false≢true is), outcomes_among outs)

  left_score : (held : Option Life) → left held ≤ score (lack (role_of k)) (state_of held)
  left_score None = omega arith
  left_score (Some life) = by_id (is_id x life.context.id)
    where
      by_id : (b : Bool) → cond b (lack (role_of k) life.state) 0 ≤ lack (role_of k) life.state
      by_id true = omega arith
      by_id false = omega arith

  -- of another life nothing is left
  other_left : (life : Life) (timed : Timed Input) → is_id x life.context.id ≡ false
      → (after : Option Life) → (stepped k (Some life) timed).0 ≡ after → left after ≡ 0
  other_left life timed miss None is = refl
  other_left life timed miss (Some next) is =
      ⊎_elim
      (λ kept.
      let was : life ≡ kept.before = same_life kept.before kept.was in
      ap (λ b. cond {A = ℕ} b (lack (role_of k) next.state) 0)
      (ap (is_id x) (sym (ap (λ (l : Life). l.context.id) was ∙ kept.id)) ∙ miss))
      (λ begun. absurd (not_none begun.none))
      (lives_on k (Some life) timed.moment timed.input next
      (ap (λ (after : Option Life × List Out). after.0)
      (step_is k (Some life) timed.moment timed.input) ∙ is))
    where
      same_life : (before : Life) → Some life ≡ Some before → life ≡ before
      same_life before same = cc

      not_none : Some life ≡ None → ⊥
      not_none same = absurd cc

  held_once : (life : Life) (timed : Timed Input)
      → came (stepped k (Some life) timed).1 + left (stepped k (Some life) timed).0
      ≤ left (Some life)
  held_once life timed =
      let outs = (stepped k (Some life) timed).1 in
      let after = (stepped k (Some life) timed).0 in
      by_bool (is_id x life.context.id)
      (λ hit.
      let once = rest_once k (ap is_plain_client client) (Some life) (timed ∷ []) (tt, tt)
      (refl, tt) in
      omega (
        arith,
        once,
        ap (ups is_outcome) (append-nil outs),
        count_less mine (is_up is_outcome) outs (outcomes_among outs),
        left_score after,
        ap (λ b. cond {A = ℕ} b (lack (role_of k) life.state) 0) hit,
      ))
      (λ miss. omega (
        arith,
        count_none mine outs (none_named life.context.id life.context.call_id outs miss
            (all_named k life timed)),
        other_left life timed miss after refl,
      ))

  pub one_step : (held : Option Life) (now : ℕ) (input : Option Input) → IsArrival input
      → came (step_at k held now input).1 + left (step_at k held now input).0 ≤ left held
  one_step None now input arrives =
      omega (
        arith,
        count_none mine (step_at k None now input).1
            (none_held (step_at k None now input).1 (ups_of k None now input)),
        ap left (none_at k client now None input now arrives refl),
      )
  one_step (Some life) now input arrives =
      subst (λ (after : Option Life × List Out). came after.1 + left after.0 ≤ left (Some life))
      (sym (step_is k (Some life) now input))
      (held_once life (record { moment = now; input = input }))

  -- ---- the first phase

  -- nothing of it comes up from another transaction
  none_other : (q : Key) (held : Option Life) (outs : List Out) → is_at (key_cmp k) q ≡ false
      → AllByRecursion (UpIsOf q held) outs → AllByRecursion (λ o. mine o ≡ false) outs
  none_other q held [] miss all = tt
  none_other q held (out.Up up ∷ outs) miss all = (
    and_left (is_at (key_cmp k) up.key) _ (ap (is_at (key_cmp k)) (all.0).0 ∙ miss),
    none_other q held outs miss all.1,
  )
  none_other q held (out.Send key to bytes ∷ outs) miss all =
      (refl, none_other q held outs miss all.1)
  none_other q held (out.Dropped place why ∷ outs) miss all =
      (refl, none_other q held outs miss all.1)

  other_came : (q : Key) (held : Option Life) (now : ℕ) (input : Option Input)
      → is_at (key_cmp k) q ≡ false → came (step_at q held now input).1 ≡ 0
  other_came q held now input miss =
      count_none mine (step_at q held now input).1
      (none_other q held (step_at q held now input).1 miss (ups_of q held now input))

  one_item : (states : States) (item : Item Key (Timed Input)) → IsArrival item.input.input
      → came (adds transaction_machine item.key (states item.key) item.input)
      + left (after_item states item k) ≤ left (states k)
  one_item states item arrives =
      by_bool (is_at (key_cmp item.key) k)
      (λ hit.
      let same = exact_at keys_total exact_keys item.key k hit in
      let here = one_step (states k) item.input.moment item.input.input arrives in
      let moved : after_item states item k
      ≡ next transaction_machine item.key (states item.key) item.input =
      ap (λ b. cond b (next transaction_machine item.key (states item.key) item.input)
      (states k)) hit in
      subst (λ o. came (adds transaction_machine item.key (states item.key) item.input)
      + left o ≤ left (states k)) (sym moved)
      (subst (λ q. came (adds transaction_machine q (states q) item.input)
      + left (next transaction_machine q (states q) item.input) ≤ left (states k)) (sym same)
      here))
      (λ miss. omega (
        arith,
        other_came item.key (states item.key) item.input.moment item.input.input
            (is_at_back keys_total item.key k false miss),
        ap (λ b. left (cond b (next transaction_machine item.key (states item.key) item.input)
            (states k))) miss,
      ))

  pub items_once : (items : Items) (states : States) → AreArrivals items
      → came (all_of (tells states items))
      + left (states_then key_cmp transaction_machine states items k) ≤ left (states k)
  items_once [] states arrive = omega arith
  items_once (item ∷ items) states arrive =
      let here = adds transaction_machine item.key (states item.key) item.input in
      let rest = all_of (tells (after_item states item) items) in
      omega (
        arith,
        count_both mine here rest,
        one_item states item arrive.0,
        items_once items (after_item states item) arrive.1,
      )

  module _ (states : States) (now : ℕ) (speaks : Key → Bool) where
    abbrev says_at : Key → List Out
    says_at q = adds transaction_machine q (states q) (tick_at now)

    abbrev all_ticks : List Key → List Out
    all_ticks keys = flat_map (λ (said : Key × List Out). said.1)
        (map (λ q. (q, says_at q)) (filter speaks keys))

    one_more : (q : Key) (keys : List Key) (b : Bool)
        → came (flat_map (λ (said : Key × List Out). said.1)
        (map (λ q. (q, says_at q)) (cond b (q ∷ filter speaks keys) (filter speaks keys))))
        ≤ came (says_at q) + came (all_ticks keys)
    one_more q keys true = omega (arith, count_both mine (says_at q) (all_ticks keys))
    one_more q keys false = omega arith

    no_ticks : (keys : List Key) → AllByRecursion (λ q. is_at (key_cmp k) q ≡ false) keys
        → came (all_ticks keys) ≡ 0
    no_ticks [] all = refl
    no_ticks (q ∷ keys) all =
        omega (
          arith,
          one_more q keys (speaks q),
          other_came q (states q) now None all.0,
          no_ticks keys all.1,
        )

    above : (q : Key) (keys : List Key) → q ≡ k → AllByRecursion (λ y. key_cmp q y ≡ Less) keys
        → AllByRecursion (λ y. is_at (key_cmp k) y ≡ false) keys
    above q [] same all = tt
    above q (y ∷ keys) same all = (
      ap (λ c. is_at (key_cmp c) y) (sym same) ∙ ap is_eq all.0,
      above q keys same all.1,
    )

    pub ticks_once : (keys : List Key) → IsStrictlySortedBy key_cmp keys
        → came (all_ticks keys) ≤ came (says_at k)
    unfolding IsStrictlySortedBy
    ticks_once [] rise = omega arith
    ticks_once (q ∷ keys) rise =
        by_bool (is_at (key_cmp k) q)
        (λ hit.
        let same = sym (exact_at keys_total exact_keys k q hit) in
        omega (
          arith,
          one_more q keys (speaks q),
          no_ticks keys (above q keys same rise.0),
          ap (λ r. came (says_at r)) same,
        ))
        (λ miss. omega (
          arith,
          one_more q keys (speaks q),
          other_came q (states q) now None miss,
          ticks_once keys rise.1,
        ))
