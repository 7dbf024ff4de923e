-- A tick, and the first moment at which one is due: the rules say the same as the steps.
use Rattle.std.proofs.Common.{◌≡◌, ℕ, not, ◌&&◌, ◌||◌, ◌==◌, Bool, true, false, cond, List, [], ◌∷◌, ◌++◌, map, min, refl, sym, ap, ◌∙◌, arith}
use Rattle.std.specs.Prelude.{Option, None, Some, filter, fold}
use Rattle.std.specs.List.{flat_map, list_any}
use Rattle.std.specs.Option.{option_and_then}
use Rattle.sip_reliable.specs.declared.tick.Tick.TheVariants as tick
use Rattle.sip_reliable.specs.Ledger.{Ledger, due_numbers, first_moment}
use Rattle.sip_reliable.specs.Provisional.{Provisional, after_repeat, due_moment, is_late, is_repeated, sent_again}
use Rattle.sip_timers.specs.Earlier.{earlier}
use Rattle.sip_transactions.specs.declared.input.Command.TheVariants.{Answer}
use Rattle.sip_user.specs.declared.item.CallOut.{CallOut}
use Rattle.sip_user.specs.declared.item.CallOut.TheVariants.{Command}
use Rattle.sip_served.specs.declared.held_request.HeldRequest.{HeldRequest}
use Rattle.sip_served.specs.declared.held_request.Success.{Success}
use Rattle.sip_served.specs.declared.provisionals.ReliableResponse.{ReliableResponse}
use Rattle.sip_served.specs.declared.retransmissions.SuccessDue.TheVariants as repeat
use Rattle.sip_served.specs.RequestLife.{went_on}
use Rattle.sip_served.specs.Rules.Ticks.{server_due, provisionals_tick, success_tick, server_tick}
use Rattle.sip_served.specs.State.{State}
use Rattle.sip_served.specs.Tick.{Ticked, is_kept_at, next_server_due, provisionals_by, provisionals_ticked, request_due, request_ticked, success_at_tick, success_goes, success_moment, success_told, tick_taken}

-- ---- the first moment

earlier_none : (a : Option ℕ) → earlier a None ≡ a
earlier_none None = refl
earlier_none (Some x) = refl

earlier_both : (a b : Option ℕ) → earlier a b ≡ earlier b a
earlier_both None None = refl
earlier_both None (Some y) = refl
earlier_both (Some x) None = refl
earlier_both (Some x) (Some y) = let e : min x y ≡ min y x = omega arith in ap Some e

earlier_all : (a b c : Option ℕ) → earlier (earlier a b) c ≡ earlier a (earlier b c)
earlier_all None b c = refl
earlier_all (Some x) None c = refl
earlier_all (Some x) (Some y) None = refl
earlier_all (Some x) (Some y) (Some z) =
    let e : min (min x y) z ≡ min x (min y z) = omega arith in ap Some e

fold_from : (a : Option ℕ) (xs : List (Option ℕ))
    → fold earlier a xs ≡ earlier a (fold earlier None xs)
fold_from a [] = sym (earlier_none a)
fold_from a (x ∷ xs) =
    fold_from (earlier a x) xs ∙ earlier_all a x (fold earlier None xs)
    ∙ ap (earlier a) (sym (fold_from x xs))

fold_append : (a : Option ℕ) (xs ys : List (Option ℕ))
    → fold earlier a (xs ++ ys) ≡ fold earlier (fold earlier a xs) ys
fold_append a [] ys = refl
fold_append a (x ∷ xs) ys = fold_append (earlier a x) xs ys

fold_read : {X : Type 0} (f : X → Option ℕ) (a : Option ℕ) (xs : List X)
    → fold earlier a (map f xs) ≡ fold (λ due x. earlier due (f x)) a xs
fold_read f a [] = refl
fold_read f a (x ∷ xs) = fold_read f (earlier a (f x)) xs

waiting_first : (closed : Bool) (waiting : List Provisional)
    → fold earlier None (cond closed [] (map due_moment waiting))
    ≡ cond closed None (first_moment waiting)
waiting_first true waiting = refl
waiting_first false waiting = fold_read due_moment None waiting

moments_first : (removal success : Option ℕ) (waiting : List (Option ℕ))
    → fold earlier (earlier removal success) waiting
    ≡ earlier (earlier success (fold earlier None waiting)) removal
moments_first removal success waiting =
    fold_from (earlier removal success) waiting
    ∙ earlier_all removal success (fold earlier None waiting)
    ∙ earlier_both removal (earlier success (fold earlier None waiting))

abbrev moments_of : HeldRequest → List (Option ℕ)
moments_of held =
    held.removal ∷ option_and_then success_moment held.success
    ∷ cond held.ledger.closed [] (map due_moment held.ledger.waiting)

request_first : (held : HeldRequest) → fold earlier None (moments_of held) ≡ request_due held
request_first held =
    let success = option_and_then success_moment held.success in
    let waiting = held.ledger.waiting in
    moments_first held.removal success (cond held.ledger.closed [] (map due_moment waiting))
    ∙ ap (λ o. earlier (earlier success o) held.removal)
    (waiting_first held.ledger.closed waiting)

due_from : (a : Option ℕ) (requests : List HeldRequest)
    → fold earlier a (flat_map moments_of requests)
    ≡ fold (λ due held. earlier due (request_due held)) a requests
due_from a [] = refl
due_from a (held ∷ requests) =
    fold_append a (moments_of held) (flat_map moments_of requests)
    ∙ ap (λ o. fold earlier o (flat_map moments_of requests))
    (fold_from a (moments_of held) ∙ ap (earlier a) (request_first held))
    ∙ due_from (earlier a (request_due held)) requests

pub due_same : (state : State) → server_due state ≡ next_server_due state
unfolding server_due
due_same state = due_from None state.requests

-- ---- the 2xx of a request

by_success : {A B C : Type 0} (f : A → C) (g : B → C) (over end due : Bool)
    (nothing given_up again : A) (same gone sent : B) → f nothing ≡ g same → f given_up ≡ g gone
    → f again ≡ g sent
    → f (cond over nothing (cond end given_up (cond due again nothing)))
    ≡ g (cond (not over && end) gone (cond (not over && due) sent same))
by_success f g true end due nothing given_up again same gone sent p q r = p
by_success f g false true due nothing given_up again same gone sent p q r = q
by_success f g false false true nothing given_up again same gone sent p q r = r
by_success f g false false false nothing given_up again same gone sent p q r = p

module _ (now : ℕ) (held : HeldRequest) where
  abbrev with_success : Option Success → HeldRequest
  with_success success = record held { success = success }

  abbrev left : Option Success × List CallOut → Ticked
  left after = (with_success after.0, after.1)

  success_same : (o : Option Success)
      → success_at_tick now (with_success o) o ≡ left (success_tick now (with_success o))
  success_same None = refl
  success_same (Some success) =
      by_success (λ due. (
        went_on (success_goes due now) (with_success (Some success)),
        success_told due (with_success (Some success)) success.response,
      )) left _ _ _
      repeat.Nothing repeat.GivenUp repeat.Again _ _ _ refl refl refl

-- ---- the reliable provisional responses of a request

neither : (a b : Bool) → (a || b) ≡ false → (a ≡ false) × (b ≡ false)
neither true b e = absurd cc
neither false b e = (refl, e)

none_repeated : (now : ℕ) (waiting : List Provisional)
    → list_any (is_repeated now) waiting ≡ false
    → (due_numbers now waiting ≡ []) × (map (after_repeat now) waiting ≡ waiting)
none_repeated now [] none = (refl, refl)
none_repeated now (p ∷ ps) none =
    let parts = neither (is_repeated now p) (list_any (is_repeated now) ps) none in
    let rest = none_repeated now ps parts.1 in (
      ap (λ b. map (λ (one : Provisional). one.number) (cond b (p ∷ filter (is_repeated now) ps)
          (filter (is_repeated now) ps))) parts.0 ∙ rest.0,
      λ i. cond (parts.0 i) (sent_again now p) p ∷ rest.1 i,
    )

none_kept : (responses : List ReliableResponse) → filter (λ _. false) responses ≡ []
none_kept [] = refl
none_kept (one ∷ responses) = none_kept responses

by_tick : {A B C : Type 0} (f : A → C) (g : B → C) (closed late due : Bool)
    (nothing given_up again : A) (same gone sent : B) → f nothing ≡ g same → f given_up ≡ g gone
    → (due ≡ true → f again ≡ g sent) → (due ≡ false → f nothing ≡ g sent)
    → f (cond closed nothing (cond late given_up (cond due again nothing)))
    ≡ g (cond closed same (cond late gone sent))
by_tick f g true late due nothing given_up again same gone sent p q r s = p
by_tick f g false true due nothing given_up again same gone sent p q r s = q
by_tick f g false false true nothing given_up again same gone sent p q r s = r refl
by_tick f g false false false nothing given_up again same gone sent p q r s = s refl

module _ (now : ℕ) (held : HeldRequest) (success : Option Success) where
  abbrev with_both : Ledger × List CallOut → Ticked
  with_both after = (record held { ledger = after.0; success = success }, after.1)

  -- if none is due, nothing changes and nothing is sent
  none_sent : list_any (is_repeated now) held.ledger.waiting ≡ false
      → (record held { success = success }, []) ≡ with_both (
        record (held.ledger) { waiting = map (after_repeat now) held.ledger.waiting },
        map (λ one. Command held.id (Answer held.key one.response))
            (filter (λ one. list_any (λ number. one.number == number)
            (due_numbers now held.ledger.waiting)) held.provisionals),
      )
  none_sent none =
      let parts = none_repeated now held.ledger.waiting none in
      λ i. with_both (
        record (held.ledger) { waiting = sym parts.1 i },
        map (λ one. Command held.id (Answer held.key one.response)) (nothing i),
      )
    where
      nothing : [] ≡ filter (λ one. list_any (λ number. one.number == number)
          (due_numbers now held.ledger.waiting)) held.provisionals
      nothing =
          sym (none_kept held.provisionals)
          ∙ (λ i. filter (λ one. list_any (λ number. one.number == number)
          (sym (none_repeated now held.ledger.waiting none).0 i)) held.provisionals)

  provisionals_same : provisionals_ticked now (record held { success = success })
      ≡ with_both (provisionals_tick now held)
  provisionals_same =
      let ledger : Ledger = held.ledger in
      by_tick (λ answer. provisionals_by answer now (record held { success = success })) with_both
      ledger.closed (list_any (is_late now) ledger.waiting)
      (list_any (is_repeated now) ledger.waiting)
      tick.Nothing tick.GivenUp _ _ _ _ refl refl (λ due. refl) none_sent

-- ---- all of it

request_same : (now : ℕ) (held : HeldRequest) → request_ticked now held
    ≡ (
      record held {
        ledger = (provisionals_tick now held).0;
        success = (success_tick now held).0;
      },
      (success_tick now held).1 ++ (provisionals_tick now held).1,
    )
request_same now held =
    ap (λ first. (
      (provisionals_ticked now first.0).0,
      first.1 ++ (provisionals_ticked now first.0).1,
    )) (success_same now held held.success)
    ∙ ap (λ second. (second.0, (success_tick now held).1 ++ second.1))
    (provisionals_same now held (success_tick now held).0)

pub tick_same : (state : State) (now : ℕ) → server_tick state now ≡ tick_taken state now
unfolding server_tick
tick_same state now = λ i. (
  record state {
    requests = filter (is_kept_at now)
        (map (λ held. (sym (request_same now held) i).0) state.requests);
  },
  flat_map (λ held. (sym (request_same now held) i).1) state.requests,
)
