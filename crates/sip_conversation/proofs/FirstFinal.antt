-- The round in which a transaction is given its first final response: by a call, and so after the
-- requests that come to the transaction in that round.
use Rattle.std.proofs.Common.{◌≡◌, ℕ, ◌+◌, ◌≤◌, Bool, true, false, ◌||◌, List, [], ◌∷◌, ◌++◌, length, refl, sym, ap, ◌∙◌, subst, arith, append-nil, append_assoc}
use Rattle.std.specs.Prelude.{Contains, Option, None, Some}
use Rattle.std.specs.List.{AllByRecursion, list_any}
use Rattle.std.proofs.lemmas.Bool.{false≢true}
use Rattle.std.proofs.lemmas.List.Elements.{Contains-append_left, Contains-append_right}
use Rattle.std.proofs.lemmas.List.Folds.{list_any-append}
use Rattle.sip_message.specs.declared.id.Id.{Id}
use Rattle.sip_message.specs.declared.key.Key.{Key}
use Rattle.sip_message.specs.declared.message.Message.{Message}
use Rattle.keyed_machine.specs.Machine.{Timed, given_at, tick_at}
use Rattle.keyed_machine.specs.Phase.{own_inputs}
use Rattle.keyed_machine.proofs.Ordered.{by_bool}
use Rattle.sip_message.specs.Key.{key_cmp}
use Rattle.sip_transactions.specs.declared.input.Command.TheVariants as order
use Rattle.sip_transactions.specs.declared.input.Input.{Input}
use Rattle.sip_transactions.specs.declared.input.Input.TheVariants.{Abandon, Answer, Failed, Receive, Start}
use Rattle.sip_transactions.specs.ServerLaws.{is_final_answer}
use Rattle.sip_transactions.specs.Steps.Input.{answer_of}
use Rattle.sip_user.specs.declared.item.CallOut.{CallOut}
use Rattle.sip_user.specs.declared.item.CallOut.TheVariants as call_out
use Rattle.sip_round.specs.declared.config.Config.{Config}
use Rattle.sip_round.specs.declared.round.Round.{Round}
use Rattle.sip_round.specs.Answers.{Past, first, given_second, no_past, past_from, past_of, third}
use Rattle.sip_round.specs.Arrivals.{arrival_of}
use Rattle.sip_round.specs.Laws.{inputs_of}
use Rattle.sip_conversation.specs.AnswersArrive.{IsFinallyAnswered, is_final_given, is_receipt}
use Rattle.sip_conversation.proofs.Among.{all_of, among_first, each_of}
use Rattle.sip_conversation.proofs.AnsweringServer.{comes, gives_final}
use Rattle.sip_conversation.proofs.AnswersArrive.{none_of}
use Rattle.sip_conversation.proofs.Bridge.{any_arrival}
use Rattle.sip_conversation.proofs.OneRequestUp.{Rise}
use Rattle.sip_conversation.proofs.RoundInputs.{inputs-append, inputs_after, inputs_after_at, inputs_at}
use Rattle.sip_conversation.proofs.Rounds.{ArrivalFits, OutFits, TimedFits, first_fits, phase_fits, third_fits}
use Rattle.sip_conversation.proofs.UpTo.{InputBy}

-- ---- lists

-- the first of some elements that passes a test
record FirstHit {X : Type 0} (p : X → Bool) (xs : List X) : Type 0 where
  before : List X
  one : X
  after : List X
  are : xs ≡ before ++ one ∷ after
  none : list_any p before ≡ false
  passes : p one ≡ true

first_hit : {X : Type 0} (p : X → Bool) (xs : List X) → list_any p xs ≡ true → FirstHit p xs
first_hit p [] any = absurd (false≢true any)
first_hit p (x ∷ xs) any =
    by_bool (p x)
    (λ here. record { before = []; one = x; after = xs; are = refl; none = refl; passes = here })
    (λ miss.
    let later = first_hit p xs (sym (ap (λ b. b || list_any p xs) miss) ∙ any) in
    record {
      before = x ∷ later.before;
      one = later.one;
      after = later.after;
      are = ap (λ ys. x ∷ ys) later.are;
      none = ap (λ b. b || list_any p later.before) miss ∙ later.none;
      passes = later.passes;
    })

second_any : {X : Type 0} (p : X → Bool) (xs ys : List X) → list_any p (xs ++ ys) ≡ true
    → list_any p xs ≡ false → list_any p ys ≡ true
second_any p xs ys any none =
    sym (ap (λ b. b || list_any p ys) none) ∙ (sym (list_any-append p xs ys) ∙ any)

both_none : {X : Type 0} (p : X → Bool) (xs ys : List X) → list_any p xs ≡ false
    → list_any p ys ≡ false → list_any p (xs ++ ys) ≡ false
both_none p xs ys one other =
    list_any-append p xs ys ∙ (ap (λ b. b || list_any p ys) one ∙ other)

first_any : {X : Type 0} (p : X → Bool) (xs ys : List X) → list_any p xs ≡ true
    → list_any p (xs ++ ys) ≡ true
first_any p xs ys one = list_any-append p xs ys ∙ ap (λ b. b || list_any p ys) one

-- ---- moments that rise

at_one_moment : (moment : ℕ) (inputs : List (Timed Input))
    → AllByRecursion (λ (timed : Timed Input). timed.moment ≡ moment) inputs → Rise inputs
at_one_moment moment [] at = tt
at_one_moment moment (timed ∷ inputs) at =
    (from_it inputs at.1, at_one_moment moment inputs at.1)
  where
    from_it : (inputs : List (Timed Input))
        → AllByRecursion (λ (later : Timed Input). later.moment ≡ moment) inputs
        → AllByRecursion (λ (later : Timed Input). timed.moment ≤ later.moment) inputs
    from_it [] all = tt
    from_it (later ∷ inputs) all =
        let here = at.0 in let there = all.0 in (omega (arith, here, there), from_it inputs all.1)

rise_both : (moment : ℕ) (xs ys : List (Timed Input)) → Rise xs
    → AllByRecursion (InputBy moment) xs
    → AllByRecursion (λ (timed : Timed Input). timed.moment ≡ moment) ys → Rise (xs ++ ys)
rise_both moment [] ys rise by at = at_one_moment moment ys at
rise_both moment (x ∷ xs) ys rise by at =
    (from_it xs rise.0, rise_both moment xs ys rise.1 by.1 at)
  where
    then_it : (ys : List (Timed Input))
        → AllByRecursion (λ (timed : Timed Input). timed.moment ≡ moment) ys
        → AllByRecursion (λ (later : Timed Input). x.moment ≤ later.moment) ys
    then_it [] all = tt
    then_it (y ∷ ys) all =
        let here = by.0 in let there = all.0 in (omega (arith, here, there), then_it ys all.1)

    from_it : (xs : List (Timed Input))
        → AllByRecursion (λ (later : Timed Input). x.moment ≤ later.moment) xs
        → AllByRecursion (λ (later : Timed Input). x.moment ≤ later.moment) (xs ++ ys)
    from_it [] all = then_it ys at
    from_it (y ∷ xs) all = (all.0, from_it xs all.1)

-- the moments of rounds don't go back
abbrev pub RoundsRise : List Round → Type 0
RoundsRise [] = Unit {0}
RoundsRise (round ∷ rounds) =
    AllByRecursion (λ (later : Round). round.moment ≤ later.moment) rounds × RoundsRise rounds

before_it : (before : List Round) (round : Round) (after : List Round)
    → RoundsRise (before ++ round ∷ after)
    → AllByRecursion (λ (earlier : Round). earlier.moment ≤ round.moment) before
before_it [] round after rise = tt
before_it (one ∷ before) round after rise = (
  each_of (λ (later : Round). one.moment ≤ later.moment) (before ++ round ∷ after) round rise.0
      (Contains-append_right before (round ∷ after) round (among_first round after)),
  before_it before round after rise.1,
)

module _ (config : Config) (key : Key) where
  abbrev given : List Round → List (Timed Input)
  given rounds = inputs_of config rounds key

  -- ---- the moments of the inputs

  rise_from : (rest before : List Round) → RoundsRise (before ++ rest) → Rise (given before)
      → Rise (given (before ++ rest))
  rise_from [] before rise so_far =
      subst (λ rounds. Rise (given rounds)) (sym (append-nil before)) so_far
  rise_from (round ∷ rest) before rise so_far =
      subst (λ rounds. Rise (given rounds)) (append_assoc before (round ∷ []) rest)
      (rise_from rest (before ++ round ∷ [])
      (subst RoundsRise (sym (append_assoc before (round ∷ []) rest)) rise)
      (subst Rise (sym (inputs-append config key before (round ∷ [])))
      (rise_both round.moment (given before) (inputs_after config key before (round ∷ [])) so_far
      (inputs_at config key (λ m. m ≤ round.moment) before (before_it before round rest rise))
      (inputs_after_at config key (λ m. m ≡ round.moment) before (round ∷ []) (refl, tt)))))

  pub inputs_rise : (rounds : List Round) → RoundsRise rounds → Rise (given rounds)
  unfolding past_of
  inputs_rise rounds rise = rise_from rounds [] rise tt

  -- ---- the first round with a final response

  record FirstRound (rounds : List Round) : Type 0 where
    before : List Round
    round : Round
    after : List Round
    are : rounds ≡ before ++ round ∷ after
    none : list_any gives_final (given before) ≡ false
    some : list_any gives_final (given (before ++ round ∷ [])) ≡ true

  first_round : (rest before : List Round) → list_any gives_final (given before) ≡ false
      → list_any gives_final (given (before ++ rest)) ≡ true → FirstRound (before ++ rest)
  first_round [] before none some =
      absurd (false≢true (sym none
      ∙ (ap (λ rounds. list_any gives_final (given rounds)) (sym (append-nil before)) ∙ some)))
  first_round (round ∷ rest) before none some =
      by_bool (list_any gives_final (given (before ++ round ∷ [])))
      (λ here. record {
        before = before;
        round = round;
        after = rest;
        are = refl;
        none = none;
        some = here;
      })
      (λ later. subst FirstRound (append_assoc before (round ∷ []) rest)
      (first_round rest (before ++ round ∷ []) later
      (ap (λ rounds. list_any gives_final (given rounds))
      (append_assoc before (round ∷ []) rest) ∙ some)))

  -- ---- the phases of a round

  module _ (number : ℕ) (past : Past) (round : Round) where
    abbrev of_first : List (Timed Input)
    of_first = own_inputs key_cmp tick_at (first config number past round) key

    abbrev of_third : List (Timed Input)
    of_third = own_inputs key_cmp tick_at (third config number past round) key

    -- what arrives is no response that a call gives
    abbrev NoFinal : Key → Input → Type 0
    NoFinal key i = is_final_given (Some i) ≡ false

    no_final_in : (timed : Timed Input) → TimedFits config NoFinal key timed
        → gives_final timed ≡ false
    no_final_in timed fits = by timed.input fits
      where
        by : (i : Option Input) → TimedFits config NoFinal key (record { moment = 0; input = i })
            → is_final_given i ≡ false
        by None fits = refl
        by (Some i) fits = fits

    no_final_first : list_any gives_final of_first ≡ false
    no_final_first =
        none_of gives_final of_first
        (λ timed among. no_final_in timed
        (each_of (TimedFits config NoFinal key) of_first timed
        (phase_fits config NoFinal key (first config number past round)
        (first_fits config NoFinal key number past round
        (all_of (λ e. (id : Id) → ArrivalFits config NoFinal (arrival_of config.local id e))
        round.events
        (λ e has id. any_arrival config NoFinal (λ id message reply_to. refl) (λ key id. refl) id
        e)))) among))

    -- and what calls give is no request that comes
    abbrev NoReceipt : Key → Input → Type 0
    NoReceipt key i = is_receipt (Some i) ≡ false

    no_receipt_out : (o : CallOut) → OutFits config NoReceipt o
    no_receipt_out (call_out.Notice notice) = tt
    no_receipt_out (call_out.Command id (order.Start key of message to)) = refl
    no_receipt_out (call_out.Command id (order.Answer key message)) = refl
    no_receipt_out (call_out.Command id (order.Abandon key)) = refl
    no_receipt_out (call_out.Direct to bytes) = tt

    no_receipt_in : (timed : Timed Input) → TimedFits config NoReceipt key timed
        → comes timed ≡ false
    no_receipt_in timed fits = by timed.input fits
      where
        by : (i : Option Input) → TimedFits config NoReceipt key (record { moment = 0; input = i })
            → is_receipt i ≡ false
        by None fits = refl
        by (Some i) fits = fits

    no_receipt_third : list_any comes of_third ≡ false
    no_receipt_third =
        none_of comes of_third
        (λ timed among. no_receipt_in timed
        (each_of (TimedFits config NoReceipt key) of_third timed
        (phase_fits config NoReceipt key (third config number past round)
        (third_fits config NoReceipt key number past round
        (all_of (OutFits config NoReceipt) (given_second config number past round)
        (λ o among. no_receipt_out o)))) among))

  -- ---- the first final response

  pub record IsAnswerIn (timed : Timed Input) : Type 0 where
    pub id : Id
    pub message : Message
    pub is : timed.input ≡ Some (Answer id message)
    pub final : is_final_answer (answer_of message.start) ≡ true

  pub an_answer : (timed : Timed Input) → gives_final timed ≡ true → IsAnswerIn timed
  an_answer timed final = by timed.input refl final
    where
      by : (i : Option Input) → timed.input ≡ i → is_final_given i ≡ true → IsAnswerIn timed
      by None is final = absurd (false≢true final)
      by (Some (Receive id message reply_to)) is final = absurd (false≢true final)
      by (Some (Start id call_id message to)) is final = absurd (false≢true final)
      by (Some (Answer id message)) is final =
          record { id = id; message = message; is = is; final = final }
      by (Some (Failed id)) is final = absurd (false≢true final)
      by (Some Abandon) is final = absurd (false≢true final)

  -- in this round of these, the transaction is given its first final response
  pub record IsFirstAnswered (rounds : List Round) : Type 0 where
    pub before : List Round
    pub round : Round
    pub after : List Round
    pub are : rounds ≡ before ++ round ∷ after
    pub id : Id
    pub response : Message
    pub answered : IsFinallyAnswered config before round key id response

  module _ (rounds : List Round) (some : list_any gives_final (given rounds) ≡ true)
      (came : (front rest : List Round) → rounds ≡ front ++ rest
      → list_any gives_final (given front) ≡ true → list_any comes (given front) ≡ true) where
    pub first_answered : IsFirstAnswered rounds
    unfolding past_of
    first_answered =
        let found = first_round rounds [] refl some in
        let before = found.before in
        let round = found.round in
        let number = config.first + length before in
        let past = past_from config config.first no_past before in
        let early = of_first number past round in
        let late = of_third number past round in
        let all_are : given (before ++ round ∷ []) ≡ (given before ++ early) ++ late =
        inputs-append config key before (round ∷ [])
        ∙ (ap (λ rest. given before ++ (early ++ rest)) (append-nil late)
        ∙ sym (append_assoc (given before) early late)) in
        let none_early : list_any gives_final (given before ++ early) ≡ false =
        both_none gives_final (given before) early found.none (no_final_first number past round) in
        let hit = first_hit gives_final late
        (second_any gives_final (given before ++ early) late
        (ap (list_any gives_final) (sym all_are) ∙ found.some) none_early) in
        let answer = an_answer hit.one hit.passes in
        let at : hit.one.moment ≡ round.moment =
        each_of (λ (timed : Timed Input). timed.moment ≡ round.moment)
        (inputs_after config key before (round ∷ [])) hit.one
        (inputs_after_at config key (λ m. m ≡ round.moment) before (round ∷ []) (refl, tt))
        (Contains-append_right early (late ++ []) hit.one
        (Contains-append_left late [] hit.one
        (subst (λ xs. Contains xs hit.one) (sym hit.are)
        (Contains-append_right hit.before (hit.one ∷ hit.after) hit.one
        (among_first hit.one hit.after))))) in
        let one_is : hit.one ≡ given_at round.moment (Answer answer.id answer.message) =
        (λ i. record { moment = at i; input = answer.is i }) in
        let received : list_any comes ((given before ++ early) ++ late) ≡ true =
        ap (list_any comes) (sym all_are)
        ∙ came (before ++ round ∷ []) found.after
        (found.are ∙ sym (append_assoc before (round ∷ []) found.after)) found.some in
        let here : list_any comes (given before ++ early) ≡ true =
        by_bool (list_any comes (given before ++ early)) (λ is. is)
        (λ none. absurd (false≢true (sym (both_none comes (given before ++ early) late none
        (no_receipt_third number past round)) ∙ received))) in
        let assoc : given before ++ (early ++ hit.before) ≡ (given before ++ early) ++ hit.before =
        sym (append_assoc (given before) early hit.before) in
        record {
          before = before;
          round = round;
          after = found.after;
          are = found.are;
          id = answer.id;
          response = answer.message;
          answered = record {
            here = early ++ hit.before;
            later = hit.after;
            inputs_are = all_are ∙ (ap (λ xs. (given before ++ early) ++ xs) hit.are
                ∙ (sym (append_assoc (given before ++ early) hit.before (hit.one ∷ hit.after))
                ∙ ((λ i. sym assoc i ++ hit.one ∷ hit.after)
                ∙ ap (λ one. (given before ++ (early ++ hit.before)) ++ one ∷ hit.after) one_is)));
            came = ap (list_any comes) assoc
                ∙ first_any comes (given before ++ early) hit.before here;
            first = ap (list_any gives_final) assoc
                ∙ both_none gives_final (given before ++ early) hit.before none_early hit.none;
            final = answer.final;
          };
        }
