-- What each datagram of a carried conversation is.
use Rattle.std.proofs.Common.{◌≡◌, Bool, true, false, cond, List, [], ◌∷◌, ◌++◌, map, refl, sym, subst, append_assoc}
use Rattle.std.specs.Prelude.{Contains, filter}
use Rattle.std.specs.List.{AllByRecursion}
use Rattle.sip_round.specs.declared.config.Config.{Config}
use Rattle.sip_round.specs.declared.output.Output.TheVariants.{Send}
use Rattle.sip_round.specs.declared.round.Event.{Event}
use Rattle.sip_round.specs.declared.round.Event.TheVariants.{Command, Datagram, Failed}
use Rattle.sip_round.specs.declared.round.Round.{Round}
use Rattle.sip_round.specs.Answers.{answers}
use Rattle.sip_round.specs.Given.{all_given}
use Rattle.sip_conversation.specs.Conversation.{CarriedAfter, IsCarried, Side, Turn, is_side, peer, rounds_of}
use Rattle.sip_conversation.specs.Conversation as side
use Rattle.sip_conversation.proofs.Among.{all_go}
use Rattle.sip_conversation.proofs.Longer.{given_longer, rounds_of-append}

-- this is true of each event, at its side
abbrev pub TurnHolds : (Side → Event → Type 0) → Turn → Type 0
TurnHolds Holds turn = AllByRecursion (Holds turn.side) (turn.round).events

pub each_turn : {P Q : Side → Event → Type 0} → ((s : Side) (e : Event) → P s e → Q s e)
    → (turns : List Turn) → AllByRecursion (TurnHolds P) turns → AllByRecursion (TurnHolds Q) turns
each_turn {P} {Q} goes turns all =
    all_go {P = TurnHolds P} {Q = TurnHolds Q}
    (λ turn holds. all_go {P = P turn.side} {Q = Q turn.side} (goes turn.side) (turn.round).events
    holds) turns all

-- ---- the events of one side

same_side : (s t : Side) → is_side s t ≡ true → t ≡ s
same_side side.One side.One is = refl
same_side side.One side.Other is = absurd cc
same_side side.Other side.One is = absurd cc
same_side side.Other side.Other is = refl

module _ (Holds : Side → Event → Type 0) (s : Side) where
  abbrev RoundHolds : Round → Type 0
  RoundHolds round = AllByRecursion (Holds s) round.events

  one_round : (own : Bool) (turn : Turn) (kept : List Turn) → is_side s turn.side ≡ own
      → TurnHolds Holds turn → AllByRecursion RoundHolds (map (λ t. t.round) kept)
      → AllByRecursion RoundHolds (map (λ t. t.round) (cond own (turn ∷ kept) kept))
  one_round true turn kept is here rest = (
    subst (λ t. AllByRecursion (Holds t) (turn.round).events) (same_side s turn.side is) here,
    rest,
  )
  one_round false turn kept is here rest = rest

  -- what is true of each event in each turn is true of each event in each round of a side
  pub in_rounds : (turns : List Turn) → AllByRecursion (TurnHolds Holds) turns
      → AllByRecursion RoundHolds (rounds_of s turns)
  in_rounds [] all = tt
  in_rounds (turn ∷ turns) all =
      one_round (is_side s turn.side) turn (filter (λ t. is_side s t.side) turns) refl all.0
      (in_rounds turns all.1)

-- ---- what is carried

module _ (configs : Side → Config) where
  carried_longer : (before more : List Turn) (s : Side) (e : Event) → IsCarried configs before s e
      → IsCarried configs (before ++ more) s e
  carried_longer before more s (Datagram from bytes) carried =
      let sent = Send (carried.1).0 (carried.1).1 bytes in (
        carried.0,
        (
          (carried.1).0,
          (carried.1).1,
          subst (λ rounds. Contains (all_given (answers (configs (peer s)) rounds)) sent)
              (sym (rounds_of-append (peer s) before more))
              (given_longer (configs (peer s)) (rounds_of (peer s) before)
              (rounds_of (peer s) more) sent (carried.1).2),
        ),
      )
  carried_longer before more s (Failed key) carried = tt
  carried_longer before more s (Command command) carried = tt

  -- so each event is carried by what is sent in all the turns
  pub all_carried : (before turns : List Turn) → CarriedAfter configs before turns
      → AllByRecursion (TurnHolds (IsCarried configs (before ++ turns))) turns
  all_carried before [] carried = tt
  all_carried before (turn ∷ turns) carried = (
    all_go {P = IsCarried configs before turn.side}
        {Q = IsCarried configs (before ++ turn ∷ turns) turn.side}
        (carried_longer before (turn ∷ turns) turn.side) (turn.round).events carried.0,
    subst (λ all. AllByRecursion (TurnHolds (IsCarried configs all)) turns)
        (append_assoc before (turn ∷ []) turns)
        (all_carried (before ++ turn ∷ []) turns carried.1),
  )
