-- A conversation of two agents, over a network that loses, duplicates, delays, reorders and
-- misdirects datagrams.
use Rattle.std.specs.Prelude.{◌≡◌, ℕ, Bool, true, false, List, [], ◌∷◌, ◌++◌, Contains, Option, filter, map}
use Rattle.std.specs.List.{AllByRecursion}
use Rattle.sip_message.specs.declared.addr.Addr.{Addr}
use Rattle.sip_message.specs.declared.key.Key.{Key}
use Rattle.sip_round.specs.declared.config.Config.{Config}
use Rattle.sip_round.specs.declared.output.Output.{Output}
use Rattle.sip_round.specs.declared.output.Output.TheVariants.{Send}
use Rattle.sip_round.specs.declared.round.Event.{Event}
use Rattle.sip_round.specs.declared.round.Event.TheVariants.{Command, Datagram, Failed}
use Rattle.sip_round.specs.declared.round.Round.{Round}
use Rattle.sip_round.specs.Answers.{answers}
use Rattle.sip_round.specs.Given.{all_given}

-- the two sides
pub data Side : Type 0 where
  One : Side
  Other : Side

-- the other side
abbrev pub peer : Side → Side
peer One = Other
peer Other = One

-- whether it is this side
abbrev pub is_side : Side → Side → Bool
is_side One One = true
is_side One Other = false
is_side Other One = false
is_side Other Other = true

-- what belongs to each side
abbrev pub of_sides : {X : Type 0} → X → X → Side → X
of_sides one other One = one
of_sides one other Other = other

-- a round of one side
pub record Turn : Type 0 where
  pub side : Side
  pub round : Round

-- the rounds of a side among turns, in order
abbrev pub rounds_of : Side → List Turn → List Round
rounds_of side turns =
    map (λ turn. turn.round) (filter (λ turn. is_side side turn.side) turns)

-- in these rounds an agent sent these bytes: a Send of them is among its outputs; the laws don't
-- ask to which address
abbrev pub AgentSends : Config → List Round → List ℕ → Type 0
AgentSends config rounds bytes = (key : Option Key) × (to : Addr)
    × Contains (all_given (answers config rounds)) (Send key to bytes)

module _ (configs : Side → Config) where
  -- all that a side gives in its rounds, in order
  abbrev pub given_by : List Turn → Side → List Output
  given_by turns side = all_given (answers (configs side) (rounds_of side turns))

  -- in these turns the other side sent these bytes
  abbrev pub WasSent : List Turn → Side → List ℕ → Type 0
  WasSent turns side = AgentSends (configs (peer side)) (rounds_of (peer side) turns)

  -- A datagram comes from the other side's address, and was sent from there in these turns. For a
  -- failed send and a command nothing is required.
  abbrev pub IsCarried : List Turn → Side → Event → Type 0
  IsCarried turns side (Datagram from bytes) =
      (from ≡ (configs (peer side)).local) × WasSent turns side bytes
  IsCarried turns side (Failed key) = Unit {0}
  IsCarried turns side (Command command) = Unit {0}

  -- each datagram of these turns was sent in a turn before its own, which is one of these or one of
  -- those before them
  abbrev pub CarriedAfter : List Turn → List Turn → Type 0
  CarriedAfter before [] = Unit {0}
  CarriedAfter before (turn ∷ turns) =
      AllByRecursion (IsCarried before turn.side) (turn.round).events
      × CarriedAfter (before ++ turn ∷ []) turns

  -- Each datagram of each turn was sent in an earlier one. A datagram that was sent may be lost,
  -- duplicated, late, or out of order.
  abbrev pub Carried : List Turn → Type 0
  Carried turns = CarriedAfter [] turns
