-- The events that were collected, and why a line isn't settled.
use Rattle.std.specs.Prelude.{◌≡◌, ◌≢◌, ℕ, ◌<◌, List, [], ◌++◌, length}
use Rattle.sip_desk.specs.declared.ended.Ended.{Ended}
use Rattle.sip_desk.specs.declared.desk.Desk.{Desk}
use Rattle.sip_desk.specs.declared.settle_fault.SettleFault.{SettleFault}
use Rattle.sip_desk.specs.declared.settle_fault.SettleFault.TheVariants.{WrongLine, NotDrained}
use Rattle.sip_desk.specs.Merge.{IsMerge}
use Rattle.sip_desk.specs.Lines.{taken, seen, all_posted, Gives}

module _ {E : Type 0} where
  -- the events are a merge of the parts that the lines gave
  abbrev pub Collects : Desk E → Desk E → List E → Type 0
  Collects old new events =
      (parts : ℕ → List E) × IsMerge parts events × ((line : ℕ) → Gives old new line (parts line))

  -- nothing is left that was seen
  abbrev pub IsDry : Desk E → Type 0
  IsDry desk = (line : ℕ) → seen desk line ≡ []

  -- the events collected were put behind those gathered before
  abbrev pub Gathers : Desk E → Desk E → List E → List E → Type 0
  Gathers old new before after =
      (events : List E) × (after ≡ before ++ events) × Collects old new events

  -- why the end doesn't settle the line with this number: it belongs to another line, or events are
  -- left on the line
  abbrev pub Because : Desk E → ℕ → Ended E → SettleFault → Type 0
  Because desk line ended WrongLine = ended.line ≢ line
  Because desk line ended NotDrained =
      (ended.line ≡ line) × (left : List E) × (0 < length left)
      × (all_posted ended ≡ taken desk line ++ left)
