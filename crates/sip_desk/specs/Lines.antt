-- Lines from posters to a desk: what was posted on each, what was taken from it, and the steps of
-- the rule of a line.
use Rattle.std.specs.Prelude.{◌≡◌, ℕ, List, [], ◌∷◌, ◌++◌, length, IsSomeAnd, Some, slice_get}
use Rattle.std.specs.Option.{option_map_or}
use mathlib.Core.List.{IsPrefix}
use Rattle.rtrb.specs.Ring.{sent, received, known_items, all_sent, producer_capacity, IsPair, IsFinishedOf}
use Rattle.sip_desk.specs.declared.poster.Poster.{Poster}
use Rattle.sip_desk.specs.declared.ended.Ended.{Ended}
use Rattle.sip_desk.specs.declared.desk.Desk.{Desk}
use Rattle.sip_desk.specs.Merge.{part_of}

module _ {E : Type 0} where
  -- the events for which `post` answered Ok, in order
  abbrev pub posted : Poster E → List E
  posted poster = sent poster.ring

  -- how many events the line has room for
  abbrev pub capacity_of : Poster E → ℕ
  capacity_of poster = producer_capacity poster.ring

  -- all that was posted on a line that has ended
  abbrev pub all_posted : Ended E → List E
  all_posted ended = all_sent ended.ring

  -- how many lines there are; they are numbered from 0 on
  abbrev pub line_count : Desk E → ℕ
  line_count desk = length desk.lines.items

  -- the events that were collected from the line with this number, in order
  abbrev pub taken : Desk E → ℕ → List E
  taken desk line = option_map_or received (slice_get desk.lines.items line) []

  -- the events that the desk has seen on the line with this number and hasn't collected yet
  abbrev pub seen : Desk E → ℕ → List E
  seen desk line = option_map_or known_items (slice_get desk.lines.items line) []

  -- ---- which ends belong to one line

  -- the poster belongs to a line of the desk
  abbrev pub IsPosterOf : Desk E → Poster E → Type 0
  IsPosterOf desk poster =
      IsSomeAnd (slice_get desk.lines.items poster.line) (λ line. IsPair poster.ring line)

  -- the end belongs to a line of the desk
  abbrev pub IsEndOf : Desk E → Ended E → Type 0
  IsEndOf desk ended =
      IsSomeAnd (slice_get desk.lines.items ended.line) (λ line. IsFinishedOf ended.ring line)

  -- the poster still belongs to its line
  pub record SameLine (old new : Poster E) : Type 0 where
    pub number : new.line ≡ old.line
    pub capacity : capacity_of new ≡ capacity_of old
    pub of_desk : (desk : Desk E) → IsPosterOf desk old → IsPosterOf desk new

  -- the end belongs to the poster's line
  pub record IsEndOfLine (poster : Poster E) (ended : Ended E) : Type 0 where
    pub number : ended.line ≡ poster.line
    pub of_desk : (desk : Desk E) → IsPosterOf desk poster → IsEndOf desk ended

  -- the end still belongs to its line, and what was posted on the line is the same
  abbrev pub SameEnd : Ended E → Ended E → Type 0
  SameEnd old new = (new.line ≡ old.line) × (all_posted new ≡ all_posted old)

  -- the desk has the same lines, so posters and ends of its lines still belong to them
  pub record KeepsLines (old new : Desk E) : Type 0 where
    pub count : line_count new ≡ line_count old
    pub posters : (poster : Poster E) → IsPosterOf old poster → IsPosterOf new poster
    pub ends : (ended : Ended E) → IsEndOf old ended → IsEndOf new ended

  -- ---- the steps of a line: made, push, pop, finish

  -- nothing was posted on the lines or taken from them, and the posters are those of the lines, in
  -- order
  pub record IsOpened (desk : Desk E) (posters : List (Poster E))
      (lines capacity : ℕ) : Type 0 where
    pub count : line_count desk ≡ lines
    pub each : length posters ≡ lines
    pub untaken : (line : ℕ) → taken desk line ≡ []
    pub made : (line : ℕ) (poster : Poster E) → slice_get posters line ≡ Some poster
        → (poster.line ≡ line) × IsPosterOf desk poster × (posted poster ≡ [])
        × (capacity_of poster ≡ capacity)

  -- the event is the next one posted
  abbrev pub Pushes : Poster E → Poster E → E → Type 0
  Pushes old new event = posted new ≡ posted old ++ event ∷ []

  -- the line gives this part; what was seen on it comes first
  abbrev pub Gives : Desk E → Desk E → ℕ → List E → Type 0
  Gives old new line part =
      (taken new line ≡ taken old line ++ part) × IsPrefix (seen old line) (part ++ seen new line)

  -- the event is the next one taken from the line, and no other line gives one
  abbrev pub Pops : Desk E → Desk E → ℕ → E → Type 0
  Pops old new line event = (other : ℕ) → Gives old new other (part_of other ((line, event) ∷ []))

  -- no line gives an event, but more may be seen
  abbrev pub TakesNothing : Desk E → Desk E → Type 0
  TakesNothing old new =
      (line : ℕ) → (taken new line ≡ taken old line) × IsPrefix (seen old line) (seen new line)

  -- the end shows exactly what the poster had posted
  abbrev pub IsFinal : Poster E → Ended E → Type 0
  IsFinal poster ended = all_posted ended ≡ posted poster
