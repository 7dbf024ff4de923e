-- The lines of one event, as they stand in a session file.
use Rattle.std.specs.Prelude.{ℕ, ◌≤◌, ◌^◌, List, [], ◌∷◌, ◌++◌, codes, length}
use Rattle.sip_files.specs.EventFile.{SpellsSession}
use Rattle.sip_round.specs.declared.config.Config.{Config}
use Rattle.sip_round.specs.declared.round.Event.{Event}
use Rattle.sip_round.specs.declared.round.Round.{Round}

-- a session with one round, which has these lines
unfoldable pub session_with : List ℕ → List ℕ
session_with lines =
    codes "sip-session 1\nlocal 127.0.0.1:5060\nround 0\n" ++ lines ++ codes "\n"

-- a round with one event
abbrev pub round_of : Event → Round
round_of event = record { moment = 0; events = event ∷ [] }

-- the lines are one event's, namely this one's
pub record SpellsLines (lines : List ℕ) (event : Event) : Type 0 where
  pub config : Config
  pub spelled : SpellsSession config (round_of event ∷ []) (session_with lines)
  pub size : length (session_with lines) ≤ 2 ^ 26
